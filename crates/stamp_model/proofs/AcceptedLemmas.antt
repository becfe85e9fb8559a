-- Requests in turn, each judged by its own key pair, one container at a time.
use Rattle.std.proofs.Common.{◌≡◌, ◌≤◌, ◌⊎◌, inl, inr, ℕ, Bool, true, false, cond, ◌&&◌, List, [], ◌∷◌, ◌++◌, Option, Some, None, map, is_some, refl, sym, ap, ◌∙◌, subst}
use Rattle.std.proofs.lemmas.Bool.{and_parts}
use Rattle.std.proofs.lemmas.List.{append-nil, append_assoc}
use Rattle.std.specs.Cmp.{eq_by_cmp_equiv}
use Rattle.std.specs.Ordering.{eq_by_cmp}
use Rattle.stamp_values.specs.Order.{key_cmp, keys_total, keys_exact}
use Rattle.stamp_values.specs.declared.key.Key.{Key}
use Rattle.stamp_types.specs.declared.past.Past.{Past}
use Rattle.stamp_types.specs.declared.refusal.Refusal.{Refusal}
use Rattle.stamp_types.specs.Changes.{KeyedAct}
use Rattle.stamp_types.specs.Pieces.{held}
use Rattle.stamp_types.specs.World.{Part, World, part_at}
use Rattle.stamp_types.proofs.WorldLemmas.{equal_if_is_eq}
use Rattle.access_rules.specs.declared.keys.Keys.{Keys}
use Rattle.range_rows.specs.SentContent.{byte_count, sizes}
use Rattle.range_rows.specs.RequestChanges.{change_of, part_after}
use Rattle.stamp_model.specs.Effects.{accepted, unless_refused}
use Rattle.stamp_model.specs.Histories.{IsAccepted, IsEntryAfter, IsLegalFrom, after_entry, pair_of, replay_from}
use Rattle.stamp_model.specs.Refusals.{refusal}
use Rattle.stamp_model.specs.AcceptedRequests.{EpochsRise, IsChange, accepted_at, changes_at, is_on, timed_by}
use Rattle.stamp_model.specs.Runs.{Timed, part_after_one, part_after_all, world_after_one, world_after_all}
use Rattle.stamp_model.proofs.CountLemmas.{IsLegalFrom-rest}
use Rattle.stamp_model.proofs.EffectLemmas.{part_at-effect, part_at-effect_others}
use Rattle.stamp_model.proofs.HistoryLemmas.{IsLegalFrom-append, IsLegalFrom-nil, last_or_before, replay_from-append}

-- ---- one request

-- a key is the key of another value if it ties with it
tied : (k j : Key) → eq_by_cmp key_cmp k j ≡ true → k ≡ j
tied k j e = keys_exact k j (equal_if_is_eq (key_cmp k j) e)

untied : (k j : Key) → eq_by_cmp key_cmp k j ≡ false → k ≡ j → ⊥
untied k j e same = let never : true ≡ false = sym ((eq_by_cmp_equiv keys_total).refl j) ∙ ap (λ (x : Key). eq_by_cmp key_cmp x j) (sym same) ∙ e in cc

by_accepted : (o : Option KeyedAct) (p : Part (List ℕ)) → part_after held o p ≡ cond (is_some o) (part_after held o p) p
by_accepted None p = refl
by_accepted (Some c) p = refl

module _ (w : World (List ℕ)) (r : Timed) (key : Key) where
  abbrev own : Key
  own = r.request.ask.key

  abbrev found : Option KeyedAct
  found = accepted r.keys (sizes (part_at w own)) r.request r.moment

  abbrev After : Key → Bool → Type 0
  After k b = part_at (world_after_one w r) k ≡ cond (b && is_some found) (part_after_one (part_at w k) r) (part_at w k)

  at_own : After own true
  at_own = part_at-effect byte_count held r.keys w r.request r.moment ∙ by_accepted found (part_at w own)

  by_key : (b : Bool) → is_on key r.request ≡ b → After key b
  by_key true e = subst (λ (k : Key). After k true) (sym (tied key own e)) at_own
  by_key false e = part_at-effect_others byte_count held r.keys w r.request r.moment key (untied key own e)

  -- a container after a request: changed, if the request changes it, or else as it was
  pub part_at-one : part_at (world_after_one w r) key ≡ cond (changes_at key w r) (part_after_one (part_at w key) r) (part_at w key)
  part_at-one = by_key (is_on key r.request) refl

  -- a request that changes the container is on it, and is accepted there
  pub IsChange-changes : changes_at key w r ≡ true → IsChange key (part_at w key) r
  IsChange-changes changes =
      let both = and_parts (is_on key r.request) (is_some found) changes in
      let same = tied key own both.0 in
      record {
        own = sym same;
        changes = ap (λ (k : Key). is_some (accepted r.keys (sizes (part_at w k)) r.request r.moment)) same ∙ both.1;
      }

  -- a request that is on the container, and is accepted there, changes it
  pub changes-IsChange : IsChange key (part_at w key) r → changes_at key w r ≡ true
  changes-IsChange c =
      ap (λ (k : Key). eq_by_cmp key_cmp k own && is_some found) (sym c.own)
      ∙ ap (λ (b : Bool). b && is_some found) ((eq_by_cmp_equiv keys_total).refl own)
      ∙ ap (λ (k : Key). is_some (accepted r.keys (sizes (part_at w k)) r.request r.moment)) c.own ∙ c.changes

-- ---- requests in turn

next_by : (b : Bool) (p : Part (List ℕ)) (r : Timed) (rs : List Timed) → part_after_all (cond b (part_after_one p r) p) rs ≡ part_after_all p (cond b (r ∷ rs) rs)
next_by true p r rs = refl
next_by false p r rs = refl

-- a container after requests in turn is what those that change it make of it
pub part_at-run : (key : Key) (rs : List Timed) (w : World (List ℕ)) → part_at (world_after_all w rs) key ≡ part_after_all (part_at w key) (accepted_at key w rs)
part_at-run key [] w = refl
part_at-run key (r ∷ rs) w =
    part_at-run key rs (world_after_one w r)
    ∙ ap (λ (p : Part (List ℕ)). part_after_all p (accepted_at key (world_after_one w r) rs)) (part_at-one w r key)
    ∙ next_by (changes_at key w r) (part_at w key) r (accepted_at key (world_after_one w r) rs)

none_there : {X : Type 0} (front : List X) (x : X) (rest : List X) → [] ≡ front ++ x ∷ rest → ⊥
none_there [] x rest h = cc
none_there (y ∷ front) x rest h = cc

-- each of the requests that change a container changes it as those before it left it
pub each-accepted : (key : Key) (rs : List Timed) (w : World (List ℕ)) (front : List Timed) (r : Timed) (rest : List Timed) → accepted_at key w rs ≡ front ++ r ∷ rest
    → IsChange key (part_after_all (part_at w key) front) r
each-accepted key [] w front r rest h = absurd (none_there front r rest h)
each-accepted key (x ∷ rs) w front r rest h = by_change (λ f is. each-accepted key rs (world_after_one w x) f r rest is) (changes_at key w x) refl h
  where
    next : World (List ℕ)
    next = world_after_one w x

    Later : Type 0
    Later = (front : List Timed) → accepted_at key next rs ≡ front ++ r ∷ rest → IsChange key (part_after_all (part_at next key) front) r

    first_or_later : Later → changes_at key w x ≡ true → (front : List Timed) → x ∷ accepted_at key next rs ≡ front ++ r ∷ rest → IsChange key (part_after_all (part_at w key) front) r
    first_or_later later changes [] h = let same : x ≡ r = cc in subst (λ (y : Timed). IsChange key (part_at w key) y) same (IsChange-changes w x key changes)
    first_or_later later changes (y ∷ front) h =
        let same : x ≡ y = cc in
        let more : accepted_at key next rs ≡ front ++ r ∷ rest = cc in
        subst (λ (p : Part (List ℕ)). IsChange key (part_after_all p front) r)
        (part_at-one w x key ∙ ap (λ (b : Bool). cond b (part_after_one (part_at w key) x) (part_at w key)) changes ∙ ap (part_after_one (part_at w key)) same)
        (later front more)

    by_change : Later → (b : Bool) → changes_at key w x ≡ b → cond b (x ∷ accepted_at key next rs) (accepted_at key next rs) ≡ front ++ r ∷ rest → IsChange key (part_after_all (part_at w key) front) r
    by_change later true changes h = first_or_later later changes front h
    by_change later false stays h =
        subst (λ (p : Part (List ℕ)). IsChange key (part_after_all p front) r)
        (part_at-one w x key ∙ ap (λ (b : Bool). cond b (part_after_one (part_at w key) x) (part_at w key)) stays)
        (later front h)

-- the requests of two lists that change a container: those of the first list, and then those of the second list
pub accepted_at-append : (key : Key) (front rest : List Timed) (w : World (List ℕ)) → accepted_at key w (front ++ rest) ≡ accepted_at key w front ++ accepted_at key (world_after_all w front) rest
accepted_at-append key [] rest w = refl
accepted_at-append key (r ∷ front) rest w =
    ap (λ (l : List Timed). cond (changes_at key w r) (r ∷ l) l) (accepted_at-append key front rest (world_after_one w r))
    ∙ by_change (changes_at key w r)
  where
    early : List Timed
    early = accepted_at key (world_after_one w r) front

    late : List Timed
    late = accepted_at key (world_after_all (world_after_one w r) front) rest

    by_change : (b : Bool) → cond b (r ∷ (early ++ late)) (early ++ late) ≡ cond b (r ∷ early) early ++ late
    by_change true = refl
    by_change false = refl

-- ---- histories

-- a history replays as its entries do, each judged by the pair of its epoch
pub replay_from-timed : (pairs : List Keys) (history : List Past) (start : Part (List ℕ)) → replay_from pairs start history ≡ part_after_all start (map (timed_by pairs) history)
replay_from-timed pairs [] start = refl
replay_from-timed pairs (e ∷ rest) start = replay_from-timed pairs rest (after_entry pairs start e)

-- an accepted entry is a change
pub IsChange-entry : (pairs : List Keys) (key : Key) (p : Part (List ℕ)) (e : Past) → IsAccepted pairs key p e → IsChange key p (timed_by pairs e)
IsChange-entry pairs key p e new = record {
  own = new.own;
  changes = ap (λ (o : Option Refusal). is_some (unless_refused o (change_of (sizes p) e.request e.moment))) new.allowed ∙ new.writes;
}

-- each entry of a legal history changes its container
pub accepted_at-legal : (pairs : List Keys) (key : Key) (history : List Past) (w : World (List ℕ)) → IsLegalFrom pairs key (part_at w key) history
    → accepted_at key w (map (timed_by pairs) history) ≡ map (timed_by pairs) history
accepted_at-legal pairs key [] w legal = refl
accepted_at-legal pairs key (e ∷ rest) w legal =
    ap (λ (b : Bool). cond b (first ∷ accepted_at key next (map (timed_by pairs) rest)) (accepted_at key next (map (timed_by pairs) rest))) changes
    ∙ ap (λ (l : List Timed). first ∷ l)
    (accepted_at-legal pairs key rest next
    (subst (λ (p : Part (List ℕ)). IsLegalFrom pairs key p rest) (sym after) (IsLegalFrom-rest pairs key (part_at w key) e rest legal)))
  where
    first : Timed
    first = timed_by pairs e

    next : World (List ℕ)
    next = world_after_one w first

    changes : changes_at key w first ≡ true
    changes = changes-IsChange w first key (IsChange-entry pairs key (part_at w key) e (legal.accepted [] e (rest, refl)))

    after : part_at next key ≡ after_entry pairs (part_at w key) e
    after = part_at-one w first key ∙ ap (λ (b : Bool). cond b (part_after_one (part_at w key) first) (part_at w key)) changes

-- a change is an accepted entry
IsAccepted-change : (pairs : List Keys) (key : Key) (p : Part (List ℕ)) (e : Past) → IsChange key p (timed_by pairs e) → IsAccepted pairs key p e
IsAccepted-change pairs key p e c =
    let both = by_refusal (refusal (pair_of pairs e.epoch) (sizes p) e.request e.moment) (change_of (sizes p) e.request e.moment) c.changes in
    record { own = c.own; writes = both.1; allowed = both.0 }
  where
    by_refusal : (r : Option Refusal) (o : Option KeyedAct) → is_some (unless_refused r o) ≡ true → (r ≡ None) × (is_some o ≡ true)
    by_refusal None o h = (refl, h)
    by_refusal (Some r) o h = cc

-- no entry of the history has a higher epoch than a later entry
abbrev NoneIsAbove : List Past → List Past → Type 0
NoneIsAbove history entries = (front : List Past) (x : Past) → IsEntryAfter front x history → (before : List Past) (y : Past) → IsEntryAfter before y entries → x.epoch ≤ y.epoch

module _ (history rest : List Past) (e : Past) where
  NoneIsAbove-rest : NoneIsAbove history (e ∷ rest) → NoneIsAbove history rest
  NoneIsAbove-rest none front x comes before y after = none front x comes (e ∷ before) y (after.0, ap (λ (ys : List Past). e ∷ ys) after.1)

  EpochsRise-rest : EpochsRise (e ∷ rest) → EpochsRise rest
  EpochsRise-rest rise front between x later comes = rise (e ∷ front) between x later (comes.0, ap (λ (ys : List Past). e ∷ ys) comes.1)

  NoneIsAbove-longer : NoneIsAbove history (e ∷ rest) → EpochsRise (e ∷ rest) → NoneIsAbove (history ++ e ∷ []) rest
  NoneIsAbove-longer none rise front x comes before y after = by_place (last_or_before history e x front comes.0 comes.1)
    where
      by_place : ((front ≡ history) × (x ≡ e)) ⊎ IsEntryAfter front x history → x.epoch ≤ y.epoch
      by_place (inl p) =
          subst (λ (z : Past). z.epoch ≤ y.epoch) (sym p.1) (rise [] before e y (after.0, ap (λ (ys : List Past). e ∷ ys) after.1))
      by_place (inr came) = NoneIsAbove-rest none front x came before y after

module _ (pairs : List Keys) (key : Key) (start : Part (List ℕ)) where
  abbrev entry : Past → Timed
  entry = timed_by pairs

  -- entries continue a legal history by those of them that change the container
  abbrev Continued : World (List ℕ) → List Past → List Past → Type 0
  Continued w history entries = (more : List Past) × IsLegalFrom pairs key start (history ++ more) × (map entry more ≡ accepted_at key w (map entry entries))

  -- the container is what the history replays to, and no entry of the history has a higher epoch than a later entry
  record IsUpTo (w : World (List ℕ)) (history entries : List Past) : Type 0 where
    pub legal : IsLegalFrom pairs key start history
    pub there : part_at w key ≡ replay_from pairs start history
    pub none : NoneIsAbove history entries
    pub rise : EpochsRise entries

  module _ (w : World (List ℕ)) (history rest : List Past) (e : Past) (up : IsUpTo w history (e ∷ rest)) where
    abbrev next : World (List ℕ)
    next = world_after_one w (entry e)

    after_by : (b : Bool) → changes_at key w (entry e) ≡ b → part_at next key ≡ cond b (after_entry pairs (part_at w key) e) (part_at w key)
    after_by b is = part_at-one w (entry e) key ∙ ap (λ (b : Bool). cond b (after_entry pairs (part_at w key) e) (part_at w key)) is

    IsUpTo-stays : changes_at key w (entry e) ≡ false → IsUpTo next history rest
    IsUpTo-stays stays = record {
      legal = up.legal;
      there = after_by false stays ∙ up.there;
      none = NoneIsAbove-rest history rest e up.none;
      rise = EpochsRise-rest history rest e up.rise;
    }

    IsUpTo-changes : changes_at key w (entry e) ≡ true → IsUpTo next (history ++ e ∷ []) rest
    IsUpTo-changes changes = record {
      legal = IsLegalFrom-append pairs key start history e up.legal (λ front x comes. up.none front x comes [] e (rest, refl))
          (subst (λ (p : Part (List ℕ)). IsAccepted pairs key p e) up.there (IsAccepted-change pairs key (part_at w key) e (IsChange-changes w (entry e) key changes)));
      there = after_by true changes ∙ ap (λ (p : Part (List ℕ)). after_entry pairs p e) up.there ∙ sym (replay_from-append pairs start history e);
      none = NoneIsAbove-longer history rest e up.none up.rise;
      rise = EpochsRise-rest history rest e up.rise;
    }

    Continued-by : (b : Bool) → changes_at key w (entry e) ≡ b → (changes_at key w (entry e) ≡ true → Continued next (history ++ e ∷ []) rest)
        → (changes_at key w (entry e) ≡ false → Continued next history rest) → Continued w history (e ∷ rest)
    Continued-by true is changed stayed =
        let more = changed is in (
          e ∷ more.0,
          subst (λ (h : List Past). IsLegalFrom pairs key start h) (append_assoc history (e ∷ []) more.0) more.1,
          ap (λ (l : List Timed). entry e ∷ l) more.2
              ∙ sym (ap (λ (b : Bool). cond b (entry e ∷ accepted_at key next (map entry rest)) (accepted_at key next (map entry rest))) is),
        )
    Continued-by false is changed stayed =
        let more = stayed is in (
          more.0,
          more.1,
          more.2 ∙ sym (ap (λ (b : Bool). cond b (entry e ∷ accepted_at key next (map entry rest)) (accepted_at key next (map entry rest))) is),
        )

  continued : (entries : List Past) (w : World (List ℕ)) (history : List Past) → IsUpTo w history entries → Continued w history entries
  continued [] w history up = ([], subst (λ (h : List Past). IsLegalFrom pairs key start h) (sym (append-nil history)) up.legal, refl)
  continued (e ∷ rest) w history up =
      Continued-by w history rest e up (changes_at key w (entry e)) refl
      (λ changes. continued rest (world_after_one w (entry e)) (history ++ e ∷ []) (IsUpTo-changes w history rest e up changes))
      (λ stays. continued rest (world_after_one w (entry e)) history (IsUpTo-stays w history rest e up stays))

no_entry_before : (front : List Past) (x : Past) → IsEntryAfter front x [] → ⊥
no_entry_before front x comes = none_there front x comes.0 comes.1

-- of entries whose epochs do not fall, those that change the container are a legal history
pub history-accepted : (pairs : List Keys) (key : Key) (w : World (List ℕ)) (entries : List Past) → EpochsRise entries
    → (history : List Past) × IsLegalFrom pairs key (part_at w key) history × (map (timed_by pairs) history ≡ accepted_at key w (map (timed_by pairs) entries))
history-accepted pairs key w entries rise =
    continued pairs key (part_at w key) entries w []
    (record {
      legal = IsLegalFrom-nil pairs key (part_at w key);
      there = refl;
      none = λ front x comes before y after. absurd (no_entry_before front x comes);
      rise = rise;
    })
