-- A doubt has ended before its container answers.
use Rattle.std.proofs.Common.{◌≡◌, ◌≢◌, ◌⊎◌, inl, inr, ℕ, ◌==◌, Bool, true, false, cond, nat_lt, All, List, [], ◌∷◌, ◌++◌, Option, Some, None, refl, sym, ap, ◌∙◌, subst, eqb-true, eq-eqb}
use Rattle.std.specs.Prelude.{IfSome, slice_get}
use Rattle.std.specs.Cmp.{eq_by_cmp_equiv}
use Rattle.std.specs.Option.{option_and_then}
use Rattle.std.specs.Ordering.{eq_by_cmp}
use Rattle.std.proofs.lemmas.List.{append_assoc}
use Rattle.std.proofs.lemmas.List.Elements.{All-weaker}
use Rattle.stamp_values.specs.Order.{key_cmp, keys_exact, keys_total}
use Rattle.stamp_values.specs.declared.key.Key.{Key}
use Rattle.stamp_types.specs.declared.past.Past.{Past}
use Rattle.stamp_types.specs.declared.reply.Reply as replies
use Rattle.stamp_types.specs.Requests.{Asked}
use Rattle.stamp_types.specs.World.{part_at}
use Rattle.stamp_types.proofs.WorldLemmas.{equal_if_is_eq}
use Rattle.partition_map.specs.Spans.{slot_of}
use Rattle.stamp_model.specs.SeenContainers.{routed}
use Rattle.core_run.specs.declared.step.Step.{Step}
use Rattle.core_run.specs.declared.step.Step.TheVariants as step
use Rattle.core_run.specs.Machine.{Answer, IsRun, SettlesDoubt, SettlesDoubtBy, Takes}
use Rattle.core_run.specs.Places.{DoubtsPass, GivesReply, HasEnded, IsSound, PassesStep, doubt_at, works_on}
use Rattle.core_run.specs.States.{State, Turn, dropped, kept, slot_doubt, slot_for, timed_in}
use Rattle.core_run.proofs.AskedLemmas.{asked_so}
use Rattle.core_run.proofs.DoubtLemmas.{served_first}
use Rattle.core_run.proofs.HistoryLemmas.{leads_same, step_leads}
use Rattle.core_run.proofs.PlaceLemmas.{given, same_timed, turn_at}
use Rattle.core_run.proofs.SettleLemmas.{settles_then}
use Rattle.core_run.proofs.SoundLemmas.{step_sound}
use Rattle.core_run.proofs.StepLemmas.{gone, settled_points}
use Rattle.core_run.proofs.Values.{none_some, some_is, some_none, true_false}
use Rattle.core_run.proofs.WaitLemmas.{waits_on}

-- ---- the slot that a step works on

abbrev is_slot : Option ℕ → ℕ → Bool
is_slot None i = false
is_slot (Some j) i = j == i

on_slot : (o : Option ℕ) (i : ℕ) → is_slot o i ≡ true → o ≡ Some i
on_slot None i e = absurd (true_false (sym e))
on_slot (Some j) i e = ap Some (eqb-true j i e)

off_slot : (o : Option ℕ) (i : ℕ) → is_slot o i ≡ false → o ≢ Some i
off_slot None i e same = none_some i same
off_slot (Some j) i e same = true_false (sym (eq-eqb j i (some_is j i same)) ∙ e)

-- ---- a settle

kept_or_dropped : (o : Option Past) (s m : State) (i : ℕ) (e : Past) → o ≡ Some e → SettlesDoubtBy o s i m → (m ≡ kept s i e) ⊎ (m ≡ dropped s i)
kept_or_dropped None s m i e is settled = absurd (none_some e is)
kept_or_dropped (Some d) s m i e is settled = subst (λ (x : Past). (m ≡ kept s i x) ⊎ (m ≡ dropped s i)) (some_is d e is) settled

module _ (q : Asked) (t : ℕ) (a : Answer) (o : replies.Reply) where
  -- the turn of the request
  abbrev own : State → Turn
  own m = record { served = timed_in m q t; reply = Some o }

  -- a state with the doubts and the split points that a settle left has no doubt for the request
  calm_as : (m n s' : State) → SettlesDoubt m (slot_for m q) n → s'.doubts ≡ n.doubts → s'.points ≡ n.points → doubt_at s' (routed q) ≡ None
  calm_as m n s' is doubts points =
      (λ j. option_and_then (λ (x : Option Past). x) (slice_get (doubts j) (slot_of (points j) (routed q))))
      ∙ ap (λ (ps : List Key). slot_doubt n (slot_of ps (routed q))) (settled_points (slot_doubt m (slot_for m q)) m n (slot_for m q) is)
      ∙ gone (slot_doubt m (slot_for m q)) m n (slot_for m q) refl is

  -- after a Serve that gives a reply, its slot has no doubt
  none_after : (m s' : State) (f : Bool) → Takes m (step.Serve q t) f a s' → GivesReply a s' o → doubt_at s' (routed q) ≡ None
  none_after m s' f takes gives = elim (served_first m s' q t f a takes) [
    | inl failed ↦ elim failed [
      | inl p ↦ absurd (true_false (subst (λ (a : Answer). GivesReply a s' o) p.1 gives).0)
      | inr p ↦ absurd (subst (λ (a : Answer). GivesReply a s' o) p gives)
    ]
    | inr p ↦ elim p.1.1 [
      | inl made ↦ calm_as m p.0 s' p.1.0 (λ j. (made.1 j).doubts) (λ j. (made.1 j).points)
      | inr rest ↦ elim rest [
        | inl made ↦ calm_as m p.0 s' p.1.0 (λ j. (made.1 j).doubts) (λ j. (made.1 j).points)
        | inr made ↦ absurd (true_false (subst (λ (a : Answer). GivesReply a s' o) made.1.1.0 gives).0)
      ]
    ]
  ]

  module _ (e : Past) where
    -- the Serve itself settles the doubt
    at_once : (m s' : State) (f : Bool) → doubt_at m (routed q) ≡ Some e → Takes m (step.Serve q t) f a s' → GivesReply a s' o → HasEnded m (routed q) e (own m) s'
    at_once m s' f there takes gives =
        let is = given m s' q t f a o takes gives in
        record {
          waiting = m;
          settled = is.0;
          front = [];
          rest = [];
          doubt = there;
          container = refl;
          before = (leads_same m).history;
          ends = kept_or_dropped (slot_doubt m (slot_for m q)) m is.0 (slot_for m q) e there is.1.settled;
          after = is.1.history ∙ (λ j. is.0.history ++ record { served = same_timed m is.0 (slot_for m q) q t is.1.settled j; reply = Some o } ∷ []);
          none = none_after m s' f takes gives;
        }

    -- a step that leaves the doubt and its container
    waits : (s n m s' : State) (us : List Turn) → n.history ≡ s.history ++ us → part_at n.world (routed q) ≡ part_at s.world (routed q) → HasEnded n (routed q) e (own m) s' → HasEnded s (routed q) e (own m) s'
    waits s n m s' us more part later = record {
      waiting = later.waiting;
      settled = later.settled;
      front = us ++ later.front;
      rest = later.rest;
      doubt = later.doubt;
      container = later.container ∙ part;
      before = later.before ∙ ap (λ (h : List Turn). h ++ later.front) more ∙ append_assoc s.history us later.front;
      ends = later.ends;
      after = later.after;
      none = later.none;
    }

    -- another step settles the doubt
    settles : (s k n m s' : State) (us vs : List Turn) → doubt_at s (routed q) ≡ Some e → SettlesDoubt s (slot_of s.points (routed q)) k → n.history ≡ k.history ++ us
        → s'.history ≡ n.history ++ (vs ++ own m ∷ []) → doubt_at s' (routed q) ≡ None → HasEnded s (routed q) e (own m) s'
    settles s k n m s' us vs there is first then none = record {
      waiting = s;
      settled = k;
      front = [];
      rest = us ++ vs;
      doubt = there;
      container = refl;
      before = (leads_same s).history;
      ends = kept_or_dropped (slot_doubt s (slot_of s.points (routed q))) s k (slot_of s.points (routed q)) e there is;
      after = then ∙ ap (λ (h : List Turn). h ++ (vs ++ own m ∷ [])) first ∙ append_assoc k.history us (vs ++ own m ∷ [])
          ∙ ap (λ (xs : List Turn). k.history ++ xs) (sym (append_assoc us vs (own m ∷ [])));
      none = none;
    }

    -- a step before the Serve, and what is so if the doubt waits
    before_serve : (b : Bool) (x : Step) (r : Answer) (s n m s' : State) (f g : Bool) (vs : List Turn) → is_slot (works_on s x) (slot_of s.points (routed q)) ≡ b → IsSound s → doubt_at s (routed q) ≡ Some e
        → Takes s x f r n → s'.history ≡ n.history ++ (vs ++ own m ∷ []) → Takes m (step.Serve q t) g a s' → GivesReply a s' o
        → (doubt_at n (routed q) ≡ Some e → HasEnded n (routed q) e (own m) s') → HasEnded s (routed q) e (own m) s'
    before_serve true x r s n m s' f g vs on sound there takes then serve gives rest =
        elim (subst (λ (i : Option ℕ). IfSome i (λ i. (n ≡ s) ⊎ ((k : State) × (SettlesDoubt s i k × Takes k x f r n)))) (on_slot (works_on s x) (slot_of s.points (routed q)) on) (settles_then x s n f r takes)) [
          | inl same ↦ waits s n m s' [] (ap (λ (y : State). y.history) same ∙ (leads_same s).history) (ap (λ (y : State). part_at y.world (routed q)) same) (rest (ap (λ (y : State). doubt_at y (routed q)) same ∙ there))
          | inr p ↦ let led = step_leads x p.0 n f r p.1.1 in settles s p.0 n m s' led.0 vs there p.1.0 led.1.history then (none_after m s' g serve gives)
        ]
    before_serve false x r s n m s' f g vs off sound there takes then serve gives rest =
        let led = step_leads x s n f r takes in
        let stays = waits_on (routed q) x s n f r takes (off_slot (works_on s x) (slot_of s.points (routed q)) off) sound e there in
        waits s n m s' led.0 led.1.history stays.1 (rest stays.0)

    pub ended : (xs : List Step) (rs : List Answer) (s m s' : State) (before n after : ℕ) → IsSound s → doubt_at s (routed q) ≡ Some e
        → IsRun s before xs rs m n → IsRun m n (step.Serve q t ∷ []) (a ∷ []) s' after → GivesReply a s' o → HasEnded s (routed q) e (own m) s'
    ended [] [] s m s' before n after sound there run serve gives =
        let takes = subst (λ (y : State). Takes m (step.Serve q t) (nat_lt n serve.1.0) a y) (sym serve.1.1.1.1.0) serve.1.1.1.0 in
        subst (λ (y : State). HasEnded y (routed q) e (own m) s') run.0
        (at_once m s' (nat_lt n serve.1.0) (ap (λ (y : State). doubt_at y (routed q)) run.0 ∙ there) takes gives)
    ended [] (r ∷ rs) s m s' before n after sound there run serve gives = absurd run
    ended (x ∷ xs) [] s m s' before n after sound there run serve gives = absurd run
    ended (x ∷ xs) (r ∷ rs) s m s' before n after sound there run serve gives =
        let takes = subst (λ (y : State). Takes m (step.Serve q t) (nat_lt n serve.1.0) a y) (sym serve.1.1.1.1.0) serve.1.1.1.0 in
        let turn = turn_at xs rs run.0 m s' run.1.0 n after q t a o run.1.1.1.1 serve gives in
        before_serve (is_slot (works_on s x) (slot_of s.points (routed q))) x r s run.0 m s' (nat_lt before run.1.0) (nat_lt n serve.1.0) turn.0 refl sound there run.1.1.1.0 turn.1 takes gives
        (λ waiting. ended xs rs run.0 m s' run.1.0 n after (step_sound x s run.0 (nat_lt before run.1.0) r run.1.1.1.0 sound) waiting run.1.1.1.1 serve gives)

-- ---- requests on a container without a doubt

module _ (key : Key) (test : Asked → ℕ → Bool) where
  -- the test, of requests on this container alone
  abbrev there_passes : Asked → ℕ → Bool
  there_passes q t = cond (eq_by_cmp key_cmp q.ask.key key) (test q t) true

  passes : (b : Bool) (c : Bool) → c ≡ true → cond b c true ≡ true
  passes true c h = h
  passes false c h = refl

  step_passes : (x : Step) → PassesStep test x → PassesStep there_passes x
  step_passes (step.Serve q t) h = passes (eq_by_cmp key_cmp q.ask.key key) (test q t) h
  step_passes other h = tt

  -- a doubt of the container is the doubt of its slot
  doubts_pass : (s : State) → IsSound s → doubt_at s key ≡ None → DoubtsPass there_passes s
  doubts_pass s sound none i e at = by (eq_by_cmp key_cmp e.request.ask.key key) refl
    where
      by : (b : Bool) → eq_by_cmp key_cmp e.request.ask.key key ≡ b → cond b (test e.request e.moment) true ≡ true
      by false apart = refl
      by true tie =
          let same : e.request.ask.key ≡ key = keys_exact e.request.ask.key key (equal_if_is_eq (key_cmp e.request.ask.key key) tie) in
          absurd (some_none (slot_doubt s i) e at (ap (slot_doubt s) (sym (sound.placed i e at) ∙ ap (slot_of s.points) same) ∙ none))

  of_key : (u : Turn) → there_passes u.served.request u.served.moment ≡ true → u.served.request.ask.key ≡ key → test u.served.request u.served.moment ≡ true
  of_key u h same =
      ap (λ (b : Bool). cond b (test u.served.request u.served.moment) true)
      (sym (ap (λ (k : Key). eq_by_cmp key_cmp k key) same ∙ (eq_by_cmp_equiv keys_total).refl key)) ∙ h

  pub asked_after : (steps : List Step) (answers : List Answer) (s s' : State) (before after : ℕ) (us : List Turn) → IsRun s before steps answers s' after → All (λ x. PassesStep test x) steps
      → IsSound s → doubt_at s key ≡ None → s'.history ≡ s.history ++ us → All (λ u. u.served.request.ask.key ≡ key → test u.served.request u.served.moment ≡ true) us
  asked_after steps answers s s' before after us run asks sound none is =
      All-weaker (λ (u : Turn). there_passes u.served.request u.served.moment ≡ true) (λ (u : Turn). u.served.request.ask.key ≡ key → test u.served.request u.served.moment ≡ true) of_key us
      (asked_so there_passes steps answers s s' before after us run (All-weaker (λ (x : Step). PassesStep test x) (λ (x : Step). PassesStep there_passes x) step_passes steps asks) sound (doubts_pass s sound none) is)
