-- What stays while a slot makes no entry: its keys, their bounds, their key pairs and their containers.
use Rattle.std.proofs.Common.{◌≡◌, ℕ, ◌+◌, ◌&&◌, nat_eq, Bool, true, false, cond, List, [], ◌∷◌, ◌++◌, Some, refl, sym, ap, ◌∙◌, subst, arith}
use Rattle.std.specs.FinMap as finite
use Rattle.std.proofs.lemmas.Bool.{and_parts}
use Rattle.std.proofs.lemmas.Bool.Decides.{nat_tests}
use Rattle.std.proofs.lemmas.Grind.{flat_map-append}
use Rattle.std.proofs.lemmas.List.{append-nil, append_assoc}
use Rattle.std.proofs.lemmas.List.Sums.{fold-append}
use Rattle.stamp_values.specs.Operations.{names_container, writes}
use Rattle.stamp_values.specs.Trees.{is_below, is_from}
use Rattle.stamp_values.specs.declared.key.Key.{Key}
use Rattle.stamp_types.specs.Pieces.{held}
use Rattle.stamp_types.specs.Requests.{Asked}
use Rattle.stamp_types.specs.World.{World, part_at}
use Rattle.access_rules.specs.declared.rotation.Which.{Which}
use Rattle.range_rows.specs.SentContent.{byte_count}
use Rattle.stamp_model.specs.Runs.{Timed, world_after_one, world_after_all}
use Rattle.stamp_model.specs.SeenContainers.{is_under, routed}
use Rattle.stamp_model.proofs.EffectLemmas.{part_at-effect_others}
use Rattle.stamp_model.proofs.ReadLemmas.{effect-read}
use Rattle.stamp_model.proofs.SeenContainerLemmas.{lists_containers}
use Rattle.served_history.specs.declared.entry.Entry.{Entry}
use Rattle.served_history.specs.declared.entry.Entry.TheVariants.{Opened, Rotated, Served, Split}
use Rattle.served_history.specs.Histories.{bound_at, count_of, is_of, next_pairs, owner, pairs_for, served_request, served_requests, world_left, GoesOnWithout, HasStayed, IsHistory, IsOpened, IsOwn}
use Rattle.served_history.proofs.KeyLemmas.{bound-one, by_false, by_true, from_of_below, one_owner, owner-one}
use Rattle.served_history.proofs.PairLemmas.{pairs-one}
use Rattle.served_history.proofs.RowLemmas.{count-append, opened-append}

-- ---- the containers after more entries

-- what a front part and the entries after it leave
pub world_left-append : (front rest : List Entry) → world_left (front ++ rest) ≡ world_after_all (world_left front) (served_requests rest)
world_left-append front rest =
    ap (λ (rs : List Timed). world_after_all finite.empty rs) (flat_map-append served_request front rest) ∙ fold-append world_after_one finite.empty (served_requests front) (served_requests rest)

-- a request that names a container begins with its key
pub routed_own : (q : Asked) → names_container q.ask.op ≡ true → routed q ≡ q.ask.key
routed_own q names = by_true (names_container q.ask.op) q.ask.key _ names

-- a request leaves the containers as they are that have other keys than the first one that it looks at
pub request_stays : (w : World (List ℕ)) (r : Timed) (key : Key) → (key ≡ routed r.request → ⊥) → part_at (world_after_one w r) key ≡ part_at w key
request_stays w r key apart = by (names_container r.request.ask.op) refl
  where
    by : (b : Bool) → names_container r.request.ask.op ≡ b → part_at (world_after_one w r) key ≡ part_at w key
    by true names = part_at-effect_others byte_count held r.keys w r.request r.moment key (λ same. apart (same ∙ sym (routed_own r.request names)))
    by false lists = ap (λ (v : World (List ℕ)). part_at v key) (effect-read r.keys w r.request r.moment (ap writes (lists_containers r.request.ask.op lists)))

-- ---- one entry of another slot

-- two numbers that differ
pub not_both : (a b : ℕ) → nat_eq a b ≡ false → a ≡ b → ⊥
not_both a b other same = grind (arith, nat_tests)

module _ (tag : ℕ) (key : Key) (front : List Entry) (has : owner front key ≡ tag) where
  -- the key comes neither into the bound of another slot's split nor does it get a nearer bound
  split_stays : (slot : ℕ) (middle : Key) (upper : ℕ) → owner front middle ≡ slot → nat_eq slot tag ≡ false → HasStayed key front (front ++ Split slot middle upper ∷ [])
  split_stays slot middle upper own other = record {
    slot =
        owner-one front (Split slot middle upper) key
        ∙ by_false (nat_eq slot (owner front key) && is_from middle key) upper (owner front key) (ap (λ (n : ℕ). nat_eq slot n && is_from middle key) has ∙ ap (λ (b : Bool). b && is_from middle key) other);
    bound =
        bound-one front (Split slot middle upper) key
        ∙ by_false (is_below middle key && is_under (bound_at front key) middle) (Some middle) (bound_at front key) (outside (is_below middle key && is_under (bound_at front key) middle) refl);
    pairs = pairs-one front (Split slot middle upper) key;
    container = ap (λ (w : World (List ℕ)). part_at w key) (world_left-append front (Split slot middle upper ∷ []));
  }
    where
      outside : (b : Bool) → (is_below middle key && is_under (bound_at front key) middle) ≡ b → b ≡ false
      outside false is = refl
      outside true is =
          let parts = and_parts (is_below middle key) (is_under (bound_at front key) middle) is in
          let one : owner front middle ≡ owner front key = one_owner key middle (from_of_below key middle parts.0) front parts.1 in
          absurd (not_both slot tag other (sym own ∙ one ∙ has))

  served_stays : (slot : ℕ) (r : Timed) → owner front (routed r.request) ≡ slot → nat_eq slot tag ≡ false → HasStayed key front (front ++ Served slot r ∷ [])
  served_stays slot r own other = record {
    slot = owner-one front (Served slot r) key;
    bound = bound-one front (Served slot r) key;
    pairs = pairs-one front (Served slot r) key;
    container =
        ap (λ (w : World (List ℕ)). part_at w key) (world_left-append front (Served slot r ∷ []))
        ∙ request_stays (world_left front) r key (λ same. not_both slot tag other (sym own ∙ ap (owner front) (sym same) ∙ has));
  }

  -- another slot replaces keys for itself only
  rotated_stays : (slot : ℕ) (account : List ℕ) (which : Which) (new : List ℕ) → nat_eq slot tag ≡ false → HasStayed key front (front ++ Rotated slot account which new ∷ [])
  rotated_stays slot account which new other = record {
    slot = owner-one front (Rotated slot account which new) key;
    bound = bound-one front (Rotated slot account which new) key;
    pairs =
        pairs-one front (Rotated slot account which new) key
        ∙ by_false (nat_eq slot (owner front key)) (next_pairs (pairs_for front key) account which new) (pairs_for front key)
        (ap (λ (n : ℕ). nat_eq slot n) has ∙ other);
    container = ap (λ (w : World (List ℕ)). part_at w key) (world_left-append front (Rotated slot account which new ∷ []));
  }

  no_opening : front ≡ [] → IsOpened front → ⊥
  no_opening none opened = subst IsOpened none opened

  pub one_stays : (e : Entry) → IsOpened front → IsOwn front e → is_of tag e ≡ false → HasStayed key front (front ++ e ∷ [])
  one_stays (Opened pairs) opened own other = absurd (no_opening own opened)
  one_stays (Served slot r) opened own other = served_stays slot r own.0 other
  one_stays (Split slot middle upper) opened own other = split_stays slot middle upper own other
  one_stays (Rotated slot account which new) opened own other = rotated_stays slot account which new other

-- ---- entries of other slots

pub stayed_then : (key : Key) (front mid log : List Entry) → HasStayed key front mid → HasStayed key mid log → HasStayed key front log
stayed_then key front mid log one two = record {
  slot = two.slot ∙ one.slot;
  bound = two.bound ∙ one.bound;
  pairs = two.pairs ∙ one.pairs;
  container = two.container ∙ one.container;
}

pub other_slot : (b : Bool) (n : ℕ) → cond b 1 0 + n ≡ 0 → (b ≡ false) × (n ≡ 0)
other_slot true n h = absurd (omega arith)
other_slot false n h = (refl, omega (arith, h))

none_stays : (key : Key) (front : List Entry) → HasStayed key front (front ++ [])
none_stays key front = subst (HasStayed key front) (sym (append-nil front)) (record { slot = refl; bound = refl; pairs = refl; container = refl })

rest_stays : (tag : ℕ) (key : Key) (front rest : List Entry) → IsOpened front → IsHistory (front ++ rest) → count_of tag rest ≡ 0 → owner front key ≡ tag → HasStayed key front (front ++ rest)
rest_stays tag key front [] opened history none has = none_stays key front
rest_stays tag key front (e ∷ rest) opened history none has =
    let split = other_slot (is_of tag e) (count_of tag rest) none in
    let next = one_stays tag key front has e opened (history.own front e (rest, refl)) split.0 in
    let joined : (front ++ e ∷ []) ++ rest ≡ front ++ e ∷ rest = append_assoc front (e ∷ []) rest in
    let more = rest_stays tag key (front ++ e ∷ []) rest (opened-append front e opened) (subst IsHistory (sym joined) history) split.1 (next.slot ∙ has) in
    stayed_then key front (front ++ e ∷ []) (front ++ e ∷ rest) next (subst (HasStayed key (front ++ e ∷ [])) joined more)

-- while a slot makes no entry, its keys, their bounds, their key pairs and their containers stay
pub stays : (tag : ℕ) (key : Key) (front log : List Entry) → GoesOnWithout tag front log → owner front key ≡ tag → HasStayed key front log
stays tag key front log goes has =
    let rest = goes.begins.0 in
    let joined : front ++ rest ≡ log = goes.begins.1 in
    let none : count_of tag rest ≡ 0 = omega (arith, count-append tag front rest, ap (count_of tag) joined, goes.counted) in
    subst (HasStayed key front) joined (rest_stays tag key front rest goes.first.opened (subst IsHistory (sym joined) goes.second) none has)
