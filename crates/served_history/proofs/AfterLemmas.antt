-- What a slot has after its own entry.
use Rattle.std.proofs.Common.{◌≡◌, ℕ, Bool, true, false, List, [], ◌∷◌, ◌++◌, refl, sym, ap, ◌∙◌, subst}
use Rattle.std.specs.Cmp.{eq_by_cmp_equiv}
use Rattle.std.specs.Ordering.{eq_by_cmp}
use Rattle.stamp_values.specs.Order.{key_cmp, keys_exact, keys_total}
use Rattle.stamp_values.specs.declared.key.Key.{Key}
use Rattle.stamp_types.proofs.WorldLemmas.{equal_if_is_eq}
use Rattle.stamp_types.specs.Pieces.{held}
use Rattle.stamp_types.specs.World.{World, part_at}
use Rattle.range_rows.specs.SentContent.{byte_count}
use Rattle.stamp_model.specs.Runs.{Timed, world_after_one, world_after_all}
use Rattle.stamp_model.proofs.EffectLemmas.{part_at-effect_agrees, part_at-effect_others}
use Rattle.served_history.specs.declared.entry.Entry.{Entry}
use Rattle.served_history.specs.declared.entry.Entry.TheVariants.{Opened, Rotated, Served, Split}
use Rattle.served_history.specs.Growth.{IsEntered}
use Rattle.served_history.specs.Histories.{bound_after, bound_at, owner, owner_after, pairs_after, pairs_for, served_request, world_left, HasStayed}
use Rattle.served_history.proofs.KeyLemmas.{bound-one, owner-one}
use Rattle.served_history.proofs.PairLemmas.{pairs-one}
use Rattle.served_history.proofs.StayLemmas.{stays, world_left-append}

-- worlds that agree on a container agree on it after a request
one_agrees : (w v : World (List ℕ)) (r : Timed) (key : Key) → part_at w key ≡ part_at v key → part_at (world_after_one w r) key ≡ part_at (world_after_one v r) key
one_agrees w v r key same = by (eq_by_cmp key_cmp key r.request.ask.key) refl
  where
    own : (k : Key) → r.request.ask.key ≡ k → part_at w k ≡ part_at v k → part_at (world_after_one w r) k ≡ part_at (world_after_one v r) k
    own k is agree =
        subst (λ (x : Key). part_at w x ≡ part_at v x → part_at (world_after_one w r) x ≡ part_at (world_after_one v r) x) is (part_at-effect_agrees byte_count held r.keys w v r.request r.moment) agree

    untied : eq_by_cmp key_cmp key r.request.ask.key ≡ false → key ≡ r.request.ask.key → ⊥
    untied other is =
        let never : true ≡ false = sym ((eq_by_cmp_equiv keys_total).refl r.request.ask.key) ∙ ap (λ (x : Key). eq_by_cmp key_cmp x r.request.ask.key) (sym is) ∙ other in cc

    by : (b : Bool) → eq_by_cmp key_cmp key r.request.ask.key ≡ b → part_at (world_after_one w r) key ≡ part_at (world_after_one v r) key
    by true on = own key (sym (keys_exact key r.request.ask.key (equal_if_is_eq (key_cmp key r.request.ask.key) on))) same
    by false other =
        part_at-effect_others byte_count held r.keys w r.request r.moment key (untied other)
        ∙ same
        ∙ sym (part_at-effect_others byte_count held r.keys v r.request r.moment key (untied other))

-- the same after an entry
entry_agrees : (w v : World (List ℕ)) (e : Entry) (key : Key) → part_at w key ≡ part_at v key → part_at (world_after_all w (served_request e)) key ≡ part_at (world_after_all v (served_request e)) key
entry_agrees w v (Opened pairs) key same = same
entry_agrees w v (Served slot r) key same = one_agrees w v r key same
entry_agrees w v (Split slot middle upper) key same = same
entry_agrees w v (Rotated slot account which new) key same = same

-- what an entry leaves
left-one : (front : List Entry) (e : Entry) (key : Key) → part_at (world_left (front ++ e ∷ [])) key ≡ part_at (world_after_all (world_left front) (served_request e)) key
left-one front (Opened pairs) key = ap (λ (w : World (List ℕ)). part_at w key) (world_left-append front (Opened pairs ∷ []))
left-one front (Served slot r) key = ap (λ (w : World (List ℕ)). part_at w key) (world_left-append front (Served slot r ∷ []))
left-one front (Split slot middle upper) key = ap (λ (w : World (List ℕ)). part_at w key) (world_left-append front (Split slot middle upper ∷ []))
left-one front (Rotated slot account which new) key = ap (λ (w : World (List ℕ)). part_at w key) (world_left-append front (Rotated slot account which new ∷ []))

-- after its own entry a slot's keys, their bounds, their key pairs and their containers are as if the slot had made the entry right after what it knew
pub entry_follows : (slot : ℕ) (front known : List Entry) (e : Entry) (known' : List Entry) (key : Key) → IsEntered slot front known e known' → owner front key ≡ slot → HasStayed key (front ++ e ∷ []) known'
entry_follows slot front known e known' key entered has =
    let log = entered.log in
    let kept = stays slot key front log entered.slot_knew has in record {
      slot = ap (λ (l : List Entry). owner l key) entered.enters ∙ owner-one log e key ∙ ap (λ (s : ℕ). owner_after key s e) kept.slot ∙ sym (owner-one front e key);
      bound = ap (λ (l : List Entry). bound_at l key) entered.enters ∙ bound-one log e key ∙ ap (λ b. bound_after key b e) kept.bound ∙ sym (bound-one front e key);
      pairs =
          ap (λ (l : List Entry). pairs_for l key) entered.enters
          ∙ pairs-one log e key
          ∙ (λ i. pairs_after (kept.slot i) (kept.pairs i) e)
          ∙ sym (pairs-one front e key);
      container =
          ap (λ (l : List Entry). part_at (world_left l) key) entered.enters
          ∙ left-one log e key
          ∙ entry_agrees (world_left log) (world_left front) e key kept.container
          ∙ sym (left-one front e key);
    }
