-- What a slot may enter, and what it knows then.
use Rattle.std.proofs.Common.{◌≡◌, ℕ, ◌+◌, nat_eq, Bool, true, cond, List, [], ◌∷◌, ◌++◌, IsSome, sym, ap, ◌∙◌, subst, arith, append_assoc}
use Rattle.std.proofs.lemmas.Bool.Decides.{nat_tests}
use Rattle.std.proofs.lemmas.List.{append-nil}
use mathlib.Core.List.{IsPrefix}
use Rattle.stamp_values.specs.declared.key.Key.{Key}
use Rattle.access_rules.specs.declared.rotation.Which.{Which}
use Rattle.stamp_model.specs.Runs.{Timed}
use Rattle.stamp_model.specs.SeenContainers.{routed}
use Rattle.slot_state.specs.Pairs.{Pairs, current_at}
use Rattle.served_history.specs.declared.entry.Entry.{Entry}
use Rattle.served_history.specs.declared.entry.Entry.TheVariants.{Rotated, Served, Split}
use Rattle.served_history.specs.Growth.{IsAdded, IsEntered}
use Rattle.served_history.specs.Histories.{count_of, is_of, GoesOnWithout, IsHistory, IsOwn}
use Rattle.served_history.proofs.ReplyLemmas.{timed_stays}
use Rattle.served_history.proofs.RowLemmas.{count-append}
use Rattle.served_history.proofs.StayLemmas.{stays}

pub prefix_through : (xs ys zs : List Entry) → IsPrefix xs ys → IsPrefix ys zs → IsPrefix xs zs
prefix_through xs ys zs p q = (p.0 ++ q.0, sym (append_assoc xs p.0 q.0) ∙ (ap (λ (l : List Entry). l ++ q.0) p.1 ∙ q.1))

module _ (slot count : ℕ) (front : List Entry) (counts : count ≡ count_of slot front) (first : IsHistory front) where
  -- the slot makes no entry until then
  goes_on : (next log : List Entry) → IsPrefix front next → IsPrefix next log → count_of slot log ≡ count → IsHistory log → GoesOnWithout slot front log
  goes_on next log begins goes counted history = record {
    begins = prefix_through front next log begins goes;
    counted = counted ∙ counts;
    first = first;
    second = history;
  }

  -- the slot may serve then as it may from what it knows
  pub may_serve : (next : List Entry) (r : Timed) → IsPrefix front next → IsOwn front (Served slot r)
      → (log : List Entry) → IsPrefix next log → count_of slot log ≡ count → IsHistory log → IsOwn log (Served slot r)
  may_serve next r begins own log goes counted history =
      let on = goes_on next log begins goes counted history in
      ((stays slot (routed r.request) front log on own.0).slot ∙ own.0, own.1 ∙ sym (timed_stays slot front log on r.request r.moment own.0))

  -- and be split
  pub may_split : (next : List Entry) (middle : Key) (upper : ℕ) → IsPrefix front next → IsOwn front (Split slot middle upper)
      → (log : List Entry) → IsPrefix next log → count_of slot log ≡ count → IsHistory log → IsOwn log (Split slot middle upper)
  may_split next middle upper begins own log goes counted history =
      (stays slot middle front log (goes_on next log begins goes counted history) own).slot ∙ own

  -- and replace a key
  pub may_rotate : (next : List Entry) (account : List ℕ) (which : Which) (new : List ℕ) → IsPrefix front next → IsOwn front (Rotated slot account which new)
      → (log : List Entry) → IsPrefix next log → count_of slot log ≡ count → IsHistory log → IsOwn log (Rotated slot account which new)
  may_rotate next account which new begins own log goes counted history =
      let kept = stays slot own.0 front log (goes_on next log begins goes counted history) own.1.0 in
      (own.0, (kept.slot ∙ own.1.0, subst (λ (p : Pairs). IsSome (current_at p account)) (sym kept.pairs) own.1.1))

  module _ (known next next' : List Entry) (e : Entry) (begins : IsPrefix front next) (knows : IsPrefix known next) (added : IsAdded slot count next e next') where
    pub entered_by : IsEntered slot front known e next'
    entered_by = record {
      log = added.log;
      enters = added.enters;
      slot_knew = goes_on next added.log begins added.begins added.counted added.before;
      others_knew = prefix_through known next added.log knows added.begins;
    }

    -- the slot has one entry more
    pub one_more : is_of slot e ≡ true → count_of slot next' ≡ count + 1
    one_more own =
        let one : count_of slot (e ∷ []) ≡ 1 = ap (λ (b : Bool). cond b 1 0 + 0) own ∙ omega arith in
        ap (count_of slot) added.enters ∙ (count-append slot added.log (e ∷ []) ∙ omega (arith, added.counted, one))

-- the slot of an entry made it
pub made_it : (slot : ℕ) → nat_eq slot slot ≡ true
made_it slot = grind (arith, nat_tests)

-- the upper slot made no entry until its word was seen
pub upper_goes : (upper : ℕ) (next seen : List Entry) → IsPrefix next seen → IsHistory next → IsHistory seen → count_of upper seen ≡ 0 → GoesOnWithout upper next seen
upper_goes upper next seen goes first second none =
    let some : count_of upper next ≡ 0 = omega (arith, count-append upper next goes.0, ap (count_of upper) goes.1, none) in record {
      begins = goes;
      counted = none ∙ sym some;
      first = first;
      second = second;
    }

pub prefix_same : (xs ys : List Entry) → ys ≡ xs → IsPrefix xs ys
prefix_same xs ys same = ([], append-nil xs ∙ sym same)
