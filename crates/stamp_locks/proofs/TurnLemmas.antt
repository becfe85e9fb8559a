-- Lists of calls with passes.
use Rattle.std.proofs.Common.{◌≡◌, ℕ, Bool, true, false, List, [], ◌∷◌, ◌++◌, Option, Some, None, refl, sym, ap, ◌∙◌, subst, if◌then◌else◌, is_none, is_some}
use Rattle.std.proofs.lemmas.List.{append-nil, append_assoc}
use mathlib.Core.List.{IsPrefix}
use Rattle.extent_node.specs.Faults.{Calls}
use Rattle.stamp_types.specs.declared.past.Past.{Past}
use Rattle.stamp_types.specs.declared.rule.Rule.{Rule}
use Rattle.stamp_types.specs.Requests.{Asked}
use Rattle.range_rows.specs.SentContent.{sizes}
use Rattle.stamp_model.specs.Effects.{accepted}
use Rattle.stamp_model.specs.Histories.{replay}
use Rattle.tickets.specs.declared.answer.Answer.{Answer}
use Rattle.tickets.specs.declared.answer.Answer.TheVariants as answer
use Rattle.slot_state.specs.Pairs.{epoch_of, in_force}
use Rattle.slot_state.specs.Slots.{SlotState}
use Rattle.slot_pass.specs.Calls.{AnswersAfter, MeetsIfServed, MetHistory}
use Rattle.slot_pass.specs.Passes.{IsOrder, PassState}
use Rattle.slot_pass.specs.declared.meeting.Order.{Order}
use Rattle.slot_pass.specs.declared.meeting.Order.TheVariants as order
use Rattle.stamp_locks.specs.InTurn.{AreCalls, AreInOneList, HasInTurn, PassCall, changed, front_with, names_no_rule}
use Rattle.stamp_locks.specs.Shown.{IsHandledAfter}

-- ---- beginnings

begins_self : {X : Type 0} (xs : List X) → IsPrefix xs xs
begins_self xs = ([], append-nil xs)

begins_same : {X : Type 0} (xs ys : List X) → ys ≡ xs → IsPrefix xs ys
begins_same xs ys same = ([], append-nil xs ∙ sym same)

begins_then : {X : Type 0} (xs ys zs : List X) → IsPrefix xs ys → IsPrefix ys zs → IsPrefix xs zs
begins_then {X} xs ys zs p q = (p.0 ++ q.0, sym (append_assoc xs p.0 q.0) ∙ (ap (λ (l : List X). l ++ q.0) p.1 ∙ q.1))

-- ---- one call

-- after the call the front has what others changed, and then what the call changed
abbrev Adds : PassState → PassCall → Type 0
Adds p c = (others : List Past) × (c.after.front ≡ front_with p.front others (changed c (p.front ++ others)))

-- what a call changes whose reply names no rule
abbrev own : PassCall → List Past → List Past
own c met =
    if is_some (accepted (in_force c.after.pairs) (sizes (replay c.after.pairs met)) c.request c.moment) then record { request = c.request; moment = c.moment; epoch = epoch_of (in_force c.after.pairs) } ∷ [] else []

named : (c : PassCall) (met : List Past) → names_no_rule c.answer ≡ true → changed c met ≡ own c met
named c met is = ap (λ (b : Bool). if b then own c met else []) is

unnamed : (c : PassCall) (met : List Past) → names_no_rule c.answer ≡ false → changed c met ≡ []
unnamed c met is = ap (λ (b : Bool). if b then own c met else []) is

with_own : (b : Bool) (xs : List Past) (e : Past) → (if b then xs ++ e ∷ [] else xs) ≡ xs ++ (if b then e ∷ [] else [])
with_own true xs e = refl
with_own false xs e = sym (append-nil xs)

module _ (p : PassState) (c : PassCall) where
  adds_own : names_no_rule c.answer ≡ true → MetHistory p c.request c.moment c.after → Adds p c
  adds_own is m =
      let met : List Past = m.0 in
      let e : Past = record { request = c.request; moment = c.moment; epoch = epoch_of (in_force c.after.pairs) } in
      let made : Bool = is_some (accepted (in_force c.after.pairs) (sizes (replay c.after.pairs met)) c.request c.moment) in
      let at_met : c.after.front ≡ met ++ changed c met = m.1.1 ∙ (with_own made met e ∙ ap (λ (l : List Past). met ++ l) (sym (named c met is))) in
      (m.1.0.0, subst (λ (l : List Past). c.after.front ≡ l ++ changed c l) (sym m.1.0.1) at_met)

  adds_none : names_no_rule c.answer ≡ false → IsPrefix p.front c.after.front → Adds p c
  adds_none is more =
      (more.0, sym more.1 ∙ (sym (append-nil (p.front ++ more.0)) ∙ ap (λ (l : List Past). (p.front ++ more.0) ++ l) (sym (unnamed c (p.front ++ more.0) is))))

none_by : {X : Type 0} (o : Option X) → is_none o ≡ true → o ≡ None
none_by None is = refl
none_by (Some x) is = cc

-- the same, by the answer
module _ (p : PassState) (c : PassCall) (more : IsPrefix p.front c.after.front) where
  adds_named : (b : Bool) (o : Option Rule) → is_none o ≡ b → names_no_rule c.answer ≡ b → (o ≡ None → MetHistory p c.request c.moment c.after) → Adds p c
  adds_named true o is same met = adds_own p c same (met (none_by o is))
  adds_named false o is same met = adds_none p c same more

  adds_by : (a : Answer) → c.answer ≡ a → MeetsIfServed p c.request c.moment a c.after → Adds p c
  adds_by (answer.Done r) is met = adds_named (is_none r.rule) r.rule refl (ap names_no_rule is) met
  adds_by (answer.Later r) is met = adds_own p c (ap names_no_rule is) met
  adds_by answer.NoMemory is met = adds_none p c (ap names_no_rule is) more

-- what one call of a slot does with a pass (`changes_of_two_passes_are_in_one_list` of slot_pass)
abbrev pub Made : Type 0
Made = (p after : PassState) (s next : SlotState) (q : Asked) (t : ℕ) (old new : Calls) (a : Answer) → AnswersAfter p s q t old new a after next → MeetsIfServed p q t a after

abbrev pub Grown : Type 0
Grown = (p after : PassState) (s next : SlotState) (q : Asked) (t : ℕ) (old new : Calls) (a : Answer) → AnswersAfter p s q t old new a after next → IsPrefix p.front after.front × IsPrefix p.pairs after.pairs

-- ---- calls in turn

-- a list that goes on has the same
goes_on : (shown : List Past) (calls : List PassCall) (xs ys : List Past) → HasInTurn shown calls xs → IsPrefix xs ys → HasInTurn shown calls ys
goes_on shown [] xs ys has more = begins_then shown xs ys has more
goes_on shown (c ∷ cs) xs ys has more = (has.0, goes_on (front_with shown has.0 (changed c (shown ++ has.0))) cs xs ys has.1 more)

module _ {W : Type 0} (faults : W → Calls) (made : Made) (more : Grown) where
  grown_by : (p p' : PassState) (q : Asked) (t : ℕ) (a : Answer) → IsHandledAfter faults p q t a p' → IsPrefix p.front p'.front × IsPrefix p.pairs p'.pairs
  grown_by p p' q t a (entry, (pairs, m)) = more p p' m.slot m.next q t (faults m.old) (faults m.new) a m.answers

  adds : (p : PassState) (c : PassCall) → IsHandledAfter faults p c.request c.moment c.answer c.after → Adds p c
  adds p c (entry, (pairs, m)) =
      adds_by p c (more p c.after m.slot m.next c.request c.moment (faults m.old) (faults m.new) c.answer m.answers).0 c.answer refl
      (made p c.after m.slot m.next c.request c.moment (faults m.old) (faults m.new) c.answer m.answers)

  pub in_turn : (p after : PassState) (calls : List PassCall) → AreCalls faults p calls after → HasInTurn p.front calls after.front
  in_turn p after [] are = begins_same p.front after.front (ap (λ (x : PassState). x.front) are)
  in_turn p after (c ∷ cs) are =
      let a = adds p c are.0 in
      (a.0, subst (λ (l : List Past). HasInTurn l cs after.front) a.1 (in_turn c.after after cs are.1))

  pub grown : (p after : PassState) (calls : List PassCall) → AreCalls faults p calls after → IsPrefix p.front after.front × IsPrefix p.pairs after.pairs
  grown p after [] are = (begins_same p.front after.front (ap (λ (x : PassState). x.front) are), begins_same p.pairs after.pairs (ap (λ (x : PassState). x.pairs) are))
  grown p after (c ∷ cs) are =
      let one = grown_by p c.after c.request c.moment c.answer are.0 in
      let rest = grown c.after after cs are.1 in
      (begins_then p.front c.after.front after.front one.0 rest.0, begins_then p.pairs c.after.pairs after.pairs one.1 rest.1)

  module _ (p after o last : PassState) (calls others : List PassCall) (are : AreCalls faults p calls after) (also : AreCalls faults o others last) where
    in_list : (list : List Past) → IsPrefix after.front list → IsPrefix last.front list → AreInOneList p.front o.front calls others
    in_list list one other = record {
      list = list;
      first = goes_on p.front calls after.front list (in_turn p after calls are) one;
      second = goes_on o.front others last.front list (in_turn o last others also) other;
    }

    pub in_one_list : (d : Order) → IsOrder after.front last.front d → AreInOneList p.front o.front calls others
    in_one_list order.Same same = in_list last.front (begins_same after.front last.front (sym same)) (begins_self last.front)
    in_one_list order.First first = in_list last.front first.0 (begins_self last.front)
    in_one_list order.Second second = in_list after.front (begins_self after.front) second.0
