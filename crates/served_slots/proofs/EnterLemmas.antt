-- What the steps under a lock owe.
use Rattle.std.proofs.Common.{◌≡◌, ◌<◌, ℕ, List, Option, Some, None, Result, Ok, Err, IfOk, sym, ap, ◌∙◌, subst, arith}
use Rattle.std.specs.Prelude.{IfSome, OnSome, true}
use Rattle.stamp_values.specs.declared.key.Key.{Key}
use Rattle.stamp_types.specs.declared.reply.Reply.{Reply}
use Rattle.stamp_types.specs.Requests.{Asked}
use Rattle.access_rules.specs.declared.keys.Keys.{Keys}
use Rattle.stamp_model.specs.Runs.{Timed}
use Rattle.slot_state.specs.Pairs.{current_at}
use Rattle.slot_state.specs.Slots.{SlotState, is_inside, lower_half, upper_half}
use Rattle.served_history.specs.declared.entry.Entry.{Entry}
use Rattle.served_history.specs.declared.entry.Entry.TheVariants.{Split}
use Rattle.served_history.specs.Growth.{IsEntered, SlotFront}
use Rattle.served_history.specs.Histories.{GoesOnWithout, IsServed}
use Rattle.served_slots.specs.Slots.{IsLeftBy, IsParted, timed_in}
use Rattle.served_slots.specs.Steps.{told_reply}
use Rattle.served_slots.proofs.SplitLemmas.{lower_left, upper_left}

-- no number is less than itself: a wire that counts no fault has none
pub never_less : (n : ℕ) → n < n → ⊥
never_less n f = omega (arith, f)

-- the call of a request is the request as the slot serves it
abbrev timed_of : Asked → ℕ → Option Keys → Option Key → Timed
timed_of q t keys bound = record { request = q; moment = t; keys = keys; bound = bound }

pub call_is : (s : SlotState) (to : Option Key) (q : Asked) (t : ℕ) (keys : Option Keys) (bound : Option Key) → keys ≡ current_at s.pairs q.ask.key.account → bound ≡ to → timed_of q t keys bound ≡ timed_in s to q t
call_is s to q t keys bound pairs ends = λ i. record { request = q; moment = t; keys = pairs i; bound = ends i }

-- what a slot knows of the history, if it knows something
pub own_left : (history : Option SlotFront) (own : SlotFront) (to : Option Key) (s : SlotState) → history ≡ Some own → IfSome history (λ front. IsLeftBy front to s) → IsLeftBy own to s
own_left history own to s is left = subst (λ (o : Option SlotFront). IfSome o (λ front. IsLeftBy front to s)) is left

-- the reply of a served request, now or by a ticket
pub told_now : (r : Result Reply Reply) (reply v : Reply) → r ≡ Ok reply → told_reply r ≡ v → reply ≡ v
told_now r reply v is told = sym (ap told_reply is) ∙ told

pub told_later : {E : Type 0} (r : Result Reply Reply) (ticket v : Reply) (fetched : Result Reply E) → r ≡ Err ticket → told_reply r ≡ v → IfOk fetched (λ reply. reply ≡ ticket) → IfOk fetched (λ reply. reply ≡ v)
told_later r ticket v (Ok reply) is told same = same ∙ sym (ap told_reply is) ∙ told
told_later r ticket v (Err e) is told same = tt

-- a reply that was fetched is the reply of the served request, which began with what the connection knew
pub served_told : (known copy known' : List Entry) (q : Asked) (t : ℕ) (r reply : Reply) → copy ≡ known → reply ≡ r → IsServed copy q t r known' → IsServed known q t reply known'
served_told known copy known' q t r reply same told served =
    subst (λ (l : List Entry). IsServed l q t reply known') same (subst (λ (x : Reply). IsServed copy q t x known') (sym told) served)

-- a request and a moment that were kept for the lock are those that were asked
pub served_asked : (known known' : List Entry) (kept asked : Asked) (at t : ℕ) (reply : Reply) → kept ≡ asked → at ≡ t → IsServed known kept at reply known' → IsServed known asked t reply known'
served_asked known known' kept asked at t reply same on served =
    subst (λ (q : Asked). IsServed known q t reply known') same (subst (λ (n : ℕ). IsServed known kept n reply known') on served)

-- a split that was entered
pub parted_if : (front lower : SlotFront) (middle : Key) (number : ℕ) (r : Option SlotFront) → OnSome r (IsEntered front.slot front.log front.log (Split front.slot middle number) lower.log)
    → IfSome r (λ upper. GoesOnWithout number lower.log upper.log) → IfSome r (λ upper. (upper.slot ≡ number) × (lower.slot ≡ front.slot)) → IfSome r (λ upper. IsParted front middle lower upper)
parted_if front lower middle number (Some upper) entered fresh slots = record {
  entered = subst (λ (n : ℕ). IsEntered front.slot front.log front.log (Split front.slot middle n) lower.log) (sym slots.0) entered;
  fresh = subst (λ (n : ℕ). GoesOnWithout n lower.log upper.log) (sym slots.0) fresh;
  same = slots.1;
}
parted_if front lower middle number None entered fresh slots = tt

-- both halves after the split
module _ (front lower upper : SlotFront) (to : Option Key) (s : SlotState) (middle : Key) (left : IsLeftBy front to s) (inside : is_inside s middle ≡ true) (parted : IsParted front middle lower upper) where
  pub lower_kept : (end : Key) (to' : Option Key) (s' : SlotState) → end ≡ middle → to' ≡ Some end → s' ≡ lower_half s middle → IsLeftBy lower to' s'
  lower_kept end to' s' is ends half =
      subst (λ (o : Option Key). IsLeftBy lower o s') (sym (ends ∙ ap Some is))
      (subst (λ (x : SlotState). IsLeftBy lower (Some middle) x) (sym half) (lower_left front to s left middle inside lower upper parted))

  pub upper_kept : (to' : Option Key) (u : SlotState) → to' ≡ to → u ≡ upper_half s middle → IsLeftBy upper to' u
  upper_kept to' u ends half =
      subst (λ (o : Option Key). IsLeftBy upper o u) (sym ends) (subst (λ (x : SlotState). IsLeftBy upper to x) (sym half) (upper_left front to s left middle inside lower upper parted))
