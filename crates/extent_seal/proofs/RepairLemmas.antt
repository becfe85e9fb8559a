-- Copies of a sealed extent, and what is counted while a node gets one.
use Rattle.std.proofs.Common.{◌≡◌, ◌≤◌, ◌||◌, ◌∙◌, ℕ, ◌+◌, suc, zero, true, false, Option, Some, None, IfSome, List, [], ◌∷◌, ◌++◌, take, ap, sym, refl, arith, subst}
use Rattle.std.specs.List.{slice_get}
use Rattle.std.specs.Option.{is_some}
use Rattle.extent_node.specs.Copies.{Block, Copy}
use Rattle.extent_node.specs.Faults.{Counts, CountsCall, CountsFault, CountsNone, one_more}
use Rattle.extent_node.specs.declared.wire.Node.{Node}
use Rattle.extent_node.specs.declared.wire.Node.TheVariants as node
use Rattle.extent_seal.specs.Extents.{Closed, first_kept}
use Rattle.extent_seal.specs.Repairs.{CountsCalls, CountsCallsUpTo, calls_more}

-- one call after so many calls
calls_next : (k n : ℕ) → one_more (calls_more k n) ≡ calls_more (k + 1) n
unfolding calls_more
calls_next k n = let e : k + 1 ≡ suc k = omega arith in rw e refl

calls_bound : (k n : ℕ) → calls_more k n ≤ n + k
unfolding calls_more one_more
calls_bound zero n = omega arith
calls_bound (suc k) n = let b = calls_bound k n in omega arith

-- no call yet
pub no_calls_more : (n : Node) (a : Counts) → CountsCalls n 0 a a
unfolding calls_more
no_calls_more node.Zero a = (refl, refl, refl)
no_calls_more node.One a = (refl, refl, refl)
no_calls_more node.Two a = (refl, refl, refl)

-- so many calls of the node, and one more
pub one_call_more : (n : Node) (k : ℕ) (a b c : Counts) → CountsCalls n k a b → CountsCall n b c → CountsCalls n (k + 1) a c
one_call_more node.Zero k a b c h p = (p.0 ∙ ap one_more h.0 ∙ calls_next k a.zero, p.1 ∙ h.1, p.2 ∙ h.2)
one_call_more node.One k a b c h p = (p.0 ∙ h.0, p.1 ∙ ap one_more h.1 ∙ calls_next k a.one, p.2 ∙ h.2)
one_call_more node.Two k a b c h p = (p.0 ∙ h.0, p.1 ∙ h.1, p.2 ∙ ap one_more h.2 ∙ calls_next k a.two)

-- these calls are within a number that they do not pass
pub calls_up_to : (n : Node) (k m : ℕ) (a b : Counts) → CountsCalls n k a b → k ≤ m → CountsCallsUpTo n m a b
calls_up_to node.Zero k m a b h l = let w = calls_bound k a.zero in (rw h.0 (omega arith), h.1, h.2)
calls_up_to node.One k m a b h l = let w = calls_bound k a.one in (h.0, rw h.1 (omega arith), h.2)
calls_up_to node.Two k m a b h l = let w = calls_bound k a.two in (h.0, h.1, rw h.2 (omega arith))

-- a call that ended well is not a fault
pub no_fault_more : (n : Node) (a b c : Counts) → CountsNone a b → CountsFault n true b c → CountsNone a c
no_fault_more node.Zero a b c h p = (omega (arith, h.0, p.0), p.1 ∙ h.1, p.2 ∙ h.2)
no_fault_more node.One a b c h p = (p.0 ∙ h.0, omega (arith, h.1, p.1), p.2 ∙ h.2)
no_fault_more node.Two a b c h p = (p.0 ∙ h.0, p.1 ∙ h.1, omega (arith, h.2, p.2))

-- a call that did not end well is the first fault
pub one_fault_more : (n : Node) (a b c : Counts) → CountsNone a b → CountsFault n false b c → CountsFault n false a c
one_fault_more node.Zero a b c h p = (omega (arith, h.0, p.0), p.1 ∙ h.1, p.2 ∙ h.2)
one_fault_more node.One a b c h p = (p.0 ∙ h.0, omega (arith, h.1, p.1), p.2 ∙ h.2)
one_fault_more node.Two a b c h p = (p.0 ∙ h.0, p.1 ∙ h.1, omega (arith, h.2, p.2))

-- one more of a list
take_suc : {X : Type 0} (xs : List X) (i : ℕ) (x : X) → slice_get xs i ≡ Some x → take (suc i) xs ≡ take i xs ++ x ∷ []
take_suc [] i x h = absurd (grind arith)
take_suc (y ∷ xs) zero x h = grind arith
take_suc (y ∷ xs) (suc i) x h = ap (λ l. y ∷ l) (take_suc xs i x h)

pub take_next : {X : Type 0} (xs : List X) (i : ℕ) (x : X) → slice_get xs i ≡ Some x → take (i + 1) xs ≡ take i xs ++ x ∷ []
take_next xs i x h = let e : i + 1 ≡ suc i = omega arith in rw e (take_suc xs i x h)

-- three replicas, or none, of an extent: a node has a replica if and only if it has a copy, and each replica has the blocks
pub record AreCopies (z o t : Option Copy) (e : Closed) : Type 0 where
  pub zero : IfSome z (λ r. r.blocks ≡ e.blocks)
  pub one : IfSome o (λ r. r.blocks ≡ e.blocks)
  pub two : IfSome t (λ r. r.blocks ≡ e.blocks)
  pub kept_zero : is_some z ≡ e.kept.zero
  pub kept_one : is_some o ≡ e.kept.one
  pub kept_two : is_some t ≡ e.kept.two
  pub some : (is_some z || (is_some o || is_some t)) ≡ true

-- what a replica, if there is one, has as its blocks, the other one has too
abbrev IsCopyOf : Option Copy → Option Copy → Type 0
IsCopyOf r k = (is_some k ≡ is_some r) × ((blocks : List Block) → IfSome r (λ x. x.blocks ≡ blocks) → IfSome k (λ x. x.blocks ≡ blocks))

-- copies of the replicas of an extent
pub copies_of : (z o t x y w : Option Copy)
    → (((is_some z || (is_some o || is_some t)) ≡ true)
    × (IfSome z (λ r. r.blocks ≡ first_kept z o t) × (IfSome o (λ r. r.blocks ≡ first_kept z o t) × IfSome t (λ r. r.blocks ≡ first_kept z o t))))
    → IsCopyOf z x → IsCopyOf o y → IsCopyOf t w
    → AreCopies x y w (record { blocks = first_kept z o t; kept = record { zero = is_some z; one = is_some o; two = is_some t } })
copies_of z o t x y w h a b c = record {
  zero = a.1 (first_kept z o t) h.1.0;
  one = b.1 (first_kept z o t) h.1.1.0;
  two = c.1 (first_kept z o t) h.1.1.1;
  kept_zero = a.0;
  kept_one = b.0;
  kept_two = c.0;
  some = rw (a.0, b.0, c.0) h.0;
}

-- the first replica has the blocks
first_of_copies : (z o t : Option Copy) (e : Closed) → AreCopies z o t e → first_kept z o t ≡ e.blocks
first_of_copies (Some r) o t e h = h.zero
first_of_copies None (Some r) t e h = h.one
first_of_copies None None (Some r) e h = h.two
first_of_copies None None None e h = absurd (grind (arith, h.some))

-- each of them has the blocks of the first one
pub same_as_first : (z o t : Option Copy) (e : Closed) → AreCopies z o t e
    → ((is_some z || (is_some o || is_some t)) ≡ true)
    × (IfSome z (λ r. r.blocks ≡ first_kept z o t) × (IfSome o (λ r. r.blocks ≡ first_kept z o t) × IfSome t (λ r. r.blocks ≡ first_kept z o t)))
same_as_first z o t e h =
    let first = sym (first_of_copies z o t e h) in (
      h.some,
      (
        subst (λ l. IfSome z (λ r. r.blocks ≡ l)) first h.zero,
        (subst (λ l. IfSome o (λ r. r.blocks ≡ l)) first h.one, subst (λ l. IfSome t (λ r. r.blocks ≡ l)) first h.two),
      ),
    )

-- they are seen as the extent
pub seen_as : (z o t : Option Copy) (e : Closed) → AreCopies z o t e
    → record { blocks = first_kept z o t; kept = record { zero = is_some z; one = is_some o; two = is_some t } } ≡ e
seen_as z o t e h = λ i. record {
  blocks = first_of_copies z o t e h i;
  kept = record { zero = h.kept_zero i; one = h.kept_one i; two = h.kept_two i };
}
