-- Extents of which one got a copy on a node: their blocks are as they were.
use Rattle.std.proofs.Common.{◌≡◌, ◌∙◌, ℕ, true, false, Some, Result, Ok, Err, List, map, get_or, slice_set, ap, refl, subst}
use Rattle.std.proofs.Math.Seq.{map-set_same}
use Rattle.std.proofs.lemmas.Option.{get_or_from_slice_get}
use Rattle.std.specs.List.{slice_get}
use Rattle.extent_node.specs.Faults.{Calls}
use Rattle.extent_node.specs.declared.wire.Node.{Node}
use Rattle.extent_seal.specs.Extents.{Closed, answer_of}
use Rattle.extent_seal.specs.Repairs.{Copies, FailsToCopy}
use Rattle.extent_seal.specs.declared.sealed.ReadFault.{ReadFault}
use Rattle.extent_seal.specs.declared.sealed.ReadFault.TheVariants as read
use Rattle.stream_manager.specs.Extents.{closed_blocks}
use Rattle.stream_manager.specs.Repairs.{CountsRepair, IsUnheard, fault_of}
use Rattle.stream_manager.specs.declared.faults.RepairFault.TheVariants as fault

-- what the repair of an extent answers
abbrev copied : Result (Unit {0}) ReadFault → Result (Unit {0}) ReadFault
copied r = r

-- an extent with the same blocks in its place
pub same_blocks_at : (e : ℕ) (sealed : List Closed) (c d : Closed) → c ≡ get_or sealed e c → d.blocks ≡ c.blocks → map closed_blocks (slice_set sealed e d) ≡ map closed_blocks sealed
same_blocks_at e sealed c d here is = map-set_same closed_blocks sealed e d c (is ∙ ap closed_blocks here)

-- what is counted if the repair of the extent at this number succeeds
pub counts_ok : (n : Node) (h e : Closed) (a b c d : Calls) → h ≡ e
    → (answer_of h.kept n ≡ true → IsUnheard a b c d) → (answer_of h.kept n ≡ false → Copies n h a b c d) → CountsRepair (Ok tt) n e a b c d
counts_ok n h e a b c d is there lacking = subst (λ x. CountsRepair (Ok tt) n x a b c d) is (record { there = there; lacking = lacking })

-- and if it fails
pub counts_err : (f : ReadFault) (n : Node) (h e : Closed) (a b c d : Calls) → h ≡ e → answer_of h.kept n ≡ false
    → (copied (Err f) ≡ Err read.Unreachable → FailsToCopy n h a b c d) → (copied (Err f) ≡ Err read.NoMemory → IsUnheard a b c d)
    → CountsRepair (Err (fault_of f)) n e a b c d
counts_err read.Unreachable n h e a b c d is lacking silent full = subst (λ x. CountsRepair (Err fault.Unreachable) n x a b c d) is (lacking, silent refl)
counts_err read.NoMemory n h e a b c d is lacking silent full = subst (λ x. CountsRepair (Err fault.NoMemory) n x a b c d) is (lacking, full refl)

-- one extent is at a number
pub same_at : (sealed : List Closed) (i : ℕ) (h e : Closed) → h ≡ get_or sealed i h → slice_get sealed i ≡ Some e → h ≡ e
same_at sealed i h e p q = p ∙ get_or_from_slice_get sealed i e h q
