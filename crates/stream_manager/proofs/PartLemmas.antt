-- The parts of a stream after its last extent is sealed, or after no node answered.
use Rattle.std.proofs.Common.{◌≡◌, Bool, true, None, Result, Ok, Err, IfOk, OnErr, [], ◌∷◌, ◌++◌, length, map}
use Rattle.std.specs.Option.{is_some}
use Rattle.extent_node.specs.Faults.{Calls, held}
use Rattle.stream_manager.specs.Extents.{closed_blocks}
use Rattle.stream_manager.specs.Parts.{EndsDoubt, IsUnanswered, IsWhole, SealsLast, StaysWhole, extents_of}
use Rattle.stream_manager.specs.Places.{Decides, Follows}
use Rattle.stream_manager.specs.declared.parts.Parts.{Parts}
use Rattle.stream_manager.proofs.PlaceLemmas.{close_follows, close_decides}
use Rattle.stream_manager.proofs.SizeLemmas.{close_sized, close_counted}

-- what is known after the seal, part by part
pub last_blocks : {E : Type 0} (r : Result Bool E) (p q : Parts) (from to : Calls) → IfOk r (λ kept. SealsLast p q from to) → IfOk r (λ kept. q.last.extent.blocks ≡ [])
last_blocks (Ok kept) p q from to n = n.blocks
last_blocks (Err e) p q from to n = tt

last_tried : {E : Type 0} (r : Result Bool E) (p q : Parts) (from to : Calls) → IfOk r (λ kept. SealsLast p q from to) → IfOk r (λ kept. q.last.extent.tried ≡ None)
last_tried (Ok kept) p q from to n = n.tried
last_tried (Err e) p q from to n = tt

same_sealed : {E : Type 0} (r : Result Bool E) (p q : Parts) (from to : Calls) → OnErr r (IsUnanswered p q from to) → OnErr r (q.sealed.extents ≡ p.sealed.extents)
same_sealed (Ok kept) p q from to u = tt
same_sealed (Err e) p q from to u = u.unsealed.same_sealed

same_last : {E : Type 0} (r : Result Bool E) (p q : Parts) (from to : Calls) → OnErr r (IsUnanswered p q from to) → OnErr r (q.last.extent ≡ p.last.extent)
same_last (Ok kept) p q from to u = tt
same_last (Err e) p q from to u = u.unsealed.same_last

both : {E : Type 0} (r : Result Bool E) (p q : Parts) → IfOk r (λ kept. Follows (extents_of p) (held kept p.last.extent.tried) (extents_of q))
    → IfOk r (λ kept. is_some p.last.extent.tried ≡ true → Decides kept (length p.sealed.extents) p.last.extent (extents_of q)) → IfOk r (λ kept. EndsDoubt kept p q)
both (Ok kept) p q f d = record { follows = f; decided = d }
both (Err e) p q f d = tt

-- a doubt has ended after it
pub close_ends : {E : Type 0} (r : Result Bool E) (p q : Parts)
    → IfOk r (λ kept. map closed_blocks q.sealed.extents ≡ map closed_blocks p.sealed.extents ++ (p.last.extent.blocks ++ held kept p.last.extent.tried) ∷ [])
    → IfOk r (λ kept. q.last.extent.blocks ≡ []) → IfOk r (λ kept. EndsDoubt kept p q)
close_ends r p q moved blocks =
    both r p q
    (close_follows r (map closed_blocks p.sealed.extents) (map closed_blocks q.sealed.extents) p.last.extent q.last.extent moved blocks)
    (close_decides r p.sealed.extents (map closed_blocks q.sealed.extents) p.last.extent q.last.extent moved)

-- whole parts are whole after it
pub close_whole : {E : Type 0} (r : Result Bool E) (p q : Parts) (from to : Calls)
    → IfOk r (λ kept. map closed_blocks q.sealed.extents ≡ map closed_blocks p.sealed.extents ++ (p.last.extent.blocks ++ held kept p.last.extent.tried) ∷ [])
    → IfOk r (λ kept. SealsLast p q from to) → OnErr r (IsUnanswered p q from to) → IfOk r (λ kept. q.bytes ≡ 0) → OnErr r (q.bytes ≡ p.bytes)
    → q.limit ≡ p.limit → IsWhole p → StaysWhole p q
close_whole r p q from to moved sealed same zero bytes limit whole =
    let b = last_blocks r p q from to sealed in
    let t = last_tried r p q from to sealed in
    let s = same_sealed r p q from to same in
    let l = same_last r p q from to same in
    record {
      whole = record {
        sized = close_sized r p.sealed.extents q.sealed.extents p.last.extent q.last.extent moved b t s l q.limit (rw limit whole.sized);
        counted = close_counted r p.bytes q.bytes p.last.extent q.last.extent b zero bytes l whole.counted;
      };
      limit = limit;
    }
