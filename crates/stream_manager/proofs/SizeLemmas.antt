-- Extents stay within their bytes.
use Rattle.std.proofs.Common.{◌≡◌, ◌≤◌, ◌<◌, inl, inr, ◌∙◌, ℕ, zero, suc, ◌+◌, min, Bool, true, false, Option, Some, None, Result, Ok, Err, IfOk, OnErr, List, [], ◌∷◌, ◌++◌, length, map, ap, refl, arith, append-nil, length-append}
use Rattle.std.specs.Option.{option_to_list}
use Rattle.std.proofs.lemmas.List.Sums.{sum_by-append, sum_by-cons}
use Rattle.std.proofs.lemmas.List.{map-set}
use Rattle.std.proofs.lemmas.List.Elements.{All-cons, All-push, All-set, All-tail}
use Rattle.extent_node.specs.Copies.{Block}
use Rattle.extent_node.specs.Faults.{held}
use Rattle.std.specs.Prelude.{All, slice_set}
use Rattle.extent_seal.specs.Extents.{Open, Closed, no_blocks}
use Rattle.stream_manager.specs.Extents.{closed_blocks}
use Rattle.stream_manager.specs.GivenUp.{without, without_front}
use Rattle.stream_manager.specs.Sizes.{IsWithin, AreSized, AreCounted, bytes_of}

within_part : (limit : ℕ) (xs ys : List Block) → IsWithin limit (xs ++ ys) → IsWithin limit (xs ++ [])
within_part limit xs ys (inl l) = inl (grind (arith, length-append))
within_part limit xs ys (inr l) =
    let s = sum_by-append length xs ys in
    inr (rw append-nil (omega (arith, l, s)))

within_held : (limit : ℕ) (xs : List Block) (kept : Bool) (tried : Option Block) → IsWithin limit (xs ++ option_to_list tried) → IsWithin limit (xs ++ held kept tried)
within_held limit xs true tried h = h
within_held limit xs false tried h = within_part limit xs (option_to_list tried) h

closed_sized : (limit : ℕ) (old new : List Closed) (last next : Open) (kept : Bool)
    → map closed_blocks new ≡ map closed_blocks old ++ (last.blocks ++ held kept last.tried) ∷ [] → next.blocks ≡ [] → next.tried ≡ None
    → AreSized limit old last → AreSized limit new next
closed_sized limit old new last next kept m b t s = record {
  each = rw m (All-push (IsWithin limit) (map closed_blocks old) (last.blocks ++ held kept last.tried) s.each (within_held limit last.blocks kept last.tried s.whole));
  whole = rw (b, t) (inl (omega arith));
}

-- a seal, or none
pub close_sized : {E : Type 0} (r : Result Bool E) (old new : List Closed) (last next : Open)
    → IfOk r (λ kept. map closed_blocks new ≡ map closed_blocks old ++ (last.blocks ++ held kept last.tried) ∷ [])
    → IfOk r (λ kept. next.blocks ≡ []) → IfOk r (λ kept. next.tried ≡ None) → OnErr r (new ≡ old) → OnErr r (next ≡ last)
    → (limit : ℕ) → AreSized limit old last → AreSized limit new next
close_sized (Ok kept) old new last next m b t n l limit s = closed_sized limit old new last next kept m b t s
close_sized (Err e) old new last next m b t n l limit s = rw (n, l) s

pub close_counted : {E : Type 0} (r : Result Bool E) (old new : ℕ) (last next : Open)
    → IfOk r (λ kept. next.blocks ≡ []) → IfOk r (λ kept. new ≡ 0) → OnErr r (new ≡ old) → OnErr r (next ≡ last)
    → AreCounted old last → AreCounted new next
close_counted (Ok kept) old new last next b z n l c = rw (z, b) refl
close_counted (Err e) old new last next b z n l c = rw (n, l) c

pub whole_sized : (sealed : List Closed) (last new : Open) (b : Block) → new.blocks ≡ last.blocks ++ b ∷ [] → new.tried ≡ None
    → (limit : ℕ) → IsWithin limit (last.blocks ++ b ∷ []) → AreSized limit sealed last → AreSized limit sealed new
whole_sized sealed last new b n t limit f s = record { each = s.each; whole = rw (n, t, append-nil) f }

pub short_sized : (sealed : List Closed) (last new : Open) (b : Block) → new.blocks ≡ last.blocks → new.tried ≡ Some b
    → (limit : ℕ) → IsWithin limit (last.blocks ++ b ∷ []) → AreSized limit sealed last → AreSized limit sealed new
short_sized sealed last new b n t limit f s = record { each = s.each; whole = rw (n, t) f }

bytes_more : (xs : List Block) (b : Block) → bytes_of (xs ++ b ∷ []) ≡ bytes_of xs + length b
bytes_more xs b = sum_by-append length xs (b ∷ []) ∙ ap (λ n. bytes_of xs + n) (grind (arith, sum_by-cons))

pub more_counted : (n m : ℕ) (last new : Open) (b : Block) → new.blocks ≡ last.blocks ++ b ∷ [] → m ≡ min (n + length b) 18_446_744_073_709_551_615
    → AreCounted n last → AreCounted m new
more_counted n m last new b e k c =
    let s = bytes_more last.blocks b in
    rw (e, s, k, c) (omega arith)

-- a block that the count leaves room for
pub room_within : (n limit len : ℕ) (last : Open) (b : Block) → AreCounted n last → limit < 18_446_744_073_709_551_615
    → min (n + len) 18_446_744_073_709_551_615 ≤ limit → length b ≡ len → IsWithin limit (last.blocks ++ b ∷ [])
room_within n limit len last b c f l e =
    let s = bytes_more last.blocks b in
    inr (rw s (omega (arith, c, l, e)))

pub first_within : (limit : ℕ) (last : Open) (b : Block) → last.blocks ≡ [] → IsWithin limit (last.blocks ++ b ∷ [])
first_within limit last b e = rw e (inl (omega arith))

-- the sealed extents with another last one, which has no blocks
pub none_sized : (limit : ℕ) (sealed : List Closed) (last next : Open) → next.blocks ≡ [] → next.tried ≡ None → AreSized limit sealed last → AreSized limit sealed next
none_sized limit sealed last next b t s = record { each = s.each; whole = rw (b, t) (inl (omega arith)) }

-- an extent that was given up is within each limit
pub given_up_sized : (limit : ℕ) (old new : List Closed) (e : ℕ) (last : Open) → new ≡ without e old → AreSized limit old last → AreSized limit new last
given_up_sized limit old new e last is s = rw is (record {
  each = rw (map-set closed_blocks old e no_blocks) (All-set (IsWithin limit) (map closed_blocks old) e [] (inl (omega arith)) s.each);
  whole = s.whole;
})

each_front : (limit n : ℕ) (xs : List Closed) → All (IsWithin limit) (map closed_blocks xs) → All (IsWithin limit) (map closed_blocks (without_front n xs))
each_front limit zero xs all = all
each_front limit (suc n) [] all = all
each_front limit (suc n) (x ∷ xs) all =
    All-cons (IsWithin limit) [] (map closed_blocks (without_front n xs)) (inl (omega arith)) (each_front limit n xs (All-tail (IsWithin limit) x.blocks (map closed_blocks xs) all))

-- so are the first extents
pub front_sized : (limit : ℕ) (old new : List Closed) (n : ℕ) (last : Open) → new ≡ without_front n old → AreSized limit old last → AreSized limit new last
front_sized limit old new n last is s = rw is (record { each = each_front limit n old s.each; whole = s.whole })
