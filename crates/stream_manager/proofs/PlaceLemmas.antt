-- Blocks that are appended, and extents that are sealed, leave each block at its place.
use Rattle.std.proofs.Common.{◌≡◌, ◌≤◌, ◌<◌, ◌⊎◌, inl, inr, ◌+◌, ◌∙◌, ℕ, zero, suc, Bool, true, false, Option, Some, None, ◌-◌, nat_lt, Result, Ok, Err, IfOk, List, [], ◌∷◌, ◌++◌, length, map, sym, ap, refl, arith, append-nil, append_assoc, length-append}
use Rattle.std.specs.List.{slice_get}
use Rattle.std.specs.Option.{option_and_then, is_some}
use Rattle.std.proofs.lemmas.Grind.{flat_map-append}
use Rattle.std.proofs.lemmas.List.{length-map, map-append}
use Rattle.stamp_values.specs.declared.place.Place.{Place}
use Rattle.extent_node.specs.Copies.{Block}
use Rattle.extent_node.specs.Faults.{held}
use Rattle.extent_seal.specs.Extents.{Open, Closed}
use Rattle.extent_seal.specs.Seals.{IsCommitted}
use Rattle.stream_manager.specs.Extents.{closed_blocks, extents}
use Rattle.stream_manager.specs.Places.{block_at, blocks_of, is_kept, IsLastAt, KeepsSealed, Follows, Decides}

-- what stands in a list stands there if more comes after it
get_more : {X : Type 0} (xs ys : List X) (i : ℕ) (x : X) → slice_get xs i ≡ Some x → slice_get (xs ++ ys) i ≡ Some x
get_more [] ys i x h = absurd (grind arith)
get_more (y ∷ xs) ys zero x h = h
get_more (y ∷ xs) ys (suc i) x h = get_more xs ys i x h

-- what comes right after a list
get_next : {X : Type 0} (xs : List X) (x : X) (ys : List X) → slice_get (xs ++ x ∷ ys) (length xs) ≡ Some x
get_next [] x ys = refl
get_next (y ∷ xs) x ys = get_next xs x ys

-- the last extent grows, and more extents come after it
grown_at : (front : List (List Block)) (last more : List Block) (rest : List (List Block)) (e i : ℕ) (b : Block)
    → option_and_then (λ blocks. slice_get blocks i) (slice_get (front ++ last ∷ []) e) ≡ Some b
    → option_and_then (λ blocks. slice_get blocks i) (slice_get (front ++ (last ++ more) ∷ rest) e) ≡ Some b
grown_at [] last more rest zero i b h = get_more last more i b h
grown_at [] last more rest (suc e) i b h = absurd (grind arith)
grown_at (x ∷ front) last more rest zero i b h = h
grown_at (x ∷ front) last more rest (suc e) i b h = grown_at front last more rest e i b h

-- each extent before the last one is as it was
front_at : (front : List (List Block)) (last new : List Block) (rest : List (List Block)) (e : ℕ) → e + 1 < length (front ++ last ∷ [])
    → slice_get (front ++ new ∷ rest) e ≡ slice_get (front ++ last ∷ []) e
front_at [] last new rest e h = absurd (omega arith)
front_at (x ∷ front) last new rest zero h = refl
front_at (x ∷ front) last new rest (suc e) h = front_at front last new rest e (omega arith)

-- there are as many extents at least
longer_by : (front : List (List Block)) (last new : List Block) (rest : List (List Block)) → length (front ++ last ∷ []) ≤ length (front ++ new ∷ rest)
longer_by [] last new rest = omega arith
longer_by (x ∷ front) last new rest = let h = longer_by front last new rest in omega arith

front_kept : (front : List (List Block)) (last new : List Block) (rest : List (List Block)) → KeepsSealed (front ++ last ∷ []) (front ++ new ∷ rest)
front_kept front last new rest = record { closed = λ e h. front_at front last new rest e h; longer = longer_by front last new rest }

-- the last extent takes blocks
pub grown : (front : List (List Block)) (last more : List Block) → Follows (front ++ last ∷ []) more (front ++ (last ++ more) ∷ [])
grown front last more = record {
  order = grind (arith, flat_map-append, append-nil, append_assoc);
  kept = λ p b h. grown_at front last more [] p.extent p.index b h;
  sealed = front_kept front last (last ++ more) [];
}

-- the last extent is sealed with blocks after those that it had, and an extent without blocks follows
pub closed : (front : List (List Block)) (last more : List Block) → Follows (front ++ last ∷ []) more ((front ++ (last ++ more) ∷ []) ++ [] ∷ [])
closed front last more = record {
  order = grind (arith, flat_map-append, append-nil, append_assoc);
  kept = λ p b h. rw append_assoc (grown_at front last more ([] ∷ []) p.extent p.index b h);
  sealed = rw append_assoc (front_kept front last (last ++ more) ([] ∷ []));
}

-- the place of the next block
pub next_at : (front : List (List Block)) (last : List Block) (b : Block) (more : List Block) (rest : List (List Block)) (p : Place)
    → p.extent ≡ length front → p.index ≡ length last → block_at (front ++ (last ++ b ∷ more) ∷ rest) p ≡ Some b
next_at front last b more rest p e i =
    rw (e, i) (ap (option_and_then (λ blocks. slice_get blocks (length last))) (get_next front (last ++ b ∷ more) rest) ∙ get_next last b more)

-- an index with something is below the length
get_below : {X : Type 0} (xs : List X) (i : ℕ) (x : X) → slice_get xs i ≡ Some x → i < length xs
get_below [] i x h = absurd (grind arith)
get_below (y ∷ xs) zero x h = omega arith
get_below (y ∷ xs) (suc i) x h = let l = get_below xs i x h in omega arith

-- a place that has a block is in an extent that exists
pub place_within : (es : List (List Block)) (p : Place) (b : Block) → block_at es p ≡ Some b → p.extent < length es
place_within es p b h = extent_within es p.extent (slice_get es p.extent) refl h
  where
    extent_within : (fs : List (List Block)) (e : ℕ) (o : Option (List Block)) → slice_get fs e ≡ o → option_and_then (λ blocks. slice_get blocks p.index) o ≡ Some b → e < length fs
    extent_within fs e None at got = absurd cc
    extent_within fs e (Some blocks) at got = get_below fs e blocks at

-- the extents after an extent have no block
none_in : (rest : List (List Block)) → (rest ≡ []) ⊎ (rest ≡ [] ∷ []) → (e i : ℕ) (c : Block)
    → option_and_then (λ blocks. slice_get blocks i) (slice_get rest e) ≡ Some c → ⊥
none_in rest (inl n) e i c h = grind arith
none_in rest (inr n) zero i c h = grind arith
none_in rest (inr n) (suc e) i c h = grind arith

-- no block comes after the last block of an extent, if the extents after it have no block
none_after : (front : List (List Block)) (last : List Block) (b : Block) (rest : List (List Block)) → (rest ≡ []) ⊎ (rest ≡ [] ∷ [])
    → (e i : ℕ) (c : Block) → option_and_then (λ blocks. slice_get blocks i) (slice_get (front ++ (last ++ b ∷ []) ∷ rest) e) ≡ Some c
    → (e < length front) ⊎ ((e ≡ length front) × (i ≤ length last))
none_after [] last b rest n zero i c h = let l = get_below (last ++ b ∷ []) i c h in inr (refl, grind (arith, length-append))
none_after [] last b rest n (suc e) i c h = absurd (none_in rest n e i c h)
none_after (x ∷ front) last b rest n zero i c h = inl (omega arith)
none_after (x ∷ front) last b rest n (suc e) i c h = elim (none_after front last b rest n e i c h) [
  | inl l ↦ inl (omega arith)
  | inr k ↦ inr (omega arith, k.1)
]

-- at most one extent comes after it
near_end : (front : List (List Block)) (last : List Block) (rest : List (List Block)) → (rest ≡ []) ⊎ (rest ≡ [] ∷ [])
    → length (front ++ last ∷ rest) ≤ length front + 2
near_end [] last rest (inl n) = rw n (omega arith)
near_end [] last rest (inr n) = rw n (omega arith)
near_end (x ∷ front) last rest n = let h = near_end front last rest n in omega arith

-- the place of the next block is the last one, if the extents after it have no block
pub last_at : (front : List (List Block)) (last : List Block) (b : Block) (rest : List (List Block)) (p : Place) → (rest ≡ []) ⊎ (rest ≡ [] ∷ [])
    → p.extent ≡ length front → p.index ≡ length last → IsLastAt (front ++ (last ++ b ∷ []) ∷ rest) p b
last_at front last b rest p n e i = record {
  here = next_at front last b [] rest p e i;
  last = λ q c h. rw (e, i) (none_after front last b rest n q.extent q.index c h);
  near = rw e (near_end front (last ++ b ∷ []) rest n);
}

-- nothing is added
pub same : (es : List (List Block)) → Follows es [] es
same es = record { order = sym (append-nil (blocks_of es)); kept = λ p b h. h; sealed = record { closed = λ e h. refl; longer = omega arith } }

sealed_onward : (es fs gs : List (List Block)) → KeepsSealed es fs → KeepsSealed fs gs → KeepsSealed es gs
sealed_onward es fs gs a b = record {
  closed = λ e h. b.closed e (let l = a.longer in omega arith) ∙ a.closed e h;
  longer = let l = a.longer in let m = b.longer in omega arith;
}

-- sealed extents that are as they were
pub sealed_still : (es : List (List Block)) → KeepsSealed es es
sealed_still es = record {
  closed = λ e h. refl;
  longer = omega arith;
}

-- what is added twice is added together
pub onward : (es fs gs : List (List Block)) (xs ys : List Block) → Follows es xs fs → Follows fs ys gs → Follows es (xs ++ ys) gs
onward es fs gs xs ys a b = record {
  order = b.order ∙ ap (λ l. l ++ ys) a.order ∙ append_assoc (blocks_of es) xs ys;
  kept = λ p x h. b.kept p x (a.kept p x h);
  sealed = sealed_onward es fs gs a.sealed b.sealed;
}

-- the extents after a seal
pub closed_follows : (front after : List (List Block)) (last new more : List Block) → after ≡ front ++ (last ++ more) ∷ [] → new ≡ []
    → Follows (front ++ last ∷ []) more (after ++ new ∷ [])
closed_follows front after last new more a n = rw (a, n) (closed front last more)

-- where the block is that the seal kept
pub closed_at : (front after : List (List Block)) (last new more : List Block) (b : Block) (p : Place) → after ≡ front ++ (last ++ more) ∷ [] → new ≡ []
    → more ≡ b ∷ [] → p.extent ≡ length front → p.index ≡ length last → IsLastAt (after ++ new ∷ []) p b
closed_at front after last new more b p a n m e i =
    rw (a, n, m, append_assoc) (last_at front last b ([] ∷ []) p (inr refl) e i)

-- the extents after an append that all nodes took
pub grown_follows : (front : List (List Block)) (last new : List Block) (b : Block) → new ≡ last ++ b ∷ []
    → Follows (front ++ last ∷ []) (b ∷ []) (front ++ new ∷ [])
grown_follows front last new b n = rw n (grown front last (b ∷ []))

-- where the block is that all nodes took
pub grown_here : (front : List (List Block)) (last new : List Block) (b : Block) (p : Place) → new ≡ last ++ b ∷ []
    → p.extent ≡ length front → p.index ≡ length last → IsLastAt (front ++ new ∷ []) p b
grown_here front last new b p n e i = rw n (last_at front last b [] p (inl refl) e i)

-- a seal, or no seal
pub close_follows : {E : Type 0} (r : Result Bool E) (front after : List (List Block)) (last new : Open)
    → IfOk r (λ kept. after ≡ front ++ (last.blocks ++ held kept last.tried) ∷ []) → IfOk r (λ kept. new.blocks ≡ [])
    → IfOk r (λ kept. Follows (front ++ last.blocks ∷ []) (held kept last.tried) (after ++ new.blocks ∷ []))
close_follows (Ok kept) front after last new a n = closed_follows front after last.blocks new.blocks (held kept last.tried) a n
close_follows (Err e) front after last new a n = tt

-- where the block that was tried is, if the seal kept it
pub close_at : {E : Type 0} (r : Result Bool E) (sealed : List Closed) (after : List (List Block)) (last new : Open)
    → IfOk r (λ kept. after ≡ map closed_blocks sealed ++ (last.blocks ++ held kept last.tried) ∷ []) → IfOk r (λ kept. new.blocks ≡ [])
    → IfOk r (λ kept. (b : Block) → (p : Place) → held kept last.tried ≡ b ∷ [] → p.extent ≡ length sealed → p.index ≡ length last.blocks
    → IsLastAt (after ++ new.blocks ∷ []) p b)
close_at (Ok kept) sealed after last new a n =
    λ b p m e i. closed_at (map closed_blocks sealed) after last.blocks new.blocks (held kept last.tried) b p a n m (e ∙ sym (length-map sealed closed_blocks)) i
close_at (Err e) sealed after last new a n = tt

-- where the block of an append is
pub append_at : (sealed : List Closed) (last new : Open) (b : Block) (p : Place) → new.blocks ≡ last.blocks ++ b ∷ []
    → p.extent ≡ length sealed → p.index ≡ length last.blocks → IsLastAt (extents sealed new) p b
append_at sealed last new b p n e i = grown_here (map closed_blocks sealed) last.blocks new.blocks b p n (e ∙ sym (length-map sealed closed_blocks)) i

-- an extent after a seal, which had a doubt
decided : (n : ℕ) (front after : List (List Block)) (last : Open) (new : List Block) (kept : Bool)
    → after ≡ front ++ (last.blocks ++ held kept last.tried) ∷ [] → n ≡ length front → Decides kept n last (after ++ new ∷ [])
decided n front after last new kept a e = record {
  whole = rw (a, e, append_assoc) (get_next front (last.blocks ++ held kept last.tried) (new ∷ []));
  later = rw (a, e) (grind (arith, length-append));
}

-- a seal ends a doubt
pub close_decides : {E : Type 0} (r : Result Bool E) (sealed : List Closed) (after : List (List Block)) (last new : Open)
    → IfOk r (λ kept. after ≡ map closed_blocks sealed ++ (last.blocks ++ held kept last.tried) ∷ [])
    → IfOk r (λ kept. is_some last.tried ≡ true → Decides kept (length sealed) last (after ++ new.blocks ∷ []))
close_decides (Ok kept) sealed after last new a =
    λ s. decided (length sealed) (map closed_blocks sealed) after last new.blocks kept a (sym (length-map sealed closed_blocks))
close_decides (Err e) sealed after last new a = tt

-- nothing comes at the length of a list
get_past : {X : Type 0} (xs : List X) → slice_get xs (length xs) ≡ None
get_past [] = refl
get_past (x ∷ xs) = get_past xs

-- a block comes after some blocks, or it does not
held_at : (xs : List Block) (d : Block) (kept : Bool) → is_some (slice_get (xs ++ held kept (Some d)) (length xs)) ≡ kept
held_at xs d true = ap is_some (get_next xs d [])
held_at xs d false = ap is_some (ap (λ l. slice_get l (length xs)) (append-nil xs) ∙ get_past xs)

-- what was decided is seen at the place that was the next one
kept_here : (kept : Bool) (n : ℕ) (old : Open) (d : Block) (es mid fs : List (List Block)) → length es - 1 ≡ n → old.tried ≡ Some d
    → Decides kept n old mid → KeepsSealed mid fs → kept ≡ is_kept es old fs
kept_here kept n old d es mid fs e t c k =
    let h : slice_get fs n ≡ Some (old.blocks ++ held kept old.tried) = k.closed n c.later ∙ c.whole in
    rw (e, h, t) (sym (held_at old.blocks d kept))

-- without a block nothing is held
held_as : (tried : Option Block) (a b : Bool) → ((d : Block) → tried ≡ Some d → a ≡ b) → held a tried ≡ held b tried
held_as (Some d) a b h = ap (λ k. held k (Some d)) (h d refl)
held_as None true true h = refl
held_as None true false h = refl
held_as None false true h = refl
held_as None false false h = refl

-- what was kept of a doubt, if there was one
pub held_here : (kept : Bool) (n : ℕ) (old : Open) (es mid fs : List (List Block)) → length es - 1 ≡ n
    → (is_some old.tried ≡ true → Decides kept n old mid) → KeepsSealed mid fs → held kept old.tried ≡ held (is_kept es old fs) old.tried
held_here kept n old es mid fs e c k =
    held_as old.tried kept (is_kept es old fs) (λ d t. kept_here kept n old d es mid fs e t (c (ap is_some t)) k)

-- the number of the last extent
pub last_number : (sealed : List Closed) (last : Open) → length (extents sealed last) - 1 ≡ length sealed
last_number sealed last = grind (arith, length-append, length-map)

-- the blocks of a sealed extent: the block that was tried is there if they are more than the acknowledged ones
committed_held : (e : Open) (blocks : List Block) (len n : ℕ) → IsCommitted e blocks → len ≡ length e.blocks → n ≡ length blocks
    → blocks ≡ e.blocks ++ held (nat_lt len n) e.tried
committed_held e blocks len n (inl same) l m =
    let shorter : nat_lt len n ≡ false = rw (l, m, same) (grind arith) in
    rw shorter (same ∙ sym (append-nil e.blocks))
committed_held e blocks len n (inr p) l m =
    let longer : nat_lt len n ≡ true = rw (l, m, p.2) (grind (arith, length-append)) in
    rw (longer, p.1) p.2

-- the sealed extents after a seal
pub seal_moves : (old new : List Closed) (s : Closed) (e : Open) (len n : ℕ) → new ≡ old ++ s ∷ []
    → IsCommitted e s.blocks → len ≡ length e.blocks → n ≡ length s.blocks
    → map closed_blocks new ≡ map closed_blocks old ++ (e.blocks ++ held (nat_lt len n) e.tried) ∷ []
seal_moves old new s e len n m c l k =
    let blocks = committed_held e s.blocks len n c l k in
    rw (m, map-append) (ap (λ b. map closed_blocks old ++ b ∷ []) blocks)
