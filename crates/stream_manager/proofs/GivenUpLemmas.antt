-- Sealed extents of which some were given up.
use Rattle.std.proofs.Common.{◌≡◌, ◌≤◌, ◌<◌, ◌+◌, ◌-◌, ◌∙◌, ℕ, zero, suc, Bool, true, false, Option, Some, None, Ok, List, [], ◌∷◌, ◌++◌, cond, drop, get_or, length, map, take, ap, sym, refl, subst, arith, length-append, length-drop, take_all}
use Rattle.std.specs.Prelude.{slice_set, unwrap_or}
use Rattle.std.proofs.lemmas.List.{take-append-le}
use Rattle.std.specs.List.{slice_get}
use Rattle.std.specs.Option.{option_and_then, option_map_or}
use Rattle.stamp_values.specs.declared.place.Place.{Place}
use Rattle.extent_node.specs.Copies.{Block}
use Rattle.extent_node.specs.Faults.{Calls}
use Rattle.extent_node.specs.declared.wire.Node.{Node}
use Rattle.extent_node.specs.declared.wire.Node.TheVariants as node
use Rattle.extent_seal.specs.Extents.{Closed, no_blocks}
use Rattle.extent_seal.specs.Repairs.{with_copy}
use Rattle.stream_manager.specs.Extents.{closed_blocks}
use Rattle.stream_manager.specs.GivenUp.{emptied, has_blocks, with_blocks, without_front}
use Rattle.stream_manager.specs.Places.{block_at, blocks_of}
use Rattle.stream_manager.specs.Repairs.{CountsRepair, IsUnheard, with_copy_at}
use Rattle.stream_manager.specs.SealedExtents.{numbered}

-- ---- extents under their numbers

pub numbered_length : (first : ℕ) (xs : List Closed) → length (numbered first xs) ≡ first + length xs
numbered_length zero xs = omega arith
numbered_length (suc first) xs = let h = numbered_length first xs in omega (arith, h)

-- an extent that was given up
pub at_given : (first : ℕ) (xs : List Closed) (e : ℕ) → e < first → slice_get (numbered first xs) e ≡ Some no_blocks
at_given zero xs e l = absurd (omega (arith, l))
at_given (suc first) xs zero l = refl
at_given (suc first) xs (suc e) l = at_given first xs e (omega (arith, l))

at_held_as : (first : ℕ) (xs : List Closed) (e i : ℕ) → e ≡ first + i → slice_get (numbered first xs) e ≡ slice_get xs i
at_held_as zero xs e i is = ap (slice_get xs) (omega (arith, is))
at_held_as (suc first) xs zero i is = absurd (omega (arith, is))
at_held_as (suc first) xs (suc e) i is = at_held_as first xs e i (omega (arith, is))

-- an extent that has a handle
pub at_held : (first : ℕ) (xs : List Closed) (e : ℕ) → first ≤ e → slice_get (numbered first xs) e ≡ slice_get xs (e - first)
at_held first xs e l = at_held_as first xs e (e - first) (omega (arith, l))

pub set_given : (first : ℕ) (xs : List Closed) (e : ℕ) → e < first → slice_set (numbered first xs) e no_blocks ≡ numbered first xs
set_given zero xs e l = absurd (omega (arith, l))
set_given (suc first) xs zero l = refl
set_given (suc first) xs (suc e) l = ap (λ l. no_blocks ∷ l) (set_given first xs e (omega (arith, l)))

set_held_as : (first : ℕ) (xs : List Closed) (e i : ℕ) (c : Closed) → e ≡ first + i → slice_set (numbered first xs) e c ≡ numbered first (slice_set xs i c)
set_held_as zero xs e i c is = ap (λ k. slice_set xs k c) (omega (arith, is))
set_held_as (suc first) xs zero i c is = absurd (omega (arith, is))
set_held_as (suc first) xs (suc e) i c is = ap (λ l. no_blocks ∷ l) (set_held_as first xs e i c (omega (arith, is)))

pub set_held : (first : ℕ) (xs : List Closed) (e : ℕ) (c : Closed) → first ≤ e → slice_set (numbered first xs) e c ≡ numbered first (slice_set xs (e - first) c)
set_held first xs e c l = set_held_as first xs e (e - first) c (omega (arith, l))

set_first_as : (first : ℕ) (xs : List Closed) (n : ℕ) → 0 < length xs → n ≡ first + 1 → slice_set (numbered first xs) first no_blocks ≡ numbered n (drop 1 xs)
set_first_as zero [] n some is = absurd (omega (arith, some))
set_first_as zero (x ∷ xs) n some is = ap (λ k. numbered k xs) (sym is)
set_first_as (suc first) xs zero some is = absurd (omega (arith, is))
set_first_as (suc first) xs (suc n) some is = ap (λ l. no_blocks ∷ l) (set_first_as first xs n some (omega (arith, is)))

-- the first extent that has a handle is given up
pub set_first : (first : ℕ) (xs : List Closed) (e : ℕ) → e ≡ first → 0 < length xs → slice_set (numbered first xs) e no_blocks ≡ numbered (first + 1) (drop 1 xs)
set_first first xs e is some = ap (λ k. slice_set (numbered first xs) k no_blocks) is ∙ set_first_as first xs (first + 1) some refl

-- an extent more
pub numbered_more : (first : ℕ) (xs ys : List Closed) → numbered first (xs ++ ys) ≡ numbered first xs ++ ys
numbered_more zero xs ys = refl
numbered_more (suc first) xs ys = ap (λ l. no_blocks ∷ l) (numbered_more first xs ys)

-- ---- the first extents

-- extents that were given up lose no block
pub front_given : (first : ℕ) (xs : List Closed) (n : ℕ) → n ≤ first → without_front n (numbered first xs) ≡ numbered first xs
front_given first xs zero l = refl
front_given zero xs (suc n) l = absurd (omega (arith, l))
front_given (suc first) xs (suc n) l = ap (λ l. no_blocks ∷ l) (front_given first xs n (omega (arith, l)))

front_held_as : (first : ℕ) (xs : List Closed) (n i : ℕ) → n ≡ first + i → i ≤ length xs → without_front n (numbered first xs) ≡ numbered n (drop i xs)
front_held_as zero xs zero zero is l = refl
front_held_as zero xs zero (suc i) is l = absurd (omega (arith, is))
front_held_as zero xs (suc n) zero is l = absurd (omega (arith, is))
front_held_as zero [] (suc n) (suc i) is l = absurd (omega (arith, l))
front_held_as zero (x ∷ xs) (suc n) (suc i) is l = ap (λ l. no_blocks ∷ l) (front_held_as zero xs n i (omega (arith, is)) (omega (arith, l)))
front_held_as (suc first) xs zero i is l = absurd (omega (arith, is))
front_held_as (suc first) xs (suc n) i is l = ap (λ l. no_blocks ∷ l) (front_held_as first xs n i (omega (arith, is)) l)

-- the extents before a number have no handle any more
pub front_held : (first : ℕ) (xs : List Closed) (n : ℕ) → first ≤ n → n ≤ first + length xs → without_front n (numbered first xs) ≡ numbered n (drop (n - first) xs)
front_held first xs n l w = front_held_as first xs n (n - first) (omega (arith, l)) (omega (arith, l, w))

-- each extent that has a block has a handle
pub filled_held : (first : ℕ) (xs : List Closed) → with_blocks (numbered first xs) ≡ with_blocks xs
filled_held zero xs = refl
filled_held (suc first) xs = filled_held first xs

pub filled_front_given : (first : ℕ) (xs : List Closed) (n : ℕ) → n ≤ first → with_blocks (take n (numbered first xs)) ≡ []
filled_front_given first xs zero l = refl
filled_front_given zero xs (suc n) l = absurd (omega (arith, l))
filled_front_given (suc first) xs (suc n) l = filled_front_given first xs n (omega (arith, l))

filled_front_as : (first : ℕ) (xs : List Closed) (n i : ℕ) → n ≡ first + i → with_blocks (take n (numbered first xs)) ≡ with_blocks (take i xs)
filled_front_as zero xs n i is = ap (λ k. with_blocks (take k xs)) (omega (arith, is))
filled_front_as (suc first) xs zero i is = absurd (omega (arith, is))
filled_front_as (suc first) xs (suc n) i is = filled_front_as first xs n i (omega (arith, is))

pub filled_front : (first : ℕ) (xs : List Closed) (n : ℕ) → first ≤ n → with_blocks (take n (numbered first xs)) ≡ with_blocks (take (n - first) xs)
filled_front first xs n l = filled_front_as first xs n (n - first) (omega (arith, l))

-- ---- one extent after the other

-- the next extent, of which the first have no blocks
pub front_at : (i : ℕ) (xs : List Closed) (d : Closed) → get_or (without_front i xs) i d ≡ get_or xs i d
front_at zero xs d = refl
front_at (suc i) [] d = refl
front_at (suc i) (x ∷ xs) d = front_at i xs d

-- what was there before
pub old_at : (i : ℕ) (xs ys : List Closed) (h c : Closed) → ys ≡ without_front i xs → h ≡ get_or ys i h → c ≡ h → c ≡ get_or xs i c
old_at i xs ys h c left at is = is ∙ at ∙ ap (λ l. get_or l i h) left ∙ front_at i xs h ∙ ap (get_or xs i) (sym is)

front_more_as : (i n : ℕ) (xs : List Closed) (c : Closed) → i < length xs → n ≡ i + 1 → c ≡ no_blocks → slice_set (without_front i xs) i c ≡ without_front n xs
front_more_as i zero xs c l is none = absurd (omega (arith, is))
front_more_as zero (suc n) [] c l is none = absurd (omega (arith, l))
front_more_as zero (suc n) (x ∷ xs) c l is none =
    let last : 0 ≡ n = omega (arith, is) in
    ap (λ (k : Closed). k ∷ xs) none ∙ ap (λ (k : ℕ). no_blocks ∷ without_front k xs) last
front_more_as (suc i) (suc n) [] c l is none = absurd (omega (arith, l))
front_more_as (suc i) (suc n) (x ∷ xs) c l is none = ap (λ l. no_blocks ∷ l) (front_more_as i n xs c (omega (arith, l)) (omega (arith, is)) none)

-- one extent more is without its blocks
pub front_more : (i : ℕ) (xs : List Closed) (c : Closed) → i < length xs → c ≡ no_blocks → slice_set (without_front i xs) i c ≡ without_front (i + 1) xs
front_more i xs c l none = front_more_as i (i + 1) xs c l refl none

pub front_length : (i : ℕ) (xs : List Closed) → length (without_front i xs) ≡ length xs
front_length zero xs = refl
front_length (suc i) [] = refl
front_length (suc i) (x ∷ xs) = ap suc (front_length i xs)

pub front_dropped : (i : ℕ) (xs : List Closed) → drop i (without_front i xs) ≡ drop i xs
front_dropped zero xs = refl
front_dropped (suc i) [] = refl
front_dropped (suc i) (x ∷ xs) = front_dropped i xs

filled_more_as : (i n : ℕ) (xs : List Closed) (c : Closed) → i < length xs → n ≡ i + 1 → c ≡ get_or xs i c → with_blocks (take n xs) ≡ with_blocks (take i xs) ++ with_blocks (c ∷ [])
filled_more_as i zero xs c l is at = absurd (omega (arith, is))
filled_more_as zero (suc n) [] c l is at = absurd (omega (arith, l))
filled_more_as zero (suc n) (x ∷ xs) c l is at =
    let none : n ≡ 0 = omega (arith, is) in
    ap (λ (k : ℕ). with_blocks (x ∷ take k xs)) none ∙ ap (λ (k : Closed). with_blocks (k ∷ [])) (sym at)
filled_more_as (suc i) (suc n) [] c l is at = absurd (omega (arith, l))
filled_more_as (suc i) (suc n) (x ∷ xs) c l is at =
    let next = filled_more_as i n xs c (omega (arith, l)) (omega (arith, is)) at in
    by (has_blocks x) next
  where
    by : (b : Bool) → with_blocks (take n xs) ≡ with_blocks (take i xs) ++ with_blocks (c ∷ [])
        → cond b (x ∷ with_blocks (take n xs)) (with_blocks (take n xs)) ≡ cond b (x ∷ with_blocks (take i xs)) (with_blocks (take i xs)) ++ with_blocks (c ∷ [])
    by true next = ap (λ l. x ∷ l) next
    by false next = next

-- one extent more
pub filled_more : (i : ℕ) (xs : List Closed) (c : Closed) → i < length xs → c ≡ get_or xs i c → with_blocks (take (i + 1) xs) ≡ with_blocks (take i xs) ++ with_blocks (c ∷ [])
filled_more i xs c l at = filled_more_as i (i + 1) xs c l refl at

pub filled_count : (i : ℕ) (xs : List Closed) (c : Closed) → i < length xs → c ≡ get_or xs i c → length (with_blocks (take (i + 1) xs)) ≡ length (with_blocks (take i xs)) + length (with_blocks (c ∷ []))
filled_count i xs c l at = ap length (filled_more i xs c l at) ∙ length-append (with_blocks (take i xs)) (with_blocks (c ∷ []))

longer_by : (x : Closed) (b : Bool) (xs ys : List Closed) → length xs ≤ length ys → length (cond b (x ∷ xs) xs) ≤ length (cond b (x ∷ ys) ys)
longer_by x true xs ys l = omega (arith, l)
longer_by x false xs ys l = l

-- the first extents are among more of the first ones
pub filled_within : (i n : ℕ) (xs : List Closed) → i ≤ n → length (with_blocks (take i xs)) ≤ length (with_blocks (take n xs))
filled_within zero n xs l = omega arith
filled_within (suc i) zero xs l = absurd (omega (arith, l))
filled_within (suc i) (suc n) [] l = omega arith
filled_within (suc i) (suc n) (x ∷ xs) l = longer_by x (has_blocks x) (with_blocks (take i xs)) (with_blocks (take n xs)) (filled_within i n xs (omega (arith, l)))

-- the first extents are among all
pub filled_among : (n : ℕ) (xs : List Closed) → length (with_blocks (take n xs)) ≤ length (with_blocks xs)
filled_among zero xs = omega arith
filled_among (suc n) [] = omega arith
filled_among (suc n) (x ∷ xs) = longer_by x (has_blocks x) (with_blocks (take n xs)) (with_blocks xs) (filled_among n xs)

-- there is room for one extent more, if there is room for all
pub filled_next : (i n room : ℕ) (xs : List Closed) (c : Closed) → i < n → n ≤ length xs → c ≡ get_or xs i c → has_blocks c ≡ true
    → length (with_blocks (take n xs)) ≤ room + length (with_blocks (take i xs)) → 0 < room
filled_next i n room xs c l w at some fits =
    let more = filled_count i xs c (omega (arith, l, w)) at in
    let one : length (with_blocks (c ∷ [])) ≡ 1 = ap (λ b. length (cond b (c ∷ []) [])) some in
    let all = filled_within (i + 1) n xs (omega (arith, l)) in
    omega (arith, more, one, all, fits)

-- the first extents, cut off
pub front_cut : (n left : ℕ) (xs ys zs ws : List Closed) → ys ≡ without_front n xs → zs ≡ drop n ys ++ take n ys → ws ≡ take left zs → left ≡ length xs - n → ws ≡ drop n xs
front_cut n left xs ys zs ws emptied turned cut is =
    let dropped : drop n ys ≡ drop n xs = ap (drop n) emptied ∙ front_dropped n xs in
    let len : length (drop n xs) ≡ left = length-drop n xs ∙ sym is in
    cut ∙ ap (take left) (turned ∙ ap (λ l. l ++ take n ys) dropped)
    ∙ take-append-le left (drop n xs) (take n ys) (omega (arith, len)) ∙ take_all left (drop n xs) (omega (arith, len))

-- ---- the blocks that are left

none_in : (es : List (List Block)) → blocks_of (map (λ (blocks : List Block). []) es) ≡ []
none_in [] = refl
none_in (x ∷ es) = none_in es

-- the blocks of an emptied front are those after it
pub blocks_emptied : (n : ℕ) (es : List (List Block)) → blocks_of (emptied n es) ≡ blocks_of (drop n es)
blocks_emptied zero es = refl
blocks_emptied (suc n) [] = refl
blocks_emptied (suc n) (x ∷ es) = blocks_emptied n es

get_emptied : (n : ℕ) (es : List (List Block)) (e : ℕ) → n ≤ e → slice_get (emptied n es) e ≡ slice_get es e
get_emptied zero es e l = refl
get_emptied (suc n) [] e l = refl
get_emptied (suc n) (x ∷ es) zero l = absurd (omega (arith, l))
get_emptied (suc n) (x ∷ es) (suc e) l = get_emptied n es e (omega (arith, l))

-- a block after the front stays at its place
pub at_emptied : (n : ℕ) (es : List (List Block)) (p : Place) → n ≤ p.extent → block_at (emptied n es) p ≡ block_at es p
at_emptied n es p l = ap (option_and_then (λ blocks. slice_get blocks p.index)) (get_emptied n es p.extent l)

pub drop_emptied : (n k : ℕ) (es : List (List Block)) → n ≤ k → drop k (emptied n es) ≡ drop k es
drop_emptied zero k es l = refl
drop_emptied (suc n) zero es l = absurd (omega (arith, l))
drop_emptied (suc n) (suc k) [] l = refl
drop_emptied (suc n) (suc k) (x ∷ es) l = drop_emptied n k es (omega (arith, l))

pub length_emptied : (n : ℕ) (es : List (List Block)) → length (emptied n es) ≡ length es
length_emptied zero es = refl
length_emptied (suc n) [] = refl
length_emptied (suc n) (x ∷ es) = ap suc (length_emptied n es)

-- the blocks of each extent, of which the first were given up
pub laid_front : (n : ℕ) (xs : List Closed) (last : List Block) → n ≤ length xs
    → map closed_blocks (without_front n xs) ++ last ∷ [] ≡ emptied n (map closed_blocks xs ++ last ∷ [])
laid_front zero xs last l = refl
laid_front (suc n) [] last l = absurd (omega (arith, l))
laid_front (suc n) (x ∷ xs) last l = ap (λ es. [] ∷ es) (laid_front n xs last (omega (arith, l)))

-- ---- repairs

-- of an extent that was given up each node has a copy
none_copied : (n : Node) → with_copy n no_blocks ≡ no_blocks
none_copied node.Zero = refl
none_copied node.One = refl
none_copied node.Two = refl

pub copied_given : (n : Node) (first : ℕ) (xs : List Closed) (e : ℕ) → e < first → with_copy_at n e (numbered first xs) ≡ numbered first xs
copied_given n first xs e l =
    ap (λ o. option_map_or (λ c. slice_set (numbered first xs) e (with_copy n c)) o (numbered first xs)) (at_given first xs e l)
    ∙ ap (slice_set (numbered first xs) e) (none_copied n) ∙ set_given first xs e l

pub copied_held : (n : Node) (first : ℕ) (xs : List Closed) (e : ℕ) → first ≤ e → with_copy_at n e (numbered first xs) ≡ numbered first (with_copy_at n (e - first) xs)
copied_held n first xs e l =
    ap (λ o. option_map_or (λ c. slice_set (numbered first xs) e (with_copy n c)) o (numbered first xs)) (at_held first xs e l) ∙ by (slice_get xs (e - first))
  where
    by : (o : Option Closed) → option_map_or (λ c. slice_set (numbered first xs) e (with_copy n c)) o (numbered first xs)
        ≡ numbered first (option_map_or (λ c. slice_set xs (e - first) (with_copy n c)) o xs)
    by None = refl
    by (Some c) = set_held first xs e (with_copy n c) l

-- a repair leaves the blocks of each extent
pub blocks_numbered : (first : ℕ) (xs ys : List Closed) → map closed_blocks ys ≡ map closed_blocks xs → map closed_blocks (numbered first ys) ≡ map closed_blocks (numbered first xs)
blocks_numbered zero xs ys is = is
blocks_numbered (suc first) xs ys is = ap (λ l. [] ∷ l) (blocks_numbered first xs ys is)

-- what a repair of an extent that was given up counts: no call
pub counts_given : (n : Node) (first : ℕ) (xs : List Closed) (e : ℕ) (c : Closed) (a b : Calls) → e < first → slice_get (numbered first xs) e ≡ Some c → CountsRepair (Ok tt) n c a a b b
counts_given n first xs e c a b l at =
    subst (λ x. CountsRepair (Ok tt) n x a a b b) (ap (λ (o : Option Closed). unwrap_or o c) (sym (at_given first xs e l) ∙ at)) (none_counts n)
  where
    unheard : IsUnheard a a b b
    unheard = record { uncalled = refl; unfailed = refl }

    none_counts : (m : Node) → CountsRepair (Ok tt) m no_blocks a a b b
    none_counts node.Zero = record { there = λ is. unheard; lacking = λ lacks. absurd (cc) }
    none_counts node.One = record { there = λ is. unheard; lacking = λ lacks. absurd (cc) }
    none_counts node.Two = record { there = λ is. unheard; lacking = λ lacks. absurd (cc) }
