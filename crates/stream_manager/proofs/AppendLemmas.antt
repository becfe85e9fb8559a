-- An append after a settle.
use Rattle.std.proofs.Common.{◌≡◌, ◌≤◌, ◌+◌, ◌∙◌, inl, inr, ℕ, Bool, true, false, Option, Some, None, ◌∷◌, ◌++◌, length, map, sym, ap, refl, arith, Result, Ok, Err, List, [], append-nil, subst}
use Rattle.std.specs.Option.{is_some}
use Rattle.stamp_values.specs.declared.place.Place.{Place}
use Rattle.extent_node.specs.Copies.{Block}
use Rattle.extent_node.specs.Faults.{held}
use Rattle.extent_seal.specs.Extents.{Open, Closed}
use Rattle.stream_manager.specs.Extents.{closed_blocks, extents}
use Rattle.stream_manager.specs.Places.{Follows, IsLastAt, Decides, is_kept}
use Rattle.extent_node.specs.Faults.{Calls, Counts, CountsNone, one_more}
use Rattle.extent_seal.specs.Counting.{Grows, GrowsEach}
use Rattle.stream_manager.specs.Counting.{AsksAtMost, CallsAppend, FailsAppend, PutsOnceOrTwice, PutsTwice}
use Rattle.stream_manager.specs.Outcomes.{IsPut, IsAppend}
use Rattle.stream_manager.specs.declared.faults.AppendFault.{AppendFault}
use Rattle.stream_manager.specs.declared.faults.AppendFault.TheVariants as fault
use Rattle.stream_manager.proofs.PlaceLemmas.{onward, held_here, last_number}

-- nothing is added after what was added
onward_none : (es fs gs : List (List Block)) (xs : List Block) → Follows es xs fs → Follows fs [] gs → Follows es xs gs
onward_none es fs gs xs a b = subst (λ l. Follows es l gs) (append-nil xs) (onward es fs gs xs [] a b)

-- the older doubt is settled, and nothing is added after it
settled_after : (sealed : List Closed) (mid fs : List (List Block)) (old : Open) (kept : Bool)
    → Follows (extents sealed old) (held kept old.tried) mid → (is_some old.tried ≡ true → Decides kept (length sealed) old mid)
    → Follows mid [] fs → Follows (extents sealed old) (held (is_kept (extents sealed old) old fs) old.tried) fs
settled_after sealed mid fs old kept a c b =
    let h = held_here kept (length sealed) old (extents sealed old) mid fs (last_number sealed old) c b.sealed in
    subst (λ l. Follows (extents sealed old) l fs) h (onward_none (extents sealed old) mid fs _ a b)

-- what a put does after the older doubt is settled
pub put_after : (r : Result Place AppendFault) (sealed : List Closed) (mid fs : List (List Block)) (old new : Open) (kept : Bool) (block : Block)
    → Follows (extents sealed old) (held kept old.tried) mid → (is_some old.tried ≡ true → Decides kept (length sealed) old mid)
    → IsPut r mid block fs new → IsAppend r (extents sealed old) old block fs new
put_after (Ok p) sealed mid fs old new kept block a c b =
    let h = held_here kept (length sealed) old (extents sealed old) mid fs (last_number sealed old) c b.0.sealed in
    (subst (λ l. Follows (extents sealed old) (l ++ block ∷ []) fs) h (onward (extents sealed old) mid fs _ _ a b.0), b.1, b.2)
put_after (Err fault.Doubt) sealed mid fs old new kept block a c b = (settled_after sealed mid fs old kept a c b.0, b.1)
put_after (Err fault.Busy) sealed mid fs old new kept block a c b = inl (settled_after sealed mid fs old kept a c b.0, b.1)
put_after (Err fault.NoMemory) sealed mid fs old new kept block a c b = absurd b
put_after (Err fault.TooLarge) sealed mid fs old new kept block a c b = absurd b

-- the block of a doubt that is kept
pub settle_kept : (es fs : List (List Block)) (tried : Option Block) (p : Place) (n m : ℕ) (kept : Bool) → kept ≡ true → is_some tried ≡ true
    → Follows es (held kept tried) fs
    → ((b : Block) (q : Place) → held kept tried ≡ b ∷ [] → q.extent ≡ n → q.index ≡ m → IsLastAt fs q b)
    → p.extent ≡ n → p.index ≡ m → (b : Block) × (tried ≡ Some b) × Follows es (b ∷ []) fs × IsLastAt fs p b
settle_kept es fs (Some b) p n m true k s f a e i = (b, refl, f, a b p refl e i)
settle_kept es fs None p n m kept k s f a e i = absurd (grind arith)
settle_kept es fs tried p n m false k s f a e i = absurd (grind arith)

-- the block of a short append, if the seal kept it
pub short_kept : (sealed : List Closed) (old mid : Open) (fs : List (List Block)) (block : Block) (p : Place) (kept : Bool)
    → mid.blocks ≡ old.blocks → mid.tried ≡ Some block → kept ≡ true
    → Follows (extents sealed mid) (held kept mid.tried) fs
    → ((b : Block) (q : Place) → held kept mid.tried ≡ b ∷ [] → q.extent ≡ length sealed → q.index ≡ length mid.blocks → IsLastAt fs q b)
    → p.extent ≡ length sealed → p.index ≡ length old.blocks → Follows (extents sealed old) (block ∷ []) fs × IsLastAt fs p block
short_kept sealed old mid fs block p kept n t k f a e i =
    let h : held kept mid.tried ≡ block ∷ [] = rw (k, t) refl in
    let g : Follows (extents sealed old) (held kept mid.tried) fs = subst (λ bs. Follows (map closed_blocks sealed ++ bs ∷ []) (held kept mid.tried) fs) n f in
    (subst (λ l. Follows (extents sealed old) l fs) h g, a block p h e (i ∙ sym (ap length n)))

-- numbers that grow twice
grown_each : (a b c : Counts) → GrowsEach a b → GrowsEach b c → GrowsEach a c
grown_each a b c g f = (omega (arith, g, f), omega (arith, g, f), omega (arith, g, f))

grown_twice : (a b c : Calls) → Grows a b → Grows b c → Grows a c
grown_twice a b c g f = (grown_each a.puts b.puts c.puts g.0 f.0, grown_each a.asks b.asks c.asks g.1 f.1)

-- the faults of a put after those of a settle
pub fails_after : (r : Result Place AppendFault) (mid fs : List (List Block)) (new : Open) (block : Block) (before m after : ℕ) (a b c : Calls)
    → before ≤ m → (r ≡ Err fault.Busy → after ≡ m + 2) → Grows a b → IsPut r mid block fs new → FailsAppend r m after b c → FailsAppend r before after a c
fails_after (Ok p) mid fs new block before m after a b c l t g i f = grown_twice a b c g f
fails_after (Err fault.Doubt) mid fs new block before m after a b c l t g i f = (omega (arith, g, f), (grown_each a.puts b.puts c.puts g.0 f.1.0, omega (arith, g, f), omega (arith, g, f), omega (arith, g, f)))
fails_after (Err fault.Busy) mid fs new block before m after a b c l t g i (inl f) = let e = t refl in let s = f.0 in absurd (omega (arith, e, s))
fails_after (Err fault.Busy) mid fs new block before m after a b c l t g i (inr f) = inr (let e = t refl in omega (arith, e, l), (omega (arith, g, f), grown_twice a b c g f.1.1))
fails_after (Err fault.NoMemory) mid fs new block before m after a b c l t g i f = absurd i
fails_after (Err fault.TooLarge) mid fs new block before m after a b c l t g i f = absurd i

-- two puts to each node, of which none came before
twice_after : (a b c : Counts) → CountsNone a b → PutsTwice b c → PutsTwice a c
twice_after a b c n p = (
  p.0 ∙ ap (λ k. one_more (one_more k)) n.0,
  p.1 ∙ ap (λ k. one_more (one_more k)) n.1,
  p.2 ∙ ap (λ k. one_more (one_more k)) n.2,
)

-- the puts of an append, of which none came before
puts_after : (before m after : ℕ) (a b c : Counts) → before ≤ m → CountsNone a b → PutsOnceOrTwice m after b c → PutsOnceOrTwice before after a c
puts_after before m after a b c l n (inl p) = inl (p.0 ∙ ap one_more n.0, p.1 ∙ ap one_more n.1, p.2 ∙ ap one_more n.2)
puts_after before m after a b c l n (inr p) = inr (let s = p.0 in omega (arith, s, l), twice_after a b c n p.1)

-- the asks of an append, after those of a settle
asks_after : (k before m after : ℕ) (a b c : Counts) → AsksAtMost 0 before m a b → AsksAtMost k m after b c → AsksAtMost k before after a c
asks_after k before m after a b c h f = (omega (arith, h, f), omega (arith, h, f), omega (arith, h, f))

-- the calls of a put after those of a settle
pub calls_after : (r : Result Place AppendFault) (mid fs : List (List Block)) (new : Open) (block : Block) (before m after : ℕ) (a b c : Calls)
    → before ≤ m → (r ≡ Err fault.Busy → after ≡ m + 2) → CountsNone a.puts b.puts → AsksAtMost 0 before m a.asks b.asks
    → IsPut r mid block fs new → CallsAppend r m after b c → CallsAppend r before after a c
calls_after (Ok p) mid fs new block before m after a b c l t n h i f = (puts_after before m after a.puts b.puts c.puts l n f.0, asks_after 0 before m after a.asks b.asks c.asks h f.1)
calls_after (Err fault.Doubt) mid fs new block before m after a b c l t n h i f = (puts_after before m after a.puts b.puts c.puts l n f.0, asks_after 1 before m after a.asks b.asks c.asks h f.1)
calls_after (Err fault.Busy) mid fs new block before m after a b c l t n h i (inl f) = let e = t refl in let s = f.0 in absurd (omega (arith, e, s))
calls_after (Err fault.Busy) mid fs new block before m after a b c l t n h i (inr f) =
    inr (let e = t refl in omega (arith, e, l), twice_after a.puts b.puts c.puts n f.1, asks_after 0 before m after a.asks b.asks c.asks h f.2)
calls_after (Err fault.NoMemory) mid fs new block before m after a b c l t n h i f = absurd i
calls_after (Err fault.TooLarge) mid fs new block before m after a b c l t n h i f = absurd i
