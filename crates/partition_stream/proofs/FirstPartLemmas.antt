-- The changes before a position are the first of all changes.
use Rattle.std.proofs.Common.{◌≡◌, ◌∙◌, ℕ, zero, suc, Bool, true, false, cond, List, [], ◌∷◌, ◌++◌, take, drop, get_or, ap, sym, refl, arith, append_assoc}
use Rattle.std.proofs.lemmas.List.{take-append-drop, take_all}
use Rattle.extent_node.specs.Copies.{Block}
use Rattle.stream_manager.specs.Places.{blocks_of}
use Rattle.stream_manager.specs.Streams.{laid}
use Rattle.stream_manager.specs.Walks.{before}
use Rattle.partition_stream.specs.Changes.{Recorded, changes_of}
use Rattle.partition_stream.specs.Positions.{IsFirstPart, all_changes, changes_before}
use Rattle.partition_stream.specs.Streams.{ThreeStreams, logged}
use Rattle.partition_stream.specs.declared.position.Position.{Position}
use Rattle.partition_stream.proofs.ChangeLemmas.{changes_of-more}

abbrev no_extent : List Block
no_extent = []

abbrev no_extents : List (List Block)
no_extents = []

-- the blocks before a position, and others, are all blocks
blocks_rest : (es : List (List Block)) (e i : ℕ) → (rest : List Block) × (blocks_of es ≡ before es e i ++ rest)
blocks_rest [] e i = ([], rw (take_all e no_extents (omega arith), take_all i no_extent (omega arith)) refl)
blocks_rest (blocks ∷ es) zero i =
    (drop i blocks ++ blocks_of es, ap (λ l. l ++ blocks_of es) (sym (take-append-drop i blocks)) ∙ append_assoc (take i blocks) (drop i blocks) (blocks_of es))
blocks_rest (blocks ∷ es) (suc e) i =
    let others = blocks_rest es e i in
    (others.0, ap (λ l. blocks ++ l) others.1 ∙ sym (append_assoc blocks (before es e i) others.0) ∙ ap (λ l. l ++ others.0) (sym (append_assoc blocks (blocks_of (take e es)) (take i (get_or es e [])))))

changes_rest : (es : List (List Block)) (e i : ℕ) → IsFirstPart (changes_of (before es e i)) (changes_of (blocks_of es))
changes_rest es e i =
    let r = blocks_rest es e i in
    (changes_of r.0, ap changes_of r.1 ∙ changes_of-more (before es e i) r.0)

in_rows : (first all more : List Recorded) → IsFirstPart first all → IsFirstPart first (all ++ more)
in_rows first all more r = (r.0 ++ more, ap (λ l. l ++ more) r.1 ∙ append_assoc first r.0 more)

in_log : (rows first all : List Recorded) → IsFirstPart first all → IsFirstPart (rows ++ first) (rows ++ all)
in_log rows first all r = (r.0, ap (λ l. rows ++ l) r.1 ∙ sym (append_assoc rows first r.0))

by_part : (s : ThreeStreams) (b : Bool) (e i : ℕ)
    → IsFirstPart (cond b ((logged s).rows ++ changes_of (before (laid s.log) e i)) (changes_of (before (laid s.rows) e i))) (all_changes s)
by_part s true e i = in_log (logged s).rows (changes_of (before (laid s.log) e i)) (logged s).log (changes_rest (laid s.log) e i)
by_part s false e i = in_rows (changes_of (before (laid s.rows) e i)) (logged s).rows (logged s).log (changes_rest (laid s.rows) e i)

-- the changes before a position are the first of all
pub first_part : (s : ThreeStreams) (p : Position) → IsFirstPart (changes_before s p) (all_changes s)
first_part s p = by_part s p.in_log p.extent p.index
