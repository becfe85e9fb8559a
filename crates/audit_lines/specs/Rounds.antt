-- The lines of books in turn, as one thread writes them (the stamp's own).
use Rattle.std.specs.Prelude.{◌≡◌, ◌≤◌, ◌⊎◌, ⊤, ℕ, List, [], ◌∷◌, Option, flat_map, length}
use Rattle.policy_book.specs.Entries.{AuditEntry, Shelved}
use Rattle.audit_lines.specs.Lines.{AppendsLines, AreAt, WritesFrom, line_of}

-- the book whose lines are written, the index of the next line, and the bytes that are not written yet
pub record Round : Type 0 where
  pub book : Shelved
  pub next : ℕ
  pub left : List ℕ

-- the lines of the entries that a book has from one index up to another came after the bytes that were left; the first of all these bytes were
-- written, and the others are left
abbrev pub WritesLines : Option (List ℕ) → Option (List ℕ) → Shelved → ℕ → ℕ → List ℕ → List ℕ → Type 0
WritesLines held held' book from to left left' = (all : List ℕ) × (AppendsLines book from to left all × WritesFrom held held' all left')

-- the lines of the next entries were made
abbrev pub MakesLines : Round → Round → Type 0
MakesLines from to = (to.book ≡ from.book) × AppendsLines from.book from.next to.next from.left to.left

-- the lines of the next entries were made, and the writer took the first of the bytes
abbrev pub GoesOn : Option (List ℕ) → Option (List ℕ) → Round → Round → Type 0
GoesOn held held' from to = (to.book ≡ from.book) × WritesLines held held' from.book from.next to.next from.left to.left

-- nothing changed; or the book can have no more lines than were made, and a book begins after it, whose lines come after the bytes that are left
abbrev pub Renews : Round → Round → Type 0
Renews from to = (to ≡ from) ⊎ ((from.book.limit ≤ from.next) × ((to.next ≡ 0) × (to.left ≡ from.left)))

-- a book, and the entries whose lines were made
pub record Turn : Type 0 where
  pub book : Shelved
  pub entries : List AuditEntry

-- if other books follow, the book has as many entries as it may have
abbrev pub IsFullBefore : List Turn → Turn → Type 0
IsFullBefore [] turn = ⊤
IsFullBefore (next ∷ others) turn = turn.book.limit ≤ length turn.entries

-- books in turn: each has its entries from the first index on, and each but the last is full
abbrev pub AreInTurn : List Turn → Type 0
AreInTurn [] = ⊤
AreInTurn (turn ∷ others) = AreAt turn.book 0 turn.entries × (IsFullBefore others turn × AreInTurn others)

-- the lines of books in turn
abbrev pub lines_in : List Turn → List ℕ
lines_in turns = flat_map (λ turn. flat_map line_of turn.entries) turns

-- the bytes that were written are the first of the lines of books in turn
abbrev pub WritesBooks : Option (List ℕ) → Option (List ℕ) → Type 0
WritesBooks held held' = (turns : List Turn) × (left : List ℕ) × (AreInTurn turns × WritesFrom held held' (lines_in turns) left)
