-- How the history grows: by one entry in one step of the word of a slot, which is the number of the slot's entries.
use Rattle.std.specs.Prelude.{ℕ, ◌≡◌, ◌==◌, ◌<◌, true, List, [], ◌∷◌, ◌++◌, length, MatchBool}
use mathlib.Core.List.{IsPrefix}
use Rattle.logbook.specs.Pages.{Cell, cell, Step, View, Book, Named}
use Rattle.served_history.specs.declared.entry.Entry.{Entry}
use Rattle.served_history.specs.Histories.{count_of, GoesOnWithout, IsHistory}

-- each of the words is the number of entries of its slot
pub record IsRow (cells : List Cell) (log : List Entry) : Type 0 where
  pub wide : length cells ≡ 256
  pub words : (slot : ℕ) → slot < 256 → cell cells slot ≡ (count_of slot log, true)
  pub history : IsHistory log

-- the word of the slot
abbrev pub word_of : Book → ℕ → Named
word_of book slot = record { tracked = true; key = slot; book = book }

-- the entry comes after a history that goes on from what was known, and in which the slot has so many entries
pub record IsAdded (slot count : ℕ) (known : List Entry) (e : Entry) (known' : List Entry) : Type 0 where
  pub log : List Entry
  pub enters : known' ≡ log ++ e ∷ []
  pub begins : IsPrefix known log
  pub counted : count_of slot log ≡ count
  pub before : IsHistory log
  pub after : IsHistory known'

-- if the number found is the number of entries of the slot that were known, the entry was added; if not, no entry was
abbrev pub Adds : Step Entry → View Entry ℕ → ℕ → View Entry ℕ → Type 0
Adds step known found known' = MatchBool (found == step.old) (IsAdded step.key step.old known.0 step.ask known'.0) (IsHistory known'.0)

-- the number found is that of the slot's entries in the history, which is known then
abbrev pub Looks : Step Entry → View Entry ℕ → ℕ → View Entry ℕ → Type 0
Looks step known found known' = (count_of step.key known'.0 ≡ found) × IsHistory known'.0

-- The entry of the slot comes after a history that goes on from what the slot and the connection knew, and the slot made no other entry
-- since what it knew.
pub record IsEntered (slot : ℕ) (front known : List Entry) (e : Entry) (known' : List Entry) : Type 0 where
  pub log : List Entry
  pub enters : known' ≡ log ++ e ∷ []
  pub slot_knew : GoesOnWithout slot front log
  pub others_knew : IsPrefix known log

-- what a slot knows of the history: its number, and a beginning of the history that has all entries of the slot
pub record SlotFront : Type 0 where
  pub slot : ℕ
  pub log : List Entry

-- a history whose slots have no words yet: its book, the number of the slot whose word comes next, and its entries
pub record NewBook : Type 0 where
  pub book : Book
  pub next : ℕ
  pub log : List Entry
