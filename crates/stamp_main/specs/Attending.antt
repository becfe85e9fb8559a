-- The lines that the bytes of an operator end, and their answers in turn (this product's own choice).
use Rattle.std.specs.Prelude.{◌≡◌, ◌⊎◌, ◌==◌, ◌++◌, ℕ, Bool, true, false, List, [], ◌∷◌, Option, Some, None, codes}
use Rattle.std.specs.Io.KnownBytes.{Consumes}
use Rattle.served_history.specs.declared.entry.Entry.{Entry}
use Rattle.served_history.specs.Histories.{IsUnchanged}
use Rattle.audit_lines.specs.Lines.{WritesFrom}
use Rattle.stamp_main.specs.Line.{with_byte}
use Rattle.stamp_main.specs.OperatorLines.{Obeys, answer_text}
use Rattle.stamp_main.specs.declared.console.Came.{Came}
use Rattle.stamp_main.specs.declared.console.Came.TheVariants as came
use Rattle.stamp_main.specs.declared.operator_lines.Answer.{Answer}
use Rattle.stamp_main.specs.declared.operator_lines.Answer.TheVariants as answer

-- what a line leaves of what the operator knew, by its answer: a line of more than 4,096 bytes is not obeyed, and its answer says that it is too long
abbrev pub ObeysLine : List ℕ → List Entry → Option (List ℕ) → Answer → List Entry → Type 0
ObeysLine account known None a known' = (a ≡ answer.Long) × IsUnchanged known known'
ObeysLine account known (Some line) a known' = Obeys known account line a known'

-- what is told for an answer: its text and a line feed, or that there is no memory for the text
abbrev pub IsAnswerLine : Answer → List ℕ → Type 0
IsAnswerLine a told = (told ≡ answer_text a ++ codes "\n") ⊎ (told ≡ codes "no memory for the answer" ++ codes "\n")

-- the line is whole: it is obeyed, its answer is told, and another line begins
abbrev pub EndsLine : List ℕ → List Entry → Option (List ℕ) → List ℕ → List Entry → Option (List ℕ) → Type 0
EndsLine account known line told known' line' = (a : Answer) × (ObeysLine account known line a known' × (IsAnswerLine a told × (line' ≡ Some [])))

-- what comes of one byte, and of whether it is a line feed: any other byte goes to the line, and nothing is told
abbrev pub AttendsByte : Bool → List ℕ → List Entry → Option (List ℕ) → ℕ → List ℕ → List Entry → Option (List ℕ) → Type 0
AttendsByte true account known line byte told known' line' = EndsLine account known line told known' line'
AttendsByte false account known line byte told known' line' = (told ≡ []) × (IsUnchanged known known' × (line' ≡ with_byte line byte))

-- what comes of bytes: what is told for them in turn, what the operator knows then, and the line that has begun
abbrev pub Attends : List ℕ → List Entry → Option (List ℕ) → List ℕ → List ℕ → List Entry → Option (List ℕ) → Type 0
Attends account known line [] told known' line' = (told ≡ []) × (IsUnchanged known known' × (line' ≡ line))
Attends account known line (byte ∷ bytes) told known' line' =
    (known1 : List Entry) × (line1 : Option (List ℕ)) × (first : List ℕ) × (rest : List ℕ)
    × ((told ≡ first ++ rest) × (AttendsByte (byte == 10) account known line byte first known1 line1 × Attends account known1 line1 bytes rest known' line'))

-- the first of the bytes were written, and all of them if the writer took all
abbrev pub Writes : Option (List ℕ) → Option (List ℕ) → List ℕ → Bool → Type 0
Writes held held' bytes all = (left : List ℕ) × (WritesFrom held held' bytes left × (all ≡ true → left ≡ []))

-- Bytes were attended, and the writer took a beginning of the text that was told for them. If the writer took all of it, all bytes were attended.
-- Otherwise the first bytes were.
pub record IsAttended (account : List ℕ) (known : List Entry) (line : Option (List ℕ)) (bytes : List ℕ) (held held' : Option (List ℕ)) (all : Bool) (known' : List Entry) (line' : Option (List ℕ)) : Type 0 where
  pub attended : List ℕ
  pub others : List ℕ
  pub parts : bytes ≡ attended ++ others
  pub told : List ℕ
  pub attends : Attends account known line attended told known' line'
  pub written : Writes held held' told all
  pub whole : all ≡ true → others ≡ []

-- bytes were read, and this came of them
abbrev pub ReadsLines : Option (List ℕ) → Option (List ℕ) → List ℕ → List Entry → Option (List ℕ) → Option (List ℕ) → Option (List ℕ) → Bool → List Entry → Option (List ℕ) → Type 0
ReadsLines unread unread' account known line held held' all known' line' =
    (bytes : List ℕ) × (Consumes unread unread' bytes × IsAttended account known line bytes held held' all known' line')

-- no write failed
abbrev pub all_answered : Came → Bool
all_answered came.More = true
all_answered came.Ended = true
all_answered came.Unanswered = false
