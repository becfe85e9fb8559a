-- The lines by which an operator replaces a key of the account or splits a slot, and their answers (this product's own choice).
use Rattle.std.specs.Prelude.{◌≡◌, ◌≢◌, ◌++◌, ⊤, ℕ, false, true, List, [], if◌then◌else◌, Option, Some, None, bytes_eq, codes, decimal, drop, take}
use Rattle.stamp_values.specs.Names.{is_container}
use Rattle.stamp_values.specs.declared.key.Key.{Key}
use Rattle.hmac_sign.specs.Signature.{IsBytes, base64_of}
use Rattle.access_rules.specs.declared.rotation.Which.{Which}
use Rattle.access_rules.specs.declared.rotation.Which.TheVariants.{First, Second}
use Rattle.served_history.specs.declared.entry.Entry.{Entry}
use Rattle.served_history.specs.Histories.{IsUnchanged}
use Rattle.served_slots.specs.Rotations.{HasLastEpoch, HasRotated}
use Rattle.served_slots.specs.Steps.{IsSplitFault, SpansSay}
use Rattle.served_slots.specs.declared.splitting.SplitFault.TheVariants as split
use Rattle.stamp_main.specs.declared.operator_lines.Answer.{Answer}
use Rattle.stamp_main.specs.declared.operator_lines.Answer.TheVariants as answer

-- which key a line asks to replace, and the text of the new key
abbrev pub rotation_in : List ℕ → Option (Which × List ℕ)
rotation_in line =
    if bytes_eq (take 13 line) (codes "rotate first ") then Some (First, drop 13 line)
    else (if bytes_eq (take 14 line) (codes "rotate second ") then Some (Second, drop 14 line) else None)

-- the name of the container at which a line asks to split a slot
abbrev pub split_in : List ℕ → Option (List ℕ)
split_in line = if bytes_eq (take 6 line) (codes "split ") then Some (drop 6 line) else None

-- the answer in words: it has no text of the line
abbrev pub answer_text : Answer → List ℕ
answer_text (answer.Epoch epoch) = codes "epoch " ++ decimal epoch
answer_text answer.Split = codes "split"
answer_text answer.Form = codes "refused: a line is rotate first KEY, rotate second KEY or split CONTAINER"
answer_text answer.Key = codes "refused: the key is empty or not padded Base64"
answer_text answer.Name = codes "refused: the name is not a container's"
answer_text answer.FirstKey = codes "refused: a slot begins with this container"
answer_text answer.Full = codes "refused: there are 256 slots"
answer_text answer.Long = codes "refused: the line has more than 4096 bytes"
answer_text answer.Last = codes "refused: no epoch is left"
answer_text answer.NoMemory = codes "refused: out of memory"

-- the key of the container with this name
abbrev pub container_key : List ℕ → List ℕ → Key
container_key account name = record { account = account; container = name }

-- The answer to a split at the container with this name: some spans allow it; or the name is not a container's, or a slot begins with the container,
-- or there are as many slots as there may be; or memory ran out
abbrev pub AnswersSplit : List ℕ → List ℕ → Answer → Type 0
AnswersSplit account name answer.Split = (is_container name ≡ true) × SpansSay (container_key account name) None
AnswersSplit account name answer.Name = is_container name ≡ false
AnswersSplit account name answer.FirstKey = (is_container name ≡ true) × IsSplitFault (container_key account name) split.FirstKey
AnswersSplit account name answer.Full = (is_container name ≡ true) × IsSplitFault (container_key account name) split.Full
AnswersSplit account name answer.NoMemory = ⊤
AnswersSplit account name other = ⊥

-- the line asks to split a slot, and this is the answer
abbrev pub ObeysSplit : List ℕ → List ℕ → Answer → Type 0
ObeysSplit account line a = (name : List ℕ) × (split_in line ≡ Some name) × AnswersSplit account name a

-- What a line leaves of what the operator knew, by its answer: the key that it gives in Base64 replaced the key of the account that it names; or
-- the operator knows what was known before, and the answer says that a slot was split or why nothing was done
abbrev pub Obeys : List Entry → List ℕ → List ℕ → Answer → List Entry → Type 0
Obeys known account line (answer.Epoch epoch) known' =
    (which : Which) × (key : List ℕ) × (rotation_in line ≡ Some (which, base64_of key)) × IsBytes key × (key ≢ [])
    × HasRotated known account which key epoch known'
Obeys known account line answer.Form known' = (rotation_in line ≡ None) × (split_in line ≡ None) × IsUnchanged known known'
Obeys known account line answer.Key known' =
    ((which : Which) (key : List ℕ) → IsBytes key → key ≢ [] → rotation_in line ≢ Some (which, base64_of key)) × IsUnchanged known known'
Obeys known account line answer.Last known' = HasLastEpoch known account × IsUnchanged known known'
Obeys known account line answer.NoMemory known' = IsUnchanged known known'
Obeys known account line answer.Long known' = ⊥
Obeys known account line other known' = ObeysSplit account line other × IsUnchanged known known'
