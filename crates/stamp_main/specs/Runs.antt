-- What the program does for its words (this product's own choice).
use Rattle.std.specs.Prelude.{◌≡◌, ◌⊎◌, ◌≤◌, ℕ, List, length, IfSome}
use Rattle.http_front.specs.Connections.{ConnectionState}
use Rattle.http_front.specs.declared.counted.Input.TheVariants as inputs
use Rattle.http_front.specs.declared.counted.Output.TheVariants as outputs
use Rattle.stamp_main.specs.declared.ending.Ending.{Ending}
use Rattle.stamp_main.specs.declared.ending.Ending.TheVariants.{Done, Usage, ReadFault, WriteFault, TurnsUsedUp, ListenerFault, NoMemory}
use Rattle.stamp_main.specs.Replays.{IsReplay, HasReplayed, HasEndedByWrite, HasEndedOutOfMemory}
use Rattle.stamp_main.specs.Serving.{IsServe, HasListened}
use Rattle.stamp_main.specs.Signing.{IsSign, HasSigned}

-- the words ask for a signature, for a replay or to serve
abbrev pub IsCommand : List (List ℕ) → Type 0
IsCommand words = IsSign words ⊎ IsReplay words ⊎ IsServe words

module _ (words : List (List ℕ)) (from to : ConnectionState) where
  -- the words asked for a signature, and nothing was written
  abbrev pub NothingSigned : Type 0
  NothingSigned = IsSign words × (to.writer ≡ from.writer)

  -- the words asked to serve, nothing was read, and the line that tells of the address was given to the writer
  abbrev pub LineWritten : Type 0
  LineWritten = (to.reader ≡ from.reader) × HasListened words from.writer to.writer

  -- What was read and written for the words, by how the program ended, and why it ended so. What connections get is not a part of
  -- it.
  abbrev pub Outcome : Ending → Type 0
  Outcome Done = (to.writer.output ≡ outputs.Flushed) × (HasSigned words from to ⊎ HasReplayed words Done from to)
  Outcome Usage = ¬ IsCommand words × (to ≡ from)
  Outcome ReadFault = (NothingSigned × (to.reader.input ≡ inputs.Failed)) ⊎ HasReplayed words ReadFault from to
  Outcome WriteFault = (to.writer.output ≡ outputs.Failed) × (HasSigned words from to ⊎ HasEndedByWrite words from to ⊎ LineWritten)
  Outcome TurnsUsedUp =
      (to.reader.turns ≡ 0) × ((NothingSigned × IfSome from.reader.left (λ input. from.reader.turns ≤ length input)) ⊎ HasReplayed words TurnsUsedUp from to)
  Outcome ListenerFault = IsServe words × ((to ≡ from) ⊎ LineWritten)
  Outcome NoMemory = (to ≡ from) ⊎ NothingSigned ⊎ HasEndedOutOfMemory words from to ⊎ LineWritten
