-- Histories whose account gets more pairs of keys (the stamp's own).
use Rattle.std.specs.Prelude.{List, IsSome}
use Rattle.stamp_types.specs.declared.past.Past.{Past}
use Rattle.access_rules.specs.declared.keys.Keys.{Keys}
use Rattle.stamp_model.specs.Histories.{IsEntryAfter, pair_of}

-- for each entry of the history, one of the pairs is of the entry's epoch
abbrev pub HaveTheirPairs : List Keys → List Past → Type 0
HaveTheirPairs pairs history = (front : List Past) (e : Past) → IsEntryAfter front e history → IsSome (pair_of pairs e.epoch)
