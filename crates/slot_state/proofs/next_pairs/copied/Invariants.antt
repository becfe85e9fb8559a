use Rattle.std.proofs.Common.{◌≡◌, map}
use Rattle.stamp_values.specs.Trees.{entry_key, name_of}
use Rattle.slot_state.proofs.CopyLemmas.{put_all}
use Rattle.slot_state.proofs.next_pairs.copied.Given as goal

abbrev pub invariant-loop-name : goal.invariant-loop-name
invariant-loop-name l = put_all l.copy (map (entry_key name_of) l.name-iterator) ≡ put_all l.initial.copy (map (entry_key name_of) l.initial.name-iterator)
