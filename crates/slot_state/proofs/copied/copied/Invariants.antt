use Rattle.std.proofs.Common.{◌≡◌, map}
use Rattle.stamp_values.specs.Trees.{entry_key, own_key}
use Rattle.slot_state.proofs.CopyLemmas.{put_all}
use Rattle.slot_state.proofs.copied.copied.Given as goal

abbrev pub invariant-loop-key : goal.invariant-loop-key
invariant-loop-key l = put_all l.copy (map (entry_key own_key) l.key-iterator) ≡ put_all l.initial.copy (map (entry_key own_key) l.initial.key-iterator)
