use Rattle.std.proofs.Common.{◌≡◌, ◌++◌, map, take, flat_map, string_bytes}
use Rattle.body_forms.specs.WrittenLists.{block_view, block_text}
use Rattle.body_forms.proofs.written_list.append_blocks.Given as goal

abbrev pub invariant-loop-block : goal.invariant-loop-block
invariant-loop-block l =
    string_bytes l.out ≡ string_bytes l.initial.out ++ flat_map block_text (map block_view (take l.block-index l.blocks))
