use Rattle.std.proofs.Common.{◌++◌, append-nil, List, sym, ap, ◌∙◌}
use Rattle.stamp_values.specs.declared.block.Taken.{Taken}
use Rattle.block_blobs.proofs.ListLemmas.{no_sources}
use Rattle.block_blobs.proofs.wanted_lists.entries_from.Goals as goal

pub returns : goal.returns
returns c =
    let entries = c.loop-left.entries.items in
    c.new-2.ensures
    ∙ sym (ap (λ (rest : List Taken). entries ++ rest) (no_sources c.loop-left.next.rest.items c.loop-left.left.now c.in_default.len_below) ∙ append-nil entries)
    ∙ c.loop-left.invariant
