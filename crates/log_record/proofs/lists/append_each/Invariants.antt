use Rattle.std.proofs.Common.{◌≡◌, ◌++◌, All, take}
use Rattle.std.specs.List.{flat_map}
use Rattle.log_record.proofs.lists.append_each.Given as goal

-- the items of the turns before are appended, and each of them fits
abbrev pub invariant-loop-item : goal.invariant-loop-item
invariant-loop-item g l =
    record {
      written : l.out.items ≡ l.initial.out.items ++ flat_map g.T.Recorded.bytes (take l.item-index l.items);
      fits : All g.T.Recorded.Fits (take l.item-index l.items);
    }
