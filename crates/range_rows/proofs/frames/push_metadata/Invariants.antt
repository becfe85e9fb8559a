use Rattle.std.proofs.Common.{◌≡◌, ◌++◌, take, map}
use Rattle.stamp_types.specs.declared.header.Header.TheVariants as header
use Rattle.range_rows.proofs.frames.push_metadata.Given as goal

-- the lines so far are there
abbrev pub invariant-loop-meta : goal.invariant-loop-meta
invariant-loop-meta l = l.headers.items ≡ l.initial.headers.items ++ map header.Meta (take l.meta-index l.metas)
