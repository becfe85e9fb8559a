use Rattle.std.proofs.Common.{◌≡◌, ◌≢◌, ℕ, ◌+◌, drop}
use Rattle.std.specs.List.{concat}
use Rattle.http_front.specs.declared.counted.Output.TheVariants as outputs
use Rattle.http_front.proofs.Pendings.{Taken}
use Rattle.http_front.proofs.pending.send_shares.Given as goal

-- what was left to write of the body is what the writer took and what is left from this share on
abbrev pub invariant-loop-share : goal.invariant-loop-share
invariant-loop-share g l = record {
  works : l.writer.output ≢ outputs.Failed;
  taken : (count : ℕ) × Taken l.fn.writer.held l.writer.held (drop l.fn.taken (concat l.shares)) (drop l.skip (concat (drop l.share-index l.shares))) count × (l.all ≡ l.fn.taken + count);
}
