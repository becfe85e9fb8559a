use Rattle.std.proofs.Common.{◌≡◌, ◌++◌, drop}
use Rattle.std.specs.List.{concat}
use Rattle.reply_form.proofs.reply_bytes.append_shares.Given as goal

-- with the shares that are left, the output has all shares
abbrev pub invariant-loop-share : goal.invariant-loop-share
invariant-loop-share l = l.out.items ++ concat (drop l.share-index l.shares) ≡ l.initial.out.items ++ concat l.shares
