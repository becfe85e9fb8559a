use Rattle.std.proofs.Common.{rules}
use Rattle.std.specs.Prelude.{bit_xor}
use Rattle.std.proofs.lemmas.List.Edits.{map_over_more}
use Rattle.hmac_sign.proofs.code.mask.Goals as goal

pub loop-i-preserved : goal.loop-i-preserved
loop-i-preserved c = search (rules, map_over_more (λ b. bit_xor b c.args.pad))
