use Rattle.std.proofs.Common.{◌+◌, ◌-◌, min, ap, ◌∙◌, slice_range}
use Rattle.stamp_types.specs.declared.piece.Piece.TheVariants.{Bytes}
use Rattle.stamp_types.proofs.Cuts.{slice-capped}
use Rattle.stamp_types.proofs.cut.piece_at.Goals as goal

pub returns : goal.returns
returns c =
    let count = c.min-count.ensures ∙ ap (λ k. min (k - c.args.at) 4194304) c.len.ensures in
    ap (λ bs. Bytes bs)
    (c.in_ok-slice.ensures ∙ ap (λ k. slice_range c.args.share.now c.args.at (c.args.at + k)) count ∙ slice-capped c.args.share.now c.args.at 4194304 c.requires)
