use Rattle.std.proofs.Common.{◌≡◌, sym, ap, ◌∙◌, subst, map, IsSomeAnd}
use Rattle.stamp_types.specs.declared.act.Act.{Act}
use Rattle.stamp_types.specs.Pieces.{piece_len}
use Rattle.stamp_types.specs.Changes.{KeyedAct, is_change, content_of}
use Rattle.stamp_types.proofs.ActContents.{is_change-change_with}
use Rattle.stamp_types.proofs.change.Change.with_content.Goals as goal

pub invariant_of-result : goal.invariant_of-result
invariant_of-result c =
    let qs = c.args.content in
    let was : KeyedAct = record { key = c.self.inside.key; act = c.self.inside.act } in
    let P : KeyedAct → Type 0 = λ k. IsSomeAnd (content_of k.act) (λ ps. map piece_len ps ≡ map piece_len qs) in
    ap (λ (a : Act). is_change (record { key = c.self.inside.key; act = a })) c.with_content.ensures
    ∙ is_change-change_with was qs (subst P (sym c.self.view_is) c.requires) c.self.invariant
