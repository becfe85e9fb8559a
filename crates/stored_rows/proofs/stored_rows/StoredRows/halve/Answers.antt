use Rattle.std.proofs.Common.{◌≡◌, ◌∙◌, true, IfSome, None, Some, ap, sym, subst}
use Rattle.std.specs.Option.{is_some}
use Rattle.std.specs.FinMap as finite
use Rattle.stamp_values.specs.Trees.{is_below, is_from}
use Rattle.partition_stream.specs.Streams.{HaveSameBlocks, ThreeStreams, logged}
use Rattle.stored_rows.specs.Loaded.{AreLoaded}
use Rattle.stored_rows.specs.Ranges.{covers}
use Rattle.stored_rows.specs.States.{IsHalf, MeansTheSame, Stored, doubt_of}
use Rattle.stored_rows.specs.declared.key_range.KeyRange.{KeyRange}
use Rattle.stored_rows.specs.Swept.{AreSwept}
use Rattle.partition_stream.specs.Compactions.{HaveLimit}
use Rattle.stored_rows.proofs.CutLemmas.{is_some-map}
use Rattle.stored_rows.proofs.HalfSweptLemmas.{lower_swept, upper_swept}
use Rattle.stored_rows.proofs.LimitLemmas.{limit_kept}
use Rattle.stored_rows.proofs.TakeLemmas.{half_means, lower_loaded, means_itself, same_streams, sealed_sure, still_none, upper_loaded}
use Rattle.stored_rows.proofs.RowDoubtLemmas.{no_row}
use Rattle.stored_rows.proofs.stored_rows.StoredRows.halve.Goals as goal

pub invariant_of-result : goal.invariant_of-result
invariant_of-result c =
    let covered : covers c.self.inside.range c.args.middle ≡ true = subst (λ (v : Stored). covers v.range c.args.middle ≡ true) (sym c.self.view_is) c.requires.covered in
    let own : c.args.upper ≡ record { from = c.args.middle; to = c.self.inside.range.to } =
    subst (λ (v : Stored). c.args.upper ≡ record { from = c.args.middle; to = v.range.to }) (sym c.self.view_is) c.requires.upper in
    record {
      loaded = subst (λ (r : KeyRange). AreLoaded c.in-Ok.field-0.streams c.in-Ok.field-0.rows None r) (sym own)
          (subst (λ o. AreLoaded c.in-Ok.field-0.streams o None (record { from = c.args.middle; to = c.self.inside.range.to })) (sym c.in-Ok.ensures.from)
          (upper_loaded c.self.inside.streams c.in-Ok.field-0.streams c.self.inside.rows c.self.inside.doubt c.self.inside.range c.args.middle c.self.invariant.loaded covered
          c.in-Ok.ensures.shared (sealed_sure c.in-Ok.field-0.streams c.in-Ok.ensures.whole)));
      limits = limit_kept c.self.inside.extent_bytes c.self.inside.streams c.in-Ok.field-0.streams c.self.invariant.limits c.in-Ok.ensures.limits;
      swept = subst (λ (r : KeyRange). IfSome c.in-Ok.field-0.sweep (λ w. AreSwept w r c.in-Ok.field-0.streams)) (sym own)
          (upper_swept c.self.inside.range c.args.middle covered c.self.inside.streams c.in-Ok.field-0.streams c.in-Ok.ensures.shared (sealed_sure c.in-Ok.field-0.streams c.in-Ok.ensures.whole)
          c.self.inside.sweep c.in-Ok.field-0.sweep c.self.invariant.swept c.in-Ok.ensures.sweep);
      again = no_row c.in-Ok.field-0.streams None (sealed_sure c.in-Ok.field-0.streams c.in-Ok.ensures.whole);
    }

pub invariant_of-self : goal.invariant_of-self
invariant_of-self c =
    let s = c.self.inside.streams in
    let t = c.share_upper.new.streams in
    let covered : covers c.self.inside.range c.args.middle ≡ true = subst (λ (v : Stored). covers v.range c.args.middle ≡ true) (sym c.self.view_is) c.requires.covered in
    let none : (logged s).doubt ≡ None = subst (λ (v : Stored). doubt_of v ≡ None) (sym c.self.view_is) c.requires.sure in
    let same : HaveSameBlocks s t = subst (HaveSameBlocks s) (sym c.share_upper.ensures.same) (same_streams s) in
    let sure : (logged t).doubt ≡ None = subst (λ (u : ThreeStreams). (logged u).doubt ≡ None) (sym c.share_upper.ensures.same) none in
    record {
      loaded = subst (λ o. AreLoaded t o c.self.inside.doubt (record { from = c.self.inside.range.from; to = Some c.args.middle })) (sym c.in-Ok.ensures.below)
          (lower_loaded s t c.self.inside.rows c.self.inside.doubt c.self.inside.range c.args.middle c.self.invariant.loaded covered same sure
          (still_none s t c.self.inside.doubt c.self.invariant.loaded.tried none sure));
      limits = subst (HaveLimit c.self.inside.extent_bytes) (sym c.share_upper.ensures.same) c.self.invariant.limits;
      swept = lower_swept c.self.inside.range c.args.middle covered s t same sure c.self.inside.sweep c.self.invariant.swept;
      again = no_row t c.self.inside.spare sure;
    }

pub returns-in-Ok-clause-lower : goal.returns-in-Ok-clause-lower
returns-in-Ok-clause-lower c =
    let s = c.self.inside.streams in
    let t = c.share_upper.new.streams in
    let own : KeyRange = record { from = c.self.inside.range.from; to = Some c.args.middle } in
    let new : Stored = record { streams = t; range = own; is_loaded = is_some c.share_upper.new.rows } in
    let none : (logged s).doubt ≡ None = subst (λ (v : Stored). doubt_of v ≡ None) (sym c.self.view_is) c.requires.sure in
    let same : HaveSameBlocks s t = subst (HaveSameBlocks s) (sym c.share_upper.ensures.same) (same_streams s) in
    let sure : (logged t).doubt ≡ None = subst (λ (u : ThreeStreams). (logged u).doubt ≡ None) (sym c.share_upper.ensures.same) none in
    subst (λ (v : Stored). IsHalf (record { from = v.range.from; to = Some c.args.middle }) v new) c.self.view_is
    (half_means s t (is_some c.self.inside.rows) (is_some c.share_upper.new.rows) c.self.inside.range own same sure
    (ap is_some c.in-Ok.ensures.below ∙ is_some-map (λ w. finite.retain_keys w (is_below c.args.middle)) c.self.inside.rows))

pub returns-in-Ok-clause-upper : goal.returns-in-Ok-clause-upper
returns-in-Ok-clause-upper c =
    let new : Stored = record { streams = c.in-Ok.field-0.streams; range = c.args.upper; is_loaded = is_some c.in-Ok.field-0.rows } in
    subst (λ (v : Stored). IsHalf c.args.upper v new) c.self.view_is
    (half_means c.self.inside.streams c.in-Ok.field-0.streams (is_some c.self.inside.rows) (is_some c.in-Ok.field-0.rows) c.self.inside.range c.args.upper
    c.in-Ok.ensures.shared (sealed_sure c.in-Ok.field-0.streams c.in-Ok.ensures.whole)
    (ap is_some c.in-Ok.ensures.from ∙ is_some-map (λ w. finite.retain_keys w (is_from c.args.middle)) c.self.inside.rows))

pub returns-in-Err-clause-refused : goal.returns-in-Err-clause-refused
returns-in-Err-clause-refused c =
    let s = c.self.inside.streams in
    let b = is_some c.self.inside.rows in
    let none : (logged s).doubt ≡ None = subst (λ (v : Stored). doubt_of v ≡ None) (sym c.self.view_is) c.requires.sure in (
      subst (λ (v : Stored). MeansTheSame v (record { streams = c.share_upper.new.streams; range = c.self.inside.range; is_loaded = is_some c.share_upper.new.rows })) c.self.view_is
          (subst (λ o. MeansTheSame (record { streams = s; range = c.self.inside.range; is_loaded = b }) (record { streams = c.share_upper.new.streams; range = c.self.inside.range; is_loaded = is_some o }))
          (sym c.in-Err.ensures.refused)
          (subst (λ (u : ThreeStreams). MeansTheSame (record { streams = s; range = c.self.inside.range; is_loaded = b }) (record { streams = u; range = c.self.inside.range; is_loaded = b }))
          (sym c.share_upper.ensures.same) (means_itself (record { streams = s; range = c.self.inside.range; is_loaded = b })))),
      subst (λ (u : ThreeStreams). (logged u).doubt ≡ None) (sym c.share_upper.ensures.same) none,
    )
