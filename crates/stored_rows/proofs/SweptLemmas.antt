-- Rows that are swept: what was written since the mark stays so with each change, and is all that is left at the end.
use Rattle.std.proofs.Common.{◌≡◌, ◌≢◌, ◌∙◌, ◌⊎◌, ◌+◌, Bool, true, false, ◌||◌, cond, Option, Some, None, List, [], ◌∷◌, ◌++◌, All, IsTrue, ap, sym, refl, subst, append-nil}
use Rattle.std.specs.FinMap as finite
use Rattle.std.proofs.lemmas.List.Elements.{All-nil, All-cons, All-append, All-same}
use Rattle.extent_node.specs.Copies.{Block}
use Rattle.stamp_values.specs.Order.{name_cmp}
use Rattle.stamp_values.specs.declared.key.Key.{Key}
use Rattle.stamp_types.specs.Contents.{EachActContent}
use Rattle.stamp_types.specs.Pieces.{pieces_len}
use Rattle.stamp_types.specs.World.{Part, changed, no_part, same_pieces}
use Rattle.stamp_types.specs.declared.act.Act.{Act}
use Rattle.stamp_types.specs.declared.act.Act.TheVariants as act
use Rattle.stamp_types.specs.declared.piece.Piece.{Piece}
use Rattle.stream_manager.specs.Places.{blocks_of}
use Rattle.stream_manager.specs.Streams.{laid}
use Rattle.stream_manager.proofs.GivenUpLemmas.{blocks_emptied}
use Rattle.partition_stream.specs.Changes.{Recorded, changes_of}
use Rattle.partition_stream.specs.Meanings.{IsOneMore, acts_on, after_acts, held_of, is_on, meaning}
use Rattle.partition_stream.specs.Streams.{Logged, ThreeStreams, logged}
use Rattle.partition_stream.specs.Sweeping.{AreFrom, GivesUpBefore, changes_from, made_from, mark_of}
use Rattle.partition_stream.specs.declared.mark.Mark.{Mark}
use Rattle.partition_stream.proofs.MeaningLemmas.{held_of-other, held_of-own}
use Rattle.partition_stream.proofs.SweepingLemmas.{means_given, none_since}
use Rattle.stored_rows.specs.Fitting.{AllFit, FitInTurn, Fits}
use Rattle.row_trees.specs.Halfway.{IsAllNew, IsHalfway, IsSweptPart, News, news_after, no_news}
use Rattle.stored_rows.specs.Swept.{AllNews, IsSwept, IsUnseen, MayLog, next_news, with_new_change}
use Rattle.stored_rows.proofs.FittingLemmas.{acts_on-one, fit_more, is_on-own, is_on-same}
use Rattle.row_trees.proofs.HalfwayLemmas.{all_new, fits_same, row_begins, step}
use Rattle.stored_rows.proofs.LoadLemmas.{other_key}

-- ---- the end

-- Once no row of a container is old, the container is the same after the streams before the mark were given up
pub swept_ends : (m : Mark) (news : AllNews) (inside : Key → Bool) (s t : ThreeStreams) → IsSwept m news inside s → GivesUpBefore m s t
    → (key : Key) → inside key ≡ true → IsAllNew (news key) (held_of (logged s) key) → meaning (logged t) key ≡ meaning (logged s) key
swept_ends m news inside s t swept given key covered new =
    means_given m s t given key swept.from (all_new same_pieces (news key) (held_of (logged s) key) (made_from m s key) (swept.parts key covered) new)

-- all changes that are left fit in turn
fit_given : (m : Mark) (news : AllNews) (inside : Key → Bool) (s t : ThreeStreams) → IsSwept m news inside s → GivesUpBefore m s t
    → (key : Key) → FitInTurn (acts_on key ((logged t).rows ++ (logged t).log)) no_part
fit_given m news inside s t swept given key =
    let changes : (logged t).rows ++ (logged t).log ≡ changes_from m s =
    ap (λ (bs : List Block). changes_of bs ++ (logged t).log) given.rows ∙ ap changes_of (ap blocks_of given.log.blocks ∙ blocks_emptied m.log (laid s.log)) in
    subst (λ (cs : List Recorded). FitInTurn (acts_on key cs) no_part) (sym changes) (swept.fit key)

-- so all changes that are left fit
pub all_fit_given : (m : Mark) (news : AllNews) (inside : Key → Bool) (s t : ThreeStreams) → IsSwept m news inside s → GivesUpBefore m s t → AllFit t
unfolding AllFit
all_fit_given m news inside s t swept given = λ key. fit_given m news inside s t swept given key

-- ---- one act more

-- the container has seen no change
untold : (p q : Part (List Piece)) (a : Act) → IsUnseen p a → q ≡ no_part → IsHalfway no_news p q
untold p q a is none =
    subst (λ x. IsHalfway no_news p x) (sym none)
    (record { count = sym is.count; standing = sym is.standing; blobs = λ name. finite.get-empty name_cmp name })

begun : (p q : Part (List Piece)) (a : Act) → IsUnseen p a → q ≡ no_part → IsHalfway (news_after no_news a) (changed same_pieces a p) (changed same_pieces a q)
begun p q a is none = step same_pieces no_news p q a (untold p q a is none) is.touched

part_step : (o : Option News) (p q : Part (List Piece)) (a : Act) → MayLog o p a → IsSweptPart o p q → IsSweptPart (next_news o a) (changed same_pieces a p) (changed same_pieces a q)
part_step (Some news) p q a may is = step same_pieces news p q a is may
part_step None p q (act.ContainerRow r) may is =
    subst (λ x. IsHalfway no_news (changed same_pieces (act.ContainerRow r) p) (changed same_pieces (act.ContainerRow r) x)) (sym is)
    (subst (λ x. IsHalfway no_news (changed same_pieces (act.ContainerRow x) p) (changed same_pieces (act.ContainerRow x) no_part)) (sym may) (row_begins same_pieces p))
part_step None p q (act.CreateContainer a) may is = begun p q (act.CreateContainer a) may is
part_step None p q (act.SetContainerMetadata a) may is = begun p q (act.SetContainerMetadata a) may is
part_step None p q (act.SetAcl a) may is = begun p q (act.SetAcl a) may is
part_step None p q act.DeleteContainer may is = begun p q act.DeleteContainer may is
part_step None p q (act.PutBlob a) may is = begun p q (act.PutBlob a) may is
part_step None p q (act.SetMetadata a) may is = begun p q (act.SetMetadata a) may is
part_step None p q (act.DeleteBlob a) may is = begun p q (act.DeleteBlob a) may is
part_step None p q (act.PutBlock a) may is = begun p q (act.PutBlock a) may is
part_step None p q (act.PutBlockList a) may is = begun p q (act.PutBlockList a) may is
part_step None p q (act.StoredBlob a) may is = begun p q (act.StoredBlob a) may is

fits_other : (p q : Part (List Piece)) (a : Act) → IsUnseen p a → q ≡ no_part → Fits p a → Fits q a
fits_other p q a is none fit = subst IsTrue (sym (fits_same pieces_len no_news p q (untold p q a is none) a is.touched)) fit

fits_step : (o : Option News) (p q : Part (List Piece)) (a : Act) → MayLog o p a → IsSweptPart o p q → Fits p a → Fits q a
fits_step (Some news) p q a may is fit = subst IsTrue (sym (fits_same pieces_len news p q is a may)) fit
fits_step None p q (act.ContainerRow r) may is fit = fit
fits_step None p q (act.CreateContainer a) may is fit = fits_other p q (act.CreateContainer a) may is fit
fits_step None p q (act.SetContainerMetadata a) may is fit = fits_other p q (act.SetContainerMetadata a) may is fit
fits_step None p q (act.SetAcl a) may is fit = fits_other p q (act.SetAcl a) may is fit
fits_step None p q act.DeleteContainer may is fit = fits_other p q act.DeleteContainer may is fit
fits_step None p q (act.PutBlob a) may is fit = fits_other p q (act.PutBlob a) may is fit
fits_step None p q (act.SetMetadata a) may is fit = fits_other p q (act.SetMetadata a) may is fit
fits_step None p q (act.DeleteBlob a) may is fit = fits_other p q (act.DeleteBlob a) may is fit
fits_step None p q (act.PutBlock a) may is fit = fits_other p q (act.PutBlock a) may is fit
fits_step None p q (act.PutBlockList a) may is fit = fits_other p q (act.PutBlockList a) may is fit
fits_step None p q (act.StoredBlob a) may is fit = fits_other p q (act.StoredBlob a) may is fit

-- ---- one change more

-- changes as the log of streams without rows
abbrev since : List Recorded → Logged
since cs = record { rows = []; log = cs; doubt = None; blobs = [] }

module _ (m : Mark) (news : AllNews) (inside : Key → Bool) (s t : ThreeStreams) (c : Recorded) (swept : IsSwept m news inside s)
    (more : IsOneMore (logged s) c (logged t)) (one : changes_from m t ≡ changes_from m s ++ c ∷ []) (covered : inside c.0.key ≡ true)
    (may : MayLog (news c.0.key) (held_of (logged s) c.0.key) c.0.act) (fit : Fits (held_of (logged s) c.0.key) c.0.act)
    (put : EachActContent (AreFrom m.blobs) c.0.act) where
  more_since : IsOneMore (since (changes_from m s)) c (since (changes_from m t))
  more_since = record { rows = refl; log = one }

  own : IsSweptPart (with_new_change news c c.0.key) (held_of (logged t) c.0.key) (made_from m t c.0.key)
  own =
      subst (λ (b : Bool). IsSweptPart (cond b (next_news (news c.0.key) c.0.act) (news c.0.key)) (held_of (logged t) c.0.key) (made_from m t c.0.key)) (sym (is_on-own c))
      (subst (λ (x : Part (List Piece)). IsSweptPart (next_news (news c.0.key) c.0.act) x (made_from m t c.0.key)) (sym (held_of-own (logged s) (logged t) c more))
      (subst (λ (x : Part (List Piece)). IsSweptPart (next_news (news c.0.key) c.0.act) (changed same_pieces c.0.act (held_of (logged s) c.0.key)) x)
      (sym (held_of-own (since (changes_from m s)) (since (changes_from m t)) c more_since))
      (part_step (news c.0.key) (held_of (logged s) c.0.key) (made_from m s c.0.key) c.0.act may (swept.parts c.0.key covered))))

  parts_more : (key : Key) → inside key ≡ true → IsSweptPart (with_new_change news c key) (held_of (logged t) key) (made_from m t key)
  parts_more key here = by (is_on key c) refl
    where
      by : (b : Bool) → is_on key c ≡ b → IsSweptPart (with_new_change news c key) (held_of (logged t) key) (made_from m t key)
      by true on = subst (λ k. IsSweptPart (with_new_change news c k) (held_of (logged t) k) (made_from m t k)) (is_on-same key c on) own
      by false off =
          subst (λ (b : Bool). IsSweptPart (cond b (next_news (news key) c.0.act) (news key)) (held_of (logged t) key) (made_from m t key)) (sym off)
          (subst (λ (x : Part (List Piece)). IsSweptPart (news key) x (made_from m t key)) (sym (held_of-other (logged s) (logged t) c key more (other_key key c off)))
          (subst (λ (x : Part (List Piece)). IsSweptPart (news key) (held_of (logged s) key) x)
          (sym (held_of-other (since (changes_from m s)) (since (changes_from m t)) c key more_since (other_key key c off)))
          (swept.parts key here)))

  fit_after : (key : Key) → FitInTurn (acts_on key (changes_from m t)) no_part
  fit_after key = by (is_on key c) refl
    where
      by : (b : Bool) → is_on key c ≡ b → FitInTurn (acts_on key (changes_from m t)) no_part
      by true on =
          let acts : acts_on key (changes_from m t) ≡ acts_on key (changes_from m s) ++ c.0.act ∷ [] = ap (acts_on key) one ∙ acts_on-one key (changes_from m s) c true on in
          let own_fit : Fits (made_from m s c.0.key) c.0.act = fits_step (news c.0.key) (held_of (logged s) c.0.key) (made_from m s c.0.key) c.0.act may (swept.parts c.0.key covered) fit in
          subst (λ l. FitInTurn l no_part) (sym acts)
          (fit_more (acts_on key (changes_from m s)) c.0.act no_part (swept.fit key) (subst (λ k. Fits (made_from m s k) c.0.act) (is_on-same key c on) own_fit))
      by false off =
          let acts : acts_on key (changes_from m t) ≡ acts_on key (changes_from m s) ++ [] = ap (acts_on key) one ∙ acts_on-one key (changes_from m s) c false off in
          subst (λ l. FitInTurn l no_part) (sym (acts ∙ append-nil (acts_on key (changes_from m s)))) (swept.fit key)

  -- A change that may be logged keeps the sweep
  pub swept_more : IsSwept m (with_new_change news c) inside t
  swept_more = record {
    parts = parts_more;
    fit = fit_after;
    from = All-same (λ (d : Recorded). EachActContent (AreFrom m.blobs) d.0.act) (changes_from m t) (changes_from m s ++ c ∷ []) one
        (All-append (λ (d : Recorded). EachActContent (AreFrom m.blobs) d.0.act) (changes_from m s) (c ∷ []) swept.from
        (All-cons (λ (d : Recorded). EachActContent (AreFrom m.blobs) d.0.act) c [] put (All-nil (λ (d : Recorded). EachActContent (AreFrom m.blobs) d.0.act))));
  }

-- ---- the beginning, and streams that keep the same changes

-- no row was written since a mark that is taken while the last extent of the log has no block
pub swept_begins : (inside : Key → Bool) (s : ThreeStreams) → s.log.last.blocks ≡ [] → IsSwept (mark_of s) (λ key. None) inside s
swept_begins inside s empty =
    let none : changes_from (mark_of s) s ≡ [] = none_since s empty in
    record {
      parts = λ key here. ap (λ cs. after_acts same_pieces (acts_on key cs) no_part) none;
      fit = λ key. subst (λ cs. FitInTurn (acts_on key cs) no_part) (sym none) tt;
      from = All-same (λ (d : Recorded). EachActContent (AreFrom (mark_of s).blobs) d.0.act) (changes_from (mark_of s) s) [] none (All-nil (λ (d : Recorded). EachActContent (AreFrom (mark_of s).blobs) d.0.act));
    }

-- Streams with the same changes are swept as before, for each part of the range
pub swept_same : (m : Mark) (news : AllNews) (inside half : Key → Bool) (s t : ThreeStreams) → ((key : Key) → held_of (logged t) key ≡ held_of (logged s) key)
    → changes_from m t ≡ changes_from m s → ((key : Key) → half key ≡ true → inside key ≡ true) → IsSwept m news inside s → IsSwept m news half t
swept_same m news inside half s t held changes within swept = record {
  parts = λ key here.
      subst (λ (x : Part (List Piece)). IsSweptPart (news key) x (made_from m t key)) (sym (held key))
      (subst (λ (cs : List Recorded). IsSweptPart (news key) (held_of (logged s) key) (after_acts same_pieces (acts_on key cs) no_part)) (sym changes)
      (swept.parts key (within key here)));
  fit = λ key. subst (λ (cs : List Recorded). FitInTurn (acts_on key cs) no_part) (sym changes) (swept.fit key);
  from = subst (λ (cs : List Recorded). All (λ (d : Recorded). EachActContent (AreFrom m.blobs) d.0.act) cs) (sym changes) swept.from;
}
