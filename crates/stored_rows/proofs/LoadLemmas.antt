-- Rows that are rebuilt change by change.
use Rattle.std.proofs.Common.{◌≡◌, ◌≢◌, ◌∙◌, ◌<◌, Bool, true, false, cond, List, [], ◌∷◌, ◌++◌, length, IsTrue, ap, sym, refl, subst, append-nil, arith}
use Rattle.std.specs.FinMap as finite
use Rattle.std.specs.Prelude.{unwrap_or}
use Rattle.std.proofs.lemmas.List.{length-append}
use Rattle.stamp_values.specs.Order.{key_cmp}
use Rattle.stamp_values.specs.declared.key.Key.{Key}
use Rattle.stamp_types.specs.Pieces.{pieces_len}
use Rattle.stamp_types.specs.World.{Part, World, changed, changed_in, no_part, part_at, part_value, same_pieces}
use Rattle.stamp_types.specs.declared.piece.Piece.{Piece}
use Rattle.stamp_types.proofs.WorldLemmas.{part_at-changed_in, part_at-changed_in_others}
use Rattle.row_trees.specs.Fits.{fits}
use Rattle.partition_stream.specs.Changes.{Recorded}
use Rattle.partition_stream.specs.Meanings.{is_on, acts_on, after_acts}
use Rattle.partition_stream.specs.Positions.{all_changes, changes_before}
use Rattle.partition_stream.specs.Streams.{ThreeStreams}
use Rattle.partition_stream.specs.declared.position.Position.{Position}
use Rattle.partition_stream.proofs.FirstPartLemmas.{first_part}
use Rattle.stored_rows.specs.Fitting.{Fits, AllFit}
use Rattle.stored_rows.specs.Loaded.{AreRowsOf, HaveRead, changes_left, part_of, with_change}
use Rattle.stored_rows.specs.Ranges.{covers}
use Rattle.stored_rows.specs.declared.key_range.KeyRange.{KeyRange}
use Rattle.stored_rows.proofs.FittingLemmas.{after_one, fits_next, is_on-own, is_on-same}

-- a container of the range
pub part_of-covered : (range : KeyRange) (key : Key) (cs : List Recorded) → covers range key ≡ true → part_of range key cs ≡ after_acts same_pieces (acts_on key cs) no_part
part_of-covered range key cs covered = ap (λ b. cond b (after_acts same_pieces (acts_on key cs) no_part) no_part) covered

-- a container that is not of the range
pub part_of-apart : (range : KeyRange) (key : Key) (cs : List Recorded) → covers range key ≡ false → part_of range key cs ≡ no_part
part_of-apart range key cs apart = ap (λ b. cond b (after_acts same_pieces (acts_on key cs) no_part) no_part) apart

differs : (b : Bool) → b ≡ false → b ≡ true → ⊥
differs true off on = cc
differs false off on = cc

-- a change of another container
pub other_key : (key : Key) (c : Recorded) → is_on key c ≡ false → key ≢ c.0.key
other_key key c off same = differs (is_on key c) off (subst (λ k. is_on k c ≡ true) (sym same) (is_on-own c))

-- another container is as it was
part_of-other : (range : KeyRange) (key : Key) (cs : List Recorded) (c : Recorded) → is_on key c ≡ false → part_of range key (cs ++ c ∷ []) ≡ part_of range key cs
part_of-other range key cs c off = ap (λ p. cond (covers range key) p no_part) (after_one key cs c false off)

-- rows have the containers of the range as these changes leave them
abbrev pub HaveChanges : KeyRange → List Recorded → World (List Piece) → Type 0
HaveChanges range cs w = (key : Key) → part_at w key ≡ part_of range key cs

module _ (range : KeyRange) (cs : List Recorded) (c : Recorded) (w : World (List Piece)) (old : HaveChanges range cs w) where
  -- a change of a container of the range
  changed_at : covers range c.0.key ≡ true → (key : Key) (b : Bool) → is_on key c ≡ b → part_at (changed_in same_pieces w c.0) key ≡ part_of range key (cs ++ c ∷ [])
  changed_at covered key true on =
      subst (λ k. part_at (changed_in same_pieces w c.0) k ≡ part_of range k (cs ++ c ∷ [])) (is_on-same key c on)
      (part_at-changed_in same_pieces w c.0
      ∙ ap (changed same_pieces c.0.act) (old c.0.key ∙ part_of-covered range c.0.key cs covered)
      ∙ sym (part_of-covered range c.0.key (cs ++ c ∷ []) covered ∙ after_one c.0.key cs c true (is_on-own c)))
  changed_at covered key false off =
      part_at-changed_in_others same_pieces w c.0 key (other_key key c off) ∙ old key ∙ sym (part_of-other range key cs c off)

  -- a change that is passed
  passed_at : covers range c.0.key ≡ false → (key : Key) (b : Bool) → is_on key c ≡ b → part_at w key ≡ part_of range key (cs ++ c ∷ [])
  passed_at apart key true on =
      subst (λ k. part_at w k ≡ part_of range k (cs ++ c ∷ [])) (is_on-same key c on)
      (old c.0.key ∙ part_of-apart range c.0.key cs apart ∙ sym (part_of-apart range c.0.key (cs ++ c ∷ []) apart))
  passed_at apart key false off = old key ∙ sym (part_of-other range key cs c off)

  with_change_at : (b : Bool) → covers range c.0.key ≡ b → (key : Key) → part_at (cond b (changed_in same_pieces w c.0) w) key ≡ part_of range key (cs ++ c ∷ [])
  with_change_at true covered key = changed_at covered key (is_on key c) refl
  with_change_at false apart key = passed_at apart key (is_on key c) refl

  -- the rows with one change more
  pub have_more : HaveChanges range (cs ++ c ∷ []) (with_change range w c.0)
  have_more = λ key. with_change_at (covers range c.0.key) refl key

  -- the rows with one change more of the range
  pub have_more_covered : covers range c.0.key ≡ true → HaveChanges range (cs ++ c ∷ []) (changed_in same_pieces w c.0)
  have_more_covered covered = λ key. changed_at covered key (is_on key c) refl

  -- a change fits the rows, if it fits its container
  pub fits_rows : covers range c.0.key ≡ true → Fits (after_acts same_pieces (acts_on c.0.key cs) no_part) c.0.act → IsTrue (fits (part_value pieces_len (part_at w c.0.key)) c.0.act)
  fits_rows covered own = subst (λ p. Fits p c.0.act) (sym (old c.0.key ∙ part_of-covered range c.0.key cs covered)) own

-- ---- a step of a walk

-- the change that is read fits the rows
pub step_fits : (s : ThreeStreams) (range : KeyRange) (before after : Position) (c : Recorded) (w : World (List Piece)) → AllFit s
    → HaveRead range s before w → changes_before s after ≡ changes_before s before ++ c ∷ []
    → covers range c.0.key ≡ true → IsTrue (fits (part_value pieces_len (part_at w c.0.key)) c.0.act)
unfolding HaveRead
step_fits s range before after c w fit old next covered =
    let first = first_part s after in
    fits_rows range (changes_before s before) c w old covered
    (fits_next s (changes_before s before) first.0 c fit (first.1 ∙ ap (λ cs. cs ++ first.0) next))

-- the rows have it
pub step_read : (s : ThreeStreams) (range : KeyRange) (before after : Position) (c : Recorded) (w v : World (List Piece))
    → HaveRead range s before w → changes_before s after ≡ changes_before s before ++ c ∷ []
    → v ≡ with_change range w c.0 → HaveRead range s after v
unfolding HaveRead
step_read s range before after c w v old next made = λ key.
    ap (λ u. part_at u key) made ∙ have_more range (changes_before s before) c w old key ∙ sym (ap (part_of range key) next)

-- fewer changes are left
pub step_left : (s : ThreeStreams) (before after : Position) (c : Recorded) → changes_before s after ≡ changes_before s before ++ c ∷ []
    → changes_left s after < changes_left s before
unfolding changes_left
step_left s before after c next =
    let first = first_part s after in
    let all = ap length first.1 ∙ length-append (changes_before s after) first.0 in
    let more = ap length next ∙ length-append (changes_before s before) (c ∷ []) in
    omega (arith, all, more)

-- ---- the beginning and the end of a walk

-- rows that have the changes before a position have those before another one with the same changes before it
pub same_read : (s : ThreeStreams) (range : KeyRange) (before after : Position) (w : World (List Piece)) → HaveRead range s before w
    → changes_before s after ≡ changes_before s before → HaveRead range s after w
unfolding HaveRead
same_read s range before after w old same = λ key. old key ∙ sym (ap (part_of range key) same)

-- no change is left
pub none_left : (s : ThreeStreams) (before after : Position) → changes_before s after ≡ changes_before s before → changes_before s before ≡ all_changes s → changes_left s after ≡ 0
unfolding changes_left
none_left s before after same all = let whole = ap length (same ∙ all) in omega (arith, whole)

nothing_more : (l : List Recorded) → length l ≡ 0 → l ≡ []
nothing_more [] none = refl
nothing_more (c ∷ cs) none = absurd (omega (arith, none))

-- rows that have the changes before a position after which no change is left
pub read_all : (s : ThreeStreams) (range : KeyRange) (p : Position) (w : World (List Piece)) → HaveRead range s p w → changes_left s p ≡ 0 → AreRowsOf range s w
unfolding HaveRead changes_left
read_all s range p w read none =
    let first = first_part s p in
    let long = ap length first.1 ∙ length-append (changes_before s p) first.0 in
    let rest = nothing_more first.0 (omega (arith, long, none)) in
    let all : all_changes s ≡ changes_before s p = first.1 ∙ ap (λ l. changes_before s p ++ l) rest ∙ append-nil (changes_before s p) in
    λ key. read key ∙ sym (ap (part_of range key) all)

either : (b : Bool) (p : Part (List Piece)) → cond b p p ≡ p
either true p = refl
either false p = refl

-- no rows have no changes
pub none_have : (range : KeyRange) (cs : List Recorded) (w : World (List Piece)) → w ≡ finite.empty → cs ≡ [] → HaveChanges range cs w
none_have range cs w empty none = λ key.
    ap (λ v. part_at v key) empty ∙ ap (λ o. unwrap_or o no_part) (finite.get-empty key_cmp key)
    ∙ sym (ap (part_of range key) none ∙ either (covers range key) no_part)

-- no rows have the changes before the first position
pub none_read : (s : ThreeStreams) (range : KeyRange) (p : Position) (w : World (List Piece)) → w ≡ finite.empty → changes_before s p ≡ [] → HaveRead range s p w
unfolding HaveRead
none_read s range p w empty none = none_have range (changes_before s p) w empty none
