-- The halves of rows that are cut at a key.
use Rattle.std.proofs.Common.{◌≡◌, ◌&&◌, Bool, true, false, cond, Option, Some, None, unwrap_or, refl, sym, ap, ◌∙◌, subst}
use Rattle.std.specs.Prelude.{List, IfSome, is_some}
use Rattle.std.specs.FinMap.{get, retain_keys, get-retain_keys}
use Rattle.std.specs.Option.{option_map}
use Rattle.std.specs.Ordering.{ordering_reverse, is_gt, is_le}
use Rattle.std.specs.declared.cmp.Ordering.{Ordering}
use Rattle.std.specs.declared.cmp.Ordering.TheVariants.{Less, Equal, Greater}
use Rattle.stamp_values.specs.Order.{key_cmp, keys_exact, keys_total}
use Rattle.stamp_values.specs.Trees.{is_below, is_from}
use Rattle.stamp_values.specs.declared.key.Key.{Key}
use Rattle.stamp_types.specs.declared.piece.Piece.{Piece}
use Rattle.stamp_types.specs.World.{Part, World, no_part, part_at, same_pieces}
use Rattle.partition_stream.specs.Meanings.{acts_on, after_acts}
use Rattle.partition_stream.specs.Positions.{all_changes}
use Rattle.partition_stream.specs.Streams.{ThreeStreams}
use Rattle.stored_rows.specs.Loaded.{AreRowsOf}
use Rattle.stored_rows.specs.Ranges.{covers, is_before_end}
use Rattle.stored_rows.specs.declared.key_range.KeyRange.{KeyRange}

-- ---- the order of keys

turned : (r : Ordering) → is_gt r ≡ true → ordering_reverse r ≡ Less
turned Less e = cc
turned Equal e = cc
turned Greater e = refl

turned_back : (r : Ordering) → r ≡ Less → is_gt (ordering_reverse r) ≡ true
turned_back Less e = refl
turned_back Equal e = cc
turned_back Greater e = cc

less_of_below : (a b : Key) → is_below b a ≡ true → key_cmp a b ≡ Less
less_of_below a b e = keys_total.antisymm a b ∙ turned (key_cmp b a) e

below_of_less : (a b : Key) → key_cmp a b ≡ Less → is_below b a ≡ true
below_of_less a b e = ap is_gt (keys_total.antisymm b a) ∙ turned_back (key_cmp a b) e

-- a < b and b < c give a < c
below_below : (a b c : Key) → is_below b a ≡ true → is_below c b ≡ true → is_below c a ≡ true
below_below a b c e f = below_of_less a c (keys_total.trans a b c (less_of_below a b e) (less_of_below b c f))

at_most : (r : Ordering) → r ≡ Less → is_le r ≡ true
at_most Less e = refl
at_most Equal e = cc
at_most Greater e = cc

-- a ≤ b and b ≤ c give a ≤ c
from_from : (a b c : Key) → is_from a b ≡ true → is_from b c ≡ true → is_from a c ≡ true
from_from a b c e f = first (key_cmp a b) refl e
  where
    then : key_cmp a b ≡ Less → (r : Ordering) → key_cmp b c ≡ r → is_le r ≡ true → is_le (key_cmp a c) ≡ true
    then less Less is h = at_most (key_cmp a c) (keys_total.trans a b c less is)
    then less Equal is h = subst (λ (k : Key). is_le (key_cmp a k) ≡ true) (keys_exact b c is) (at_most (key_cmp a b) less)
    then less Greater is h = cc

    first : (r : Ordering) → key_cmp a b ≡ r → is_le r ≡ true → is_le (key_cmp a c) ≡ true
    first Less is h = then is (key_cmp b c) refl f
    first Equal is h = ap is_le (keys_total.congr a b c is) ∙ f
    first Greater is h = cc

-- a key before a key of the range comes before the end of the range
before_end : (o : Option Key) (middle key : Key) → is_before_end o middle ≡ true → is_below middle key ≡ true → is_before_end o key ≡ true
before_end None middle key h e = refl
before_end (Some to) middle key h e = below_below key middle to e h

-- ---- what each half has

both : (a b : Bool) → (a && b) ≡ true → (a ≡ true) × (b ≡ true)
both true true h = (refl, refl)
both true false h = cc
both false b h = cc

both_so : (a b : Bool) → a ≡ true → b ≡ true → (a && b) ≡ true
both_so true true h g = refl
both_so true false h g = g
both_so false b h g = h

-- a key of the lower half is a key of the range
pub lower_within : (range : KeyRange) (middle : Key) → covers range middle ≡ true → (key : Key) → covers (record range { to = Some middle }) key ≡ true → covers range key ≡ true
lower_within range middle covered key here =
    let own = both (is_from range.from key) (is_below middle key) here in
    both_so (is_from range.from key) (is_before_end range.to key) own.0
    (before_end range.to middle key (both (is_from range.from middle) (is_before_end range.to middle) covered).1 own.1)

-- and so is a key of the upper half
pub upper_within : (range : KeyRange) (middle : Key) → covers range middle ≡ true → (key : Key) → covers (record { from = middle; to = range.to }) key ≡ true → covers range key ≡ true
upper_within range middle covered key here =
    let own = both (is_from middle key) (is_before_end range.to key) here in
    both_so (is_from range.from key) (is_before_end range.to key)
    (from_from range.from middle key (both (is_from range.from middle) (is_before_end range.to middle) covered).0 own.0) own.1

cond_lower : (a b l : Bool) (p : Part (List Piece)) → (l ≡ true → b ≡ true) → cond l (cond (a && b) p no_part) no_part ≡ cond (a && l) p no_part
cond_lower true true true p h = refl
cond_lower true true false p h = refl
cond_lower true false true p h = let wrong : false ≡ true = h refl in absurd cc
cond_lower true false false p h = refl
cond_lower false b true p h = refl
cond_lower false b false p h = refl

cond_upper : (a b u : Bool) (p : Part (List Piece)) → (u ≡ true → a ≡ true) → cond u (cond (a && b) p no_part) no_part ≡ cond (u && b) p no_part
cond_upper true true true p h = refl
cond_upper true false true p h = refl
cond_upper false b true p h = let wrong : false ≡ true = h refl in absurd cc
cond_upper true b false p h = refl
cond_upper false b false p h = refl

retained_by : (d : Part (List Piece)) (o : Option (Part (List Piece))) (b : Bool) → unwrap_or (cond b o None) d ≡ cond b (unwrap_or o d) d
retained_by d o true = refl
retained_by d o false = refl

-- a container after keys were dropped
retained : (w : World (List Piece)) (p : Key → Bool) (k : Key) → part_at (retain_keys w p) k ≡ cond (p k) (part_at w k) no_part
retained w p k =
    ap (λ (o : Option (Part (List Piece))). unwrap_or o no_part) (get-retain_keys w p k (λ x tie. ap p (sym (keys_exact k x tie)))) ∙ retained_by no_part (get w k) (p k)

module _ (s t : ThreeStreams) (range : KeyRange) (middle : Key) (same : all_changes t ≡ all_changes s) (covered : covers range middle ≡ true) where
  abbrev lower : KeyRange
  lower = record range { to = Some middle }

  abbrev upper : KeyRange
  upper = record { from = middle; to = range.to }

  abbrev whole : ThreeStreams → Key → Part (List Piece)
  whole s key = after_acts same_pieces (acts_on key (all_changes s)) no_part

  rows_below : (w : World (List Piece)) → AreRowsOf range s w → AreRowsOf lower t (retain_keys w (is_below middle))
  rows_below w old = λ key.
      retained w (is_below middle) key ∙ ap (λ p. cond (is_below middle key) p no_part) (old key)
      ∙ cond_lower (is_from range.from key) (is_before_end range.to key) (is_below middle key) (whole s key)
      (before_end range.to middle key (both (is_from range.from middle) (is_before_end range.to middle) covered).1)
      ∙ sym (ap (λ cs. cond (covers lower key) (after_acts same_pieces (acts_on key cs) no_part) no_part) same)

  rows_from : (w : World (List Piece)) → AreRowsOf range s w → AreRowsOf upper t (retain_keys w (is_from middle))
  rows_from w old = λ key.
      retained w (is_from middle) key ∙ ap (λ p. cond (is_from middle key) p no_part) (old key)
      ∙ cond_upper (is_from range.from key) (is_before_end range.to key) (is_from middle key) (whole s key)
      (from_from range.from middle key (both (is_from range.from middle) (is_before_end range.to middle) covered).0)
      ∙ sym (ap (λ cs. cond (covers upper key) (after_acts same_pieces (acts_on key cs) no_part) no_part) same)

  -- the rows of the lower half, if they are loaded
  pub half_below : (o : Option (World (List Piece))) → IfSome o (AreRowsOf range s) → IfSome (option_map (λ w. retain_keys w (is_below middle)) o) (AreRowsOf lower t)
  half_below None old = tt
  half_below (Some w) old = rows_below w old

  -- and of the upper half
  pub half_from : (o : Option (World (List Piece))) → IfSome o (AreRowsOf range s) → IfSome (option_map (λ w. retain_keys w (is_from middle)) o) (AreRowsOf upper t)
  half_from None old = tt
  half_from (Some w) old = rows_from w old

-- a half is loaded if the rows were loaded
pub is_some-map : {X Y : Type 0} (f : X → Y) (o : Option X) → is_some (option_map f o) ≡ is_some o
is_some-map f None = refl
is_some-map f (Some x) = refl
