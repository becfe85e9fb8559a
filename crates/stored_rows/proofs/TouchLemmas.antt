-- Rows that a sweep notes as touched.
use Rattle.std.proofs.Common.{◌≡◌, Result, Ok, Err, unwrap_or, ◌∙◌, ◌⊎◌, inl, inr, ◌||◌, Bool, true, false, cond, Option, Some, None, List, ℕ, ap, sym, refl, subst}
use Rattle.std.specs.FinMap as finite
use Rattle.std.specs.Option.{option_map_or}
use Rattle.std.specs.Ordering.{eq_by_cmp}
use Rattle.std.specs.Cmp.{eq_by_cmp_equiv}
use Rattle.std.specs.Prelude.{OnErr, is_some}
use Rattle.std.proofs.lemmas.Map.Views.{tells_apart}
use Rattle.stamp_values.specs.Order.{key_cmp, keys_exact, keys_total, name_cmp, names_exact, names_total}
use Rattle.stamp_values.specs.declared.key.Key.{Key}
use Rattle.partition_stream.specs.Meanings.{held_of}
use Rattle.partition_stream.specs.Streams.{ThreeStreams, logged}
use Rattle.stored_rows.specs.Swept.{AllNews, AreSwept, IsBegun, IsKnown, IsNewRow, Names, is_past, is_past_blob, is_touched, is_touched_blob, knows_row, with_blob_row, with_container}
use Rattle.stored_rows.specs.Ranges.{covers}
use Rattle.stored_rows.specs.declared.cursor.Cursor.{Cursor}
use Rattle.stored_rows.specs.declared.key_range.KeyRange.{KeyRange}
use Rattle.stored_rows.specs.declared.sweep.Sweep.{Sweep}
use Rattle.stored_rows.specs.declared.sweep.Written.{Written}
use Rattle.stored_rows.proofs.KnownLemmas.{either_true}

-- the names of the blobs of one container that were touched
abbrev pub Own : Type 0
Own = finite.FinMap name_cmp Written

or_last : (a b : Bool) → b ≡ true → (a || b) ≡ true
or_last true b h = refl
or_last false b h = h

or_first : (a b : Bool) → a ≡ true → (a || b) ≡ true
or_first true b h = refl
or_first false b h = cc

module _ (names : Names) (key : Key) (own : Own) where
  own_at : (k : Key) (b : Bool) → eq_by_cmp key_cmp k key ≡ b → finite.get (finite.insert names key own) k ≡ cond b (Some own) (finite.get names k)
  own_at k b on = finite.get-insert keys_total names key own k ∙ ap (λ x. cond x (Some own) (finite.get names k)) on

  -- a container that is touched now is this one, or was touched before
  pub touched_at : (k : Key) → is_touched (finite.insert names key own) k ≡ true → (k ≡ key) ⊎ (is_touched names k ≡ true)
  touched_at k h = by (eq_by_cmp key_cmp k key) refl
    where
      by : (b : Bool) → eq_by_cmp key_cmp k key ≡ b → (k ≡ key) ⊎ (is_touched names k ≡ true)
      by true on = inl (tells_apart keys_exact k key on)
      by false off = inr (sym (ap (λ (o : Option Own). is_some o) (own_at k false off)) ∙ h)

  -- a blob that is touched now is one of these, or was touched before
  pub touched_blob_at : (k : Key) (name : List ℕ) → is_touched_blob (finite.insert names key own) k name ≡ true
      → ((k ≡ key) × (is_some (finite.get own name) ≡ true)) ⊎ (is_touched_blob names k name ≡ true)
  touched_blob_at k name h = by (eq_by_cmp key_cmp k key) refl
    where
      by : (b : Bool) → eq_by_cmp key_cmp k key ≡ b → ((k ≡ key) × (is_some (finite.get own name) ≡ true)) ⊎ (is_touched_blob names k name ≡ true)
      by true on =
          inl (tells_apart keys_exact k key on, sym (ap (λ (o : Option Own). option_map_or (λ x. is_some (finite.get x name)) o false) (own_at k true on)) ∙ h)
      by false off = inr (sym (ap (λ (o : Option Own). option_map_or (λ x. is_some (finite.get x name)) o false) (own_at k false off)) ∙ h)

  -- The rows that a sweep knows after it noted those that were written are written
  pub noted_known : (c : Cursor) (news : AllNews) (inside : Key → Bool) (s : ThreeStreams) → IsKnown c names news inside s → IsBegun (news key) (held_of (logged s) key)
      → ((name : List ℕ) → is_some (finite.get own name) ≡ true → IsNewRow (news key) (held_of (logged s) key) name) → IsKnown c (finite.insert names key own) news inside s
  noted_known c news inside s known begun new = record {
    rows = λ k here knows. elim (either_true (is_past c k) (is_touched (finite.insert names key own) k) knows) [
      | inl past ↦ known.rows k here (or_first (is_past c k) (is_touched names k) past)
      | inr touched ↦ elim (touched_at k touched) [
        | inl same ↦ subst (λ x. IsBegun (news x) (held_of (logged s) x)) (sym same) begun
        | inr before ↦ known.rows k here (or_last (is_past c k) (is_touched names k) before)
      ]
    ];
    blobs = λ k name here knows. elim (either_true (is_past_blob c k name) (is_touched_blob (finite.insert names key own) k name) knows) [
      | inl past ↦ known.blobs k name here (or_first (is_past_blob c k name) (is_touched_blob names k name) past)
      | inr touched ↦ elim (touched_blob_at k name touched) [
        | inl same ↦ subst (λ x. IsNewRow (news x) (held_of (logged s) x) name) (sym same.0) (new name same.1)
        | inr before ↦ known.blobs k name here (or_last (is_past_blob c k name) (is_touched_blob names k name) before)
      ]
    ];
  }

-- what a container's names are, put again, changes nothing
put_names : (names : Names) (key : Key) (own : Own) → finite.get names key ≡ Some own → finite.insert names key own ≡ names
put_names names key own is = finite.same_map keys_total keys_exact (finite.insert names key own) names (λ q. finite.get-insert keys_total names key own q ∙ by q (eq_by_cmp key_cmp q key) refl)
  where
    by : (q : Key) (c : Bool) → eq_by_cmp key_cmp q key ≡ c → cond (eq_by_cmp key_cmp q key) (Some own) (finite.get names q) ≡ finite.get names q
    by q true on = ap (λ c. cond c (Some own) (finite.get names q)) on ∙ sym is ∙ sym (ap (λ n. finite.get names n) (tells_apart keys_exact q key on))
    by q false off = ap (λ c. cond c (Some own) (finite.get names q)) off

-- a sweep that notes what it knew is as it was
pub noted_same : {T E : Type 0} (r : Result T E) (w : Sweep) (key : Key) (own : Own) → finite.get w.touched key ≡ Some own → OnErr r (record w { touched = finite.insert w.touched key own } ≡ w)
noted_same (Ok x) w key own is = tt
noted_same (Err e) w key own is = λ i. record w { touched = put_names w.touched key own is i }

module _ (w : Sweep) (range : KeyRange) (t : ThreeStreams) (swept : AreSwept w range t) (key : Key) (begun : IsBegun (swept.news key) (held_of (logged t) key)) where
  noted_swept : (own : Own) → ((name : List ℕ) → is_some (finite.get own name) ≡ true → IsNewRow (swept.news key) (held_of (logged t) key) name)
      → AreSwept (record w { touched = finite.insert w.touched key own }) range t
  noted_swept own new = record {
    log = swept.log;
    blobs = swept.blobs;
    room = swept.room;
    news = swept.news;
    swept = swept.swept;
    known = noted_known w.touched key own w.cursor swept.news (covers range) t swept.known begun new;
    doubt = swept.doubt;
  }

  -- the own row of the container is noted
  pub container_noted : AreSwept (with_container w key) range t
  container_noted = by (is_touched w.touched key)
    where
      by : (b : Bool) → AreSwept (cond b w (record w { touched = finite.insert w.touched key finite.empty })) range t
      by true = swept
      by false = noted_swept finite.empty (λ name h. let none : false ≡ true = sym (ap (λ (o : Option Written). is_some o) (finite.get-empty name_cmp name)) ∙ h in absurd cc)

  -- the row of a blob is noted
  pub blob_noted : (name : List ℕ) → covers range key ≡ true → IsNewRow (swept.news key) (held_of (logged t) key) name → AreSwept (with_blob_row w key name) range t
  blob_noted name covered new = noted_swept (finite.insert own name (record {})) each
    where
      own : Own
      own = unwrap_or (finite.get w.touched key) finite.empty

      before : (n : List ℕ) (o : Option Own) → is_some (finite.get (unwrap_or o finite.empty) n) ≡ true → option_map_or (λ x. is_some (finite.get x n)) o false ≡ true
      before n (Some x) h = h
      before n None h = let none : false ≡ true = sym (ap (λ (o : Option Written). is_some o) (finite.get-empty name_cmp n)) ∙ h in absurd cc

      at : (n : List ℕ) (b : Bool) → eq_by_cmp name_cmp n name ≡ b → is_some (cond b (Some (record {})) (finite.get own n)) ≡ true → IsNewRow (swept.news key) (held_of (logged t) key) n
      at n true on h = subst (λ x. IsNewRow (swept.news key) (held_of (logged t) key) x) (sym (tells_apart names_exact n name on)) new
      at n false off h = swept.known.blobs key n covered (or_last (is_past_blob w.cursor key n) (is_touched_blob w.touched key n) (before n (finite.get w.touched key) h))

      each : (n : List ℕ) → is_some (finite.get (finite.insert own name (record {})) n) ≡ true → IsNewRow (swept.news key) (held_of (logged t) key) n
      each n h = at n (eq_by_cmp name_cmp n name) refl (sym (ap (λ (o : Option Written). is_some o) (finite.get-insert names_total own name (record {}) n)) ∙ h)

-- a sweep that has noted the own row of a container knows it
pub container_known : (w : Sweep) (key : Key) → knows_row (with_container w key).cursor (with_container w key).touched key ≡ true
container_known w key = by (is_touched w.touched key) refl
  where
    by : (b : Bool) → is_touched w.touched key ≡ b
        → knows_row (cond b w (record w { touched = finite.insert w.touched key finite.empty })).cursor (cond b w (record w { touched = finite.insert w.touched key finite.empty })).touched key ≡ true
    by true touched = or_last (is_past w.cursor key) (is_touched w.touched key) touched
    by false apart =
        or_last (is_past w.cursor key) (is_touched (finite.insert w.touched key finite.empty) key)
        (ap (λ (o : Option Own). is_some o) (own_at w.touched key finite.empty key true ((eq_by_cmp_equiv keys_total).refl key)))
