-- Uncommitted blocks, as one more block is put among them.
use Rattle.std.proofs.Common.{◌≡◌, ℕ, ◌+◌, ◌≤◌, ◌<◌, Bool, true, false, cond, ◌&&◌, ◌||◌, ◌==◌, List, [], ◌∷◌, length, Option, Some, None, refl, sym, ap, ◌∙◌, subst, arith, eqb-true, eq-eqb, leb-false}
use Rattle.std.specs.Prelude.{MatchOption, not, nat_le, is_none, is_some}
use Rattle.std.specs.List.{list_all, list_any}
use Rattle.std.specs.FinMap as finite
use Rattle.std.specs.FinMap.{FinMap, entries, entries-insert, get, insert, len-insert, len-entries}
use Rattle.std.specs.FinMap.Entries.{by_order, put}
use Rattle.std.specs.declared.cmp.Ordering.{Ordering}
use Rattle.std.specs.declared.cmp.Ordering.TheVariants.{Less, Equal, Greater}
use Rattle.std.proofs.lemmas.Bool.{and_parts, eqb-false}
use Rattle.std.proofs.lemmas.List.{nil_from_length}
use Rattle.stamp_values.specs.Order.{name_cmp, names_exact, names_total}
use Rattle.stamp_types.proofs.WorldLemmas.{equal_if_is_eq}
use Rattle.std.specs.Ordering.{eq_by_cmp}
use Rattle.stamp_types.specs.declared.piece.Piece.{Piece}
use Rattle.stamp_types.specs.Changes.{is_in_one_piece}
use Rattle.block_blobs.specs.declared.block_fault.BlockFault.{BlockFault}
use Rattle.block_blobs.specs.declared.block_fault.BlockFault.TheVariants as fault
use Rattle.block_blobs.specs.UncommittedBlocks.{are_in_one_piece, block_count, block_fault, has_other_length, have_ids_of_length, is_one_too_many}

both : (a b : Bool) → a ≡ true → b ≡ true → (a && b) ≡ true
both true b p q = q
both false b p q = p

neither : (a b : Bool) → (a || b) ≡ false → (a ≡ false) × (b ≡ false)
neither true b h = cc
neither false b h = (refl, h)

-- ---- lengths of ids

-- a test that no element passes is one that each element fails
all_if_not_any : {X : Type 0} (p : X → Bool) (xs : List X) → list_any (λ x. not (p x)) xs ≡ false → list_all p xs ≡ true
all_if_not_any p [] h = refl
all_if_not_any p (x ∷ xs) h =
    let parts = neither (not (p x)) (list_any (λ x. not (p x)) xs) h in
    both (p x) (list_all p xs) (passes (p x) parts.0) (all_if_not_any p xs parts.1)
  where
    passes : (b : Bool) → not b ≡ false → b ≡ true
    passes true e = refl
    passes false e = cc

not_equal : (a b : ℕ) → (a ≡ b → ⊥) → not (a == b) ≡ true
not_equal a b apart = elim (a == b) as (λ t. (a == b) ≡ t → not t ≡ true) [
  | true ↦ λ e. absurd (apart (eqb-true a b e))
  | false ↦ λ e. refl
] refl

module _ {X : Type 0} (n k : ℕ) where
  -- if there are ids, all of n bytes, and k is another length, an id has another length than k
  pub any_other_length : (es : List (List ℕ × X)) → list_all (λ e. length e.0 == n) es ≡ true → 0 < length es → (k ≡ n → ⊥)
      → list_any (λ e. not (length e.0 == k)) es ≡ true
  any_other_length [] all some apart = absurd (omega arith)
  any_other_length (e ∷ es) all some apart =
      let parts = and_parts (length e.0 == n) (list_all (λ e. length e.0 == n) es) all in
      let is : length e.0 ≡ n = eqb-true (length e.0) n parts.0 in
      ap (λ b. b || list_any (λ e. not (length e.0 == k)) es) (not_equal (length e.0) k (λ h. apart (sym h ∙ is)))

  -- if all ids have k bytes, or there are no ids, each id has the length k
  pub no_other_length : (es : List (List ℕ × X)) → list_all (λ e. length e.0 == n) es ≡ true → (0 < length es → k ≡ n)
      → list_any (λ e. not (length e.0 == k)) es ≡ false
  no_other_length [] all same = refl
  no_other_length (e ∷ es) all same =
      let parts = and_parts (length e.0 == n) (list_all (λ e. length e.0 == n) es) all in
      let is : k ≡ n = same (omega arith) in
      let head : (length e.0 == k) ≡ true = ap (λ m. length e.0 == m) is ∙ parts.0 in
      ap (λ b. not b || list_any (λ e. not (length e.0 == k)) es) head ∙ no_other_length es parts.1 (λ h. is)

-- ---- entries that a test passes

module _ {K X : Type 0} (R : K → K → Ordering) (k : K) (v : X) where
  -- each key passes, and the key that is put
  pub all_keys-put : (p : K → Bool) (es : List (K × X)) → p k ≡ true → list_all (λ e. p e.0) es ≡ true → list_all (λ e. p e.0) (put R k v es) ≡ true
  all_keys-put p [] own all = both (p k) true own refl
  all_keys-put p (e ∷ es) own all =
      let parts = and_parts (p e.0) (list_all (λ e. p e.0) es) all in
      elim (R k e.0) as (λ o. list_all (λ e. p e.0) (by_order o ((k, v) ∷ e ∷ es) ((e.0, v) ∷ es) (e ∷ put R k v es)) ≡ true) [
        | Less ↦ both (p k) _ own all
        | Equal ↦ all
        | Greater ↦ both (p e.0) _ parts.0 (all_keys-put p es own parts.1)
      ]

  -- each value passes, and the value that is put
  pub all_values-put : (p : X → Bool) (es : List (K × X)) → p v ≡ true → list_all (λ e. p e.1) es ≡ true → list_all (λ e. p e.1) (put R k v es) ≡ true
  all_values-put p [] own all = both (p v) true own refl
  all_values-put p (e ∷ es) own all =
      let parts = and_parts (p e.1) (list_all (λ e. p e.1) es) all in
      elim (R k e.0) as (λ o. list_all (λ e. p e.1) (by_order o ((k, v) ∷ e ∷ es) ((e.0, v) ∷ es) (e ∷ put R k v es)) ≡ true) [
        | Less ↦ both (p v) _ own all
        | Equal ↦ both (p v) _ own parts.1
        | Greater ↦ both (p e.1) _ parts.0 (all_values-put p es own parts.1)
      ]

-- ---- what holds once a block is put

module _ (m : FinMap name_cmp (List Piece)) (k : List ℕ) (v : List Piece) where
  none_other : (b : Bool) (x y : Option BlockFault) → (x ≡ None → ⊥) → cond b x y ≡ None → b ≡ false
  none_other true x y some h = absurd (some h)
  none_other false x y some h = refl

  -- a block without a fault has an id of the other ids' length
  pub same_length : block_fault k m ≡ None → has_other_length k m ≡ false
  same_length fits = none_other (has_other_length k m) (Some fault.Length) (cond (is_one_too_many k m) (Some fault.TooMany) None) (λ h. cc) fits

  -- a block without a fault is not one too many
  pub has_room : block_fault k m ≡ None → is_one_too_many k m ≡ false
  has_room fits =
      none_other (is_one_too_many k m) (Some fault.TooMany) None (λ h. cc)
      (sym (ap (λ b. cond b (Some fault.Length) (cond (is_one_too_many k m) (Some fault.TooMany) None)) (same_length fits)) ∙ fits)

  pub have_ids_of_length-put : block_fault k m ≡ None → have_ids_of_length (length k) (insert m k v) ≡ true
  have_ids_of_length-put fits =
      ap (list_all (λ (e : List ℕ × List Piece). length e.0 == length k)) (entries-insert names_total m k v)
      ∙ all_keys-put name_cmp k v (λ id. length id == length k) (entries m) (eq-eqb (length k) (length k) refl) (all_if_not_any (λ e. length e.0 == length k) (entries m) (same_length fits))

  pub are_in_one_piece-put : is_in_one_piece v ≡ true → are_in_one_piece m ≡ true → are_in_one_piece (insert m k v) ≡ true
  are_in_one_piece-put own all =
      ap (list_all (λ (e : List ℕ × List Piece). is_in_one_piece e.1)) (entries-insert names_total m k v)
      ∙ all_values-put name_cmp k v is_in_one_piece (entries m) own all

  counted : (o : Option (List Piece)) (n : ℕ) → n ≤ 50000 → (is_none o && nat_le 50000 n) ≡ false → cond (is_some o) n (n + 1) ≤ 50000
  counted None n within room = let less = leb-false 50000 n room in omega arith
  counted (Some x) n within room = within

  pub block_count-put : block_fault k m ≡ None → block_count m ≤ 50000 → block_count (insert m k v) ≤ 50000
  block_count-put fits within =
      let count : block_count (insert m k v) ≡ cond (is_some (get m k)) (block_count m) (block_count m + 1) =
      sym (len-entries (insert m k v)) ∙ len-insert names_total m k v ∙ ap (λ n. cond (is_some (get m k)) n (n + 1)) (len-entries m) in
      rw count (counted (get m k) (block_count m) within (has_room fits))

-- ---- what the type of uncommitted blocks keeps

abbrev pub Keeps : ℕ → FinMap name_cmp (List Piece) → Type 0
Keeps n m = (block_count m ≤ 50000) × (are_in_one_piece m ≡ true) × (have_ids_of_length n m ≡ true)

pub no_entries : entries (finite.empty {X = List Piece} {R = name_cmp}) ≡ []
no_entries = nil_from_length _ (sym (len-entries _) ∙ finite.len-empty name_cmp (List Piece))

keeps_nothing : (es : List (List ℕ × List Piece)) → es ≡ [] → (length es ≤ 50000) × (list_all (λ e. is_in_one_piece e.1) es ≡ true) × (list_all (λ e. length e.0 == 0) es ≡ true)
keeps_nothing [] is = (omega arith, refl, refl)
keeps_nothing (e ∷ es) is = cc

-- no blocks
pub keeps_empty : (m : FinMap name_cmp (List Piece)) → m ≡ finite.empty → Keeps 0 m
keeps_empty m is = keeps_nothing (entries m) (ap entries is ∙ no_entries)

-- one more block
pub keeps_put : (m u : FinMap name_cmp (List Piece)) (n k : ℕ) (id : List ℕ) (v : List Piece) → u ≡ finite.insert m id v → k ≡ length id → block_fault id m ≡ None → is_in_one_piece v ≡ true → Keeps n m → Keeps k u
keeps_put m u n k id v is long fits piece keeps =
    let put : Keeps (length id) (insert m id v) = (block_count-put m id v fits keeps.0, are_in_one_piece-put m id v piece keeps.1, have_ids_of_length-put m id v fits) in
    let same : Keeps k (insert m id v) = subst (λ k. Keeps k (insert m id v)) (sym long) put in
    subst (Keeps k) (sym is) same

-- the length of an id against that of the ids
pub other_length : (m s : FinMap name_cmp (List Piece)) (id : List ℕ) (n : ℕ) → s ≡ m → have_ids_of_length n s ≡ true → 0 < block_count s → not (length id == n) ≡ has_other_length id m
other_length m s id n is all some =
    (elim (length id == n) as (λ t. (length id == n) ≡ t → not t ≡ has_other_length id s) [
      | true ↦ λ e. sym (no_other_length n (length id) (entries s) all (λ h. eqb-true (length id) n e))
      | false ↦ λ e. sym (any_other_length n (length id) (entries s) all some (λ h. eqb-false (length id) n e h))
    ] refl) ∙ ap (λ (t : FinMap name_cmp (List Piece)). has_other_length id t) is

found_length : {X : Type 0} (n : ℕ) (q : List ℕ) (es : List (List ℕ × X)) → list_all (λ e. length e.0 == n) es ≡ true → is_some (finite.find name_cmp q es) ≡ true → length q ≡ n
found_length n q [] all some = cc
found_length n q (e ∷ es) all some =
    let parts = and_parts (length e.0 == n) (list_all (λ e. length e.0 == n) es) all in
    elim (eq_by_cmp name_cmp q e.0) as (λ t. eq_by_cmp name_cmp q e.0 ≡ t → is_some (cond t (Some e.1) (finite.find name_cmp q es)) ≡ true → length q ≡ n) [
      | true ↦ λ same some. ap length (names_exact q e.0 (equal_if_is_eq _ same)) ∙ eqb-true (length e.0) n parts.0
      | false ↦ λ other some. found_length n q es parts.1 some
    ] refl some

-- the id of each block has the length of the other ids
pub has_their_length : (n : ℕ) (m : FinMap name_cmp (List Piece)) → have_ids_of_length n m ≡ true → (id : List ℕ) → is_some (get m id) ≡ true → has_other_length id m ≡ false
has_their_length n m all id some =
    let long : length id ≡ n = found_length n id (entries m) all (ap is_some (sym (finite.get-entries m id)) ∙ some) in
    no_other_length n (length id) (entries m) all (λ h. long)

-- a block whose id had a block is put, or nothing is put
pub keeps_replaced : (m u : FinMap name_cmp (List Piece)) (n : ℕ) (id : List ℕ) (v : List Piece) (back : Option (List Piece))
    → MatchOption back ((u ≡ finite.insert m id v) × (is_some (get m id) ≡ true)) (λ given. (given ≡ v) × (u ≡ m))
    → block_fault id m ≡ None → is_in_one_piece v ≡ true → Keeps n m → Keeps n u
keeps_replaced m u n id v None told fits piece keeps =
    let long : length id ≡ n = found_length n id (entries m) keeps.2 (ap is_some (sym (finite.get-entries m id)) ∙ told.1) in
    keeps_put m u n n id v told.0 (sym long) fits piece keeps
keeps_replaced m u n id v (Some given) told fits piece keeps = subst (Keeps n) (sym told.1) keeps
