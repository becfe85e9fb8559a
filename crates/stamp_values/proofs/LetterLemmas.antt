-- Permissions and their letters.
use Rattle.std.proofs.Common.{◌≡◌, ◌≢◌, ℕ, Bool, true, false, cond, List, [], Option, Some, None, bytes_eq, ◌&&◌, refl, sym, ap, ◌∙◌}
use Rattle.std.proofs.lemmas.Slice.Eq.{bytes_eq-Decides}
use Rattle.stamp_values.specs.Letters.{Permissions, has_permission, letters_text, permissions_in, letters_of}

by_bools : (r w d l : Bool) → permissions_in (letters_text (record { read = r; write = w; delete = d; list = l })) ≡ record { read = r; write = w; delete = d; list = l }
by_bools true true true true = refl
by_bools true true true false = refl
by_bools true true false true = refl
by_bools true true false false = refl
by_bools true false true true = refl
by_bools true false true false = refl
by_bools true false false true = refl
by_bools true false false false = refl
by_bools false true true true = refl
by_bools false true true false = refl
by_bools false true false true = refl
by_bools false true false false = refl
by_bools false false true true = refl
by_bools false false true false = refl
by_bools false false false true = refl
by_bools false false false false = refl

-- the permissions whose letters are in the letters of permissions are these permissions
pub permissions_in-letters_text : (p : Permissions) → permissions_in (letters_text p) ≡ p
permissions_in-letters_text p = by_bools p.read p.write p.delete p.list

-- the letters of permissions are read as these permissions
pub letters_of-letters_text : (p : Permissions) → has_permission p ≡ true → letters_of (letters_text p) ≡ Some p
unfolding letters_of
letters_of-letters_text p good =
    let same = permissions_in-letters_text p in
    (λ i. cond (has_permission (same i) && bytes_eq (letters_text (same i)) (letters_text p)) (Some (same i)) None)
    ∙ (λ i. cond (good i && (bytes_eq-Decides (letters_text p) (letters_text p)).1 refl i) (Some p) None)

-- if permissions have a letter, there is a permission
pub permission_there : (p : Permissions) → letters_text p ≢ [] → has_permission p ≡ true
permission_there p some = one p.read p.write p.delete p.list some
  where
    one : (r w d l : Bool) → letters_text (record { read = r; write = w; delete = d; list = l }) ≢ [] → has_permission (record { read = r; write = w; delete = d; list = l }) ≡ true
    one true w d l some = refl
    one false true d l some = refl
    one false false true l some = refl
    one false false false true some = refl
    one false false false false some = absurd (some refl)

found : (b c : Bool) (x p : Permissions) → cond (b && c) (Some x) None ≡ Some p → (b ≡ true) × ((c ≡ true) × (x ≡ p))
found true true x p e = (refl, (refl, cc))
found true false x p e = absurd cc
found false c x p e = absurd cc

-- a text that is read as permissions is their letters, and there is a permission
pub letters_taken : (t : List ℕ) (p : Permissions) → letters_of t ≡ Some p → (t ≡ letters_text p) × (has_permission p ≡ true)
unfolding letters_of
letters_taken t p e =
    let is = found (has_permission (permissions_in t)) (bytes_eq (letters_text (permissions_in t)) t) (permissions_in t) p e in
    (sym ((bytes_eq-Decides (letters_text (permissions_in t)) t).0 is.1.0) ∙ ap letters_text is.1.1, sym (ap has_permission is.1.1) ∙ is.0)
