-- Cursors that are past the same rows.
use Rattle.std.proofs.Common.{◌≡◌, ℕ, Option, List, refl, sym, subst}
use Rattle.std.specs.Global.{Vec}
use Rattle.std.specs.declared.cmp.Ordering.{Ordering}
use Rattle.std.specs.declared.cmp.Ordering.TheVariants.{Less, Equal, Greater}
use Rattle.stamp_values.specs.Order.{key_cmp}
use Rattle.stamp_values.specs.declared.key.Key.{Key}
use Rattle.stored_rows.specs.Swept.{PassSame, is_past_in, is_upto}
use Rattle.stored_rows.specs.declared.cursor.Cursor.{Cursor}
use Rattle.stored_rows.specs.declared.cursor.Cursor.TheVariants as cursor

-- a cursor is past the rows that it is past
pub pass_same : (c d : Cursor) → d ≡ c → PassSame c d
pass_same c d same = subst (PassSame c) (sym same) (record { rows = λ key. refl; blobs = λ key name. refl })

in_same : (r : Ordering) (last copy : Option (Vec ℕ)) (name : List ℕ) → is_upto copy name ≡ is_upto last name → is_past_in r copy name ≡ is_past_in r last name
in_same Less last copy name same = refl
in_same Equal last copy name same = same
in_same Greater last copy name same = refl

pass_at : (at : Key) (last copy : Option (Vec ℕ)) → ((name : List ℕ) → is_upto copy name ≡ is_upto last name) → PassSame (cursor.In at last) (cursor.In at copy)
pass_at at last copy same = record {
  rows = λ key. refl;
  blobs = λ key name. in_same (key_cmp key at) last copy name (same name);
}

-- so is one with a copy of the last name
pub pass_in : (at to : Key) (last copy : Option (Vec ℕ)) → to ≡ at → ((name : List ℕ) → is_upto copy name ≡ is_upto last name) → PassSame (cursor.In at last) (cursor.In to copy)
pass_in at to last copy key same = subst (λ (k : Key). PassSame (cursor.In at last) (cursor.In k copy)) (sym key) (pass_at at last copy same)
