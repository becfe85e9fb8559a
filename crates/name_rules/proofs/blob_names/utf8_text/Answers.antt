use Rattle.std.proofs.Common.{◌≡◌, IsOk, IsUtf8, inl, inr, rules, string_bytes, subst, sym, true≢false}
use Rattle.std.proofs.lemmas.Bool.{cases_Bool}
use Rattle.std.proofs.lemmas.Str.{IsUtf8-string_bytes}
use Rattle.stamp_values.specs.Texts.{is_utf8}
use Rattle.stamp_values.proofs.Utf8Lemmas.{utf8_passes}
use Rattle.name_rules.proofs.Utf8Lemmas.{is_utf8-IsUtf8}
use Rattle.name_rules.proofs.blob_names.utf8_text.Goals as goal

pub returns-in-Ok : goal.returns-in-Ok
returns-in-Ok c =
    let same : string_bytes c.in-Ok.text ≡ c.args.bytes.items = search rules in
    (utf8_passes c.args.bytes.items (subst IsUtf8 same (IsUtf8-string_bytes c.in-Ok.text)), same)

pub returns-in-Err : goal.returns-in-Err
returns-in-Err c = elim (cases_Bool (is_utf8 c.args.bytes.items)) [
  | inl text ↦ absurd (true≢false (sym (subst (λ r. IsOk r) c.in-Err.is (c.from_utf8.ensures.succeeds ((is_utf8-IsUtf8 c.args.bytes.items).0 text)))))
  | inr other ↦ other
]
