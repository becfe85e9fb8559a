-- When two names with their values are equal.
use Rattle.std.proofs.Common.{◌≡◌, Bool, true, false, ◌&&◌, nat_eq, refl, ap}
use Rattle.std.specs.Bool.{Decides}
use Rattle.std.specs.Cmp.Lexicographic.{pointwise}
use Rattle.std.proofs.lemmas.Slice.Eq.{bytes_eq-Decides}
use Rattle.stamp_values.specs.declared.meta.Meta.{Meta}

both : (a b : Bool) → a && b ≡ true → (a ≡ true) × (b ≡ true)
both true true h = (refl, refl)
both true false h = cc
both false b h = cc

joined : (a b : Bool) → a ≡ true → b ≡ true → a && b ≡ true
joined a b h k = rw (h, k) refl

pub metas_decide : (a b : Meta) → Decides (pointwise nat_eq a.name b.name && pointwise nat_eq a.value b.value) (a ≡ b)
metas_decide a b =
    let names = bytes_eq-Decides a.name b.name in
    let values = bytes_eq-Decides a.value b.value in (
      (λ h.
          let t = both (pointwise nat_eq a.name b.name) (pointwise nat_eq a.value b.value) h in
          λ i. record { name = names.0 t.0 i; value = values.0 t.1 i }),
      (λ e. joined _ _ (names.1 (ap (λ (x : Meta). x.name) e)) (values.1 (ap (λ (x : Meta). x.value) e))),
    )
