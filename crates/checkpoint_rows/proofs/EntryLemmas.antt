-- What a look-up of each key says holds of each entry of a map.
use Rattle.std.proofs.Common.{◌≡◌, ◌&&◌, Bool, true, false, cond, T, List, [], ◌∷◌, All, Option, Some, None, IfSome, refl, sym, ap, subst, ◌∙◌, unwrap_or}
use Rattle.std.specs.Cmp.{IsTotalOrder, eq_by_cmp_equiv}
use Rattle.std.specs.Ordering.{is_eq, is_lt}
use Rattle.std.specs.declared.cmp.Ordering.{Ordering}
use Rattle.std.specs.declared.cmp.Ordering.TheVariants.{Less, Equal, Greater}
use Rattle.std.specs.FinMap.{FinMap, entries, entries_sorted, find, get, get-entries, is_sorted}
use Rattle.std.specs.FinMap.Entries.{below_all}
use Rattle.std.proofs.lemmas.List.Elements.{All-nil, All-cons}
use Rattle.stamp_types.proofs.WorldLemmas.{equal_if_is_eq}

parts : (a b : Bool) → T (a && b) → T a × T b
parts true b h = (tt, h)
parts false b h = absurd h

module _ {K X : Type 0} {R : K → K → Ordering} (o : IsTotalOrder R) where
  -- a key that comes before all keys of a list is not in the list
  apart : (q k : K) (es : List (K × X)) → R q k ≡ Equal → T (below_all R k es) → find R q es ≡ None
  apart q k [] tied up = refl
  apart q k (e ∷ es) tied up =
      let rise = parts (is_lt (R k e.0)) (below_all R k es) up in
      let other : is_eq (R q e.0) ≡ false = not_both (R q e.0) (subst (λ r. T (is_lt r)) (sym (o.congr q k e.0 tied)) rise.0) in
      ap (λ b. cond b (Some e.1) (find R q es)) other ∙ apart q k es tied rise.1
    where
      not_both : (r : Ordering) → T (is_lt r) → is_eq r ≡ false
      not_both Less h = refl
      not_both Equal h = absurd h
      not_both Greater h = absurd h

  each_found : (P : K → X → Type 0) (es : List (K × X)) → T (is_sorted R es) → ((q : K) → IfSome (find R q es) (P q)) → All (λ e. P e.0 e.1) es
  each_found P [] up found = All-nil (λ (e : K × X). P e.0 e.1)
  each_found P (e ∷ es) up found =
      let rise = parts (below_all R e.0 es) (is_sorted R es) up in
      let here : find R e.0 (e ∷ es) ≡ Some e.1 = ap (λ b. cond b (Some e.1) (find R e.0 es)) ((eq_by_cmp_equiv o).refl e.0) in
      All-cons (λ (d : K × X). P d.0 d.1) e es (subst (λ v. IfSome v (P e.0)) here (found e.0))
      (each_found P es rise.1 (λ q. later q (is_eq (R q e.0)) refl rise.0))
    where
      later : (q : K) (b : Bool) → is_eq (R q e.0) ≡ b → T (below_all R e.0 es) → IfSome (find R q es) (P q)
      later q true same up = subst (λ v. IfSome v (P q)) (sym (apart q e.0 es (equal_if_is_eq (R q e.0) same) up)) tt
      later q false other up = subst (λ v. IfSome v (P q)) (ap (λ b. cond b (Some e.1) (find R q es)) other) (found q)

  -- what a look-up of each key says holds of each entry
  pub each_entry : (P : K → X → Type 0) (m : FinMap R X) → ((q : K) → IfSome (get m q) (P q)) → All (λ e. P e.0 e.1) (entries m)
  each_entry P m found = each_found P (entries m) (entries_sorted m) (λ q. subst (λ v. IfSome v (P q)) (get-entries m q) (found q))

-- what holds of what a look-up gives, or else of a value, holds of what it gives
pub of_found : {X : Type 0} (P : X → Type 0) (o : Option X) (d : X) → P (unwrap_or o d) → IfSome o P
of_found P None d is = tt
of_found P (Some x) d is = is
