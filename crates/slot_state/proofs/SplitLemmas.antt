-- Part of a slot's histories.
use Rattle.std.proofs.Common.{◌≡◌, Bool, true, false, cond, Option, None, unwrap_or, refl, sym, ap, ◌∙◌}
use Rattle.std.specs.FinMap.{FinMap, get, retain_keys, get-retain_keys}
use Rattle.stamp_values.specs.Order.{key_cmp, keys_exact}
use Rattle.stamp_values.specs.declared.key.Key.{Key}

retained_by : {X : Type 0} (d : X) (o : Option X) (b : Bool) → unwrap_or (cond b o None) d ≡ cond b (unwrap_or o d) d
retained_by d o true = refl
retained_by d o false = refl

-- what is read after keys were dropped
pub read_retained : {X : Type 0} (d : X) (m : FinMap key_cmp X) (p : Key → Bool) (k : Key) → unwrap_or (get (retain_keys m p) k) d ≡ cond (p k) (unwrap_or (get m k) d) d
read_retained {X} d m p k =
    ap (λ (o : Option X). unwrap_or o d) (get-retain_keys m p k (λ x tie. ap p (sym (keys_exact k x tie)))) ∙ retained_by d (get m k) (p k)
