-- What a slot of a stamp without accounts may enter first.
use Rattle.std.proofs.Common.{◌≡◌, ℕ, List, [], ◌∷◌, Option, None, refl, sym, ap, subst}
use Rattle.std.specs.FinMap.{get-empty}
use Rattle.std.specs.Prelude.{unwrap_or}
use Rattle.stamp_values.specs.Order.{name_cmp}
use Rattle.stamp_types.specs.Requests.{Asked}
use Rattle.access_rules.specs.declared.keys.Keys.{Keys}
use Rattle.slot_state.specs.Pairs.{current_at, first_pairs, in_force}
use Rattle.served_history.specs.declared.entry.Entry.{Entry}
use Rattle.served_history.specs.declared.entry.Entry.TheVariants.{Opened, Served}
use Rattle.served_history.specs.Histories.{IsOwn}

-- a request by no key pair, and up to no bound
pub first_serve : (log : List Entry) (q : Asked) (t : ℕ) → log ≡ Opened [] ∷ [] → IsOwn log (Served 0 (record { request = q; moment = t; keys = None; bound = None }))
first_serve log q t is = subst (λ (l : List Entry). IsOwn l (Served 0 (record { request = q; moment = t; keys = None; bound = None }))) (sym is) (refl, λ i. record { request = q; moment = t; keys = sym none i; bound = None })
  where
    none : current_at (first_pairs []) q.ask.key.account ≡ None
    none = ap (λ (o : Option (List Keys)). in_force (unwrap_or o [])) (get-empty name_cmp q.ask.key.account)
