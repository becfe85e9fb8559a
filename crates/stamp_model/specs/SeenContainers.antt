-- Which containers a reply depends on (Blob service REST reference, 2012-02-12, "List Containers": the marker at which a page begins).
use Rattle.std.specs.Prelude.{Bool, true, ◌&&◌, if◌then◌else◌, [], Option, Some, None, unwrap_or}
use Rattle.std.specs.Option.{option_and_then}
use Rattle.std.specs.Ordering.{eq_by_cmp}
use Rattle.stamp_values.specs.Operations.{names_container}
use Rattle.stamp_values.specs.Order.{name_cmp}
use Rattle.stamp_values.specs.Trees.{is_below, is_from}
use Rattle.stamp_values.specs.declared.key.Key.{Key}
use Rattle.stamp_types.specs.Requests.{Asked}
use Rattle.stamp_model.specs.AcceptedRequests.{is_on}

-- the first key that a request looks at: the key of the container that it names; or, of List Containers, the key of its marker
abbrev pub routed : Asked → Key
routed q =
    if names_container q.ask.op then q.ask.key
    else record { account = q.ask.key.account; container = unwrap_or (option_and_then (λ page. page.marker) q.ask.args.page) [] }

-- the key comes before the bound, if there is a bound
abbrev pub is_under : Option Key → Key → Bool
is_under None key = true
is_under (Some bound) key = is_below bound key

-- the key is the first key or comes after it, and it comes before the bound
abbrev pub is_between : Key → Option Key → Key → Bool
is_between first bound key = is_from first key && is_under bound key

-- the key is in the account of the request's path
abbrev pub is_in_account : Key → Asked → Bool
is_in_account key q = eq_by_cmp name_cmp key.account q.ask.key.account

-- the reply to the request depends on the container of this key: it is the container that the request names; or the request is a List
-- Containers, and the container is in its account, from its marker on, and under the bound
abbrev pub is_seen : Asked → Option Key → Key → Bool
is_seen q bound key = if names_container q.ask.op then is_on key q else is_in_account key q && is_between (routed q) bound key
