-- The marker at which a List Containers begins (Blob service REST reference, 2012-02-12, "List Containers").
use Rattle.std.specs.Prelude.{ℕ, List, [], unwrap_or}
use Rattle.std.specs.Option.{option_and_then}
use Rattle.stamp_values.specs.declared.key.Key.{Key}
use Rattle.stamp_types.specs.declared.ask.Ask.{Ask}

-- the marker of a list of containers; without a marker it is empty
abbrev pub marker_of : Ask → List ℕ
marker_of a = unwrap_or (option_and_then (λ page. page.marker) a.args.page) []

-- the key of the marker of a list of containers
abbrev pub marker_key : Ask → Key
marker_key a = record { account = a.key.account; container = marker_of a }
