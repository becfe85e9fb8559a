-- What a query says of a page of names (Blob service REST reference, 2012-02-12, List Containers, List Blobs).
use Rattle.std.specs.Prelude.{ℕ, min, Bool, false, if◌then◌else◌, List, Option, Some, None, option_and_then, bytes_eq, codes}
use Rattle.std.specs.Option.{option_map_or}
use Rattle.std.specs.Str.Parse.{digits_value}
use Rattle.stamp_types.specs.declared.args.Page.{Page}
use Rattle.stamp_values.specs.Fields.{first_value}
use Rattle.stamp_values.specs.Limits.{page_limit}
use Rattle.stamp_values.specs.Operations.{is_op, lists_names}
use Rattle.stamp_values.specs.declared.op.Op.{Op}
use Rattle.stamp_values.specs.declared.op.Op.TheVariants.{ListBlobs}
use Rattle.stamp_values.specs.declared.signing.Field.{Field}
use Rattle.request_form.specs.Targets.{is_nothing}

-- the text, unless it is empty
abbrev pub unless_empty : List ℕ → Option (List ℕ)
unless_empty v = if is_nothing v then None else Some v

-- the text that a query gives under a name, unless it is empty
unfoldable pub text_given : List Field → List ℕ → Option (List ℕ)
text_given query name = option_and_then unless_empty (first_value query name)

-- how many names a value asks for: its number, but not more than a page may have
abbrev pub max_named : List ℕ → ℕ
max_named v = min (digits_value 10 v) page_limit

-- how many names a query asks for; as many as a page may have if no number is given
unfoldable pub max_given : List Field → ℕ
max_given query = option_map_or max_named (first_value query (codes "maxresults")) page_limit

-- the query asks for metadata too
unfoldable pub asks_for_metadata : List Field → Bool
asks_for_metadata query = option_map_or (λ v. bytes_eq v (codes "metadata")) (first_value query (codes "include")) false

-- the delimiter that a query gives, if the operation is List Blobs
abbrev pub delimiter_by : Op → List Field → Option (List ℕ)
delimiter_by op query = if is_op ListBlobs op then text_given query (codes "delimiter") else None

-- which names a query asks for
unfoldable pub page_of : Op → List Field → Page
page_of op query = record {
  prefix = text_given query (codes "prefix");
  delimiter = delimiter_by op query;
  marker = text_given query (codes "marker");
  max = max_given query;
  metadata = asks_for_metadata query;
}

-- the page of a query without parameters of a page: its first names, as many as a page may have, without metadata
abbrev pub first_page : Page
first_page = record { prefix = None; delimiter = None; marker = None; max = page_limit; metadata = false }

-- which names a request asks for, if the operation lists names
abbrev pub page_by : Op → List Field → Option Page
page_by op query = if lists_names op then Some (page_of op query) else None
