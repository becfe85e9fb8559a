-- The conditions of a head (Blob service REST reference, 2012-02-12, Specifying Conditional Headers for Blob Service Operations;
-- RFC 9110, sections 8.8.3, 13.1.1 and 13.1.2).
use Rattle.std.specs.Prelude.{ℕ, if◌then◌else◌, List, Option, None, option_map, bytes_eq, codes, drop, take}
use Rattle.std.specs.Str.Parse.{digits_value}
use Rattle.stamp_values.specs.Etags.{etag_text}
use Rattle.stamp_values.specs.Fields.{first_value}
use Rattle.stamp_values.specs.Operations.{has_conditions}
use Rattle.stamp_values.specs.declared.condition.Condition.{Condition}
use Rattle.stamp_values.specs.declared.condition.Condition.TheVariants.{Any, Count, Never}
use Rattle.stamp_values.specs.declared.op.Op.{Op}
use Rattle.stamp_values.specs.declared.signing.Field.{Field}

-- the number that the 16 bytes after `"0x` write in base 16
abbrev pub etag_number : List ℕ → ℕ
etag_number v = digits_value 16 (take 16 (drop 3 v))

-- what a value asks for: any blob; else the count whose ETag the value is; else no blob
unfoldable pub condition_named : List ℕ → Condition
condition_named v =
    if bytes_eq v (codes "*") then Any else (if bytes_eq v (etag_text (etag_number v)) then Count (etag_number v) else Never)

-- the condition that comes with a request under a name, if the operation has conditions
abbrev pub condition_by : Op → List Field → List ℕ → Option Condition
condition_by op fields name = if has_conditions op then option_map condition_named (first_value fields name) else None
