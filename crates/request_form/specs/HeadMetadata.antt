-- The metadata that a head sends (Blob service REST reference, 2012-02-12, Setting and Retrieving Properties and Metadata for
-- Blob Resources).
use Rattle.std.specs.Prelude.{ℕ, Bool, not, ◌||◌, if◌then◌else◌, List, [], drop, filter, fold, insert, map}
use Rattle.std.specs.List.{list_all, position_or_len}
use Rattle.std.specs.List.Sorted.{IsPermutation, IsSortedBy, IsStableBy}
use Rattle.std.specs.Ordering.{nat_cmp, is_lt}
use Rattle.std.specs.Cmp.Lexicographic.{slice_cmp}
use Rattle.stamp_values.specs.MetadataLists.{is_metadata}
use Rattle.stamp_values.specs.Operations.{keeps_metadata}
use Rattle.stamp_values.specs.Texts.{is_visible}
use Rattle.stamp_values.specs.declared.meta.Meta.{Meta}
use Rattle.stamp_values.specs.declared.op.Op.{Op}
use Rattle.stamp_values.specs.declared.signing.Field.{Field}
use Rattle.request_form.specs.HeadFields.{is_meta}

-- a header of metadata, under its name without `x-ms-meta-`
abbrev pub unprefixed : Field → Field
unprefixed f = record { name = drop 10 f.name; value = f.value }

-- the headers of metadata, in the order sent
unfoldable pub meta_fields : List Field → List Field
meta_fields fields = map unprefixed (filter (λ f. is_meta f.name) fields)

-- the name comes before the name of the field, by their bytes
abbrev pub is_before : List ℕ → Field → Bool
is_before name f = is_lt (slice_cmp nat_cmp name f.name)

-- the fields with one more, which comes before the first field with a greater name
abbrev pub placed : List Field → Field → List Field
placed fields f = insert fields (position_or_len (is_before f.name) fields) f

-- the fields by the bytes of their names
abbrev pub in_name_order : List Field → List Field
in_name_order fields = fold placed [] fields

-- the name of the first field comes before the name of the second, by their bytes
abbrev pub has_lesser_name : Field → Field → Bool
has_lesser_name f g = is_before f.name g

-- all fields that were sent, each once, in rising order of their names; fields of one name are in the order sent
pub record AreByName (sent fields : List Field) : Type 0 where
  pub all_kept : IsPermutation sent fields
  pub rising : IsSortedBy has_lesser_name fields
  pub as_sent : IsStableBy has_lesser_name sent fields

-- the field as a name of metadata and its value
abbrev pub meta_of : Field → Meta
meta_of f = record { name = f.name; value = f.value }

-- the metadata that were sent, by the bytes of their names in lower case
unfoldable pub metas_of : List Field → List Meta
metas_of fields = map meta_of (in_name_order (meta_fields fields))

-- these are not metadata that are kept: a name is bad or is there twice, names and values are too long together, or a byte of
-- a value is not visible
abbrev pub are_bad_to_keep : List Meta → Bool
are_bad_to_keep ms = not (is_metadata ms) || not (list_all (λ m. is_visible m.value) ms)

-- the metadata that were sent are bad; only an operation that keeps metadata judges the bytes of values
unfoldable pub has_bad_metadata_by : Op → List Field → Bool
has_bad_metadata_by op fields = if keeps_metadata op then are_bad_to_keep (metas_of fields) else not (is_metadata (metas_of fields))

-- the metadata that come with a request, if the operation keeps metadata
unfoldable pub metadata_by : Op → List Field → List Meta
metadata_by op fields = if keeps_metadata op then metas_of fields else []
