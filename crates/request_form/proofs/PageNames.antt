-- Queries without a parameter of a page.
use Rattle.std.proofs.Common.{◌≡◌, Bool, true, false, ◌||◌, List, [], ◌∷◌, Option, Some, None, option_and_then, bytes_eq, codes, cond, refl, sym, ap, ◌∙◌, ℕ}
use Rattle.std.proofs.lemmas.Bool.{or_parts}
use Rattle.std.specs.Prelude.{find}
use Rattle.std.specs.List.{list_any}
use Rattle.std.specs.Option.{option_map, option_map_or}
use Rattle.stamp_types.specs.declared.args.Page.{Page}
use Rattle.stamp_values.specs.Fields.{first_value, has_name, is_sent, is_sent_twice}
use Rattle.stamp_values.specs.Limits.{page_limit}
use Rattle.stamp_values.specs.Operations.{is_op, lists_names}
use Rattle.stamp_values.specs.declared.op.Op.{Op}
use Rattle.stamp_values.specs.declared.op.Op.TheVariants.{ListBlobs}
use Rattle.stamp_values.specs.declared.signing.Field.{Field}
use Rattle.stamp_values.proofs.FieldLemmas.{is_sent_twice_none, is_sent_twice_cons}
use Rattle.request_form.specs.HeadFields.{is_bad}
use Rattle.request_form.specs.HeadPages.{asks_for_metadata, first_page, max_given, max_named, page_by, page_of, text_given, unless_empty}
use Rattle.request_form.specs.HeadRules.{has_bad_page, is_bad_parameter, is_value_of, page_names}

-- the test fails at each name
abbrev pub EachFails : (List ℕ → Bool) → List (List ℕ) → Type 0
EachFails test [] = Unit {0}
EachFails test (name ∷ names) = (test name ≡ false) × EachFails test names

-- a test that passes at no name fails at each
pub each_fails : (test : List ℕ → Bool) (names : List (List ℕ)) → list_any test names ≡ false → EachFails test names
each_fails test [] e = tt
each_fails test (name ∷ names) e =
    let both = or_parts (test name) (list_any test names) e in
    (both.0, each_fails test names both.1)

-- a query in which no name is one of these has none of these names
none_sent : (names : List (List ℕ)) (query : List Field) → list_any (λ f. list_any (bytes_eq f.name) names) query ≡ false → EachFails (is_sent query) names
none_sent names [] e = nothing names
  where
    nothing : (names : List (List ℕ)) → EachFails (is_sent []) names
    nothing [] = tt
    nothing (name ∷ names) = (refl, nothing names)
none_sent names (f ∷ fs) e =
    let both = or_parts (list_any (bytes_eq f.name) names) (list_any (λ f. list_any (bytes_eq f.name) names) fs) e in
    joined names (each_fails (bytes_eq f.name) names both.0) (none_sent names fs both.1)
  where
    joined : (names : List (List ℕ)) → EachFails (bytes_eq f.name) names → EachFails (is_sent fs) names → EachFails (is_sent (f ∷ fs)) names
    joined [] first rest = tt
    joined (name ∷ names) first rest = (ap (λ b. b || is_sent fs name) first.0 ∙ rest.0, joined names first.1 rest.1)

-- a name that was not sent was not sent twice
not_twice : (query : List Field) (name : List ℕ) → is_sent query name ≡ false → is_sent_twice query name ≡ false
not_twice [] name e = is_sent_twice_none name
not_twice (f ∷ fs) name e =
    let both = or_parts (bytes_eq f.name name) (is_sent fs name) e in
    is_sent_twice_cons f fs name ∙ ap (λ b. cond b (is_sent fs name) (is_sent_twice fs name)) both.0 ∙ not_twice fs name both.1

-- a name that was not sent has no value
no_value : (query : List Field) (name : List ℕ) → is_sent query name ≡ false → first_value query name ≡ None
no_value [] name e = refl
no_value (f ∷ fs) name e =
    let both = or_parts (bytes_eq f.name name) (is_sent fs name) e in
    ap (λ b. option_map (λ (f : Field). f.value) (cond b (Some f) (find (has_name name) fs))) both.0 ∙ no_value fs name both.1

-- a name that was not sent is not bad
not_bad : (query : List Field) (name : List ℕ) (test : List ℕ → Bool) → is_sent query name ≡ false → is_bad_parameter query name test ≡ false
unfolding is_bad_parameter is_bad
not_bad query name test e = rw (not_twice query name e, no_value query name e) refl

none_bad : (query : List Field) (names : List (List ℕ)) → EachFails (is_sent query) names → list_any (λ name. is_bad_parameter query name (is_value_of name)) names ≡ false
none_bad query [] none = refl
none_bad query (name ∷ names) none = ap (λ b. b || list_any (λ name. is_bad_parameter query name (is_value_of name)) names) (not_bad query name (is_value_of name) none.0) ∙ none_bad query names none.1

either_way : (b : Bool) (o : Option (List ℕ)) → cond b o o ≡ o
either_way true o = refl
either_way false o = refl

module _ (op : Op) (query : List Field) (none : list_any (λ f. list_any (bytes_eq f.name) page_names) query ≡ false) where
  unsent : EachFails (is_sent query) page_names
  unsent = none_sent page_names query none

  good : has_bad_page query ≡ false
  unfolding has_bad_page
  good = none_bad query page_names unsent

  whole : page_of op query ≡ first_page
  unfolding page_of text_given max_given asks_for_metadata
  whole =
      let prefix = no_value query (codes "prefix") unsent.0 in
      let delimiter = no_value query (codes "delimiter") unsent.1.0 in
      let marker = no_value query (codes "marker") unsent.1.1.0 in
      let most = no_value query (codes "maxresults") unsent.1.1.1.0 in
      let include = no_value query (codes "include") unsent.1.1.1.1.0 in
      λ i. record {
        prefix = option_and_then unless_empty (prefix i);
        delimiter = (ap (λ (o : Option (List ℕ)). cond (is_op ListBlobs op) (option_and_then unless_empty o) None) delimiter ∙ either_way (is_op ListBlobs op) None) i;
        marker = option_and_then unless_empty (marker i);
        max = option_map_or max_named (most i) page_limit;
        metadata = option_map_or (λ v. bytes_eq v (codes "metadata")) (include i) false;
      }

  -- a query without a parameter of a page has no bad one, and asks for the first page
  pub no_page : (has_bad_page query ≡ false) × (cond (lists_names op) (Some first_page) None ≡ page_by op query)
  no_page = (good, ap (λ (page : Page). cond (lists_names op) (Some page) None) (sym whole))
