-- What a head asks for fits its operation.
use Rattle.std.proofs.Common.{◌≡◌, ℕ, ◌≤◌, Bool, true, false, not, ◌==◌, cond, List, [], length, Option, Some, None, option_and_then, option_map, codes, refl, sym, ap, ◌∙◌, arith, subst}
use Rattle.std.proofs.lemmas.Bool.Decides.{nat_tests}
use Rattle.std.specs.Prelude.{IfSome, IsSome, IsTrue, is_some}
use Rattle.std.specs.Option.{option_map_or, option_or}
use Rattle.stamp_types.specs.Requests.{HasItsOwn, HasItsPage, HasNoMore, IsAsk, IsNamed, IsPage}
use Rattle.stamp_types.specs.declared.ask.Ask.{Ask}
use Rattle.stamp_values.specs.Fields.{fields_len, first_value}
use Rattle.stamp_values.specs.declared.block.BlockKinds.TheVariants.{Committed}
use Rattle.stamp_values.specs.declared.signing.Field.{Field}
use Rattle.stamp_values.specs.Operations.{body_limit, checks_md5, has_conditions, is_op, keeps_headers, lists_names, names_blob, names_container, sets_level}
use Rattle.stamp_values.specs.declared.level.Level.TheVariants.{Closed}
use Rattle.stamp_values.specs.declared.op.Op.{Op}
use Rattle.stamp_values.specs.declared.op.Op.TheVariants.{GetBlob, ListContainers, PutBlob, PutBlock, GetBlockList}
use Rattle.stamp_values.specs.declared.verb.Verb.{Verb}
use Rattle.request_form.specs.HeadBlocks.{id_given, kinds_given, kinds_named}
use Rattle.request_form.specs.HeadConditions.{condition_named}
use Rattle.stamp_values.specs.Names.{is_container}
use Rattle.request_form.specs.HeadForms.{args_of, ask_of, blob_name_of, closes_of, expects_of, form_of, header_args_of, kept_of, level_named, line_args_of, md5_under}
use Rattle.request_form.specs.HeadMetadata.{metadata_by}
use Rattle.request_form.specs.HeadPages.{page_by, page_of}
use Rattle.request_form.specs.HeadRanges.{range_of, range_sent}
use Rattle.request_form.specs.HeadReads.{AreFields, IsLine}
use Rattle.request_form.specs.HeadRules.{body_len_of, has_bad_parameter}
use Rattle.request_form.specs.Targets.{container_of, target_of}
use Rattle.request_form.specs.declared.rules.header_lines.Fields.{Fields}
use Rattle.request_form.specs.HeadParts.{HeadParts}
use Rattle.request_form.specs.declared.rules.request_line.Line.{Line}
use Rattle.request_form.proofs.BlockLemmas.{IsShortId, id_there}
use Rattle.request_form.proofs.PageLemmas.{all_short, good_page, query_short}
use Rattle.request_form.proofs.RangeLemmas.{range_rising}
use Rattle.request_form.proofs.TextLemmas.{HasGoodNames, good_names, container_some}

-- a text of three bytes or more is not empty
not_nothing : (t : List ℕ) → 3 ≤ length t → not (length t == 0) ≡ true
not_nothing t some = grind (arith, nat_tests)

-- what is there only under a condition is there if and only if the condition holds
there : {X : Type 0} (b : Bool) (x : X) → is_some (cond b (Some x) None) ≡ b
there true x = refl
there false x = refl

-- what is not there without a condition is not there unless the condition holds
there_only : {X : Type 0} (b : Bool) (o : Option X) → IsSome (cond b o None) → IsTrue b
there_only true o some = refl
there_only false o some = absurd (cc)

-- only one operation takes a range
get_blob_is : (op : Op) → is_op GetBlob op ≡ true → op ≡ GetBlob
get_blob_is GetBlob is = refl
get_blob_is other is = absurd (cc)

-- only one operation puts a block
put_block_is : (op : Op) → is_op PutBlock op ≡ true → op ≡ PutBlock
put_block_is PutBlock is = refl
put_block_is other is = absurd (cc)

-- only one operation shows a block list
get_block_list_is : (op : Op) → is_op GetBlockList op ≡ true → op ≡ GetBlockList
get_block_list_is GetBlockList is = refl
get_block_list_is other is = absurd (cc)

named : (op : Op) (verb : Verb) (p : HeadParts) → HasGoodNames op (target_of p.target).path → IsNamed (ask_of op verb p)
unfolding ask_of
named op verb p good = record {
  account = good.account;
  container = by_container (names_container op) good.container;
  container_name = λ t. ap (λ (b : Bool). is_container (cond b (container_of (target_of p.target).path) [])) t ∙ good.container t;
  blob = there (names_blob op) (blob_name_of (target_of p.target).path);
  blob_name = good.blob;
}
  where
    by_container : (b : Bool) → (b ≡ true → is_container (container_of (target_of p.target).path) ≡ true) → not (length (cond b (container_of (target_of p.target).path) []) == 0) ≡ b
    by_container true good = not_nothing (container_of (target_of p.target).path) (container_some (container_of (target_of p.target).path) (good refl))
    by_container false good = refl

no_more : (op : Op) (verb : Verb) (p : HeadParts) → HasNoMore (ask_of op verb p)
unfolding ask_of args_of header_args_of line_args_of metadata_by
no_more op verb p = record {
  if_match = there_only (has_conditions op) (option_map condition_named (first_value p.fields (codes "if-match")));
  if_none_match = there_only (has_conditions op) (option_map condition_named (first_value p.fields (codes "if-none-match")));
  content_md5 = there_only (checks_md5 op) (md5_under p.fields (codes "content-md5"));
  range = λ s. get_blob_is op (there_only (is_op GetBlob op) (option_and_then range_of (range_sent p.fields)) s);
  range_order = range_rising op p.fields;
  metadata = λ none. rw none refl;
}

-- there are kinds of blocks, whether the query gives them or not
some_kinds : (query : List Field) → IsSome (option_or (kinds_given query) (Some Committed))
some_kinds query = by_value (first_value query (codes "blocklisttype"))
  where
    by_value : (o : Option (List ℕ)) → IsSome (option_or (option_map kinds_named o) (Some Committed))
    by_value None = refl
    by_value (Some v) = refl

own : (op : Op) (verb : Verb) (p : HeadParts) → (op ≡ PutBlock → IsShortId (id_given (target_of p.target).query)) → HasItsOwn (ask_of op verb p)
unfolding ask_of args_of header_args_of line_args_of
own op verb p id = record {
  kept = there (keeps_headers op) (kept_of (is_op PutBlob op) p.fields);
  level = there (sets_level op) (option_map_or level_named (first_value p.fields (codes "x-ms-blob-public-access")) Closed);
  block = (λ s. put_block_is op (there_only (is_op PutBlock op) (id_given (target_of p.target).query) s), λ e. rw e (id e).given);
  kinds = (
    λ s. get_block_list_is op (there_only (is_op GetBlockList op) (option_or (kinds_given (target_of p.target).query) (Some Committed)) s),
    λ e. rw e (some_kinds (target_of p.target).query),
  );
}

-- containers are listed with no delimiter
no_delimiter : (op : Op) (query : List Field) → op ≡ ListContainers → IfSome (page_by op query) (λ page. page.delimiter ≡ None)
unfolding page_of
no_delimiter op query e = rw e refl

page : (op : Op) (verb : Verb) (p : HeadParts) → has_bad_parameter (target_of p.target).query ≡ false → HasItsPage (ask_of op verb p)
unfolding ask_of args_of header_args_of line_args_of
page op verb p good = record {
  page = there (lists_names op) (page_of op (target_of p.target).query);
  parts = by_op (lists_names op);
  delimiter = no_delimiter op (target_of p.target).query;
}
  where
    by_op : (b : Bool) → IfSome (cond b (Some (page_of op (target_of p.target).query)) None) IsPage
    by_op true = good_page op (target_of p.target).query good
    by_op false = tt

fits_op : (op : Op) (verb : Verb) (p : HeadParts) → HasGoodNames op (target_of p.target).path → has_bad_parameter (target_of p.target).query ≡ false
    → fields_len p.fields ≤ 16384 → length p.target ≤ 16384 → (op ≡ PutBlock → IsShortId (id_given (target_of p.target).query)) → IsAsk (ask_of op verb p)
unfolding ask_of args_of header_args_of line_args_of
fits_op op verb p good parameters short short_target id =
    let query : fields_len (target_of p.target).query ≤ 16384 = omega (arith, query_short p.target) in record {
      names = named op verb p good;
      no_more = no_more op verb p;
      own = own op verb p id;
      page = page op verb p parameters;
      short = omega (arith, all_short op p.fields (target_of p.target).query short query id);
    }

asked_op : (op : Op) (verb : Verb) (p : HeadParts) → (ask_of op verb p).op ≡ op
unfolding ask_of
asked_op op verb p = refl

-- what a head asks for fits its operation if no rule refuses the head, and so does the length of the body
pub fits : (p : HeadParts) (l : Line) (f : Fields) (a : Ask) → IsLine p l → AreFields p l.op f → fields_len p.fields ≤ 16384 → length p.target ≤ 16384 → a ≡ ask_of l.op l.verb p
    → IsAsk a × (f.body_len ≤ body_limit a.op)
fits p l f a line fields short short_target asked =
    let good = good_names l.op (target_of p.target).path fields.names.good in
    let same : a.op ≡ l.op = ap (λ (x : Ask). x.op) asked ∙ asked_op l.op l.verb p in
    let id : (l.op ≡ PutBlock → IsShortId (id_given (target_of p.target).query)) = λ e. id_there p (line.op ∙ ap (λ (o : Op). Some o) e) line.parameters in
    let whole : IsAsk (ask_of l.op l.verb p) = fits_op l.op l.verb p good line.parameters short short_target id in
    (subst (λ (x : Ask). IsAsk x) (sym asked) whole, rw same fields.limit)

-- the form of these parts
pub form_is : (p : HeadParts) (l : Line) (a : Ask) (n : ℕ) (expects closes : Bool) → IsLine p l → a ≡ ask_of l.op l.verb p → n ≡ body_len_of p.fields → expects ≡ expects_of p → closes ≡ closes_of p
    → form_of p ≡ Some (record { ask = a; body_len = n; expects = expects; closes = closes })
form_is p l a n expects closes line asked len e c =
    rw (line.op, line.verb) (λ i. Some (record { ask = sym asked i; body_len = sym len i; expects = sym e i; closes = sym c i }))
