-- Lists of blobs and of containers that are written are read as their tokens.
use Rattle.std.proofs.Common.{◌≡◌, ℕ, Bool, true, false, ◌&&◌, List, [], ◌∷◌, ◌++◌, codes, Option, Some, None, IfSome, All, refl, sym, ap, ◌∙◌, subst, arith, append_assoc}
use Rattle.std.specs.Prelude.{decimal}
use Rattle.std.specs.List.{list_all, flat_map}
use Rattle.std.proofs.lemmas.Bool.{and_parts}
use Rattle.std.proofs.lemmas.Bool.Decides.{nat_tests}
use Rattle.std.proofs.lemmas.Str.{IsUtf8-nil}
use Rattle.stamp_values.specs.Etags.{etag_text}
use Rattle.stamp_values.specs.Names.{begins_metadata_name, goes_on_metadata_name, is_metadata_name}
use Rattle.stamp_values.specs.declared.meta.Meta.{Meta}
use Rattle.stamp_values.proofs.Utf8Lemmas.{utf8_passes}
use Rattle.stamp_types.specs.declared.args.Page.{Page}
use Rattle.moment_text.specs.Http.{http_text}
use Rattle.body_forms.specs.KeptPolicies.{IsMoment}
use Rattle.body_forms.specs.ListEntries.{Entry, ShownBlob, ShownContainer}
use Rattle.xml_text.specs.Markup.{is_name_start, is_name_byte}
use Rattle.xml_text.specs.Texts.{Token}
use Rattle.xml_text.specs.Tokens.{is_name}
use Rattle.xml_text.specs.TokenReading.{body_tokens}
use Rattle.xml_text.specs.WrittenTokens.{element_tokens, field_tokens, given_tokens, IsCleanText}
use Rattle.body_forms.specs.PageTokens.{meta_tokens, metadata_tokens, dates_tokens, blob_properties_tokens, blob_tokens, group_tokens, container_tokens, entry_tokens, asked_tokens, next_tokens, blob_list_tokens, container_list_tokens, IsCleanMeta, IsCleanBlob, IsCleanContainer, IsCleanEntry, IsCleanPage}
use Rattle.xml_text.specs.WrittenElements.{opening_text, closing_text, prolog_text, filled_text, element_text, given_text}
use Rattle.body_forms.specs.WrittenPages.{meta_text, metadata_text, dates_text, content_text, blob_properties_text, blob_text, group_text, container_properties_text, container_text, entry_text, page_asked_text, next_text, blobs_text, containers_text, blob_list_text, container_list_text}
use Rattle.body_forms.proofs.PlainValues.{plain_decimal, plain_etag, plain_date}
use Rattle.xml_text.proofs.TokensRead.{IsWrittenAs, written-nil, written-append, element_as, field_as, filled_as, all_as, body_as}

-- ---- names of metadata

begins_name : (c : ℕ) → begins_metadata_name c ≡ true → is_name_start c ≡ true
begins_name c h = grind (arith, nat_tests)

goes_on_name : (c : ℕ) → goes_on_metadata_name c ≡ true → is_name_byte c ≡ true
goes_on_name c h = grind (arith, nat_tests)

both : (a b : Bool) → a ≡ true → b ≡ true → (a && b) ≡ true
both a b h k = rw (h, k) refl

names_go_on : (s : List ℕ) → list_all goes_on_metadata_name s ≡ true → list_all is_name_byte s ≡ true
names_go_on [] h = refl
names_go_on (c ∷ cs) h =
    let (one, more) = and_parts (goes_on_metadata_name c) (list_all goes_on_metadata_name cs) h in
    both (is_name_byte c) (list_all is_name_byte cs) (goes_on_name c one) (names_go_on cs more)

-- a name of metadata is a name of an element
named_meta : (name : List ℕ) → is_metadata_name name ≡ true → is_name name ≡ true
named_meta [] h = cc
named_meta (c ∷ cs) h =
    let (one, more) = and_parts (begins_metadata_name c) (list_all goes_on_metadata_name cs) h in
    both (is_name_start c) (list_all is_name_byte cs) (begins_name c one) (names_go_on cs more)

-- ---- parts

given_as : (name : List ℕ) (o : Option (List ℕ)) → is_name name ≡ true → IfSome o IsCleanText → IsWrittenAs (given_tokens name o) (given_text name o)
given_as name None named clean = written-nil
given_as name (Some t) named clean = field_as name t named clean

meta_as : (m : Meta) → IsCleanMeta m → IsWrittenAs (meta_tokens m) (meta_text m)
meta_as m clean = field_as m.name m.value (named_meta m.name clean.name) clean.value

metadata_as : (asked : Bool) (ms : List Meta) → All IsCleanMeta ms → IsWrittenAs (metadata_tokens asked ms) (metadata_text asked ms)
unfolding filled_text
metadata_as true ms clean = element_as (codes "Metadata") (flat_map meta_tokens ms) (flat_map meta_text ms) refl (all_as meta_tokens meta_text IsCleanMeta meta_as ms clean)
metadata_as false ms clean = written-nil

dates_as : (made etag : ℕ) → IsMoment made → IsWrittenAs (dates_tokens made etag) (dates_text made etag)
unfolding dates_text
dates_as made etag moment =
    written-append (field_tokens (codes "Last-Modified") (http_text made)) (field_tokens (codes "Etag") (etag_text etag)) (filled_text (codes "Last-Modified") (http_text made)) (filled_text (codes "Etag") (etag_text etag))
    (filled_as (codes "Last-Modified") (http_text made) refl (plain_date made moment)) (filled_as (codes "Etag") (etag_text etag) refl (plain_etag etag))

-- ---- blobs

two_inside : (o a b k : List ℕ) → o ++ a ++ b ++ k ≡ o ++ (a ++ b) ++ k
two_inside o a b k = simp append_assoc refl

three_inside : (o a b c k : List ℕ) → o ++ a ++ b ++ c ++ k ≡ o ++ (a ++ b ++ c) ++ k
three_inside o a b c k = simp append_assoc refl

four_inside : (a b c d : List ℕ) → a ++ (b ++ c ++ d) ≡ a ++ b ++ c ++ d
four_inside a b c d = simp append_assoc refl

four_tokens : (a b c d : List Token) → a ++ (b ++ c ++ d) ≡ a ++ b ++ c ++ d
four_tokens a b c d = simp append_assoc refl

abbrev content_tokens : ShownBlob → List Token
content_tokens b = field_tokens (codes "Content-Length") (decimal b.len) ++ field_tokens (codes "Content-Type") b.content_type ++ field_tokens (codes "BlobType") (codes "BlockBlob")

content_as : (b : ShownBlob) → IsCleanText b.content_type → IsWrittenAs (content_tokens b) (content_text b)
unfolding content_text
content_as b clean =
    written-append (field_tokens (codes "Content-Length") (decimal b.len) ++ field_tokens (codes "Content-Type") b.content_type) (field_tokens (codes "BlobType") (codes "BlockBlob"))
    (filled_text (codes "Content-Length") (decimal b.len) ++ element_text (codes "Content-Type") b.content_type) (filled_text (codes "BlobType") (codes "BlockBlob"))
    (written-append (field_tokens (codes "Content-Length") (decimal b.len)) (field_tokens (codes "Content-Type") b.content_type) (filled_text (codes "Content-Length") (decimal b.len)) (element_text (codes "Content-Type") b.content_type)
    (filled_as (codes "Content-Length") (decimal b.len) refl (plain_decimal b.len)) (field_as (codes "Content-Type") b.content_type refl clean))
    (filled_as (codes "BlobType") (codes "BlockBlob") refl refl)

properties_as : (b : ShownBlob) → IsCleanBlob b → IsWrittenAs (blob_properties_tokens b) (blob_properties_text b)
unfolding blob_properties_text
properties_as b clean =
    let inside = written-append (dates_tokens b.made b.etag) (content_tokens b) (dates_text b.made b.etag) (content_text b) (dates_as b.made b.etag clean.made) (content_as b clean.content_type) in
    let shape = four_tokens (dates_tokens b.made b.etag) (field_tokens (codes "Content-Length") (decimal b.len)) (field_tokens (codes "Content-Type") b.content_type) (field_tokens (codes "BlobType") (codes "BlockBlob")) in
    let is = element_as (codes "Properties") _ (dates_text b.made b.etag ++ content_text b) refl (subst (λ ts. IsWrittenAs ts (dates_text b.made b.etag ++ content_text b)) shape inside) in
    subst (IsWrittenAs (blob_properties_tokens b)) (sym (two_inside (opening_text (codes "Properties")) (dates_text b.made b.etag) (content_text b) (closing_text (codes "Properties")))) is

blob_as : (asked : Bool) (name : List ℕ) (b : ShownBlob) → IsCleanText name → IsCleanBlob b → IsWrittenAs (blob_tokens asked name b) (blob_text asked name b)
unfolding blob_text
blob_as asked name b named clean =
    let a = element_text (codes "Name") name in
    let p = blob_properties_text b in
    let m = metadata_text asked b.metadata in
    let one = written-append (field_tokens (codes "Name") name) (blob_properties_tokens b) a p (field_as (codes "Name") name refl named) (properties_as b clean) in
    let inside = written-append (field_tokens (codes "Name") name ++ blob_properties_tokens b) (metadata_tokens asked b.metadata) (a ++ p) m one (metadata_as asked b.metadata clean.metadata) in
    subst (IsWrittenAs (blob_tokens asked name b)) (sym (three_inside (opening_text (codes "Blob")) a p m (closing_text (codes "Blob")))) (element_as (codes "Blob") _ (a ++ p ++ m) refl inside)

group_as : (t : List ℕ) → IsCleanText t → IsWrittenAs (group_tokens t) (group_text t)
unfolding group_text filled_text
group_as t clean = element_as (codes "BlobPrefix") (field_tokens (codes "Name") t) (element_text (codes "Name") t) refl (field_as (codes "Name") t refl clean)

-- ---- containers

container_properties_as : (c : ShownContainer) → IsCleanContainer c → IsWrittenAs (element_tokens (codes "Properties") (dates_tokens c.made c.etag)) (container_properties_text c)
unfolding container_properties_text filled_text
container_properties_as c clean = element_as (codes "Properties") (dates_tokens c.made c.etag) (dates_text c.made c.etag) refl (dates_as c.made c.etag clean.made)

container_as : (asked : Bool) (name : List ℕ) (c : ShownContainer) → IsCleanText name → IsCleanContainer c → IsWrittenAs (container_tokens asked name c) (container_text asked name c)
unfolding container_text
container_as asked name c named clean =
    let a = element_text (codes "Name") name in
    let p = container_properties_text c in
    let m = metadata_text asked c.metadata in
    let one = written-append (field_tokens (codes "Name") name) (element_tokens (codes "Properties") (dates_tokens c.made c.etag)) a p (field_as (codes "Name") name refl named) (container_properties_as c clean) in
    let inside = written-append (field_tokens (codes "Name") name ++ element_tokens (codes "Properties") (dates_tokens c.made c.etag)) (metadata_tokens asked c.metadata) (a ++ p) m one (metadata_as asked c.metadata clean.metadata) in
    subst (IsWrittenAs (container_tokens asked name c)) (sym (three_inside (opening_text (codes "Container")) a p m (closing_text (codes "Container")))) (element_as (codes "Container") _ (a ++ p ++ m) refl inside)

-- ---- entries

entry_as : {X : Type 0} (IsCleanShown : X → Type 0) (tokens : List ℕ → X → List Token) (bytes : List ℕ → X → List ℕ) → ((name : List ℕ) (x : X) → IsCleanText name → IsCleanShown x → IsWrittenAs (tokens name x) (bytes name x))
    → (e : Entry X) → IsCleanEntry IsCleanShown e → IsWrittenAs (entry_tokens tokens e) (entry_text bytes e)
entry_as IsCleanShown tokens bytes each (name, Some x) (named, clean) = each name x named clean
entry_as IsCleanShown tokens bytes each (name, None) (named, clean) = group_as name named

-- ---- pages

asked_as : (q : Page) → IsCleanPage q → IsWrittenAs (asked_tokens q) (page_asked_text q)
unfolding page_asked_text
asked_as q clean =
    written-append (given_tokens (codes "Prefix") q.prefix ++ given_tokens (codes "Marker") q.marker) (field_tokens (codes "MaxResults") (decimal q.max))
    (given_text (codes "Prefix") q.prefix ++ given_text (codes "Marker") q.marker) (filled_text (codes "MaxResults") (decimal q.max))
    (written-append (given_tokens (codes "Prefix") q.prefix) (given_tokens (codes "Marker") q.marker) (given_text (codes "Prefix") q.prefix) (given_text (codes "Marker") q.marker)
    (given_as (codes "Prefix") q.prefix refl clean.prefix) (given_as (codes "Marker") q.marker refl clean.marker))
    (filled_as (codes "MaxResults") (decimal q.max) refl (plain_decimal q.max))

next_as : (next : Option (List ℕ)) → IfSome next IsCleanText → IsWrittenAs (next_tokens next) (next_text next)
unfolding next_text
next_as None clean = field_as (codes "NextMarker") [] refl (utf8_passes [] IsUtf8-nil, refl)
next_as (Some t) clean = field_as (codes "NextMarker") t refl clean

blobs_as : (asked : Bool) (entries : List (Entry ShownBlob)) → All (IsCleanEntry IsCleanBlob) entries
    → IsWrittenAs (element_tokens (codes "Blobs") (flat_map (entry_tokens (blob_tokens asked)) entries)) (blobs_text asked entries)
unfolding blobs_text
blobs_as asked entries clean =
    element_as (codes "Blobs") (flat_map (entry_tokens (blob_tokens asked)) entries) (flat_map (entry_text (blob_text asked)) entries) refl
    (all_as (entry_tokens (blob_tokens asked)) (entry_text (blob_text asked)) (IsCleanEntry IsCleanBlob) (entry_as IsCleanBlob (blob_tokens asked) (blob_text asked) (blob_as asked)) entries clean)

containers_as : (asked : Bool) (entries : List (Entry ShownContainer)) → All (IsCleanEntry IsCleanContainer) entries
    → IsWrittenAs (element_tokens (codes "Containers") (flat_map (entry_tokens (container_tokens asked)) entries)) (containers_text asked entries)
unfolding containers_text
containers_as asked entries clean =
    element_as (codes "Containers") (flat_map (entry_tokens (container_tokens asked)) entries) (flat_map (entry_text (container_text asked)) entries) refl
    (all_as (entry_tokens (container_tokens asked)) (entry_text (container_text asked)) (IsCleanEntry IsCleanContainer) (entry_as IsCleanContainer (container_tokens asked) (container_text asked) (container_as asked)) entries clean)

blobs_whole : (p o a d b n k : List ℕ) → p ++ o ++ a ++ d ++ b ++ n ++ k ≡ p ++ (o ++ (a ++ d ++ b ++ n) ++ k)
blobs_whole p o a d b n k = simp append_assoc refl

-- a list of blobs is read as its tokens
pub blob_list_read : (q : Page) (entries : List (Entry ShownBlob)) (next : Option (List ℕ)) → IsCleanPage q → All (IsCleanEntry IsCleanBlob) entries → IfSome next IsCleanText
    → body_tokens (blob_list_text q entries next) ≡ Some (blob_list_tokens q entries next)
unfolding blob_list_text
blob_list_read q entries next page clean last =
    let name = codes "EnumerationResults" in
    let a = page_asked_text q in
    let d = given_text (codes "Delimiter") q.delimiter in
    let b = blobs_text q.metadata entries in
    let n = next_text next in
    let one = written-append (asked_tokens q) (given_tokens (codes "Delimiter") q.delimiter) a d (asked_as q page) (given_as (codes "Delimiter") q.delimiter refl page.delimiter) in
    let two = written-append _ (element_tokens (codes "Blobs") (flat_map (entry_tokens (blob_tokens q.metadata)) entries)) (a ++ d) b one (blobs_as q.metadata entries clean) in
    let inside = written-append _ (next_tokens next) (a ++ d ++ b) n two (next_as next last) in
    ap body_tokens (blobs_whole prolog_text (opening_text name) a d b n (closing_text name))
    ∙ body_as (blob_list_tokens q entries next) (opening_text name ++ (a ++ d ++ b ++ n) ++ closing_text name) (element_as name _ (a ++ d ++ b ++ n) refl inside)

containers_whole : (p o a b n k : List ℕ) → p ++ o ++ a ++ b ++ n ++ k ≡ p ++ (o ++ (a ++ b ++ n) ++ k)
containers_whole p o a b n k = simp append_assoc refl

-- a list of containers is read as its tokens
pub container_list_read : (q : Page) (entries : List (Entry ShownContainer)) (next : Option (List ℕ)) → IsCleanPage q → All (IsCleanEntry IsCleanContainer) entries → IfSome next IsCleanText
    → body_tokens (container_list_text q entries next) ≡ Some (container_list_tokens q entries next)
unfolding container_list_text
container_list_read q entries next page clean last =
    let name = codes "EnumerationResults" in
    let a = page_asked_text q in
    let b = containers_text q.metadata entries in
    let n = next_text next in
    let one = written-append (asked_tokens q) (element_tokens (codes "Containers") (flat_map (entry_tokens (container_tokens q.metadata)) entries)) a b (asked_as q page) (containers_as q.metadata entries clean) in
    let inside = written-append _ (next_tokens next) (a ++ b) n one (next_as next last) in
    ap body_tokens (containers_whole prolog_text (opening_text name) a b n (closing_text name))
    ∙ body_as (container_list_tokens q entries next) (opening_text name ++ (a ++ b ++ n) ++ closing_text name) (element_as name _ (a ++ b ++ n) refl inside)
