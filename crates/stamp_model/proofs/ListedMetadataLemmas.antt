-- The metadata that a list of blobs shows.
use Rattle.std.proofs.Common.{◌≡◌, ℕ, Bool, true, false, cond, List, [], ◌∷◌, ◌++◌, Option, None, Some, refl, sym, ap, ◌∙◌, append_assoc, nat_eq}
use Rattle.std.proofs.lemmas.List.Concat.{flat_map-append}
use Rattle.std.specs.Cmp.Lexicographic.{pointwise}
use Rattle.std.specs.List.{filter, flat_map}
use Rattle.stamp_values.specs.declared.key.Key.{Key}
use Rattle.stamp_values.specs.declared.op.Op.TheVariants as op
use Rattle.stamp_types.specs.declared.args.Page.{Page}
use Rattle.stamp_types.specs.declared.reply.Reply.{Reply}
use Rattle.stamp_types.specs.Requests.{Asked}
use Rattle.stamp_types.specs.World.{World}
use Rattle.body_forms.specs.ListEntries.{Entry, ShownBlob}
use Rattle.body_forms.specs.WrittenPages.{blob_list_text, blob_text, blobs_text, entry_text}
use Rattle.list_pages.specs.ListReplies.{page_asked}
use Rattle.stamp_model.specs.Listed.{ListsNames, ListsOnce}
use Rattle.stamp_model.specs.ListedMetadata.{TellsMetadata, WritesBlob}
use Rattle.stamp_model.specs.Runs.{Timed, IsOn, reply_to_one}
use Rattle.stamp_model.proofs.ListedLemmas.{lists-once}
use Rattle.stamp_model.proofs.ReadLemmas.{reply-read}
use Rattle.stamp_model.proofs.SuccessLemmas.{seen-before}

-- what alone passes a test is in the list
passed-there : {X : Type 0} (test : X → Bool) (xs : List X) (x : X) → filter test xs ≡ x ∷ [] → (front : List X) × (back : List X) × (xs ≡ front ++ x ∷ back)
passed-there test [] x one = cc
passed-there {X} test (y ∷ ys) x one = by (test y) one (passed-there test ys x)
  where
    by : (b : Bool) → cond b (y ∷ filter test ys) (filter test ys) ≡ x ∷ [] → (filter test ys ≡ x ∷ [] → (front : List X) × (back : List X) × (ys ≡ front ++ x ∷ back))
        → (front : List X) × (back : List X) × (y ∷ ys ≡ front ++ x ∷ back)
    by true one more = let same : y ≡ x = cc in ([], ys, ap (λ z. z ∷ ys) same)
    by false one more = let there = more one in (y ∷ there.0, there.1, ap (λ t. y ∷ t) there.2)

-- the text has the part
record HasPart (part text : List ℕ) : Type 0 where
  pub before : List ℕ
  pub after : List ℕ
  pub there : text ≡ before ++ part ++ after

part-after : (part first text : List ℕ) → HasPart part text → HasPart part (first ++ text)
part-after part first text has = record { before = first ++ has.before; after = has.after; there = ap (λ t. first ++ t) has.there ∙ sym (append_assoc first (has.before ++ part) has.after) ∙ ap (λ t. t ++ has.after) (sym (append_assoc first has.before part)) }

part-before : (part text last : List ℕ) → HasPart part text → HasPart part (text ++ last)
part-before part text last has = record {
  before = has.before;
  after = has.after ++ last;
  there = ap (λ t. t ++ last) has.there ∙ append_assoc (has.before ++ part) has.after last;
}

part-of : {X : Type 0} (f : X → List ℕ) (xs front : List X) (x : X) (back : List X) → xs ≡ front ++ x ∷ back → HasPart (f x) (flat_map f xs)
part-of f xs front x back is = record { before = flat_map f front; after = flat_map f back; there = ap (flat_map f) is ∙ flat_map-append f front (x ∷ back) ∙ sym (append_assoc (flat_map f front) (f x) (flat_map f back)) }

-- the text of a list has the element of each of its blobs
list-writes : (q : Page) (items : List (Entry ShownBlob)) (next : Option (List ℕ)) (name : List ℕ) (shown : ShownBlob) → filter (λ (entry : Entry ShownBlob). pointwise nat_eq entry.0 name) items ≡ (name, Some shown) ∷ []
    → HasPart (blob_text q.metadata name shown) (blob_list_text q items next)
unfolding blob_list_text blobs_text
list-writes q items next name shown one =
    let part : List ℕ = blob_text q.metadata name shown in
    let there = passed-there (λ (entry : Entry ShownBlob). pointwise nat_eq entry.0 name) items (name, Some shown) one in
    let in_names : HasPart part (flat_map (entry_text (blob_text q.metadata)) items) = part-of (entry_text (blob_text q.metadata)) items there.0 (name, Some shown) there.1 there.2 in
    part-before part _ _ (part-before part _ _ (part-after part _ _ (part-before part _ _ (part-after part _ _ in_names))))

-- the page of a list tells of a blob the metadata that a Get Blob Metadata tells
told-metadata : (w : World (List ℕ)) (key : Key) (name : List ℕ) (list : Timed) → ListsNames key list.request → (reply_to_one w list).rule ≡ None
    → (get : Timed) → IsOn op.GetMetadata key name get.request → (reply_to_one w get).rule ≡ None
    → ListsOnce list.request name (reply_to_one w list) (TellsMetadata (reply_to_one w get))
told-metadata w key name list lists none get gets free =
    let there = seen-before w key name op.GetMetadata get refl gets free in
    lists-once w key list lists none name (TellsMetadata (reply_to_one w get)) there.0 there.1
    (ap (λ (r : Reply). r.headers) (reply-read get.keys w get.request get.moment get.bound free op.GetMetadata key name there.0 refl refl gets there.1))

-- the body of a list writes what its page shows
written-too : (q : Asked) (name : List ℕ) (listed : Reply) (IsShown : ShownBlob → Type 0) → ListsOnce q name listed IsShown
    → ListsOnce q name listed (λ shown. IsShown shown × WritesBlob (page_asked q) name shown listed.body)
written-too q name listed IsShown lists = record {
  page = lists.page;
  body = lists.body;
  told = lists.told;
  marked = lists.marked;
  full = lists.full;
  once = λ reaches.
      let one = lists.once reaches in
      let has = list-writes (page_asked q) lists.page.entries lists.page.next name one.0 one.1 in
      (one.0, one.1, (one.2, record { before = has.before; after = has.after; there = lists.body ∙ has.there }));
}

-- the body of a list writes of a blob the metadata that a Get Blob Metadata tells
pub listed-metadata : (w : World (List ℕ)) (key : Key) (name : List ℕ) (list : Timed) → ListsNames key list.request → (reply_to_one w list).rule ≡ None
    → (get : Timed) → IsOn op.GetMetadata key name get.request → (reply_to_one w get).rule ≡ None
    → ListsOnce list.request name (reply_to_one w list)
    (λ shown. TellsMetadata (reply_to_one w get) shown × WritesBlob (page_asked list.request) name shown (reply_to_one w list).body)
listed-metadata w key name list lists none get gets free =
    written-too list.request name (reply_to_one w list) (TellsMetadata (reply_to_one w get)) (told-metadata w key name list lists none get gets free)
