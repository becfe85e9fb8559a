-- Block lists and the blocks that they show.
use Rattle.std.proofs.Common.{◌≡◌, ℕ, ◌+◌, Bool, true, false, cond, T, List, [], ◌∷◌, ◌++◌, length, Option, Some, None, IfSome, refl, sym, ap, ◌∙◌, map, unwrap_or}
use Rattle.std.proofs.lemmas.Bool.{and_parts}
use Rattle.std.proofs.lemmas.Iterator.Adapters.{position_from-zero}
use Rattle.std.specs.Prelude.{find, is_none, is_some}
use Rattle.std.specs.Cmp.{eq_by_cmp_equiv}
use Rattle.std.specs.FinMap as finite
use Rattle.std.specs.FinMap.{FinMap, entries, entries_sorted, get-entries, is_sorted, len-empty, len-entries}
use Rattle.std.specs.FinMap.Entries as by_key
use Rattle.std.specs.List.{AllByRecursion, position_from}
use Rattle.std.specs.Option.{option_map, option_and_then, option_to_list}
use Rattle.std.specs.Ordering.{eq_by_cmp, is_eq, is_lt}
use Rattle.std.specs.declared.cmp.Ordering.{Ordering}
use Rattle.std.specs.declared.cmp.Ordering.TheVariants.{Less, Equal, Greater}
use Rattle.stamp_values.specs.Maps.{map_values}
use Rattle.stamp_values.specs.Order.{name_cmp, names_total, names_exact}
use Rattle.stamp_values.specs.declared.block.BlockKinds.{BlockKinds}
use Rattle.stamp_values.specs.declared.block.BlockSource.{BlockSource}
use Rattle.stamp_values.specs.declared.block.Taken.{Taken}
use Rattle.stamp_values.specs.declared.block.Wanted.{Wanted}
use Rattle.stamp_values.specs.declared.key.Key.{Key}
use Rattle.stamp_values.specs.declared.op.Op.TheVariants as op
use Rattle.stamp_values.proofs.MapsLemmas.{get-map_values, map_values-empty}
use Rattle.stamp_types.specs.declared.committed.Block.{Block}
use Rattle.stamp_types.specs.declared.committed.Committed.{Committed}
use Rattle.stamp_types.specs.Requests.{IsAsk}
use Rattle.stamp_types.specs.World.{Blob, World, blob_in, block_of, block_value, blob_value, committed_value, content_from, part_at, taken_blocks}
use Rattle.stamp_types.proofs.WorldLemmas.{blob_in-part_value, equal_if_is_eq}
use Rattle.block_blobs.specs.BlockLists.{found_entries, source_of, sources_of, taken_from}
use Rattle.body_forms.specs.WrittenLists.{ListedBlock, block_list_text}
use Rattle.range_rows.specs.SentContent.{byte_count}
use Rattle.range_rows.specs.ShownBlocks.{if_shown, list_text, listed_committed, listed_entry, listed_uncommitted, shown_blocks, shows_committed, shows_uncommitted}
use Rattle.range_rows.specs.Readings.{wanted_blocks}
use Rattle.stamp_model.specs.Blocks.{IsListed, ListsUncommitted, wanted_listed}
use Rattle.stamp_model.specs.Runs.{Timed, IsOn, world_after_one, reply_to_one}
use Rattle.stamp_model.proofs.BlockLemmas.{body-block_list, committed-list, content-source, first_missing-accepted, found_entries-read, kept-list, list_there, uncommitted-taken}
use Rattle.stamp_model.proofs.WrittenLemmas.{committed-put, kept-put, put_there}

-- ---- the blocks that a Put Block List commits

none_other : {X : Type 0} (b : Bool) (x : X) (o : Option X) → cond b (Some x) o ≡ None → (b ≡ false) × (o ≡ None)
none_other true x o h = cc
none_other false x o h = (refl, h)

all_fail : {X : Type 0} (p : X → Bool) (i : ℕ) (xs : List X) → position_from p i xs ≡ None → AllByRecursion (λ x. p x ≡ false) xs
all_fail p i [] none = tt
all_fail p i (x ∷ xs) none = let parts = none_other (p x) i (position_from p (i + 1) xs) none in (parts.0, all_fail p (i + 1) xs parts.1)

-- what is found first passes the test
find_passes : {X : Type 0} (test : X → Bool) (xs : List X) → IfSome (find test xs) (λ x. test x ≡ true)
find_passes test [] = tt
find_passes {X} test (x ∷ xs) = by_test (test x) refl (find_passes test xs)
  where
    by_test : (b : Bool) → test x ≡ b → IfSome (find test xs) (λ y. test y ≡ true) → IfSome (cond b (Some x) (find test xs)) (λ y. test y ≡ true)
    by_test true is rest = is
    by_test false is rest = rest

module _ (b : Blob (List ℕ)) where
  abbrev shown : List (Block (List ℕ)) → List ListedBlock
  shown blocks = shown_blocks (map (block_value byte_count) blocks)

  one_shown : (w : Wanted) (o : Option BlockSource) (rest : List Taken) → is_none o ≡ false → IfSome o (λ s. is_some (content_from s w.id b) ≡ true)
      → shown (taken_blocks b (option_to_list (option_map (taken_from w) o) ++ rest))
      ≡ record { id = w.id; len = length (unwrap_or (option_and_then (λ s. content_from s w.id b) o) []) } ∷ shown (taken_blocks b rest)
  one_shown w None rest some there = cc
  one_shown w (Some s) rest some there =
      elim (content_from s w.id b) as (λ c. is_some c ≡ true
      → shown (option_to_list (option_map (block_of w.id) c) ++ taken_blocks b rest) ≡ record { id = w.id; len = length (unwrap_or c []) } ∷ shown (taken_blocks b rest)) [
        | None ↦ λ h. cc
        | Some content ↦ λ h. refl
      ] there

  -- the blocks that are taken are shown as the wanted blocks
  shown-taken : (ws : List Wanted) → AllByRecursion (λ w. is_none (source_of b w) ≡ false) ws → shown (taken_blocks b (found_entries b ws)) ≡ map (wanted_listed b) ws
  shown-taken [] found = refl
  shown-taken (w ∷ ws) found =
      one_shown w (source_of b w) (found_entries b ws) found.0 (find_passes (λ s. is_some (content_from s w.id b)) (sources_of w.lookup))
      ∙ (λ i. record { id = w.id; len = length (unwrap_or (content-source b w i) []) } ∷ shown-taken ws found.1 i)

-- the block lists that a Get Block List shows, from the committed part and the uncommitted blocks of the blob
text_of_parts : (k : Option BlockKinds) (b : Blob (List ℕ)) (c : Option (Committed (List ℕ))) (m : FinMap name_cmp (List ℕ)) → b.committed ≡ c → b.uncommitted ≡ m
    → list_text k (blob_value byte_count b)
    ≡ block_list_text (if_shown (shows_committed k) (listed_committed (option_map (committed_value byte_count) c))) (if_shown (shows_uncommitted k) (listed_uncommitted (map_values byte_count m)))
text_of_parts k b c m same_committed same_uncommitted =
    λ i. block_list_text (if_shown (shows_committed k) (listed_committed (option_map (committed_value byte_count) (same_committed i))))
    (if_shown (shows_uncommitted k) (listed_uncommitted (map_values byte_count (same_uncommitted i))))

no_element : {X : Type 0} (xs : List X) → length xs ≡ 0 → xs ≡ []
no_element [] h = refl
no_element (x ∷ xs) h = absurd (cc)

-- the same without uncommitted blocks
text_without : (k : Option BlockKinds) (b : Blob (List ℕ)) (c : Option (Committed (List ℕ))) → b.committed ≡ c → b.uncommitted ≡ finite.empty
    → list_text k (blob_value byte_count b) ≡ block_list_text (if_shown (shows_committed k) (listed_committed (option_map (committed_value byte_count) c))) (if_shown (shows_uncommitted k) [])
text_without k b c same gone =
    text_of_parts k b c finite.empty same gone
    ∙ ap (λ (us : List ListedBlock). block_list_text (if_shown (shows_committed k) (listed_committed (option_map (committed_value byte_count) c))) (if_shown (shows_uncommitted k) us)) none_listed
  where
    none_listed : listed_uncommitted (map_values byte_count finite.empty) ≡ []
    none_listed =
        ap (λ (m : FinMap name_cmp ℕ). map listed_entry (entries m)) (map_values-empty names_total names_exact byte_count)
        ∙ ap (map listed_entry) (no_element (entries (finite.empty {X = ℕ} {R = name_cmp})) (sym (len-entries (finite.empty {X = ℕ} {R = name_cmp})) ∙ len-empty name_cmp ℕ))

module _ (v : World (List ℕ)) (key : Key) (name : List ℕ) (read : Timed) (reads : IsOn op.GetBlockList key name read.request) (free : (reply_to_one v read).rule ≡ None) where
  -- the body of the reply to a Get Block List
  pub body-parts : (reply_to_one v read).body ≡ list_text read.request.ask.args.kinds (blob_value byte_count (blob_in (part_at v key) name))
  body-parts =
      body-block_list v key name read reads free
      ∙ ap (λ (b : Blob ℕ). list_text read.request.ask.args.kinds b) (blob_in-part_value byte_count (part_at v key) name)

module _ (w : World (List ℕ)) (key : Key) (name : List ℕ) (list : Timed) (fits : IsAsk list.request.ask)
    (lists : IsOn op.PutBlockList key name list.request) (none : (reply_to_one w list).rule ≡ None)
    (read : Timed) (reads : IsOn op.GetBlockList key name read.request) (free : (reply_to_one (world_after_one w list) read).rule ≡ None) where
  abbrev kinds_read : Option BlockKinds
  kinds_read = read.request.ask.args.kinds

  abbrev before : Blob (List ℕ)
  before = blob_in (part_at w key) name

  abbrev wanted_here : List Wanted
  wanted_here = wanted_blocks list.request

  found_here : AllByRecursion (λ w. is_none (source_of before w) ≡ false) wanted_here
  found_here =
      all_fail (λ w. is_none (source_of before w)) 0 wanted_here
      (sym (position_from-zero (λ w. is_none (source_of before w)) wanted_here) ∙ first_missing-accepted w key name list lists none)

  -- after a Put Block List, a Get Block List shows the wanted blocks as committed, and no uncommitted block
  pub body-listed : (reply_to_one (world_after_one w list) read).body
      ≡ block_list_text (if_shown (shows_committed kinds_read) (map (wanted_listed before) wanted_here)) (if_shown (shows_uncommitted kinds_read) [])
  body-listed =
      let keeps = kept-list list.request key name fits lists in
      body-parts (world_after_one w list) key name read reads free
      ∙ text_without kinds_read (blob_in (part_at (world_after_one w list) key) name) (Some (list_there w key name list lists none keeps.0 keeps.1))
      (committed-list w key name list lists none keeps.0 keeps.1) (uncommitted-taken w key name list fits none op.PutBlockList refl lists)
      ∙ ap (λ (us : List ListedBlock). block_list_text (if_shown (shows_committed kinds_read) us) (if_shown (shows_uncommitted kinds_read) []))
      (ap (λ (b : Blob ℕ). shown before (taken_blocks before (found_entries b wanted_here))) (blob_in-part_value byte_count (part_at w key) name)
      ∙ ap (λ (ts : List Taken). shown before (taken_blocks before ts)) (found_entries-read byte_count before wanted_here)
      ∙ shown-taken before wanted_here found_here)

module _ (w : World (List ℕ)) (key : Key) (name : List ℕ) (put : Timed) (fits : IsAsk put.request.ask)
    (puts : IsOn op.PutBlob key name put.request) (none : (reply_to_one w put).rule ≡ None)
    (read : Timed) (reads : IsOn op.GetBlockList key name read.request) (free : (reply_to_one (world_after_one w put) read).rule ≡ None) where
  -- after a Put Blob, a Get Block List shows no block: the block of a blob that was put whole has no id
  pub body-put_whole : (reply_to_one (world_after_one w put) read).body
      ≡ block_list_text (if_shown (shows_committed read.request.ask.args.kinds) []) (if_shown (shows_uncommitted read.request.ask.args.kinds) [])
  body-put_whole =
      let keeps = kept-put put.request key name fits puts in
      body-parts (world_after_one w put) key name read reads free
      ∙ text_without read.request.ask.args.kinds (blob_in (part_at (world_after_one w put) key) name) (Some (put_there w key name keeps.0 put puts keeps.1 none))
      (committed-put w key name keeps.0 put puts keeps.1 none) (uncommitted-taken w key name put fits none op.PutBlob refl puts)

-- ---- uncommitted blocks

-- the entry is in the list
abbrev IsEntry : List (List ℕ × ℕ) → List ℕ × ℕ → Type 0
IsEntry es e = (front : List (List ℕ × ℕ)) × (back : List (List ℕ × ℕ)) × (es ≡ front ++ e ∷ back)

exact_same : (q k : List ℕ) → eq_by_cmp name_cmp q k ≡ true → k ≡ q
exact_same q k h = sym (names_exact q k (equal_if_is_eq (name_cmp q k) h))

-- a value that is found under a key is the value of an entry of this key
entry-found : (q : List ℕ) (n : ℕ) (es : List (List ℕ × ℕ)) → by_key.find name_cmp q es ≡ Some n → IsEntry es (q, n)
entry-found q n [] h = cc
entry-found q n (e ∷ es) h = by_test (eq_by_cmp name_cmp q e.0) refl h (entry-found q n es)
  where
    by_test : (b : Bool) → eq_by_cmp name_cmp q e.0 ≡ b → cond b (Some e.1) (by_key.find name_cmp q es) ≡ Some n
        → (by_key.find name_cmp q es ≡ Some n → IsEntry es (q, n)) → IsEntry (e ∷ es) (q, n)
    by_test true is h more =
        let same : e.1 ≡ n = cc in
        let key = exact_same q e.0 is in
        ([], es, λ i. (key i, same i) ∷ es)
    by_test false is h more = let at = more h in (e ∷ at.0, at.1, ap (λ (l : List (List ℕ × ℕ)). e ∷ l) at.2)

less_than : (o : Ordering) → is_lt o ≡ true → is_eq o ≡ false
less_than Less h = refl
less_than Equal h = cc
less_than Greater h = cc

-- a key below the key of an entry is another key
apart_below : (k q : List ℕ) → is_lt (name_cmp k q) ≡ true → eq_by_cmp name_cmp q k ≡ false
apart_below k q h = by_test (eq_by_cmp name_cmp q k) refl
  where
    by_test : (b : Bool) → eq_by_cmp name_cmp q k ≡ b → b ≡ false
    by_test false is = refl
    by_test true is =
        let same = exact_same q k is in
        let never : true ≡ false = sym ((eq_by_cmp_equiv names_total).refl k) ∙ ap (λ (x : List ℕ). eq_by_cmp name_cmp k x) same ∙ less_than (name_cmp k q) h in cc

below_entry : (k : List ℕ) (front back : List (List ℕ × ℕ)) (e : List ℕ × ℕ) → by_key.below_all name_cmp k (front ++ e ∷ back) ≡ true → is_lt (name_cmp k e.0) ≡ true
below_entry k [] back e h = (and_parts _ _ h).0
below_entry k (x ∷ front) back e h = below_entry k front back e (and_parts _ _ h).1

-- in a list whose keys rise, an entry is found under its key
found-entry : (front back : List (List ℕ × ℕ)) (e : List ℕ × ℕ) → is_sorted name_cmp (front ++ e ∷ back) ≡ true → by_key.find name_cmp e.0 (front ++ e ∷ back) ≡ Some e.1
found-entry [] back e h = ap (λ b. cond b (Some e.1) (by_key.find name_cmp e.0 back)) ((eq_by_cmp_equiv names_total).refl e.0)
found-entry (x ∷ front) back e h =
    let parts = and_parts _ _ h in
    ap (λ b. cond b (Some x.1) (by_key.find name_cmp e.0 (front ++ e ∷ back))) (apart_below x.0 e.0 (below_entry x.0 front back e parts.0))
    ∙ found-entry front back e parts.1

true_of : (b : Bool) → T b → b ≡ true
true_of true h = refl
true_of false h = absurd h

-- the id and the number of bytes of a listed block
abbrev pair_of : ListedBlock → List ℕ × ℕ
pair_of u = (u.id, u.len)

module _ (b : Blob (List ℕ)) where
  abbrev listed_entries : List (List ℕ × ℕ)
  listed_entries = entries (map_values byte_count b.uncommitted)

  abbrev listed : List ListedBlock
  listed = map listed_entry listed_entries

  same_entries : (es : List (List ℕ × ℕ)) → map pair_of (map listed_entry es) ≡ es
  same_entries [] = refl
  same_entries (e ∷ es) = ap (λ (l : List (List ℕ × ℕ)). e ∷ l) (same_entries es)

  sorted : is_sorted name_cmp listed_entries ≡ true
  sorted = true_of (is_sorted name_cmp listed_entries) (entries_sorted (map_values byte_count b.uncommitted))

  found_by : (id : List ℕ) → by_key.find name_cmp id listed_entries ≡ option_map byte_count (finite.get b.uncommitted id)
  found_by id = sym (get-entries (map_values byte_count b.uncommitted) id) ∙ get-map_values names_total byte_count b.uncommitted id

  listed-entry : (es front back : List (List ℕ × ℕ)) (e : List ℕ × ℕ) → es ≡ front ++ e ∷ back → IsListed (map listed_entry es) (listed_entry e)
  listed-entry es front back e is = (map listed_entry front, map listed_entry back, ap (λ (l : List (List ℕ × ℕ)). map listed_entry l) is ∙ map_parts front)
    where
      map_parts : (front : List (List ℕ × ℕ)) → map listed_entry (front ++ e ∷ back) ≡ map listed_entry front ++ listed_entry e ∷ map listed_entry back
      map_parts [] = refl
      map_parts (x ∷ xs) = ap (λ (l : List ListedBlock). listed_entry x ∷ l) (map_parts xs)

  -- a listed block is an entry
  entry-listed : (es : List (List ℕ × ℕ)) (u : ListedBlock) (front back : List ListedBlock) → map listed_entry es ≡ front ++ u ∷ back → IsEntry es (u.id, u.len)
  entry-listed es u front back is =
      let pairs : es ≡ map pair_of (front ++ u ∷ back) = sym (same_entries es) ∙ ap (λ (l : List ListedBlock). map pair_of l) is in
      (map pair_of front, map pair_of back, pairs ∙ map_parts front)
    where
      map_parts : (front : List ListedBlock) → map pair_of (front ++ u ∷ back)
          ≡ map pair_of front ++ (u.id, u.len) ∷ map pair_of back
      map_parts [] = refl
      map_parts (x ∷ xs) = ap (λ (l : List (List ℕ × ℕ)). pair_of x ∷ l) (map_parts xs)

  content_of_size : (o : Option (List ℕ)) (n : ℕ) → option_map byte_count o ≡ Some n → (content : List ℕ) × (o ≡ Some content) × (n ≡ length content)
  content_of_size None n h = cc
  content_of_size (Some content) n h = let same : length content ≡ n = cc in (content, refl, sym same)

  -- a Get Block List lists the uncommitted blocks, each once
  pub lists_uncommitted : ListsUncommitted b (listed_uncommitted (map_values byte_count b.uncommitted))
  lists_uncommitted = record {
    rising = ap (λ (l : List (List ℕ × ℕ)). is_sorted name_cmp l) (same_entries listed_entries) ∙ sorted;
    each = λ id content there.
        let at = entry-found id (length content) listed_entries (found_by id ∙ ap (option_map byte_count) there) in
        listed-entry listed_entries at.0 at.1 (id, length content) at.2;
    only = λ u is_listed.
        let at = entry-listed listed_entries u is_listed.0 is_listed.1 is_listed.2 in
        content_of_size (finite.get b.uncommitted u.id) u.len
        (sym (found_by u.id) ∙ ap (λ (l : List (List ℕ × ℕ)). by_key.find name_cmp u.id l) at.2
        ∙ found-entry at.0 at.1 (u.id, u.len) (ap (λ (l : List (List ℕ × ℕ)). is_sorted name_cmp l) (sym at.2) ∙ sorted));
  }

module _ (v : World (List ℕ)) (key : Key) (name : List ℕ) (read : Timed) (reads : IsOn op.GetBlockList key name read.request) (free : (reply_to_one v read).rule ≡ None) where
  -- a Get Block List shows the uncommitted blocks as they are
  pub body-uncommitted : (committed : List ListedBlock) × (us : List ListedBlock) × ListsUncommitted (blob_in (part_at v key) name) us
      × ((reply_to_one v read).body ≡ block_list_text (if_shown (shows_committed read.request.ask.args.kinds) committed) (if_shown (shows_uncommitted read.request.ask.args.kinds) us))
  body-uncommitted = (
    listed_committed (option_map (committed_value byte_count) (blob_in (part_at v key) name).committed),
    listed_uncommitted (map_values byte_count (blob_in (part_at v key) name).uncommitted),
    lists_uncommitted (blob_in (part_at v key) name),
    body-parts v key name read reads free,
  )
