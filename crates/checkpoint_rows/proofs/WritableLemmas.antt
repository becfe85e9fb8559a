-- Each container that streams mean can be written: its changes have good names, and they leave a count and something of each blob.
use Rattle.std.proofs.Common.{◌≡◌, ◌∙◌, ◌+◌, ◌&&◌, ◌||◌, ℕ, Bool, true, false, cond, List, [], ◌∷◌, ◌++◌, All, Option, Some, None, IfSome, map, length, nat_le, nat_lt, refl, sym, ap, subst, arith}
use Rattle.std.specs.Prelude.{is_some}
use Rattle.std.specs.List.{cons_option}
use Rattle.std.specs.Option.{option_map}
use Rattle.std.specs.Cmp.{eq_by_cmp_equiv}
use Rattle.std.specs.Ordering.{eq_by_cmp}
use Rattle.std.specs.FinMap as finite
use Rattle.std.specs.FinMap.{FinMap, entries, find, get, get-entries}
use Rattle.std.proofs.lemmas.Bool.{and_parts, le-leb, leb-true}
use Rattle.std.proofs.lemmas.List.Elements.{All-nil, All-cons, All-head, All-tail, All-append}
use Rattle.std.proofs.lemmas.Map.Views.{tells_apart}
use Rattle.extent_node.specs.Copies.{Block}
use Rattle.stamp_values.specs.Names.{is_account, is_blob, is_container}
use Rattle.stamp_values.specs.Order.{keys_exact, name_cmp, names_exact, names_total}
use Rattle.stamp_values.specs.Texts.{is_clean, is_utf8}
use Rattle.stamp_values.specs.declared.key.Key.{Key}
use Rattle.stamp_types.specs.Changes.{KeyedAct, are_uncommitted, is_act, is_committed, is_in_one_piece}
use Rattle.stamp_types.specs.World.{Blob, Part, blob_in, changed, committed_value, committed_with_metadata, no_part, same_pieces, uncommitted_entry, with_committed}
use Rattle.stamp_types.specs.declared.act.Act.{Act}
use Rattle.stamp_types.specs.declared.act.Act.TheVariants as act
use Rattle.stamp_types.specs.declared.act.SetMetadata.{SetMetadata}
use Rattle.stamp_types.specs.declared.committed.Committed.{Committed}
use Rattle.stamp_types.specs.declared.committed.UncommittedBlock.{UncommittedBlock}
use Rattle.stamp_types.specs.declared.piece.Piece.{Piece}
use Rattle.block_blobs.specs.StoredRows.{is_left}
use Rattle.block_blobs.specs.UncommittedBlocks.{block_count}
use Rattle.log_record.specs.Fits.{FitsAct, FitsText, IsRecorded}
use Rattle.stream_manager.specs.Places.{blocks_of}
use Rattle.stream_manager.specs.Streams.{laid}
use Rattle.partition_stream.specs.Changes.{Recorded, change_in, changes_of}
use Rattle.partition_stream.specs.Meanings.{acts_on, after_acts, held_of, is_on}
use Rattle.partition_stream.specs.Storing.{AreKept, IsStoredRecord}
use Rattle.partition_stream.specs.Streams.{ThreeStreams, logged}
use Rattle.partition_stream.proofs.ChangeLemmas.{change_in-block}
use Rattle.checkpoint_rows.specs.Writing.{HasGoodNames, IsWritable, IsWritableBlob}

-- ---- something is left of a blob

or_right : (a b : Bool) → b ≡ true → (a || b) ≡ true
or_right true b h = refl
or_right false b h = h

-- a map with an entry has at least one
some_left : (m : FinMap name_cmp (List Piece)) (id : List ℕ) (content : List Piece) → get m id ≡ Some content → nat_lt 0 (block_count m) ≡ true
some_left m id content has = by (entries m) (sym (get-entries m id) ∙ has)
  where
    by : (es : List (List ℕ × List Piece)) → find name_cmp id es ≡ Some content → nat_lt 0 (length es) ≡ true
    by [] none = cc
    by (e ∷ es) some = le-leb 1 (length (e ∷ es)) (omega arith)

same_name : (name : List ℕ) → eq_by_cmp name_cmp name name ≡ true
same_name name = (eq_by_cmp_equiv names_total).refl name

put_left : (m : FinMap name_cmp (List Piece)) (id : List ℕ) (content : List Piece) → nat_lt 0 (block_count (finite.insert m id content)) ≡ true
put_left m id content =
    some_left (finite.insert m id content) id content
    (finite.get-insert names_total m id content id ∙ ap (λ b. cond b (Some content) (get m id)) (same_name id))

stored_left : (o : Option (Committed (List Piece))) (us : List UncommittedBlock) → (is_some o || nat_lt 0 (length us)) ≡ true
    → is_left (record { committed = option_map (committed_value same_pieces) o; uncommitted = finite.from_entries {R = name_cmp} (map (uncommitted_entry same_pieces) us) }) ≡ true
stored_left (Some c) us some = refl
stored_left None [] some = cc
stored_left None (u ∷ us) some =
    let es = map (uncommitted_entry same_pieces) (u ∷ us) in
    some_left (finite.from_entries {R = name_cmp} es) u.id u.content
    (finite.get-from_entries names_total es u.id ∙ ap (λ b. cond b (Some u.content) (find name_cmp u.id (map (uncommitted_entry same_pieces) us))) (same_name u.id))

-- ---- the blobs of a container

abbrev Can : Key → FinMap name_cmp (Blob (List Piece)) → Type 0
Can key blobs = (name : List ℕ) → IfSome (get blobs name) (IsWritableBlob key name)

can_put : (key : Key) (blobs : FinMap name_cmp (Blob (List Piece))) (name : List ℕ) (b : Blob (List Piece)) → IsWritableBlob key name b → Can key blobs → Can key (finite.insert blobs name b)
can_put key blobs name b new old = λ other.
    subst (λ o. IfSome o (IsWritableBlob key other)) (sym (finite.get-insert names_total blobs name b other)) (by other (eq_by_cmp name_cmp other name) refl)
  where
    by : (other : List ℕ) (t : Bool) → eq_by_cmp name_cmp other name ≡ t → IfSome (cond t (Some b) (get blobs other)) (IsWritableBlob key other)
    by other true same = subst (λ n. IsWritableBlob key n b) (sym (tells_apart names_exact other name same)) new
    by other false off = old other

can_remove : (key : Key) (blobs : FinMap name_cmp (Blob (List Piece))) (name : List ℕ) → Can key blobs → Can key (finite.remove blobs name)
can_remove key blobs name old = λ other.
    subst (λ o. IfSome o (IsWritableBlob key other)) (sym (finite.get-remove names_total blobs name other)) (by other (eq_by_cmp name_cmp other name))
  where
    by : (other : List ℕ) (t : Bool) → IfSome (cond t None (get blobs other)) (IsWritableBlob key other)
    by other true = tt
    by other false = old other

can_none : (key : Key) → Can key finite.empty
can_none key = λ name. subst (λ o. IfSome o (IsWritableBlob key name)) (sym (finite.get-empty name_cmp name)) tt

-- a container that never was
pub none_writable : (key : Key) → IsWritable key no_part
none_writable key = record { named = λ some. absurd (omega (arith, some)); unseen = λ none. refl; blobs = can_none key }

-- ---- a change

text_of : (t : List ℕ) → FitsText t → is_utf8 t ≡ true
text_of t fits = (and_parts (is_utf8 t) (is_clean t) fits.1).0

blob_of : (key : Key) (name : List ℕ) (b : Blob (List Piece)) → HasGoodNames key → FitsText name → is_blob name ≡ true → is_left b ≡ true → IsWritableBlob key name b
blob_of key name b named fits good left = record { named = named; text = text_of name fits; good = good; left = left }

-- a container of other blobs, one change later
later : (key : Key) (p q : Part (List Piece)) → HasGoodNames key → q.count ≡ p.count + 1 → Can key q.blobs → IsWritable key q
later key p q named count blobs = record { named = λ some. named; unseen = λ zero. absurd (omega (arith, zero, count)); blobs = blobs }

with_metadata : (key : Key) (n : ℕ) (a : SetMetadata) (p : Part (List Piece)) (o : Option (Committed (List Piece))) → HasGoodNames key → FitsText a.blob → is_blob a.blob ≡ true → Can key p.blobs
    → Can key (with_committed p a.blob (option_map (committed_with_metadata n a) o))
with_metadata key n a p None named fits good old = old
with_metadata key n a p (Some c) named fits good old = can_put key p.blobs a.blob _ (blob_of key a.blob _ named fits good refl) old

-- a good change of a container that can be written leaves one that can be written
changed_writable : (key : Key) (a : Act) (p : Part (List Piece)) → HasGoodNames key → is_act a ≡ true → FitsAct a → IsWritable key p → IsWritable key (changed same_pieces a p)
changed_writable key (act.CreateContainer a) p named good fits can = later key p (changed same_pieces (act.CreateContainer a) p) named refl can.blobs
changed_writable key (act.SetContainerMetadata a) p named good fits can = later key p (changed same_pieces (act.SetContainerMetadata a) p) named refl can.blobs
changed_writable key (act.SetAcl a) p named good fits can = later key p (changed same_pieces (act.SetAcl a) p) named refl can.blobs
changed_writable key act.DeleteContainer p named good fits can = later key p (changed same_pieces act.DeleteContainer p) named refl (can_none key)
changed_writable key (act.PutBlob a) p named good fits can =
    later key p (changed same_pieces (act.PutBlob a) p) named refl (can_put key p.blobs a.blob _ (blob_of key a.blob _ named fits.0 good refl) can.blobs)
changed_writable key (act.SetMetadata a) p named good fits can =
    later key p (changed same_pieces (act.SetMetadata a) p) named refl (with_metadata key (p.count + 1) a p (blob_in p a.blob).committed named fits.0 good can.blobs)
changed_writable key (act.DeleteBlob a) p named good fits can = later key p (changed same_pieces (act.DeleteBlob a) p) named refl (can_remove key p.blobs a.blob can.blobs)
changed_writable key (act.PutBlock a) p named good fits can =
    later key p (changed same_pieces (act.PutBlock a) p) named refl
    (can_put key p.blobs a.blob _
    (blob_of key a.blob _ named fits.0 (and_parts (is_blob a.blob) (is_in_one_piece a.content) good).0
    (or_right (is_some (blob_in p a.blob).committed) _ (put_left (blob_in p a.blob).uncommitted a.id a.content))) can.blobs)
changed_writable key (act.PutBlockList a) p named good fits can =
    later key p (changed same_pieces (act.PutBlockList a) p) named refl
    (can_put key p.blobs a.blob _ (blob_of key a.blob _ named fits.0 (and_parts (is_blob a.blob) (nat_le (length a.entries) 50000) good).0 refl) can.blobs)
changed_writable key (act.ContainerRow a) p named good fits can =
    record { named = λ some. named; unseen = λ zero. absurd (omega (arith, zero, leb-true 1 a.count good)); blobs = can.blobs }
changed_writable key (act.StoredBlob a) p named good fits can =
    let some = is_some a.committed || nat_lt 0 (length a.uncommitted) in
    let first = and_parts (is_blob a.blob && some && is_committed a.committed) (are_uncommitted a.uncommitted) good in
    let second = and_parts (is_blob a.blob && some) (is_committed a.committed) first.0 in
    let third = and_parts (is_blob a.blob) some second.0 in
    record {
      named = λ some. named;
      unseen = can.unseen;
      blobs = can_put key p.blobs a.blob _ (blob_of key a.blob _ named fits.0 third.0 (stored_left a.committed a.uncommitted third.1)) can.blobs;
    }

-- ---- changes that streams keep

named_of : (c : KeyedAct) → IsRecorded c → HasGoodNames c.key × (is_act c.act ≡ true)
named_of c is =
    let both = and_parts (is_account c.key.account && is_container c.key.container) (is_act c.act) is.good in
    let names = and_parts (is_account c.key.account) (is_container c.key.container) both.0 in
    (record { account = names.0; container = names.1 }, both.1)

abbrev Of : Recorded → Type 0
Of c = IsRecorded c.0

each_recorded : (es : List (List Block)) (blocks : List Block) → All (IsStoredRecord es) blocks → All Of (changes_of blocks)
each_recorded es [] all = All-nil Of
each_recorded es (block ∷ blocks) all =
    let r = All-head (IsStoredRecord es) block blocks all in
    let own : change_in block ≡ Some (r.change, r.epoch) = change_in-block block (record { change = r.change; epoch = r.epoch; fits = r.fits; within = r.within; bytes = r.bytes }) in
    subst (λ o. All Of (cons_option o (changes_of blocks))) (sym own)
    (All-cons Of (r.change, r.epoch) (changes_of blocks) r.fits (each_recorded es blocks (All-tail (IsStoredRecord es) block blocks all)))

next_writable : (key : Key) (c : Recorded) (cs : List Recorded) (p : Part (List Piece)) (b : Bool) → is_on key c ≡ b → IsRecorded c.0 → IsWritable key p
    → ((q : Part (List Piece)) → IsWritable key q → IsWritable key (after_acts same_pieces (acts_on key cs) q)) → IsWritable key (after_acts same_pieces (acts_on key (c ∷ cs)) p)
next_writable key c cs p true on is can others =
    let facts = named_of c.0 is in
    let own : HasGoodNames key = subst HasGoodNames (tells_apart keys_exact c.0.key key on) facts.0 in
    rw on (others (changed same_pieces c.0.act p) (changed_writable key c.0.act p own facts.1 is.act can))
next_writable key c cs p false off is can others = rw off (others p can)

after_writable : (key : Key) (cs : List Recorded) (p : Part (List Piece)) → All Of cs → IsWritable key p → IsWritable key (after_acts same_pieces (acts_on key cs) p)
after_writable key [] p all can = can
after_writable key (c ∷ cs) p all can =
    next_writable key c cs p (is_on key c) refl (All-head Of c cs all) can (λ q is. after_writable key cs q (All-tail Of c cs all) is)

-- each container that streams mean can be written
pub held_of-writable : (s : ThreeStreams) (key : Key) → AreKept s → IsWritable key (held_of (logged s) key)
held_of-writable s key kept =
    after_writable key ((logged s).rows ++ (logged s).log) no_part
    (All-append Of (logged s).rows (logged s).log (each_recorded (laid s.blobs) (blocks_of (laid s.rows)) kept.rows) (each_recorded (laid s.blobs) (blocks_of (laid s.log)) kept.log))
    (none_writable key)
