-- What changes mean.
use Rattle.std.proofs.Common.{◌≡◌, ◌≢◌, ◌∙◌, inl, inr, ℕ, Bool, true, false, cond, Option, Some, None, List, [], ◌∷◌, ◌++◌, All, map, filter, ap, sym, refl, subst, append_assoc, append-nil}
use Rattle.std.specs.List.{cons_option}
use Rattle.std.specs.Cmp.{eq_by_cmp_equiv}
use Rattle.std.proofs.lemmas.List.{map-append}
use Rattle.std.proofs.lemmas.List.Elements.{filter-append, All-nil, All-cons, All-head, All-tail, All-append}
use Rattle.std.proofs.lemmas.List.Sums.{fold-append}
use Rattle.std.proofs.lemmas.Map.Views.{tells_apart}
use Rattle.extent_node.specs.Copies.{Block}
use Rattle.extent_node.specs.Faults.{held}
use Rattle.stamp_values.specs.Order.{keys_total, keys_exact, names_total, names_exact}
use Rattle.stamp_values.proofs.MapsLemmas.{map_values-empty}
use Rattle.stamp_values.specs.declared.key.Key.{Key}
use Rattle.stamp_types.specs.Contents.{EachContent}
use Rattle.stamp_types.specs.World.{Part, blob_value, changed, no_part, part_value, same_pieces}
use Rattle.stamp_types.specs.declared.act.Act.{Act}
use Rattle.stamp_types.specs.declared.piece.Piece.{Piece}
use Rattle.stamp_types.proofs.ContentReadings.{part_value-changed}
use Rattle.stamp_types.proofs.EachContents.{EachContent-changed, EachContent-no_part}
use Rattle.stream_manager.specs.Places.{KeepsPlaces, blocks_of}
use Rattle.stream_manager.specs.Streams.{laid}
use Rattle.partition_stream.specs.Changes.{Recorded, change_in, changes_of}
use Rattle.partition_stream.specs.Contents.{AreStored, content_at}
use Rattle.partition_stream.specs.Meanings.{is_on, acts_on, after_acts, held_of, meaning, IsOneMore, IsWithDoubt}
use Rattle.partition_stream.specs.Storing.{IsStoredChange, IsStoredRecord, AreKept}
use Rattle.partition_stream.specs.Streams.{HaveSameBlocks, Logged, ThreeStreams, logged}
use Rattle.partition_stream.proofs.ChangeLemmas.{change_in-block}
use Rattle.partition_stream.proofs.ContentLemmas.{part_reads}

acts_on-more : (key : Key) (cs ds : List Recorded) → acts_on key (cs ++ ds) ≡ acts_on key cs ++ acts_on key ds
acts_on-more key cs ds =
    ap (map (λ (c : Recorded). c.0.act)) (filter-append (is_on key) cs ds) ∙ map-append (λ (c : Recorded). c.0.act) (filter (is_on key) cs) (filter (is_on key) ds)

one_act : (key : Key) (c : Recorded) (b : Bool) → is_on key c ≡ b → acts_on key (c ∷ []) ≡ cond b (c.0.act ∷ []) []
one_act key c true on = ap (λ b. map (λ (d : Recorded). d.0.act) (cond b (c ∷ []) [])) on
one_act key c false off = ap (λ b. map (λ (d : Recorded). d.0.act) (cond b (c ∷ []) [])) off

-- one change more, of this container or of another one
after_one : (key : Key) (cs : List Recorded) (c : Recorded) (b : Bool) → is_on key c ≡ b
    → after_acts same_pieces (acts_on key (cs ++ c ∷ [])) no_part
    ≡ after_acts same_pieces (cond b (c.0.act ∷ []) []) (after_acts same_pieces (acts_on key cs) no_part)
after_one key cs c b on =
    ap (λ acts. after_acts same_pieces acts no_part) (acts_on-more key cs (c ∷ []) ∙ ap (λ l. acts_on key cs ++ l) (one_act key c b on))
    ∙ fold-append (λ q a. changed same_pieces a q) no_part (acts_on key cs) (cond b (c.0.act ∷ []) [])

all_more : (s t : Logged) (added : List Recorded) → t.rows ≡ s.rows → t.log ≡ s.log ++ added → t.rows ++ t.log ≡ (s.rows ++ s.log) ++ added
all_more s t added rows log = ap (λ l. l ++ t.log) rows ∙ ap (λ l. s.rows ++ l) log ∙ sym (append_assoc s.rows s.log added)

held_of-one : (s t : Logged) (key : Key) (c : Recorded) (b : Bool) → is_on key c ≡ b → t.rows ≡ s.rows → t.log ≡ s.log ++ c ∷ []
    → held_of t key ≡ after_acts same_pieces (cond b (c.0.act ∷ []) []) (held_of s key)
held_of-one s t key c b on rows log =
    ap (λ l. after_acts same_pieces (acts_on key l) no_part) (all_more s t (c ∷ []) rows log) ∙ after_one key (s.rows ++ s.log) c b on

is_on-own : (c : Recorded) → is_on c.0.key c ≡ true
is_on-own c = (eq_by_cmp_equiv keys_total).refl c.0.key

differs : (b : Bool) → (b ≡ true → ⊥) → b ≡ false
differs true no_way = absurd (no_way refl)
differs false no_way = refl

is_on-other : (key : Key) (c : Recorded) → key ≢ c.0.key → is_on key c ≡ false
is_on-other key c other = differs (is_on key c) (λ same. other (sym (tells_apart keys_exact c.0.key key same)))

-- a change of this container
pub held_of-own : (s t : Logged) (c : Recorded) → IsOneMore s c t → held_of t c.0.key ≡ changed same_pieces c.0.act (held_of s c.0.key)
held_of-own s t c more = held_of-one s t c.0.key c true (is_on-own c) more.rows more.log

-- a change of another container
pub held_of-other : (s t : Logged) (c : Recorded) (key : Key) → IsOneMore s c t → key ≢ c.0.key → held_of t key ≡ held_of s key
held_of-other s t c key more other = held_of-one s t key c false (is_on-other key c other) more.rows more.log

-- the same changes
held_of-same : (s t : Logged) (key : Key) → t.rows ≡ s.rows → t.log ≡ s.log → held_of t key ≡ held_of s key
held_of-same s t key rows log = ap (λ l. after_acts same_pieces (acts_on key (l ++ t.log)) no_part) rows ∙ ap (λ l. after_acts same_pieces (acts_on key (s.rows ++ l)) no_part) log

-- no changes
pub held_of-empty : (s : Logged) (key : Key) → s.rows ≡ [] → s.log ≡ [] → held_of s key ≡ no_part
held_of-empty s key rows log = ap (λ l. after_acts same_pieces (acts_on key (l ++ s.log)) no_part) rows ∙ ap (λ l. after_acts same_pieces (acts_on key l) no_part) log

-- ---- in bytes

-- what the data reads of the content that was there is as before
meaning_after : (s t : Logged) (key : Key) → KeepsPlaces s.blobs t.blobs → EachContent (AreStored s.blobs) (held_of s key) → part_value (content_at t.blobs) (held_of s key) ≡ meaning s key
meaning_after s t key keeps stored = part_reads s.blobs t.blobs keeps (held_of s key) stored

pub meaning-own : (s t : Logged) (c : Recorded) → IsOneMore s c t → KeepsPlaces s.blobs t.blobs → EachContent (AreStored s.blobs) (held_of s c.0.key)
    → meaning t c.0.key ≡ changed (content_at t.blobs) c.0.act (meaning s c.0.key)
meaning-own s t c more keeps stored =
    ap (part_value (content_at t.blobs)) (held_of-own s t c more)
    ∙ part_value-changed (content_at t.blobs) same_pieces c.0.act (held_of s c.0.key)
    ∙ ap (changed (content_at t.blobs) c.0.act) (meaning_after s t c.0.key keeps stored)

pub meaning-other : (s t : Logged) (c : Recorded) (key : Key) → IsOneMore s c t → key ≢ c.0.key → KeepsPlaces s.blobs t.blobs → EachContent (AreStored s.blobs) (held_of s key)
    → meaning t key ≡ meaning s key
meaning-other s t c key more other keeps stored = ap (part_value (content_at t.blobs)) (held_of-other s t c key more other) ∙ meaning_after s t key keeps stored

-- what acts make of a container, read at the end, is what they make of it with each content read
pub read_last : (f : List Piece → List ℕ) (acts : List Act) (p : Part (List Piece)) → part_value f (after_acts same_pieces acts p) ≡ after_acts f acts (part_value f p)
read_last f [] p = refl
read_last f (a ∷ acts) p = read_last f acts (changed same_pieces a p) ∙ ap (after_acts f acts) (part_value-changed f same_pieces a p)

-- a container that never was has nothing to read
pub no_part_read : (f : List Piece → List ℕ) → part_value f no_part ≡ no_part
no_part_read f = λ i. record { count = 0; standing = None; blobs = map_values-empty names_total names_exact (blob_value f) i }

pub meaning-empty : (s : Logged) (key : Key) → s.rows ≡ [] → s.log ≡ [] → meaning s key ≡ no_part
meaning-empty s key rows log = ap (part_value (content_at s.blobs)) (held_of-empty s key rows log) ∙ no_part_read (content_at s.blobs)

pub meaning-read : (s : Logged) (key : Key) → meaning s key ≡ after_acts (content_at s.blobs) (acts_on key (s.rows ++ s.log)) no_part
meaning-read s key =
    let acts = acts_on key (s.rows ++ s.log) in
    read_last (content_at s.blobs) acts no_part ∙ ap (after_acts (content_at s.blobs) acts) (no_part_read (content_at s.blobs))

-- ---- a doubt

pub held_of-doubt : (s t : Logged) (kept : Bool) (doubt : Option Recorded) (key : Key) → t.rows ≡ s.rows → t.log ≡ s.log ++ held kept doubt → IsWithDoubt s t doubt key
held_of-doubt s t false doubt key rows log = inl (held_of-same s t key rows (log ∙ append-nil s.log))
held_of-doubt s t true None key rows log = inl (held_of-same s t key rows (log ∙ append-nil s.log))
held_of-doubt s t true (Some c) key rows log = by (is_on key c) refl
  where
    by : (b : Bool) → is_on key c ≡ b → IsWithDoubt s t (Some c) key
    by false off = inl (held_of-one s t key c false off rows log)
    by true on = inr (c, (refl, (tells_apart keys_exact c.0.key key on, held_of-one s t key c true on rows log)))

-- ---- what is stored

-- each change that blocks keep brings content that is stored
pub each_stored : (es : List (List Block)) (blocks : List Block) → All (IsStoredRecord es) blocks → All (λ c. IsStoredChange es c.0) (changes_of blocks)
each_stored es [] all = All-nil (λ (c : Recorded). IsStoredChange es c.0)
each_stored es (block ∷ blocks) all =
    let r = All-head (IsStoredRecord es) block blocks all in
    let own : change_in block ≡ Some (r.change, r.epoch) = change_in-block block (record { change = r.change; epoch = r.epoch; fits = r.fits; within = r.within; bytes = r.bytes }) in
    subst (λ o. All (λ (c : Recorded). IsStoredChange es c.0) (cons_option o (changes_of blocks))) (sym own)
    (All-cons (λ (c : Recorded). IsStoredChange es c.0) (r.change, r.epoch) (changes_of blocks) r.stored (each_stored es blocks (All-tail (IsStoredRecord es) block blocks all)))

stored_next : (es : List (List Block)) (key : Key) (c : Recorded) (cs : List Recorded) (p : Part (List Piece)) (b : Bool) → is_on key c ≡ b
    → IsStoredChange es c.0 → EachContent (AreStored es) p
    → ((q : Part (List Piece)) → EachContent (AreStored es) q → EachContent (AreStored es) (after_acts same_pieces (acts_on key cs) q))
    → EachContent (AreStored es) (after_acts same_pieces (acts_on key (c ∷ cs)) p)
stored_next es key c cs p true on new old others = rw on (others (changed same_pieces c.0.act p) (EachContent-changed (AreStored es) same_pieces c.0.act p old new))
stored_next es key c cs p false off new old others = rw off (others p old)

pub after_stored : (es : List (List Block)) (key : Key) (cs : List Recorded) (p : Part (List Piece)) → All (λ c. IsStoredChange es c.0) cs → EachContent (AreStored es) p
    → EachContent (AreStored es) (after_acts same_pieces (acts_on key cs) p)
after_stored es key [] p all old = old
after_stored es key (c ∷ cs) p all old =
    stored_next es key c cs p (is_on key c) refl (All-head (λ (d : Recorded). IsStoredChange es d.0) c cs all) old
    (λ q is. after_stored es key cs q (All-tail (λ (d : Recorded). IsStoredChange es d.0) c cs all) is)

-- each content of a container is stored
pub held_of-stored : (s : ThreeStreams) (key : Key) → AreKept s → EachContent (AreStored (laid s.blobs)) (held_of (logged s) key)
held_of-stored s key kept =
    after_stored (laid s.blobs) key ((logged s).rows ++ (logged s).log) no_part
    (All-append (λ (c : Recorded). IsStoredChange (laid s.blobs) c.0) (logged s).rows (logged s).log
    (each_stored (laid s.blobs) (blocks_of (laid s.rows)) kept.rows) (each_stored (laid s.blobs) (blocks_of (laid s.log)) kept.log))
    (EachContent-no_part (AreStored (laid s.blobs)))

-- ---- a log that is shared

pub held_of-shared : (s t : ThreeStreams) (key : Key) → HaveSameBlocks s t → held_of (logged t) key ≡ held_of (logged s) key
held_of-shared s t key same = held_of-same (logged s) (logged t) key (ap (λ es. changes_of (blocks_of es)) same.rows) (ap (λ es. changes_of (blocks_of es)) same.log)

pub meaning-shared : (s t : ThreeStreams) (key : Key) → HaveSameBlocks s t → meaning (logged t) key ≡ meaning (logged s) key
meaning-shared s t key same =
    ap (part_value (content_at (laid t.blobs))) (held_of-shared s t key same) ∙ ap (λ es. part_value (content_at es) (held_of (logged s) key)) same.blobs
