-- What calls do, from what was done to the streams and beside them.
use Rattle.std.proofs.Common.{◌≡◌, ◌∙◌, ◌<◌, Bool, List, Option, Some, None, IfSome, IsSome, IsTrue, Result, Ok, Err, IfOk, OnErr, OnOk, is_some, true, ap, refl, sym, subst}
use Rattle.extent_node.specs.Faults.{Calls}
use Rattle.extent_seal.specs.Counting.{Grows, all_faults}
use Rattle.extent_seal.specs.declared.sealed.ReadFault.{ReadFault}
use Rattle.extent_seal.specs.declared.sealed.ReadFault.TheVariants as read
use Rattle.stamp_types.specs.Changes.{KeyedAct}
use Rattle.stamp_types.specs.Pieces.{pieces_len}
use Rattle.stamp_types.specs.World.{World, part_at, part_value}
use Rattle.stamp_types.specs.declared.piece.Piece.{Piece}
use Rattle.block_blobs.specs.declared.found_blocks.FoundBlocks.{FoundBlocks}
use Rattle.row_trees.specs.Fits.{fits}
use Rattle.row_trees.specs.ListedBlocks.{AreFoundFor}
use Rattle.stream_manager.specs.Counting.{FailsSettle}
use Rattle.stream_manager.specs.declared.faults.Settled.{Settled}
use Rattle.stream_manager.specs.declared.faults.Settled.TheVariants as settled
use Rattle.stream_manager.specs.declared.faults.StoredFault.{StoredFault}
use Rattle.partition_stream.specs.Changes.{Recorded}
use Rattle.partition_stream.specs.Counting.{FailsSeals}
use Rattle.partition_stream.specs.Meanings.{held_of}
use Rattle.partition_stream.specs.Outcomes.{IsLogSettled}
use Rattle.partition_stream.specs.Positions.{all_changes}
use Rattle.partition_stream.specs.Storing.{AreKept}
use Rattle.partition_stream.specs.Streams.{AreSealed, ThreeStreams, logged}
use Rattle.partition_stream.specs.declared.faults.TakeFault.TheVariants as take
use Rattle.stored_rows.specs.Counting.{FailsLogged, FailsStored, FailsTake}
use Rattle.stored_rows.specs.Fitting.{Fits}
use Rattle.stored_rows.specs.Loaded.{AreLoaded, AreRowsOf}
use Rattle.stored_rows.specs.Logging.{IsPutAndLogged, KeepsFound, KeepsLog}
use Rattle.stored_rows.specs.Noting.{IfKept, IsKeptBeside, IsLoadedBeside, IsSettledBeside, ended_by, loaded_by, sealed_by, taken_by}
use Rattle.stored_rows.specs.Ranges.{covers}
use Rattle.stored_rows.specs.States.{IsTaken, MeansTheSame, SettlesRows, Stored, own_doubt}
use Rattle.stored_rows.specs.declared.key_range.KeyRange.{KeyRange}
use Rattle.stored_rows.specs.declared.faults.Ended.{Ended}
use Rattle.stored_rows.specs.declared.sealed.AllSealed.{AllSealed}
use Rattle.stored_rows.specs.declared.logging.Unlogged.{Unlogged}
use Rattle.stored_rows.specs.declared.logging.Unlogged.TheVariants as fault
use Rattle.stored_rows.proofs.CountLemmas.{load_fails, seal_fails, seal_grows, settle_fails, settle_grows}
use Rattle.stored_rows.proofs.LoadLemmas.{part_of-covered}
use Rattle.stored_rows.proofs.TakeLemmas.{clean_loaded, doubt_loaded, doubt_rows, doubt_taken, dropped_loaded, follow_fits, kept_changed, kept_loaded, loaded_same, log_keeps, means_same, no_doubt, not_loaded, same_log_doubt, same_log_keeps, still_none, sure_loaded, sure_same, taken_changed, taken_loaded}

-- a change that was logged fits the rows that are loaded
pub logged_fits : (r : Result KeyedAct Unlogged) (s t : ThreeStreams) (c : Recorded) (range : KeyRange) → covers range c.0.key ≡ true → Fits (held_of (logged s) c.0.key) c.0.act
    → IsPutAndLogged r s c t → (v : Option (World (List Piece))) → IfSome v (AreRowsOf range s) → IfOk r (λ d. IfSome v (λ w. IsTrue (fits (part_value pieces_len (part_at w d.key)) d.act)))
logged_fits (Ok d) s t c range covered own h v rows = follow_fits s t c d range h covered own v rows
logged_fits (Err e) s t c range covered own h v rows = tt

-- the blocks that were found for it in the container are found in the rows that are loaded
pub logged_found : (r : Result KeyedAct Unlogged) (s t : ThreeStreams) (c : Recorded) (range : KeyRange) (found : Option FoundBlocks) → covers range c.0.key ≡ true
    → IfSome found (λ blocks. AreFoundFor (held_of (logged s) c.0.key) c.0.act blocks) → IsPutAndLogged r s c t → IfOk r (λ d. KeepsFound c.0 d)
    → (v : Option (World (List Piece))) → IfSome v (AreRowsOf range s) → IfOk r (λ d. IfSome v (λ w. IfSome found (λ blocks. AreFoundFor (part_at w d.key) d.act blocks)))
logged_found (Ok d) s t c range found covered own h keeps None rows = tt
logged_found (Ok d) s t c range None covered own h keeps (Some w) rows = tt
logged_found (Ok d) s t c range (Some blocks) covered own h keeps (Some w) rows =
    let own_rows : part_at w d.key ≡ held_of (logged s) c.0.key = ap (part_at w) h.same.key ∙ rows c.0.key ∙ part_of-covered range c.0.key (all_changes s) covered in
    keeps (part_at w d.key) blocks (subst (λ p. AreFoundFor p c.0.act blocks) (sym own_rows) own)
logged_found (Err e) s t c range found covered own h keeps v rows = tt

-- what is true of all stored rows is true of them after a take
pub noted_loaded : (r : Result KeyedAct Unlogged) (s t : ThreeStreams) (c : Recorded) (range : KeyRange) → covers range c.0.key ≡ true → Fits (held_of (logged s) c.0.key) c.0.act
    → IsPutAndLogged r s c t → (v w : Option (World (List Piece))) (d e : Option KeyedAct) → (logged s).doubt ≡ None → AreLoaded s v d range → IsKeptBeside r v w d e → AreLoaded t w e range
noted_loaded (Ok k) s t c range covered own h v w d e none old f =
    subst (λ o. AreLoaded t w o range) (sym f.1) (taken_loaded s t c k range h covered own v w d none old f.0)
noted_loaded (Err (fault.Doubt k)) s t c range covered own h v w d e none old f =
    subst (λ o. AreLoaded t w o range) (sym f.1) (subst (λ o. AreLoaded t o (Some k) range) (sym f.0) (doubt_loaded s t c range v d old k covered own h))
noted_loaded (Err fault.Busy) s t c range covered own h v w d e none old f =
    subst (λ o. AreLoaded t w o range) (sym f.1) (subst (λ o. AreLoaded t o d range) (sym f.0) (sure_loaded s t c range v d old none h))
noted_loaded (Err fault.NoMemory) s t c range covered own h v w d e none old f =
    subst (λ o. AreLoaded t w o range) (sym f.1) (subst (λ o. AreLoaded t o d range) (sym f.0) (sure_loaded s t c range v d old none h))

-- what a take does
pub noted_taken : (r : Result KeyedAct Unlogged) (s t : ThreeStreams) (c : Recorded) (range : KeyRange) → AreKept s → IsPutAndLogged r s c t → (v w : Option (World (List Piece))) (d e : Option KeyedAct)
    → IsKeptBeside r v w d e → IsTaken (taken_by r) (record { streams = s; range = range; is_loaded = is_some v }) c (record { streams = t; range = range; is_loaded = is_some w })
noted_taken (Ok k) s t c range whole h v w d e f = taken_changed s t c k range (is_some v) (is_some w) (not_loaded v w k f.0) whole h
noted_taken (Err (fault.Doubt k)) s t c range whole h v w d e f =
    subst (λ (o : Option (World (List Piece))). IsTaken (Err take.Doubt) (record { streams = s; range = range; is_loaded = is_some v }) c (record { streams = t; range = range; is_loaded = is_some o }))
    (sym f.0) (doubt_taken s t c k range (is_some v) whole h)
noted_taken (Err fault.Busy) s t c range whole h v w d e f =
    subst (λ (o : Option (World (List Piece))). IsTaken (Err take.Busy) (record { streams = s; range = range; is_loaded = is_some v }) c (record { streams = t; range = range; is_loaded = is_some o }))
    (sym f.0) (sure_same s t range (is_some v) whole h)
noted_taken (Err fault.NoMemory) s t c range whole h v w d e f =
    subst (λ (o : Option (World (List Piece))). IsTaken (Err take.NoMemory) (record { streams = s; range = range; is_loaded = is_some v }) c (record { streams = t; range = range; is_loaded = is_some o }))
    (sym f.0) (sure_same s t range (is_some v) whole h)

-- a take fails as its log did
pub noted_fails : (r : Result KeyedAct Unlogged) (old new : Calls) → FailsLogged r old new → FailsTake (taken_by r) old new
noted_fails (Ok k) old new h = h
noted_fails (Err (fault.Doubt k)) old new h = h
noted_fails (Err fault.Busy) old new h = h
noted_fails (Err fault.NoMemory) old new h = h

-- ---- a settle, a seal and a load

-- what is seen of stored rows
abbrev pub stored_at : ThreeStreams → KeyRange → Bool → Stored
stored_at s range b = record { streams = s; range = range; is_loaded = b }

-- a change that is kept fits the rows that are loaded
pub settled_fits : (r : Result Settled StoredFault) (s t : ThreeStreams) (range : KeyRange) (v : Option (World (List Piece))) (d : Option KeyedAct) → AreLoaded s v d range
    → t.blobs ≡ s.blobs → t.rows ≡ s.rows → IsLogSettled r s t → IfKept r (IfSome d (λ c. IfSome v (λ w. IsTrue (fits (part_value pieces_len (part_at w c.key)) c.act))))
settled_fits (Ok settled.Clean) s t range v d old blobs rows h = tt
settled_fits (Ok (settled.Kept p)) s t range v d old blobs rows h = doubt_rows s t range v d old blobs rows h.0 h.1.0
settled_fits (Ok settled.Dropped) s t range v d old blobs rows h = tt
settled_fits (Err f) s t range v d old blobs rows h = tt

-- what is true of all stored rows is true of them after a settle
pub settled_loaded : (r : Result Settled StoredFault) (s t : ThreeStreams) (range : KeyRange) (v w : Option (World (List Piece))) (d e : Option KeyedAct) → AreLoaded s v d range
    → t.blobs ≡ s.blobs → t.rows ≡ s.rows → IsLogSettled r s t → IsSettledBeside r v w d e → AreLoaded t w e range
settled_loaded (Ok settled.Clean) s t range v w d e old blobs rows h f =
    subst (λ o. AreLoaded t w o range) (sym f.1) (subst (λ o. AreLoaded t o d range) (sym f.0) (clean_loaded s t range v d old blobs rows h.1))
settled_loaded (Ok (settled.Kept p)) s t range v w d e old blobs rows h f =
    subst (λ o. AreLoaded t w o range) (sym f.1) (kept_loaded s t range v d old blobs rows h.0 w h.1.0 h.1.1.0 h.1.1.1 f.0)
settled_loaded (Ok settled.Dropped) s t range v w d e old blobs rows h f =
    subst (λ o. AreLoaded t w o range) (sym f.1) (subst (λ o. AreLoaded t o None range) (sym f.0) (dropped_loaded s t range v d old blobs rows h.1.0 h.1.1))
settled_loaded (Err x) s t range v w d e old blobs rows h f =
    subst (λ o. AreLoaded t w o range) (sym f.1) (subst (λ o. AreLoaded t o d range) (sym f.0) (clean_loaded s t range v d old blobs rows h.1))

-- rows that are loaded as before
still_loaded : (s t : ThreeStreams) (range : KeyRange) (v w : Option (World (List Piece))) → AreKept s → KeepsLog s t → w ≡ v
    → MeansTheSame (record { streams = s; range = range; is_loaded = is_some v }) (record { streams = t; range = range; is_loaded = is_some w })
still_loaded s t range v w whole h same =
    subst (λ (o : Option (World (List Piece))). MeansTheSame (record { streams = s; range = range; is_loaded = is_some v }) (record { streams = t; range = range; is_loaded = is_some o })) (sym same)
    (means_same s t h range (is_some v) whole)

-- what a settle does
pub settled_rows : (r : Result Settled StoredFault) (s t : ThreeStreams) (range : KeyRange) (v w : Option (World (List Piece))) (d e : Option KeyedAct) → AreLoaded s v d range → AreKept s
    → t.blobs ≡ s.blobs → t.rows ≡ s.rows → IsLogSettled r s t → IsSettledBeside r v w d e → own_doubt (logged s).doubt ≡ (logged s).doubt
    → SettlesRows (ended_by r) (record { streams = s; range = range; is_loaded = is_some v }) (record { streams = t; range = range; is_loaded = is_some w })
settled_rows (Ok settled.Clean) s t range v w d e old whole blobs rows h f own =
    (still_loaded s t range v w whole (same_log_keeps s t h.1 blobs rows) f.0, (own ∙ h.0, same_log_doubt s t h.1))
settled_rows (Ok (settled.Kept p)) s t range v w d e old whole blobs rows h f own =
    (kept_changed s t range v d old blobs rows h.0 w whole h.1.0 h.1.1.0 h.1.1.1 f.0, (subst (λ q. IsSome q) (sym (own ∙ h.1.0)) refl, h.1.1.1))
settled_rows (Ok settled.Dropped) s t range v w d e old whole blobs rows h f own =
    (still_loaded s t range v w whole (log_keeps s t h.1.0 blobs rows) f.0, (subst (λ q. IsSome q) (sym own) h.0, h.1.1))
settled_rows (Err x) s t range v w d e old whole blobs rows h f own =
    (still_loaded s t range v w whole (same_log_keeps s t h.1 blobs rows) f.0, (subst (λ q. IsSome q) (sym own) h.0, same_log_doubt s t h.1))

-- a settle fails as that of its log did
pub settled_fails : (r : Result Settled StoredFault) (a b : Calls) → FailsSettle r a b → FailsStored (ended_by r) a b
settled_fails (Ok settled.Clean) a b h = settle_grows settled.Clean a b h
settled_fails (Ok (settled.Kept p)) a b h = settle_grows (settled.Kept p) a b h
settled_fails (Ok settled.Dropped) a b h = settle_grows settled.Dropped a b h
settled_fails (Err f) a b h = settle_fails Ended f a b h

-- a seal fails as that of its streams did
pub sealed_fails : (r : Result (Unit {0}) StoredFault) (a b : Calls) → FailsSeals r a b → FailsStored (sealed_by r) a b
sealed_fails (Ok u) a b h = seal_grows u a b h
sealed_fails (Err f) a b h = seal_fails AllSealed f a b h

-- a seal whose answer is Ok
pub sealed_whole : (r : Result (Unit {0}) StoredFault) (t : ThreeStreams) → OnOk r (AreSealed t) → OnOk (sealed_by r) (AreSealed t)
sealed_whole (Ok u) t h = h
sealed_whole (Err f) t h = tt

-- what is true of all stored rows is true of them after a seal
pub sealed_loaded : (s t : ThreeStreams) (range : KeyRange) (v : Option (World (List Piece))) (d : Option KeyedAct) → AreLoaded s v d range → (logged s).doubt ≡ None
    → KeepsLog s t × ((logged t).doubt ≡ None) → AreLoaded t v d range
sealed_loaded s t range v d old none h = loaded_same s t h.0 range v d d old (no_doubt range t h.1) (still_none s t d old.tried none h.1)

-- a load fails as the walk did
pub made_fails : (r : Result (World (List Piece)) ReadFault) (a b : Calls) → (r ≡ Err read.Unreachable → all_faults a < all_faults b) → Grows a b → FailsStored (loaded_by r) a b
made_fails (Ok w) a b h g = g
made_fails (Err f) a b h g = load_fails (World (List Piece)) (Unit {0}) f a b h g

-- what is true of all stored rows is true of them after a load
pub made_loaded : (r : Result (World (List Piece)) ReadFault) (s : ThreeStreams) (range : KeyRange) (v w : Option (World (List Piece))) (d : Option KeyedAct) → AreLoaded s v d range
    → IfOk r (λ u. AreRowsOf range s u) → IsLoadedBeside r v w → AreLoaded s w d range
made_loaded (Ok u) s range v w d old rows f =
    subst (λ o. AreLoaded s o d range) (sym f) (record { fit = old.fit; doubt = old.doubt; tried = old.tried; rows = rows })
made_loaded (Err x) s range v w d old rows f = subst (λ o. AreLoaded s o d range) (sym f) old

-- rows that were made are loaded
pub made_rows : (r : Result (World (List Piece)) ReadFault) (s : ThreeStreams) (range : KeyRange) (v w : Option (World (List Piece))) → IsLoadedBeside r v w
    → OnOk (loaded_by r) (stored_at s range (is_some w) ≡ stored_at s range true)
made_rows (Ok u) s range v w f = ap (λ (o : Option (World (List Piece))). stored_at s range (is_some o)) f
made_rows (Err x) s range v w f = tt

-- rows that were not made are loaded as before
pub made_no_rows : (r : Result (World (List Piece)) ReadFault) (s : ThreeStreams) (range : KeyRange) (v w : Option (World (List Piece))) → IsLoadedBeside r v w
    → OnErr (loaded_by r) (stored_at s range (is_some w) ≡ stored_at s range (is_some v))
made_no_rows (Ok u) s range v w f = tt
made_no_rows (Err x) s range v w f = ap (λ (o : Option (World (List Piece))). stored_at s range (is_some o)) f
