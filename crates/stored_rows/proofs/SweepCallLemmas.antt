-- A sweep after each call.
use Rattle.std.proofs.Common.{◌≡◌, ◌∙◌, ℕ, Bool, true, false, cond, Option, Some, None, IfSome, Result, Ok, Err, List, [], ◌∷◌, ◌++◌, length, ap, refl, sym, subst}
use Rattle.extent_node.specs.Copies.{Block}
use Rattle.stamp_values.specs.declared.key.Key.{Key}
use Rattle.stamp_types.specs.ActKinds.{is_row}
use Rattle.stamp_types.specs.Changes.{KeyedAct, act_with, content_of}
use Rattle.stamp_types.specs.Contents.{EachActContent}
use Rattle.stamp_types.specs.World.{Part, World, part_at}
use Rattle.stamp_types.specs.declared.act.Act.{Act}
use Rattle.stamp_types.specs.declared.act.Act.TheVariants as acts
use Rattle.stamp_types.specs.declared.piece.Piece.{Piece}
use Rattle.block_blobs.specs.StoredRows.{is_left}
use Rattle.std.specs.FinMap as finite
use Rattle.stream_manager.specs.Places.{GoesOn, blocks_of}
use Rattle.stream_manager.specs.Streams.{Streamed, laid}
use Rattle.stream_manager.specs.declared.faults.Settled.{Settled}
use Rattle.stream_manager.specs.declared.faults.Settled.TheVariants as settled
use Rattle.stream_manager.specs.declared.faults.StoredFault.{StoredFault}
use Rattle.stream_manager.proofs.RunLemmas.{stays_on}
use Rattle.partition_stream.specs.Changes.{Recorded, changes_of}
use Rattle.partition_stream.specs.Meanings.{held_of}
use Rattle.partition_stream.specs.Outcomes.{IsLogSettled}
use Rattle.partition_stream.specs.Positions.{all_changes}
use Rattle.partition_stream.specs.Storing.{AreKept}
use Rattle.partition_stream.specs.Streams.{HaveSameBlocks, Logged, ThreeStreams, logged}
use Rattle.partition_stream.specs.Sweeping.{AreFrom}
use Rattle.partition_stream.specs.declared.faults.TakeFault.{TakeFault}
use Rattle.partition_stream.specs.declared.faults.TakeFault.TheVariants as take
use Rattle.partition_stream.proofs.RewritingLemmas.{act_from}
use Rattle.checkpoint_rows.specs.Writing.{IsWritableBlob}
use Rattle.checkpoint_rows.proofs.WritableLemmas.{held_of-writable}
use Rattle.stored_rows.specs.Faults.{unlogged_by}
use Rattle.stored_rows.specs.Fitting.{Fits}
use Rattle.row_trees.specs.Halfway.{News}
use Rattle.stored_rows.specs.Loaded.{AreLoaded, AreRowsOf}
use Rattle.stored_rows.specs.Logging.{IsKeptFrom, IsLoggedFrom, IsPutAndLogged, IsPutAt, KeepsLog, with_placed}
use Rattle.stored_rows.specs.Ranges.{covers}
use Rattle.stored_rows.specs.Swept.{AreSwept, IsLoggable, MayLog, kept_sweep, may_log}
use Rattle.stored_rows.specs.declared.key_range.KeyRange.{KeyRange}
use Rattle.stored_rows.specs.declared.logging.Unlogged.{Unlogged}
use Rattle.stored_rows.specs.declared.logging.Unlogged.TheVariants as fault
use Rattle.stored_rows.specs.declared.sweep.Sweep.{Sweep}
use Rattle.stored_rows.proofs.AreSweptLemmas.{swept_change, swept_doubt, swept_doubts, swept_sure}
use Rattle.stored_rows.proofs.KeptAsLemmas.{no_content}
use Rattle.stored_rows.proofs.KnownLemmas.{known_may}
use Rattle.stored_rows.proofs.LoadLemmas.{part_of-covered}
use Rattle.stored_rows.proofs.TakeLemmas.{covered_kept, doubt_own, log_keeps, own_kept, same_log_doubt, same_log_keeps, shared_keeps}

-- ---- a change whose content was put since the mark

-- a change may be logged with its content wherever it is
may_with : (news : Option News) (p : Part (List Piece)) (a : Act) (ps : List Piece) → MayLog news p a → MayLog news p (act_with a ps)
may_with (Some news) p (acts.PutBlob a) ps h = h
may_with (Some news) p (acts.PutBlock a) ps h = h
may_with (Some news) p other ps h = h
may_with None p (acts.PutBlob a) ps h = record { count = h.count; standing = h.standing; touched = h.touched }
may_with None p (acts.PutBlock a) ps h = record { count = h.count; standing = h.standing; touched = h.touched }
may_with None p other ps h = h

content_with : (n : ℕ) (a : Act) (ps content : List Piece) → is_row a ≡ false → content_of a ≡ Some content → AreFrom n ps → EachActContent (AreFrom n) (act_with a ps)
content_with n (acts.PutBlob a) ps content plain some from = from
content_with n (acts.PutBlock a) ps content plain some from = from
content_with n (acts.StoredBlob a) ps content plain some from = absurd cc
content_with n (acts.CreateContainer a) ps content plain some from = tt
content_with n (acts.SetContainerMetadata a) ps content plain some from = tt
content_with n (acts.SetAcl a) ps content plain some from = tt
content_with n acts.DeleteContainer ps content plain some from = tt
content_with n (acts.SetMetadata a) ps content plain some from = tt
content_with n (acts.DeleteBlob a) ps content plain some from = tt
content_with n (acts.PutBlockList a) ps content plain some from = tt
content_with n (acts.ContainerRow a) ps content plain some from = tt

-- a change whose content was put is kept with its content there
pub kept_from : (es : List (List Block)) (n : ℕ) (c : KeyedAct) (o pieces : Option (List Piece)) → is_row c.act ≡ false → content_of c.act ≡ o → IsPutAt es o pieces → IfSome pieces (AreFrom n)
    → IsKeptFrom n c (with_placed c pieces)
kept_from es n c None None plain is put from = record { key = refl; from = no_content (AreFrom n) c.act plain is; may = λ news p h. h }
kept_from es n c None (Some ps) plain is put from = absurd put
kept_from es n c (Some content) None plain is put from = absurd put
kept_from es n c (Some content) (Some ps) plain is put from = record {
  key = refl;
  from = content_with n c.act ps content plain is from;
  may = λ news p h. may_with news p c.act ps h;
}

-- a change that was not logged
pub refused_from : (n : ℕ) (c d : KeyedAct) (f : TakeFault) → IsKeptFrom n c d → IsLoggedFrom n c (Err (unlogged_by f d))
refused_from n c d take.Busy h = tt
refused_from n c d take.Doubt h = h
refused_from n c d take.NoMemory h = tt

-- ---- a take

module _ (w : Sweep) (range : KeyRange) (s t : ThreeStreams) (c : Recorded) (swept : AreSwept w range s) (log : GoesOn (laid s.log) (laid t.log)) (blobs : GoesOn (laid s.blobs) (laid t.blobs))
    (covered : covers range c.0.key ≡ true) (fit : Fits (held_of (logged s) c.0.key) c.0.act) (may : MayLog (swept.news c.0.key) (held_of (logged s) c.0.key) c.0.act) where
  loggable : (d : KeyedAct) → IsKeptFrom (length s.blobs.sealed) c.0 d → IsLoggable w.mark swept.news s (d, c.1)
  loggable d kept = record {
    may = subst (λ k. MayLog (swept.news k) (held_of (logged s) k) d.act) (sym kept.key) (kept.may (swept.news c.0.key) (held_of (logged s) c.0.key) may);
    from = act_from w.mark.blobs (length s.blobs.sealed) swept.blobs d.act kept.from;
  }

  logged_by : (r : Result KeyedAct Unlogged) → IsPutAndLogged r s c t → IsLoggedFrom (length s.blobs.sealed) c.0 r → AreSwept w range t
  logged_by (Ok d) h from =
      swept_change w range s t swept log blobs (d, c.1) h.more h.sure (covered_kept s t c d range h covered fit) (own_kept s t c d range h covered fit) (loggable d from)
  logged_by (Err (fault.Doubt d)) h from = swept_doubts w range s t swept log blobs h.log (d, c.1) h.doubt (loggable d from)
  logged_by (Err fault.Busy) h from = swept_sure w range s t swept log blobs h.0 h.1
  logged_by (Err fault.NoMemory) h from = swept_sure w range s t swept log blobs h.0 h.1

left_in : (s : ThreeStreams) (key : Key) → AreKept s → (name : List ℕ) → IfSome (finite.get (held_of (logged s) key).blobs name) (λ b. is_left b ≡ true)
left_in s key kept name = by (finite.get (held_of (logged s) key).blobs name) ((held_of-writable s key kept).blobs name)
  where
    by : (o : Option _) → IfSome o (IsWritableBlob key name) → IfSome o (λ b. is_left b ≡ true)
    by None h = tt
    by (Some b) h = h.left

-- what is so of a sweep that goes on only if a test holds
if_kept : (P : Sweep → Type 0) (w : Sweep) (b : Bool) → (b ≡ true → P w) → IfSome (cond b (Some w) None) P
if_kept P w true holds = holds refl
if_kept P w false holds = tt

-- A sweep that knows that a change may be logged goes on after it
pub logged_swept : (r : Result KeyedAct Unlogged) (s t : ThreeStreams) (c : Recorded) (range : KeyRange) (v : Option Sweep) (o : Option (World (List Piece)))
    → IfSome v (λ w. AreSwept w range s) → IfSome o (AreRowsOf range s) → AreKept s → covers range c.0.key ≡ true → is_row c.0.act ≡ false → Fits (held_of (logged s) c.0.key) c.0.act
    → IsPutAndLogged r s c t → IsLoggedFrom (length s.blobs.sealed) c.0 r → GoesOn (laid s.log) (laid t.log) → GoesOn (laid s.blobs) (laid t.blobs)
    → IfSome (kept_sweep v o c.0) (λ w. AreSwept w range t)
logged_swept r s t c range None o swept rows kept covered plain fit h from log blobs = tt
logged_swept r s t c range (Some w) None swept rows kept covered plain fit h from log blobs = tt
logged_swept r s t c range (Some w) (Some u) swept rows kept covered plain fit h from log blobs =
    if_kept (λ x. AreSwept x range t) w (may_log w.cursor w.touched c.0.key (part_at u c.0.key) c.0.act) (λ knows.
    let same : part_at u c.0.key ≡ held_of (logged s) c.0.key = rows c.0.key ∙ part_of-covered range c.0.key (all_changes s) covered in
    let may : MayLog (swept.news c.0.key) (held_of (logged s) c.0.key) c.0.act =
    known_may w.cursor w.touched swept.news (covers range) s c.0.key c.0.act swept.known covered (left_in s c.0.key kept) plain
    (subst (λ p. may_log w.cursor w.touched c.0.key p c.0.act ≡ true) same knows) in
    logged_by w range s t c swept log blobs covered fit may r h from)

-- ---- a seal, a settle and a repair

-- a sweep goes on after a seal
pub sealed_swept : (s t : ThreeStreams) (range : KeyRange) (v : Option Sweep) → IfSome v (λ w. AreSwept w range s) → KeepsLog s t × ((logged t).doubt ≡ None)
    → GoesOn (laid s.log) (laid t.log) → GoesOn (laid s.blobs) (laid t.blobs) → IfSome v (λ w. AreSwept w range t)
sealed_swept s t range None swept h log blobs = tt
sealed_swept s t range (Some w) swept h log blobs = swept_sure w range s t swept log blobs h.0 h.1

-- a stream that is as it was goes on
pub same_on : (s t : Streamed) → laid t ≡ laid s → GoesOn (laid s) (laid t)
same_on s t same = subst (λ es. GoesOn (laid s) es) (sym same) (stays_on (laid s))

-- and after a settle
pub settled_swept : (r : Result Settled StoredFault) (s t : ThreeStreams) (range : KeyRange) (o : Option (World (List Piece))) (d : Option KeyedAct) (v : Option Sweep)
    → IfSome v (λ w. AreSwept w range s) → AreLoaded s o d range → t.blobs ≡ s.blobs → t.rows ≡ s.rows → GoesOn (laid s.log) (laid t.log) → IsLogSettled r s t → IfSome v (λ w. AreSwept w range t)
settled_swept r s t range o d None swept old blobs rows log h = tt
settled_swept r s t range o d (Some w) swept old blobs rows log h = by r h
  where
    on : GoesOn (laid s.blobs) (laid t.blobs)
    on = same_on s.blobs t.blobs (ap laid blobs)

    by : (q : Result Settled StoredFault) → IsLogSettled q s t → AreSwept w range t
    by (Ok settled.Clean) h = swept_doubt w range s t swept log on (same_log_keeps s t h.1 blobs rows) (same_log_doubt s t h.1)
    by (Ok (settled.Kept p)) h =
        let c : Recorded = h.0 in
        let own = doubt_own s range c old.doubt h.1.0 in
        swept_change w range s t swept log on c (record { rows = ap (λ (x : Streamed). changes_of (blocks_of (laid x))) rows; log = h.1.1.0 }) h.1.1.1 own.0 own.1
        (subst (λ (q : Option Recorded). IfSome q (IsLoggable w.mark swept.news s)) h.1.0 swept.doubt)
    by (Ok settled.Dropped) h = swept_sure w range s t swept log on (log_keeps s t h.1.0 blobs rows) h.1.1
    by (Err e) h = swept_doubt w range s t swept log on (same_log_keeps s t h.1 blobs rows) (same_log_doubt s t h.1)

-- and after a repair
pub repaired_swept : (s t : ThreeStreams) (range : KeyRange) (v : Option Sweep) → IfSome v (λ w. AreSwept w range s) → HaveSameBlocks s t → logged t ≡ logged s → IfSome v (λ w. AreSwept w range t)
repaired_swept s t range None swept blocks same = tt
repaired_swept s t range (Some w) swept blocks same =
    swept_doubt w range s t swept (same_on s.log t.log blocks.log) (same_on s.blobs t.blobs blocks.blobs) (shared_keeps s t blocks) (ap (λ (l : Logged). l.doubt) same)
