-- Streams whose front is given up.
use Rattle.std.proofs.Common.{◌≡◌, ◌≤◌, ◌<◌, ◌+◌, ◌∙◌, ℕ, zero, suc, Bool, true, false, Option, Some, None, IfSome, List, [], ◌∷◌, ◌++◌, All, cond, drop, filter, take, length, map, nat_lt, ap, sym, refl, subst, arith, append_assoc, take_all}
use Rattle.std.specs.List.{cons_option, slice_get}
use Rattle.std.specs.Option.{option_and_then}
use Rattle.std.specs.Prelude.{unwrap_or}
use Rattle.std.proofs.lemmas.List.{append_cancel_left}
use Rattle.std.proofs.lemmas.List.Elements.{All-cons, All-head, All-nil, All-same, All-tail}
use Rattle.extent_node.specs.Copies.{Block}
use Rattle.extent_seal.specs.Extents.{Closed}
use Rattle.stamp_values.specs.declared.place.Place.{Place}
use Rattle.stamp_values.specs.declared.key.Key.{Key}
use Rattle.stamp_types.specs.Contents.{EachActContent, EachCommittedContent, EachContent}
use Rattle.stamp_types.specs.World.{Part, changed, no_part, part_value, same_pieces}
use Rattle.stamp_types.specs.declared.act.Act.{Act}
use Rattle.stamp_types.specs.declared.act.Act.TheVariants as act
use Rattle.stamp_types.specs.declared.committed.Committed.{Committed}
use Rattle.stamp_types.specs.declared.piece.Piece.{Piece}
use Rattle.stamp_types.specs.declared.piece.Piece.TheVariants.{Bytes, At}
use Rattle.stamp_types.proofs.ContentReadings.{part_value-alike}
use Rattle.stamp_types.proofs.EachContents.{EachContent-changed, EachContent-no_part, EachContent-then}
use Rattle.stream_manager.specs.Extents.{closed_blocks}
use Rattle.stream_manager.specs.GivenUp.{GivesUpFront, emptied, has_blocks, with_blocks}
use Rattle.stream_manager.specs.Places.{Follows, GoesOn, block_at, blocks_of}
use Rattle.stream_manager.specs.Streams.{Streamed, laid}
use Rattle.stream_manager.proofs.GivenUpLemmas.{at_emptied, blocks_emptied}
use Rattle.stream_manager.proofs.ReadLemmas.{count_of_extents}
use Rattle.stream_manager.proofs.RunLemmas.{follows_dropped}
use Rattle.partition_stream.specs.Changes.{Recorded, change_in, changes_of}
use Rattle.partition_stream.specs.Contents.{AreStored, IsStored, bytes_at, content_at}
use Rattle.partition_stream.specs.Meanings.{acts_on, after_acts, held_of, is_on, meaning}
use Rattle.partition_stream.specs.Storing.{AreKept, IsStoredRecord}
use Rattle.partition_stream.specs.Streams.{AreSealed, ThreeStreams, logged}
use Rattle.partition_stream.specs.Sweeping.{AreFrom, GivesUpBefore, IsFrom, LieFrom, changes_from, handles_before, made_from, mark_of}
use Rattle.partition_stream.specs.declared.mark.Mark.{Mark}
use Rattle.partition_stream.proofs.ChangeLemmas.{change_in-block, changes_of-more}
use Rattle.partition_stream.proofs.StreamLemmas.{no_blocks}

-- ---- content since the mark

piece_stays : (n : ℕ) (es : List (List Block)) (p : Piece) → IsFrom n p → IsStored es p → IsStored (emptied n es) p
piece_stays n es (Bytes bs) from stored = absurd from
piece_stays n es (At place len) from stored = (stored.0, (at_emptied n es place (omega (arith, from)) ∙ stored.1.0, stored.1.1))

content_stays : (n : ℕ) (es : List (List Block)) (ps : List Piece) → AreFrom n ps → AreStored es ps → AreStored (emptied n es) ps
content_stays n es [] from stored = All-nil (IsStored (emptied n es))
content_stays n es (p ∷ ps) from stored =
    All-cons (IsStored (emptied n es)) p ps (piece_stays n es p (All-head (IsFrom n) p ps from) (All-head (IsStored es) p ps stored))
    (content_stays n es ps (All-tail (IsFrom n) p ps from) (All-tail (IsStored es) p ps stored))

piece_reads : (n : ℕ) (es : List (List Block)) (p : Piece) → IsFrom n p → bytes_at (emptied n es) p ≡ bytes_at es p
piece_reads n es (Bytes bs) from = refl
piece_reads n es (At place len) from = ap (λ o. unwrap_or o []) (at_emptied n es place (omega (arith, from)))

content_reads : (n : ℕ) (es : List (List Block)) (ps : List Piece) → AreFrom n ps → content_at (emptied n es) ps ≡ content_at es ps
content_reads n es [] from = refl
content_reads n es (p ∷ ps) from =
    λ i. piece_reads n es p (All-head (IsFrom n) p ps from) i ++ content_reads n es ps (All-tail (IsFrom n) p ps from) i

-- a piece that was put is in an extent from those on that were sealed before
pub later_from : (n m : ℕ) (ps : List Piece) → n ≤ m → AreFrom m ps → AreFrom n ps
later_from n m [] l from = All-nil (IsFrom n)
later_from n m (p ∷ ps) l from = All-cons (IsFrom n) p ps (one p (All-head (IsFrom m) p ps from)) (later_from n m ps l (All-tail (IsFrom m) p ps from))
  where
    one : (q : Piece) → IsFrom m q → IsFrom n q
    one (Bytes bs) from = absurd from
    one (At place len) from = omega (arith, l, from)

-- ---- what the changes since the mark make has its content there

from_next : (n : ℕ) (key : Key) (c : Recorded) (cs : List Recorded) (p : Part (List Piece)) (b : Bool) → is_on key c ≡ b
    → EachActContent (AreFrom n) c.0.act → EachContent (AreFrom n) p
    → ((q : Part (List Piece)) → EachContent (AreFrom n) q → EachContent (AreFrom n) (after_acts same_pieces (acts_on key cs) q))
    → EachContent (AreFrom n) (after_acts same_pieces (acts_on key (c ∷ cs)) p)
from_next n key c cs p true on new old others = rw on (others (changed same_pieces c.0.act p) (EachContent-changed (AreFrom n) same_pieces c.0.act p old new))
from_next n key c cs p false off new old others = rw off (others p old)

after_from : (n : ℕ) (key : Key) (cs : List Recorded) (p : Part (List Piece)) → All (λ c. EachActContent (AreFrom n) c.0.act) cs → EachContent (AreFrom n) p
    → EachContent (AreFrom n) (after_acts same_pieces (acts_on key cs) p)
after_from n key [] p all old = old
after_from n key (c ∷ cs) p all old =
    from_next n key c cs p (is_on key c) refl (All-head (λ (d : Recorded). EachActContent (AreFrom n) d.0.act) c cs all) old
    (λ q is. after_from n key cs q (All-tail (λ (d : Recorded). EachActContent (AreFrom n) d.0.act) c cs all) is)

pub made_lies_from : (m : Mark) (s : ThreeStreams) (key : Key) → LieFrom m s → EachContent (AreFrom m.blobs) (made_from m s key)
made_lies_from m s key from = after_from m.blobs key (changes_from m s) no_part from (EachContent-no_part (AreFrom m.blobs))

-- ---- what is given up

module _ (m : Mark) (s t : ThreeStreams) (given : GivesUpBefore m s t) where
  -- the streams mean what the changes since the mark make of nothing
  pub held_given : (key : Key) → held_of (logged t) key ≡ made_from m s key
  held_given key =
      ap (λ (bs : List Block). after_acts same_pieces (acts_on key (changes_of bs ++ (logged t).log)) no_part) given.rows
      ∙ ap (λ (bs : List Block). after_acts same_pieces (acts_on key (changes_of bs)) no_part)
      (ap blocks_of given.log.blocks ∙ blocks_emptied m.log (laid s.log))

  -- Each container that these changes make as it was is as it was, in bytes
  pub means_given : (key : Key) → LieFrom m s → made_from m s key ≡ held_of (logged s) key → meaning (logged t) key ≡ meaning (logged s) key
  means_given key from whole =
      (λ i. part_value (content_at (given.blobs.blocks i)) (held_given key i))
      ∙ part_value-alike (content_at (emptied m.blobs (laid s.blobs))) (content_at (laid s.blobs)) (made_from m s key)
      (EachContent-then (AreFrom m.blobs) (λ ps. content_at (emptied m.blobs (laid s.blobs)) ps ≡ content_at (laid s.blobs) ps) (content_reads m.blobs (laid s.blobs)) (made_from m s key) (made_lies_from m s key from))
      ∙ ap (part_value (content_at (laid s.blobs))) whole

-- ---- what is kept stays kept

all_both : {X : Type 0} (P Q R : X → Type 0) → ((x : X) → P x → Q x → R x) → (xs : List X) → All P xs → All Q xs → All R xs
all_both P Q R both [] p q = All-nil R
all_both P Q R both (x ∷ xs) p q =
    All-cons R x xs (both x (All-head P x xs p) (All-head Q x xs q)) (all_both P Q R both xs (All-tail P x xs p) (All-tail Q x xs q))

module _ (n : ℕ) (es : List (List Block)) where
  committed_both : (o : Option (Committed (List Piece))) → IfSome o (EachCommittedContent (AreFrom n)) → IfSome o (EachCommittedContent (AreStored es)) → IfSome o (EachCommittedContent (AreStored (emptied n es)))
  committed_both None from stored = tt
  committed_both (Some c) from stored =
      all_both (λ b. AreFrom n b.content) (λ b. AreStored es b.content) (λ b. AreStored (emptied n es) b.content) (λ b f k. content_stays n es b.content f k) c.blocks from stored

  act_both : (a : Act) → EachActContent (AreFrom n) a → EachActContent (AreStored es) a → EachActContent (AreStored (emptied n es)) a
  act_both (act.PutBlob a) from stored = content_stays n es a.content from stored
  act_both (act.PutBlock a) from stored = content_stays n es a.content from stored
  act_both (act.StoredBlob a) from stored = (
    committed_both a.committed from.0 stored.0,
    all_both (λ u. AreFrom n u.content) (λ u. AreStored es u.content) (λ u. AreStored (emptied n es) u.content) (λ u f k. content_stays n es u.content f k) a.uncommitted from.1 stored.1,
  )
  act_both (act.CreateContainer a) from stored = tt
  act_both (act.SetContainerMetadata a) from stored = tt
  act_both (act.SetAcl a) from stored = tt
  act_both act.DeleteContainer from stored = tt
  act_both (act.SetMetadata a) from stored = tt
  act_both (act.DeleteBlob a) from stored = tt
  act_both (act.PutBlockList a) from stored = tt
  act_both (act.ContainerRow a) from stored = tt

  records_from : (blocks : List Block) → All (IsStoredRecord es) blocks → All (λ c. EachActContent (AreFrom n) c.0.act) (changes_of blocks) → All (IsStoredRecord (emptied n es)) blocks
  records_from [] stored from = All-nil (IsStoredRecord (emptied n es))
  records_from (block ∷ blocks) stored from =
      let r = All-head (IsStoredRecord es) block blocks stored in
      let own : change_in block ≡ Some (r.change, r.epoch) = change_in-block block (record { change = r.change; epoch = r.epoch; fits = r.fits; within = r.within; bytes = r.bytes }) in
      let each : All (λ (c : Recorded). EachActContent (AreFrom n) c.0.act) ((r.change, r.epoch) ∷ changes_of blocks) =
      subst (λ o. All (λ (c : Recorded). EachActContent (AreFrom n) c.0.act) (cons_option o (changes_of blocks))) own from in
      All-cons (IsStoredRecord (emptied n es)) block blocks
      (record {
        change = r.change;
        epoch = r.epoch;
        fits = r.fits;
        within = r.within;
        bytes = r.bytes;
        stored = act_both r.change.act (All-head (λ (c : Recorded). EachActContent (AreFrom n) c.0.act) (r.change, r.epoch) (changes_of blocks) each) r.stored;
      })
      (records_from blocks (All-tail (IsStoredRecord es) block blocks stored) (All-tail (λ (c : Recorded). EachActContent (AreFrom n) c.0.act) (r.change, r.epoch) (changes_of blocks) each))

-- what is so of each block is so of each block after the front
behind : (P : Block → Type 0) (n : ℕ) (es : List (List Block)) → All P (blocks_of es) → All P (blocks_of (drop n es))
behind P zero es all = all
behind P (suc n) [] all = all
behind P (suc n) (x ∷ es) all = behind P n es (second P x (blocks_of es) all)
  where
    second : (Q : Block → Type 0) (xs ys : List Block) → All Q (xs ++ ys) → All Q ys
    second Q [] ys h = h
    second Q (x ∷ xs) ys h = second Q xs ys (All-tail Q x (xs ++ ys) h)

-- each record that is left is stored in the data that is left
pub kept_given : (m : Mark) (s t : ThreeStreams) → AreKept s → LieFrom m s → GivesUpBefore m s t → AreKept t
kept_given m s t kept from given =
    let es : List (List Block) = laid s.blobs in
    let log : All (IsStoredRecord (emptied m.blobs es)) (blocks_of (drop m.log (laid s.log))) =
    records_from m.blobs es (blocks_of (drop m.log (laid s.log))) (behind (IsStoredRecord es) m.log (laid s.log) kept.log) from in
    record {
      rows = All-same (IsStoredRecord (laid t.blobs)) (blocks_of (laid t.rows)) [] given.rows (All-nil (IsStoredRecord (laid t.blobs)));
      whole = given.whole;
      log = subst (λ fs. All (IsStoredRecord fs) (blocks_of (laid t.log))) (sym given.blobs.blocks)
          (All-same (IsStoredRecord (emptied m.blobs es)) (blocks_of (laid t.log)) (blocks_of (drop m.log (laid s.log))) (ap blocks_of given.log.blocks ∙ blocks_emptied m.log (laid s.log)) log);
      doubt = subst (λ o. IfSome o (IsStoredRecord (laid t.blobs))) (sym (ap (λ o. o.tried) given.log.last ∙ given.sure)) tt;
    }

-- no block is in doubt if no change is
pub sure_of : (s : ThreeStreams) → AreKept s → (logged s).doubt ≡ None → s.log.last.tried ≡ None
sure_of s kept none = by s.log.last.tried kept.doubt none
  where
    by : (o : Option Block) → IfSome o (IsStoredRecord (laid s.blobs)) → option_and_then change_in o ≡ None → o ≡ None
    by None is e = refl
    by (Some block) r e =
        let own : change_in block ≡ Some (r.change, r.epoch) = change_in-block block (record { change = r.change; epoch = r.epoch; fits = r.fits; within = r.within; bytes = r.bytes }) in
        absurd (cc)

-- what the calls of a give-up leave
pub given_all : (m : Mark) (s : ThreeStreams) (log blobs rows : Streamed) → AreKept s → (logged s).doubt ≡ None → GivesUpFront m.log s.log log → GivesUpFront m.blobs s.blobs blobs
    → rows.sealed ≡ [] → rows.last.blocks ≡ [] → rows.last.tried ≡ None → rows.limit ≡ s.rows.limit → GivesUpBefore m s (record { log = log; blobs = blobs; rows = rows })
given_all m s log blobs rows kept sure l b none empty whole limit = record {
  log = l;
  blobs = b;
  rows = ap blocks_of (no_blocks rows none empty);
  whole = whole;
  sure = sure_of s kept sure;
  limits = record { log = l.limit; blobs = b.limit; rows = limit };
}

-- ---- a stream that goes on after the mark

-- changes that are added to the log are added to those since the mark
pub more_since : (m : Mark) (s t : ThreeStreams) (cs : List Recorded) → m.log ≤ length s.log.sealed → GoesOn (laid s.log) (laid t.log)
    → (logged t).log ≡ (logged s).log ++ cs → changes_from m t ≡ changes_from m s ++ cs
more_since m s t cs there on log =
    let count = count_of_extents s.log.sealed s.log.last in
    let added : List Block = on.0 in
    let all : (logged s).log ++ changes_of added ≡ (logged s).log ++ cs = sym (ap changes_of on.1.order ∙ changes_of-more (blocks_of (laid s.log)) added) ∙ log in
    let own : changes_of added ≡ cs = append_cancel_left (logged s).log (changes_of added) cs all in
    ap changes_of (follows_dropped m.log (laid s.log) (laid t.log) added (omega (arith, count, there)) on.1).order
    ∙ changes_of-more (blocks_of (drop m.log (laid s.log))) added
    ∙ ap (λ l. changes_from m s ++ l) own

none_after : (sealed : List Closed) (last : List Block) → last ≡ [] → blocks_of (drop (length sealed) (map closed_blocks sealed ++ last ∷ [])) ≡ []
none_after [] last none = ap (λ (bs : List Block). blocks_of (bs ∷ [])) none
none_after (x ∷ sealed) last none = none_after sealed last none

-- no change was logged since a mark that is taken now, if the last extent has no block
pub none_since : (s : ThreeStreams) → s.log.last.blocks ≡ [] → changes_from (mark_of s) s ≡ []
none_since s none = ap changes_of (none_after s.log.sealed s.log.last.blocks none)

pub none_lies_since : (m : Mark) (s : ThreeStreams) → m ≡ mark_of s → AreSealed s → LieFrom m s
none_lies_since m s is sealed =
    subst (λ (n : Mark). LieFrom n s) (sym is)
    (All-same (λ (c : Recorded). EachActContent (AreFrom (mark_of s).blobs) c.0.act) (changes_from (mark_of s) s) [] (none_since s sealed.log.blocks)
    (All-nil (λ (c : Recorded). EachActContent (AreFrom (mark_of s).blobs) c.0.act)))

-- streams that are sealed have no change in doubt
pub sealed_is_sure : (s : ThreeStreams) → AreSealed s → (logged s).doubt ≡ None
sealed_is_sure s sealed = ap (option_and_then change_in) sealed.log.tried

-- ---- room for handles

-- whether there is a block
abbrev some_block : List Block → Bool
some_block blocks = nat_lt 0 (length blocks)

-- how many extents have a block, by their blocks alone
filled_by_blocks : (sealed : List Closed) (last : List Block) (n : ℕ) → n ≤ length sealed
    → length (with_blocks (take n sealed)) ≡ length (filter some_block (take n (map closed_blocks sealed ++ last ∷ [])))
filled_by_blocks sealed last zero l = refl
filled_by_blocks [] last (suc n) l = absurd (omega (arith, l))
filled_by_blocks (x ∷ sealed) last (suc n) l =
    by (has_blocks x) (with_blocks (take n sealed)) (filter some_block (take n (map closed_blocks sealed ++ last ∷ []))) (filled_by_blocks sealed last n (omega (arith, l)))
  where
    by : (b : Bool) (cs : List Closed) (fs : List (List Block)) → length cs ≡ length fs → length (cond b (x ∷ cs) cs) ≡ length (cond b (x.blocks ∷ fs) fs)
    by true cs fs e = ap suc e
    by false cs fs e = e

first_same : (n : ℕ) (es fs : List (List Block)) → n ≤ length es → n ≤ length fs → ((e : ℕ) → e < n → slice_get fs e ≡ slice_get es e) → take n fs ≡ take n es
first_same zero es fs l k at = refl
first_same (suc n) [] fs l k at = absurd (omega (arith, l))
first_same (suc n) (x ∷ es) [] l k at = absurd (omega (arith, k))
first_same (suc n) (x ∷ es) (y ∷ fs) l k at =
    let own : y ≡ x = ap (λ (o : Option (List Block)). unwrap_or o x) (at 0 (omega arith)) in
    let others = first_same n es fs (omega (arith, l)) (omega (arith, k)) (λ e w. at (suc e) (omega (arith, w))) in
    λ i. own i ∷ others i

filled_stay : (n : ℕ) (s t : Streamed) → n ≤ length s.sealed → GoesOn (laid s) (laid t) → length (with_blocks (take n t.sealed)) ≡ length (with_blocks (take n s.sealed))
filled_stay n s t there on =
    let a = count_of_extents s.sealed s.last in
    let b = count_of_extents t.sealed t.last in
    let longer = on.1.sealed.longer in
    let same = first_same n (laid s) (laid t) (omega (arith, a, there)) (omega (arith, a, there, longer)) (λ e l. on.1.sealed.closed e (omega (arith, l, a, there))) in
    filled_by_blocks t.sealed t.last.blocks n (omega (arith, a, b, there, longer))
    ∙ ap (λ (es : List (List Block)). length (filter some_block es)) same
    ∙ sym (filled_by_blocks s.sealed s.last.blocks n there)

-- the room that a mark needs stays the same
pub room_stays : (m : Mark) (s t : ThreeStreams) → m.log ≤ length s.log.sealed → m.blobs ≤ length s.blobs.sealed
    → GoesOn (laid s.log) (laid t.log) → GoesOn (laid s.blobs) (laid t.blobs) → handles_before m t ≡ handles_before m s
room_stays m s t log blobs more put =
    let a = filled_stay m.log s.log t.log log more in
    let b = filled_stay m.blobs s.blobs t.blobs blobs put in
    omega (arith, a, b)

-- the room of a sweep that begins now
pub room_now : (s : ThreeStreams) → handles_before (mark_of s) s ≡ length (with_blocks s.log.sealed) + length (with_blocks s.blobs.sealed)
room_now s =
    let log = take_all (length s.log.sealed) s.log.sealed (omega arith) in
    let blobs = take_all (length s.blobs.sealed) s.blobs.sealed (omega arith) in
    (λ i. length (with_blocks (log i)) + length (with_blocks (blobs i)))
