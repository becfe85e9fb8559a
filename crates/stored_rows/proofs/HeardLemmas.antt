-- Calls of stored rows hear as their calls of the streams do.
use Rattle.std.proofs.Common.{◌≡◌, ◌≢◌, ◌∙◌, Result, Ok, Err, subst, sym}
use Rattle.extent_node.specs.Faults.{Calls}
use Rattle.extent_seal.specs.Heard.{AsksAreHeard}
use Rattle.extent_seal.specs.declared.sealed.ReadFault.{ReadFault}
use Rattle.extent_seal.specs.declared.sealed.ReadFault.TheVariants as read
use Rattle.extent_seal.proofs.HeardLemmas.{heard_then}
use Rattle.stamp_types.specs.Changes.{KeyedAct}
use Rattle.stream_manager.specs.declared.faults.Settled.{Settled}
use Rattle.stream_manager.specs.declared.faults.Settled.TheVariants as settled
use Rattle.stream_manager.specs.declared.faults.StoredFault.{StoredFault}
use Rattle.stream_manager.specs.declared.faults.StoredFault.TheVariants as stored
use Rattle.partition_stream.specs.Heard.{HearsCompaction}
use Rattle.partition_stream.specs.declared.faults.CompactionFault.{CompactionFault}
use Rattle.partition_stream.specs.declared.faults.CompactionFault.TheVariants as compaction
use Rattle.partition_stream.specs.declared.faults.TakeFault.{TakeFault}
use Rattle.partition_stream.specs.declared.faults.TakeFault.TheVariants as take
use Rattle.stored_rows.specs.Faults.{stored_fault_of_compaction, unlogged_by, unlogged_of_put}
use Rattle.stored_rows.specs.Heard.{HearsLogged, HearsStored, HearsTake}
use Rattle.stored_rows.specs.Noting.{ended_by, loaded_by, sealed_by, taken_by}
use Rattle.stored_rows.specs.RowDoubts.{ended_row_by}
use Rattle.stored_rows.specs.declared.logging.Unlogged.{Unlogged}
use Rattle.stored_rows.specs.declared.logging.Unlogged.TheVariants as log

-- a call that did what it should hears
pub heard_ok : {A E : Type 0} (r : Result A E) (x : A) (f : E) (X : Type 0) → (r ≢ Err f → X) → r ≡ Ok x → X
heard_ok r x f X h is = h (λ e. absurd (cc))

-- a call that failed for another reason hears
pub heard_err : {A E : Type 0} (r : Result A E) (g f : E) (X : Type 0) → (r ≢ Err f → X) → r ≡ Err g → g ≢ f → X
heard_err r g f X h is other = h (λ e. other (cc))

-- the content was not put
pub hears_put : (f : StoredFault) (a b c d : Calls) → (f ≢ stored.Busy → AsksAreHeard a b c d) → HearsLogged (Err (unlogged_of_put f)) a b c d
hears_put stored.Busy a b c d h = tt
hears_put stored.NoMemory a b c d h = h (λ e. absurd (cc))

-- the content was put, and the change was not logged
pub hears_log : (f : TakeFault) (kept : KeyedAct) (a b c x y z : Calls) → AsksAreHeard a b x y
    → (f ≢ take.Doubt → f ≢ take.Busy → AsksAreHeard b c y z) → HearsLogged (Err (unlogged_by f kept)) a c x z
hears_log take.Busy kept a b c x y z p h = tt
hears_log take.Doubt kept a b c x y z p h = tt
hears_log take.NoMemory kept a b c x y z p h = heard_then a b c x y z p (h (λ e. absurd (cc)) (λ e. absurd (cc)))

-- a take answers what its log answers
pub hears_taken : (r : Result KeyedAct Unlogged) (a b c d : Calls) → HearsLogged r a b c d → HearsTake (taken_by r) a b c d
hears_taken (Ok k) a b c d h = h
hears_taken (Err log.Busy) a b c d h = tt
hears_taken (Err (log.Doubt k)) a b c d h = tt
hears_taken (Err log.NoMemory) a b c d h = h

-- a settle answers what that of the log answers
pub hears_ended : (r : Result Settled StoredFault) (a b c d : Calls) → (r ≢ Err stored.Busy → AsksAreHeard a b c d) → HearsStored (ended_by r) a b c d
hears_ended (Ok settled.Clean) a b c d h = h (λ e. absurd (cc))
hears_ended (Ok (settled.Kept p)) a b c d h = h (λ e. absurd (cc))
hears_ended (Ok settled.Dropped) a b c d h = h (λ e. absurd (cc))
hears_ended (Err stored.Busy) a b c d h = tt
hears_ended (Err stored.NoMemory) a b c d h = h (λ e. absurd (cc))

-- a load answers what the reads answer
pub hears_loaded : {T : Type 0} (r : Result T ReadFault) (a b c d : Calls) → (r ≢ Err read.Unreachable → AsksAreHeard a b c d) → HearsStored (loaded_by r) a b c d
hears_loaded (Ok w) a b c d h = h (λ e. absurd (cc))
hears_loaded (Err read.Unreachable) a b c d h = tt
hears_loaded (Err read.NoMemory) a b c d h = h (λ e. absurd (cc))

-- ---- rows that are written again

-- a row was not logged
pub hears_row : (f : TakeFault) (row : KeyedAct) (a b c d : Calls) → (f ≢ take.Doubt → f ≢ take.Busy → AsksAreHeard a b c d) → HearsLogged (Err (unlogged_by f row)) a b c d
hears_row take.Busy row a b c d h = tt
hears_row take.Doubt row a b c d h = tt
hears_row take.NoMemory row a b c d h = h (λ e. absurd (cc)) (λ e. absurd (cc))

-- the content of a row was not put again
pub hears_put_again : (f : CompactionFault) (a b c d : Calls) → HearsCompaction {T = KeyedAct} (Err f) a b c d → HearsLogged (Err (unlogged_of_put (stored_fault_of_compaction f))) a b c d
hears_put_again compaction.Busy a b c d h = tt
hears_put_again compaction.Unreachable a b c d h = tt
hears_put_again compaction.NoMemory a b c d h = h

-- a row was logged, or not, after its content was put
pub hears_logged_later : (r : Result KeyedAct Unlogged) (a b c x y z : Calls) → AsksAreHeard a b x y → HearsLogged r b c y z → HearsLogged r a c x z
hears_logged_later (Ok d) a b c x y z p h = heard_then a b c x y z p h
hears_logged_later (Err log.Busy) a b c x y z p h = tt
hears_logged_later (Err (log.Doubt d)) a b c x y z p h = tt
hears_logged_later (Err log.NoMemory) a b c x y z p h = heard_then a b c x y z p h

-- a fault is the same whatever is answered otherwise
pub hears_take_as : (T U : Type 0) (f : TakeFault) (a b c d : Calls) → HearsTake {T = T} (Err f) a b c d → HearsTake {T = U} (Err f) a b c d
hears_take_as T U take.Busy a b c d h = tt
hears_take_as T U take.Doubt a b c d h = tt
hears_take_as T U take.NoMemory a b c d h = h

-- the row was written, and the step answers this
pub hears_written : (r : Result KeyedAct Unlogged) (t : Result (Unit {0}) TakeFault) (a b c d : Calls) → t ≡ taken_by r → t ≡ Ok tt → HearsLogged r a b c d → AsksAreHeard a b c d
hears_written r t a b c d is ok h =
    subst (λ (t : Result (Unit {0}) TakeFault). HearsTake t a b c d) (sym is ∙ ok) (hears_taken r a b c d h)

-- the row was not written
pub hears_not_written : (T : Type 0) (r : Result KeyedAct Unlogged) (t : Result (Unit {0}) TakeFault) (f : TakeFault) (a b c d : Calls) → t ≡ taken_by r → t ≡ Err f → HearsLogged r a b c d
    → HearsTake {T = T} (Err f) a b c d
hears_not_written T r t f a b c d is failed h =
    hears_take_as (Unit {0}) T f a b c d (subst (λ (t : Result (Unit {0}) TakeFault). HearsTake t a b c d) (sym is ∙ failed) (hears_taken r a b c d h))

-- a later row
pub hears_take_later : (f : TakeFault) (a b c x y z : Calls) → AsksAreHeard a b x y → HearsTake {T = Unit {0}} (Err f) b c y z → HearsTake {T = Unit {0}} (Err f) a c x z
hears_take_later take.Busy a b c x y z p h = tt
hears_take_later take.Doubt a b c x y z p h = tt
hears_take_later take.NoMemory a b c x y z p h = heard_then a b c x y z p h

-- ---- calls of all streams

-- the doubt of a row ended, or not
pub hears_row_ended : (r : Result Settled StoredFault) (a b c d : Calls) → (r ≢ Err stored.Busy → AsksAreHeard a b c d) → HearsStored (ended_row_by r) a b c d
hears_row_ended (Ok e) a b c d h = h (λ e. absurd (cc))
hears_row_ended (Err stored.Busy) a b c d h = tt
hears_row_ended (Err stored.NoMemory) a b c d h = h (λ e. absurd (cc))

-- a seal answers what that of the streams answers
pub hears_sealed : (r : Result (Unit {0}) StoredFault) (a b c d : Calls) → (r ≢ Err stored.Busy → AsksAreHeard a b c d) → HearsStored (sealed_by r) a b c d
hears_sealed (Ok u) a b c d h = h (λ e. absurd (cc))
hears_sealed (Err stored.Busy) a b c d h = tt
hears_sealed (Err stored.NoMemory) a b c d h = h (λ e. absurd (cc))

-- a call of which each ask was heard, whatever it answers
pub hears_any : {T : Type 0} (r : Result T StoredFault) (a b c d : Calls) → AsksAreHeard a b c d → HearsStored r a b c d
hears_any (Ok u) a b c d h = h
hears_any (Err stored.Busy) a b c d h = tt
hears_any (Err stored.NoMemory) a b c d h = h

-- a call that failed
abbrev failed : (T : Type 0) → StoredFault → Result T StoredFault
failed T f = Err f

pub hears_failed : (T : Type 0) (f : StoredFault) (a b c d : Calls) → (failed T f ≢ failed T stored.Busy → AsksAreHeard a b c d) → HearsStored {T = T} (Err f) a b c d
hears_failed T stored.Busy a b c d h = tt
hears_failed T stored.NoMemory a b c d h = h (λ e. absurd (cc))

-- ---- calls that come after others

pub hears_stored_then : {T : Type 0} (r : Result T StoredFault) (a b c x y z : Calls) → AsksAreHeard a b x y → HearsStored r b c y z → HearsStored r a c x z
hears_stored_then (Ok u) a b c x y z p h = heard_then a b c x y z p h
hears_stored_then (Err stored.Busy) a b c x y z p h = tt
hears_stored_then (Err stored.NoMemory) a b c x y z p h = heard_then a b c x y z p h

pub hears_take_then : {T : Type 0} (r : Result T TakeFault) (a b c x y z : Calls) → AsksAreHeard a b x y → HearsTake r b c y z → HearsTake r a c x z
hears_take_then (Ok u) a b c x y z p h = heard_then a b c x y z p h
hears_take_then (Err take.Busy) a b c x y z p h = tt
hears_take_then (Err take.Doubt) a b c x y z p h = tt
hears_take_then (Err take.NoMemory) a b c x y z p h = heard_then a b c x y z p h
