-- What the laws of stored rows rest on.
use Rattle.std.proofs.Common.{◌≡◌, ◌≢◌, ◌∙◌, ◌⊎◌, Bool, true, false, List, [], ◌∷◌, ◌++◌, None, Ok, Err, inl, inr, ap, sym, refl, subst}
use Rattle.stamp_values.specs.declared.key.Key.{Key}
use Rattle.stamp_types.specs.Pieces.{held}
use Rattle.stamp_types.specs.World.{changed}
use Rattle.partition_stream.specs.Changes.{Recorded}
use Rattle.partition_stream.specs.Meanings.{acts_on, after_acts, is_on}
use Rattle.partition_stream.specs.declared.faults.TakeFault.{TakeFault}
use Rattle.partition_stream.specs.declared.faults.TakeFault.TheVariants as fault
use Rattle.stored_rows.specs.States.{AreTaken, IsChanged, IsTaken, MeansTheSame, SettlesRows, Stored, bytes_of, doubt_of, own_doubt, own_doubt_of}
use Rattle.stored_rows.specs.declared.faults.Ended.{Ended}
use Rattle.stored_rows.specs.declared.faults.Ended.TheVariants as ended
use Rattle.stored_rows.proofs.FittingLemmas.{acts_on-next, is_on-same}
use Rattle.stored_rows.proofs.LoadLemmas.{other_key}
use Rattle.stored_rows.proofs.TakeLemmas.{same_twice}

-- one change, as the acts of its own container see it
one_by : (s m : Stored) (c : Recorded) (cs : List Recorded) (key : Key) (b : Bool) → is_on key c ≡ b → IsChanged s c m
    → after_acts held (acts_on key cs) (bytes_of m key) ≡ after_acts held (acts_on key (c ∷ cs)) (bytes_of s key)
one_by s m c cs key true on first =
    ap (λ p. after_acts held (acts_on key cs) p)
    (subst (λ k. bytes_of m k ≡ changed held c.0.act (bytes_of s k)) (is_on-same key c on) first.own)
    ∙ sym (ap (λ acts. after_acts held acts (bytes_of s key)) (acts_on-next key c cs true on))
one_by s m c cs key false off first =
    ap (λ p. after_acts held (acts_on key cs) p) (first.others key (other_key key c off))
    ∙ sym (ap (λ acts. after_acts held acts (bytes_of s key)) (acts_on-next key c cs false off))

-- changes that were taken one after the other
pub taken_all : (s t : Stored) (cs : List Recorded) (key : Key) → AreTaken s cs t → bytes_of t key ≡ after_acts held (acts_on key cs) (bytes_of s key)
taken_all s t [] key same = ap (λ u. bytes_of u key) same
taken_all s t (c ∷ cs) key taken =
    taken_all taken.0 t cs key taken.1.1 ∙ one_by s taken.0 c cs key (is_on key c) refl taken.1.0

-- a change that was not taken
pub refused_same : (s t : Stored) (c : Recorded) (e : TakeFault) → IsTaken (Err e) s c t → MeansTheSame s t
refused_same s t c fault.Busy h = h.0
refused_same s t c fault.Doubt h = h.0
refused_same s t c fault.NoMemory h = h.0

pub refused_sure : (s t : Stored) (c : Recorded) (e : TakeFault) → IsTaken (Err e) s c t → e ≢ fault.Doubt → doubt_of t ≡ None
refused_sure s t c fault.Busy h other = h.1
refused_sure s t c fault.Doubt h other = absurd (other refl)
refused_sure s t c fault.NoMemory h other = h.1

-- a change from what was there before
changed_before : (s t u : Stored) (c : Recorded) → MeansTheSame s t → IsChanged t c u → IsChanged s c u
changed_before s t u c same h = record {
  own = h.own ∙ ap (changed held c.0.act) (same.bytes c.0.key);
  others = λ key other. h.others key other ∙ same.bytes key;
  kept = h.kept;
  more = record { rows = h.more.rows ∙ same.rows; log = h.more.log ∙ ap (λ l. l ++ (h.kept, c.1) ∷ []) same.log };
  same = h.same;
  sure = h.sure;
  range = h.range ∙ same.range;
  loaded = λ now. sym same.loaded ∙ h.loaded now;
}

-- a doubt that is settled
pub doubt_settled : (s t u : Stored) (c : Recorded) (e : Ended) → IsTaken (Err fault.Doubt) s c t → SettlesRows (Ok e) t u
    → IsChanged s c u ⊎ (MeansTheSame s u × (own_doubt_of u ≡ None))
doubt_settled s t u c ended.Clean taken h = inr (same_twice s t u taken.0 h.0, ap own_doubt h.1.1 ∙ h.1.0)
doubt_settled s t u c ended.Kept taken h = inl (changed_before s t u c taken.0 (h.0 c taken.1))
doubt_settled s t u c ended.Dropped taken h = inr (same_twice s t u taken.0 h.0, ap own_doubt h.1.1)
