-- What a slot keeps after a change that is taken or settled.
use Rattle.std.proofs.Common.{◌≡◌, ◌≤◌, ◌+◌, ◌⊎◌, ◌∙◌, inl, inr, arith, ℕ, Bool, true, false, cond, List, [], ◌∷◌, ◌++◌, Option, Some, None, IsSome, is_some, unwrap_or, Result, Ok, Err, refl, sym, ap, subst}
use Rattle.std.specs.Cmp.{eq_by_cmp_equiv}
use Rattle.std.specs.Ordering.{eq_by_cmp}
use Rattle.std.specs.Prelude.{IfSome, IsTrue, OnErr, OnOk, length}
use Rattle.std.specs.Option.{option_map}
use Rattle.std.specs.FinMap as finite
use Rattle.extent_node.specs.Copies.{Block}
use Rattle.stamp_values.specs.Order.{key_cmp, keys_total}
use Rattle.stamp_values.specs.declared.key.Key.{Key}
use Rattle.stamp_types.specs.declared.past.Past.{Past}
use Rattle.stamp_types.specs.ActKinds.{is_row}
use Rattle.stamp_types.specs.declared.act.Act.{Act}
use Rattle.stamp_types.specs.declared.act.Act.TheVariants as act
use Rattle.stamp_types.specs.Changes.{KeyedAct, content_of}
use Rattle.stamp_types.specs.Contents.{EachActContent}
use Rattle.stamp_types.specs.Pieces.{held, is_held, pieces_len}
use Rattle.stamp_types.specs.World.{Part, changed, count_after, no_part, part_value}
use Rattle.stamp_types.proofs.WorldLemmas.{part_value-no_part}
use Rattle.access_rules.specs.declared.keys.Keys.{Keys}
use Rattle.row_trees.specs.Fits.{fits}
use Rattle.range_rows.specs.RequestChanges.{act_by, part_after}
use Rattle.range_rows.specs.SentContent.{sizes}
use Rattle.range_rows.proofs.ChangeLemmas.{change_fits}
use Rattle.stream_manager.specs.Streams.{laid}
use Rattle.stream_manager.specs.declared.faults.StoredFault.{StoredFault}
use Rattle.stream_manager.specs.declared.faults.StoredFault.TheVariants as stored_fault
use Rattle.partition_stream.specs.Changes.{Recorded}
use Rattle.partition_stream.specs.Contents.{content_at}
use Rattle.partition_stream.specs.declared.faults.TakeFault.{TakeFault}
use Rattle.partition_stream.specs.declared.faults.TakeFault.TheVariants as fault
use Rattle.stamp_model.specs.Effects.{unless_refused}
use Rattle.stamp_model.specs.Histories.{IsAccepted, IsEntryAfter, IsLegal, NoneIsLater, pair_of, replay}
use Rattle.stamp_model.proofs.HistoryLemmas.{IsLegalFrom-append, IsLegalFrom-nil, last_or_before, replay_from-append}
use Rattle.stamp_model.proofs.CountLemmas.{said_of_act_by}
use Rattle.stamp_model.proofs.EffectLemmas.{on_key}
use Rattle.stamp_model.proofs.ReplyLemmas.{unrefused}
use Rattle.stored_rows.specs.Checkpoints.{MeansTheRange}
use Rattle.stored_rows.specs.Ranges.{covers}
use Rattle.stored_rows.specs.States.{IsChanged, IsInDoubt, IsKeptAs, IsTaken, MeansTheSame, SettlesRows, Stored, bytes_of, doubt_of, own_doubt, own_doubt_of, pieces_of}
use Rattle.stored_rows.specs.declared.faults.Ended.{Ended}
use Rattle.stored_rows.specs.declared.faults.Ended.TheVariants as ended
use Rattle.slot_state.specs.HistoryMaps.{Histories, NoneIsEmpty, history_at, with_entry, without_last}
use Rattle.slot_state.specs.Pairs.{AreNumbered, Pairs, current_at, epoch_of, pairs_at}
use Rattle.slot_state.specs.Slots.{SlotState, replayed_at}
use Rattle.slot_state.proofs.MapLemmas.{taken_back, tied}
use Rattle.slot_state.proofs.RowLemmas.{brings_held}
use Rattle.slot_state.proofs.StepLemmas.{history_at-insert}
use Rattle.stored_slot.specs.Meanings.{AreOfStreams, AreReplays, HasDoubt, IsDoubted, MakesChange, slot_with}
use Rattle.stored_slot.specs.Settled.{LeavesSettled, SettlesSlot, follows, keeps_change, pushed_left}
use Rattle.stored_slot.specs.Changes.{doubted_entry, doubt_left, slot_taken, with_taken}

true_false : true ≡ false → ⊥
true_false h = cc

none_some : {X : Type 0} (x : X) → None ≡ Some x → ⊥
none_some x h = cc

-- without a doubt there is no own doubt
pub sure_own : (s : Stored) → doubt_of s ≡ None → own_doubt_of s ≡ None
sure_own s sure = ap own_doubt sure

-- ---- rows that mean the same

pub same_means : (s : Stored) → MeansTheSame s s
same_means s = record { rows = refl; log = refl; bytes = λ key. refl; pieces = λ key. refl; range = refl; loaded = refl }

module _ (pairs : Pairs) (h : Histories) (s t : Stored) where
  pub same_replays : AreReplays pairs h s → t.range ≡ s.range → ((key : Key) → bytes_of t key ≡ bytes_of s key) → AreReplays pairs h t
  same_replays are range bytes = record {
    numbered = are.numbered;
    bytes = λ key covered. bytes key ∙ are.bytes key (sym (ap (λ r. covers r key) range) ∙ covered);
    legal = are.legal;
    latest = are.latest;
  }

  pub same_makes : (e : Past) (c : KeyedAct) → MakesChange pairs h s e c → t.range ≡ s.range → MakesChange pairs h t e c
  same_makes e c makes range = record {
    makes = makes.makes;
    allowed = makes.allowed;
    covered = ap (λ r. covers r e.request.ask.key) range ∙ makes.covered;
    known = makes.known;
    last = makes.last;
  }

-- ---- one entry more

module _ (pairs : Pairs) (h : Histories) (s : Stored) (e : Past) (c : KeyedAct) (makes : MakesChange pairs h s e c) where
  abbrev own_pairs : List Keys
  own_pairs = pairs_at pairs e.request.ask.key.account

  abbrev before : Part (List ℕ)
  before = replayed_at pairs h e.request.ask.key

  -- the change is under the key of the request, and fits its container
  pub own_change : (c.key ≡ e.request.ask.key) × IsTrue (fits (sizes before) c.act)
  own_change = change_fits (sizes before) e.request e.moment c (unrefused (pair_of own_pairs e.epoch) (sizes before) e.request e.moment makes.allowed).unopposed makes.makes

  abbrev longer : List Past
  longer = history_at h e.request.ask.key ++ e ∷ []

  -- the longer history replays to the container after the change
  replayed_longer : replay own_pairs longer ≡ changed held c.act before
  replayed_longer =
      replay_from-append own_pairs no_part (history_at h e.request.ask.key) e
      ∙ (λ i. part_after held (unless_refused (makes.allowed i) (makes.makes i)) before)

  new_entry : IsAccepted own_pairs e.request.ask.key before e
  new_entry = record {
    own = refl;
    writes = ap is_some makes.makes;
    allowed = makes.allowed;
  }

  latest_by : AreReplays pairs h s → (front : List Past) (x : Past) → ((front ≡ history_at h e.request.ask.key) × (x ≡ e)) ⊎ IsEntryAfter front x (history_at h e.request.ask.key)
      → x.epoch ≤ epoch_of (current_at pairs e.request.ask.key.account)
  latest_by are front x (inl p) = omega (arith, ap (λ (x : Past). x.epoch) p.1, makes.known)
  latest_by are front x (inr came) = are.latest e.request.ask.key front x came

  module _ (t : Stored) (are : AreReplays pairs h s) (is : IsChanged s (c, e.epoch) t) where
    abbrev HoldsAt : Key → List Past → Type 0
    HoldsAt k es =
        (covers t.range k ≡ true → bytes_of t k ≡ replay (pairs_at pairs k.account) es)
        × (IsLegal (pairs_at pairs k.account) k es × NoneIsLater (epoch_of (current_at pairs k.account)) es)

    own_bytes : bytes_of t e.request.ask.key ≡ replay own_pairs longer
    own_bytes =
        subst (λ (k : Key). bytes_of t k ≡ changed held c.act (bytes_of s k)) own_change.0 is.own
        ∙ ap (changed held c.act) (are.bytes e.request.ask.key makes.covered)
        ∙ sym replayed_longer

    own_holds : HoldsAt e.request.ask.key longer
    own_holds = (
      λ covered. own_bytes,
      (
        IsLegalFrom-append own_pairs e.request.ask.key no_part (history_at h e.request.ask.key) e (are.legal e.request.ask.key) makes.last new_entry,
        λ front x comes. latest_by are front x (last_or_before (history_at h e.request.ask.key) e x front comes.0 comes.1),
      ),
    )

    apart : (k : Key) → eq_by_cmp key_cmp k e.request.ask.key ≡ false → k ≡ c.key → ⊥
    apart k tie same =
        let own : eq_by_cmp key_cmp k e.request.ask.key ≡ true = subst (λ (x : Key). eq_by_cmp key_cmp k x ≡ true) (same ∙ own_change.0) ((eq_by_cmp_equiv keys_total).refl k) in
        true_false (sym own ∙ tie)

    read_entry : (k : Key) (b : Bool) → eq_by_cmp key_cmp k e.request.ask.key ≡ b → history_at (with_entry h e) k ≡ cond b longer (history_at h k)
    read_entry k b tie = history_at-insert h e.request.ask.key longer k ∙ ap (λ (b : Bool). cond b longer (history_at h k)) tie

    holds_by : (k : Key) (b : Bool) → eq_by_cmp key_cmp k e.request.ask.key ≡ b → HoldsAt k (history_at (with_entry h e) k)
    holds_by k true tie =
        subst (λ (es : List Past). HoldsAt k es) (sym (read_entry k true tie))
        (subst (λ (x : Key). HoldsAt x longer) (sym (tied k e.request.ask.key tie)) own_holds)
    holds_by k false tie =
        subst (λ (es : List Past). HoldsAt k es) (sym (read_entry k false tie))
        (λ covered. is.others k (apart k tie) ∙ are.bytes k (sym (ap (λ r. covers r k) is.range) ∙ covered), (are.legal k, are.latest k))

    holds : (k : Key) → HoldsAt k (history_at (with_entry h e) k)
    holds k = holds_by k (eq_by_cmp key_cmp k e.request.ask.key) refl

    -- the histories with the entry are what the streams mean after the change
    pub entered_replays : AreReplays pairs (with_entry h e) t
    entered_replays = record {
      numbered = are.numbered;
      bytes = λ k. (holds k).0;
      legal = λ k. (holds k).1.0;
      latest = λ k. (holds k).1.1;
    }

  -- ---- a change that is taken, or not

  pub taken_kept : (t : Stored) (r : Result (Unit {0}) TakeFault) → AreReplays pairs h s → IsTaken r s (c, e.epoch) t → AreOfStreams pairs (with_taken r h e) t (doubted_entry r e)
  taken_kept t (Ok u) are is = record { replays = entered_replays t are is; doubted = sure_own t is.sure }
  taken_kept t (Err fault.Doubt) are is = record {
    replays = same_replays pairs h s t are is.0.range is.0.bytes;
    doubted = record { change = c; makes = same_makes pairs h s t e c makes is.0.range; tried = is.1 };
  }
  taken_kept t (Err fault.Busy) are is = record { replays = same_replays pairs h s t are is.0.range is.0.bytes; doubted = sure_own t is.1 }
  taken_kept t (Err fault.NoMemory) are is = record { replays = same_replays pairs h s t are is.0.range is.0.bytes; doubted = sure_own t is.1 }

  pub taken_range : (t : Stored) (r : Result (Unit {0}) TakeFault) → IsTaken r s (c, e.epoch) t → t.range ≡ s.range
  taken_range t (Ok u) is = is.range
  taken_range t (Err fault.Doubt) is = is.0.range
  taken_range t (Err fault.Busy) is = is.0.range
  taken_range t (Err fault.NoMemory) is = is.0.range

-- ---- a doubt that is settled, or not

tried_still : (c : Recorded) (s t : Stored) → IsInDoubt c s → doubt_of t ≡ doubt_of s → t.streams.blobs ≡ s.streams.blobs → IsInDoubt c t
tried_still c s t tried same blobs = record {
  kept = tried.kept;
  doubt = same ∙ tried.doubt;
  same = subst (λ (es : List (List Block)). IsKeptAs es c.0 tried.kept) (sym (ap laid blobs)) tried.same;
}

pub settled_kept : (pairs : Pairs) (h : Histories) (s t : Stored) (e : Past) (r : Result Ended StoredFault) → AreReplays pairs h s → IsDoubted pairs h s e → SettlesRows r s t
    → t.streams.blobs ≡ s.streams.blobs → AreOfStreams pairs (follows r h e) t (doubt_left r e)
settled_kept pairs h s t e (Ok ended.Clean) are doubted is blobs = record {
  replays = same_replays pairs h s t are is.0.range is.0.bytes;
  doubted = ap own_doubt is.1.1 ∙ is.1.0;
}
settled_kept pairs h s t e (Ok ended.Kept) are doubted is blobs = record {
  replays = entered_replays pairs h s e doubted.change doubted.makes t are (is.0 (doubted.change, e.epoch) doubted.tried);
  doubted = sure_own t is.1.1;
}
settled_kept pairs h s t e (Ok ended.Dropped) are doubted is blobs = record { replays = same_replays pairs h s t are is.0.range is.0.bytes; doubted = sure_own t is.1.1 }
settled_kept pairs h s t e (Err f) are doubted is blobs = record {
  replays = same_replays pairs h s t are is.0.range is.0.bytes;
  doubted = record {
    change = doubted.change;
    makes = same_makes pairs h s t e doubted.change doubted.makes is.0.range;
    tried = tried_still (doubted.change, e.epoch) s t doubted.tried is.1.1 blobs;
  };
}

pub settled_range : (pairs : Pairs) (h : Histories) (s t : Stored) (e : Past) (r : Result Ended StoredFault) → IsDoubted pairs h s e → SettlesRows r s t → t.range ≡ s.range
settled_range pairs h s t e (Ok ended.Clean) doubted is = is.0.range
settled_range pairs h s t e (Ok ended.Kept) doubted is = (is.0 (doubted.change, e.epoch) doubted.tried).range
settled_range pairs h s t e (Ok ended.Dropped) doubted is = is.0.range
settled_range pairs h s t e (Err f) doubted is = is.0.range

-- ---- a change of a request is no row

plain_by : (key : Key) (o : Option Act) (c : KeyedAct) → IfSome o (λ a. is_row a ≡ false) → option_map (on_key key) o ≡ Some c → is_row c.act ≡ false
plain_by key None c said is = absurd (none_some c is)
plain_by key (Some a) c said is = let same : on_key key a ≡ c = cc in subst (λ (c : KeyedAct). is_row c.act ≡ false) same said

module _ (pairs : Pairs) (h : Histories) (s : Stored) (e : Past) (c : KeyedAct) (makes : MakesChange pairs h s e c) where
  pub take_plain : is_row c.act ≡ false
  take_plain =
      plain_by e.request.ask.key (act_by e.request.ask.op (sizes (replayed_at pairs h e.request.ask.key)) e.request e.moment) c
      (said_of_act_by (sizes (replayed_at pairs h e.request.ask.key)) e.request e.moment (λ a. is_row a ≡ false) (λ a plain. plain) e.request.ask.op) makes.makes

plain_counts : (a : Act) (n : ℕ) → is_row a ≡ false → count_after a n ≡ n + 1
plain_counts (act.ContainerRow a) n plain = absurd (true_false plain)
plain_counts (act.StoredBlob a) n plain = absurd (true_false plain)
plain_counts other n plain = refl

plain_by_counts : (a : Act) → ((n : ℕ) → count_after a n ≡ n + 1) → is_row a ≡ false
plain_by_counts (act.ContainerRow a) counts = absurd (omega (arith, counts 0, counts 1))
plain_by_counts (act.StoredBlob a) counts = absurd (omega (arith, counts 0))
plain_by_counts other counts = refl

-- a change that is no row is kept as a change that is no row: each counts
kept_plain : (es : List (List Block)) (c d : KeyedAct) → IsKeptAs es c d → is_row c.act ≡ false → is_row d.act ≡ false
kept_plain es c d same plain =
    plain_by_counts d.act (λ n. ap (λ (p : Part (List ℕ)). p.count) (same.bytes (record { count = n; standing = None; blobs = finite.empty })) ∙ plain_counts c.act n plain)

-- the streams have a change in doubt
pub is_doubted : (pairs : Pairs) (h : Histories) (s : Stored) (e : Past) → IsDoubted pairs h s e → IsSome (own_doubt_of s)
is_doubted pairs h s e doubted =
    let plain : is_row doubted.tried.kept.act ≡ false = kept_plain (laid s.streams.blobs) doubted.change doubted.tried.kept doubted.tried.same (take_plain pairs h s e doubted.change doubted.makes) in
    ap is_some (ap own_doubt doubted.tried.doubt ∙ ap (λ (b : Bool). cond b None (Some (doubted.tried.kept, e.epoch))) plain)

-- ---- a slot without containers

pub none_later : (n : ℕ) → NoneIsLater n []
none_later n front x comes = absurd (nothing front x comes.0 comes.1)
  where
    nothing : (front : List Past) (x : Past) (rest : List Past) → [] ≡ front ++ x ∷ rest → ⊥
    nothing [] x rest h = cc
    nothing (y ∷ front) x rest h = cc

pub replays_nothing : (pairs : Pairs) (h : Histories) (s : Stored) → AreNumbered pairs → h ≡ finite.empty → ((key : Key) → pieces_of s key ≡ no_part) → AreReplays pairs h s
replays_nothing pairs h s numbered empty none =
    subst (λ (h : Histories). AreReplays pairs h s) (sym empty) (record {
      numbered = numbered;
      bytes = λ key covered.
          ap (part_value (content_at (laid s.streams.blobs))) (none key) ∙ part_value-no_part (content_at (laid s.streams.blobs))
          ∙ sym (ap (λ (es : List Past). replay (pairs_at pairs key.account) es) (nothing_at key));
      legal = λ key. subst (λ (es : List Past). IsLegal (pairs_at pairs key.account) key es) (sym (nothing_at key)) (IsLegalFrom-nil (pairs_at pairs key.account) key no_part);
      latest = λ key. subst (λ (es : List Past). NoneIsLater (epoch_of (current_at pairs key.account)) es) (sym (nothing_at key)) (none_later (epoch_of (current_at pairs key.account)));
    })
  where
    nothing_at : (key : Key) → history_at finite.empty key ≡ []
    nothing_at key = ap (λ (o : Option (List Past)). unwrap_or o []) (finite.get-empty key_cmp key)

-- ---- steps that leave a slot as it is

pub sealed_kept : (pairs : Pairs) (h : Histories) (s t : Stored) → AreReplays pairs h s → MeansTheSame s t → doubt_of t ≡ None → AreOfStreams pairs h t None
sealed_kept pairs h s t are same none = record { replays = same_replays pairs h s t are same.range same.bytes; doubted = sure_own t none }

-- the streams mean the same of the range
pub range_kept : (pairs : Pairs) (h : Histories) (s t : Stored) → AreReplays pairs h s → MeansTheRange s t → doubt_of t ≡ None → AreOfStreams pairs h t None
range_kept pairs h s t are same none = record {
  replays = record {
    numbered = are.numbered;
    bytes = λ key covered.
        let own : covers s.range key ≡ true = sym (ap (λ r. covers r key) same.range) ∙ covered in
        same.bytes key own ∙ are.bytes key own;
    legal = are.legal;
    latest = are.latest;
  };
  doubted = sure_own t none;
}

pub slot_same : (pairs : Pairs) (h : Histories) (s t : Stored) (d : Option Past) → t.range ≡ s.range → slot_with pairs h t d ≡ slot_with pairs h s d
slot_same pairs h s t d same = λ i. record { histories = h; pairs = pairs; from = (same i).from; to = (same i).to; doubt = d }

pub left_settled : {T : Type 0} (r : Result T StoredFault) (s m t : SlotState) → SettlesSlot s m → t ≡ m → LeavesSettled r s t
left_settled (Ok u) s m t settled same = subst (λ (x : SlotState). SettlesSlot s x) (sym same) settled
left_settled (Err e) s m t settled same = inl (subst (λ (x : SlotState). SettlesSlot s x) (sym same) settled)

-- ---- a settle of a slot

module _ (pairs : Pairs) (h : Histories) (s t : Stored) (d d' : Option Past) (are : AreOfStreams pairs h s d) where
  -- without a doubt
  pub sure_stays : d ≡ None → d' ≡ None → AreOfStreams pairs h s d'
  sure_stays none same = subst (λ (x : Option Past). AreOfStreams pairs h s x) (none ∙ sym same) are

  pub sure_settled : d ≡ None → d' ≡ None → SettlesSlot (slot_with pairs h s d) (slot_with pairs h s d')
  sure_settled none same =
      subst (λ (x : Option Past). SettlesSlot (slot_with pairs h s x) (slot_with pairs h s d')) (sym none) (ap (λ (x : Option Past). slot_with pairs h s x) same)

  module _ (e : Past) (is : d ≡ Some e) where
    doubted_own : IsDoubted pairs h s e
    doubted_own = subst (λ (x : Option Past). HasDoubt pairs h s x) is are.doubted

    pub own_doubted : IsSome (own_doubt_of s)
    own_doubted = is_doubted pairs h s e doubted_own

    pub doubt_kept : (h' : Histories) (r : Result Ended StoredFault) → h' ≡ follows r h e → SettlesRows r s t → t.streams.blobs ≡ s.streams.blobs → d' ≡ doubt_left r e → AreOfStreams pairs h' t d'
    doubt_kept h' r same rows blobs left =
        subst (λ (x : Option Past). AreOfStreams pairs h' t x) (sym left)
        (subst (λ (g : Histories). AreOfStreams pairs g t (doubt_left r e)) (sym same) (settled_kept pairs h s t e r are.replays doubted_own rows blobs))

    by_end : (ended : Ended) → SettlesRows (Ok ended) s t → SettlesSlot (slot_with pairs h s (Some e)) (slot_with pairs (follows (Ok ended) h e) t None)
    by_end ended.Clean rows = inr (slot_same pairs h s t None (settled_range pairs h s t e (Ok ended.Clean) doubted_own rows))
    by_end ended.Kept rows = inl (slot_same pairs (with_entry h e) s t None (settled_range pairs h s t e (Ok ended.Kept) doubted_own rows))
    by_end ended.Dropped rows = inr (slot_same pairs h s t None (settled_range pairs h s t e (Ok ended.Dropped) doubted_own rows))

    pub doubt_settled : (h' : Histories) (ended : Ended) → h' ≡ follows (Ok ended) h e → SettlesRows (Ok ended) s t → d' ≡ None → SettlesSlot (slot_with pairs h s d) (slot_with pairs h' t d')
    doubt_settled h' ended same rows left =
        subst (λ (x : Option Past). SettlesSlot (slot_with pairs h s x) (slot_with pairs h' t d')) (sym is)
        (subst (λ (y : Option Past). SettlesSlot (slot_with pairs h s (Some e)) (slot_with pairs h' t y)) (sym left)
        (subst (λ (g : Histories). SettlesSlot (slot_with pairs h s (Some e)) (slot_with pairs g t None)) (sym same) (by_end ended rows)))

    pub doubt_stays : (h' : Histories) (f : StoredFault) → h' ≡ h → SettlesRows (Err f) s t → d' ≡ Some e → IsSome d × (slot_with pairs h' t d' ≡ slot_with pairs h s d)
    doubt_stays h' f same rows left = (
      subst (λ (x : Option Past). IsSome x) (sym is) refl,
      ap (λ (g : Histories). slot_with pairs g t d') same
          ∙ slot_same pairs h s t d' (settled_range pairs h s t e (Err f) doubted_own rows)
          ∙ ap (λ (x : Option Past). slot_with pairs h s x) (left ∙ sym is),
    )

-- ---- entries that are pushed, and taken back

pub followed : (old pushed after : Histories) (e : Past) (r : Result Ended StoredFault) → NoneIsEmpty old → pushed ≡ with_entry old e → after ≡ pushed_left (keeps_change r) pushed e.request.ask.key
    → after ≡ follows r old e
followed old pushed after e (Ok ended.Kept) none is left = left ∙ is
followed old pushed after e (Ok ended.Clean) none is left = taken_back old pushed after e e.request.ask.key none is refl left
followed old pushed after e (Ok ended.Dropped) none is left = taken_back old pushed after e e.request.ask.key none is refl left
followed old pushed after e (Err f) none is left = taken_back old pushed after e e.request.ask.key none is refl left

pub entered_by : (old pushed after : Histories) (e : Past) (r : Result (Unit {0}) TakeFault) → NoneIsEmpty old → pushed ≡ with_entry old e → OnOk r (after ≡ pushed)
    → OnErr r (after ≡ without_last pushed e.request.ask.key) → after ≡ with_taken r old e
entered_by old pushed after e (Ok u) none is stays back = stays ∙ is
entered_by old pushed after e (Err f) none is stays back = taken_back old pushed after e e.request.ask.key none is refl back

-- nothing was settled, since memory ran out for the entry
pub unsettled : (s : Stored) → IsSome (own_doubt_of s) → SettlesRows (Err stored_fault.NoMemory) s s
unsettled s doubted = (same_means s, (doubted, refl))

-- nothing was taken, since memory ran out for the entry
pub untaken : (s : Stored) (c : Recorded) → doubt_of s ≡ None → IsTaken (Err fault.NoMemory) s c s
untaken s c sure = (same_means s, sure)

-- ---- what a change needs to be taken

held_by : (a : Act) → EachActContent (λ ps. is_held ps ≡ true) a → IfSome (content_of a) (λ ps. is_held ps ≡ true)
held_by (act.PutBlob a) all = all
held_by (act.PutBlock a) all = all
held_by other all = tt

module _ (pairs : Pairs) (h : Histories) (s : Stored) (e : Past) (c : KeyedAct) (makes : MakesChange pairs h s e c) where
  pub take_covered : covers s.range c.key ≡ true
  take_covered = ap (covers s.range) (own_change pairs h s e c makes).0 ∙ makes.covered

  pub take_held : IfSome (content_of c.act) (λ ps. IsTrue (is_held ps))
  take_held = held_by c.act (brings_held (sizes (replayed_at pairs h e.request.ask.key)) e.request e.moment c makes.makes)

  pub take_fits : AreReplays pairs h s → ((key : Key) → part_value pieces_len (pieces_of s key) ≡ part_value length (bytes_of s key)) → IsTrue (fits (part_value pieces_len (pieces_of s c.key)) c.act)
  take_fits are same =
      subst (λ (k : Key). IsTrue (fits (part_value pieces_len (pieces_of s k)) c.act)) (sym (own_change pairs h s e c makes).0)
      (subst (λ (z : Part ℕ). IsTrue (fits z c.act)) (sym (same e.request.ask.key ∙ ap (λ (p : Part (List ℕ)). sizes p) (are.bytes e.request.ask.key makes.covered)))
      (own_change pairs h s e c makes).1)

  -- the slot after a try of the change
  pub slot_tried : (t : Stored) (h' : Histories) (d : Option Past) (r : Result (Unit {0}) TakeFault) → IsTaken r s (c, e.epoch) t → h' ≡ with_taken r h e → d ≡ doubted_entry r e
      → slot_with pairs h' t d ≡ slot_taken r (slot_with pairs h s None) e
  slot_tried t h' d r taken same left = λ i. record {
    histories = same i;
    pairs = pairs;
    from = (taken_range pairs h s e c makes t r taken i).from;
    to = (taken_range pairs h s e c makes t r taken i).to;
    doubt = left i;
  }

  pub tried_kept : (t : Stored) (h' : Histories) (d : Option Past) (r : Result (Unit {0}) TakeFault) → AreReplays pairs h s → IsTaken r s (c, e.epoch) t → h' ≡ with_taken r h e → d ≡ doubted_entry r e
      → AreOfStreams pairs h' t d
  tried_kept t h' d r are taken same left =
      subst (λ (x : Option Past). AreOfStreams pairs h' t x) (sym left)
      (subst (λ (g : Histories). AreOfStreams pairs g t (doubted_entry r e)) (sym same) (taken_kept pairs h s e c makes t r are taken))
