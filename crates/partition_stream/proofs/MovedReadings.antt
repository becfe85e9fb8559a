-- What rows make of a container, with each content read, is the same once their content is moved.
use Rattle.std.proofs.Common.{◌≡◌, ◌∙◌, Bool, true, false, cond, Option, Some, None, List, [], ◌∷◌, map, filter, ap, sym, refl}
use Rattle.std.specs.Option.{option_map}
use Rattle.std.specs.Ordering.{eq_by_cmp}
use Rattle.std.specs.FinMap as finite
use Rattle.extent_node.specs.Copies.{Block}
use Rattle.stamp_values.specs.Order.{key_cmp, name_cmp}
use Rattle.stamp_values.specs.declared.key.Key.{Key}
use Rattle.stamp_types.specs.World.{Part, block_value, changed, committed_value, uncommitted_entry}
use Rattle.stamp_types.specs.declared.act.Act.{Act}
use Rattle.stamp_types.specs.declared.act.Act.TheVariants as act
use Rattle.stamp_types.specs.declared.committed.Block as stored
use Rattle.stamp_types.specs.declared.committed.Committed.{Committed}
use Rattle.stamp_types.specs.declared.committed.UncommittedBlock.{UncommittedBlock}
use Rattle.stamp_types.specs.declared.piece.Piece.{Piece}
use Rattle.partition_stream.specs.Changes.{Recorded}
use Rattle.partition_stream.specs.Compactions.{AreMoved, AreMovedBlocks, AreMovedRecords, AreMovedUncommitted, IsMovedAct, IsMovedBlock, IsMovedCommitted, IsMovedPart, IsMovedRecord, IsMovedUncommitted}
use Rattle.partition_stream.specs.Meanings.{acts_on, after_acts, is_on}
use Rattle.partition_stream.proofs.MovedRowLemmas.{zip_map}

-- the acts of a container, if the first of these changes is of this container and if it is not
acts_next : (key : Key) (c : Recorded) (cs : List Recorded) (b : Bool) → is_on key c ≡ b → acts_on key (c ∷ cs) ≡ cond b (c.0.act ∷ acts_on key cs) (acts_on key cs)
acts_next key c cs true on = ap (λ b. map (λ (d : Recorded). d.0.act) (cond b (c ∷ filter (is_on key) cs) (filter (is_on key) cs))) on
acts_next key c cs false on = ap (λ b. map (λ (d : Recorded). d.0.act) (cond b (c ∷ filter (is_on key) cs) (filter (is_on key) cs))) on

-- f reads the content in the old data, and g reads the content that is moved alike
module _ {C : Type 0} (es fs : List (List Block)) (f g : List Piece → C) (alike : (ps qs : List Piece) → AreMoved es ps fs qs → g qs ≡ f ps) where
  block_read : (b c : stored.Block (List Piece)) → IsMovedBlock es b fs c → block_value g c ≡ block_value f b
  block_read b c m = λ i. record { id = m.id i; content = alike b.content c.content m.content i }

  blocks_read : (bs cs : List (stored.Block (List Piece))) → AreMovedBlocks es bs fs cs → map (block_value g) cs ≡ map (block_value f) bs
  blocks_read bs cs m = zip_map (λ b c. IsMovedBlock es b fs c) (block_value f) (block_value g) block_read bs cs m

  committed_read : (c d : Committed (List Piece)) → IsMovedCommitted es c fs d → committed_value g d ≡ committed_value f c
  committed_read c d m = λ i. record { etag = m.etag i; made = m.made i; props = m.props i; metadata = m.metadata i; blocks = blocks_read c.blocks d.blocks m.blocks i }

  part_read : (o p : Option (Committed (List Piece))) → IsMovedPart es o fs p → option_map (committed_value g) p ≡ option_map (committed_value f) o
  part_read None None m = refl
  part_read None (Some d) m = absurd m
  part_read (Some c) None m = absurd m
  part_read (Some c) (Some d) m = ap (λ e. Some e) (committed_read c d m)

  uncommitted_read : (us vs : List UncommittedBlock) → AreMovedUncommitted es us fs vs → map (uncommitted_entry g) vs ≡ map (uncommitted_entry f) us
  uncommitted_read us vs m =
      zip_map (λ u v. IsMovedUncommitted es u fs v) (uncommitted_entry f) (uncommitted_entry g) (λ u v is. λ i. (is.id i, alike u.content v.content is.content i)) us vs m

  -- a row that is moved makes the same of each container
  act_read : (a b : Act) → IsMovedAct es a fs b → (p : Part C) → changed g b p ≡ changed f a p
  act_read (act.StoredBlob a) (act.StoredBlob b) m p = λ i. record {
    count = p.count;
    standing = p.standing;
    blobs = finite.insert p.blobs (m.blob i) (record {
      committed = part_read a.committed b.committed m.committed i;
      uncommitted = finite.from_entries {R = name_cmp} (uncommitted_read a.uncommitted b.uncommitted m.uncommitted i);
    });
  }
  act_read (act.ContainerRow a) (act.ContainerRow b) m p = ap (λ r. changed f (act.ContainerRow r) p) m
  act_read a b m p = absurd m

  -- one row, and then others that make the same of each container
  next_read : (key : Key) (c d : Recorded) (cs ds : List Recorded) (p : Part C) (b : Bool) → is_on key c ≡ b → IsMovedRecord es c fs d
      → ((q : Part C) → after_acts g (acts_on key ds) q ≡ after_acts f (acts_on key cs) q)
      → after_acts g (acts_on key (d ∷ ds)) p ≡ after_acts f (acts_on key (c ∷ cs)) p
  next_read key c d cs ds p true on m others =
      ap (λ acts. after_acts g acts p) (acts_next key d ds true (ap (λ k. eq_by_cmp key_cmp k key) m.change.key ∙ on))
      ∙ others (changed g d.0.act p)
      ∙ ap (after_acts f (acts_on key cs)) (act_read c.0.act d.0.act m.change.act p)
      ∙ sym (ap (λ acts. after_acts f acts p) (acts_next key c cs true on))
  next_read key c d cs ds p false on m others =
      ap (λ acts. after_acts g acts p) (acts_next key d ds false (ap (λ k. eq_by_cmp key_cmp k key) m.change.key ∙ on)) ∙ others p
      ∙ sym (ap (λ acts. after_acts f acts p) (acts_next key c cs false on))

  -- rows that are moved make the same of each container
  pub rows_read : (key : Key) (cs ds : List Recorded) → AreMovedRecords es cs fs ds → (p : Part C) → after_acts g (acts_on key ds) p ≡ after_acts f (acts_on key cs) p
  rows_read key [] [] m p = refl
  rows_read key [] (d ∷ ds) m p = absurd m
  rows_read key (c ∷ cs) [] m p = absurd m
  rows_read key (c ∷ cs) (d ∷ ds) m p = next_read key c d cs ds p (is_on key c) refl m.0 (λ q. rows_read key cs ds m.1 q)
