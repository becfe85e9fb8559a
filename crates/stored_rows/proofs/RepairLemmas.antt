-- Stored rows of which an extent of a stream was repaired: they mean what they meant, and the node has a copy.
use Rattle.std.proofs.Common.{◌≡◌, ◌≤◌, ◌<◌, ◌∙◌, ◌++◌, ℕ, inl, inr, Bool, true, List, IfSome, IsSomeAnd, Option, Some, Result, Ok, Err, length, slice_set, refl, sym, ap, subst}
use Rattle.std.proofs.lemmas.List.{get_or-set_same, length-set}
use Rattle.std.proofs.lemmas.Option.{slice_get-get_or, slice_get_cases}
use Rattle.std.specs.Prelude.{◌↔◌, OnOk}
use Rattle.std.specs.List.{slice_get}
use Rattle.std.specs.Option.{option_map, option_map_or}
use Rattle.extent_node.specs.Faults.{Calls}
use Rattle.extent_node.specs.declared.wire.Node.{Node}
use Rattle.extent_node.specs.declared.wire.Node.TheVariants as node
use Rattle.extent_seal.specs.Counting.{Grows, all_faults}
use Rattle.extent_seal.specs.Extents.{Closed, Three, answer_of}
use Rattle.extent_seal.specs.Repairs.{with_copy, with_yes}
use Rattle.stamp_values.specs.declared.key.Key.{Key}
use Rattle.stamp_types.specs.Changes.{KeyedAct}
use Rattle.stamp_types.specs.World.{World, no_part, part_at}
use Rattle.stamp_types.specs.declared.piece.Piece.{Piece}
use Rattle.stream_manager.specs.Repairs.{repaired}
use Rattle.stream_manager.specs.Streams.{Streamed}
use Rattle.stream_manager.specs.declared.faults.RepairFault.{RepairFault}
use Rattle.stream_manager.specs.declared.faults.RepairFault.TheVariants as repair
use Rattle.partition_stream.specs.Changes.{Recorded}
use Rattle.partition_stream.specs.Meanings.{acts_on, held_of, meaning}
use Rattle.partition_stream.specs.Streams.{Logged, ThreeStreams, logged}
use Rattle.stored_rows.specs.Repairs.{FailsRepair, HasCopyOn}
use Rattle.stored_rows.specs.Fitting.{AllFit, FitInTurn, Fits}
use Rattle.stored_rows.specs.Loaded.{AreLoaded, part_of}
use Rattle.stored_rows.specs.Ranges.{covers}
use Rattle.stored_rows.specs.States.{MeansTheSame}
use Rattle.stored_rows.specs.declared.key_range.KeyRange.{KeyRange}

module _ (s t : ThreeStreams) (same : logged t ≡ logged s) where
  -- what is true of all stored rows is true of them as before
  pub repaired_loaded : (o : Option (World (List Piece))) (d : Option KeyedAct) (range : KeyRange) → AreLoaded s o d range → AreLoaded t o d range
  unfolding AllFit
  repaired_loaded o d range old = record {
    fit = subst (λ (l : Logged). (key : Key) → FitInTurn (acts_on key (l.rows ++ l.log)) no_part) (sym same) old.fit;
    doubt = subst (λ (l : Logged). IfSome l.doubt (λ c. (covers range c.0.key ≡ true) × Fits (held_of l c.0.key) c.0.act)) (sym same) old.doubt;
    tried = subst (λ (l : Logged). d ≡ option_map (λ (c : Recorded). c.0) l.doubt) (sym same) old.tried;
    rows = subst (λ (l : Logged). IfSome o (λ (w : World (List Piece)). (key : Key) → part_at w key ≡ part_of range key (l.rows ++ l.log))) (sym same) old.rows;
  }

  pub repaired_means : (range : KeyRange) (b : Bool) → MeansTheSame (record { streams = s; range = range; is_loaded = b }) (record { streams = t; range = range; is_loaded = b })
  repaired_means range b = record {
    rows = ap (λ (l : Logged). l.rows) same;
    log = ap (λ (l : Logged). l.log) same;
    bytes = λ key. ap (λ (l : Logged). meaning l key) same;
    pieces = λ key. ap (λ (l : Logged). held_of l key) same;
    range = refl;
    loaded = refl;
  }

abbrev failed : RepairFault → Result (Unit {0}) RepairFault
failed f = Err f

-- a repair is Unreachable only if a fault was counted
pub repair_fails : (r : Result (Unit {0}) RepairFault) (a b : Calls) → (r ≡ failed repair.Unreachable → all_faults a < all_faults b) → Grows a b → FailsRepair r a b
repair_fails (Ok u) a b faulty grown = grown
repair_fails (Err repair.NoSuchExtent) a b faulty grown = grown
repair_fails (Err repair.Unreachable) a b faulty grown = (faulty refl, grown)
repair_fails (Err repair.NoMemory) a b faulty grown = grown

-- ---- the copy

answers_yes : (n : Node) (a : Three) → answer_of (with_yes n a) n ≡ true
answers_yes node.Zero a = refl
answers_yes node.One a = refl
answers_yes node.Two a = refl

copied_at : (n : Node) (e : ℕ) (s : Streamed) (c : Closed) → e < length s.sealed → slice_get s.sealed e ≡ Some c → HasCopyOn n e (repaired n e s)
copied_at n e s c inside is =
    let set : List Closed = slice_set s.sealed e (with_copy n c) in
    let here : slice_get set e ≡ Some (with_copy n c) =
    slice_get-get_or set e c (subst (λ (k : ℕ). e < k) (sym (length-set s.sealed e (with_copy n c))) inside)
    ∙ ap (λ (x : Closed). Some x) (get_or-set_same s.sealed e (with_copy n c) c inside) in
    subst (λ (o : Option Closed). IsSomeAnd (slice_get (option_map_or (λ x. slice_set s.sealed e (with_copy n x)) o s.sealed) e) (λ x. answer_of x.kept n ≡ true)) (sym is)
    (subst (λ (o : Option Closed). IsSomeAnd o (λ x. answer_of x.kept n ≡ true)) (sym here) (answers_yes n c.kept))

-- after a repair the node has a copy of a sealed extent of this number
pub copied_on : (n : Node) (e : ℕ) (s t : Streamed) (r : Result (Unit {0}) RepairFault) → ((r ≡ failed repair.NoSuchExtent) ↔ (length s.sealed ≤ e)) → OnOk r (t ≡ repaired n e s)
    → OnOk r (HasCopyOn n e t)
copied_on n e s t (Ok u) refused same = subst (λ (x : Streamed). HasCopyOn n e x) (sym same) (elim (slice_get_cases s.sealed e).1 [
  | inl found ↦ copied_at n e s found.0 found.1 found.2
  | inr past ↦ (let no : Ok u ≡ failed repair.NoSuchExtent = refused.1 past.0 in absurd cc)
])
copied_on n e s t (Err f) refused same = tt
