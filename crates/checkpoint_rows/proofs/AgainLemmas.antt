-- The rows of all containers make each container again.
use Rattle.std.proofs.Common.{◌≡◌, ◌∙◌, ◌&&◌, ◌==◌, Bool, true, false, cond, T, List, [], ◌∷◌, ◌++◌, All, map, filter, Option, Some, None, refl, sym, ap, subst, unwrap_or}
use Rattle.std.specs.Cmp.{eq_by_cmp_equiv}
use Rattle.std.specs.Ordering.{eq_by_cmp, is_eq, is_lt}
use Rattle.std.specs.declared.cmp.Ordering.{Ordering}
use Rattle.std.specs.declared.cmp.Ordering.TheVariants.{Less, Equal, Greater}
use Rattle.std.specs.FinMap as finite
use Rattle.std.specs.FinMap.{entries, entries_sorted, find, get-entries, is_sorted}
use Rattle.std.specs.FinMap.Entries.{below_all}
use Rattle.std.proofs.lemmas.Bool.{eqb-true}
use Rattle.std.proofs.lemmas.List.{map-append}
use Rattle.std.proofs.lemmas.List.Concat.{flat_map-cons}
use Rattle.std.proofs.lemmas.List.Elements.{All-head, All-tail, All-weaker, filter-append}
use Rattle.std.proofs.lemmas.List.Sums.{fold-append}
use Rattle.std.proofs.lemmas.Map.Views.{tells_apart}
use Rattle.stamp_values.specs.Order.{key_cmp, keys_exact, keys_total}
use Rattle.stamp_values.specs.declared.key.Key.{Key}
use Rattle.stamp_types.specs.declared.act.Act.{Act}
use Rattle.stamp_types.specs.declared.act.Act.TheVariants as act
use Rattle.stamp_types.specs.declared.piece.Piece.{Piece}
use Rattle.stamp_types.specs.World.{Part, World, changed, no_part, part_at, same_pieces}
use Rattle.row_trees.specs.RowRecords.{blob_row_of, container_row_of}
use Rattle.row_trees.proofs.CheckpointLemmas.{made_again}
use Rattle.partition_stream.specs.Changes.{Recorded}
use Rattle.partition_stream.specs.Checkpoints.{made_by}
use Rattle.partition_stream.specs.Meanings.{acts_on, after_acts, is_on}
use Rattle.checkpoint_rows.specs.Writing.{AreWritable, IsWritable, all_records, container_records, recorded, written_acts}
use Rattle.checkpoint_rows.proofs.ReadyLemmas.{writable_entries}

-- ---- the rows of one container

-- the rows of a container that has seen no change make it of one that never was
unseen_again : (p : Part (List Piece)) → p.count ≡ 0 → p.standing ≡ None → after_acts same_pieces (map blob_row_of (entries p.blobs)) no_part ≡ p
unseen_again p zero none =
    let begun : no_part ≡ changed same_pieces (act.ContainerRow (container_row_of p)) no_part = λ i. record { count = sym zero i; standing = sym none i; blobs = finite.empty } in
    ap (λ (q : Part (List Piece)). after_acts same_pieces (map blob_row_of (entries p.blobs)) q) begun ∙ made_again p

-- the rows of a container that can be written make it again
written_again : (p : Part (List Piece)) → (p.count ≡ 0 → p.standing ≡ None) → after_acts same_pieces (written_acts p) no_part ≡ p
written_again p unseen = by (p.count == 0) refl
  where
    by : (b : Bool) → (p.count == 0) ≡ b → after_acts same_pieces (written_acts p) no_part ≡ p
    by true is =
        ap (λ c. after_acts same_pieces (cond c [] (act.ContainerRow (container_row_of p) ∷ []) ++ map blob_row_of (entries p.blobs)) no_part) is
        ∙ unseen_again p (eqb-true p.count 0 is) (unseen (eqb-true p.count 0 is))
    by false is =
        ap (λ c. after_acts same_pieces (cond c [] (act.ContainerRow (container_row_of p) ∷ []) ++ map blob_row_of (entries p.blobs)) no_part) is ∙ made_again p

-- ---- the rows of one container among those of others

acts_on-more : (key : Key) (cs ds : List Recorded) → acts_on key (cs ++ ds) ≡ acts_on key cs ++ acts_on key ds
acts_on-more key cs ds =
    ap (map (λ (c : Recorded). c.0.act)) (filter-append (is_on key) cs ds) ∙ map-append (λ (c : Recorded). c.0.act) (filter (is_on key) cs) (filter (is_on key) ds)

-- all acts of one container, or none
own_rows : (key k : Key) (acts : List Act) (b : Bool) → eq_by_cmp key_cmp k key ≡ b → acts_on key (map (recorded k) acts) ≡ cond b acts []
own_rows key k [] true is = refl
own_rows key k [] false is = refl
own_rows key k (a ∷ acts) true is =
    ap (λ b. map (λ (c : Recorded). c.0.act) (cond b (recorded k a ∷ filter (is_on key) (map (recorded k) acts)) (filter (is_on key) (map (recorded k) acts)))) is
    ∙ ap (λ l. a ∷ l) (own_rows key k acts true is)
own_rows key k (a ∷ acts) false is =
    ap (λ b. map (λ (c : Recorded). c.0.act) (cond b (recorded k a ∷ filter (is_on key) (map (recorded k) acts)) (filter (is_on key) (map (recorded k) acts)))) is
    ∙ own_rows key k acts false is

parts : (a b : Bool) → T (a && b) → T a × T b
parts true b h = (tt, h)
parts false b h = absurd h

-- a key that comes after another is not the other
not_same : (r : Ordering) → T (is_lt r) → is_eq r ≡ true → ⊥
not_same Less h e = cc
not_same Equal h e = h
not_same Greater h e = h

off : (b : Bool) → (b ≡ true → ⊥) → b ≡ false
off true no_way = absurd (no_way refl)
off false no_way = refl

later_is_other : (k l : Key) → T (is_lt (key_cmp k l)) → eq_by_cmp key_cmp l k ≡ false
later_is_other k l less =
    off (eq_by_cmp key_cmp l k)
    (λ same. not_same (key_cmp k k) (subst (λ x. T (is_lt (key_cmp k x))) (tells_apart keys_exact l k same) less) ((eq_by_cmp_equiv keys_total).refl k))

-- no container after a key is the container of the key
none_after : (k : Key) (es : List (Key × Part (List Piece))) → T (below_all key_cmp k es) → acts_on k (all_records es) ≡ []
none_after k [] up = refl
none_after k (e ∷ es) up =
    let rise = parts (is_lt (key_cmp k e.0)) (below_all key_cmp k es) up in
    ap (acts_on k) (flat_map-cons container_records e es) ∙ acts_on-more k (container_records e) (all_records es)
    ∙ ap (λ l. l ++ acts_on k (all_records es)) (own_rows k e.0 (written_acts e.1) false (later_is_other k e.0 rise.0))
    ∙ none_after k es rise.1

abbrev found_or : Option (Part (List Piece)) → Part (List Piece)
found_or o = unwrap_or o no_part

-- a container that has seen no change has nothing beside its blobs
abbrev IsUnseen : Key × Part (List Piece) → Type 0
IsUnseen e = e.1.count ≡ 0 → e.1.standing ≡ None

made : (key : Key) (e : Key × Part (List Piece)) (es : List (Key × Part (List Piece))) (b : Bool) → eq_by_cmp key_cmp e.0 key ≡ b → T (below_all key_cmp e.0 es) → IsUnseen e
    → made_by (all_records es) key ≡ found_or (find key_cmp key es) → made_by (all_records (e ∷ es)) key ≡ found_or (find key_cmp key (e ∷ es))
made key e es true is up unseen others =
    let same : e.0 ≡ key = tells_apart keys_exact e.0 key is in
    let here : is_eq (key_cmp key e.0) ≡ true = subst (λ k. is_eq (key_cmp k e.0) ≡ true) same ((eq_by_cmp_equiv keys_total).refl e.0) in
    let none : acts_on key (all_records es) ≡ [] = subst (λ k. acts_on k (all_records es) ≡ []) same (none_after e.0 es up) in
    ap (λ acts. after_acts same_pieces acts no_part)
    (ap (acts_on key) (flat_map-cons container_records e es) ∙ acts_on-more key (container_records e) (all_records es)
    ∙ (λ i. own_rows key e.0 (written_acts e.1) true is i ++ none i))
    ∙ fold-append (λ q a. changed same_pieces a q) no_part (written_acts e.1) []
    ∙ written_again e.1 unseen
    ∙ sym (ap (λ b. found_or (cond b (Some e.1) (find key_cmp key es))) here)
made key e es false is up unseen others =
    let elsewhere : is_eq (key_cmp key e.0) ≡ false = off (is_eq (key_cmp key e.0)) (λ same.
    let wrong : true ≡ false = sym (subst (λ k. eq_by_cmp key_cmp e.0 k ≡ true) (sym (tells_apart keys_exact key e.0 same)) ((eq_by_cmp_equiv keys_total).refl e.0)) ∙ is in cc) in
    ap (λ acts. after_acts same_pieces acts no_part)
    (ap (acts_on key) (flat_map-cons container_records e es) ∙ acts_on-more key (container_records e) (all_records es)
    ∙ ap (λ l. l ++ acts_on key (all_records es)) (own_rows key e.0 (written_acts e.1) false is))
    ∙ others
    ∙ sym (ap (λ b. found_or (cond b (Some e.1) (find key_cmp key es))) elsewhere)

each_made : (key : Key) (es : List (Key × Part (List Piece))) → T (is_sorted key_cmp es) → All IsUnseen es → made_by (all_records es) key ≡ found_or (find key_cmp key es)
each_made key [] up unseen = refl
each_made key (e ∷ es) up unseen =
    let rise = parts (below_all key_cmp e.0 es) (is_sorted key_cmp es) up in
    made key e es (eq_by_cmp key_cmp e.0 key) refl rise.0 (All-head IsUnseen e es unseen) (each_made key es rise.1 (All-tail IsUnseen e es unseen))

-- the rows of all containers of a world make each container of it again
pub world_again : (w : World (List Piece)) (key : Key) → AreWritable w → made_by (all_records (entries w)) key ≡ part_at w key
world_again w key writable =
    each_made key (entries w) (entries_sorted w)
    (All-weaker (λ (e : Key × Part (List Piece)). IsWritable e.0 e.1) IsUnseen (λ e can. can.unseen) (entries w) (writable_entries w writable))
    ∙ ap found_or (sym (get-entries w key))
