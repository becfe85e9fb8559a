-- ETags of a blob before and after a change, and along a history.
use Rattle.std.proofs.Common.{◌≡◌, ◌≤◌, ℕ, ◌+◌, inl, inr, Bool, true, false, cond, arith, List, [], ◌∷◌, ◌++◌, Option, Some, None, IfSome, map, refl, sym, ap, ◌∙◌, subst, unwrap_or}
use Rattle.std.proofs.lemmas.List.Sums.{fold-append}
use Rattle.std.proofs.lemmas.List.{map-append}
use Rattle.std.specs.FinMap as finite
use Rattle.std.specs.Option.{option_map}
use Rattle.std.specs.Ordering.{eq_by_cmp}
use Rattle.stamp_values.specs.Order.{name_cmp, names_total, names_exact}
use Rattle.stamp_values.specs.declared.key.Key.{Key}
use Rattle.stamp_types.specs.declared.act.Act.{Act}
use Rattle.stamp_types.specs.declared.act.Act.TheVariants as act
use Rattle.stamp_types.specs.declared.act.SetMetadata.{SetMetadata}
use Rattle.stamp_types.specs.declared.committed.Committed.{Committed}
use Rattle.stamp_types.specs.declared.past.Past.{Past}
use Rattle.stamp_types.specs.declared.piece.Piece.{Piece}
use Rattle.stamp_types.specs.ActKinds.{is_row}
use Rattle.stamp_types.specs.EffectKinds.{EtagsAtMost}
use Rattle.stamp_types.specs.Pieces.{held}
use Rattle.stamp_types.specs.Requests.{Asked}
use Rattle.stamp_types.specs.World.{Blob, Part, World, no_blob, no_part, blob_in, part_at, changed, with_committed, committed_with_metadata}
use Rattle.stamp_types.proofs.ActLaws.{count-changed}
use Rattle.stamp_types.proofs.WorldLemmas.{equal_if_is_eq}
use Rattle.access_rules.specs.declared.keys.Keys.{Keys}
use Rattle.range_rows.specs.SentContent.{byte_count, sizes}
use Rattle.range_rows.specs.RequestChanges.{act_by, change_of, part_after}
use Rattle.stamp_model.specs.Effects.{effect}
use Rattle.stamp_model.specs.Etags.{IsSeenBeforeOrNewer, WasSeenOrIsNewer}
use Rattle.stamp_model.specs.Histories.{replay}
use Rattle.stamp_model.specs.Refusals.{refusal}
use Rattle.stamp_model.specs.AcceptedRequests.{accepted_at, timed_by}
use Rattle.stamp_model.specs.Runs.{Timed, part_after_one, part_after_all, world_after_all}
use Rattle.stamp_model.proofs.CountLemmas.{KeepsBound, KeepsBound-after, KeepsBound-same, said_of_act_by}
use Rattle.stamp_model.proofs.EffectLemmas.{related-after_act, related-unless_refused, related-effect}
use Rattle.stamp_model.proofs.AcceptedLemmas.{accepted_at-append, part_at-run, replay_from-timed}

-- ---- one change

module _ {C : Type 0} (f : List Piece → C) (p : Part C) (name : List ℕ) where
  abbrev seen : Option (Committed C)
  seen = (blob_in p name).committed

  abbrev SeenOrNewer : Option (Committed C) → Type 0
  SeenOrNewer o = IfSome o (WasSeenOrIsNewer p name)

  as_seen : (o : Option (Committed C)) → seen ≡ o → SeenOrNewer o
  as_seen None same = tt
  as_seen (Some c) same = inl same

  chosen : (k : List ℕ) (b : Bool) (x : Blob C) → eq_by_cmp name_cmp name k ≡ b → (name ≡ k → SeenOrNewer x.committed)
      → SeenOrNewer (unwrap_or (cond b (Some x) (finite.get p.blobs name)) no_blob).committed
  chosen k true x e new = new (names_exact name k (equal_if_is_eq (name_cmp name k) e))
  chosen k false x e new = as_seen seen refl

  inserted : (k : List ℕ) (x : Blob C) → (name ≡ k → SeenOrNewer x.committed) → SeenOrNewer (unwrap_or (finite.get (finite.insert p.blobs k x) name) no_blob).committed
  inserted k x new =
      subst (λ (o : Option (Blob C)). SeenOrNewer (unwrap_or o no_blob).committed) (sym (finite.get-insert names_total p.blobs k x name))
      (chosen k (eq_by_cmp name_cmp name k) x refl new)

  left : (b : Bool) → SeenOrNewer (unwrap_or (cond b None (finite.get p.blobs name)) no_blob).committed
  left true = tt
  left false = as_seen seen refl

  with_metadata : (a : SetMetadata) (o : Option (Committed C))
      → SeenOrNewer (unwrap_or (finite.get (with_committed p a.blob (option_map (committed_with_metadata (p.count + 1) a) o)) name) no_blob).committed
  with_metadata a None = as_seen seen refl
  with_metadata a (Some c) = inserted a.blob _ (λ same. inr (omega arith))

  -- after a change readers see of a blob what they saw before, or nothing, or what is newer
  pub seen_or_newer : (a : Act) → is_row a ≡ false → IsSeenBeforeOrNewer p (changed f a p) name
  seen_or_newer (act.CreateContainer a) kind = as_seen seen refl
  seen_or_newer (act.SetContainerMetadata a) kind = as_seen seen refl
  seen_or_newer (act.SetAcl a) kind = as_seen seen refl
  seen_or_newer act.DeleteContainer kind = subst (λ (o : Option (Blob C)). SeenOrNewer (unwrap_or o no_blob).committed) (sym (finite.get-empty name_cmp name)) tt
  seen_or_newer (act.PutBlob a) kind = inserted a.blob _ (λ same. inr (omega arith))
  seen_or_newer (act.SetMetadata a) kind = with_metadata a (blob_in p a.blob).committed
  seen_or_newer (act.DeleteBlob a) kind =
      subst (λ (o : Option (Blob C)). SeenOrNewer (unwrap_or o no_blob).committed) (sym (finite.get-remove names_total p.blobs a.blob name)) (left (eq_by_cmp name_cmp name a.blob))
  seen_or_newer (act.PutBlock a) kind = inserted a.blob _ (λ same. as_seen (blob_in p a.blob).committed (ap (λ (n : List ℕ). (blob_in p n).committed) same))
  seen_or_newer (act.PutBlockList a) kind = inserted a.blob _ (λ same. inr (omega arith))
  seen_or_newer (act.ContainerRow a) kind = cc
  seen_or_newer (act.StoredBlob a) kind = cc

-- ---- a later container

-- no change is taken back, and what readers see of the blob they saw before, or it is newer
pub record IsLater (name : List ℕ) (p r : Part (List ℕ)) : Type 0 where
  pub count : p.count ≤ r.count
  pub blob : IsSeenBeforeOrNewer p r name

module _ (name : List ℕ) where
  pub IsLater-same : (p : Part (List ℕ)) → IsLater name p p
  IsLater-same p = record { count = omega arith; blob = as_seen held p name (blob_in p name).committed refl }

  through : (p r : Part (List ℕ)) (o : Option (Committed (List ℕ))) → p.count ≤ r.count → IsSeenBeforeOrNewer p r name
      → IfSome o (WasSeenOrIsNewer r name) → IfSome o (WasSeenOrIsNewer p name)
  through p r None least first second = tt
  through p r (Some c) least first (inl same) = subst (λ (o : Option (Committed (List ℕ))). IfSome o (WasSeenOrIsNewer p name)) same first
  through p r (Some c) least first (inr newer) = inr (omega arith)

  pub IsLater-then : (p r s : Part (List ℕ)) → IsLater name p r → IsLater name r s → IsLater name p s
  IsLater-then p r s first second = record {
    count = let a : p.count ≤ r.count = first.count in let b : r.count ≤ s.count = second.count in omega arith;
    blob = through p r (blob_in s name).committed first.count first.blob second.blob;
  }

  later_by : (p : Part (List ℕ)) (a : Act) → is_row a ≡ false → IsLater name p (changed held a p)
  later_by p a kind = record {
    count = let one : (changed held a p).count ≡ p.count + 1 = count-changed held p a kind in omega arith;
    blob = seen_or_newer held p name a kind;
  }

  later_own : (q : Asked) (t : ℕ) (z : Part ℕ) (p : Part (List ℕ)) → IsLater name p (part_after held (change_of z q t) p)
  later_own q t z p =
      related-after_act held (IsLater name) IsLater-same q.ask.key p (act_by q.ask.op z q t)
      (said_of_act_by z q t (λ a. IsLater name p (changed held a p)) (later_by p) q.ask.op)

  -- each container is later after a request
  pub later-effect : (keys : Option Keys) (w : World (List ℕ)) (q : Asked) (t : ℕ) (k : Key) → IsLater name (part_at w k) (part_at (effect keys w q t) k)
  later-effect keys w q t = related-effect held (IsLater name) IsLater-same byte_count keys w q t (later_own q t)

  -- a container is later after requests on it in turn
  pub later-run : (start : Part (List ℕ)) (rs : List Timed) → IsLater name start (part_after_all start rs)
  later-run start [] = IsLater-same start
  later-run start (r ∷ rest) =
      IsLater-then start (part_after_one start r) (part_after_all (part_after_one start r) rest)
      (related-unless_refused held (IsLater name) IsLater-same start (refusal r.keys (sizes start) r.request r.moment) (change_of (sizes start) r.request r.moment) (later_own r.request r.moment (sizes start) start))
      (later-run (part_after_one start r) rest)

-- ---- no ETag is over the count

etags-run : (start : Part (List ℕ)) (rs : List Timed) → KeepsBound start (part_after_all start rs)
etags-run start [] within = within
etags-run start (r ∷ rest) within =
    etags-run (part_after_one start r) rest
    (related-unless_refused held KeepsBound KeepsBound-same start (refusal r.keys (sizes start) r.request r.moment) (change_of (sizes start) r.request r.moment) (KeepsBound-after r.request r.moment (sizes start) start) within)

EtagsAtMost-no_part : EtagsAtMost {C = List ℕ} 0 no_part
EtagsAtMost-no_part = record {
  container = tt;
  blobs = λ name. subst (λ (o : Option (Blob (List ℕ))). IfSome (unwrap_or o no_blob).committed (λ c. c.etag ≤ 0)) (sym (finite.get-empty name_cmp name)) tt;
}

-- ---- one ETag, one state

module _ (name : List ℕ) (p m s : Part (List ℕ)) (within : EtagsAtMost p.count p) (first : IsLater name p m) (second : IsLater name m s) (a c : Committed (List ℕ))
    (at_first : (blob_in p name).committed ≡ Some a) (at_last : (blob_in s name).committed ≡ Some c) (same : a.etag ≡ c.etag) where
  bounded : a.etag ≤ p.count
  bounded = subst (λ (o : Option (Committed (List ℕ))). IfSome o (λ c. c.etag ≤ p.count)) at_first (within.blobs name)

  in_middle : WasSeenOrIsNewer m name c → (blob_in m name).committed ≡ Some c
  in_middle (inl there) = there
  in_middle (inr newer) = absurd (let least : p.count ≤ m.count = first.count in let most : a.etag ≤ p.count = bounded in omega arith)

  middle_last : (blob_in m name).committed ≡ Some c
  middle_last = in_middle (subst (λ (o : Option (Committed (List ℕ))). IfSome o (WasSeenOrIsNewer m name)) at_last second.blob)

  at_start : WasSeenOrIsNewer p name c → (blob_in p name).committed ≡ Some c
  at_start (inl there) = there
  at_start (inr newer) = absurd (let most : a.etag ≤ p.count = bounded in omega arith)

  -- a blob that has one ETag twice is in between what it is the first time
  pub middle_first : (blob_in m name).committed ≡ Some a
  middle_first =
      middle_last
      ∙ sym (at_start (subst (λ (o : Option (Committed (List ℕ))). IfSome o (WasSeenOrIsNewer p name)) middle_last first.blob))
      ∙ at_first

-- the same, before a request and after it
pub one_state : (keys : Option Keys) (w : World (List ℕ)) (q : Asked) (t : ℕ) (k : Key) (name : List ℕ) (a c : Committed (List ℕ)) → EtagsAtMost (part_at w k).count (part_at w k)
    → (blob_in (part_at w k) name).committed ≡ Some a → (blob_in (part_at (effect keys w q t) k) name).committed ≡ Some c → a.etag ≡ c.etag → a ≡ c
one_state keys w q t k name a c within before after same =
    let p : Part (List ℕ) = part_at w k in
    let s : Part (List ℕ) = part_at (effect keys w q t) k in
    let equal : Some c ≡ Some a = sym after ∙ middle_first name p s s within (later-effect name keys w q t k) (IsLater-same name s) a c before after same in
    cc

-- the same, along requests on the container in turn
one_state-part : (p : Part (List ℕ)) → EtagsAtMost p.count p → (front middle rest : List Timed) (name : List ℕ) (a c : Committed (List ℕ)) → (blob_in (part_after_all p front) name).committed ≡ Some a
    → (blob_in (part_after_all p (front ++ middle ++ rest)) name).committed ≡ Some c → a.etag ≡ c.etag → (blob_in (part_after_all p (front ++ middle)) name).committed ≡ Some a
one_state-part p within front middle rest name a c at_first at_last same =
    let s : Part (List ℕ) = part_after_all p front in
    let m : Part (List ℕ) = part_after_all s middle in
    let to_middle : part_after_all p (front ++ middle) ≡ m = fold-append part_after_one p front middle in
    let to_last : part_after_all p (front ++ middle ++ rest) ≡ part_after_all m rest =
    fold-append part_after_one p (front ++ middle) rest ∙ ap (λ (x : Part (List ℕ)). part_after_all x rest) to_middle in
    ap (λ (x : Part (List ℕ)). (blob_in x name).committed) to_middle
    ∙ middle_first name s m (part_after_all m rest) (etags-run p front within) (later-run name s middle) (later-run name m rest) a c at_first
    (ap (λ (x : Part (List ℕ)). (blob_in x name).committed) (sym to_last) ∙ at_last) same

-- the same, along the entries of a history
pub one_state-replayed : (pairs : List Keys) (front middle rest : List Past) (name : List ℕ) (a c : Committed (List ℕ)) → (blob_in (replay pairs front) name).committed ≡ Some a
    → (blob_in (replay pairs (front ++ middle ++ rest)) name).committed ≡ Some c → a.etag ≡ c.etag → (blob_in (replay pairs (front ++ middle)) name).committed ≡ Some a
one_state-replayed pairs front middle rest name a c at_first at_last same =
    let entry : Past → Timed = timed_by pairs in
    let to_first : replay pairs front ≡ part_after_all no_part (map entry front) = replay_from-timed pairs front no_part in
    let to_middle : replay pairs (front ++ middle) ≡ part_after_all no_part (map entry front ++ map entry middle) =
    replay_from-timed pairs (front ++ middle) no_part ∙ ap (part_after_all no_part) (map-append entry front middle) in
    let to_last : replay pairs (front ++ middle ++ rest) ≡ part_after_all no_part (map entry front ++ map entry middle ++ map entry rest) =
    replay_from-timed pairs (front ++ middle ++ rest) no_part
    ∙ ap (part_after_all no_part) (map-append entry (front ++ middle) rest ∙ ap (λ (l : List Timed). l ++ map entry rest) (map-append entry front middle)) in
    ap (λ (x : Part (List ℕ)). (blob_in x name).committed) to_middle
    ∙ one_state-part no_part EtagsAtMost-no_part (map entry front) (map entry middle) (map entry rest) name a c
    (ap (λ (x : Part (List ℕ)). (blob_in x name).committed) (sym to_first) ∙ at_first)
    (ap (λ (x : Part (List ℕ)). (blob_in x name).committed) (sym to_last) ∙ at_last) same

-- the same, along requests in turn, which may be on any containers
pub one_state-run : (w : World (List ℕ)) (key : Key) → EtagsAtMost (part_at w key).count (part_at w key) → (front middle rest : List Timed) (name : List ℕ) (a c : Committed (List ℕ))
    → (blob_in (part_at (world_after_all w front) key) name).committed ≡ Some a → (blob_in (part_at (world_after_all w (front ++ middle ++ rest)) key) name).committed ≡ Some c
    → a.etag ≡ c.etag → (blob_in (part_at (world_after_all w (front ++ middle)) key) name).committed ≡ Some a
one_state-run w key within front middle rest name a c at_first at_last same =
    let p : Part (List ℕ) = part_at w key in
    let early : List Timed = accepted_at key w front in
    let between : List Timed = accepted_at key (world_after_all w front) middle in
    let late : List Timed = accepted_at key (world_after_all w (front ++ middle)) rest in
    let to_middle : part_at (world_after_all w (front ++ middle)) key ≡ part_after_all p (early ++ between) =
    part_at-run key (front ++ middle) w ∙ ap (part_after_all p) (accepted_at-append key front middle w) in
    let to_last : part_at (world_after_all w (front ++ middle ++ rest)) key ≡ part_after_all p (early ++ between ++ late) =
    part_at-run key (front ++ middle ++ rest) w
    ∙ ap (part_after_all p) (accepted_at-append key (front ++ middle) rest w ∙ ap (λ (l : List Timed). l ++ late) (accepted_at-append key front middle w)) in
    ap (λ (x : Part (List ℕ)). (blob_in x name).committed) to_middle
    ∙ one_state-part p within early between late name a c
    (ap (λ (x : Part (List ℕ)). (blob_in x name).committed) (sym (part_at-run key front w)) ∙ at_first)
    (ap (λ (x : Part (List ℕ)). (blob_in x name).committed) (sym to_last) ∙ at_last) same
