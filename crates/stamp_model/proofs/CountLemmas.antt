-- Counts: requests and entries of a history as changes, and the pair of an epoch.
use Rattle.std.proofs.Common.{◌≡◌, ℕ, ◌+◌, ◌⊎◌, inl, inr, Bool, true, false, cond, arith, List, [], ◌∷◌, ◌++◌, length, Option, Some, None, IfSome, refl, sym, ap, ◌∙◌, subst}
use Rattle.std.proofs.lemmas.Bool.Decides.{nat_tests}
use Rattle.std.specs.Prelude.{find, is_some, nat_eq}
use Rattle.std.specs.Option.{option_map}
use Rattle.stamp_values.specs.declared.key.Key.{Key}
use Rattle.stamp_values.specs.declared.op.Op.{Op}
use Rattle.stamp_values.specs.declared.op.Op.TheVariants as op
use Rattle.stamp_types.specs.declared.act.Act.{Act}
use Rattle.stamp_types.specs.declared.act.Act.TheVariants as act
use Rattle.stamp_types.specs.declared.past.Past.{Past}
use Rattle.stamp_types.specs.declared.refusal.Refusal.{Refusal}
use Rattle.stamp_types.specs.ActKinds.{is_row}
use Rattle.stamp_types.specs.EffectKinds.{EtagsAtMost}
use Rattle.stamp_types.specs.Requests.{Asked}
use Rattle.stamp_types.specs.Pieces.{held}
use Rattle.stamp_types.specs.World.{Part, World, part_at, changed}
use Rattle.stamp_types.proofs.ActLaws.{count-changed}
use Rattle.stamp_types.proofs.EffectLemmas.{etags_bounded}
use Rattle.access_rules.specs.declared.keys.Keys.{Keys}
use Rattle.range_rows.specs.SentContent.{byte_count, sizes}
use Rattle.range_rows.specs.RequestChanges.{create_container, delete_blob, set_acl, set_container_metadata, set_metadata, act_by, change_of, part_after}
use Rattle.stamp_model.specs.Effects.{unless_refused, effect}
use Rattle.stamp_model.specs.Histories.{pair_of, after_entry, replay_from, IsAccepted, IsLegalFrom}
use Rattle.stamp_model.proofs.EffectLemmas.{on_key, said_of_block, said_of_list, said_of_put, said_of_named, related-after_act, related-effect}

module _ (z : Part ℕ) (q : Asked) (t : ℕ) (said : Act → Type 0) (each : (a : Act) → is_row a ≡ false → said a) where
  -- what is said of each act, except of rows of a checkpoint, is said of the act of a request
  pub said_of_act_by : (o : Op) → IfSome (act_by o z q t) said
  said_of_act_by op.CreateContainer = each (act.CreateContainer (create_container q t)) refl
  said_of_act_by op.SetContainerMetadata = each (act.SetContainerMetadata (set_container_metadata q t)) refl
  said_of_act_by op.SetAcl = each (act.SetAcl (set_acl q t)) refl
  said_of_act_by op.DeleteContainer = each act.DeleteContainer refl
  said_of_act_by op.PutBlob = said_of_put said (λ a. each (act.PutBlob a) refl) q t q.ask.blob q.ask.args.kept
  said_of_act_by op.SetMetadata = said_of_named said (λ name. act.SetMetadata (set_metadata q t name)) (λ name. each (act.SetMetadata (set_metadata q t name)) refl) q.ask.blob
  said_of_act_by op.DeleteBlob = said_of_named said (λ name. act.DeleteBlob (delete_blob name)) (λ name. each (act.DeleteBlob (delete_blob name)) refl) q.ask.blob
  said_of_act_by op.PutBlock = said_of_block said (λ a. each (act.PutBlock a) refl) q q.ask.blob q.ask.args.block
  said_of_act_by op.PutBlockList = said_of_list said (λ a. each (act.PutBlockList a) refl) z q t q.ask.blob q.ask.args.kept
  said_of_act_by other = tt

-- ---- counts and ETags after a request

-- one container after another: its count is the same, or one more
abbrev Rises : Part (List ℕ) → Part (List ℕ) → Type 0
Rises p r = (r.count ≡ p.count) ⊎ (r.count ≡ p.count + 1)

-- one container after another: no ETag is over its count, if no ETag was over the count of the other
abbrev pub KeepsBound : Part (List ℕ) → Part (List ℕ) → Type 0
KeepsBound p r = EtagsAtMost p.count p → EtagsAtMost r.count r

pub KeepsBound-same : (p : Part (List ℕ)) → KeepsBound p p
KeepsBound-same p within = within

module _ (q : Asked) (t : ℕ) where
  rises : (z : Part ℕ) (p : Part (List ℕ)) → Rises p (part_after held (change_of z q t) p)
  rises z p =
      related-after_act held Rises (λ p. inl refl) q.ask.key p (act_by q.ask.op z q t)
      (said_of_act_by z q t (λ a. Rises p (changed held a p)) (λ a kind. inr (count-changed held p a kind)) q.ask.op)

  pub KeepsBound-after : (z : Part ℕ) (p : Part (List ℕ)) → KeepsBound p (part_after held (change_of z q t) p)
  KeepsBound-after z p =
      related-after_act held KeepsBound KeepsBound-same q.ask.key p (act_by q.ask.op z q t)
      (said_of_act_by z q t (λ a. KeepsBound p (changed held a p))
      (λ a kind within. subst (λ n. EtagsAtMost n (changed held a p)) (sym (count-changed held p a kind)) (etags_bounded held p within a kind)) q.ask.op)

module _ (keys : Option Keys) (w : World (List ℕ)) (q : Asked) (t : ℕ) where
  -- the count of a container after a request is the count before it, or one more
  pub count-effect : (k : Key) → Rises (part_at w k) (part_at (effect keys w q t) k)
  count-effect = related-effect held Rises (λ p. inl refl) byte_count keys w q t (rises q t)

  -- no ETag is over the count after a request, if no ETag was over the count before it
  pub etags-effect : (k : Key) → KeepsBound (part_at w k) (part_at (effect keys w q t) k)
  etags-effect = related-effect held KeepsBound KeepsBound-same byte_count keys w q t (KeepsBound-after q t)

-- ---- entries of a history

abbrev Counted : Part (List ℕ) → Act → Type 0
Counted p a = (changed held a p).count ≡ p.count + 1

-- a request that writes raises the count by one
counted : (k : Key) (p : Part (List ℕ)) (a : Option Act) → IfSome a (Counted p) → is_some (option_map (on_key k) a) ≡ true
    → (part_after held (option_map (on_key k) a) p).count ≡ p.count + 1
counted k p None own writes = cc
counted k p (Some a) own writes = own

module _ (pairs : List Keys) (key : Key) where
  -- an accepted entry is one change
  pub count-accepted : (p : Part (List ℕ)) (e : Past) → IsAccepted pairs key p e → (after_entry pairs p e).count ≡ p.count + 1
  count-accepted p e new =
      ap (λ (o : Option Refusal). (part_after held (unless_refused o (change_of (sizes p) e.request e.moment)) p).count) new.allowed
      ∙ counted e.request.ask.key p (act_by e.request.ask.op (sizes p) e.request e.moment)
      (said_of_act_by (sizes p) e.request e.moment (Counted p) (count-changed held p) e.request.ask.op) new.writes

  -- what follows the first entry is legal after it
  pub IsLegalFrom-rest : (start : Part (List ℕ)) (e : Past) (rest : List Past) → IsLegalFrom pairs key start (e ∷ rest) → IsLegalFrom pairs key (after_entry pairs start e) rest
  IsLegalFrom-rest start e rest legal = record {
    accepted = λ front x comes. legal.accepted (e ∷ front) x (comes.0, ap (λ (ys : List Past). e ∷ ys) comes.1);
    epochs = λ front between x later comes. legal.epochs (e ∷ front) between x later (comes.0, ap (λ (ys : List Past). e ∷ ys) comes.1);
  }

  -- what follows an entry is legal after it
  pub IsLegalFrom-after : (start : Part (List ℕ)) (front : List Past) (e : Past) (rest : List Past) → IsLegalFrom pairs key start (front ++ e ∷ rest)
      → IsLegalFrom pairs key (after_entry pairs (replay_from pairs start front) e) rest
  IsLegalFrom-after start [] e rest legal = IsLegalFrom-rest start e rest legal
  IsLegalFrom-after start (x ∷ front) e rest legal = IsLegalFrom-after (after_entry pairs start x) front e rest (IsLegalFrom-rest start x (front ++ e ∷ rest) legal)

  -- a legal history has an entry for each change
  pub count-replayed : (start : Part (List ℕ)) (history : List Past) → IsLegalFrom pairs key start history → (replay_from pairs start history).count ≡ start.count + length history
  count-replayed start [] legal = grind (arith)
  count-replayed start (e ∷ rest) legal =
      count-replayed (after_entry pairs start e) rest (IsLegalFrom-rest start e rest legal)
      ∙ ap (λ n. n + length rest) (count-accepted start e (legal.accepted [] e (rest, refl)))
      ∙ grind (arith)

-- a container that never was has seen no change
pub none_before : (history : List Past) → 0 + length history ≡ length history
none_before history = grind (arith)

-- an element that is found passes the test
pub found_passes : {X : Type 0} (test : X → Bool) (xs : List X) (x : X) → find test xs ≡ Some x → test x ≡ true
found_passes test [] x h = cc
found_passes test (y ∷ ys) x h =
    elim (test y) as (λ b. test y ≡ b → cond b (Some y) (find test ys) ≡ Some x → test x ≡ true) [
      | true ↦ λ e h. let same : y ≡ x = cc in ap test (sym same) ∙ e
      | false ↦ λ e h. found_passes test ys x h
    ] refl h

equal_numbers : (m n : ℕ) → nat_eq m n ≡ true → m ≡ n
equal_numbers m n h = grind (arith, nat_tests)

-- the pair of an epoch has that epoch
pub pair_of-epoch : (pairs : List Keys) (epoch : ℕ) (pair : Keys) → pair_of pairs epoch ≡ Some pair → pair.epoch ≡ epoch
pair_of-epoch pairs epoch pair h = equal_numbers pair.epoch epoch (found_passes (λ (p : Keys). nat_eq p.epoch epoch) pairs pair h)
