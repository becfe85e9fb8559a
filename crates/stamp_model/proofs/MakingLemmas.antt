-- Which entries of a history make the container, and which entries delete it.
use Rattle.std.proofs.Common.{◌≡◌, ◌↔◌, ℕ, ◌+◌, Bool, true, false, List, [], ◌∷◌, Option, Some, None, refl, sym, ap, ◌∙◌, reverse}
use Rattle.std.proofs.lemmas.List.{reverse-append}
use Rattle.std.proofs.lemmas.List.Folds.{find-append}
use Rattle.std.specs.Prelude.{find, is_some}
use Rattle.std.specs.Option.{option_map, option_or}
use Rattle.stamp_values.specs.Operations.{is_op}
use Rattle.stamp_values.specs.declared.key.Key.{Key}
use Rattle.stamp_values.specs.declared.op.Op.{Op}
use Rattle.stamp_values.specs.declared.op.Op.TheVariants as op
use Rattle.stamp_types.specs.declared.past.Past.{Past}
use Rattle.stamp_types.specs.declared.refusal.Refusal.{Refusal}
use Rattle.stamp_types.specs.declared.standing.Standing.{Standing}
use Rattle.stamp_types.specs.Pieces.{held}
use Rattle.stamp_types.specs.Requests.{Asked}
use Rattle.stamp_types.specs.World.{Part, no_part, standing_with_acl, standing_with_metadata}
use Rattle.access_rules.specs.declared.keys.Keys.{Keys}
use Rattle.range_rows.specs.SentContent.{sizes}
use Rattle.range_rows.specs.ObjectRules.{needs_container, object_refusal}
use Rattle.range_rows.specs.RequestChanges.{set_acl, set_container_metadata, act_by, change_of, part_after}
use Rattle.stamp_model.specs.Effects.{unless_refused}
use Rattle.stamp_model.specs.Histories.{pair_of, after_entry, replay_from, replay, makes_or_deletes, operations, last_making_or_deletion, IsAccepted, IsLegal, IsLegalFrom}
use Rattle.stamp_model.proofs.AccessLemmas.{standing-after_act}
use Rattle.stamp_model.proofs.CountLemmas.{IsLegalFrom-rest}
use Rattle.stamp_model.proofs.EffectLemmas.{on_key}
use Rattle.stamp_model.proofs.ObjectLemmas.{is_some-mapped, container_needed}
use Rattle.stamp_model.proofs.ReplyLemmas.{unrefused}

-- whether a container exists after the last operation that makes it or deletes it, if it existed before all of them
abbrev exists_after : Option Op → Bool → Bool
exists_after None b = b
exists_after (Some o) b = is_op op.CreateContainer o

in_turn : (x y : Option Op) (b : Bool) → exists_after (option_or x y) b ≡ exists_after x (exists_after y b)
in_turn None y b = refl
in_turn (Some o) y b = refl

-- ---- one entry

module _ (p : Part (List ℕ)) (q : Asked) (t : ℕ) where
  abbrev exists_then : Op → Bool
  exists_then o = is_some (part_after held (option_map (on_key q.ask.key) (act_by o (sizes p) q t)) p).standing

  after_one : (o : Op) → exists_then o ≡ exists_after (find makes_or_deletes (o ∷ [])) (is_some p.standing)
  after_one op.CreateContainer = refl
  after_one op.DeleteContainer = refl
  after_one op.SetContainerMetadata = is_some-mapped (standing_with_metadata (p.count + 1) (set_container_metadata q t)) p.standing
  after_one op.SetAcl = is_some-mapped (standing_with_acl (p.count + 1) (set_acl q t)) p.standing
  after_one other = ap (λ (o : Option Standing). is_some o) (standing-after_act held (sizes p) p q t q.ask.key other refl)

module _ (pairs : List Keys) (key : Key) where
  after_accepted : (p : Part (List ℕ)) (e : Past) → IsAccepted pairs key p e
      → is_some (after_entry pairs p e).standing ≡ exists_after (find makes_or_deletes (e.request.ask.op ∷ [])) (is_some p.standing)
  after_accepted p e new =
      ap (λ (o : Option Refusal). is_some (part_after held (unless_refused o (change_of (sizes p) e.request e.moment)) p).standing) new.allowed
      ∙ after_one p e.request e.moment e.request.ask.op

  -- ---- all entries

  one_before : (e : Past) (rest : List Past) (b : Bool)
      → exists_after (last_making_or_deletion (e ∷ rest)) b ≡ exists_after (last_making_or_deletion rest) (exists_after (find makes_or_deletes (e.request.ask.op ∷ [])) b)
  one_before e rest b =
      ap (λ os. exists_after (find makes_or_deletes os) b) (reverse-append (e.request.ask.op ∷ []) (operations rest))
      ∙ ap (λ o. exists_after o b) (find-append makes_or_deletes (reverse (operations rest)) (e.request.ask.op ∷ []))
      ∙ in_turn (last_making_or_deletion rest) (find makes_or_deletes (e.request.ask.op ∷ [])) b

  -- whether the container exists after a legal history
  is_some-replayed : (start : Part (List ℕ)) (history : List Past) → IsLegalFrom pairs key start history
      → is_some (replay_from pairs start history).standing ≡ exists_after (last_making_or_deletion history) (is_some start.standing)
  is_some-replayed start [] legal = refl
  is_some-replayed start (e ∷ rest) legal =
      is_some-replayed (after_entry pairs start e) rest (IsLegalFrom-rest pairs key start e rest legal)
      ∙ ap (λ b. exists_after (last_making_or_deletion rest) b) (after_accepted start e (legal.accepted [] e (rest, refl)))
      ∙ sym (one_before e rest (is_some start.standing))

  if_made : (o : Option Op) (b : Bool) → b ≡ exists_after o false → (b ≡ true) ↔ (o ≡ Some op.CreateContainer)
  if_made None b same = (λ h. cc, λ h. cc)
  if_made (Some op.CreateContainer) b same = (λ h. refl, λ h. same)
  if_made (Some other) b same = (λ h. cc, λ h. cc)

  -- after a history that is legal from nothing, the container exists if and only if it was made last
  pub exists-replayed : (history : List Past) → IsLegal pairs key history → (is_some (replay pairs history).standing ≡ true) ↔ (last_making_or_deletion history ≡ Some op.CreateContainer)
  exists-replayed history legal = if_made (last_making_or_deletion history) (is_some (replay pairs history).standing) (is_some-replayed no_part history legal)

  -- ---- the first entry

  writes_as : (q : Asked) (t : ℕ) (o : Op) → q.ask.op ≡ o → is_some (change_of (sizes no_part) q t) ≡ true → is_some (option_map (on_key q.ask.key) (act_by o (sizes no_part) q t)) ≡ true
  writes_as q t o is writes = sym (ap (λ (o : Op). is_some (option_map (on_key q.ask.key) (act_by o (sizes no_part) q t))) is) ∙ writes

  creates : (q : Asked) (t : ℕ) (o : Op) → q.ask.op ≡ o → is_some (change_of (sizes no_part) q t) ≡ true → object_refusal (sizes no_part) q ≡ None → o ≡ op.CreateContainer
  creates q t op.CreateContainer is writes free = refl
  creates q t op.ListContainers is writes free = let changes : false ≡ true = writes_as q t op.ListContainers is writes in cc
  creates q t other is writes free = let exists : false ≡ true = container_needed no_part q free (ap needs_container is) in cc

  -- a history that is legal from nothing begins with Create Container
  pub first_creates : (e : Past) (rest : List Past) → IsLegal pairs key (e ∷ rest) → e.request.ask.op ≡ op.CreateContainer
  first_creates e rest legal =
      let new = legal.accepted [] e (rest, refl) in
      creates e.request e.moment e.request.ask.op refl new.writes (unrefused (pair_of pairs e.epoch) (sizes no_part) e.request e.moment new.allowed).unopposed
