-- What a request does to what the stamp holds (Blob service REST reference, 2012-02-12, the operations that write; Calder et
-- al., SOSP 2011, section 5). The stamp's content is bytes. The effect is stated over any content that has a size and can be
-- read from pieces, since rows hold pieces.
use Rattle.std.specs.Prelude.{ℕ, Bool, true, false, List, Option, Some, None}
use Rattle.stamp_values.specs.declared.op.Op.{Op}
use Rattle.stamp_values.specs.declared.op.Op.TheVariants as op
use Rattle.stamp_types.specs.declared.piece.Piece.{Piece}
use Rattle.stamp_types.specs.declared.refusal.Refusal.{Refusal}
use Rattle.stamp_types.specs.Changes.{KeyedAct}
use Rattle.stamp_types.specs.Pieces.{held}
use Rattle.stamp_types.specs.Requests.{Asked}
use Rattle.stamp_types.specs.World.{Part, World, part_at, part_value, changed_in}
use Rattle.access_rules.specs.declared.keys.Keys.{Keys}
use Rattle.range_rows.specs.SentContent.{byte_count}
use Rattle.range_rows.specs.RequestChanges.{change_of, part_after}
use Rattle.stamp_model.specs.Refusals.{refusal}

-- the operation makes a container, alters what it has beside its blobs, or deletes it
abbrev pub alters_container : Op → Bool
alters_container op.CreateContainer = true
alters_container op.SetContainerMetadata = true
alters_container op.SetAcl = true
alters_container op.DeleteContainer = true
alters_container _ = false

-- the operation may alter the level and the policies of a container: it makes the container, sets its access or deletes it
abbrev pub alters_access : Op → Bool
alters_access op.CreateContainer = true
alters_access op.SetAcl = true
alters_access op.DeleteContainer = true
alters_access _ = false

-- the change, if nothing refuses the request
abbrev pub unless_refused : Option Refusal → Option KeyedAct → Option KeyedAct
unless_refused None change = change
unless_refused (Some r) change = None

-- the change that a request makes: the change of its operation, if nothing refuses the request
abbrev pub accepted : Option Keys → Part ℕ → Asked → ℕ → Option KeyedAct
accepted keys p q t = unless_refused (refusal keys p q t) (change_of p q t)

-- the containers after the change; without a change they stay as they are
abbrev pub world_after : {C : Type 0} → (List Piece → C) → Option KeyedAct → World C → World C
world_after f None w = w
world_after f (Some c) w = changed_in f w c

-- the container after the request; the function `size` gives the size of a content, and f reads the content of the change
abbrev pub change_as : {C : Type 0} → (C → ℕ) → (List Piece → C) → Option Keys → Part C → Asked → ℕ → Part C
change_as size f keys p q t = part_after f (accepted keys (part_value size p) q t) p

-- the containers after the request; the function `size` gives the size of a content, and f reads the content of the change
abbrev pub effect_as : {C : Type 0} → (C → ℕ) → (List Piece → C) → Option Keys → World C → Asked → ℕ → World C
effect_as size f keys w q t = world_after f (accepted keys (part_value size (part_at w q.ask.key)) q t) w

-- the container after the request
abbrev pub change : Option Keys → Part (List ℕ) → Asked → ℕ → Part (List ℕ)
change keys p q t = change_as byte_count held keys p q t

-- the containers after the request
abbrev pub effect : Option Keys → World (List ℕ) → Asked → ℕ → World (List ℕ)
effect keys w q t = effect_as byte_count held keys w q t
