-- What a log means (SOSP 2011, section 5): what the rows of a checkpoint and then the changes of the log make of each container.
use Rattle.std.specs.Prelude.{◌≡◌, ◌⊎◌, ℕ, Bool, Option, Some, List, [], ◌∷◌, ◌++◌, map, filter}
use Rattle.std.specs.List.{fold}
use Rattle.std.specs.Ordering.{eq_by_cmp}
use Rattle.stamp_values.specs.Order.{key_cmp}
use Rattle.stamp_values.specs.declared.key.Key.{Key}
use Rattle.stamp_types.specs.declared.act.Act.{Act}
use Rattle.stamp_types.specs.declared.piece.Piece.{Piece}
use Rattle.stamp_types.specs.World.{Part, changed, no_part, part_value, same_pieces}
use Rattle.partition_stream.specs.Changes.{Recorded}
use Rattle.partition_stream.specs.Contents.{content_at}
use Rattle.partition_stream.specs.Streams.{Logged}

-- whether the change is a change of this container
abbrev pub is_on : Key → Recorded → Bool
is_on key c = eq_by_cmp key_cmp c.0.key key

-- what the changes of this container do, in their order
abbrev pub acts_on : Key → List Recorded → List Act
acts_on key cs = map (λ c. c.0.act) (filter (is_on key) cs)

-- the container as the acts leave it, one after the other, with each content read by f
abbrev pub after_acts : {C : Type 0} → (List Piece → C) → List Act → Part C → Part C
after_acts f acts p = fold (λ q a. changed f a q) p acts

-- what the container has, in pieces: what the rows and then the changes of the log make of a container that never was
abbrev pub held_of : Logged → Key → Part (List Piece)
held_of s key = after_acts same_pieces (acts_on key (s.rows ++ s.log)) no_part

-- what the container has, in bytes: each content is read in the data
abbrev pub meaning : Logged → Key → Part (List ℕ)
meaning s key = part_value (content_at s.blobs) (held_of s key)

-- the rows are as they were, and the log has one change more
pub record IsOneMore (s : Logged) (c : Recorded) (t : Logged) : Type 0 where
  pub rows : t.rows ≡ s.rows
  pub log : t.log ≡ s.log ++ c ∷ []

-- the container is as it was, or as the change that was in doubt leaves it
abbrev pub IsWithDoubt : Logged → Logged → Option Recorded → Key → Type 0
IsWithDoubt s t doubt key =
    (held_of t key ≡ held_of s key)
    ⊎ ((c : Recorded) × ((doubt ≡ Some c) × ((c.0.key ≡ key) × (held_of t key ≡ changed same_pieces c.0.act (held_of s key)))))
