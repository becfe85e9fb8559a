-- A list of changes of one container, with what each ETag and each block is to be (Blob service REST reference, 2012-02-12, the pages
-- of the operations that write).
use Rattle.std.specs.Prelude.{ℕ, List, [], ◌∷◌, None}
use Rattle.stamp_values.specs.declared.level.Level.TheVariants as level
use Rattle.stamp_values.specs.declared.meta.Meta.{Meta}
use Rattle.stamp_values.specs.declared.block.BlockSource.TheVariants as source
use Rattle.stamp_types.specs.declared.piece.Piece.{Piece}
use Rattle.stamp_types.specs.declared.piece.Piece.TheVariants.{Bytes}
use Rattle.stamp_types.specs.declared.props.Props.{Props}
use Rattle.stamp_types.specs.declared.act.Act.{Act}
use Rattle.stamp_types.specs.declared.act.Act.TheVariants as act
use Rattle.stamp_types.specs.World.{Part, changed}

-- a container after a list of changes
abbrev pub after_changes : {C : Type 0} → (List Piece → C) → List Act → Part C → Part C
after_changes f [] p = p
after_changes f (a ∷ rest) p = after_changes f rest (changed f a p)

-- the name of the first blob: `a`
abbrev pub first_blob : List ℕ
first_blob = 97 ∷ []

-- the name of the second blob: `b`
abbrev pub second_blob : List ℕ
second_blob = 98 ∷ []

-- the id of the first block: `A`
abbrev pub first_id : List ℕ
first_id = 65 ∷ []

-- the id of the second block: `B`
abbrev pub second_id : List ℕ
second_id = 66 ∷ []

-- the content type `t`
abbrev pub plain_type : List ℕ
plain_type = 116 ∷ []

-- the name `k` with the value `v`
abbrev pub one_meta : List Meta
one_meta = record { name = 107 ∷ []; value = 118 ∷ [] } ∷ []

-- the headers that are kept with each blob here: a content type, and nothing else
abbrev pub plain_props : Props
plain_props = record { content_type = plain_type; encoding = []; language = []; cache_control = []; md5 = None }

-- this byte in one piece
abbrev pub one_piece : ℕ → List Piece
one_piece n = Bytes (n ∷ []) ∷ []

-- the container is created; the first blob is put; its first block is put, and put again; then its second block is put
abbrev pub first_changes : List Act
first_changes =
    act.CreateContainer (record { moment = 10; level = level.Blob; metadata = [] })
    ∷ act.PutBlob (record { blob = first_blob; moment = 20; props = plain_props; metadata = []; content = one_piece 1 })
    ∷ act.PutBlock (record { blob = first_blob; id = first_id; content = one_piece 2 })
    ∷ act.PutBlock (record { blob = first_blob; id = first_id; content = one_piece 3 })
    ∷ act.PutBlock (record { blob = first_blob; id = second_id; content = one_piece 4 })
    ∷ []

-- the first block is committed; the first blob gets metadata; the second blob is put and deleted
abbrev pub last_changes : List Act
last_changes =
    act.PutBlockList (record { blob = first_blob; moment = 30; props = plain_props; metadata = []; entries = record { id = first_id; from = source.Uncommitted } ∷ [] })
    ∷ act.SetMetadata (record { blob = first_blob; moment = 40; metadata = one_meta })
    ∷ act.PutBlob (record { blob = second_blob; moment = 50; props = plain_props; metadata = []; content = one_piece 5 })
    ∷ act.DeleteBlob (record { blob = second_blob })
    ∷ []
