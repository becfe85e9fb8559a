-- What a query says of blocks (Blob service REST reference, 2012-02-12, Put Block, Get Block List; RFC 4648, section 4).
use Rattle.std.specs.Prelude.{ℕ, if◌then◌else◌, List, Option, Some, None, option_and_then, option_map, bytes_eq, codes}
use Rattle.std.specs.Option.{option_or}
use Rattle.base64_text.specs.Base64.{standard, decoded_of}
use Rattle.stamp_values.specs.Fields.{first_value}
use Rattle.stamp_values.specs.Operations.{is_op}
use Rattle.stamp_values.specs.declared.block.BlockKinds.{BlockKinds}
use Rattle.stamp_values.specs.declared.block.BlockKinds.TheVariants.{Committed, Uncommitted, All}
use Rattle.stamp_values.specs.declared.op.Op.{Op}
use Rattle.stamp_values.specs.declared.op.Op.TheVariants.{PutBlock, GetBlockList}
use Rattle.stamp_values.specs.declared.signing.Field.{Field}

-- the id of a block that a query gives, decoded
abbrev pub id_given : List Field → Option (List ℕ)
id_given query = option_and_then (decoded_of standard) (first_value query (codes "blockid"))

-- the id of the block that a request puts, if the operation is Put Block
abbrev pub block_by : Op → List Field → Option (List ℕ)
block_by op query = if is_op PutBlock op then id_given query else None

-- the kinds of blocks that a value names
abbrev pub kinds_named : List ℕ → BlockKinds
kinds_named v = if bytes_eq v (codes "committed") then Committed else (if bytes_eq v (codes "uncommitted") then Uncommitted else All)

-- the kinds of blocks that a query gives
abbrev pub kinds_given : List Field → Option BlockKinds
kinds_given query = option_map kinds_named (first_value query (codes "blocklisttype"))

-- the kinds of blocks that a request asks for, if the operation is Get Block List; the committed blocks if no kinds are given
abbrev pub kinds_by : Op → List Field → Option BlockKinds
kinds_by op query = if is_op GetBlockList op then option_or (kinds_given query) (Some Committed) else None
