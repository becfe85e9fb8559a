-- What an operation needs of a route (Blob service REST reference, 2012-02-12, Delegating Access with a Shared Access
-- Signature: the permissions; Set Container ACL: the levels of public access).
use Rattle.std.specs.Prelude.{Option, Some, None, unwrap_or}
use Rattle.stamp_values.specs.declared.block.BlockKinds.{BlockKinds}
use Rattle.stamp_values.specs.declared.block.BlockKinds.TheVariants as kinds
use Rattle.stamp_values.specs.declared.level.Level.{Level}
use Rattle.stamp_values.specs.declared.level.Level.TheVariants as level
use Rattle.stamp_values.specs.declared.op.Op.{Op}
use Rattle.stamp_values.specs.declared.op.Op.TheVariants.{ListContainers, CreateContainer, ContainerProperties, SetContainerMetadata, GetAcl, SetAcl, DeleteContainer, ListBlobs, PutBlob, GetBlob, BlobProperties, GetMetadata, SetMetadata, DeleteBlob, PutBlock, PutBlockList, GetBlockList}
use Rattle.access_rules.specs.declared.needs.Need.{Need}
use Rattle.access_rules.specs.declared.needs.Letter.{Letter}
use Rattle.access_rules.specs.declared.needs.Letter.TheVariants as letter

-- the keys alone allow the operation: neither a signature nor public access does
abbrev pub of_keys_alone : Need
of_keys_alone = record { letter = None; level = None }

-- a signature with the letter allows the operation, and public access does not
abbrev pub of_letter : Letter → Need
of_letter l = record { letter = Some l; level = None }

-- a signature with the letter allows the operation, and public access of the level does too
abbrev pub of_letter_or_level : Letter → Level → Need
of_letter_or_level l p = record { letter = Some l; level = Some p }

-- what a block list needs: committed blocks are content, and are read like content; other blocks are never public
abbrev pub of_block_list : BlockKinds → Need
of_block_list kinds.Committed = of_letter_or_level letter.Read level.Blob
of_block_list kinds.Uncommitted = of_letter letter.Read
of_block_list kinds.All = of_letter letter.Read

-- what each operation needs; a block list is asked for by the kinds of blocks, which are the committed blocks if the request
-- names no kind
abbrev pub need_of : Op → Option BlockKinds → Need
need_of ListContainers k = of_keys_alone
need_of CreateContainer k = of_keys_alone
need_of ContainerProperties k = record { letter = None; level = Some level.Container }
need_of SetContainerMetadata k = of_keys_alone
need_of GetAcl k = of_keys_alone
need_of SetAcl k = of_keys_alone
need_of DeleteContainer k = of_keys_alone
need_of ListBlobs k = of_letter_or_level letter.List level.Container
need_of PutBlob k = of_letter letter.Write
need_of GetBlob k = of_letter_or_level letter.Read level.Blob
need_of BlobProperties k = of_letter_or_level letter.Read level.Blob
need_of GetMetadata k = of_letter_or_level letter.Read level.Blob
need_of SetMetadata k = of_letter letter.Write
need_of DeleteBlob k = of_letter letter.Delete
need_of PutBlock k = of_letter letter.Write
need_of PutBlockList k = of_letter letter.Write
need_of GetBlockList k = of_block_list (unwrap_or k kinds.Committed)
