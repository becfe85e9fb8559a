use Rattle.std.proofs.Common.{◌≡◌, true, rules, subst, sym}
use Rattle.stamp_types.specs.Changes.{has_ids_of_one_length}
use Rattle.block_blobs.proofs.StoredBlocks.{keeps_stored, one_length}
use Rattle.block_blobs.proofs.uncommitted.Uncommitted.stored.Goals as goal

pub id_len_of-id_len-requires : goal.id_len_of-id_len-requires
id_len_of-id_len-requires c = subst (λ us. has_ids_of_one_length us ≡ true) (sym c.as_slice.ensures) (one_length c.args.blocks c.requires)

pub invariant_of-result : goal.invariant_of-result
invariant_of-result c = keeps_stored c.args.blocks c.in_ok-tree_of.field-0 c.id_len_of-id_len.result (search rules) c.requires (search rules)
