use Rattle.stamp_types.proofs.EffectLemmas.{get-insert_other, get-insert_same}
use Rattle.std.proofs.Common.{ℕ, List, ap, ◌∙◌}
use Rattle.std.specs.FinMap as finite
use Rattle.std.specs.FinMap.{FinMap}
use Rattle.stamp_values.specs.Order.{name_cmp}
use Rattle.stamp_types.specs.World.{blob_in, part_at}
use Rattle.stamp_model.proofs.BlockLemmas.{committed-put_block, count-put_block, uncommitted-put_block, first_missing-accepted, kept-list, body-list, length-list, headers-list, headers-get_list}
use Rattle.stamp_model.proofs.PublicReadLemmas.{reply-public_put_block}
use Rattle.stamp_model.proofs.ReplyLemmas.{effect-named}
use Rattle.stamp_model.proofs.SeenLemmas.{reply-put_block, reply-put_blocks}
use Rattle.stamp_model.proofs.block_laws.a_commit_is_seen_whole_or_not_at_all.Goals as goal

pub returns-clause-unseen : goal.returns-clause-unseen
returns-clause-unseen c = λ w put read puts fits reads. reply-put_block w put read puts fits reads

pub returns-clause-unseen_all : goal.returns-clause-unseen_all
returns-clause-unseen_all c = λ w puts read all fits reads. reply-put_blocks w puts read all fits reads

pub returns-clause-public : goal.returns-clause-public
returns-clause-public c = λ w put read puts fits anonymous. reply-public_put_block w put read puts fits anonymous

pub returns-clause-committed : goal.returns-clause-committed
returns-clause-committed c = λ w put key name puts. committed-put_block w put key name puts

pub returns-clause-counted : goal.returns-clause-counted
returns-clause-counted c = λ w key name id put puts has_id none. count-put_block w key name id put puts has_id none

pub returns-clause-put : goal.returns-clause-put
returns-clause-put c = λ w key name id put puts has_id none.
    ap (λ (m : FinMap name_cmp (List ℕ)). finite.get m id) (uncommitted-put_block w key name id put puts has_id none)
    ∙ get-insert_same (blob_in (part_at w key) name).uncommitted id put.request.body

pub returns-clause-other : goal.returns-clause-other
returns-clause-other c = λ w key name id other put puts has_id none apart.
    ap (λ (m : FinMap name_cmp (List ℕ)). finite.get m other) (uncommitted-put_block w key name id put puts has_id none)
    ∙ get-insert_other (blob_in (part_at w key) name).uncommitted id put.request.body other apart

pub returns-clause-found : goal.returns-clause-found
returns-clause-found c = λ w key name list lists none. first_missing-accepted w key name list lists none

pub returns-clause-body : goal.returns-clause-body
returns-clause-body c = λ w key name list get fits lists gets whole none free.
    let keeps = kept-list list.request key name fits lists in
    body-list w key name list lists none keeps.0 keeps.1 get gets whole free

pub returns-clause-length : goal.returns-clause-length
returns-clause-length c = λ w key name list get fits lists gets none free.
    let keeps = kept-list list.request key name fits lists in
    length-list w key name list lists none keeps.0 keeps.1 get gets free

pub returns-clause-list : goal.returns-clause-list
returns-clause-list c = λ w key name list fits lists none.
    let keeps = kept-list list.request key name fits lists in
    headers-list w key name list lists none keeps.0 keeps.1

pub returns-clause-get : goal.returns-clause-get
returns-clause-get c = λ w key name kept list get lists keeps gets whole none free. headers-get_list w key name list lists none kept keeps get gets whole free

pub returns-clause-refused : goal.returns-clause-refused
returns-clause-refused c = λ w list rule lists named. effect-named list.keys w list.request list.moment list.bound rule named
