use Rattle.std.proofs.Common.{◌≡◌, ◌++◌, ◌∙◌, None, ap, append_assoc, subst, sym, take}
use Rattle.stream_manager.specs.GivenUp.{with_blocks}
use Rattle.partition_stream.specs.Meanings.{held_of}
use Rattle.partition_stream.specs.Streams.{ThreeStreams, logged}
use Rattle.partition_stream.specs.Sweeping.{GivesUpBefore, LieFrom, filled_before, made_from}
use Rattle.partition_stream.proofs.SweepingLemmas.{given_all, held_given, kept_given}
use Rattle.partition_stream.proofs.streams.Streams.give_up_before.Goals as goal

pub invariant_of-self : goal.invariant_of-self
invariant_of-self c =
    let old : ThreeStreams = record { log = c.self.inside.log; blobs = c.self.inside.blobs; rows = c.self.inside.rows } in
    let sure : (logged old).doubt ≡ None = ap (λ (s : ThreeStreams). (logged s).doubt) c.self.view_is ∙ c.requires.sure in
    let from : LieFrom c.args.mark old = subst (λ (s : ThreeStreams). LieFrom c.args.mark s) (sym c.self.view_is) c.requires.from in
    kept_given c.args.mark old (record { log = c.give_up_front.new.self; blobs = c.give_up_front-2.new.self; rows = c.take-rows.new.self }) c.self.invariant from
    (given_all c.args.mark old c.give_up_front.new.self c.give_up_front-2.new.self c.take-rows.new.self c.self.invariant sure
    c.give_up_front.ensures.left c.give_up_front-2.ensures.left c.take-rows.ensures.sealed c.take-rows.ensures.blocks c.take-rows.ensures.tried c.take-rows.ensures.limit)

pub returns-clause-left : goal.returns-clause-left
returns-clause-left c =
    let old : ThreeStreams = record { log = c.self.inside.log; blobs = c.self.inside.blobs; rows = c.self.inside.rows } in
    let new : ThreeStreams = record { log = c.give_up_front.new.self; blobs = c.give_up_front-2.new.self; rows = c.take-rows.new.self } in
    let sure : (logged old).doubt ≡ None = ap (λ (s : ThreeStreams). (logged s).doubt) c.self.view_is ∙ c.requires.sure in
    subst (λ (s : ThreeStreams). GivesUpBefore c.args.mark s new) c.self.view_is
    (given_all c.args.mark old c.give_up_front.new.self c.give_up_front-2.new.self c.take-rows.new.self c.self.invariant sure
    c.give_up_front.ensures.left c.give_up_front-2.ensures.left c.take-rows.ensures.sealed c.take-rows.ensures.blocks c.take-rows.ensures.tried c.take-rows.ensures.limit)

pub returns-clause-means : goal.returns-clause-means
returns-clause-means c =
    let old : ThreeStreams = record { log = c.self.inside.log; blobs = c.self.inside.blobs; rows = c.self.inside.rows } in
    let new : ThreeStreams = record { log = c.give_up_front.new.self; blobs = c.give_up_front-2.new.self; rows = c.take-rows.new.self } in
    let sure : (logged old).doubt ≡ None = ap (λ (s : ThreeStreams). (logged s).doubt) c.self.view_is ∙ c.requires.sure in
    let given : GivesUpBefore c.args.mark old new =
    given_all c.args.mark old c.give_up_front.new.self c.give_up_front-2.new.self c.take-rows.new.self c.self.invariant sure
    c.give_up_front.ensures.left c.give_up_front-2.ensures.left c.take-rows.ensures.sealed c.take-rows.ensures.blocks c.take-rows.ensures.tried c.take-rows.ensures.limit in
    λ key. subst (λ (s : ThreeStreams). held_of (logged new) key ≡ made_from c.args.mark s key) c.self.view_is (held_given c.args.mark old new given key)

pub returns-clause-given : goal.returns-clause-given
returns-clause-given c =
    let log = with_blocks (take c.args.mark.log c.self.inside.log.sealed) in
    let blobs = with_blocks (take c.args.mark.blobs c.self.inside.blobs.sealed) in
    subst (λ (s : ThreeStreams). c.give_up_front-2.new.room.extents ≡ c.args.room.extents ++ filled_before c.args.mark s) c.self.view_is
    (c.give_up_front-2.ensures.given ∙ ap (λ l. l ++ blobs) c.give_up_front.ensures.given ∙ append_assoc c.args.room.extents log blobs)
