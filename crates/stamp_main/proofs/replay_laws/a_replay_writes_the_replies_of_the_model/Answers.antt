use Rattle.std.proofs.Common.{refl}
use Rattle.std.specs.FinMap as finite
use Rattle.request_form.specs.HeadForms.{with_body}
use Rattle.stamp_model.specs.Runs.{timed, world_after_all, world_after_one}
use Rattle.stamp_main.specs.Replays.{requests_of}
use Rattle.stamp_main.proofs.ReplayLemmas.{output_of-request}
use Rattle.stamp_main.proofs.replay_laws.a_replay_writes_the_replies_of_the_model.Goals as goal

pub returns : goal.returns
returns c = λ keys time front form body rest.
    let before = world_after_all finite.empty (requests_of keys time front) in
    (before, world_after_one before (timed keys (with_body form body) time), refl, refl, output_of-request keys time front form body rest)
