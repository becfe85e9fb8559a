use Rattle.std.proofs.Common.{refl}
use Rattle.stamp_main.specs.declared.command.Command.TheVariants.{Sign, Replay, Serve}
use Rattle.stamp_main.proofs.RunLemmas.{unasked_none}
use Rattle.stamp_main.proofs.run.Goals as goal

pub returns-in-None : goal.returns-in-None
returns-in-None g c = record {
  outcome = (
    unasked_none _ (λ key. c.in-None.ensures.refused (Sign (record { ref_ptr = c.args.words.ref_ptr; now = key })))
        (λ moment account first second. c.in-None.ensures.refused (Replay (record { ref_ptr = c.args.words.ref_ptr; now = moment })
        (record { ref_ptr = c.args.words.ref_ptr; now = account }) (record { ref_ptr = c.args.words.ref_ptr; now = first })
        (record { ref_ptr = c.args.words.ref_ptr; now = second })))
        (λ address workers account first second. c.in-None.ensures.refused (Serve (record { ref_ptr = c.args.words.ref_ptr; now = address })
        (record { ref_ptr = c.args.words.ref_ptr; now = workers }) (record { ref_ptr = c.args.words.ref_ptr; now = account })
        (record { ref_ptr = c.args.words.ref_ptr; now = first }) (record { ref_ptr = c.args.words.ref_ptr; now = second }))),
    refl,
  );
}
