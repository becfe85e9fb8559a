use Rattle.std.proofs.Common.{◌≡◌, IfErr, OnErr, OnOk, ap, sym, subst, ◌∙◌}
use Rattle.slot_pass.specs.After.{Begins, IsAfterFault, pass_of, pass_with}
use Rattle.slot_pass.specs.Passes.{PassState}
use Rattle.slot_pass.proofs.serving.serve_after.Goals as goal

pub after-requires-clause-names : goal.after-requires-clause-names
after-requires-clause-names g c = c.requires.names ∙ ap (λ (p : PassState). p.key) (sym c.pass.view_is)

pub returns-clause-begins : goal.returns-clause-begins
returns-clause-begins g c = subst (λ (p : PassState). OnOk c.after.result (Begins p c.args.slot.now)) c.pass.view_is c.after.ensures.begins

pub returns-clause-holds : goal.returns-clause-holds
returns-clause-holds g c = subst (λ (p : PassState). OnOk c.after.result (pass_of c.pass.inside.key c.after.new.front c.after.new.pairs ≡ pass_with p c.after.new.slot)) c.pass.view_is c.after.ensures.holds

pub returns-clause-fault : goal.returns-clause-fault
returns-clause-fault g c = subst (λ (p : PassState). IfErr c.after.result (λ fault. IsAfterFault p c.args.slot.now fault)) c.pass.view_is c.after.ensures.fault

pub returns-clause-same : goal.returns-clause-same
returns-clause-same g c = subst (λ (p : PassState). OnErr c.after.result ((c.after.new.slot ≡ c.args.slot.now) × (pass_of c.pass.inside.key c.after.new.front c.after.new.pairs ≡ p))) c.pass.view_is c.after.ensures.same
