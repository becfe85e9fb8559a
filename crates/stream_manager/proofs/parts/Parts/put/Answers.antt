use Rattle.std.proofs.Common.{◌≡◌, Some, List, [], ◌∷◌, subst}
use Rattle.extent_seal.proofs.HeardLemmas.{heard_then}
use Rattle.extent_node.specs.Copies.{Block}
use Rattle.stream_manager.specs.Parts.{extents_of}
use Rattle.stream_manager.specs.Places.{Follows, IsLastAt}
use Rattle.stream_manager.proofs.PlaceLemmas.{onward}
use Rattle.stream_manager.proofs.parts.Parts.put.Goals as goal

pub returns-in-Placed-try_once-clause-put : goal.returns-in-Placed-try_once-clause-put
returns-in-Placed-try_once-clause-put g c =
    let new = extents_of c.try_once-2.new.self in
    let second = c.in-Placed-try_once.ensures.tried in (
      subst (λ (b : Block). Follows (extents_of c.args.self.now) (b ∷ []) new) c.requires.again
          (onward (extents_of c.args.self.now) (extents_of c.try_once.new.self) new [] (c.args.again ∷ []) c.in-Excluded.ensures.tried.0 second.0),
      subst (λ (b : Block). IsLastAt new c.in-Placed-try_once.place b) c.requires.again second.1,
      second.2,
    )

pub returns-in-Doubt-try_once-clause-put : goal.returns-in-Doubt-try_once-clause-put
returns-in-Doubt-try_once-clause-put g c =
    let second = c.in-Doubt-try_once.ensures.tried in (
      onward (extents_of c.args.self.now) (extents_of c.try_once.new.self) (extents_of c.try_once-2.new.self) [] [] c.in-Excluded.ensures.tried.0 second.0,
      subst (λ (b : Block). c.try_once-2.new.self.last.extent.tried ≡ Some b) c.requires.again second.1,
    )

pub returns-in-Excluded-try_once-clause-put : goal.returns-in-Excluded-try_once-clause-put
returns-in-Excluded-try_once-clause-put g c =
    let second = c.in-Excluded-try_once.ensures.tried in (
      onward (extents_of c.args.self.now) (extents_of c.try_once.new.self) (extents_of c.try_once-2.new.self) [] [] c.in-Excluded.ensures.tried.0 second.0,
      second.1,
    )

pub returns-in-Placed-try_once-clause-heard : goal.returns-in-Placed-try_once-clause-heard
returns-in-Placed-try_once-clause-heard g c = λ _.
    heard_then (g.W.Wire.calls c.args.wire.now) (g.W.Wire.calls c.try_once.new.wire) (g.W.Wire.calls c.try_once-2.new.wire)
    (g.W.Wire.faults c.args.wire.now) (g.W.Wire.faults c.try_once.new.wire) (g.W.Wire.faults c.try_once-2.new.wire)
    (c.in-Excluded.ensures.heard (λ e. absurd (cc))) (c.in-Placed-try_once.ensures.heard (λ e. absurd (cc)))

pub returns-in-Excluded-try_once-clause-heard : goal.returns-in-Excluded-try_once-clause-heard
returns-in-Excluded-try_once-clause-heard g c = λ _.
    heard_then (g.W.Wire.calls c.args.wire.now) (g.W.Wire.calls c.try_once.new.wire) (g.W.Wire.calls c.try_once-2.new.wire)
    (g.W.Wire.faults c.args.wire.now) (g.W.Wire.faults c.try_once.new.wire) (g.W.Wire.faults c.try_once-2.new.wire)
    (c.in-Excluded.ensures.heard (λ e. absurd (cc))) (c.in-Excluded-try_once.ensures.heard (λ e. absurd (cc)))
