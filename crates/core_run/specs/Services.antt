-- A service that makes a Serve, and at once the Fetch of its ticket.
use Rattle.std.specs.Prelude.{◌≡◌, ◌⊎◌, ℕ, false, Ok}
use Rattle.stamp_types.specs.declared.reply.Reply as replies
use Rattle.stamp_types.specs.Requests.{Asked}
use Rattle.core_run.specs.declared.step.Step.TheVariants as step
use Rattle.core_run.specs.declared.step.Outcome.TheVariants.{Reply, Later}
use Rattle.core_run.specs.Machine.{Takes}
use Rattle.core_run.specs.States.{State}

-- the request got this reply at once, or by a ticket that was fetched right after it; no call of the wire failed
abbrev pub IsServedWhole : State → Asked → ℕ → replies.Reply → State → Type 0
IsServedWhole s q t r s' =
    Takes s (step.Serve q t) false (Ok (Reply r)) s'
    ⊎ ((m : State) × ((n : ℕ) × (Takes s (step.Serve q t) false (Ok (Later n)) m × Takes m (step.Fetch n) false (Ok (Reply r)) s')))

-- the states differ in their tickets at most
pub record SameButTickets (s s' : State) : Type 0 where
  pub world : s'.world ≡ s.world
  pub pairs : s'.pairs ≡ s.pairs
  pub points : s'.points ≡ s.points
  pub doubts : s'.doubts ≡ s.doubts
  pub history : s'.history ≡ s.history
