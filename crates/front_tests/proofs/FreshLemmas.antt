-- Connections that were just made.
use Rattle.std.proofs.Common.{◌≡◌, ℕ, List, Option, refl}
use Rattle.http_front.specs.Connections.{ConnectionState, IsOpen, fresh_connection}
use Rattle.http_front.specs.Stages.{IsStaged, fresh_stage}
use Rattle.http_front.specs.declared.counted.Output.TheVariants as outputs
use Rattle.http_front.specs.declared.item.Stage.{Stage}
use Rattle.http_front.proofs.Ends.{searched_none}

not_failed : outputs.Flushed ≡ outputs.Failed → ⊥
not_failed is = cc

-- such a connection can be gone on with
pub fresh_goes_on : (connection : ConnectionState) (stage : Stage) (left : Option (List ℕ)) (turns : ℕ) (held : Option (List ℕ)) → connection ≡ fresh_connection left turns held → stage ≡ fresh_stage
    → IsOpen connection × IsStaged stage connection
fresh_goes_on connection stage left turns held is fresh = rw (is, fresh) ((refl, not_failed), searched_none _ _ refl)
