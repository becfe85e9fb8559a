-- A request whose signature is true may be admitted.
use Rattle.std.proofs.Common.{Option, ◌≡◌, true}
use Rattle.stamp_types.specs.declared.ask.Ask.{Ask}
use Rattle.access_rules.specs.declared.keys.Keys.{Keys}
use Rattle.access_rules.specs.Signatures.{has_true_signature}
use Rattle.served_slots.specs.Admissions.{IsAdmissible}

pub admissible : (keys : Option Keys) (ask : Ask) → has_true_signature keys ask ≡ true → IsAdmissible ask
admissible keys ask is_true = (keys, is_true)
