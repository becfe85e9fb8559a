use Rattle.std.proofs.Common.{◌≡◌, ◌++◌, ap, refl, Bool, true, false, Option, List, [], append-nil}
use Rattle.std.specs.Option.{option_to_list}
use Rattle.extent_node.specs.Copies.{Block}
use Rattle.extent_node.specs.Faults.{held}
use Rattle.extent_seal.proofs.laws.replicas_hold_prefixes.Goals as goal

prefix : (blocks : List Block) (tried : Option Block) (took : Bool) → (rest : List Block) × ((blocks ++ held took tried) ++ rest ≡ blocks ++ option_to_list tried)
prefix blocks tried true = ([], append-nil (blocks ++ option_to_list tried))
prefix blocks tried false = (option_to_list tried, ap (λ l. l ++ option_to_list tried) (append-nil blocks))

pub returns-clause-prefix : goal.returns-clause-prefix
returns-clause-prefix c = λ e took. prefix e.blocks e.tried took

pub returns-clause-acknowledged : goal.returns-clause-acknowledged
returns-clause-acknowledged c = λ e took. (held took e.tried, refl)
