use Rattle.std.proofs.Common.{rules, ◌≡◌, Ok}
use Rattle.stamp_main.proofs.ServeLemmas.{parsed}
use Rattle.stamp_main.proofs.words.read_workers.Goals as goal

-- what is parsed is the number that the text writes, so that writing it gives the text again
pub returns-clause-refused : goal.returns-clause-refused
returns-clause-refused c same workers some most told =
    let read : c.parse.result ≡ Ok workers = parsed workers c.args.text.now c.parse.result most told c.parse.ensures.value.0 in search rules
