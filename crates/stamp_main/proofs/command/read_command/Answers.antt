use Rattle.std.proofs.Common.{rules, arith, ◌∷◌, []}
use Rattle.stamp_main.proofs.CommandLemmas.{list_of_reads}
use Rattle.stamp_main.proofs.command.read_command.Goals as goal

pub returns-in-len2-clause-read : goal.returns-in-len2-clause-read
returns-in-len2-clause-read c =
    let all = list_of_reads c.args.words.now (c.verb-item.result ∷ c.key-item.result ∷ [])
    (omega arith) (c.verb-item.is, (c.key-item.is, tt)) in
    rw all (search rules)

pub returns-in-len5-clause-read : goal.returns-in-len5-clause-read
returns-in-len5-clause-read c =
    let all = list_of_reads c.args.words.now
    (c.verb-item-then-words-lt6.result ∷ c.moment-item.result ∷ c.account-item.result ∷ c.first_key-item.result ∷ c.second_key-item.result ∷ [])
    (omega arith)
    (c.verb-item-then-words-lt6.is, (c.moment-item.is, (c.account-item.is, (c.first_key-item.is, (c.second_key-item.is, tt))))) in
    rw all (search rules)

pub returns-in-len6-clause-read : goal.returns-in-len6-clause-read
returns-in-len6-clause-read c =
    let all = list_of_reads c.args.words.now
    (c.verb-item-then-words-lt7.result ∷ c.address-item.result ∷ c.workers-item.result ∷ c.account-item-then-words-lt7.result ∷ c.first_key-item-then-words-lt7.result ∷ c.second_key-item-then-words-lt7.result ∷ [])
    (omega arith)
    (c.verb-item-then-words-lt7.is, (c.address-item.is, (c.workers-item.is, (c.account-item-then-words-lt7.is, (c.first_key-item-then-words-lt7.is, (c.second_key-item-then-words-lt7.is, tt)))))) in
    rw all (search rules)
