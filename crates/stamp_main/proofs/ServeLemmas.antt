-- How the words of `serve` are read, and what is written for them.
use Rattle.std.proofs.Common.{◌≡◌, ◌≤◌, ℕ, List, Result, Ok, arith, decimal}
use Rattle.std.specs.Str.Parse.{ParsesUnsigned}
use Rattle.std.proofs.lemmas.Fmt.{parse-decimal}
use Rattle.http_front.specs.Connections.{WriterState, Sends}
use Rattle.access_rules.specs.declared.keys.Keys.{Keys}
use Rattle.stamp_main.specs.Serving.{AsksToServe, HasListened, IsServe, listening_line, most_workers}

-- the number of workers that is written in decimal is read
pub parsed : {E : Type 0} (workers : ℕ) (text : List ℕ) (result : Result ℕ E) → workers ≤ most_workers → text ≡ decimal workers
    → ParsesUnsigned 8 10 text result → result ≡ Ok workers
parsed workers text result most written parses = parse-decimal 8 workers text result (omega (arith, most)) (omega (arith, most)) written parses

-- words that ask to serve something ask to serve
pub asked : (words : List (List ℕ)) (address : List ℕ) (workers : ℕ) (keys : Keys) → AsksToServe words address workers keys → IsServe words
asked words address workers keys asks = (address, workers, keys, asks)

-- the line tells of the address that the words ask for
pub listened : (words : List (List ℕ)) (address : List ℕ) (workers : ℕ) (keys : Keys) (from to : WriterState)
    → AsksToServe words address workers keys → Sends from to (listening_line address) → HasListened words from to
listened words address workers keys from to asks sent = (address, workers, keys, asks, sent)
