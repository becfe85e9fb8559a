-- When requests are equal (Blob service REST reference, 2012-02-12, the page of each operation).
use Rattle.std.specs.Prelude.{Bool, nat_eq}
use Rattle.std.specs.Ordering.{on, eq_of_both}
use Rattle.std.specs.Cmp.Lexicographic.{pointwise}
use Rattle.stamp_types.specs.contracts.ask.AskPartialEq.TheImpl as ask_eq
use Rattle.stamp_types.specs.declared.ask.Ask.{Ask}
use Rattle.stamp_types.specs.Requests.{Asked}

-- the requests ask the same
abbrev pub asks_equal : Ask → Ask → Bool
asks_equal = (ask_eq.ghosts).eq

-- the requests ask the same, with the same body
abbrev pub requests_equal : Asked → Asked → Bool
requests_equal = eq_of_both (on (λ q. q.ask) asks_equal) (on (λ q. q.body) (pointwise nat_eq))
