-- Asks of which enough were answered: nothing was given up because no node answered (SOSP 2011, section 4.3.2).
use Rattle.std.specs.Prelude.{◌≡◌, ◌≤◌, ◌<◌, ℕ, ◌+◌, ◌*◌}
use Rattle.extent_node.specs.Faults.{Calls, Counts}
use Rattle.extent_seal.specs.Counting.{all_nodes}
use Rattle.extent_seal.specs.Repairs.{calls_more}

-- so many asks of one node were answered yes, and so many no
abbrev pub TellsOne : (answered unanswered old new failed_old failed_new : ℕ) → Type 0
TellsOne answered unanswered old new failed_old failed_new = (new ≡ calls_more (answered + unanswered) old) × (failed_new ≡ failed_old + unanswered)

-- for each node, how many of its asks were answered yes, and how many no: by what was asked before and after, and by what of it failed
pub record TellsAsks (answered unanswered old new failed_old failed_new : Counts) : Type 0 where
  pub zero_told : TellsOne answered.zero unanswered.zero old.zero new.zero failed_old.zero failed_new.zero
  pub one_told : TellsOne answered.one unanswered.one old.one new.one failed_old.one failed_new.one
  pub two_told : TellsOne answered.two unanswered.two old.two new.two failed_old.two failed_new.two

-- Of each three asks one was answered yes at least. A call that gives up after each node with a copy answered no has more asks that failed.
pub record AsksAreHeard (old new failed_old failed_new : Calls) : Type 0 where
  pub answered : Counts
  pub unanswered : Counts
  pub told : TellsAsks answered unanswered old.asks new.asks failed_old.asks failed_new.asks
  pub enough : all_nodes unanswered ≤ 2 * all_nodes answered

-- the wire has counted fewer calls of each node than it can count, by two at least
abbrev pub CanCount : Counts → Type 0
CanCount c = (c.zero + 1 < 340_282_366_920_938_463_463_374_607_431_768_211_455)
    × (c.one + 1 < 340_282_366_920_938_463_463_374_607_431_768_211_455) × (c.two + 1 < 340_282_366_920_938_463_463_374_607_431_768_211_455)
