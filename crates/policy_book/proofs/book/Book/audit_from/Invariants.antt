use Rattle.std.proofs.Common.{◌≤◌, ◌+◌, ◌-◌, All, vec_len}
use Rattle.policy_book.specs.Entries.{IsTrueEntry}
use Rattle.policy_book.proofs.book.Book.audit_from.Given as goal

-- there are no more entries than indexes that were passed, and all of them are true
abbrev pub invariant-loop-at : goal.invariant-loop-at
invariant-loop-at l = record {
  passed : vec_len l.found + l.index ≤ l.at;
  limit : vec_len l.found ≤ l.self.limit - l.index;
  truth : All (λ e. IsTrueEntry e.now) l.found.items;
}
