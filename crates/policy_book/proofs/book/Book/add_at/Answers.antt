use Rattle.std.proofs.Common.{◌∷◌, [], All, Bor, subst, sym}
use Rattle.std.proofs.lemmas.List.Elements.{All-append, All-cons, All-nil}
use Rattle.policy_book.specs.Entries.{IsTrueEntry}
use Rattle.policy_book.specs.declared.entry.Entry.{Entry}
use Rattle.policy_book.proofs.book.Book.add_at.Goals as goal

abbrev is_true : Bor Entry → Type 0
is_true e = IsTrueEntry e.now

pub returns-in_ok-push-in-Some-clause-truth : goal.returns-in_ok-push-in-Some-clause-truth
returns-in_ok-push-in-Some-clause-truth c =
    let one = All-cons is_true c.in-Some.entry [] c.in-Some.ensures.truth (All-nil is_true) in
    subst (All is_true) (sym c.in_ok-push-in-Some.ensures.items) (All-append is_true c.args.found.now.items (c.in-Some.entry ∷ []) c.requires one)
