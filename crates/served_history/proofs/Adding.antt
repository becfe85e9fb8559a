-- The steps of a slot's word keep the rule of the history.
use Rattle.std.proofs.Common.{◌≡◌, ℕ, ◌+◌, ◌<◌, ◌==◌, nat_eq, Bool, true, false, List, [], ◌∷◌, refl, ap, sym, ◌∙◌, subst, arith, inl, None}
use Rattle.std.specs.Prelude.{MatchBool}
use Rattle.std.proofs.lemmas.List.{append-nil}
use Rattle.std.proofs.lemmas.Bool.Decides.{nat_tests}
use mathlib.Core.List.{IsPrefix}
use prog.Atomic.{either}
use Rattle.logbook.specs.Pages.{Cell, cell, keeps, no_nib, step, Moves, Goes}
use Rattle.served_history.specs.declared.entry.Entry.{Entry}
use Rattle.served_history.specs.Growth.{IsAdded, IsRow, Adds, Looks}
use Rattle.served_history.specs.Histories.{is_of, count_of, IsOwn, IsHistory}
use Rattle.served_history.proofs.RowLemmas.{row_after, row_same, history-append}

-- clients see nothing of the history beside what they know
abbrev pub shown : List Entry → List Entry
shown history = []

-- any step moves what clients see
abbrev pub moved : List Entry → List Entry → ℕ → Type 0
moved old new n = Unit {0}

module _ (k old : ℕ) (v : List Entry) (e : Entry) (less : k < 256) (made : (j : ℕ) → is_of j e ≡ nat_eq k j)
    (may : (log : List Entry) → IsPrefix v log → count_of k log ≡ old → IsHistory log → IsOwn log e) (cells : List Cell) (log : List Entry) (row : IsRow cells log) (begins : IsPrefix v log) where
  found : (cell cells k).0 ≡ count_of k log
  found = ap (λ (c : Cell). c.0) (row.words k less)

  adds_goes : (b : Bool) → ((cell cells k).0 == old) ≡ b
      → Goes IsRow shown moved k (v, (no_nib, None)) (λ n. either (n == old) (old + 1) n) (Adds (step k old (old + 1) e) (v, (no_nib, None))) cells log
  adds_goes true is =
      let same : (cell cells k).0 ≡ old = grind (arith, nat_tests) in
      let here : count_of k log ≡ old = sym found ∙ same in
      let own : IsOwn log e = may log begins here row.history in
      let n : either ((cell cells k).0 == old) (old + 1) (cell cells k).0 ≡ count_of k log + 1 = rw is (omega (arith, here)) in (
        keeps,
        e ∷ [],
        None,
        tt,
        row_after cells log e k (either ((cell cells k).0 == old) (old + 1) (cell cells k).0) row less made n own,
        inl (refl, refl),
        rw is (record { log = log; enters = refl; begins = begins; counted = here; before = row.history; after = history-append log e row.history own }),
      )
  adds_goes false is =
      let n : either ((cell cells k).0 == old) (old + 1) (cell cells k).0 ≡ count_of k log = rw is found in (
        keeps,
        [],
        None,
        tt,
        row_same cells log k (either ((cell cells k).0 == old) (old + 1) (cell cells k).0) row less n,
        inl (refl, refl),
        rw is (subst IsHistory (sym (append-nil log)) row.history),
      )

-- what is known after the step is a history
pub history_then : (b : Bool) (k old : ℕ) (v : List Entry) (e : Entry) (v' : List Entry) → MatchBool b (IsAdded k old v e v') (IsHistory v') → IsHistory v'
history_then true k old v e v' added = added.after
history_then false k old v e v' history = history

-- a slot's entry is added, if the slot has as many entries as are known
pub adds_moves : (k old : ℕ) (v : List Entry) (e : Entry) → k < 256 → ((j : ℕ) → is_of j e ≡ nat_eq k j)
    → ((log : List Entry) → IsPrefix v log → count_of k log ≡ old → IsHistory log → IsOwn log e)
    → Moves IsRow shown moved k (v, (no_nib, None)) (λ n. either (n == old) (old + 1) n) (Adds (step k old (old + 1) e) (v, (no_nib, None)))
adds_moves k old v e less made may cells log row begins away =
    (omega (arith, row.wide, less), ap (λ (c : Cell). c.1) (row.words k less), adds_goes k old v e less made may cells log row begins ((cell cells k).0 == old) refl)

-- a look at a slot's word
pub looks_moves : (k : ℕ) (v : List Entry) (e : Entry) → k < 256
    → Moves IsRow shown moved k (v, (no_nib, None)) (λ n. n) (Looks (step k 0 0 e) (v, (no_nib, None)))
looks_moves k v e less cells log row begins away =
    let found : (cell cells k).0 ≡ count_of k log = ap (λ (c : Cell). c.0) (row.words k less) in (
      omega (arith, row.wide, less),
      ap (λ (c : Cell). c.1) (row.words k less),
      (
        keeps,
        [],
        None,
        tt,
        row_same cells log k (cell cells k).0 row less found,
        inl (refl, refl),
        (ap (count_of k) (append-nil log) ∙ sym found, subst IsHistory (sym (append-nil log)) row.history),
      ),
    )
