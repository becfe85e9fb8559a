-- The words of slots, and a history with one more entry.
use Rattle.std.proofs.Common.{◌≡◌, ◌≢◌, ℕ, ◌+◌, ◌<◌, nat_eq, Bool, true, false, cond, List, [], ◌∷◌, ◌++◌, length, refl, sym, ap, ◌∙◌, subst, arith, inl, inr, ◌⊎◌, slice_set}
use Rattle.std.proofs.lemmas.List.{append-nil, get_or-replicate, length-replicate, get_or-set_same, get_or-set_other, length-set}
use Rattle.std.proofs.lemmas.Bool.Decides.{nat_tests}
use lib.ListN.{replicate}
use Rattle.logbook.specs.Pages.{Cell, cell}
use Rattle.access_rules.specs.declared.keys.Keys.{Keys}
use Rattle.stamp_model.proofs.HistoryLemmas.{last_or_before}
use Rattle.served_history.specs.declared.entry.Entry.{Entry}
use Rattle.served_history.specs.declared.entry.Entry.TheVariants.{Opened}
use Rattle.served_history.specs.Growth.{IsRow}
use Rattle.served_history.specs.Histories.{is_of, count_of, IsOwn, IsAfter, IsOpened, IsHistory}

-- ---- the first entry

-- what comes before an entry of a list of one entry
first_only : (front : List Entry) (x e : Entry) (rest : List Entry) → x ∷ [] ≡ front ++ e ∷ rest → (front ≡ []) × (e ≡ x)
first_only [] x e rest h = (refl, cc)
first_only (y ∷ []) x e rest h = cc
first_only (y ∷ (z ∷ front)) x e rest h = cc

-- the key pairs begin a history
pub history-opened : (pairs : List Keys) → IsHistory (Opened pairs ∷ [])
history-opened pairs = record {
  opened = tt;
  own = λ front e comes.
      let is = first_only front (Opened pairs) e comes.0 comes.1 in
      subst (λ (x : Entry). IsOwn front x) (sym is.1) is.0;
}

-- the words at first
pub opened : (pairs : List Keys) → IsRow (replicate 256 (0, true)) (Opened pairs ∷ [])
opened pairs = record {
  wide = length-replicate {A = Cell} 256 (0, true);
  words = λ k less. get_or-replicate {A = Cell} 256 k (0, true) (0, false) less;
  history = history-opened pairs;
}

-- ---- one more entry

pub count-append : (slot : ℕ) (xs ys : List Entry) → count_of slot (xs ++ ys) ≡ count_of slot xs + count_of slot ys
count-append slot [] ys = omega arith
count-append slot (e ∷ xs) ys = omega (arith, count-append slot xs ys)

pub opened-append : (log : List Entry) (e : Entry) → IsOpened log → IsOpened (log ++ e ∷ [])
opened-append [] e is = absurd is
opened-append (x ∷ log) e is = is

own_there : (log : List Entry) (e : Entry) → IsHistory log → IsOwn log e → (front : List Entry) (x : Entry) → ((front ≡ log) × (x ≡ e)) ⊎ IsAfter front x log → IsOwn front x
own_there log e all new front x (inl p) = subst (λ (f : List Entry). IsOwn f x) (sym p.0) (subst (λ (y : Entry). IsOwn log y) (sym p.1) new)
own_there log e all new front x (inr came) = all.own front x came

-- a history with an entry that may come after it is a history
pub history-append : (log : List Entry) (e : Entry) → IsHistory log → IsOwn log e → IsHistory (log ++ e ∷ [])
history-append log e all new = record {
  opened = opened-append log e all.opened;
  own = λ front x comes. own_there log e all new front x (last_or_before log e x front comes.0 comes.1);
}

-- ---- the words after an entry

module _ (cells : List Cell) (log : List Entry) (e : Entry) (k n : ℕ) (row : IsRow cells log) (less : k < 256) where
  word_after : ((j : ℕ) → is_of j e ≡ nat_eq k j) → n ≡ count_of k log + 1 → (j : ℕ) → j < 256 → (b : Bool) → nat_eq k j ≡ b
      → cell (slice_set cells k (n, true)) j ≡ (count_of j (log ++ e ∷ []), true)
  word_after made is j within true same =
      let one : j ≡ k = grind (arith, nat_tests) in
      let there : k < length cells = omega (arith, row.wide) in
      let self : nat_eq k k ≡ true = grind (arith, nat_tests) in
      let one_more : ◌≡◌ {A = ℕ} (cond (is_of k e) 1 0) 1 = ap (λ (b : Bool). cond b 1 0) (made k ∙ self) in
      let more : count_of k (log ++ e ∷ []) ≡ n = omega (arith, count-append k log (e ∷ []), one_more, is) in
      ap (cell (slice_set cells k (n, true))) one
      ∙ (get_or-set_same cells k (n, true) (0, false) there
      ∙ (ap (λ (m : ℕ). (m, true)) (sym more) ∙ ap (λ (i : ℕ). (count_of i (log ++ e ∷ []), true)) (sym one)))
  word_after made is j within false other =
      let away : j ≢ k = λ same. grind (arith, nat_tests) in
      let none : ◌≡◌ {A = ℕ} (cond (is_of j e) 1 0) 0 = ap (λ (b : Bool). cond b 1 0) (made j ∙ other) in
      let more : count_of j (log ++ e ∷ []) ≡ count_of j log = omega (arith, count-append j log (e ∷ []), none) in
      get_or-set_other cells k j (n, true) (0, false) away ∙ (row.words j within ∙ ap (λ (m : ℕ). (m, true)) (sym more))

  -- the words after an entry of a slot
  pub row_after : ((j : ℕ) → is_of j e ≡ nat_eq k j) → n ≡ count_of k log + 1 → IsOwn log e → IsRow (slice_set cells k (n, true)) (log ++ e ∷ [])
  row_after made is new = record {
    wide = length-set cells k (n, true) ∙ row.wide;
    words = λ j within. word_after made is j within (nat_eq k j) refl;
    history = history-append log e row.history new;
  }

module _ (cells : List Cell) (log : List Entry) (k n : ℕ) (row : IsRow cells log) (less : k < 256) (is : n ≡ count_of k log) where
  word_same : (j : ℕ) → j < 256 → (b : Bool) → nat_eq k j ≡ b → cell (slice_set cells k (n, true)) j ≡ (count_of j log, true)
  word_same j within true same =
      let one : j ≡ k = grind (arith, nat_tests) in
      let there : k < length cells = omega (arith, row.wide) in
      ap (cell (slice_set cells k (n, true))) one ∙ (get_or-set_same cells k (n, true) (0, false) there ∙ (ap (λ (m : ℕ). (m, true)) is ∙ ap (λ (i : ℕ). (count_of i log, true)) (sym one)))
  word_same j within false other =
      let away : j ≢ k = λ same. grind (arith, nat_tests) in
      get_or-set_other cells k j (n, true) (0, false) away ∙ row.words j within

  -- the words after a step that changes nothing
  pub row_same : IsRow (slice_set cells k (n, true)) (log ++ [])
  row_same = subst (IsRow (slice_set cells k (n, true))) (sym (append-nil log)) (record {
    wide = length-set cells k (n, true) ∙ row.wide;
    words = λ j within. word_same j within (nat_eq k j) refl;
    history = row.history;
  })
