-- Uncommitted blocks that are looked up one after another: what is found among them.
use Rattle.std.proofs.Common.{◌≡◌, ◌<◌, ℕ, suc, Bool, true, false, cond, ◌&&◌, T, List, [], ◌∷◌, length, Option, Some, None, refl, sym, ap, ◌∙◌, subst, arith}
use Rattle.std.specs.FinMap.{FinMap, entries, entries_sorted, find, get, get-entries, get_tied, is_sorted}
use Rattle.std.specs.FinMap.Entries.{below_all}
use Rattle.std.specs.List.{AllByRecursion}
use Rattle.std.specs.Map.Iter.{TakesFirst, deref_pair}
use Rattle.std.specs.Cmp.{IsTotalOrder, tied_itself}
use Rattle.std.specs.Ordering.{is_eq, is_lt, ordering_reverse}
use Rattle.std.specs.declared.cmp.Ordering.{Ordering}
use Rattle.std.specs.declared.cmp.Ordering.TheVariants.{Less, Equal, Greater}
use denote.Ref.{Bor}
use Rattle.stamp_values.specs.Order.{name_cmp, names_total}
use Rattle.block_blobs.specs.NextBlocks.{AreBlocks, from_next}

parts : (a b : Bool) → T (a && b) → T a × T b
parts true b h = (tt, h)
parts false b h = absurd h

less : (r : Ordering) → T (is_lt r) → r ≡ Less
less Less h = refl
less Equal h = absurd h
less Greater h = absurd h

module _ {K X : Type 0} {R : K → K → Ordering} (o : IsTotalOrder R) where
  -- entries that are found are found after an entry of a smaller key
  found_later : (e : K × X) (es fs : List (K × X)) → T (below_all R e.0 fs) → AllByRecursion (λ f. find R f.0 es ≡ Some f.1) fs → AllByRecursion (λ f. find R f.0 (e ∷ es) ≡ Some f.1) fs
  found_later e es [] up all = tt
  found_later e es (f ∷ fs) up all =
      let rise = parts (is_lt (R e.0 f.0)) (below_all R e.0 fs) up in
      let apart : R f.0 e.0 ≡ Greater = o.antisymm f.0 e.0 ∙ ap ordering_reverse (less (R e.0 f.0) rise.0) in
      (ap (λ r. cond (is_eq r) (Some e.1) (find R f.0 es)) apart ∙ all.0, found_later e es fs rise.1 all.1)

  each_found : (es : List (K × X)) → T (is_sorted R es) → AllByRecursion (λ e. find R e.0 es ≡ Some e.1) es
  each_found [] up = tt
  each_found (e ∷ es) up =
      let rise = parts (below_all R e.0 es) (is_sorted R es) up in
      (ap (λ r. cond (is_eq r) (Some e.1) (find R e.0 es)) (tied_itself o e.0), found_later e es es rise.0 (each_found es rise.1))

module _ {C : Type 0} (m : FinMap name_cmp C) where
  -- each entry of a map is in it
  pub entries_are_blocks : AreBlocks m (entries m)
  entries_are_blocks =
      subst (λ (g : List ℕ → Option C). AllByRecursion (λ e. g e.0 ≡ Some e.1) (entries m)) (λ i q. sym (get-entries m q) i)
      (each_found names_total (entries m) (entries_sorted m))

  from_next-taken : (es later : List (List ℕ × C)) (next : Option (Bor (List ℕ) × Bor C)) → TakesFirst deref_pair es next later → es ≡ from_next next later
  from_next-taken es later None took = took.0 ∙ sym took.1
  from_next-taken es later (Some p) took = took

  -- the first of all blocks is next
  pub first_next : (es later : List (List ℕ × C)) (next : Option (Bor (List ℕ) × Bor C)) → es ≡ entries m → TakesFirst deref_pair es next later → AreBlocks m (from_next next later)
  first_next es later next is took = subst (AreBlocks m) (sym is ∙ from_next-taken es later next took) entries_are_blocks

  -- the block after the next block is next
  pub later_next : (p : Bor (List ℕ) × Bor C) (es later : List (List ℕ × C)) (next : Option (Bor (List ℕ) × Bor C))
      → AreBlocks m (from_next (Some p) es) → TakesFirst deref_pair es next later → AreBlocks m (from_next next later)
  later_next p es later next are took = subst (AreBlocks m) (from_next-taken es later next took) are.1

  -- one block fewer is left after the next block
  pub later_fewer : (p : Bor (List ℕ) × Bor C) (es later : List (List ℕ × C)) (next : Option (Bor (List ℕ) × Bor C))
      → TakesFirst deref_pair es next later → length (from_next next later) < length (from_next (Some p) es)
  later_fewer p es later next took = subst (λ es. length (from_next next later) < suc (length es)) (sym (from_next-taken es later next took)) (omega arith)

  -- the next block has the id
  pub next_found : (s : FinMap name_cmp C) (next : Option (Bor (List ℕ) × Bor C)) (key : Bor (List ℕ)) (content : Bor C) (later : List (List ℕ × C)) (id : List ℕ)
      → s ≡ m → next ≡ Some (key, content) → AreBlocks s (from_next next later) → Equal ≡ name_cmp key.now id → Some content.now ≡ get m id
  next_found s next key content later id is at are same =
      let found = subst (λ (next : Option (Bor (List ℕ) × Bor C)). AreBlocks s (from_next next later)) at are in
      sym (get_tied names_total s key.now id (sym same) ∙ found.0) ∙ ap (λ s. get s id) is
