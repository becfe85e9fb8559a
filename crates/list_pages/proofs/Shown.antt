-- Lists depend on what is shown of names alone.
use Rattle.std.proofs.Common.{◌≡◌, ℕ, Bool, true, false, cond, ◌&&◌, T, List, [], ◌∷◌, Option, Some, None, refl, sym, ap, ◌∙◌, nat_eq, unwrap_or, map}
use Rattle.std.specs.Cmp.{IsTotalOrder}
use Rattle.std.specs.Cmp.Lexicographic.{pointwise}
use Rattle.std.specs.FinMap.{FinMap, IsAntisymmetric, entries, entries_sorted, find, get, get-entries, get-insert, insert, is_sorted}
use Rattle.std.specs.FinMap.Entries.{below_all, same_entries}
use Rattle.std.specs.List.{cons_option}
use Rattle.std.specs.Option.{option_and_then, option_map}
use Rattle.std.specs.Ordering.{eq_by_cmp, is_eq, is_lt}
use Rattle.std.specs.declared.cmp.Ordering.{Ordering}
use Rattle.std.specs.declared.cmp.Ordering.TheVariants.{Less, Equal, Greater}
use Rattle.stamp_values.specs.Maps.{entry_value}
use Rattle.stamp_values.specs.Order.{key_cmp, keys_exact, keys_total, name_cmp, names_exact, names_total}
use Rattle.stamp_values.specs.declared.key.Key.{Key}
use Rattle.stamp_types.specs.declared.act.Act.TheVariants as act
use Rattle.stamp_types.specs.declared.act.PutBlock.{PutBlock}
use Rattle.stamp_types.specs.declared.args.Page.{Page}
use Rattle.stamp_types.specs.declared.piece.Piece.{Piece}
use Rattle.stamp_types.specs.World.{Blob, Part, World, blob_in, changed, changed_in, no_blob, no_part, part_at, part_value, world_value}
use Rattle.stamp_types.proofs.MapEntries.{entries-map_values}
use Rattle.list_pages.specs.Containers.{before_end, end_of, of_account, page_to}
use Rattle.list_pages.specs.Laws.{shown_at}
use Rattle.list_pages.specs.Lists.{given, page_of_blobs, page_of_containers, shown_blob, shown_container, shown_part, shown_standing}
use Rattle.list_pages.specs.Pages.{from_marker, listed, page, with_value}
use Rattle.list_pages.proofs.Lists.{T_first, T_second, less}
use Rattle.list_pages.proofs.Over.{with_value-before_end}
use mathlib.Core.Bool.{true≢false}

pub both : (a b : Bool) → T a → T b → T (a && b)
both true b p q = q
both false b p q = p

module _ {K X Y : Type 0} (R : K → K → Ordering) (o : IsTotalOrder R) (has : X → Option Y) where
  below_by : (x k : K) (v : Option Y) (es : List (K × Y)) → T (is_lt (R x k)) → T (below_all R x es) → T (below_all R x (cons_option (option_map (λ value. (k, value)) v) es))
  below_by x k None es at more = more
  below_by x k (Some y) es at more = both (is_lt (R x k)) (below_all R x es) at more

  below_shown : (x : K) (es : List (K × X)) → T (below_all R x es) → T (below_all R x (with_value has es))
  below_shown x [] p = tt
  below_shown x (e ∷ es) p =
      below_by x e.0 (has e.1) (with_value has es) (T_first (is_lt (R x e.0)) (below_all R x es) p) (below_shown x es (T_second (is_lt (R x e.0)) (below_all R x es) p))

  sorted_by : (k : K) (v : Option Y) (es : List (K × Y)) → T (below_all R k es) → T (is_sorted R es) → T (is_sorted R (cons_option (option_map (λ value. (k, value)) v) es))
  sorted_by k None es p more = more
  sorted_by k (Some y) es p more = both (below_all R k es) (is_sorted R es) p more

  -- what is shown of sorted entries is sorted
  pub sorted_shown : (es : List (K × X)) → T (is_sorted R es) → T (is_sorted R (with_value has es))
  sorted_shown [] p = tt
  sorted_shown (e ∷ es) p =
      sorted_by e.0 (has e.1) (with_value has es) (below_shown e.0 es (T_first (below_all R e.0 es) (is_sorted R es) p)) (sorted_shown es (T_second (below_all R e.0 es) (is_sorted R es) p))

  equal : (r : Ordering) → is_eq r ≡ true → r ≡ Equal
  equal Less e = absurd (true≢false (sym e))
  equal Equal e = refl
  equal Greater e = absurd (true≢false (sym e))

  -- a key that ties with a key before all entries has no entry
  nothing_tied : (q x : K) → eq_by_cmp R q x ≡ true → (es : List (K × X)) → T (below_all R x es) → find R q es ≡ None
  nothing_tied q x tie [] p = refl
  nothing_tied q x tie (e ∷ es) p =
      let at : R q e.0 ≡ Less = o.congr q x e.0 (equal (R q x) tie) ∙ less (R x e.0) (T_first (is_lt (R x e.0)) (below_all R x es) p) in
      ap (λ r. cond (is_eq r) (Some e.1) (find R q es)) at ∙ nothing_tied q x tie es (T_second (is_lt (R x e.0)) (below_all R x es) p)

  find_by : (q k : K) (x : X) (v : Option Y) (b : Bool) (es : List (K × X)) → has x ≡ v → eq_by_cmp R q k ≡ b → T (below_all R k es) → find R q (with_value has es) ≡ option_and_then has (find R q es)
      → find R q (cons_option (option_map (λ value. (k, value)) v) (with_value has es)) ≡ option_and_then has (cond b (Some x) (find R q es))
  find_by q k x None true es is tie p more = more ∙ ap (option_and_then has) (nothing_tied q k tie es p) ∙ sym is
  find_by q k x None false es is tie p more = more
  find_by q k x (Some y) true es is tie p more = ap (λ b. cond b (Some y) (find R q (with_value has es))) tie ∙ sym is
  find_by q k x (Some y) false es is tie p more = ap (λ b. cond b (Some y) (find R q (with_value has es))) tie ∙ more

  -- what is found among what is shown
  pub find-with_value : (q : K) (es : List (K × X)) → T (is_sorted R es) → find R q (with_value has es) ≡ option_and_then has (find R q es)
  find-with_value q [] p = refl
  find-with_value q (e ∷ es) p =
      find_by q e.0 e.1 (has e.1) (eq_by_cmp R q e.0) es refl refl (T_first (below_all R e.0 es) (is_sorted R es) p) (find-with_value q es (T_second (below_all R e.0 es) (is_sorted R es) p))

  -- what is shown of a map at a key
  pub find_shown : (q : K) (m : FinMap R X) → find R q (with_value has (entries m)) ≡ option_and_then has (get m q)
  find_shown q m = find-with_value q (entries m) (entries_sorted m) ∙ ap (option_and_then has) (sym (get-entries m q))

  -- two maps of which the same is shown at each key
  pub same_shown : IsAntisymmetric R → (m n : FinMap R X) → ((q : K) → option_and_then has (get m q) ≡ option_and_then has (get n q)) → with_value has (entries m) ≡ with_value has (entries n)
  same_shown same m n is =
      same_entries R o same (with_value has (entries m)) (with_value has (entries n)) (sorted_shown (entries m) (entries_sorted m)) (sorted_shown (entries n) (entries_sorted n))
      (λ q. find_shown q m ∙ is q ∙ sym (find_shown q n))

  put_by : (same : IsAntisymmetric R) (m : FinMap R X) (k : K) (v : X) → has v ≡ option_and_then has (get m k) → (q : K) (b : Bool) → eq_by_cmp R q k ≡ b
      → option_and_then has (cond b (Some v) (get m q)) ≡ option_and_then has (get m q)
  put_by same m k v is q true tie = is ∙ ap (λ k. option_and_then has (get m k)) (sym (same q k (equal (R q k) tie)))
  put_by same m k v is q false tie = refl

  -- a value of which the same is shown as before
  pub shown-insert : IsAntisymmetric R → (m : FinMap R X) (k : K) (v : X) → has v ≡ option_and_then has (get m k) → with_value has (entries (insert m k v)) ≡ with_value has (entries m)
  shown-insert same m k v is =
      same_shown same (insert m k v) m (λ q. ap (option_and_then has) (get-insert o m k v q) ∙ put_by same m k v is q (eq_by_cmp R q k) refl)

-- ---- blobs

-- what is shown of a blob after a Put Block
blob_alike : (o : Option (Blob ℕ)) → option_map shown_part (unwrap_or o no_blob).committed ≡ option_and_then shown_blob o
blob_alike None = refl
blob_alike (Some b) = refl

-- what a list shows under a name is what is committed of its blob
pub shown_at-committed : (p : Part ℕ) (name : List ℕ) → shown_at p name ≡ option_map shown_part (blob_in p name).committed
shown_at-committed p name = sym (blob_alike (get p.blobs name))

pub same_blob_page : (f : List Piece → ℕ) (q : Page) (a : PutBlock) (p : Part ℕ) → page_of_blobs q (changed f (act.PutBlock a) p) ≡ page_of_blobs q p
same_blob_page f q a p =
    ap (λ names. page q.max (from_marker (given q.marker) (listed (given q.prefix) (given q.delimiter) names)))
    (shown-insert name_cmp names_total shown_blob names_exact p.blobs a.blob
    (record { committed = (blob_in p a.blob).committed; uncommitted = insert (blob_in p a.blob).uncommitted a.id (f a.content) })
    (blob_alike (get p.blobs a.blob)))

-- a page of blobs depends on what is committed of each blob
pub page_by_committed : (q : Page) (p r : Part ℕ) → ((name : List ℕ) → (blob_in p name).committed ≡ (blob_in r name).committed) → page_of_blobs q p ≡ page_of_blobs q r
page_by_committed q p r same =
    ap (λ names. page q.max (from_marker (given q.marker) (listed (given q.prefix) (given q.delimiter) names)))
    (same_shown name_cmp names_total shown_blob names_exact p.blobs r.blobs
    (λ name. sym (blob_alike (get p.blobs name)) ∙ ap (option_map shown_part) (same name) ∙ blob_alike (get r.blobs name)))

-- ---- containers

module _ {X Y : Type 0} (has : X → Option Y) (account : List ℕ) where
  account_by : (k : Key) (x : X) (b : Bool) (v : Option Y) (es : List (List ℕ × X)) (fs : List (Key × Y)) → has x ≡ v → pointwise nat_eq k.account account ≡ b → with_value has es ≡ of_account account fs
      → with_value has (cons_option (cond b (Some (k.container, x)) None) es) ≡ of_account account (cons_option (option_map (λ value. (k, value)) v) fs)
  account_by k x true None es fs is at more = ap (λ v. cons_option (option_map (λ value. (k.container, value)) v) (with_value has es)) is ∙ more
  account_by k x true (Some y) es fs is at more =
      ap (λ v. cons_option (option_map (λ value. (k.container, value)) v) (with_value has es)) is ∙ ap (λ t. (k.container, y) ∷ t) more
      ∙ sym (ap (λ b. cons_option (cond b (Some (k.container, y)) None) (of_account account fs)) at)
  account_by k x false None es fs is at more = more
  account_by k x false (Some y) es fs is at more = more ∙ sym (ap (λ b. cons_option (cond b (Some (k.container, y)) None) (of_account account fs)) at)

  -- the containers of an account, before or after what is shown of them
  pub with_value-of_account : (es : List (Key × X)) → with_value has (of_account account es) ≡ of_account account (with_value has es)
  with_value-of_account [] = refl
  with_value-of_account (e ∷ es) =
      account_by e.0 e.1 (pointwise nat_eq e.0.account account) (has e.1) (of_account account es) (with_value has es) refl refl (with_value-of_account es)

-- what is shown of the containers of an account before an end
pub shown_before_end : {X Y : Type 0} (has : X → Option Y) (account : List ℕ) (end : Option (List ℕ)) (rows : List (Key × X))
    → with_value has (before_end end (of_account account rows)) ≡ before_end end (of_account account (with_value has rows))
shown_before_end has account end rows =
    with_value-before_end has end (of_account account rows) ∙ ap (before_end end) (with_value-of_account has account rows)

-- a page of containers by what is shown of the rows
pub page_by_shown : {C D : Type 0} (account : List ℕ) (q : Page) (bound : Option Key) (w : World C) (v : World D) → with_value shown_container (entries w) ≡ with_value shown_container (entries v)
    → page_of_containers account q bound w ≡ page_of_containers account q bound v
page_by_shown account q bound w v same =
    ap (page_to (end_of account bound) (given q.prefix) (given q.marker) q.max)
    (shown_before_end shown_container account (end_of account bound) (entries w)
    ∙ ap (λ rows. before_end (end_of account bound) (of_account account rows)) same
    ∙ sym (shown_before_end shown_container account (end_of account bound) (entries v)))

shown_read : {C D : Type 0} (f : C → D) (rows : List (Key × Part C)) → with_value shown_container rows ≡ with_value shown_container (map (entry_value (part_value f)) rows)
shown_read f [] = refl
shown_read f (e ∷ rows) = ap (cons_option (option_map (λ shown. (e.0, shown)) (shown_container e.1))) (shown_read f rows)

-- a page of containers is the same, whether their content is read before or after
pub page_of_read : {C D : Type 0} (f : C → D) (account : List ℕ) (q : Page) (bound : Option Key) (w : World C) → page_of_containers account q bound w ≡ page_of_containers account q bound (world_value f w)
page_of_read f account q bound w =
    page_by_shown account q bound w (world_value f w)
    (shown_read f (entries w) ∙ ap (with_value shown_container) (sym (entries-map_values keys_total keys_exact (part_value f) w)))

module _ {C : Type 0} where
  -- what a list shows of a container, by what rows have under its key
  pub container_alike : (o : Option (Part C)) → option_map shown_standing (unwrap_or o no_part).standing ≡ option_and_then shown_container o
  container_alike None = refl
  container_alike (Some p) = refl

  pub same_container_page : (f : List Piece → C) (account : List ℕ) (q : Page) (bound : Option Key) (key : Key) (a : PutBlock) (w : World C)
      → page_of_containers account q bound (changed_in f w (record { key = key; act = act.PutBlock a })) ≡ page_of_containers account q bound w
  same_container_page f account q bound key a w =
      page_by_shown account q bound (changed_in f w (record { key = key; act = act.PutBlock a })) w
      (shown-insert key_cmp keys_total shown_container keys_exact w key (changed f (act.PutBlock a) (part_at w key)) (container_alike (get w key)))
