-- Lines and bytes that are added to others.
use Rattle.std.proofs.Common.{◌≡◌, ◌≤◌, ◌∙◌, ℕ, zero, suc, ◌+◌, List, [], ◌∷◌, ◌++◌, Option, Some, None, Result, Ok, MatchResult, length, length-append, take, drop, refl, sym, ap, subst, arith}
use Rattle.std.specs.Prelude.{flat_map}
use Rattle.std.specs.Io.KnownBytes.{Appends, Keeps, WriteAppends}
use Rattle.std.proofs.lemmas.Grind.{flat_map-append}
use Rattle.std.proofs.lemmas.List.{append-nil, append_assoc}
use Rattle.policy_book.specs.Entries.{AuditEntry, Shelved}
use Rattle.audit_lines.specs.Lines.{AppendsLines, AreAt, IsAt, WritesFrom, line_of}

-- one entry more at the end
are_at_more : (book : Shelved) (n : ℕ) (es : List AuditEntry) (e : AuditEntry) → AreAt book n es → IsAt book (n + length es) e → AreAt book n (es ++ e ∷ [])
are_at_more book n [] e are is = let here : n + length {A = AuditEntry} [] ≡ n = omega arith in (subst (λ (m : ℕ). IsAt book m e) here is, tt)
are_at_more book n (x ∷ xs) e are is =
    let next : n + length (x ∷ xs) ≡ (n + 1) + length xs = omega arith in
    (are.0, are_at_more book (n + 1) xs e are.1 (subst (λ (m : ℕ). IsAt book m e) next is))

one_line : (e : AuditEntry) → flat_map line_of (e ∷ []) ≡ line_of e
one_line e = append-nil (line_of e)

-- no line yet
pub no_lines : (book : Shelved) (from : ℕ) (old : List ℕ) → AppendsLines book from from old old
no_lines book from old = ([], (tt, (omega arith, sym (append-nil old))))

-- one line more
pub one_more : (book : Shelved) (from at : ℕ) (old mid new : List ℕ) → AppendsLines book from at old mid → (e : AuditEntry) × (IsAt book at e × (new ≡ mid ++ line_of e)) → AppendsLines book from (at + 1) old new
one_more book from at old mid new (es, (are, (count, lines))) (e, (is, line)) = (
  es ++ e ∷ [],
  (
    are_at_more book from es e are (subst (λ (m : ℕ). IsAt book m e) count is),
    (
      count_more,
      line ∙ ap (λ (l : List ℕ). l ++ line_of e) lines ∙ append_assoc old (flat_map line_of es) (line_of e)
          ∙ ap (λ (l : List ℕ). old ++ l) (ap (λ (l : List ℕ). flat_map line_of es ++ l) (sym (one_line e)) ∙ sym (flat_map-append line_of es (e ∷ []))),
    ),
  ),
)
  where
    count_more : at + 1 ≡ from + length (es ++ e ∷ [])
    count_more = omega (arith, count, length-append es (e ∷ []))

-- bytes that are written in two steps
pub appends_joined : (a b c : Option (List ℕ)) (x y : List ℕ) → Appends a b x → Appends b c y → Appends a c (x ++ y)
appends_joined None b c x y p q = tt
appends_joined (Some a) None c x y p q = absurd p
appends_joined (Some a) (Some b) None x y p q = absurd q
appends_joined (Some a) (Some b) (Some c) x y p q = q ∙ ap (λ (l : List ℕ). l ++ y) p ∙ append_assoc a x y

appends_none : (a : Option (List ℕ)) → Appends a a []
appends_none None = tt
appends_none (Some xs) = sym (append-nil xs)

-- nothing was written yet
pub writes_none : (held : Option (List ℕ)) (left : List ℕ) → WritesFrom held held left left
writes_none held left = ([], (refl, appends_none held))

-- what was written in two steps
pub writes_joined : (a b c : Option (List ℕ)) (x y z : List ℕ) → WritesFrom a b x y → WritesFrom b c y z → WritesFrom a c x z
writes_joined a b c x y z (one, (first, held)) (two, (second, held')) =
    (one ++ two, (first ∙ ap (λ (l : List ℕ). one ++ l) second ∙ sym (append_assoc one two z), appends_joined a b c one two held held'))

taken : (n : ℕ) (xs : List ℕ) → xs ≡ take n xs ++ drop n xs
taken zero xs = refl
taken (suc n) [] = refl
taken (suc n) (x ∷ xs) = ap (λ (l : List ℕ). x ∷ l) (taken n xs)

nothing : (n : ℕ) → drop {A = ℕ} n [] ≡ []
nothing zero = refl
nothing (suc n) = refl

dropped : (d n : ℕ) (xs : List ℕ) → drop n (drop d xs) ≡ drop (d + n) xs
dropped zero n xs = let same : n ≡ zero + n = omega arith in ap (λ (m : ℕ). drop m xs) same
dropped (suc d) n [] = nothing n ∙ sym (nothing (suc d + n))
dropped (suc d) n (x ∷ xs) = let same : suc (d + n) ≡ suc d + n = omega arith in dropped d n xs ∙ ap (λ (m : ℕ). drop m (x ∷ xs)) same

-- the first bytes of what was left were written
pub writes_part : (held held' : Option (List ℕ)) (all : List ℕ) (done n : ℕ) (left : List ℕ) → left ≡ drop done all → Appends held held' (take n (drop done all)) → WritesFrom held held' left (drop (done + n) all)
writes_part held held' all done n left is appends =
    (take n (drop done all), (is ∙ taken n (drop done all) ∙ ap (λ (l : List ℕ). take n (drop done all) ++ l) (dropped done n all), appends))

-- a writer that says how many bytes it took has the first of what was given
pub taken_by : {E : Type 0} (held held' : Option (List ℕ)) (r : Result ℕ E) (n : ℕ) (given left : List ℕ) → WriteAppends held held' r given → r ≡ Ok n → given ≡ left → Appends held held' (take n left)
taken_by {E} held held' r n given left wrote is same =
    subst (λ (l : List ℕ). Appends held held' (take n l)) same
    (subst (λ (x : Result ℕ E). MatchResult x (λ m. Appends held held' (take m given)) (λ _. Keeps held held')) is wrote)

-- ---- bytes that are left

-- nothing is left after as many bytes as there are
pub all_dropped : (n : ℕ) (xs : List ℕ) → length xs ≤ n → drop n xs ≡ []
all_dropped n [] small = nothing n
all_dropped zero (x ∷ xs) small = absurd (omega arith)
all_dropped (suc n) (x ∷ xs) small = all_dropped n xs (omega arith)

-- if nothing is left, there are no more bytes than these
pub no_more_dropped : (n : ℕ) (xs : List ℕ) → drop n xs ≡ [] → length xs ≤ n
no_more_dropped n [] none = omega arith
no_more_dropped zero (x ∷ xs) none = cc
no_more_dropped (suc n) (x ∷ xs) none = let small : length xs ≤ n = no_more_dropped n xs none in omega arith
