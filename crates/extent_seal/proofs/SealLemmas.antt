-- The replicas that are kept by a seal have the same blocks, and these blocks are those of the seal.
use Rattle.std.proofs.Common.{◌≡◌, ◌≤◌, ◌⊎◌, ◌||◌, ◌∙◌, inl, inr, ℕ, Bool, true, false, Option, Some, None, IfSome, List, [], ◌++◌, length, take, sym, ap, refl, arith, subst, append-nil, length-append}
use Rattle.std.specs.Option.{is_some}
use Rattle.std.proofs.lemmas.List.{take-append-le, length-take-le, take_all}
use Rattle.extent_node.specs.Copies.{Block, Copy}
use Rattle.extent_node.specs.Faults.{held}
use Rattle.extent_seal.specs.Extents.{Open, Closed, Three, replica, first_kept}
use Rattle.extent_seal.specs.Seals.{Seals, IsCutTo, IsCommitted}
use Rattle.extent_seal.specs.Smallest.{IsSmallest}

-- replicas that are long enough agree up to a length
take_same : (e : Open) (n : ℕ) (x y : Bool) → n ≤ length (replica e x) → n ≤ length (replica e y) → take n (replica e x) ≡ take n (replica e y)
take_same e n true true _ _ = refl
take_same e n false false _ _ = refl
take_same e n true false hx hy =
    let w : n ≤ length e.blocks = grind (arith, length-append) in
    take-append-le n e.blocks (held true e.tried) w ∙ sym (take-append-le n e.blocks [] w)
take_same e n false true hx hy =
    let w : n ≤ length e.blocks = grind (arith, length-append) in
    take-append-le n e.blocks [] w ∙ sym (take-append-le n e.blocks (held true e.tried) w)

-- the first replica that is kept has the blocks of any replica that is long enough, up to the length
first_cut : (e : Open) (z o t : Option Copy) (n : ℕ)
    → IfSome z (λ r. r.blocks ≡ take n (replica e e.took.zero))
    → IfSome o (λ r. r.blocks ≡ take n (replica e e.took.one))
    → IfSome t (λ r. r.blocks ≡ take n (replica e e.took.two))
    → (is_some z ≡ true → n ≤ length (replica e e.took.zero))
    → (is_some o ≡ true → n ≤ length (replica e e.took.one))
    → (is_some t ≡ true → n ≤ length (replica e e.took.two))
    → (is_some z ≡ true) ⊎ ((is_some o ≡ true) ⊎ (is_some t ≡ true))
    → (x : Bool) → n ≤ length (replica e x) → first_kept z o t ≡ take n (replica e x)
first_cut e (Some r) o t n cz co ct lz lo lt some x fits = cz ∙ take_same e n e.took.zero x (lz refl) fits
first_cut e None (Some r) t n cz co ct lz lo lt some x fits = co ∙ take_same e n e.took.one x (lo refl) fits
first_cut e None None (Some r) n cz co ct lz lo lt some x fits = ct ∙ take_same e n e.took.two x (lt refl) fits
first_cut e None None None n cz co ct lz lo lt some x fits = absurd (grind arith)

-- a replica that is kept has the blocks of the first one
same_first : (e : Open) (r : Option Copy) (x : Bool) (n : ℕ) (first : List Block)
    → IfSome r (λ k. k.blocks ≡ take n (replica e x))
    → (is_some r ≡ true → n ≤ length (replica e x))
    → (n ≤ length (replica e x) → first ≡ take n (replica e x))
    → IfSome r (λ k. k.blocks ≡ first)
same_first e None x n first c l f = tt
same_first e (Some k) x n first c l f = c ∙ sym (f (l refl))

-- it is cut to these blocks
is_cut : (e : Open) (x : Bool) (n : ℕ) (first : List Block)
    → n ≤ length (replica e x)
    → (n ≤ length (replica e x) → first ≡ take n (replica e x))
    → IsCutTo (replica e x) first
is_cut e x n first l f =
    let same = f l in
    let len : length first ≡ n = ap length same ∙ length-take-le n (replica e x) l in
    record { long_enough = rw len l; cut = ap (λ k. take k (replica e x)) len ∙ sym same }

-- three replicas of an extent, those of the nodes that answered cut to the smallest length among them
pub record Sealing (e : Open) (z o t : Option Copy) (n : ℕ) : Type 0 where
  pub cut_zero : IfSome z (λ r. r.blocks ≡ take n (replica e e.took.zero))
  pub cut_one : IfSome o (λ r. r.blocks ≡ take n (replica e e.took.one))
  pub cut_two : IfSome t (λ r. r.blocks ≡ take n (replica e e.took.two))
  pub smallest : IsSmallest (is_some z) (is_some o) (is_some t) (length (replica e e.took.zero)) (length (replica e e.took.one)) (length (replica e e.took.two)) n

-- some node answered
some_answered : (a b c : Bool) (x y w n : ℕ) → IsSmallest a b c x y w n → (a ≡ true) ⊎ ((b ≡ true) ⊎ (c ≡ true))
some_answered a b c x y w n s = elim s.one_of [ inl p ↦ inl p.0 | inr q ↦ elim q [ inl p ↦ inr (inl p.0) | inr p ↦ inr (inr p.0) ] ]

-- the blocks of the first replica that is kept
first_of : (e : Open) (z o t : Option Copy) (n : ℕ) → Sealing e z o t n → (x : Bool) → n ≤ length (replica e x) → first_kept z o t ≡ take n (replica e x)
first_of e z o t n s x fits =
    first_cut e z o t n s.cut_zero s.cut_one s.cut_two s.smallest.at_zero s.smallest.at_one s.smallest.at_two
    (some_answered _ _ _ _ _ _ _ s.smallest) x fits

-- some replica is kept
some_of : (a b c : Bool) → (a ≡ true) ⊎ ((b ≡ true) ⊎ (c ≡ true)) → (a || (b || c)) ≡ true
some_of true b c h = refl
some_of false true c h = refl
some_of false false true h = refl
some_of false false false h = absurd (grind arith)

-- some replica is kept, and all that are kept have the same blocks
pub all_same : (e : Open) (z o t : Option Copy) (n : ℕ) → Sealing e z o t n
    → ((is_some z || (is_some o || is_some t)) ≡ true) × (IfSome z (λ r. r.blocks ≡ first_kept z o t) × (IfSome o (λ r. r.blocks ≡ first_kept z o t) × IfSome t (λ r. r.blocks ≡ first_kept z o t)))
all_same e z o t n s = (
  some_of (is_some z) (is_some o) (is_some t) (some_answered _ _ _ _ _ _ _ s.smallest),
  (
    same_first e z e.took.zero n (first_kept z o t) s.cut_zero s.smallest.at_zero (first_of e z o t n s e.took.zero),
    (
      same_first e o e.took.one n (first_kept z o t) s.cut_one s.smallest.at_one (first_of e z o t n s e.took.one),
      same_first e t e.took.two n (first_kept z o t) s.cut_two s.smallest.at_two (first_of e z o t n s e.took.two),
    ),
  ),
)

-- the extent is sealed with these blocks
pub seals : (e : Open) (z o t : Option Copy) (n : ℕ) → Sealing e z o t n
    → Seals e (record { blocks = first_kept z o t; kept = record { zero = is_some z; one = is_some o; two = is_some t } })
seals e z o t n s = record {
  zero = λ a. is_cut e e.took.zero n (first_kept z o t) (s.smallest.at_zero a) (first_of e z o t n s e.took.zero);
  one = λ a. is_cut e e.took.one n (first_kept z o t) (s.smallest.at_one a) (first_of e z o t n s e.took.one);
  two = λ a. is_cut e e.took.two n (first_kept z o t) (s.smallest.at_two a) (first_of e z o t n s e.took.two);
  smallest = elim s.smallest.one_of [
    | inl p ↦ inl (p.0, len e.took.zero (s.smallest.at_zero p.0) ∙ p.1)
    | inr q ↦ inr (elim q [
      | inl p ↦ inl (p.0, len e.took.one (s.smallest.at_one p.0) ∙ p.1)
      | inr p ↦ inr (p.0, len e.took.two (s.smallest.at_two p.0) ∙ p.1)
    ])
  ];
}
  where
    len : (x : Bool) → n ≤ length (replica e x) → length (first_kept z o t) ≡ n
    len x l = ap length (first_of e z o t n s x l) ∙ length-take-le n (replica e x) l

-- what the code knows of three replicas that were cut
pub sealing : (e : Open) (rz ro rt : List Block) (z o t : Option Copy) (n : ℕ) (az ao at : Bool)
    → rz ≡ replica e e.took.zero → ro ≡ replica e e.took.one → rt ≡ replica e e.took.two
    → is_some z ≡ az → is_some o ≡ ao → is_some t ≡ at
    → IfSome z (λ r. r.blocks ≡ take n rz) → IfSome o (λ r. r.blocks ≡ take n ro) → IfSome t (λ r. r.blocks ≡ take n rt)
    → IsSmallest az ao at (length rz) (length ro) (length rt) n → Sealing e z o t n
sealing e rz ro rt z o t n az ao at pz po pt kz ko kt cz co ct s = record {
  cut_zero = subst (λ r. IfSome z (λ k. k.blocks ≡ take n r)) pz cz;
  cut_one = subst (λ r. IfSome o (λ k. k.blocks ≡ take n r)) po co;
  cut_two = subst (λ r. IfSome t (λ k. k.blocks ≡ take n r)) pt ct;
  smallest = record {
    at_zero = λ a. rw (← ap length pz) (s.at_zero (sym kz ∙ a));
    at_one = λ a. rw (← ap length po) (s.at_one (sym ko ∙ a));
    at_two = λ a. rw (← ap length pt) (s.at_two (sym kt ∙ a));
    one_of = elim s.one_of [
      | inl p ↦ inl (kz ∙ p.0, p.1 ∙ ap length pz)
      | inr q ↦ inr (elim q [
        | inl p ↦ inl (ko ∙ p.0, p.1 ∙ ap length po)
        | inr p ↦ inr (kt ∙ p.0, p.1 ∙ ap length pt)
      ])
    ];
  };
}

-- a replica has the acknowledged blocks, and at most the block that was tried beyond them
replica_committed : (blocks : List Block) (tried : Option Block) (took x : Bool) (rs : List Block) (t : Three)
    → rs ≡ blocks ++ held x tried → IsCommitted (record { blocks = blocks; tried = tried; took = t }) rs
replica_committed blocks None took true rs t p = inl (p ∙ append-nil blocks)
replica_committed blocks None took false rs t p = inl (p ∙ append-nil blocks)
replica_committed blocks (Some b) took true rs t p = inr (b, refl, p)
replica_committed blocks (Some b) took false rs t p = inl (p ∙ append-nil blocks)

-- a replica that is as long as what it was cut to
whole_replica : (r blocks : List Block) → IsCutTo r blocks → length blocks ≡ length r → blocks ≡ r
whole_replica r blocks c l = sym c.cut ∙ take_all (length blocks) r (omega arith)

-- what is sealed is the acknowledged blocks, or these and the block that was tried
pub committed : (e : Open) (s : Closed) → Seals e s → IsCommitted e s.blocks
committed e s h = elim h.smallest [
  | inl p ↦ replica_committed e.blocks e.tried true e.took.zero s.blocks e.took (whole_replica (replica e e.took.zero) s.blocks (h.zero p.0) p.1)
  | inr q ↦ elim q [
    | inl p ↦ replica_committed e.blocks e.tried true e.took.one s.blocks e.took (whole_replica (replica e e.took.one) s.blocks (h.one p.0) p.1)
    | inr p ↦ replica_committed e.blocks e.tried true e.took.two s.blocks e.took (whole_replica (replica e e.took.two) s.blocks (h.two p.0) p.1)
  ]
]
