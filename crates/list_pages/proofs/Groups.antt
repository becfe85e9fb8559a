-- The group of a name.
use Rattle.std.proofs.Common.{◌≡◌, ℕ, ◌<◌, ◌≤◌, Bool, true, false, cond, List, [], ◌∷◌, ◌++◌, length, drop, Option, Some, None, refl, sym, ap, ◌∙◌, subst, arith, nat_eq, append_assoc, length-append}
use Rattle.std.specs.Option.{option_map, unwrap_or}
use Rattle.std.specs.Prelude.{is_some}
use Rattle.std.specs.Cmp.Lexicographic.{bytes_decides}
use mathlib.Core.Bool.{true≢false}
use borrow.Author.Tests.{eqb-true}
use Rattle.list_pages.specs.Names.{begins_with, cut_after, group_of}
use Rattle.list_pages.proofs.Orders.{first_true, second_true, both_true, begins_with-append, begins_split, begins_alike}

pub no_some : {A B : Type 0} {x : A} → None ≡ Some x → B
no_some e = absurd (true≢false (sym (ap is_some e)))

pub same_some : {A : Type 0} (x y : A) → Some x ≡ Some y → x ≡ y
same_some x y e = ap (λ o. unwrap_or o x) e

module _ (b : ℕ) (delimiter : List ℕ) where
  -- ---- what was cut ends with the delimiter, and the text begins with it
  pub record IsCut (text cut : List ℕ) : Type 0 where
    pub begins : begins_with text cut ≡ true
    pub long : length (b ∷ delimiter) ≤ length cut

  further : (x : ℕ) (text : List ℕ) (later : Option (List ℕ)) (cut : List ℕ) → ((c : List ℕ) → later ≡ Some c → IsCut text c) → option_map (λ cut. x ∷ cut) later ≡ Some cut → IsCut (x ∷ text) cut
  further x text None cut more e = no_some e
  further x text (Some c) cut more e =
      let is : x ∷ c ≡ cut = same_some (x ∷ c) cut e in
      let rest = more c refl in
      subst (IsCut (x ∷ text)) is (record {
        begins = both_true (nat_eq x x) (begins_with text c) (first_true (nat_eq x x) true ((bytes_decides (x ∷ []) (x ∷ [])).1 refl)) rest.begins;
        long = omega (arith, rest.long);
      })

  at_cut : (x : ℕ) (text cut : List ℕ) (t : Bool) (later : Option (List ℕ)) → begins_with (x ∷ text) (b ∷ delimiter) ≡ t → ((c : List ℕ) → later ≡ Some c → IsCut text c)
      → cond t (Some (b ∷ delimiter)) (option_map (λ cut. x ∷ cut) later) ≡ Some cut → IsCut (x ∷ text) cut
  at_cut x text cut true later is more e = subst (IsCut (x ∷ text)) (same_some (b ∷ delimiter) cut e) (record { begins = is; long = omega arith })
  at_cut x text cut false later is more e = further x text later cut more e

  pub cut_is : (text cut : List ℕ) → cut_after (b ∷ delimiter) text ≡ Some cut → IsCut text cut
  cut_is [] cut e = no_some e
  cut_is (x ∷ text) cut e = at_cut x text cut (begins_with (x ∷ text) (b ∷ delimiter)) (cut_after (b ∷ delimiter) text) refl (cut_is text) e

  -- ---- each text that begins with what was cut is cut there
  same_cut : (x : ℕ) (text : List ℕ) (y : ℕ) (other cut : List ℕ) (t : Bool) (later : Option (List ℕ)) → begins_with (x ∷ text) (b ∷ delimiter) ≡ t → IsCut (x ∷ text) cut → begins_with (y ∷ other) cut ≡ true
      → ((c : List ℕ) → later ≡ Some c → begins_with other c ≡ true → cut_after (b ∷ delimiter) other ≡ Some c)
      → cond t (Some (b ∷ delimiter)) (option_map (λ cut. x ∷ cut) later) ≡ Some cut
      → cut_after (b ∷ delimiter) (y ∷ other) ≡ Some cut
  same_cut x text y other cut true later is was begins more e =
      let alike : begins_with (y ∷ other) (b ∷ delimiter) ≡ true = begins_alike (b ∷ delimiter) cut (y ∷ other) (x ∷ text) begins was.begins was.long ∙ is in
      ap (λ t. cond t (Some (b ∷ delimiter)) (option_map (λ cut. y ∷ cut) (cut_after (b ∷ delimiter) other))) alike ∙ e
  same_cut x text y other cut false None is was begins more e = no_some e
  same_cut x text y other cut false (Some c) is was begins more e =
      let alike : begins_with (y ∷ other) (b ∷ delimiter) ≡ false = begins_alike (b ∷ delimiter) cut (y ∷ other) (x ∷ text) begins was.begins was.long ∙ is in
      let whole : begins_with (y ∷ other) (x ∷ c) ≡ true = ap (begins_with (y ∷ other)) (same_some (x ∷ c) cut e) ∙ begins in
      let byte : x ≡ y = eqb-true x y (first_true (nat_eq x y) (begins_with other c) whole) in
      let later : cut_after (b ∷ delimiter) other ≡ Some c = more c refl (second_true (nat_eq x y) (begins_with other c) whole) in
      ap (λ t. cond t (Some (b ∷ delimiter)) (option_map (λ cut. y ∷ cut) (cut_after (b ∷ delimiter) other))) alike
      ∙ (λ i. option_map (λ cut. sym byte i ∷ cut) (later i)) ∙ e

  nothing_begins : (cut : List ℕ) → 0 < length cut → begins_with [] cut ≡ false
  nothing_begins [] long = absurd (omega arith)
  nothing_begins (x ∷ cut) long = refl

  cut_alike : (text other cut : List ℕ) → cut_after (b ∷ delimiter) text ≡ Some cut → begins_with other cut ≡ true → cut_after (b ∷ delimiter) other ≡ Some cut
  cut_alike [] other cut e begins = no_some e
  cut_alike (x ∷ text) [] cut e begins =
      let is = cut_is (x ∷ text) cut e in
      absurd (true≢false (sym begins ∙ nothing_begins cut (omega (arith, is.long))))
  cut_alike (x ∷ text) (y ∷ other) cut e begins =
      same_cut x text y other cut (begins_with (x ∷ text) (b ∷ delimiter)) (cut_after (b ∷ delimiter) text) refl (cut_is (x ∷ text) cut e) begins (λ c. cut_alike text other c) e

-- what a group says of its name
pub record IsGroupOf (prefix delimiter group name : List ℕ) : Type 0 where
  pub begins : begins_with name group ≡ true
  pub long : 0 < length group
  pub same : (other : List ℕ) → begins_with other group ≡ true → (begins_with other prefix ≡ true) × (group_of prefix delimiter other ≡ Some group)

begins_more : (prefix cut rest : List ℕ) → begins_with rest cut ≡ true → begins_with (prefix ++ rest) (prefix ++ cut) ≡ true
begins_more prefix cut rest e =
    ap (λ t. begins_with t (prefix ++ cut)) (ap (λ t. prefix ++ t) (begins_split cut rest e) ∙ sym (append_assoc prefix cut (drop (length cut) rest)))
    ∙ begins_with-append (prefix ++ cut) (drop (length cut) rest)

after : (prefix rest : List ℕ) → drop (length prefix) (prefix ++ rest) ≡ rest
after [] rest = refl
after (x ∷ prefix) rest = after prefix rest

at_group : (prefix delimiter name group : List ℕ) (found : Option (List ℕ)) → begins_with name prefix ≡ true → cut_after delimiter (drop (length prefix) name) ≡ found → option_map (λ cut. prefix ++ cut) found ≡ Some group → IsGroupOf prefix delimiter group name
at_group prefix delimiter name group None begins is e = no_some e
at_group prefix [] name group (Some cut) begins is e = no_some is
at_group prefix (b ∷ delimiter) name group (Some cut) begins is e =
    let cut_there = cut_is b delimiter (drop (length prefix) name) cut is in
    let whole : prefix ++ cut ≡ group = same_some (prefix ++ cut) group e in
    subst (λ group. IsGroupOf prefix (b ∷ delimiter) group name) whole (record {
      begins = ap (λ t. begins_with t (prefix ++ cut)) (begins_split prefix name begins) ∙ begins_more prefix cut (drop (length prefix) name) cut_there.begins;
      long = omega (arith, length-append prefix cut, cut_there.long);
      same = λ other e.
          let split : other ≡ prefix ++ (cut ++ drop (length (prefix ++ cut)) other) = begins_split (prefix ++ cut) other e ∙ append_assoc prefix cut (drop (length (prefix ++ cut)) other) in (
            ap (λ t. begins_with t prefix) split ∙ begins_with-append prefix (cut ++ drop (length (prefix ++ cut)) other),
            ap (option_map (λ cut. prefix ++ cut))
                (ap (λ t. cut_after (b ∷ delimiter) t) (ap (drop (length prefix)) split ∙ after prefix (cut ++ drop (length (prefix ++ cut)) other))
                ∙ cut_alike b delimiter (drop (length prefix) name) (cut ++ drop (length (prefix ++ cut)) other) cut is (begins_with-append cut (drop (length (prefix ++ cut)) other))),
          );
    })

-- a group of a name that begins with the prefix
pub group_is : (prefix delimiter name group : List ℕ) → begins_with name prefix ≡ true → group_of prefix delimiter name ≡ Some group → IsGroupOf prefix delimiter group name
group_is prefix delimiter name group begins e = at_group prefix delimiter name group (cut_after delimiter (drop (length prefix) name)) begins refl e
