-- How long what is cut is, and the raised group.
use Rattle.std.proofs.Common.{◌≡◌, ◌≢◌, ℕ, ◌+◌, ◌<◌, ◌≤◌, Bool, true, false, cond, IsTrue, List, [], ◌∷◌, ◌++◌, length, take, drop, Option, Some, None, refl, sym, ap, ◌∙◌, arith, length-append, length-drop, ◌-◌, suc, slice_index_or, get_or}
use Rattle.std.specs.Option.{option_map}
use Rattle.std.specs.Cmp.Lexicographic.{bytes_decides}
use Rattle.std.proofs.lemmas.List.{drop_more, take_all}
use borrow.Author.Tests.{ltb-true}
use Rattle.std.proofs.Math.Seq.{take-add}
use Rattle.list_pages.specs.Names.{begins_with, cut_after, group_of}
use Rattle.list_pages.specs.Seeks.{cut_from, raised, can_be_raised}
use Rattle.list_pages.proofs.Orders.{begins_split}
use Rattle.list_pages.proofs.Groups.{cut_is, no_some, same_some}

-- what begins with a text is as long as it
pub begins_long : (d left : List ℕ) → begins_with left d ≡ true → length d ≤ length left
begins_long d left e = omega (arith, ap length (begins_split d left e), length-append d (drop (length d) left))

-- ---- the length that is found, and what is cut

module _ (b : ℕ) (d : List ℕ) where
  record IsEnd (at : ℕ) (text : List ℕ) (end : ℕ) : Type 0 where
    len : ℕ
    is : end ≡ at + len
    within : len ≤ length text
    cut : cut_after (b ∷ d) text ≡ Some (take len text)

  end_by : (at x : ℕ) (text : List ℕ) (end : ℕ) (t : Bool) → begins_with (x ∷ text) (b ∷ d) ≡ t → (cut_from (at + 1) (b ∷ d) text ≡ Some end → IsEnd (at + 1) text end)
      → cond t (Some (at + length (b ∷ d))) (cut_from (at + 1) (b ∷ d) text) ≡ Some end → IsEnd at (x ∷ text) end
  end_by at x text end true is more e = record {
    len = length (b ∷ d);
    is = sym (same_some (at + length (b ∷ d)) end e);
    within = begins_long (b ∷ d) (x ∷ text) is;
    cut = ap (λ t. cond t (Some (b ∷ d)) (option_map (λ cut. x ∷ cut) (cut_after (b ∷ d) text))) is ∙ ap Some ((bytes_decides (b ∷ d) (take (length (b ∷ d)) (x ∷ text))).0 is);
  }
  end_by at x text end false is more e =
      let there = more e in record {
        len = suc there.len;
        is = there.is ∙ omega arith;
        within = omega (arith, there.within);
        cut = ap (λ t. cond t (Some (b ∷ d)) (option_map (λ cut. x ∷ cut) (cut_after (b ∷ d) text))) is ∙ ap (option_map (λ cut. x ∷ cut)) there.cut;
      }

  end_is : (at : ℕ) (text : List ℕ) (end : ℕ) → cut_from at (b ∷ d) text ≡ Some end → IsEnd at text end
  end_is at [] end e = no_some e
  end_is at (x ∷ text) end e = end_by at x text end (begins_with (x ∷ text) (b ∷ d)) refl (end_is (at + 1) text end) e

  none_by : (at x : ℕ) (text : List ℕ) (t : Bool) → (cut_from (at + 1) (b ∷ d) text ≡ None → cut_after (b ∷ d) text ≡ None) → cond t (Some (at + length (b ∷ d))) (cut_from (at + 1) (b ∷ d) text) ≡ None
      → cond t (Some (b ∷ d)) (option_map (λ cut. x ∷ cut) (cut_after (b ∷ d) text)) ≡ None
  none_by at x text true more e = no_some (sym e)
  none_by at x text false more e = ap (option_map (λ cut. x ∷ cut)) (more e)

  none_is : (at : ℕ) (text : List ℕ) → cut_from at (b ∷ d) text ≡ None → cut_after (b ∷ d) text ≡ None
  none_is at [] e = refl
  none_is at (x ∷ text) e = none_by at x text (begins_with (x ∷ text) (b ∷ d)) (none_is (at + 1) text) e

-- ---- the group

pub no_delimiter : (p d name : List ℕ) → length d ≡ 0 → group_of p d name ≡ None
no_delimiter p [] name e = refl
no_delimiter p (b ∷ d) name e = absurd (omega arith)

-- a text from a place on, as a slice of it has it
pub from_place : (at : ℕ) (text : List ℕ) → take (length text - at) (drop at text) ≡ drop at text
from_place at text = take_all (length text - at) (drop at text) (omega (arith, length-drop at text))

pub no_group : (p d name : List ℕ) → (length d ≢ 0) → cut_from 0 d (drop (length p) name) ≡ None → group_of p d name ≡ None
no_group p [] name some e = refl
no_group p (b ∷ d) name some e = ap (option_map (λ cut. p ++ cut)) (none_is b d 0 (drop (length p) name) e)

take_more : (p name : List ℕ) (len : ℕ) → begins_with name p ≡ true → p ++ take len (drop (length p) name) ≡ take (length p + len) name
take_more p name len e =
    ap (λ t. t ++ take len (drop (length p) name)) ((bytes_decides p (take (length p) name)).0 e) ∙ sym (take-add (length p) len name)

pub group_at : (p d name : List ℕ) (end : ℕ) → begins_with name p ≡ true → (length d ≢ 0) → cut_from 0 d (drop (length p) name) ≡ Some end → group_of p d name ≡ Some (take (length p + end) name)
group_at p [] name end begins some e = absurd (some refl)
group_at p (b ∷ d) name end begins some e =
    let there = end_is b d 0 (drop (length p) name) end e in
    let same : there.len ≡ end = omega (arith, there.is) in
    ap (option_map (λ cut. p ++ cut)) there.cut ∙ ap Some (take_more p name there.len begins) ∙ ap (λ n. Some (take (length p + n) name)) same

pub within_name : (p d name : List ℕ) (end : ℕ) → begins_with name p ≡ true → (length d ≢ 0) → cut_from 0 d (drop (length p) name) ≡ Some end → length p + end ≤ length name
within_name p [] name end begins some e = absurd (some refl)
within_name p (b ∷ d) name end begins some e =
    let there = end_is b d 0 (drop (length p) name) end e in
    omega (arith, there.is, there.within, length-drop (length p) name, begins_long p name begins)

-- ---- the raised group

last_of : (x : ℕ) (g : List ℕ) → raised (x ∷ g) ≡ take (length g) (x ∷ g) ++ (slice_index_or (x ∷ g) (length g) 0 + 1) ∷ []
last_of x [] = refl
last_of x (y ∷ g) = ap (λ t. x ∷ t) (last_of y g)

-- the group without its last byte, and that byte raised
pub raised_last : (g : List ℕ) → 1 ≤ length g → raised g ≡ take (length g - 1) g ++ (slice_index_or g (length g - 1) 0 + 1) ∷ []
raised_last [] long = absurd (omega arith)
raised_last (x ∷ g) long =
    let e : length (x ∷ g) - 1 ≡ length g = omega arith in
    rw e (last_of x g)

last_by : (x : ℕ) (g : List ℕ) → can_be_raised (x ∷ g) ≡ true → slice_index_or (x ∷ g) (length g) 0 < 255
last_by x [] can = ltb-true x 255 can
last_by x (y ∷ g) can = last_by y g can

pub last_below : (g : List ℕ) → 1 ≤ length g → IsTrue (can_be_raised g) → slice_index_or g (length g - 1) 0 < 255
last_below [] long can = absurd (omega arith)
last_below (x ∷ g) long can =
    let e : length (x ∷ g) - 1 ≡ length g = omega arith in
    rw e (last_by x g can)

pub raised_none : (g : List ℕ) → length g < 1 → raised g ≡ []
raised_none [] short = refl
raised_none (x ∷ g) short = absurd (omega arith)

-- ---- one step of the search

here : (at : ℕ) (d : List ℕ) (x : ℕ) (rest : List ℕ) → begins_with (x ∷ rest) d ≡ false → cut_from at d (x ∷ rest) ≡ cut_from (at + 1) d rest
here at d x rest e = ap (λ t. cond t (Some (at + length d)) (cut_from (at + 1) d rest)) e

found : (at : ℕ) (d : List ℕ) (x : ℕ) (rest : List ℕ) → begins_with (x ∷ rest) d ≡ true → cut_from at d (x ∷ rest) ≡ Some (at + length d)
found at d x rest e = ap (λ t. cond t (Some (at + length d)) (cut_from (at + 1) d rest)) e

pub cut_on : (at : ℕ) (d text : List ℕ) → at < length text → begins_with (drop at text) d ≡ false → cut_from at d (drop at text) ≡ cut_from (at + 1) d (drop (at + 1) text)
cut_on at d text within e =
    let split = drop_more text at 0 within in
    ap (cut_from at d) split ∙ here at d (get_or text at 0) (drop (at + 1) text) (ap (λ t. begins_with t d) (sym split) ∙ e)

pub cut_found : (at : ℕ) (d text : List ℕ) → at < length text → begins_with (drop at text) d ≡ true → cut_from at d (drop at text) ≡ Some (at + length d)
cut_found at d text within e =
    let split = drop_more text at 0 within in
    ap (cut_from at d) split ∙ found at d (get_or text at 0) (drop (at + 1) text) (ap (λ t. begins_with t d) (sym split) ∙ e)

pub can_append : (front cut : List ℕ) → 0 < length cut → can_be_raised (front ++ cut) ≡ can_be_raised cut
can_append [] cut long = refl
can_append (x ∷ []) [] long = absurd (omega arith)
can_append (x ∷ []) (y ∷ cut) long = refl
can_append (x ∷ y ∷ front) cut long = can_append (y ∷ front) cut long

module _ (b : ℕ) (d : List ℕ) (can : can_be_raised (b ∷ d) ≡ true) where
  can_by : (x : ℕ) (text cut : List ℕ) (t : Bool) (later : Option (List ℕ)) → cut_after (b ∷ d) text ≡ later → ((c : List ℕ) → later ≡ Some c → can_be_raised c ≡ true)
      → cond t (Some (b ∷ d)) (option_map (λ cut. x ∷ cut) later) ≡ Some cut → can_be_raised cut ≡ true
  can_by x text cut true later is more e = ap can_be_raised (sym (same_some (b ∷ d) cut e)) ∙ can
  can_by x text cut false None is more e = no_some e
  can_by x text cut false (Some c) is more e =
      let there = cut_is b d text c is in
      ap can_be_raised (sym (same_some (x ∷ c) cut e)) ∙ can_append (x ∷ []) c (omega (arith, there.long)) ∙ more c refl

  cut_can : (text cut : List ℕ) → cut_after (b ∷ d) text ≡ Some cut → can_be_raised cut ≡ true
  cut_can [] cut e = no_some e
  cut_can (x ∷ text) cut e = can_by x text cut (begins_with (x ∷ text) (b ∷ d)) (cut_after (b ∷ d) text) refl (cut_can text) e

group_by : (p d name group : List ℕ) (found : Option (List ℕ)) → can_be_raised d ≡ true → cut_after d (drop (length p) name) ≡ found → option_map (λ cut. p ++ cut) found ≡ Some group → can_be_raised group ≡ true
group_by p d name group None can is e = no_some e
group_by p [] name group (Some cut) can is e = no_some is
group_by p (b ∷ d) name group (Some cut) can is e =
    let there = cut_is b d (drop (length p) name) cut is in
    ap can_be_raised (sym (same_some (p ++ cut) group e)) ∙ can_append p cut (omega (arith, there.long)) ∙ cut_can b d can (drop (length p) name) cut is

-- the last byte of a group is that of the delimiter
pub group_can : (p d name group : List ℕ) → IsTrue (can_be_raised d) → group_of p d name ≡ Some group → IsTrue (can_be_raised group)
group_can p d name group can e = group_by p d name group (cut_after d (drop (length p) name)) can refl e
