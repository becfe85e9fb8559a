-- Bytes are read in one way.
use Rattle.std.proofs.Common.{◌≡◌, ◌⊎◌, ◌≤◌, inl, inr, ℕ, Bool, List, [], ◌∷◌, ◌++◌, find, length, Option, Some, None, is_none, option_map, option_and_then, arith, refl, Result, Ok, Err, IfOk, MatchResult, true, false, true≢false, ◌<◌, subst, sym, ap, ◌∙◌}
use Rattle.std.specs.Option.{option_or}
use Rattle.std.proofs.lemmas.Bool.{cases_order, or_parts}
use Rattle.std.proofs.lemmas.List.Folds.{find-append}
use Rattle.httparse.specs.Grammar.{RequestHead, ReadsRequest}
use Rattle.httparse.proofs.GrammarLemmas.{request_unique}
use Rattle.stamp_types.specs.declared.rule.Rule.{Rule}
use Rattle.stamp_types.specs.declared.rule.Rule.TheVariants.{F1, F2, F3}
use Rattle.stamp_values.specs.declared.op.Op.{Op}
use Rattle.stamp_values.specs.declared.verb.Verb.{Verb}
use Rattle.request_form.specs.HeadForms.{Form, form_by, form_of}
use Rattle.request_form.specs.HeadReads.{Denies, Passes, field_rules}
use Rattle.request_form.specs.HeadRules.{denial_among, denial_of, denied_by, denied_verb, head_code, head_holds, head_rules, no_head, op_at, op_of, verb_of}
use Rattle.request_form.specs.Heads.{IsHead, IsNoHead, Accepts, Refuses, head_limit, fields_limit, parsed_of}
use Rattle.request_form.specs.Targets.{target_of}
use Rattle.request_form.proofs.HeadDecisions.{head_found}
use Rattle.request_form.specs.declared.denial.Denial.{Denial}
use Rattle.request_form.specs.declared.denial.HeadFault.{HeadFault}
use Rattle.request_form.specs.declared.denial.HeadFault.TheVariants as fault
use Rattle.request_form.specs.HeadParts.{HeadParts}

-- bytes are at most one head
one_head : (text : List ℕ) (h k : RequestHead) → IsHead text h → IsHead text k → h ≡ k
one_head text h k x y = (request_unique text h k [] [] x.reads y.reads).0

pub one_form : (text : List ℕ) (a b : Form) → Accepts text a → Accepts text b → a ≡ b
one_form text a b x y =
    let same : form_of (parsed_of x.head) ≡ form_of (parsed_of y.head) = ap (λ (h : RequestHead). form_of (parsed_of h)) (one_head text x.head y.head x.is_head y.is_head) in
    let forms : Some a ≡ Some b = sym x.asks ∙ same ∙ y.asks in
    cc

pub one_way : (text : List ℕ) (a : Form) (d : Denial) → Accepts text a → Refuses text d → ⊥
one_way text a d x (inl y) =
    let same : denial_of (parsed_of x.head) ≡ denial_of (parsed_of y.head) = ap (λ (h : RequestHead). denial_of (parsed_of h)) (one_head text x.head y.head x.is_head y.is_head) in
    let denials : None ≡ Some d = sym x.allowed ∙ same ∙ y.denied in
    cc
one_way text a d x (inr y) = y.0 x.head x.is_head

pub one_denial : (text : List ℕ) (d e : Denial) → Refuses text d → Refuses text e → d ≡ e
one_denial text d e (inl x) (inl y) =
    let same : denial_of (parsed_of x.head) ≡ denial_of (parsed_of y.head) = ap (λ (h : RequestHead). denial_of (parsed_of h)) (one_head text x.head y.head x.is_head y.is_head) in
    let denials : Some d ≡ Some e = sym x.denied ∙ same ∙ y.denied in
    cc
one_denial text d e (inl x) (inr y) = absurd (y.0 x.head x.is_head)
one_denial text d e (inr x) (inl y) = absurd (x.0 y.head y.is_head)
one_denial text d e (inr x) (inr y) = x.1 ∙ sym y.1

-- a head that was read is accepted if it has a form
pub accepted : (text : List ℕ) (p : HeadParts) (r : Result Form HeadFault) → (h : RequestHead) × IsHead text h × (p ≡ parsed_of h)
    → MatchResult r (λ form. (denial_of p ≡ None) × (form_of p ≡ Some form)) (Denies p head_rules) → IfOk r (λ form. Accepts text form)
accepted text p (Ok form) (h, is, same) both = record { head = h; is_head = is; allowed = sym (ap denial_of same) ∙ both.0; asks = sym (ap form_of same) ∙ both.1 }
accepted text p (Err fault) head both = tt

pub refused : (text : List ℕ) (p : HeadParts) (r : Result Form HeadFault) (d : Denial) → (h : RequestHead) × IsHead text h × (p ≡ parsed_of h)
    → MatchResult r (λ form. (denial_of p ≡ None) × (form_of p ≡ Some form)) (Denies p head_rules) → r ≡ Err (fault.Denied d) → Refuses text d
refused text p r d (h, is, same) both e = let denied = rw e at both in inl (record { head = h; is_head = is; denied = sym (ap denial_of same) ∙ denied })

-- ---- several rules in turn

-- the refusal by two lists of rules, one after the other
among : (p : HeadParts) (xs ys : List Rule) → denial_among p (xs ++ ys) ≡ option_or (denial_among p xs) (denial_among p ys)
unfolding denial_among
among p xs ys = by_found (find (head_holds p) xs) (find (head_holds p) ys) (find-append (head_holds p) xs ys)
  where
    denied : Option Rule → Option Denial
    denied found = option_map (λ rule. denied_by rule (head_code p rule) (denied_verb p rule)) found

    by_found : (a b : Option Rule) → find (head_holds p) (xs ++ ys) ≡ option_or a b → denied (find (head_holds p) (xs ++ ys)) ≡ option_or (denied a) (denied b)
    by_found None b e = ap denied e
    by_found (Some rule) b e = ap denied e

-- a refusal by the first rules
pub denies_first : (p : HeadParts) (xs ys : List Rule) (f : HeadFault) → Denies p xs f → Denies p (xs ++ ys) f
denies_first p xs ys (fault.Denied d) e = among p xs ys ∙ ap (λ o. option_or o (denial_among p ys)) e
denies_first p xs ys fault.NoMemory e = tt

-- a refusal by the rules that come after rules that do not hold
pub denies_next : (p : HeadParts) (xs ys : List Rule) (f : HeadFault) → Passes p xs → Denies p ys f → Denies p (xs ++ ys) f
denies_next p xs ys (fault.Denied d) none e = among p xs ys ∙ ap (λ o. option_or o (denial_among p ys)) none ∙ e
denies_next p xs ys fault.NoMemory none e = tt

pub passes_both : (p : HeadParts) (xs ys : List Rule) → Passes p xs → Passes p ys → Passes p (xs ++ ys)
passes_both p xs ys none more = among p xs ys ∙ ap (λ o. option_or o (denial_among p ys)) none ∙ more

-- ---- each text is accepted or refused

-- a number is within a limit, or it is not
within : (n limit : ℕ) → (n ≤ limit) ⊎ (¬ (n ≤ limit))
within n limit = by_order (cases_order n limit)
  where
    by_order : (n ≡ limit) ⊎ ((n < limit) ⊎ (limit < n)) → (n ≤ limit) ⊎ (¬ (n ≤ limit))
    by_order (inl e) = inl (omega arith)
    by_order (inr (inl less)) = inl (omega arith)
    by_order (inr (inr more)) = inr (λ small. omega arith)

-- bytes that read as a head are a head, if they are not too long and do not have too many lines
limited : (text : List ℕ) (h : RequestHead) → ReadsRequest text h [] → (length text ≤ head_limit) ⊎ (¬ (length text ≤ head_limit))
    → (length h.fields ≤ fields_limit) ⊎ (¬ (length h.fields ≤ fields_limit)) → ((k : RequestHead) × IsHead text k) ⊎ IsNoHead text
limited text h reads (inl short) (inl few) = inl (h, record { reads = reads; short = short; few = few })
limited text h reads (inl short) (inr many) =
    inr (λ k is. many (subst (λ (r : RequestHead). length r.fields ≤ fields_limit) (request_unique text k h [] [] is.reads reads).0 is.few))
limited text h reads (inr long) few = inr (λ k is. long is.short)

is_head_or_not : (text : List ℕ) → ((h : RequestHead) × ReadsRequest text h []) ⊎ ((h : RequestHead) → ReadsRequest text h [] → ⊥)
    → ((k : RequestHead) × IsHead text k) ⊎ IsNoHead text
is_head_or_not text (inl h) = limited text h.0 h.1 (within (length text) head_limit) (within (length h.0.fields) fields_limit)
is_head_or_not text (inr none) = inr (λ k is. none k is.reads)

-- an operation that is known makes a form, since it has a method
some_form : (p : HeadParts) (op : Option Op) (verb : Option Verb) → is_none op ≡ false → op ≡ option_and_then (λ verb. op_at verb (target_of p.target)) verb
    → (form : Form) × (option_and_then (λ o. option_map (λ v. form_by o v p) verb) op ≡ Some form)
some_form p None verb known of = absurd (true≢false known)
some_form p (Some op) None known of = absurd (cc)
some_form p (Some op) (Some verb) known of = (form_by op verb p, refl)

op_parts : (p : HeadParts) → op_of p ≡ option_and_then (λ verb. op_at verb (target_of p.target)) (verb_of p.method)
unfolding op_of
op_parts p = refl

-- if nothing is found, the first does not pass, and nothing is found after it
not_found : {X : Type 0} (f : X → Bool) (x : X) (xs : List X) → find f (x ∷ xs) ≡ None → (f x ≡ false) × (find f xs ≡ None)
not_found f x xs e = by_test (f x) refl
  where
    by_test : (b : Bool) → f x ≡ b → (f x ≡ false) × (find f xs ≡ None)
    by_test true t = let some : Some x ≡ None = rw t at e in absurd (cc)
    by_test false t = (t, rw t at e)

denial_none : {X Y : Type 0} (g : X → Y) (o : Option X) → option_map g o ≡ None → o ≡ None
denial_none g None e = refl
denial_none g (Some x) e = absurd (cc)

-- the operation of a head that no rule refuses is known
known_op : (p : HeadParts) → denial_of p ≡ None → is_none (op_of p) ≡ false
unfolding denial_among
known_op p free =
    let none = denial_none (λ rule. denied_by rule (head_code p rule) (denied_verb p rule)) (find (head_holds p) head_rules) free in
    let f1 = not_found (head_holds p) F1 (F2 ∷ F3 ∷ field_rules) none in
    let f2 = not_found (head_holds p) F2 (F3 ∷ field_rules) f1.1 in
    let f3 = not_found (head_holds p) F3 field_rules f2.1 in
    (or_parts _ _ f3.0).0

by_denial : (text : List ℕ) (h : RequestHead) → IsHead text h → (denial : Option Denial) → denial_of (parsed_of h) ≡ denial
    → ((form : Form) × Accepts text form) ⊎ ((d : Denial) × Refuses text d)
by_denial text h is (Some d) denied = inr (d, inl (record { head = h; is_head = is; denied = denied }))
by_denial text h is None free =
    let form = some_form (parsed_of h) (op_of (parsed_of h)) (verb_of (parsed_of h).method) (known_op (parsed_of h) free) (op_parts (parsed_of h)) in
    inl (form.0, record { head = h; is_head = is; allowed = free; asks = form.1 })

by_head : (text : List ℕ) → ((k : RequestHead) × IsHead text k) ⊎ IsNoHead text → ((form : Form) × Accepts text form) ⊎ ((d : Denial) × Refuses text d)
by_head text (inl h) = by_denial text h.0 h.1 (denial_of (parsed_of h.0)) refl
by_head text (inr none) = inr (no_head, inr (none, refl))

pub accepted_or_refused : (text : List ℕ) → ((form : Form) × Accepts text form) ⊎ ((denial : Denial) × Refuses text denial)
accepted_or_refused text = by_head text (is_head_or_not text (head_found text))
