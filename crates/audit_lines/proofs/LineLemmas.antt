-- Lists that are appended in turn, and the key that a line names.
use Rattle.std.proofs.Common.{◌≡◌, ◌∙◌, ℕ, Bool, true, false, if◌then◌else◌, List, ◌++◌, Option, Some, None, ap, refl, sym}
use Rattle.stamp_types.specs.declared.ask.Ask.{Ask}
use Rattle.access_rules.specs.declared.judgement.SignedBy.{SignedBy}
use Rattle.access_rules.specs.declared.judgement.SignedBy.TheVariants as by
use Rattle.access_rules.specs.declared.keys.Keys.{Keys}
use Rattle.access_rules.specs.Parts.{first_alone, is_by_first}
use Rattle.access_rules.specs.Signatures.{has_true_signature, signed_by}
use Rattle.audit_lines.specs.Lines.{key_number}
use Rattle.std.proofs.lemmas.List.{append_assoc}

regrouped : (old a b c d e f g : List ℕ) → old ++ a ++ b ++ c ++ d ++ e ++ f ++ g ≡ old ++ (a ++ b ++ c ++ d ++ e ++ f ++ g)
regrouped old a b c d e f g =
    ap (λ (x : List ℕ). x ++ c ++ d ++ e ++ f ++ g) (append_assoc old a b)
    ∙ ap (λ (x : List ℕ). x ++ d ++ e ++ f ++ g) (append_assoc old (a ++ b) c)
    ∙ ap (λ (x : List ℕ). x ++ e ++ f ++ g) (append_assoc old (a ++ b ++ c) d)
    ∙ ap (λ (x : List ℕ). x ++ f ++ g) (append_assoc old (a ++ b ++ c ++ d) e)
    ∙ ap (λ (x : List ℕ). x ++ g) (append_assoc old (a ++ b ++ c ++ d ++ e) f)
    ∙ append_assoc old (a ++ b ++ c ++ d ++ e ++ f) g

-- three calls that append are one
pub joined : (first second last old a b c d e f g : List ℕ) → first ≡ old ++ a ++ b → second ≡ first ++ c → last ≡ second ++ d ++ e ++ f ++ g → last ≡ old ++ (a ++ b ++ c ++ d ++ e ++ f ++ g)
joined first second last old a b c d e f g one two three =
    three
    ∙ ap (λ (x : List ℕ). x ++ d ++ e ++ f ++ g) (two ∙ ap (λ (x : List ℕ). x ++ c) one)
    ∙ regrouped old a b c d e f g

abbrev named : Bool → Bool → SignedBy
named first either = if first then by.First else (if either then by.Second else by.Neither)

abbrev number_if : Bool → ℕ
number_if first = if first then 1 else 2

first_named : (first either : Bool) → named first either ≡ by.First → ◌≡◌ {A = ℕ} 1 (number_if first)
first_named true either is = refl
first_named false true is = cc
first_named false false is = cc

other_named : (first either : Bool) → is_by_first (named first either) ≡ false → ◌≡◌ {A = ℕ} 2 (number_if first)
other_named true either is = cc
other_named false either is = refl

-- the number of the first key, if the first key gives the signature
pub first_number : (keys : Option Keys) (pair : Keys) (q : Ask) (b : SignedBy) → Some pair ≡ keys → b ≡ signed_by keys q → b ≡ by.First → 1 ≡ key_number keys q
first_number None pair q b some is first = cc
first_number (Some own) pair q b some is first = first_named (has_true_signature (Some (first_alone own)) q) (has_true_signature (Some own) q) (sym is ∙ first)

-- the number of the second key, if the first key does not give the signature
pub other_number : (keys : Option Keys) (pair : Keys) (q : Ask) (b : SignedBy) → Some pair ≡ keys → b ≡ signed_by keys q → is_by_first b ≡ false → 2 ≡ key_number keys q
other_number None pair q b some is other = cc
other_number (Some own) pair q b some is other =
    other_named (has_true_signature (Some (first_alone own)) q) (has_true_signature (Some own) q) (ap is_by_first (sym is) ∙ other)
