-- What the verdict of an entry says.
use Rattle.std.proofs.Common.{◌≡◌, ◌∙◌, ℕ, Bool, true, false, Option, Some, None, IsSome, refl, sym, ap}
use Rattle.stamp_values.specs.declared.acl.Acl.{Acl}
use Rattle.stamp_types.specs.declared.ask.Ask.{Ask}
use Rattle.stamp_types.specs.declared.rule.Rule.{Rule}
use Rattle.access_rules.specs.declared.judgement.Verdict.{Verdict}
use Rattle.access_rules.specs.declared.judgement.Verdict.TheVariants.{Allow, Deny}
use Rattle.access_rules.specs.declared.judgement.Way.{Way}
use Rattle.access_rules.specs.declared.keys.Keys.{Keys}
use Rattle.access_rules.specs.Rules.{first_rule, holds, verdict_by, verdict_of, way_of}
use Rattle.access_rules.proofs.OrderLemmas.{first_named}
use Rattle.policy_book.specs.Entries.{AuditEntry, IsTrueEntry}

allowed_by : (r : Option Rule) (own way : Way) → verdict_by r own ≡ Allow way → (r ≡ None) × (way ≡ own)
allowed_by None own way e = (refl, let f : Allow own ≡ Allow way = e in cc)
allowed_by (Some rule) own way e = let f : Deny rule ≡ Allow way = e in (cc, cc)

refused_by : (r : Option Rule) (own : Way) (rule : Rule) → verdict_by r own ≡ Deny rule → IsSome r
refused_by None own rule e = let f : Allow own ≡ Deny rule = e in cc
refused_by (Some first) own rule e = refl

not_some : (r : Option Rule) → r ≡ None → IsSome r → true ≡ false
not_some None e some = sym some
not_some (Some rule) e some = let f : Some rule ≡ None = e in cc

moved : (k k' : Option Keys) (a a' : Option Acl) (q : Ask) (t : ℕ) (v d : Verdict) → v ≡ verdict_of k a q t → k ≡ k' → a ≡ a' → v ≡ d → verdict_of k' a' q t ≡ d
moved k k' a a' q t v d is keys acl found =
    ap (λ (x : Option Keys). verdict_of x a' q t) (sym keys) ∙ (ap (λ (x : Option Acl). verdict_of k x q t) (sym acl) ∙ (sym is ∙ found))

-- if the verdict on a request refuses it, a rule refuses it
pub refused_under : (k k' : Option Keys) (a a' : Option Acl) (q : Ask) (t : ℕ) (v : Verdict) (rule : Rule) → v ≡ verdict_of k a q t → k ≡ k' → a ≡ a' → v ≡ Deny rule
    → IsSome (first_rule k' a' q t)
refused_under k k' a a' q t v rule is keys acl found = refused_by (first_rule k' a' q t) (way_of q.credential) rule (moved k k' a a' q t v (Deny rule) is keys acl found)

-- if the verdict on a request allows it, no rule refuses it, and the way is the route of the request
pub allowed_under : (k k' : Option Keys) (a a' : Option Acl) (q : Ask) (t : ℕ) (v : Verdict) (way : Way) → v ≡ verdict_of k a q t → k ≡ k' → a ≡ a' → v ≡ Allow way
    → (IsSome (first_rule k' a' q t) → true ≡ false) × (way ≡ way_of q.credential)
allowed_under k k' a a' q t v way is keys acl found =
    let by_none = allowed_by (first_rule k' a' q t) (way_of q.credential) way (moved k k' a a' q t v (Allow way) is keys acl found) in
    (λ some. not_some (first_rule k' a' q t) by_none.0 some, by_none.1)

-- no rule refuses the request of a true entry, and the way of the entry is the route of its request
pub is_allowed : (e : AuditEntry) → IsTrueEntry e → (first_rule e.revision.keys e.revision.acl e.request.ask e.moment ≡ None) × (e.way ≡ way_of e.request.ask.credential)
is_allowed e is = allowed_by (first_rule e.revision.keys e.revision.acl e.request.ask e.moment) (way_of e.request.ask.credential) e.way is.allowed

-- if the verdict on a request allows it, each rule by itself does not hold
pub no_rule_holds : (keys : Option Keys) (acl : Option Acl) (q : Ask) (t : ℕ) (way : Way) → verdict_of keys acl q t ≡ Allow way → (rule : Rule) → holds keys acl q t rule ≡ false
no_rule_holds keys acl q t way allowed rule = by (holds keys acl q t rule) refl
  where
    by : (b : Bool) → holds keys acl q t rule ≡ b → b ≡ false
    by false e = refl
    by true e =
        let named = first_named keys acl q t rule rule e e in
        let same : Deny named.0 ≡ Allow way = sym named.1 ∙ allowed in
        cc
