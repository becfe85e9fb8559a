-- Signatures that were judged before a lock is taken, and snapshots of what judges a request (Blob service REST reference,
-- 2012-02-12, Authentication for the Azure Storage Services; Delegating Access with a Shared Access Signature).
use Rattle.std.specs.Prelude.{◌≡◌, if◌then◌else◌, Option, Some, IfSome, IsSomeAnd}
use Rattle.stamp_values.specs.declared.acl.Acl.{Acl}
use Rattle.stamp_types.specs.declared.ask.Ask.{Ask}
use Rattle.access_rules.specs.declared.keys.Keys.{Keys}
use Rattle.access_rules.specs.Rules.{has_false_signature}
use Rattle.access_rules.specs.Signatures.{has_true_signature}
use Rattle.policy_book.specs.declared.judged.Signature.{Signature}
use Rattle.policy_book.specs.declared.judged.Signature.TheVariants as signature

-- how the signature that a request brings is judged under a pair of keys
abbrev pub signature_under : Keys → Ask → Signature
signature_under pair q =
    if has_true_signature (Some pair) q then signature.True
    else (if has_false_signature (Some pair) q then signature.False else signature.Unjudged)

-- what a request asks, a pair of keys, and how the signature of the request is judged under this pair
pub record Judgement : Type 0 where
  pub ask : Ask
  pub keys : Keys
  pub signature : Signature

-- what a request asks, and the pair of keys under which its signature is true
pub record Vouched : Type 0 where
  pub ask : Ask
  pub keys : Keys

-- who may read a container, and the keys of its account, as they were at one moment
pub record Revised : Type 0 where
  pub acl : Option Acl
  pub keys : Option Keys

-- there is no judgement, or it is of what is asked
abbrev pub IsOfAsk : Option Judgement → Ask → Type 0
IsOfAsk judged q = IfSome judged (λ j. j.ask ≡ q)

-- there is a judgement, and its pair of keys, with its epoch, is the pair in force
abbrev pub IsInForce : Option Judgement → Option Keys → Type 0
IsInForce judged keys = IsSomeAnd judged (λ j. keys ≡ Some j.keys)
