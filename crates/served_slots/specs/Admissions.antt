-- Requests whose body may have more room than others (Blob service REST reference, 2012-02-12, Authentication for the Azure Storage
-- Services; Delegating Access with a Shared Access Signature).
use Rattle.std.specs.Prelude.{◌≡◌, Option, true}
use Rattle.stamp_types.specs.declared.ask.Ask.{Ask}
use Rattle.access_rules.specs.declared.keys.Keys.{Keys}
use Rattle.access_rules.specs.Signatures.{has_true_signature}

-- a pair of keys gives the signature that the request brings, by the key of an account or by a token
abbrev pub IsAdmissible : Ask → Type 0
IsAdmissible ask = (keys : Option Keys) × (has_true_signature keys ask ≡ true)
