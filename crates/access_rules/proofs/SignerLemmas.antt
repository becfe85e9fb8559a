-- Which key gives a signature.
use Rattle.std.proofs.Common.{◌≡◌, Bool, true, false, cond, if◌then◌else◌, List, ℕ, Option, Some, None, refl, bytes_eq}
use Rattle.std.specs.Prelude.{option_map, unwrap_or}
use Rattle.access_rules.specs.declared.judgement.SignedBy.{SignedBy}
use Rattle.access_rules.specs.declared.judgement.SignedBy.TheVariants as by
use Rattle.access_rules.specs.declared.keys.Keys.{Keys}
use Rattle.access_rules.specs.Parts.{first_alone, is_by_either, is_by_first, keys_for}
use Rattle.access_rules.specs.Rules.{some_passes}

own_first : (pair : Keys) (own : Bool) → cond own (Some (first_alone pair)) None ≡ option_map first_alone (cond own (Some pair) None)
own_first pair true = refl
own_first pair false = refl

-- the keys of an account, with the first key in both places, are the keys with the first key in both places, if they are of the account
pub first_for : (keys : Option Keys) (account : List ℕ) → keys_for (option_map first_alone keys) account ≡ option_map first_alone (keys_for keys account)
first_for None account = refl
first_for (Some pair) account = own_first pair (bytes_eq pair.account account)

-- the key that is named is the first key if it gives the signature, and else the key that gives it
pub named_signer : (it : Option SignedBy) (first either : Bool) → some_passes is_by_first it ≡ first → some_passes is_by_either it ≡ either
    → unwrap_or it by.Neither ≡ (if first then by.First else (if either then by.Second else by.Neither))
named_signer None first either is_first is_either = cc
named_signer (Some by.First) first either is_first is_either = cc
named_signer (Some by.Second) first either is_first is_either = cc
named_signer (Some by.Neither) first either is_first is_either = cc
