-- The audit book: which requests were allowed, and by what (Blob service REST reference, 2012-02-12, Authentication for the Azure
-- Storage Services; Delegating Access with a Shared Access Signature; Set Container ACL). That there is a book is the stamp's own.
use Rattle.std.specs.Prelude.{◌≡◌, ℕ, List, [], ◌∷◌}
use Rattle.boxcar.specs.Table.{Shelves, Where, Shows}
use Rattle.stamp_types.specs.Requests.{Asked}
use Rattle.access_rules.specs.declared.judgement.Way.{Way}
use Rattle.access_rules.specs.declared.judgement.Verdict.TheVariants.{Allow}
use Rattle.access_rules.specs.Rules.{verdict_of}
use Rattle.policy_book.specs.Judgements.{Revised}

-- a request at a moment, how many changes its container had taken before, the route by which it was allowed, and the access and the
-- keys that allowed it
pub record AuditEntry : Type 0 where
  pub request : Asked
  pub place : ℕ
  pub way : Way
  pub moment : ℕ
  pub revision : Revised

-- the entry of a request, without the body of the request
abbrev pub audit_entry_of : Asked → ℕ → Way → ℕ → Revised → AuditEntry
audit_entry_of q place way t r = record { request = record q { body = [] }; place = place; way = way; moment = t; revision = r }

-- the entry is true: the verdict on its request at its moment, under the access and the keys of its revision, is that its route allows
-- the request; and it keeps no body
pub record IsTrueEntry (e : AuditEntry) : Type 0 where
  pub allowed : verdict_of e.revision.keys e.revision.acl e.request.ask e.moment ≡ Allow e.way
  pub no_body : e.request.body ≡ []

-- a book: how many entries it may have, and where they are
pub record Shelved : Type 0 where
  pub limit : ℕ
  pub shelves : Shelves

-- the limit that a table of entries is tagged with
abbrev pub limit_in : List ℕ → ℕ
limit_in [] = 0
limit_in (limit ∷ others) = limit

-- the receipt is of this book, so the book has the entry of the receipt at the index of the receipt
abbrev pub IsReceiptOf : Shelved → Where AuditEntry → Type 0
IsReceiptOf book receipt = Shows book.shelves receipt
