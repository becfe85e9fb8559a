-- What tokens open, and when.
use Rattle.std.proofs.Common.{◌≡◌, ◌≢◌, ℕ, ◌≤◌, ◌<◌, arith, Bool, true, false, ◌&&◌, ◌||◌, List, Option, Some, None, Ok, refl, sym, ap, ◌∙◌, subst, is_some}
use Rattle.std.specs.Prelude.{IfSome, IsSome}
use Rattle.stamp_values.specs.Letters.{Permissions}
use Rattle.stamp_values.specs.Operations.{names_blob}
use Rattle.stamp_values.specs.declared.acl.Acl.{Acl}
use Rattle.stamp_values.specs.declared.block.BlockKinds.{BlockKinds}
use Rattle.stamp_values.specs.declared.block.BlockKinds.TheVariants as kinds
use Rattle.stamp_values.specs.declared.op.Op.{Op}
use Rattle.stamp_values.specs.declared.op.Op.TheVariants as op
use Rattle.stamp_values.specs.declared.signing.Credential.TheVariants.{Token}
use Rattle.stamp_types.specs.Requests.{IsAsk}
use Rattle.stamp_types.specs.declared.ask.Ask.{Ask}
use Rattle.sas_token.specs.Tokens.{Sent}
use Rattle.sas_token.specs.declared.token.Resource.{Resource}
use Rattle.sas_token.specs.declared.token.Resource.TheVariants.{Container, Blob}
use Rattle.sas_token.proofs.TokenLemmas.{one_token}
use Rattle.container_acl.specs.JoinedFields.{acl_or_closed, fields_with}
use Rattle.container_acl.specs.declared.fields.Fields.{Fields}
use Rattle.access_rules.specs.declared.keys.Keys.{Keys}
use Rattle.access_rules.specs.declared.needs.Letter.{Letter}
use Rattle.access_rules.specs.declared.needs.Letter.TheVariants as letter
use Rattle.access_rules.specs.Needs.{need_of}
use Rattle.access_rules.specs.Openings.{is_about_containers, lists_blobs, names_operation, reads_blob, writes_blob, deletes_blob}
use Rattle.access_rules.specs.Routes.{ByToken}
use Rattle.access_rules.specs.Rules.{first_rule}
use Rattle.access_rules.specs.TokenParts.{allows}
use Rattle.access_rules.proofs.TokenRouteLaw.{by_token, given_by}

-- ---- letters

-- this letter is the needed one, and is allowed
as_needed : (needed l : Letter) (p : Permissions) → Some needed ≡ Some l → allows l p ≡ true → allows needed p ≡ true
as_needed needed l p e allowed = let same : needed ≡ l = cc in ap (λ x. allows x p) same ∙ allowed

or_true : (b : Bool) → (b || true) ≡ true
or_true true = refl
or_true false = refl

read_named : (p : Permissions) (r : Resource) (o : Op) → p.read ≡ true → reads_blob o ≡ true → names_operation p r o ≡ true
read_named p r o given reads = (λ i. (given i && reads i) || (p.write && writes_blob o) || (p.delete && deletes_blob o) || (p.list && lists_blobs r o))

write_named : (p : Permissions) (r : Resource) (o : Op) → p.write ≡ true → writes_blob o ≡ true → names_operation p r o ≡ true
write_named p r o given writes =
    (λ i. (p.read && reads_blob o) || (given i && writes i) || (p.delete && deletes_blob o) || (p.list && lists_blobs r o))
    ∙ ap (λ b. b || (p.delete && deletes_blob o) || (p.list && lists_blobs r o)) (or_true (p.read && reads_blob o))

delete_named : (p : Permissions) (r : Resource) (o : Op) → p.delete ≡ true → deletes_blob o ≡ true → names_operation p r o ≡ true
delete_named p r o given deletes =
    (λ i. (p.read && reads_blob o) || (p.write && writes_blob o) || (given i && deletes i) || (p.list && lists_blobs r o))
    ∙ ap (λ b. b || (p.list && lists_blobs r o)) (or_true ((p.read && reads_blob o) || (p.write && writes_blob o)))

list_named : (p : Permissions) (r : Resource) (o : Op) → p.list ≡ true → lists_blobs r o ≡ true → names_operation p r o ≡ true
list_named p r o given lists =
    (λ i. (p.read && reads_blob o) || (p.write && writes_blob o) || (p.delete && deletes_blob o) || (given i && lists i))
    ∙ or_true ((p.read && reads_blob o) || (p.write && writes_blob o) || (p.delete && deletes_blob o))

named_by : (o : Op) (k : Option BlockKinds) (r : Resource) (p : Permissions) (l : Letter) → (need_of o k).letter ≡ Some l → allows l p ≡ true → (o ≡ op.ListBlobs → r ≡ Container)
    → names_operation p r o ≡ true
named_by op.ListContainers k r p l e allowed list = cc
named_by op.CreateContainer k r p l e allowed list = cc
named_by op.ContainerProperties k r p l e allowed list = cc
named_by op.SetContainerMetadata k r p l e allowed list = cc
named_by op.GetAcl k r p l e allowed list = cc
named_by op.SetAcl k r p l e allowed list = cc
named_by op.DeleteContainer k r p l e allowed list = cc
named_by op.ListBlobs k r p l e allowed list = list_named p r op.ListBlobs (as_needed letter.List l p e allowed) (ap (λ r. lists_blobs r op.ListBlobs) (list refl))
named_by op.PutBlob k r p l e allowed list = write_named p r op.PutBlob (as_needed letter.Write l p e allowed) refl
named_by op.GetBlob k r p l e allowed list = read_named p r op.GetBlob (as_needed letter.Read l p e allowed) refl
named_by op.BlobProperties k r p l e allowed list = read_named p r op.BlobProperties (as_needed letter.Read l p e allowed) refl
named_by op.GetMetadata k r p l e allowed list = read_named p r op.GetMetadata (as_needed letter.Read l p e allowed) refl
named_by op.SetMetadata k r p l e allowed list = write_named p r op.SetMetadata (as_needed letter.Write l p e allowed) refl
named_by op.DeleteBlob k r p l e allowed list = delete_named p r op.DeleteBlob (as_needed letter.Delete l p e allowed) refl
named_by op.PutBlock k r p l e allowed list = write_named p r op.PutBlock (as_needed letter.Write l p e allowed) refl
named_by op.PutBlockList k r p l e allowed list = write_named p r op.PutBlockList (as_needed letter.Write l p e allowed) refl
named_by op.GetBlockList None r p l e allowed list = read_named p r op.GetBlockList (as_needed letter.Read l p e allowed) refl
named_by op.GetBlockList (Some kinds.Committed) r p l e allowed list = read_named p r op.GetBlockList (as_needed letter.Read l p e allowed) refl
named_by op.GetBlockList (Some kinds.Uncommitted) r p l e allowed list = read_named p r op.GetBlockList (as_needed letter.Read l p e allowed) refl
named_by op.GetBlockList (Some kinds.All) r p l e allowed list = read_named p r op.GetBlockList (as_needed letter.Read l p e allowed) refl

-- a token for a blob needs a blob
for_container : (r : Resource) (blob : Option (List ℕ)) → (r ≡ Blob → IsSome blob) → is_some blob ≡ false → r ≡ Container
for_container Container blob needs none = refl
for_container Blob None needs none = let there = needs refl in cc
for_container Blob (Some name) needs none = cc

-- a permission names the operation of a request that a token admits
pub operation_named : (keys : Option Keys) (acl : Option Acl) (q : Ask) (t : ℕ) → IsAsk q → (by : ByToken keys acl q t) → names_operation by.fields.letters by.token.resource q.op ≡ true
operation_named keys acl q t fits by =
    named_by q.op q.args.kinds by.token.resource by.fields.letters by.letter by.needed by.allowed
    (λ lists. for_container by.token.resource q.blob by.blob (fits.names.blob ∙ ap names_blob lists))

-- ---- containers

no_letter : (o : Op) (k : Option BlockKinds) (l : Letter) → is_about_containers o ≡ true → (need_of o k).letter ≡ Some l → ⊥
no_letter op.ListContainers k l about e = cc
no_letter op.CreateContainer k l about e = cc
no_letter op.ContainerProperties k l about e = cc
no_letter op.SetContainerMetadata k l about e = cc
no_letter op.GetAcl k l about e = cc
no_letter op.SetAcl k l about e = cc
no_letter op.DeleteContainer k l about e = cc
no_letter other k l about e = cc

-- a rule refuses each request about containers that asks by a token
pub container_refused : (keys : Option Keys) (acl : Option Acl) (q : Ask) (t : ℕ) → q.credential ≡ Token → is_about_containers q.op ≡ true → first_rule keys acl q t ≢ None
container_refused keys acl q t asks about free =
    let by = (by_token keys acl q t asks).0 free in no_letter q.op q.args.kinds by.letter about by.needed

-- ---- moments

later_start : (start : Option ℕ) (t u : ℕ) → t ≤ u → IfSome start (λ s. s ≤ t) → IfSome start (λ s. s ≤ u)
later_start None t u later h = tt
later_start (Some s) t u later h = omega (arith, later, h)

same_fields : (acl : Acl) (token other : Sent) (f g : Fields) → token ≡ other → fields_with acl token ≡ Ok f → fields_with acl other ≡ Ok g → g.expiry ≡ f.expiry
same_fields acl token other f g same a b = let e : ◌≡◌ {A = _} (Ok f) (Ok g) = sym a ∙ ap (fields_with acl) same ∙ b in let is : f ≡ g = cc in ap (λ (x : Fields). x.expiry) (sym is)

-- a token that admits a request at two moments admits it between them
pub between_admitted : (keys : Option Keys) (acl : Option Acl) (q : Ask) (t u v : ℕ) → q.credential ≡ Token → t ≤ u → u ≤ v → first_rule keys acl q t ≡ None → first_rule keys acl q v ≡ None
    → first_rule keys acl q u ≡ None
between_admitted keys acl q t u v asks later earlier first last =
    let a = (by_token keys acl q t asks).0 first in
    let b = (by_token keys acl q v asks).0 last in
    let token = one_token q.signing.query a.token b.token a.reads b.reads in
    let expiry : b.fields.expiry ≡ a.fields.expiry =
    same_fields (acl_or_closed acl) a.token b.token a.fields b.fields token (given_by acl a.token a.policy a.fields a.named a.once) (given_by acl b.token b.policy b.fields b.named b.once) in
    let before : u < a.fields.expiry = subst (λ n. u < n) expiry (let over = b.not_over in omega (arith, earlier, over)) in
    (by_token keys acl q u asks).1 (record {
      token = a.token;
      reads = a.reads;
      pair = a.pair;
      given = a.given;
      known = a.known;
      container = a.container;
      blob = a.blob;
      signed = a.signed;
      policy = a.policy;
      named = a.named;
      fields = a.fields;
      once = a.once;
      started = later_start a.fields.start t u later a.started;
      not_over = before;
      letter = a.letter;
      needed = a.needed;
      allowed = a.allowed;
    })
