-- One string to sign has one meaning.
use Rattle.std.proofs.Common.{◌≡◌, ℕ, Bool, true, false, cond, IsTrue, List, [], ◌∷◌, ◌++◌, drop, Option, Some, None, IsSomeAnd, refl, sym, ap, ◌∙◌, subst, append_assoc}
use Rattle.std.proofs.lemmas.List.{append-nil, append_cancel_right}
use Rattle.stamp_values.specs.Names.{is_blob}
use Rattle.stamp_values.specs.declared.key.Key.{Key}
use Rattle.stamp_values.specs.declared.signing.Field.{Field}
use Rattle.sas_token.specs.declared.token.Resource.{Resource}
use Rattle.sas_token.specs.declared.token.Resource.TheVariants.{Container, Blob}
use Rattle.sas_token.specs.Tokens.{Sent, IsToken, Overridden, are_visible, blob_text, front_string, has_overrides, newer_version, no_overrides, overrides_in, overrides_text, resource_text, served_version, token_string, HasGoodNames, MeanTheSame}
use Rattle.sas_token.proofs.StringLemmas.{are_visible-each, cut_back, Lacks, Lacks-nil, Lacks-cons, Lacks-append, cut, never, time_lacks, permissions_lack, account_lacks, container_lacks, blob_lacks}
use Rattle.sas_token.proofs.TokenLemmas.{same_letters, same_time}

-- a blob is named if the token is for a blob
abbrev IsNamed : Resource → Option (List ℕ) → Type 0
IsNamed r name = r ≡ Blob → IsSomeAnd name (λ n. IsTrue (is_blob n))

blob_text_lacks : (r : Resource) (name : Option (List ℕ)) → IsNamed r name → Lacks 10 (blob_text r name)
blob_text_lacks Container name h = Lacks-nil 10
blob_text_lacks Blob None h = Lacks-nil 10
blob_text_lacks Blob (Some n) h = Lacks-cons 10 47 n refl (blob_lacks n (h refl))

-- the line of the resource has no line feed
resource_lacks : (t : Sent) (k : Key) (name : Option (List ℕ)) → HasGoodNames t k name → Lacks 10 (resource_text t.resource k name)
resource_lacks t k name h =
    Lacks-append 10 (47 ∷ k.account ++ 47 ∷ k.container) (blob_text t.resource name)
    (Lacks-append 10 (47 ∷ k.account) (47 ∷ k.container)
    (Lacks-cons 10 47 k.account refl (account_lacks 10 k.account refl h.account))
    (Lacks-cons 10 47 k.container refl (container_lacks 10 k.container refl h.container)))
    (blob_text_lacks t.resource name h.blob)

resource_grouped : (r : Resource) (k : Key) (name : Option (List ℕ)) → resource_text r k name ≡ 47 ∷ (k.account ++ 47 ∷ (k.container ++ blob_text r name))
resource_grouped r k name = append_assoc (47 ∷ k.account) (47 ∷ k.container) (blob_text r name)

-- the container, the kind, and the blob are the same
record SamePlace (c d : List ℕ) (r s : Resource) (a b : Option (List ℕ)) : Type 0 where
  container : c ≡ d
  kind : r ≡ s
  blob : r ≡ Blob → a ≡ b

same_place : (c d : List ℕ) (r s : Resource) (a b : Option (List ℕ)) → Lacks 47 c → Lacks 47 d → IsNamed r a → IsNamed s b → c ++ blob_text r a ≡ d ++ blob_text s b → SamePlace c d r s a b
same_place c d Container Container a b h k g o e = record { container = sym (append-nil c) ∙ e ∙ append-nil d; kind = refl; blob = λ blob. absurd (cc) }
same_place c d Container Blob a None h k g o e = absurd (o refl)
same_place c d Container Blob a (Some m) h k g o e = absurd (never 47 c d m h (sym (append-nil c) ∙ e))
same_place c d Blob Container None b h k g o e = absurd (g refl)
same_place c d Blob Container (Some n) b h k g o e = absurd (never 47 d c n k (sym (append-nil d) ∙ sym e))
same_place c d Blob Blob None b h k g o e = absurd (g refl)
same_place c d Blob Blob (Some n) None h k g o e = absurd (o refl)
same_place c d Blob Blob (Some n) (Some m) h k g o e =
    let (front, rest) = cut 47 c d n m h k e in
    record { container = front; kind = refl; blob = λ blob. ap Some rest }

-- what the line of the resource says
record SameResource (t u : Sent) (k l : Key) (a b : Option (List ℕ)) : Type 0 where
  account : k.account ≡ l.account
  place : SamePlace k.container l.container t.resource u.resource a b

same_resources : (t u : Sent) (k l : Key) (a b : Option (List ℕ)) → HasGoodNames t k a → HasGoodNames u l b → resource_text t.resource k a ≡ resource_text u.resource l b → SameResource t u k l a b
same_resources t u k l a b g o e =
    let grouped = sym (resource_grouped t.resource k a) ∙ e ∙ resource_grouped u.resource l b in
    let (account, rest) = cut 47 k.account l.account (k.container ++ blob_text t.resource a) (l.container ++ blob_text u.resource b) (account_lacks 47 k.account refl g.account) (account_lacks 47 l.account refl o.account) (ap (drop 1) grouped) in
    record { account = account; place = same_place k.container l.container t.resource u.resource a b (container_lacks 47 k.container refl g.container) (container_lacks 47 l.container refl o.container) g.blob o.blob rest }

-- what comes before the texts that replace headers, and these texts
record SameEnds (a b : List ℕ) (o p : Overridden) : Type 0 where
  front : a ≡ b
  these : o ≡ p

same_ends : (a b : List ℕ) (o p : Overridden) → are_visible o ≡ true → are_visible p ≡ true → a ++ overrides_text o ≡ b ++ overrides_text p → SameEnds a b o p
unfolding overrides_text
same_ends a b o p h k e =
    let x = are_visible-each o h in
    let y = are_visible-each p k in
    let o₁ = 10 ∷ o.cache_control in
    let p₁ = 10 ∷ p.cache_control in
    let o₂ = o₁ ++ 10 ∷ o.disposition in
    let p₂ = p₁ ++ 10 ∷ p.disposition in
    let o₃ = o₂ ++ 10 ∷ o.encoding in
    let p₃ = p₂ ++ 10 ∷ p.encoding in
    let o₄ = o₃ ++ 10 ∷ o.language in
    let p₄ = p₃ ++ 10 ∷ p.language in
    let (e₁, content_type) = cut_back 10 (a ++ o₄) (b ++ p₄) o.content_type p.content_type x.content_type y.content_type (append_assoc a o₄ (10 ∷ o.content_type) ∙ e ∙ sym (append_assoc b p₄ (10 ∷ p.content_type))) in
    let (e₂, language) = cut_back 10 (a ++ o₃) (b ++ p₃) o.language p.language x.language y.language (append_assoc a o₃ (10 ∷ o.language) ∙ e₁ ∙ sym (append_assoc b p₃ (10 ∷ p.language))) in
    let (e₃, encoding) = cut_back 10 (a ++ o₂) (b ++ p₂) o.encoding p.encoding x.encoding y.encoding (append_assoc a o₂ (10 ∷ o.encoding) ∙ e₂ ∙ sym (append_assoc b p₂ (10 ∷ p.encoding))) in
    let (e₄, disposition) = cut_back 10 (a ++ o₁) (b ++ p₁) o.disposition p.disposition x.disposition y.disposition (append_assoc a o₁ (10 ∷ o.disposition) ∙ e₃ ∙ sym (append_assoc b p₁ (10 ∷ p.disposition))) in
    let (front, cache_control) = cut_back 10 a b o.cache_control p.cache_control x.cache_control y.cache_control e₄ in
    record {
      front = front;
      these = λ i. record { cache_control = cache_control i; disposition = disposition i; encoding = encoding i; language = language i; content_type = content_type i };
    }

-- the same, by a version: in the first version nothing is replaced, and nothing follows
same_ends_by : (newer : Bool) (a b : List ℕ) (o p : Overridden) → are_visible o ≡ true → are_visible p ≡ true → (newer ≡ false → o ≡ p)
    → a ++ cond newer (overrides_text o) [] ≡ b ++ cond newer (overrides_text p) [] → SameEnds a b o p
same_ends_by true a b o p h k none e = same_ends a b o p h k e
same_ends_by false a b o p h k none e = record { front = sym (append-nil a) ∙ e ∙ append-nil b; these = none refl }

nothing_for : (q : List Field) (t : Sent) → IsToken q t → has_overrides t.version ≡ false → t.overrides ≡ no_overrides
nothing_for q t h off = h.overrides ∙ ap (λ b. cond b (overrides_in q) no_overrides) off

pub one_meaning : (q r : List Field) (t u : Sent) (k l : Key) (a b : Option (List ℕ)) → IsToken q t → IsToken r u → t.version ≡ u.version → HasGoodNames t k a → HasGoodNames u l b → token_string t k a ≡ token_string u l b → MeanTheSame t u k l a b
unfolding token_string front_string
one_meaning q r t u k l a b h j version g o e =
    let newer : has_overrides u.version ≡ has_overrides t.version = ap has_overrides (sym version) in
    let ends = same_ends_by (has_overrides t.version)
    (t.permissions ++ 10 ∷ (t.start_text ++ 10 ∷ (t.expiry_text ++ 10 ∷ (resource_text t.resource k a ++ 10 ∷ (t.id ++ 10 ∷ t.version)))))
    (u.permissions ++ 10 ∷ (u.start_text ++ 10 ∷ (u.expiry_text ++ 10 ∷ (resource_text u.resource l b ++ 10 ∷ (u.id ++ 10 ∷ u.version)))))
    t.overrides u.overrides h.visible j.visible (λ off. nothing_for q t h off ∙ sym (nothing_for r u j (newer ∙ off)))
    (e ∙ ap (λ n. (u.permissions ++ 10 ∷ (u.start_text ++ 10 ∷ (u.expiry_text ++ 10 ∷ (resource_text u.resource l b ++ 10 ∷ (u.id ++ 10 ∷ u.version))))) ++ cond n (overrides_text u.overrides) []) newer) in
    let (permissions, e₁) = cut 10 t.permissions u.permissions _ _ (permissions_lack t.permissions t.letters h.letters) (permissions_lack u.permissions u.letters j.letters) ends.front in
    let (start, e₂) = cut 10 t.start_text u.start_text _ _ (time_lacks t.start_text t.start h.start) (time_lacks u.start_text u.start j.start) e₁ in
    let (expiry, e₃) = cut 10 t.expiry_text u.expiry_text _ _ (time_lacks t.expiry_text t.expiry h.expiry) (time_lacks u.expiry_text u.expiry j.expiry) e₂ in
    let (resource, e₄) = cut 10 (resource_text t.resource k a) (resource_text u.resource l b) _ _ (resource_lacks t k a g) (resource_lacks u l b o) e₃ in
    let id = append_cancel_right t.id u.id (10 ∷ u.version) (rw version at e₄) in
    let same = same_resources t u k l a b g o resource in
    record {
      permissions = permissions;
      letters = same_letters u.permissions t.letters u.letters (rw permissions at h.letters) j.letters;
      start_text = start;
      start = same_time u.start_text t.start u.start (rw start at h.start) j.start;
      expiry_text = expiry;
      expiry = same_time u.expiry_text t.expiry u.expiry (rw expiry at h.expiry) j.expiry;
      id = id;
      resource = same.place.kind;
      account = same.account;
      container = same.place.container;
      blob = same.place.blob;
      overrides = ends.these;
    }

-- ---- two versions

-- what comes after four lines and their line feeds
after_four : (p s e r x y : List ℕ) → (p ++ 10 ∷ (s ++ 10 ∷ (e ++ 10 ∷ (r ++ 10 ∷ x)))) ++ y ≡ p ++ 10 ∷ (s ++ 10 ∷ (e ++ 10 ∷ (r ++ 10 ∷ (x ++ y))))
after_four p s e r x y =
    append_assoc p (10 ∷ (s ++ 10 ∷ (e ++ 10 ∷ (r ++ 10 ∷ x)))) y
    ∙ ap (λ (z : List ℕ). p ++ 10 ∷ z) (append_assoc s (10 ∷ (e ++ 10 ∷ (r ++ 10 ∷ x))) y
    ∙ ap (λ (z : List ℕ). s ++ 10 ∷ z) (append_assoc e (10 ∷ (r ++ 10 ∷ x)) y
    ∙ ap (λ (z : List ℕ). e ++ 10 ∷ z) (append_assoc r (10 ∷ x) y)))

-- the first version has no line feed
first_lacks : (version : List ℕ) → version ≡ served_version → Lacks 10 version
first_lacks version is = subst (Lacks 10) (sym is) (record { none = refl })

-- what follows the line of the resource, in the first version and in the newer one
longer_id : (i j v w : List ℕ) (o : Overridden) → v ≡ served_version → are_visible o ≡ true → (i ++ 10 ∷ v) ++ [] ≡ (j ++ 10 ∷ w) ++ overrides_text o → (rest : List ℕ) × (i ≡ j ++ 10 ∷ rest)
unfolding overrides_text
longer_id i j v w o first h e =
    let four = 10 ∷ o.cache_control ++ 10 ∷ o.disposition ++ 10 ∷ o.encoding ++ 10 ∷ o.language in
    let ends = cut_back 10 i ((j ++ 10 ∷ w) ++ four) v o.content_type (first_lacks v first) (are_visible-each o h).content_type
    (sym (append-nil (i ++ 10 ∷ v)) ∙ e ∙ sym (append_assoc (j ++ 10 ∷ w) four (10 ∷ o.content_type))) in
    (w ++ four, ends.0 ∙ append_assoc j (10 ∷ w) four)

-- if a token of the first version has the string of a token of the newer version, its id goes on with a line feed after the other id
pub two_versions : (q r : List Field) (t u : Sent) (k l : Key) (a b : Option (List ℕ)) → IsToken q t → IsToken r u → t.version ≡ served_version → u.version ≡ newer_version → HasGoodNames t k a → HasGoodNames u l b
    → token_string t k a ≡ token_string u l b → (rest : List ℕ) × (t.id ≡ u.id ++ 10 ∷ rest)
unfolding token_string front_string
two_versions q r t u k l a b h j first newer g o e =
    let without : (xs : List ℕ) → xs ++ cond (has_overrides t.version) (overrides_text t.overrides) [] ≡ xs ++ [] = λ xs. ap (λ (v : List ℕ). xs ++ cond (has_overrides v) (overrides_text t.overrides) []) first in
    let with : (xs : List ℕ) → xs ++ cond (has_overrides u.version) (overrides_text u.overrides) [] ≡ xs ++ overrides_text u.overrides = λ xs. ap (λ (v : List ℕ). xs ++ cond (has_overrides v) (overrides_text u.overrides) []) newer in
    let lines =
    sym (after_four t.permissions t.start_text t.expiry_text (resource_text t.resource k a) (t.id ++ 10 ∷ t.version) []) ∙ sym (without _) ∙ e ∙ with _
    ∙ after_four u.permissions u.start_text u.expiry_text (resource_text u.resource l b) (u.id ++ 10 ∷ u.version) (overrides_text u.overrides) in
    let (permissions, e₁) = cut 10 t.permissions u.permissions _ _ (permissions_lack t.permissions t.letters h.letters) (permissions_lack u.permissions u.letters j.letters) lines in
    let (start, e₂) = cut 10 t.start_text u.start_text _ _ (time_lacks t.start_text t.start h.start) (time_lacks u.start_text u.start j.start) e₁ in
    let (expiry, e₃) = cut 10 t.expiry_text u.expiry_text _ _ (time_lacks t.expiry_text t.expiry h.expiry) (time_lacks u.expiry_text u.expiry j.expiry) e₂ in
    let (resource, e₄) = cut 10 (resource_text t.resource k a) (resource_text u.resource l b) _ _ (resource_lacks t k a g) (resource_lacks u l b o) e₃ in
    longer_id t.id u.id t.version u.version u.overrides first j.visible e₄
