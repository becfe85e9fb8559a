-- The function that reads a query gives the token that the query is.
use Rattle.std.proofs.Common.{◌≡◌, ◌≢◌, ◌↔◌, ℕ, Bool, true, false, cond, List, [], ◌∷◌, Option, Some, None, Result, Ok, Err, MatchResult, codes, refl, sym, ap, ◌∙◌, subst, bytes_eq, unwrap_or}
use Rattle.std.proofs.lemmas.Slice.Eq.{bytes_eq-Decides}
use Rattle.std.specs.Prelude.{option_and_then, option_map}
use Rattle.std.specs.List.{list_any}
use Rattle.std.specs.Option.{option_map_or}
use Rattle.std.specs.Result.{result_ok}
use Rattle.stamp_values.specs.Fields.{is_sent_twice, first_value}
use Rattle.stamp_values.specs.Letters.{Permissions, letters_of}
use Rattle.stamp_values.proofs.LetterLemmas.{letters_of-letters_text, letters_taken, permission_there}
use Rattle.stamp_values.specs.declared.signing.Field.{Field}
use Rattle.moment_text.specs.IsoReader.{iso_moment}
use Rattle.moment_text.specs.declared.fault.TimeFault.{TimeFault}
use Rattle.sas_token.specs.declared.fault.TokenFault.{TokenFault}
use Rattle.sas_token.specs.declared.token.Resource.{Resource}
use Rattle.sas_token.specs.declared.token.Resource.TheVariants.{Container, Blob}
use Rattle.sas_token.specs.Tokens.{Sent, IsToken, IsFault, GivesLetters, GivesTime, Overridden, are_visible, has_overrides, is_served, no_overrides, overrides_for, overrides_in, overrides_twice, parameter_names, resource_letter, text_under}
use Rattle.sas_token.specs.TokenReading.{if_served, overrides_given, replaced_headers, resource_of, letters_given, time_given, token_by, token_of}
use Rattle.sas_token.proofs.TokenLemmas.{no_token}

-- ---- each part

served_sound : (o : Option (List ℕ)) (v : List ℕ) → option_and_then if_served o ≡ Some v → (o ≡ Some v) × (is_served v ≡ true)
served_sound None v e = cc
served_sound (Some w) v e =
    elim (is_served w) as (λ b. is_served w ≡ b → cond b (Some w) None ≡ Some v → (Some w ≡ Some v) × (is_served v ≡ true)) [
      | true ↦ λ is h. let same : w ≡ v = cc in (h, ap is_served (sym same) ∙ is)
      | false ↦ λ is h. cc
    ] refl e

served_complete : (o : Option (List ℕ)) (v : List ℕ) → o ≡ Some v → is_served v ≡ true → option_and_then if_served o ≡ Some v
served_complete o v sent served =
    ap (option_and_then if_served) sent ∙ ap (λ b. cond b (Some v) None) served

-- what is given by overrides
record AreGiven (query : List Field) (version : List ℕ) (o : Overridden) : Type 0 where
  once : overrides_twice query version ≡ false
  these : o ≡ overrides_for query version
  visible : are_visible o ≡ true

given_overrides : (query : List Field) (version : List ℕ) (o : Overridden) → overrides_given query version ≡ Some o → AreGiven query version o
given_overrides query version o e =
    by (overrides_twice query version) (are_visible (overrides_for query version)) refl refl e
  where
    by : (a b : Bool) → overrides_twice query version ≡ a → are_visible (overrides_for query version) ≡ b
        → cond a None (cond b (Some (overrides_for query version)) None) ≡ Some o → AreGiven query version o
    by true b twice seen h = cc
    by false false twice seen h = cc
    by false true twice seen h =
        let same : overrides_for query version ≡ o = cc in record { once = twice; these = sym same; visible = ap are_visible (sym same) ∙ seen }

overrides_again : (query : List Field) (version : List ℕ) (o : Overridden) → AreGiven query version o → overrides_given query version ≡ Some o
overrides_again query version o a =
    (λ i. cond (a.once i) None (cond (are_visible (sym a.these i)) (Some (sym a.these i)) None)) ∙ ap (λ b. cond b (Some o) None) a.visible

resource_sound : (o : Option (List ℕ)) (r : Resource) → option_and_then resource_of o ≡ Some r → o ≡ Some (resource_letter r)
resource_sound None r e = cc
resource_sound (Some l) r e =
    elim (bytes_eq l (codes "b")) as (λ b. bytes_eq l (codes "b") ≡ b → cond b (Some Blob) (cond (bytes_eq l (codes "c")) (Some Container) None) ≡ Some r → Some l ≡ Some (resource_letter r)) [
      | true ↦ λ is h. let same : Blob ≡ r = cc in ap Some ((bytes_eq-Decides l (codes "b")).0 is ∙ ap resource_letter same)
      | false ↦ λ is h.
          elim (bytes_eq l (codes "c")) as (λ b. bytes_eq l (codes "c") ≡ b → cond b (Some Container) None ≡ Some r → Some l ≡ Some (resource_letter r)) [
            | true ↦ λ is h. let same : Container ≡ r = cc in ap Some ((bytes_eq-Decides l (codes "c")).0 is ∙ ap resource_letter same)
            | false ↦ λ is h. cc
          ] refl h
    ] refl e

resource_again : (r : Resource) → resource_of (resource_letter r) ≡ Some r
resource_again Container = refl
resource_again Blob = refl

letters_sound : (text : List ℕ) (p : Option Permissions) → letters_given text ≡ Some p → GivesLetters text p
unfolding letters_given
letters_sound [] None e = refl
letters_sound [] (Some p) e = cc
letters_sound (b ∷ bs) p e = by (letters_of (b ∷ bs)) refl e
  where
    by : (o : Option Permissions) → letters_of (b ∷ bs) ≡ o → option_map (λ l. Some l) o ≡ Some p → GivesLetters (b ∷ bs) p
    by None is h = cc
    by (Some l) is h = let same : Some l ≡ p = cc in subst (GivesLetters (b ∷ bs)) same (λ none. cc, (letters_taken (b ∷ bs) l is).0)

letters_complete : (text : List ℕ) (p : Option Permissions) → GivesLetters text p → letters_given text ≡ Some p
unfolding letters_given
letters_complete text None empty = ap letters_given empty
letters_complete [] (Some p) given = absurd (given.0 refl)
letters_complete (b ∷ bs) (Some p) given =
    ap (option_map (λ l. Some l)) (ap letters_of given.1 ∙ letters_of-letters_text p (permission_there p (λ none. given.0 (given.1 ∙ none))))

time_by : (text : List ℕ) (r : Result ℕ TimeFault) (m : Option ℕ) → text ≢ [] → iso_moment text ≡ r → option_map (λ moment. Some moment) (result_ok r) ≡ Some m → GivesTime text m
time_by text (Ok t) None given is e = cc
time_by text (Ok t) (Some m) given is e = let same : t ≡ m = cc in (given, is ∙ ap Ok same)
time_by text (Err f) m given is e = cc

time_sound : (text : List ℕ) (m : Option ℕ) → time_given text ≡ Some m → GivesTime text m
unfolding time_given
time_sound [] None e = refl
time_sound [] (Some m) e = cc
time_sound (b ∷ bs) m e = time_by (b ∷ bs) (iso_moment (b ∷ bs)) m (λ none. cc) refl e

time_complete : (text : List ℕ) (m : Option ℕ) → GivesTime text m → time_given text ≡ Some m
unfolding time_given
time_complete text None empty = ap time_given empty
time_complete [] (Some m) given = absurd (given.0 refl)
time_complete (b ∷ bs) (Some m) given = ap (λ (r : Result ℕ TimeFault). option_map (λ moment. Some moment) (result_ok r)) given.1

-- ---- all parts

record AreParts (query : List Field) (version : Option (List ℕ)) (resource : Option Resource) (signature : Option (List ℕ)) (letters : Option (Option Permissions)) (start expiry : Option (Option ℕ)) (overrides : Option Overridden) (t : Sent) : Type 0 where
  version_read : version ≡ Some t.version
  resource_read : resource ≡ Some t.resource
  signature_read : signature ≡ Some t.signature
  letters_read : letters ≡ Some t.letters
  start_read : start ≡ Some t.start
  expiry_read : expiry ≡ Some t.expiry
  overrides_read : overrides ≡ Some t.overrides
  permissions : t.permissions ≡ text_under query (codes "sp")
  start_text : t.start_text ≡ text_under query (codes "st")
  expiry_text : t.expiry_text ≡ text_under query (codes "se")
  id : t.id ≡ text_under query (codes "si")

made_of : (query : List Field) (v : List ℕ) (r : Resource) (s : List ℕ) (l : Option Permissions) (a b : Option ℕ) (o : Overridden) (t : Sent)
    → token_by query (Some v) (Some r) (Some s) (Some l) (Some a) (Some b) (Some o) ≡ Some t → AreParts query (Some v) (Some r) (Some s) (Some l) (Some a) (Some b) (Some o) t
made_of query v r s l a b o t e =
    let same : record {
      version = v;
      resource = r;
      permissions = text_under query (codes "sp");
      start_text = text_under query (codes "st");
      expiry_text = text_under query (codes "se");
      id = text_under query (codes "si");
      signature = s;
      letters = l;
      start = a;
      expiry = b;
      overrides = o;
    } ≡ t = cc in record {
      version_read = ap (λ (t : Sent). Some t.version) same;
      resource_read = ap (λ (t : Sent). Some t.resource) same;
      signature_read = ap (λ (t : Sent). Some t.signature) same;
      letters_read = ap (λ (t : Sent). Some t.letters) same;
      start_read = ap (λ (t : Sent). Some t.start) same;
      expiry_read = ap (λ (t : Sent). Some t.expiry) same;
      overrides_read = ap (λ (t : Sent). Some t.overrides) same;
      permissions = sym (ap (λ (t : Sent). t.permissions) same);
      start_text = sym (ap (λ (t : Sent). t.start_text) same);
      expiry_text = sym (ap (λ (t : Sent). t.expiry_text) same);
      id = sym (ap (λ (t : Sent). t.id) same);
    }

parts_of : (query : List Field) (v : Option (List ℕ)) (r : Option Resource) (s : Option (List ℕ)) (l : Option (Option Permissions)) (a b : Option (Option ℕ)) (o : Option Overridden) (t : Sent)
    → token_by query v r s l a b o ≡ Some t → AreParts query v r s l a b o t
parts_of query (Some v) (Some r) (Some s) (Some l) (Some a) (Some b) (Some o) t e = made_of query v r s l a b o t e
parts_of query None r s l a b o t e = cc
parts_of query (Some v) None s l a b o t e = cc
parts_of query (Some v) (Some r) None l a b o t e = cc
parts_of query (Some v) (Some r) (Some s) None a b o t e = cc
parts_of query (Some v) (Some r) (Some s) (Some l) None b o t e = cc
parts_of query (Some v) (Some r) (Some s) (Some l) (Some a) None o t e = cc
parts_of query (Some v) (Some r) (Some s) (Some l) (Some a) (Some b) None t e = cc

not_refused : {X : Type 0} (b : Bool) (o : Option X) (x : X) → cond b None o ≡ Some x → (b ≡ false) × (o ≡ Some x)
not_refused true o x e = cc
not_refused false o x e = (refl, e)

module _ (q : List Field) where
  abbrev the_version : Option (List ℕ)
  the_version = option_and_then if_served (first_value q (codes "sv"))

  abbrev the_resource : Option Resource
  the_resource = option_and_then resource_of (first_value q (codes "sr"))

  -- what is read is a token
  pub token_sound : (t : Sent) → token_of q ≡ Some t → IsToken q t
  unfolding token_of
  token_sound t e =
      let read = not_refused (list_any (is_sent_twice q) parameter_names) _ t e in
      let p = parts_of q the_version the_resource (first_value q (codes "sig")) (letters_given (text_under q (codes "sp"))) (time_given (text_under q (codes "st"))) (time_given (text_under q (codes "se"))) (overrides_given q (text_under q (codes "sv"))) t read.1 in
      let v = served_sound (first_value q (codes "sv")) t.version p.version_read in
      let own = given_overrides q (text_under q (codes "sv")) t.overrides p.overrides_read in
      let sent : text_under q (codes "sv") ≡ t.version = ap (λ o. unwrap_or o []) v.0 in record {
        once = read.0;
        version = v.0;
        served = v.1;
        resource = resource_sound (first_value q (codes "sr")) t.resource p.resource_read;
        signature = p.signature_read;
        permissions = p.permissions;
        start_text = p.start_text;
        expiry_text = p.expiry_text;
        id = p.id;
        letters = subst (λ text. GivesLetters text t.letters) (sym p.permissions) (letters_sound (text_under q (codes "sp")) t.letters p.letters_read);
        start = subst (λ text. GivesTime text t.start) (sym p.start_text) (time_sound (text_under q (codes "st")) t.start p.start_read);
        expiry = subst (λ text. GivesTime text t.expiry) (sym p.expiry_text) (time_sound (text_under q (codes "se")) t.expiry p.expiry_read);
        overrides_once = ap (overrides_twice q) (sym sent) ∙ own.once;
        overrides = own.these ∙ ap (overrides_for q) sent;
        visible = own.visible;
      }

  -- a token is read
  pub token_complete : (t : Sent) → IsToken q t → token_of q ≡ Some t
  unfolding token_of
  token_complete t a =
      let version = served_complete (first_value q (codes "sv")) t.version a.version a.served in
      let resource = ap (option_and_then resource_of) a.resource ∙ resource_again t.resource in
      let letters = letters_complete (text_under q (codes "sp")) t.letters (subst (λ text. GivesLetters text t.letters) a.permissions a.letters) in
      let start = time_complete (text_under q (codes "st")) t.start (subst (λ text. GivesTime text t.start) a.start_text a.start) in
      let expiry = time_complete (text_under q (codes "se")) t.expiry (subst (λ text. GivesTime text t.expiry) a.expiry_text a.expiry) in
      let sent : text_under q (codes "sv") ≡ t.version = ap (λ o. unwrap_or o []) a.version in
      let overrides : overrides_given q (text_under q (codes "sv")) ≡ Some t.overrides = ap (overrides_given q) sent ∙ overrides_again q t.version t.overrides (record { once = a.overrides_once; these = a.overrides; visible = a.visible }) in
      (λ i. cond (a.once i) None (token_by q (version i) (resource i) (a.signature i) (letters i) (start i) (expiry i) (overrides i)))
      ∙ (λ i. Some (record t { permissions = sym a.permissions i; start_text = sym a.start_text i; expiry_text = sym a.expiry_text i; id = sym a.id i }))

  -- what the reader answers is what the function gives
  pub token_value : (r : Result Sent TokenFault) → MatchResult r (IsToken q) (IsFault q) → result_ok r ≡ token_of q
  token_value (Ok t) is = sym (token_complete t is)
  token_value (Err f) is = none (token_of q) refl
    where
      none : (o : Option Sent) → token_of q ≡ o → None ≡ o
      none None e = refl
      none (Some t) e = absurd (no_token q t f (token_sound t e) is)

-- a query is read as a token if and only if it is this token
pub token_of-IsToken : (q : List Field) (t : Sent) → (token_of q ≡ Some t) ↔ IsToken q t
token_of-IsToken q t = (token_sound q t, token_complete q t)

module _ (q : List Field) where
  by_first : (o : Option Sent) → token_of q ≡ o → has_overrides (text_under q (codes "sv")) ≡ false → option_map_or (λ t. t.overrides) o no_overrides ≡ no_overrides
  by_first None e first = refl
  by_first (Some t) e first =
      let is = token_sound q t e in
      let sent : text_under q (codes "sv") ≡ t.version = ap (λ o. unwrap_or o []) is.version in
      is.overrides ∙ ap (λ b. cond b (overrides_in q) no_overrides) (sym (ap has_overrides sent) ∙ first)

  -- a query of another version than the newer one replaces nothing
  pub nothing_by_first : has_overrides (text_under q (codes "sv")) ≡ false → no_overrides ≡ replaced_headers q
  nothing_by_first first = sym (by_first (token_of q) refl first)

  seen_by : (o : Option Sent) → token_of q ≡ o → are_visible (option_map_or (λ t. t.overrides) o no_overrides) ≡ true
  seen_by None e = refl
  seen_by (Some t) e = (token_sound q t e).visible

  -- what a token replaces is of printable ASCII
  pub read_visible : are_visible (replaced_headers q) ≡ true
  read_visible = seen_by (token_of q) refl
