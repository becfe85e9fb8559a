-- The forms of the values of which changes are made.
use Rattle.std.proofs.Common.{◌≡◌, ℕ, zero, suc, ◌^◌, ◌<◌, ◌≤◌, ◌==◌, ◌&&◌, Bool, true, false, cond, List, [], ◌∷◌, ◌++◌, length, Option, Some, None, refl, sym, ap, subst, arith, nat_le}
use Rattle.std.specs.Option.{option_map}
use Rattle.std.proofs.lemmas.Bool.{eqb-true}
use Rattle.std.proofs.lemmas.Bool.Decides.{nat_tests}
use Rattle.stamp_values.specs.Texts.{is_visible}
use Rattle.stamp_values.specs.Levels.{level_number}
use Rattle.stamp_values.specs.Letters.{Permissions, letters_text, letters_of}
use Rattle.stamp_values.proofs.LetterLemmas.{letters_of-letters_text, letters_taken}
use Rattle.stamp_values.specs.MetadataLists.{is_metadata}
use Rattle.stamp_values.specs.Policies.{is_policies}
use Rattle.stamp_values.specs.declared.level.Level.{Level}
use Rattle.stamp_values.specs.declared.level.Level.TheVariants as level
use Rattle.stamp_values.specs.declared.place.Place.{Place}
use Rattle.stamp_values.specs.declared.block.BlockSource.{BlockSource}
use Rattle.stamp_values.specs.declared.block.BlockSource.TheVariants as source
use Rattle.stamp_types.specs.declared.piece.Piece.{Piece}
use Rattle.stamp_types.specs.declared.piece.Piece.TheVariants.{Bytes, At}
use Rattle.stamp_types.specs.Pieces.{is_pieces}
use Rattle.stamp_types.specs.PropsFields.{PropsFields, is_props}
use Rattle.log_record.specs.Forms.{string_bytes, option_bytes, list_bytes, FitsOption, FitsList}
use Rattle.log_record.specs.Fits.{last_moment, is_text, FitsMoment, FitsLevel, FitsSource, FitsId, FitsText, FitsVisible, FitsMeta, FitsMetadata, FitsMd5, FitsProps, FitsLetters, FitsPolicy, FitsPolicies, FitsAcl, FitsPlaced, FitsPiece, FitsPieces, FitsBlock, FitsCommitted, FitsUncommitted, FitsStanding, FitsTaken, FitsKey}
use Rattle.log_record.specs.Reading.{Read, string_at, option_at, list_at, both_at, tested_at, made_at, parsed_at}
use Rattle.log_record.specs.Records.{moment_bytes, level_bytes, source_number, source_bytes, meta_bytes, metadata_bytes, md5_text, props_bytes, letters_bytes, policy_bytes, policies_bytes, acl_bytes, placed_bytes, piece_bytes, pieces_bytes, id_text, block_bytes, committed_bytes, uncommitted_bytes, standing_bytes, taken_bytes, key_bytes}
use Rattle.log_record.specs.ReadFields.{is_id, moment_at, level_at, source_at, text_at, visible_at, id_at, optional_id_of, optional_id_at, meta_of, meta_at, metadata_at, md5_of, md5_at, props_of, props_at, letters_at, policy_of, policy_at, policies_at, acl_of, acl_at, placed_of, placed_at, piece_at, pieces_at, block_of, block_at, committed_of, committed_at, uncommitted_of, uncommitted_at, standing_of, standing_at, taken_of, taken_at, key_of, key_at}
use Rattle.log_record.proofs.FormLemmas.{IsBytes, IsForm, some_is, bind_some, short_form, long_form, string_form, option_form as the_option, list_form as the_list, tested_form as the_tested, made_form as the_made, parsed_form as the_parsed, both_form as the_both}
use Rattle.log_record.proofs.SumLemmas.{md5_of-md5_text, md5_taken, string_within}

-- ---- the forms of lists, pairs and the others, with what each argument says left out

pub listed : {A : Type 0} {Fits : A → Type 0} {bytes : A → List ℕ} {at : List ℕ → Read A} → IsForm Fits bytes at → IsForm (FitsList Fits) (list_bytes bytes) (list_at at)
listed {A} {Fits} {bytes} {at} form = the_list Fits bytes at form

tested : {A : Type 0} {Fits : A → Type 0} {bytes : A → List ℕ} {at : List ℕ → Read A} → (test : A → Bool) → IsForm Fits bytes at → IsForm (λ a. Fits a × (test a ≡ true)) bytes (tested_at test at)
tested {A} {Fits} {bytes} {at} test form = the_tested Fits bytes at form test

pub both : {A B : Type 0} {FitsA : A → Type 0} {bytes_a : A → List ℕ} {a_at : List ℕ → Read A} {FitsB : B → Type 0} {bytes_b : B → List ℕ} {b_at : List ℕ → Read B}
    → IsForm FitsA bytes_a a_at → IsForm FitsB bytes_b b_at → IsForm (λ (x : A × B). FitsA x.0 × FitsB x.1) (λ x. bytes_a x.0 ++ bytes_b x.1) (both_at a_at b_at)
both {A} {B} {FitsA} {bytes_a} {a_at} {FitsB} {bytes_b} {b_at} first second = the_both FitsA bytes_a a_at first FitsB bytes_b b_at second

pub made : {A B : Type 0} {Fits : A → Type 0} {bytes : A → List ℕ} {at : List ℕ → Read A} → (make : A → B) (parts : B → A) → ((a : A) → parts (make a) ≡ a) → ((b : B) → make (parts b) ≡ b)
    → IsForm Fits bytes at → IsForm (λ b. Fits (parts b)) (λ b. bytes (parts b)) (made_at make at)
made {A} {B} {Fits} {bytes} {at} make parts undone redone form = the_made Fits bytes at form make parts undone redone

pub optional : {A : Type 0} {Fits : A → Type 0} {bytes : A → List ℕ} {at : List ℕ → Read A} → IsForm Fits bytes at → IsForm (FitsOption Fits) (option_bytes bytes) (option_at at)
optional {A} {Fits} {bytes} {at} form = the_option Fits bytes at form

-- a form of some values is a form of fewer values
fewer : {A : Type 0} {Fits Fewer : A → Type 0} {bytes : A → List ℕ} {at : List ℕ → Read A} → ((a : A) → Fewer a → Fits a) → IsForm Fits bytes at → IsForm Fewer bytes at
fewer less form = record { again = λ a rest fits. form.again a rest (less a fits); taken = form.taken }

-- this value is found, and these bytes are after it
abbrev pub got : {A : Type 0} → A → List ℕ → Read A
got a t = Some (a, t)

-- what holds if a test of a number passes, and holds if it fails, holds
pub case_taken : {A : Type 0} (P : ℕ → Type 0) (k n : ℕ) (x y z : Option A) → (x ≡ z → P n) → (y ≡ z → P k) → cond (k == n) x y ≡ z → P k
case_taken {A} P k n x y z here there e = by (k == n) refl e
  where
    by : (b : Bool) → (k == n) ≡ b → cond b x y ≡ z → P k
    by true same e = subst P (sym (eqb-true k n same)) (here e)
    by false other e = there e

parsed : {A B : Type 0} {Fits : A → Type 0} {bytes : A → List ℕ} {at : List ℕ → Read A} → (FitsB : B → Type 0) (print : B → A) (parse : A → Option B)
    → ((b : B) → FitsB b → Fits (print b) × (parse (print b) ≡ Some b))
    → ((t : List ℕ) (a : A) (rest : List ℕ) (b : B) → IsBytes t → at t ≡ Some (a, rest) → parse a ≡ Some b → a ≡ print b)
    → IsForm Fits bytes at → IsForm FitsB (λ b. bytes (print b)) (parsed_at parse at)
parsed {A} {B} {Fits} {bytes} {at} FitsB print parse printed exact form = the_parsed Fits bytes at form FitsB print parse printed exact

-- ---- values

pub moment_form : IsForm FitsMoment moment_bytes moment_at
unfolding moment_at
moment_form = fewer (λ m within. (omega arith, in_time m within)) (tested (λ n. nat_le n last_moment) long_form)
  where
    in_time : (m : ℕ) → m ≤ last_moment → nat_le m last_moment ≡ true
    in_time m within = grind (arith, nat_tests)

level_again : (l : Level) (rest : List ℕ) → Unit {0} → level_at (level_bytes l ++ rest) ≡ Some (l, rest)
unfolding level_at
level_again level.Closed rest fits = refl
level_again level.Blob rest fits = refl
level_again level.Container rest fits = refl

level_taken : (t : List ℕ) (l : Level) (rest : List ℕ) → IsBytes t → level_at t ≡ Some (l, rest) → t ≡ level_bytes l ++ rest
unfolding level_at
level_taken [] l rest good e = absurd cc
level_taken (b ∷ t) l rest good e =
    case_taken P b 0 _ _ _ (λ h. read level.Closed h)
    (λ h. case_taken P b 1 _ _ _ (λ h. read level.Blob h) (λ h. case_taken P b 2 _ _ _ (λ h. read level.Container h) (λ h. absurd cc) h) h) e
  where
    P : ℕ → Type 0
    P k = k ∷ t ≡ level_bytes l ++ rest

    read : (m : Level) → got m t ≡ got l rest → level_number m ∷ t ≡ level_number l ∷ rest
    read m h = subst (λ (x : Level × List ℕ). level_number m ∷ t ≡ level_number x.0 ∷ x.1) (some_is (m, t) (l, rest) h) refl

pub level_form : IsForm FitsLevel level_bytes level_at
level_form = record { again = level_again; taken = level_taken }

pub text_form : IsForm FitsText string_bytes text_at
unfolding text_at
text_form = tested is_text string_form

pub visible_form : IsForm FitsVisible string_bytes visible_at
unfolding visible_at
visible_form = tested is_visible text_form

pub id_form : IsForm FitsId string_bytes id_at
unfolding id_at
id_form = fewer (λ t within. (omega (arith, within.1), is_one (length t) within)) (tested is_id string_form)
  where
    is_one : (n : ℕ) → (1 ≤ n) × (n ≤ 64) → (nat_le 1 n && nat_le n 64) ≡ true
    is_one n within = let least = within.0 in let most = within.1 in grind (arith, nat_tests)

pub meta_form : IsForm FitsMeta meta_bytes meta_at
unfolding meta_at
meta_form = made meta_of (λ m. (m.name, m.value)) (λ p. refl) (λ m. refl) (both text_form visible_form)

pub metadata_form : IsForm FitsMetadata metadata_bytes metadata_at
unfolding metadata_at
metadata_form = tested is_metadata (listed meta_form)

source_again : (s : BlockSource) (rest : List ℕ) → Unit {0} → source_at (source_bytes s ++ rest) ≡ Some (s, rest)
unfolding source_at
source_again source.Uncommitted rest fits = refl
source_again source.Committed rest fits = refl

source_taken : (t : List ℕ) (s : BlockSource) (rest : List ℕ) → IsBytes t → source_at t ≡ Some (s, rest) → t ≡ source_bytes s ++ rest
unfolding source_at
source_taken [] s rest good e = absurd cc
source_taken (b ∷ t) s rest good e =
    case_taken P b 1 _ _ _ (λ h. read source.Uncommitted h) (λ h. case_taken P b 2 _ _ _ (λ h. read source.Committed h) (λ h. absurd cc) h) e
  where
    P : ℕ → Type 0
    P k = k ∷ t ≡ source_bytes s ++ rest

    read : (m : BlockSource) → got m t ≡ got s rest → source_number m ∷ t ≡ source_number s ∷ rest
    read m h = subst (λ (x : BlockSource × List ℕ). source_number m ∷ t ≡ source_number x.0 ∷ x.1) (some_is (m, t) (s, rest) h) refl

pub source_form : IsForm FitsSource source_bytes source_at
source_form = record { again = source_again; taken = source_taken }

-- ---- ids that may be missing, MD5s and letters, which are parsed from strings

optional_id_again : (o : Option (List ℕ)) → FitsOption FitsId o → (length (id_text o) < 2 ^ 32) × (optional_id_of (id_text o) ≡ Some o)
optional_id_again None fits = (omega arith, refl)
optional_id_again (Some []) fits = let least = fits.0 in absurd (omega arith)
optional_id_again (Some (b ∷ t)) fits =
    let most = fits.1 in
    let one : is_id (b ∷ t) ≡ true = is_one (length (b ∷ t)) fits in
    (omega (arith, most), rw one refl)
  where
    is_one : (n : ℕ) → (1 ≤ n) × (n ≤ 64) → (nat_le 1 n && nat_le n 64) ≡ true
    is_one n within = let least = within.0 in let most = within.1 in grind (arith, nat_tests)

abbrev some_id : List ℕ → Option (List ℕ)
some_id t = Some t

id_taken : (b : Bool) (t : List ℕ) (o : Option (List ℕ)) → option_map (λ (u : List ℕ). some_id u) (cond b (Some t) None) ≡ Some o → t ≡ id_text o
id_taken true t o e = ap id_text (some_is (Some t) o e)
id_taken false t o e = absurd cc

optional_id_taken : (t : List ℕ) (o : Option (List ℕ)) → optional_id_of t ≡ Some o → t ≡ id_text o
optional_id_taken [] o e = ap id_text (some_is None o e)
optional_id_taken (b ∷ t) o e = id_taken (is_id (b ∷ t)) (b ∷ t) o e

pub optional_id_form : IsForm (FitsOption FitsId) (λ o. string_bytes (id_text o)) optional_id_at
unfolding optional_id_at
optional_id_form = parsed (FitsOption FitsId) id_text optional_id_of optional_id_again (λ t a rest o good e h. optional_id_taken a o h) string_form

pub md5_form : IsForm FitsMd5 (λ o. string_bytes (md5_text o)) md5_at
unfolding md5_at
md5_form =
    parsed FitsMd5 md5_text md5_of (λ o fits. (fits.0, md5_of-md5_text o fits.1))
    (λ t a rest o good e h. md5_taken a o (string_within t a rest good (string_form.taken t a rest good e)) h) string_form

pub letters_form : IsForm FitsLetters letters_bytes letters_at
unfolding letters_at
letters_form =
    parsed FitsLetters letters_text letters_of (λ p fits. (letters_short p, letters_of-letters_text p fits))
    (λ t a rest p good e h. (letters_taken a p h).0) string_form
  where
    short : (r w d l : Bool) → length (letters_text (record { read = r; write = w; delete = d; list = l })) < 2 ^ 32
    short true true true true = omega arith
    short true true true false = omega arith
    short true true false true = omega arith
    short true true false false = omega arith
    short true false true true = omega arith
    short true false true false = omega arith
    short true false false true = omega arith
    short true false false false = omega arith
    short false true true true = omega arith
    short false true true false = omega arith
    short false true false true = omega arith
    short false true false false = omega arith
    short false false true true = omega arith
    short false false true false = omega arith
    short false false false true = omega arith
    short false false false false = omega arith

    letters_short : (p : Permissions) → length (letters_text p) < 2 ^ 32
    letters_short p = short p.read p.write p.delete p.list

-- ---- kept headers and access

pub props_form : IsForm FitsProps props_bytes props_at
unfolding props_at
props_form =
    tested is_props
    (made props_of (λ (p : PropsFields). (p.content_type, (p.encoding, (p.language, (p.md5, p.cache_control))))) (λ p. refl) (λ p. refl)
    (both visible_form (both visible_form (both visible_form (both md5_form visible_form)))))

pub policy_form : IsForm FitsPolicy policy_bytes policy_at
unfolding policy_at
policy_form =
    made policy_of (λ p. (p.id, (p.start, (p.expiry, p.letters)))) (λ p. refl) (λ p. refl)
    (both text_form (both (optional moment_form) (both (optional moment_form) (optional letters_form))))

pub policies_form : IsForm FitsPolicies policies_bytes policies_at
unfolding policies_at
policies_form = tested is_policies (listed policy_form)

pub acl_form : IsForm FitsAcl acl_bytes acl_at
unfolding acl_at
acl_form = made acl_of (λ a. (a.level, a.policies)) (λ p. refl) (λ a. refl) (both level_form policies_form)

-- ---- content, blocks and rows

placed_form : IsForm (λ (p : Place × ℕ). FitsPlaced p.0 p.1) (λ p. placed_bytes p.0 p.1) placed_at
unfolding placed_at
placed_form =
    made placed_of (λ p. (p.0.extent, (p.0.index, p.1))) (λ p. refl) (λ p. refl)
    (both long_form (both long_form short_form))

piece_again : (p : Piece) (rest : List ℕ) → FitsPiece p → piece_at (piece_bytes p ++ rest) ≡ Some (p, rest)
unfolding piece_at
piece_again (Bytes bs) rest fits = rw (string_form.again bs rest fits) refl
piece_again (At place n) rest fits = rw (placed_form.again (place, n) rest fits) refl

piece_taken : (t : List ℕ) (p : Piece) (rest : List ℕ) → IsBytes t → piece_at t ≡ Some (p, rest) → t ≡ piece_bytes p ++ rest
unfolding piece_at
piece_taken [] p rest good e = absurd cc
piece_taken (zero ∷ t) p rest good e =
    let s = bind_some (string_at t) (λ s. Some (Bytes s.0, s.1)) (p, rest) e in
    subst (λ (x : Piece × List ℕ). 0 ∷ t ≡ piece_bytes x.0 ++ x.1) (some_is (Bytes s.0.0, s.0.1) (p, rest) s.2)
    (ap (λ (u : List ℕ). 0 ∷ u) (string_form.taken t s.0.0 s.0.1 (λ i. good (suc i)) s.1))
piece_taken (suc zero ∷ t) p rest good e =
    let s = bind_some (placed_at t) (λ s. Some (At s.0.0 s.0.1, s.1)) (p, rest) e in
    subst (λ (x : Piece × List ℕ). 1 ∷ t ≡ piece_bytes x.0 ++ x.1) (some_is (At s.0.0.0 s.0.0.1, s.0.1) (p, rest) s.2)
    (ap (λ (u : List ℕ). 1 ∷ u) (placed_form.taken t s.0.0 s.0.1 (λ i. good (suc i)) s.1))
piece_taken (suc (suc b) ∷ t) p rest good e = absurd cc

pub piece_form : IsForm FitsPiece piece_bytes piece_at
piece_form = record { again = piece_again; taken = piece_taken }

pub pieces_form : IsForm FitsPieces pieces_bytes pieces_at
unfolding pieces_at
pieces_form = tested is_pieces (listed piece_form)

pub uncommitted_form : IsForm FitsUncommitted uncommitted_bytes uncommitted_at
unfolding uncommitted_at
uncommitted_form = made uncommitted_of (λ u. (u.id, u.content)) (λ p. refl) (λ u. refl) (both id_form pieces_form)

pub block_form : IsForm FitsBlock block_bytes block_at
unfolding block_at
block_form = made block_of (λ b. (b.id, b.content)) (λ p. refl) (λ b. refl) (both optional_id_form pieces_form)

pub committed_form : IsForm FitsCommitted committed_bytes committed_at
unfolding committed_at
committed_form =
    made committed_of (λ c. (c.etag, (c.made, (c.props, (c.metadata, c.blocks))))) (λ p. refl) (λ c. refl)
    (both long_form (both moment_form (both props_form (both metadata_form (listed block_form)))))

pub standing_form : IsForm FitsStanding standing_bytes standing_at
unfolding standing_at
standing_form =
    made standing_of (λ s. (s.etag, (s.made, (s.acl.level, (s.metadata, s.acl.policies))))) (λ p. refl) (λ s. refl)
    (both long_form (both moment_form (both level_form (both metadata_form policies_form))))

pub taken_form : IsForm FitsTaken taken_bytes taken_at
unfolding taken_at
taken_form = made taken_of (λ a. (a.id, a.from)) (λ p. refl) (λ a. refl) (both id_form source_form)

pub key_form : IsForm FitsKey key_bytes key_at
unfolding key_at
key_form = made key_of (λ k. (k.account, k.container)) (λ p. refl) (λ k. refl) (both text_form text_form)
