-- What is read as a token is written as that token.
use Rattle.std.proofs.Common.{◌≡◌, ◌≢◌, ℕ, zero, suc, ◌+◌, Bool, true, false, not, cond, ◌==◌, List, [], ◌∷◌, ◌++◌, length, take, drop, Option, Some, None, refl, sym, ap, ◌∙◌, arith, eqb-true, append_assoc, subst}
use Rattle.std.specs.Prelude.{option_map}
use Rattle.std.specs.List.{prefix_len, list_all, flat_map}
use Rattle.std.proofs.lemmas.Option.{cond_some, option_and_then_some, some_pair_parts, same_Some}
use Rattle.std.proofs.lemmas.List.Elements.{All-nil, All-cons}
use Rattle.xml_text.specs.declared.tokens.Kind.TheVariants.{Closing}
use Rattle.stamp_values.specs.Ascii.{slash, equals_sign}
use Rattle.xml_text.specs.Markup.{is_white, is_white_space, is_name_byte, is_delimiter, less_than, greater_than}
use Rattle.xml_text.specs.Tokens.{is_name, is_text, Attribute, attribute_bytes, IsAttribute, AreAttributes, Tag, IsTag}
use Rattle.xml_text.specs.Reading.{◌>>=◌, after_white, after_byte, name_at, value_up_to, value_at, attribute_at, end_at, or_else, next_attribute_at, turned, attributes_at, kind_of, closing_at, opening_at, after_bracket, tag_at}
use Rattle.xml_text.proofs.Runs.{run_passes, run_whole, if_none}

abbrev pub end_bytes : Bool → List ℕ
end_bytes true = slash ∷ greater_than ∷ []
end_bytes false = greater_than ∷ []

pub byte_sound : (b : ℕ) (t r : List ℕ) (x : Bool) → after_byte b t ≡ Some (x, r) → t ≡ b ∷ r
byte_sound b [] r x e = cc
byte_sound b (c ∷ cs) r x e =
    let (ok, same) = cond_some (c == b) (true, cs) (x, r) e in
    λ i. eqb-true c b ok i ∷ (same i).1

pub name_sound : (t n r : List ℕ) → name_at t ≡ Some (n, r) → (is_name n ≡ true) × (t ≡ n ++ r)
unfolding name_at
name_sound t n r e =
    let k = prefix_len is_name_byte t in
    let (ok, same) = cond_some (is_name (take k t)) (take k t, drop k t) (n, r) e in
    (ap (λ q. is_name q.0) (sym same) ∙ ok, run_whole is_name_byte t ∙ ap (λ q. q.0 ++ q.1) same)

-- the text is a value between delimiters, and what follows it
pub record Quoted (t r : List ℕ) : Type 0 where
  pub delimiter : ℕ
  pub value : List ℕ
  pub is_delimiter_byte : is_delimiter delimiter ≡ true
  pub text : is_text value ≡ true
  pub undelimited : list_all (λ c. not (c == delimiter)) value ≡ true
  pub whole : t ≡ delimiter ∷ (value ++ delimiter ∷ r)

value_parts : (q : ℕ) (t r : List ℕ) (x : Bool) → is_delimiter q ≡ true → value_up_to q t ≡ Some (x, r) → Quoted (q ∷ t) r
unfolding value_up_to
value_parts q t r x ok e =
    let p = λ (c : ℕ). not (c == q) in
    let k = prefix_len p t in
    let (text, more) = if_none (is_text (take k t)) (after_byte q (drop k t)) (x, r) e in
    record {
      delimiter = q;
      value = take k t;
      is_delimiter_byte = ok;
      text = text;
      undelimited = run_passes p t;
      whole = ap (λ l. q ∷ l) (run_whole p t ∙ ap (λ l. take k t ++ l) (byte_sound q (drop k t) r x more));
    }

pub value_sound : (t r : List ℕ) (x : Bool) → value_at t ≡ Some (x, r) → Quoted t r
unfolding value_at
value_sound [] r x e = cc
value_sound (q ∷ t) r x e =
    let (ok, more) = if_none (is_delimiter q) (value_up_to q t) (x, r) e in value_parts q t r x ok more

-- the text is an attribute, and what follows it
abbrev pub AttributeRead : List ℕ → List ℕ → Type 0
AttributeRead t r = (a : Attribute) × IsAttribute a × (t ≡ attribute_bytes a ++ r)

pub joined_attribute : (a : Attribute) (r : List ℕ) → attribute_bytes a ++ r ≡ a.gap ++ (a.name ++ (a.before ++ equals_sign ∷ (a.after ++ a.delimiter ∷ (a.value ++ a.delimiter ∷ r))))
joined_attribute a r = simp append_assoc refl

attribute_parts : (gap t r name t1 t2 : List ℕ) (x : Bool) → gap ≢ [] → is_white_space gap ≡ true → name_at t ≡ Some (name, t1) → after_byte equals_sign (after_white t1) ≡ Some (x, t2) → Quoted (after_white t2) r → AttributeRead (gap ++ t) r
attribute_parts gap t r name t1 t2 x apart white named equals quoted =
    let (is, whole) = name_sound t name t1 named in
    let before = take (prefix_len is_white t1) t1 in
    let after = take (prefix_len is_white t2) t2 in
    let a : Attribute = record { gap = gap; name = name; before = before; after = after; delimiter = quoted.delimiter; value = quoted.value } in
    let tail : t2 ≡ after ++ quoted.delimiter ∷ (quoted.value ++ quoted.delimiter ∷ r) = run_whole is_white t2 ∙ ap (λ l. after ++ l) quoted.whole in
    let middle : t1 ≡ before ++ equals_sign ∷ t2 = run_whole is_white t1 ∙ ap (λ l. before ++ l) (byte_sound equals_sign (after_white t1) t2 x equals) in
    let front : gap ++ t ≡ gap ++ (name ++ (before ++ equals_sign ∷ (after ++ quoted.delimiter ∷ (quoted.value ++ quoted.delimiter ∷ r)))) =
    ap (λ l. gap ++ l) (whole ∙ ap (λ l. name ++ l) (middle ∙ ap (λ l. before ++ equals_sign ∷ l) tail)) in (
      a,
      record {
        apart = apart;
        gap = white;
        name = is;
        before = run_passes is_white t1;
        after = run_passes is_white t2;
        delimiter = quoted.is_delimiter_byte;
        value = quoted.text;
        undelimited = quoted.undelimited;
      },
      front ∙ sym (joined_attribute a r),
    )

pub attribute_sound : (gap t r : List ℕ) (x : Bool) → gap ≢ [] → is_white_space gap ≡ true → attribute_at t ≡ Some (x, r) → AttributeRead (gap ++ t) r
unfolding attribute_at
attribute_sound gap t r x apart white e =
    option_and_then_some (λ n. after_byte equals_sign (after_white n.1) >>= (λ q. value_at (after_white q.1))) (name_at t) (x, r) e λ n named e₁.
    option_and_then_some (λ q. value_at (after_white q.1)) (after_byte equals_sign (after_white n.1)) (x, r) e₁ λ q equals e₂.
    attribute_parts gap t r n.0 n.1 q.1 q.0 apart white named equals (value_sound (after_white q.1) r x e₂)

abbrev slashed : Bool × List ℕ → Bool × List ℕ
slashed e = (true, e.1)

abbrev finished : Bool × List ℕ → Option Bool × List ℕ
finished e = (Some e.0, e.1)

abbrev another : Bool × List ℕ → Option Bool × List ℕ
another a = (None, a.1)

end_slash : (cs r : List ℕ) (b : Bool) → option_map slashed (after_byte greater_than cs) ≡ Some (b, r) → (b ≡ true) × (cs ≡ greater_than ∷ r)
end_slash [] r b e = cc
end_slash (c ∷ cs) r b e =
    elim (c == greater_than) as (λ y. (c == greater_than) ≡ y → option_map slashed (cond y (Some (true, cs)) None) ≡ Some (b, r) → (b ≡ true) × (c ∷ cs ≡ greater_than ∷ r)) [
      | true ↦ λ h is. let (flag, rest) = some_pair_parts true b cs r is in (sym flag, λ i. eqb-true c greater_than h i ∷ rest i)
      | false ↦ λ h is. cc
    ] refl e

pub end_sound : (t r : List ℕ) (b : Bool) → end_at t ≡ Some (b, r) → t ≡ end_bytes b ++ r
unfolding end_at
end_sound [] r b e = cc
end_sound (c ∷ cs) r b e =
    let after_slash = λ (y : Bool). cond y (option_map slashed (after_byte greater_than cs)) None in
    elim (c == greater_than) as (λ y. (c == greater_than) ≡ y → cond y (Some (false, cs)) (after_slash (c == slash)) ≡ Some (b, r) → c ∷ cs ≡ end_bytes b ++ r) [
      | true ↦ λ h is. let (flag, rest) = some_pair_parts false b cs r is in (λ i. eqb-true c greater_than h i ∷ rest i) ∙ ap (λ f. end_bytes f ++ r) flag
      | false ↦ λ h is.
          let (ok, more) = if_none (c == slash) _ (b, r) is in
          let (flag, rest) = end_slash cs r b more in (λ i. eqb-true c slash ok i ∷ rest i) ∙ ap (λ f. end_bytes f ++ r) (sym flag)
    ] refl e

abbrev pub TurnRead : Option Bool → List ℕ → List ℕ → Type 0
TurnRead (Some b) t r = (gap : List ℕ) × (is_white_space gap ≡ true) × (t ≡ gap ++ (end_bytes b ++ r))
TurnRead None t r = AttributeRead t r

ended : (t : List ℕ) (y : Bool × List ℕ) (answer : Option Bool) (r : List ℕ) → end_at (after_white t) ≡ Some y → (Some y.0 ≡ answer) × (y.1 ≡ r) → TurnRead answer t r
ended t y (Some b) r is same =
    let flag : y.0 ≡ b = cc in
    let pair : end_at (after_white t) ≡ Some (b, r) = is ∙ (λ i. Some (flag i, same.1 i)) in
    (take (prefix_len is_white t) t, run_passes is_white t, run_whole is_white t ∙ ap (λ l. take (prefix_len is_white t) t ++ l) (end_sound (after_white t) r b pair))
ended t y None r is same = cc

some_gap : (t : List ℕ) → (prefix_len is_white t == 0) ≡ false → take (prefix_len is_white t) t ≢ []
some_gap [] h e = cc
some_gap (c ∷ cs) h e =
    elim (is_white c) as (λ b. is_white c ≡ b → (cond b (1 + prefix_len is_white cs) 0 == 0) ≡ false → take (cond b (1 + prefix_len is_white cs) 0) (c ∷ cs) ≡ [] → ⊥) [
      | true ↦ λ _ _ none. let next : 1 + prefix_len is_white cs ≡ suc (prefix_len is_white cs) = omega arith in let bad = rw next at none in cc
      | false ↦ λ _ zero_is _. cc
    ] refl h e

attributed : (t : List ℕ) (answer : Option Bool) (r : List ℕ) (a : Bool × List ℕ) → (prefix_len is_white t == 0) ≡ false → attribute_at (after_white t) ≡ Some a → (None ≡ answer) × (a.1 ≡ r) → TurnRead answer t r
attributed t (Some b) r a h is same = cc
attributed t None r a h is same =
    let gap = take (prefix_len is_white t) t in
    let pair : attribute_at (after_white t) ≡ Some (a.0, r) = is ∙ (λ i. Some (a.0, same.1 i)) in
    let (one, good, whole) = attribute_sound gap (after_white t) r a.0 (some_gap t h) (run_passes is_white t) pair in
    (one, good, run_whole is_white t ∙ whole)

unended : (t : List ℕ) (answer : Option Bool) (r : List ℕ) (z : Bool)
    → (prefix_len is_white t == 0) ≡ z → cond z None (option_map another (attribute_at (after_white t))) ≡ Some (answer, r) → TurnRead answer t r
unended t answer r true h e = cc
unended t answer r false h e =
    elim (attribute_at (after_white t)) as (λ o. attribute_at (after_white t) ≡ o → option_map another o ≡ Some (answer, r) → TurnRead answer t r) [
      | Some a ↦ λ is same. attributed t answer r a h is (some_pair_parts None answer a.1 r same)
      | None ↦ λ is same. cc
    ] refl e

pub turn_sound : (t : List ℕ) (answer : Option Bool) (r : List ℕ) → next_attribute_at t ≡ Some (answer, r) → TurnRead answer t r
unfolding next_attribute_at
turn_sound t answer r e =
    elim (end_at (after_white t)) as (λ o. end_at (after_white t) ≡ o
    → or_else (option_map finished o) (cond (prefix_len is_white t == 0) None (option_map (λ a. (None, a.1)) (attribute_at (after_white t)))) ≡ Some (answer, r) → TurnRead answer t r) [
      | Some y ↦ λ is same. ended t y answer r is (some_pair_parts (Some y.0) answer y.1 r same)
      | None ↦ λ is same. unended t answer r (prefix_len is_white t == 0) refl same
    ] refl e

-- the text is the rest of a tag after its name, and what follows it
abbrev pub AttributesRead : Bool → List ℕ → List ℕ → Type 0
AttributesRead b t r = (s : List ℕ) × AreAttributes s × (t ≡ s ++ (end_bytes b ++ r))

one_more : (a : Attribute) (t rest r : List ℕ) (b : Bool) → IsAttribute a → t ≡ attribute_bytes a ++ rest → AttributesRead b rest r → AttributesRead b t r
one_more a t rest r b is whole (s, (attributes, gap, all, white, parts), more) = (
  attribute_bytes a ++ s,
  (a ∷ attributes, gap, All-cons IsAttribute a attributes is all, white, ap (λ l. attribute_bytes a ++ l) parts ∙ sym (append_assoc (attribute_bytes a) (flat_map attribute_bytes attributes) gap)),
  whole ∙ ap (λ l. attribute_bytes a ++ l) more ∙ sym (append_assoc (attribute_bytes a) s (end_bytes b ++ r)),
)

last_one : (t rest r : List ℕ) (b c : Bool) → TurnRead (Some c) t rest → (c ≡ b) × (rest ≡ r) → AttributesRead b t r
last_one t rest r b c (gap, white, whole) (flag, same) =
    (gap, ([], gap, All-nil IsAttribute, white, refl), whole ∙ (λ i. gap ++ (end_bytes (flag i) ++ same i)))

attributes_step : (n : ℕ) (t r : List ℕ) (b : Bool) (answer : Option Bool) (rest : List ℕ) → ((t₁ r₁ : List ℕ) (b₁ : Bool) → attributes_at n t₁ ≡ Some (b₁, r₁) → AttributesRead b₁ t₁ r₁)
    → next_attribute_at t ≡ Some (answer, rest) → turned (attributes_at n) answer rest ≡ Some (b, r) → AttributesRead b t r
attributes_step n t r b (Some c) rest more is e = last_one t rest r b c (turn_sound t (Some c) rest is) (some_pair_parts c b rest r e)
attributes_step n t r b None rest more is e =
    let (a, good, whole) = turn_sound t None rest is in one_more a t rest r b good whole (more rest r b e)

pub attributes_sound : (n : ℕ) (t r : List ℕ) (b : Bool) → attributes_at n t ≡ Some (b, r) → AttributesRead b t r
unfolding attributes_at
attributes_sound zero t r b e = cc
attributes_sound (suc n) t r b e =
    option_and_then_some (λ (q : Option Bool × List ℕ). turned (attributes_at n) q.0 q.1) (next_attribute_at t) (b, r) e λ q is more.
    attributes_step n t r b q.0 q.1 (attributes_sound n) is more

-- the value in an option that was mapped
pub mapped_some : {A B P : Type 0} (f : A → B) (o : Option A) (y : B) → option_map f o ≡ Some y → ((x : A) → o ≡ Some x → f x ≡ y → P) → P
mapped_some f None y e k = cc
mapped_some f (Some x) y e k = k x refl (same_Some (f x) y e)

-- the text is the tag, and what follows it
abbrev pub TagRead : Tag → List ℕ → List ℕ → Type 0
TagRead tag t r = (s : List ℕ) × IsTag tag s × (t ≡ s ++ r)

closing_tag : (name gap r : List ℕ) → is_name name ≡ true → is_white_space gap ≡ true → TagRead (record { kind = Closing; name = name }) (less_than ∷ slash ∷ (name ++ (gap ++ greater_than ∷ r))) r
closing_tag name gap r named white = (less_than ∷ slash ∷ (name ++ gap ++ greater_than ∷ []), (named, (gap, white, refl)), simp append_assoc refl)

inside_tag : (b : Bool) (name s r : List ℕ) → is_name name ≡ true → AreAttributes s → TagRead (record { kind = kind_of b; name = name }) (less_than ∷ (name ++ (s ++ (end_bytes b ++ r)))) r
inside_tag true name s r named is = (less_than ∷ (name ++ s ++ slash ∷ greater_than ∷ []), (named, (s, is, refl)), simp append_assoc refl)
inside_tag false name s r named is = (less_than ∷ (name ++ s ++ greater_than ∷ []), (named, (s, is, refl)), simp append_assoc refl)

closed : (name t r : List ℕ) (tag : Tag) (x : Bool) → is_name name ≡ true → after_byte greater_than (after_white t) ≡ Some (x, r) → record { kind = Closing; name = name } ≡ tag → TagRead tag (less_than ∷ slash ∷ (name ++ t)) r
closed name t r tag x named is same =
    let k = prefix_len is_white t in
    let whole : t ≡ take k t ++ greater_than ∷ r = run_whole is_white t ∙ ap (λ l. take k t ++ l) (byte_sound greater_than (after_white t) r x is) in
    subst (λ g. TagRead g (less_than ∷ slash ∷ (name ++ t)) r) same
    (subst (λ l. TagRead (record { kind = Closing; name = name }) (less_than ∷ slash ∷ (name ++ l)) r) (sym whole) (closing_tag name (take k t) r named (run_passes is_white t)))

closing_named : (n : List ℕ × List ℕ) (t r : List ℕ) (tag : Tag) → name_at t ≡ Some n → option_map (λ (e : Bool × List ℕ). let p : Tag × List ℕ = (record { kind = Closing; name = n.0 }, e.1) in p) (after_byte greater_than (after_white n.1)) ≡ Some (tag, r) → TagRead tag (less_than ∷ slash ∷ t) r
closing_named n t r tag named e =
    let (is, whole) = name_sound t n.0 n.1 named in
    mapped_some _ (after_byte greater_than (after_white n.1)) (tag, r) e λ x found same.
    subst (λ l. TagRead tag (less_than ∷ slash ∷ l) r) (sym whole) (closed n.0 n.1 r tag x.0 is (found ∙ (λ i. Some (x.0, (same i).1))) (ap (λ q. q.0) same))

closing_sound : (t r : List ℕ) (tag : Tag) → closing_at t ≡ Some (tag, r) → TagRead tag (less_than ∷ slash ∷ t) r
unfolding closing_at
closing_sound t r tag e = option_and_then_some _ (name_at t) (tag, r) e λ n named e₁. closing_named n t r tag named e₁

opening_named : (n : List ℕ × List ℕ) (t r : List ℕ) (tag : Tag) → name_at t ≡ Some n → option_map (λ (e : Bool × List ℕ). let p : Tag × List ℕ = (record { kind = kind_of e.0; name = n.0 }, e.1) in p) (attributes_at (suc (length n.1)) n.1) ≡ Some (tag, r) → TagRead tag (less_than ∷ t) r
opening_named n t r tag named e =
    let (is, whole) = name_sound t n.0 n.1 named in
    mapped_some _ (attributes_at (suc (length n.1)) n.1) (tag, r) e λ x found same.
    let (s, inside, parts) = attributes_sound (suc (length n.1)) n.1 r x.0 (found ∙ (λ i. Some (x.0, (same i).1))) in
    subst (λ g. TagRead g (less_than ∷ t) r) (ap (λ q. q.0) same)
    (subst (λ l. TagRead (record { kind = kind_of x.0; name = n.0 }) (less_than ∷ l) r) (sym (whole ∙ ap (λ l. n.0 ++ l) parts)) (inside_tag x.0 n.0 s r is inside))

opening_sound : (t r : List ℕ) (tag : Tag) → opening_at t ≡ Some (tag, r) → TagRead tag (less_than ∷ t) r
unfolding opening_at
opening_sound t r tag e = option_and_then_some _ (name_at t) (tag, r) e λ n named e₁. opening_named n t r tag named e₁

bracket_sound : (t r : List ℕ) (tag : Tag) → after_bracket t ≡ Some (tag, r) → TagRead tag (less_than ∷ t) r
bracket_sound [] r tag e = opening_sound [] r tag e
bracket_sound (c ∷ cs) r tag e =
    elim (c == slash) as (λ b. (c == slash) ≡ b → cond b (closing_at cs) (opening_at (c ∷ cs)) ≡ Some (tag, r) → TagRead tag (less_than ∷ c ∷ cs) r) [
      | true ↦ λ h is. subst (λ x. TagRead tag (less_than ∷ x ∷ cs) r) (sym (eqb-true c slash h)) (closing_sound cs r tag is)
      | false ↦ λ h is. opening_sound (c ∷ cs) r tag is
    ] refl e

-- what is read as a tag is written as that tag
pub tag_sound : (t r : List ℕ) (tag : Tag) → tag_at t ≡ Some (tag, r) → TagRead tag t r
unfolding tag_at
tag_sound t r tag e =
    option_and_then_some (λ (q : Bool × List ℕ). after_bracket q.1) (after_byte less_than t) (tag, r) e λ q is e₁.
    subst (λ l. TagRead tag l r) (sym (byte_sound less_than t q.1 q.0 is)) (bracket_sound q.1 r tag e₁)
