-- Elements by their tokens, for any name and any inner form (Extensible Markup Language 1.0, section 3.1).
use Rattle.std.specs.Prelude.{◌≡◌, ◌⊎◌, ℕ, true, cond, List, [], ◌∷◌, ◌++◌, reverse}
use Rattle.xml_text.specs.declared.tokens.Kind.TheVariants.{Opening, Empty, Closing}
use Rattle.xml_text.specs.Markup.{is_white, is_white_space}
use Rattle.xml_text.specs.Texts.{Token, tag, text, AreTokens}

-- the opening tag of this name
abbrev pub opening : List ℕ → Token
opening name = tag (record { kind = Opening; name = name })

-- the empty tag of this name
abbrev pub empty : List ℕ → Token
empty name = tag (record { kind = Empty; name = name })

-- the closing tag of this name
abbrev pub closing : List ℕ → Token
closing name = tag (record { kind = Closing; name = name })

-- the text without the white space at its start
abbrev pub without_white_front : List ℕ → List ℕ
without_white_front [] = []
without_white_front (c ∷ cs) = cond (is_white c) (without_white_front cs) (c ∷ cs)

-- the text without the white space at both ends
abbrev pub without_white_ends : List ℕ → List ℕ
without_white_ends s = reverse (without_white_front (reverse (without_white_front s)))

-- the text has no white space at its ends
abbrev pub HasNoWhiteEnds : List ℕ → Type 0
HasNoWhiteEnds t = without_white_ends t ≡ t

-- the tokens are an element of this name with a text alone, which is t with white space at its ends; an empty element has the empty text
abbrev pub IsTextElement : List ℕ → List ℕ → List Token → Type 0
IsTextElement name t tokens =
    ((x : List ℕ) × (tokens ≡ opening name ∷ text x ∷ closing name ∷ []) × (t ≡ without_white_ends x))
    ⊎ ((tokens ≡ empty name ∷ []) × (t ≡ []))

-- the tokens are these elements, each of this form, with white space alone after each element
abbrev pub AreElements : {A : Type 0} → (A → List Token → Type 0) → List A → List Token → Type 0
AreElements IsOne [] tokens = tokens ≡ []
AreElements IsOne (a ∷ more) tokens =
    (front : List Token) × (gap : List ℕ) × (back : List Token)
    × IsOne a front × (is_white_space gap ≡ true) × AreElements IsOne more back × (tokens ≡ front ++ text gap ∷ back)

-- the tokens are an element of this name that has these elements, each of this form, and white space alone between them
abbrev pub IsElementOf : {A : Type 0} → List ℕ → (A → List Token → Type 0) → List A → List Token → Type 0
IsElementOf name IsOne inner tokens =
    ((gap : List ℕ) × (inside : List Token)
    × (is_white_space gap ≡ true) × AreElements IsOne inner inside
    × (tokens ≡ opening name ∷ text gap ∷ (inside ++ closing name ∷ [])))
    ⊎ ((tokens ≡ empty name ∷ []) × (inner ≡ []))

-- the text is an element of this form, with white space alone before and after it
abbrev pub IsRoot : (List Token → Type 0) → List ℕ → Type 0
IsRoot IsElement s =
    (before : List ℕ) × (tokens : List Token) × (root : List ℕ) × (after : List ℕ)
    × (is_white_space before ≡ true) × IsElement tokens × AreTokens tokens root × (is_white_space after ≡ true)
    × (s ≡ before ++ (root ++ after))
