-- Bodies in XML: the characters of a body, and what comes before the root (Extensible Markup Language 1.0, sections 2.2, 2.8
-- and 4.3.3; RFC 3629, section 6).
use Rattle.std.specs.Prelude.{◌≡◌, ◌⊎◌, ℕ, Bool, true, not, ◌&&◌, ◌||◌, ◌==◌, List, [], ◌∷◌, ◌++◌, slice_index, codes}
use Rattle.stamp_values.specs.Ascii.{question_mark}
use Rattle.stamp_values.specs.Texts.{is_utf8, begins_with_control}
use Rattle.xml_text.specs.Markup.{greater_than, is_white}

-- no character but tab, line feed and carriage return is a control character
abbrev pub are_controls_white : List ℕ → Bool
are_controls_white [] = true
are_controls_white (b ∷ t) = (is_white b || not (begins_with_control (b ∷ t))) && are_controls_white t

-- U+FEFF in UTF-8
abbrev pub byte_order_mark : List ℕ
byte_order_mark = 0xEF ∷ 0xBB ∷ 0xBF ∷ []

-- a byte order mark, or nothing
abbrev pub IsByteOrderMark : List ℕ → Type 0
IsByteOrderMark s = (s ≡ []) ⊎ (s ≡ byte_order_mark)

-- `?>` begins nowhere in the text
abbrev pub has_no_prolog_end : List ℕ → Bool
has_no_prolog_end [] = true
has_no_prolog_end (c ∷ cs) = not (c == question_mark && slice_index cs 0 == greater_than) && has_no_prolog_end cs

-- nothing; `<?xml?>`; or `<?xml`, one byte of white space, and anything up to the first `?>`
abbrev pub IsProlog : List ℕ → Type 0
IsProlog s =
    (s ≡ []) ⊎ (s ≡ codes "<?xml?>")
    ⊎ ((white : ℕ) × (content : List ℕ)
    × (is_white white ≡ true) × (has_no_prolog_end (content ++ question_mark ∷ []) ≡ true)
    × (s ≡ codes "<?xml" ++ (white ∷ (content ++ codes "?>"))))

-- the body has this root after a byte order mark and a prolog, if it has them
pub record IsBody (IsRootText : List ℕ → Type 0) (body : List ℕ) : Type 0 where
  pub utf8 : is_utf8 body ≡ true
  pub clean : are_controls_white body ≡ true
  pub mark : List ℕ
  pub prolog : List ℕ
  pub rest : List ℕ
  pub is_mark : IsByteOrderMark mark
  pub is_prolog : IsProlog prolog
  pub root : IsRootText rest
  pub whole : body ≡ mark ++ (prolog ++ rest)
