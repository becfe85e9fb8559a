-- Headers of a blob that a request replaces in the reply (Blob service REST reference, 2013-08-15, Delegating Access with a Shared Access Signature,
-- "Specifying Query Parameters to Override Response Headers").
use Rattle.std.specs.Prelude.{ℕ, Bool, ◌&&◌, List, [], ◌∷◌}
use Rattle.stamp_values.specs.Texts.{is_visible}

-- the texts that come in the place of headers of a blob; an empty text replaces nothing
pub record Replaced : Type 0 where
  pub cache_control : List ℕ
  pub disposition : List ℕ
  pub encoding : List ℕ
  pub language : List ℕ
  pub content_type : List ℕ

-- no header is replaced
abbrev pub nothing_replaced : Replaced
nothing_replaced = record { cache_control = []; disposition = []; encoding = []; language = []; content_type = [] }

-- a header line can show each text: it is of printable ASCII
abbrev pub can_be_shown : Replaced → Bool
can_be_shown v = is_visible v.cache_control && is_visible v.disposition && is_visible v.encoding && is_visible v.language && is_visible v.content_type

-- the text that replaces a header, or the blob's own text if the first text is empty
abbrev pub or_own : List ℕ → List ℕ → List ℕ
or_own [] own = own
or_own (b ∷ bs) own = b ∷ bs
