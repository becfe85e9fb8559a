-- The reading of a whole body as tokens, with the readers of a tag and of a text (Extensible Markup Language 1.0, sections 2.4 and 3.1).
use Rattle.std.specs.Prelude.{ℕ, zero, suc, ◌==◌, if◌then◌else◌, List, [], ◌∷◌, length, Option, Some, None, option_map}
use Rattle.xml_text.specs.Markup.{less_than}
use Rattle.xml_text.specs.Texts.{Token, tag, text}
use Rattle.xml_text.specs.Reading.{Read, ◌>>=◌, tag_at, text_at}
use Rattle.xml_text.specs.ElementReading.{unescaped}
use Rattle.xml_text.specs.FrontReading.{body_of}

-- the token at the front: a tag if the text begins with `<`, and otherwise the text up to the next tag, by its value
unfoldable pub token_at : List ℕ → Read Token
token_at [] = None
token_at (c ∷ cs) =
    if c == less_than then option_map (λ g. (tag g.0, g.1)) (tag_at (c ∷ cs))
    else option_map (λ x. (text (unescaped 0 x.0), x.1)) (text_at (c ∷ cs))

-- the tokens of the whole text, if there are at most n tokens
unfoldable pub tokens_at : ℕ → List ℕ → Option (List Token)
tokens_at n [] = Some []
tokens_at zero (c ∷ cs) = None
tokens_at (suc n) (c ∷ cs) = token_at (c ∷ cs) >>= (λ t. option_map (λ more. t.0 ∷ more) (tokens_at n t.1))

-- the tokens that the body has after its byte order mark and its prolog; each token takes at least one byte
abbrev pub body_tokens : List ℕ → Option (List Token)
body_tokens body = body_of (λ t. tokens_at (length t) t) body
