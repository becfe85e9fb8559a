-- What `stamp sign` writes, and when (this product's own choice).
use Rattle.std.specs.Prelude.{◌≡◌, ℕ, List, [], ◌∷◌, ◌++◌, IfSome, codes}
use Rattle.hmac_sign.specs.Signature.{IsBytes, signature_of, base64_of}
use Rattle.http_front.specs.Connections.{ConnectionState, Sends}
use Rattle.http_front.specs.declared.counted.Input.TheVariants as inputs
use Rattle.stamp_values.specs.Ascii.{line_feed}

-- the words of `sign` with this text as the key
abbrev pub sign_line : List ℕ → List (List ℕ)
sign_line text = codes "sign" ∷ text ∷ []

-- the words ask for a signature under the key
abbrev pub AsksForSignature : List (List ℕ) → List ℕ → Type 0
AsksForSignature words key = IsBytes key × (words ≡ sign_line (base64_of key))

-- the words ask for a signature
abbrev pub IsSign : List (List ℕ) → Type 0
IsSign words = (key : List ℕ) × AsksForSignature words key

-- the signature of the input under the key, and LF
abbrev pub signature_line : List ℕ → List ℕ → List ℕ
signature_line key input = signature_of key input ++ line_feed ∷ []

-- the signature line of the whole input was given to the writer, if that input is known
abbrev pub SendsSignature : List ℕ → ConnectionState → ConnectionState → Type 0
SendsSignature key from to = IfSome from.reader.left (λ input. Sends from.writer to.writer (signature_line key input))

-- The words asked for a signature, and the signature of the whole input was given to the writer, if that input is known. The input
-- has ended.
abbrev pub HasSigned : List (List ℕ) → ConnectionState → ConnectionState → Type 0
HasSigned words from to = (key : List ℕ) × AsksForSignature words key × SendsSignature key from to × (to.reader.input ≡ inputs.Ended)
