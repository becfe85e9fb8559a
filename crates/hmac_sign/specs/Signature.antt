-- Signatures and keys as Base64 (RFC 4648, section 4), padded, with bytes of its alphabet alone.
use Rattle.std.specs.Prelude.{ℕ, List}
-- passed on to the crates above
pub use Rattle.base64_text.specs.Base64.{IsBytes, base64_of}
use Rattle.hmac_sign.specs.Hmac.{hmac_of}

-- the signature of the message under the key
abbrev pub signature_of : List ℕ → List ℕ → List ℕ
signature_of key message = base64_of (hmac_of key message)
