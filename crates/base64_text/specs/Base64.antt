-- Base64 (RFC 4648, section 4), padded, with the bytes of its alphabet alone.
use Rattle.std.specs.Prelude.{ℕ, Bool, false, List, length}
use Rattle.std.specs.Option.{option_map_or}
-- passed on to the crates above
pub use Rattle.base64.specs.Engines.{standard}
pub use Rattle.base64.specs.GeneralPurpose.{encode_of, decoded_of, IsBytes}
use Rattle.stamp_values.specs.Names.{is_within}

-- the Base64 of the bytes
abbrev pub base64_of : List ℕ → List ℕ
base64_of bytes = encode_of standard bytes

-- strict Base64 of so many bytes
unfoldable pub is_base64_within : ℕ → ℕ → List ℕ → Bool
is_base64_within least most text = option_map_or (λ bytes. is_within least most (length bytes)) (decoded_of standard text) false
