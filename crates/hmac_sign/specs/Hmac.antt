-- HMAC (RFC 2104, section 2) over SHA-256 (FIPS 180-4), whose blocks have 64 bytes.
use Rattle.std.specs.Prelude.{ℕ, ◌-◌, List, ◌++◌, length, replicate, map, bit_xor, nat_lt, if◌then◌else◌}
use Rattle.sha2.specs.Sha256.{sha256}

-- the key, or its digest if the key is longer than a block
abbrev pub short_key : List ℕ → List ℕ
short_key key = if nat_lt 64 (length key) then sha256 key else key

-- the short key, and after it as many zeros as fill a block
abbrev pub key_block : List ℕ → List ℕ
key_block key = short_key key ++ replicate (64 - length (short_key key)) 0

-- each byte of a block combined with the pad
abbrev pub masked : ℕ → List ℕ → List ℕ
masked pad block = map (λ b. bit_xor b pad) block

-- the key's block combined with the inner pad
abbrev pub inner_block : List ℕ → List ℕ
inner_block key = masked 0x36 (key_block key)

-- the key's block combined with the outer pad
abbrev pub outer_block : List ℕ → List ℕ
outer_block key = masked 0x5c (key_block key)

-- the code that authenticates the message under the key
abbrev pub hmac_of : List ℕ → List ℕ → List ℕ
hmac_of key message = sha256 (outer_block key ++ sha256 (inner_block key ++ message))
