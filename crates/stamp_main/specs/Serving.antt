-- What the words of `stamp serve` ask for, and what is written before the first connection is taken (this product's own choice).
use Rattle.std.specs.Prelude.{◌≡◌, ◌≤◌, ℕ, List, [], ◌∷◌, ◌++◌, true, codes, decimal}
use Rattle.stamp_values.specs.Ascii.{line_feed}
use Rattle.stamp_values.specs.Names.{is_account}
use Rattle.hmac_sign.specs.Signature.{IsBytes, base64_of}
use Rattle.http_front.specs.Connections.{WriterState, Sends}
use Rattle.access_rules.specs.declared.keys.Keys.{Keys}

-- the words of `serve` with these texts
abbrev pub serve_line : List ℕ → List ℕ → List ℕ → List ℕ → List ℕ → List (List ℕ)
serve_line address workers account first second = codes "serve" ∷ address ∷ workers ∷ account ∷ first ∷ second ∷ []

-- the most workers that serve at once
abbrev pub most_workers : ℕ
most_workers = 64

-- The words ask to serve an address by so many workers, and by an account's pair of keys. Which texts are addresses is the system's matter.
pub record AsksToServe (words : List (List ℕ)) (address : List ℕ) (workers : ℕ) (keys : Keys) : Type 0 where
  pub line : words ≡ serve_line address (decimal workers) keys.account (base64_of keys.first) (base64_of keys.second)
  pub some : 1 ≤ workers
  pub most : workers ≤ most_workers
  pub named : is_account keys.account ≡ true
  pub first_bytes : IsBytes keys.first
  pub second_bytes : IsBytes keys.second
  pub unreplaced : keys.epoch ≡ 0

-- the words ask to serve
abbrev pub IsServe : List (List ℕ) → Type 0
IsServe words = (address : List ℕ) × (workers : ℕ) × (keys : Keys) × AsksToServe words address workers keys

-- the line that tells that connections are taken
abbrev pub listening_line : List ℕ → List ℕ
listening_line address = codes "listening " ++ address ++ line_feed ∷ []

-- the words ask to serve an address, and the line that tells of this address was given to the writer
abbrev pub HasListened : List (List ℕ) → WriterState → WriterState → Type 0
HasListened words from to =
    (address : List ℕ) × (workers : ℕ) × (keys : Keys) × AsksToServe words address workers keys × Sends from to (listening_line address)
