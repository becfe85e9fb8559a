-- The headers that are kept with a blob ("Put Blob": x-ms-blob-content-type and the others).
use Rattle.std.specs.Prelude.{ℕ, Bool, ◌&&◌, nat_le, List, [], ◌∷◌, Option, Some, None, length, codes}
use Rattle.stamp_types.specs.declared.args.Kept.{Kept}
use Rattle.stamp_values.specs.Limits.{kept_limit}

-- what each header says, and the MD5, which has 16 bytes if there is an MD5
pub record PropsFields : Type 0 where
  pub content_type : List ℕ
  pub encoding : List ℕ
  pub language : List ℕ
  pub cache_control : List ℕ
  pub md5 : Option (List ℕ)

-- the text has at most 16,384 bytes
abbrev pub is_kept_text : List ℕ → Bool
is_kept_text t = nat_le (length t) kept_limit

-- what is asked for may be kept: each text has at most 16,384 bytes
abbrev pub is_kept : Kept → Bool
is_kept k = is_kept_text k.content_type && is_kept_text k.encoding && is_kept_text k.language && is_kept_text k.cache_control

-- the content type is not empty, and each text has at most 16,384 bytes
abbrev pub is_props : PropsFields → Bool
is_props p =
    nat_le 1 (length p.content_type) && is_kept_text p.content_type && is_kept_text p.encoding && is_kept_text p.language
    && is_kept_text p.cache_control

-- the content type; if it is empty, nothing is known about the bytes, and they are application/octet-stream
abbrev pub type_or_default : List ℕ → List ℕ
type_or_default [] = codes "application/octet-stream"
type_or_default (b ∷ bs) = b ∷ bs

-- the MD5 that is asked for, or else another MD5 that is known
abbrev pub md5_or : Option (List ℕ) → Option (List ℕ) → Option (List ℕ)
md5_or (Some sum) otherwise = Some sum
md5_or None otherwise = otherwise

-- what is kept of what is asked for
abbrev pub kept_fields : Kept → Option (List ℕ) → PropsFields
kept_fields k otherwise = record {
  content_type = type_or_default k.content_type;
  encoding = k.encoding;
  language = k.language;
  cache_control = k.cache_control;
  md5 = md5_or k.md5 otherwise;
}
