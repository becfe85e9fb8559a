-- The parts of a request head (RFC 9112, sections 2 to 5).
use Rattle.std.specs.Prelude.{ℕ, List}
use Rattle.stamp_values.specs.declared.signing.Field.{Field}
use Rattle.request_form.specs.declared.parse.parsed_head.Version.{Version}

-- the method, the target, the version, the header lines but Authorization, and the values of Authorization
pub record HeadParts : Type 0 where
  pub method : List ℕ
  pub target : List ℕ
  pub version : Version
  pub fields : List Field
  pub authorization : List (List ℕ)
