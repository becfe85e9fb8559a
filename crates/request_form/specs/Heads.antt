-- Heads of requests (RFC 9112, sections 2 to 5), by the grammar of the crate `httparse`: lines may end in LF alone, and empty lines
-- may come first.
use Rattle.std.specs.Prelude.{◌≡◌, ◌⊎◌, ℕ, zero, suc, ◌≤◌, List, [], map, length, Some, None}
use Rattle.httparse.specs.Grammar.{RequestHead, ReadsRequest, field_value}
use Rattle.httparse.specs.Grammar as grammar
use Rattle.stamp_values.specs.declared.signing.Field.{Field}
use Rattle.request_form.specs.HeadFields.{signed_headers, authorization_values}
use Rattle.request_form.specs.Targets.{lowered}
use Rattle.request_form.specs.HeadForms.{Form, form_of}
use Rattle.request_form.specs.HeadRules.{denial_of, no_head}
use Rattle.request_form.specs.declared.denial.Denial.{Denial}
use Rattle.request_form.specs.HeadParts.{HeadParts}
use Rattle.request_form.specs.declared.parse.parsed_head.Version.{Version}
use Rattle.request_form.specs.declared.parse.parsed_head.Version.TheVariants.{Http10, Http11}

-- the most bytes that a head has
abbrev pub head_limit : ℕ
head_limit = 16384

-- the most header lines that a head has
abbrev pub fields_limit : ℕ
fields_limit = 64

-- the version of a minor number
abbrev pub version_of : ℕ → Version
version_of zero = Http10
version_of (suc minor) = Http11

-- a header: its name in lower case, its value without the white space around it
abbrev pub parsed_field : grammar.Field → Field
parsed_field f = record { name = lowered f.name; value = field_value f }

-- the parts of a head
unfoldable pub parsed_of : RequestHead → HeadParts
parsed_of h = record {
  method = h.method;
  target = h.target;
  version = version_of h.minor;
  fields = signed_headers (map parsed_field h.fields);
  authorization = authorization_values (map parsed_field h.fields);
}

-- the bytes are this head, which is not too long and does not have too many lines
pub record IsHead (text : List ℕ) (h : RequestHead) : Type 0 where
  pub reads : ReadsRequest text h []
  pub short : length text ≤ head_limit
  pub few : length h.fields ≤ fields_limit

-- the bytes are not a head
abbrev pub IsNoHead : List ℕ → Type 0
IsNoHead text = (h : RequestHead) → IsHead text h → ⊥

-- the bytes are a head that no rule refuses, and the head asks for this
pub record Accepts (text : List ℕ) (form : Form) : Type 0 where
  pub head : RequestHead
  pub is_head : IsHead text head
  pub allowed : denial_of (parsed_of head) ≡ None
  pub asks : form_of (parsed_of head) ≡ Some form

-- the bytes are a head that a rule refuses
pub record RefusesHead (text : List ℕ) (denial : Denial) : Type 0 where
  pub head : RequestHead
  pub is_head : IsHead text head
  pub denied : denial_of (parsed_of head) ≡ Some denial

-- the bytes are refused in this way: a rule refuses their head, or they are not a head
abbrev pub Refuses : List ℕ → Denial → Type 0
Refuses text denial = RefusesHead text denial ⊎ (IsNoHead text × (denial ≡ no_head))
