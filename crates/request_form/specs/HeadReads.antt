-- What the readers of a head answer: each reads what its rules guard.
use Rattle.std.specs.Prelude.{◌≡◌, ℕ, ◌≤◌, Bool, true, false, List, [], ◌∷◌, Some, None, Ok, is_ok}
use Rattle.name_rules.specs.BlobNames.{name_of}
use Rattle.stamp_values.specs.Operations.{body_limit, names_blob}
use Rattle.stamp_values.specs.declared.op.Op.{Op}
use Rattle.stamp_values.specs.declared.verb.Verb.{Verb}
use Rattle.stamp_types.specs.declared.code.Code.{Code}
use Rattle.stamp_types.specs.declared.rule.Rule.{Rule}
use Rattle.stamp_types.specs.declared.rule.Rule.TheVariants.{F1, F2, F3, F4, F5, F6, F7, F8}
use Rattle.request_form.specs.Targets.{blob_of, target_of}
use Rattle.request_form.specs.HeadBlocks.{block_by, kinds_by}
use Rattle.request_form.specs.HeadPages.{page_by}
use Rattle.request_form.specs.HeadRules.{verb_of, op_at, op_of, has_bad_name, has_bad_parameter, body_len_of, denial_among}
use Rattle.request_form.specs.HeadForms.{header_args_of, key_by, blob_by}
use Rattle.request_form.specs.declared.denial.HeadFault.{HeadFault}
use Rattle.request_form.specs.declared.denial.HeadFault.TheVariants as fault
use Rattle.request_form.specs.declared.rules.header_lines.Fields.{Fields}
use Rattle.request_form.specs.declared.rules.f5_names.BlobName.{BlobName}
use Rattle.request_form.specs.declared.rules.f5_names.BlobName.TheVariants as blob_name
use Rattle.request_form.specs.declared.rules.f5_names.Names.{Names}
use Rattle.request_form.specs.HeadParts.{HeadParts}
use Rattle.request_form.specs.declared.rules.f3_operation.Operation.{Operation}
use Rattle.request_form.specs.declared.rules.request_line.Line.{Line}
use Rattle.request_form.specs.declared.rules.f1_target.Target.{Target}
use Rattle.request_form.specs.declared.value_fault.ValueFault.{ValueFault}
use Rattle.request_form.specs.declared.value_fault.ValueFault.TheVariants as value_fault

-- the rules of the request line
abbrev pub line_rules : List Rule
line_rules = F1 ∷ F2 ∷ F3 ∷ []

-- the rules of the names and the header lines
abbrev pub field_rules : List Rule
field_rules = F4 ∷ F5 ∷ F6 ∷ F7 ∷ F8 ∷ []

-- none of these rules holds
abbrev pub Passes : HeadParts → List Rule → Type 0
Passes p rules = denial_among p rules ≡ None

-- the fault is the refusal by the first of these rules that holds, unless memory runs out
abbrev pub Denies : HeadParts → List Rule → HeadFault → Type 0
Denies p rules (fault.Denied d) = denial_among p rules ≡ Some d
Denies p rules fault.NoMemory = Unit {0}

-- the test of a value holds and the fault has this code, unless memory runs out
abbrev pub RefusesValue : Bool → Code → ValueFault → Type 0
RefusesValue holds code (value_fault.Refused c) = (holds ≡ true) × (c ≡ code)
RefusesValue holds code value_fault.NoMemory = Unit {0}

-- what a path has of the name of a blob, by whether the operation names a blob
abbrev pub IsBlobName : Op → List ℕ → BlobName → Type 0
IsBlobName op path blob_name.NotAsked = names_blob op ≡ false
IsBlobName op path (blob_name.Good name) = (names_blob op ≡ true) × (name_of (blob_of path) ≡ Ok name)
IsBlobName op path blob_name.Bad = (names_blob op ≡ true) × (is_ok (name_of (blob_of path)) ≡ false)

-- the names of a path that the operation needs, which are good
pub record AreNames (op : Op) (path : List ℕ) (n : Names) : Type 0 where
  pub good : has_bad_name op path ≡ false
  pub key : n.key ≡ key_by op path
  pub blob : n.blob ≡ blob_by op path

-- what a method and a target ask for
pub record IsOperation (verb : Verb) (target : Target) (o : Operation) : Type 0 where
  pub op : op_at verb target ≡ Some o.op
  pub parameters : has_bad_parameter target.query ≡ false
  pub block : o.block ≡ block_by o.op target.query
  pub kinds : o.kinds ≡ kinds_by o.op target.query
  pub page : o.page ≡ page_by o.op target.query

-- what a request line says
pub record IsLine (p : HeadParts) (l : Line) : Type 0 where
  pub verb : verb_of p.method ≡ Some l.verb
  pub op : op_of p ≡ Some l.op
  pub parameters : has_bad_parameter (target_of p.target).query ≡ false
  pub block : l.block ≡ block_by l.op (target_of p.target).query
  pub kinds : l.kinds ≡ kinds_by l.op (target_of p.target).query
  pub page : l.page ≡ page_by l.op (target_of p.target).query
  pub target : l.target ≡ target_of p.target

-- what the names and the header lines say
pub record AreFields (p : HeadParts) (op : Op) (f : Fields) : Type 0 where
  pub names : AreNames op (target_of p.target).path f.names
  pub body_len : f.body_len ≡ body_len_of p.fields
  pub args : f.args ≡ header_args_of op p.fields
  pub limit : f.body_len ≤ body_limit op
