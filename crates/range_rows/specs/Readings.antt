-- What the body of a request says (Blob service REST reference, 2012-02-12, "Put Block List", "Set Container ACL").
use Rattle.std.specs.Prelude.{ℕ, List, [], Result, Ok, Err, Bool, not, true, false}
use Rattle.stamp_values.specs.declared.block.Wanted.{Wanted}
use Rattle.stamp_values.specs.declared.op.Op.{Op}
use Rattle.stamp_values.specs.declared.op.Op.TheVariants as op
use Rattle.stamp_values.specs.declared.policy.Policy.{Policy}
use Rattle.stamp_types.specs.Requests.{Asked}
use Rattle.body_forms.specs.declared.body_fault.BodyFault.{BodyFault}
use Rattle.body_forms.specs.declared.body_fault.BodyFault.TheVariants as fault
use Rattle.body_forms.specs.Ids.{block_list_reading}
use Rattle.body_forms.specs.PolicyValues.{policies_reading}
use Rattle.range_rows.specs.declared.reading.Reading.{Reading}
use Rattle.range_rows.specs.declared.reading.Reading.TheVariants as reading

-- the reading of a body that says a value, or has a fault
abbrev pub reading_from : {A : Type 0} → (A → Reading) → Result A BodyFault → Reading
reading_from says (Ok value) = says value
reading_from says (Err fault) = reading.Fault fault

-- what the body of an operation says besides its bytes: the body of Put Block List is a block list, the body of Set Container ACL is
-- stored policies, and no other body is read
unfoldable pub reading_by : Op → List ℕ → Reading
reading_by op.PutBlockList body = reading_from reading.BlockList (block_list_reading body)
reading_by op.SetAcl body = reading_from reading.Policies (policies_reading body)
reading_by other body = reading.Nothing

-- the body of the operation is read
abbrev pub reads_body : Op → Bool
reads_body op.PutBlockList = true
reads_body op.SetAcl = true
reads_body other = false

-- what the body of a request says besides its bytes
abbrev pub reading_of : Asked → Reading
reading_of q = reading_by q.ask.op q.body

-- the blocks that a body wants, if it is a block list
abbrev pub listed_in : Reading → List Wanted
listed_in (reading.BlockList wanted) = wanted
listed_in other = []

-- the blocks that a request wants in its block list
abbrev pub wanted_blocks : Asked → List Wanted
wanted_blocks q = listed_in (reading_of q)

-- the policies that a body says, if it says policies
abbrev pub policies_in : Reading → List Policy
policies_in (reading.Policies policies) = policies
policies_in other = []

-- the stored policies that a request sends
abbrev pub sent_policies : Asked → List Policy
sent_policies q = policies_in (reading_of q)

-- the fault is one of a list of blocks: a bad id on Put Block List; each other fault is one of a document
abbrev pub is_list_fault : Op → BodyFault → Bool
is_list_fault op.PutBlockList fault.Id = true
is_list_fault other fault = false

-- the body of the operation has a fault of its document
abbrev pub is_malformed : Op → Reading → Bool
is_malformed o (reading.Fault f) = not (is_list_fault o f)
is_malformed o other = false

-- the body of the operation has its form, and an id in it is not an id of a block
abbrev pub tells_bad_id : Op → Reading → Bool
tells_bad_id o (reading.Fault f) = is_list_fault o f
tells_bad_id o other = false
