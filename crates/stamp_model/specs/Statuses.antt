-- The status of a request that succeeds (Blob service REST reference, 2012-02-12, the page of each operation: Status Code; RFC 9110,
-- sections 15.3.1, 15.3.2, 15.3.3 and 15.3.7).
use Rattle.std.specs.Prelude.{Option, Some}
use Rattle.stamp_values.specs.declared.condition.ByteRange.{ByteRange}
use Rattle.stamp_values.specs.declared.op.Op.{Op}
use Rattle.stamp_values.specs.declared.op.Op.TheVariants as op
use Rattle.stamp_types.specs.declared.status.Status.{Status}
use Rattle.stamp_types.specs.declared.status.Status.TheVariants.{Accepted, Created, Partial, Success}

-- the status of the operation, if the request has this range: 201 if it makes something, 202 if it deletes something, 206 if it gives a
-- part of a blob, and else 200
abbrev pub success_status : Op → Option ByteRange → Status
success_status op.CreateContainer range = Created
success_status op.PutBlob range = Created
success_status op.PutBlock range = Created
success_status op.PutBlockList range = Created
success_status op.DeleteContainer range = Accepted
success_status op.DeleteBlob range = Accepted
success_status op.GetBlob (Some r) = Partial
success_status other range = Success
