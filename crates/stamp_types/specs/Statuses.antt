-- Status codes (RFC 9110, section 15).
use Rattle.std.specs.Prelude.{ℕ}
use Rattle.stamp_types.specs.declared.status.Status.{Status}
use Rattle.stamp_types.specs.declared.status.Status.TheVariants.{Success, Created, Accepted, Partial, NotModified, BadRequest, Forbidden, NotFound, MethodNotAllowed, Conflict, LengthRequired, PreconditionFailed, PayloadTooLarge, RangeNotSatisfiable, InternalServerError, ServiceUnavailable}

-- the number of the status line
abbrev pub status_number : Status → ℕ
status_number Success = 200
status_number Created = 201
status_number Accepted = 202
status_number Partial = 206
status_number NotModified = 304
status_number BadRequest = 400
status_number Forbidden = 403
status_number NotFound = 404
status_number MethodNotAllowed = 405
status_number Conflict = 409
status_number LengthRequired = 411
status_number PreconditionFailed = 412
status_number PayloadTooLarge = 413
status_number RangeNotSatisfiable = 416
status_number InternalServerError = 500
status_number ServiceUnavailable = 503
