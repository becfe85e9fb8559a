-- Error codes ("Status and Error Codes" and "Blob Service Error Codes" of the Blob service REST reference, 2012-02-12).
use Rattle.std.specs.Prelude.{ℕ, Bool, true, false, List, codes}
use Rattle.stamp_types.specs.declared.status.Status.{Status}
use Rattle.stamp_types.specs.declared.status.Status.TheVariants as status
use Rattle.stamp_types.specs.declared.code.Code.{Code}
use Rattle.stamp_types.specs.declared.code.Code.TheVariants.{InvalidInput, UnsupportedHttpVerb, InvalidQueryParameterValue, MissingContentLengthHeader, InvalidHeaderValue, InvalidResourceName, UnsupportedHeader, InvalidMetadata, MissingRequiredHeader, RequestBodyTooLarge, InvalidAuthenticationInfo, AuthenticationFailed, ResourceNotFound, ContainerNotFound, ContainerAlreadyExists, BlobNotFound, ConditionNotMet, NotModified, BlobAlreadyExists, Md5Mismatch, InvalidXmlDocument, InvalidBlockList, BlockListTooLong, InvalidBlobOrBlock, BlockCountExceedsLimit, InvalidRange, InternalError, ServerBusy, OperationTimedOut}

-- the code as the error body has it
abbrev pub code_text : Code → List ℕ
code_text InvalidInput = codes "InvalidInput"
code_text UnsupportedHttpVerb = codes "UnsupportedHttpVerb"
code_text InvalidQueryParameterValue = codes "InvalidQueryParameterValue"
code_text MissingContentLengthHeader = codes "MissingContentLengthHeader"
code_text InvalidHeaderValue = codes "InvalidHeaderValue"
code_text InvalidResourceName = codes "InvalidResourceName"
code_text UnsupportedHeader = codes "UnsupportedHeader"
code_text InvalidMetadata = codes "InvalidMetadata"
code_text MissingRequiredHeader = codes "MissingRequiredHeader"
code_text RequestBodyTooLarge = codes "RequestBodyTooLarge"
code_text InvalidAuthenticationInfo = codes "InvalidAuthenticationInfo"
code_text AuthenticationFailed = codes "AuthenticationFailed"
code_text ResourceNotFound = codes "ResourceNotFound"
code_text ContainerNotFound = codes "ContainerNotFound"
code_text ContainerAlreadyExists = codes "ContainerAlreadyExists"
code_text BlobNotFound = codes "BlobNotFound"
code_text ConditionNotMet = codes "ConditionNotMet"
code_text NotModified = codes "ConditionNotMet"
code_text BlobAlreadyExists = codes "BlobAlreadyExists"
code_text Md5Mismatch = codes "Md5Mismatch"
code_text InvalidXmlDocument = codes "InvalidXmlDocument"
code_text InvalidBlockList = codes "InvalidBlockList"
code_text BlockListTooLong = codes "BlockListTooLong"
code_text InvalidBlobOrBlock = codes "InvalidBlobOrBlock"
code_text BlockCountExceedsLimit = codes "BlockCountExceedsLimit"
code_text InvalidRange = codes "InvalidRange"
code_text InternalError = codes "InternalError"
code_text ServerBusy = codes "ServerBusy"
code_text OperationTimedOut = codes "OperationTimedOut"

-- the code has an error body, unless its status is 304: such a reply has no content (RFC 9110, section 15.4.5)
abbrev pub has_error_body : Code → Bool
has_error_body NotModified = false
has_error_body other = true

-- the status of a reply that has the code
abbrev pub code_status : Code → Status
code_status InvalidInput = status.BadRequest
code_status UnsupportedHttpVerb = status.MethodNotAllowed
code_status InvalidQueryParameterValue = status.BadRequest
code_status MissingContentLengthHeader = status.LengthRequired
code_status InvalidHeaderValue = status.BadRequest
code_status InvalidResourceName = status.BadRequest
code_status UnsupportedHeader = status.BadRequest
code_status InvalidMetadata = status.BadRequest
code_status MissingRequiredHeader = status.BadRequest
code_status RequestBodyTooLarge = status.PayloadTooLarge
code_status InvalidAuthenticationInfo = status.BadRequest
code_status AuthenticationFailed = status.Forbidden
code_status ResourceNotFound = status.NotFound
code_status ContainerNotFound = status.NotFound
code_status ContainerAlreadyExists = status.Conflict
code_status BlobNotFound = status.NotFound
code_status ConditionNotMet = status.PreconditionFailed
code_status NotModified = status.NotModified
code_status BlobAlreadyExists = status.Conflict
code_status Md5Mismatch = status.BadRequest
code_status InvalidXmlDocument = status.BadRequest
code_status InvalidBlockList = status.BadRequest
code_status BlockListTooLong = status.BadRequest
code_status InvalidBlobOrBlock = status.BadRequest
code_status BlockCountExceedsLimit = status.Conflict
code_status InvalidRange = status.RangeNotSatisfiable
code_status InternalError = status.InternalServerError
code_status ServerBusy = status.ServiceUnavailable
code_status OperationTimedOut = status.InternalServerError
