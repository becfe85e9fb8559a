-- Which bodies have room together, which operations bring content, and which make long texts.
use Rattle.std.specs.Prelude.{◌≡◌, ℕ, ◌≤◌, ◌⊎◌, Bool, true, false, length, Option, Some, None, IfSome, Result, Ok, Err}
use Rattle.stamp_values.specs.declared.op.Op.{Op}
use Rattle.stamp_values.specs.declared.op.Op.TheVariants.{ListContainers, CreateContainer, SetContainerMetadata, SetAcl, ListBlobs, PutBlob, SetMetadata, PutBlock, PutBlockList, GetBlockList}
use Rattle.stamp_types.specs.declared.ask.Ask.{Ask}
use Rattle.http_front.specs.declared.admission.Admission.{Admission}
use Rattle.http_front.specs.declared.admission.Admission.TheVariants.{Unjudged, Admitted, Stranger}
use Rattle.http_front.specs.declared.admission.Rooms.{Rooms}
use Rattle.http_front.specs.declared.end.FrontFault.{FrontFault}
use Rattle.http_front.specs.declared.item.Begun.{Begun}
use Rattle.http_front.specs.declared.item.Found.{Found}
use Rattle.http_front.specs.declared.item.Found.TheVariants as finds
use Rattle.http_front.specs.declared.item.PartialItem.{PartialItem}
use Rattle.http_front.specs.declared.item.PartialItem.TheVariants.{InHead, Asking, InBody}
use Rattle.http_front.specs.declared.item.Stage.{Stage}
use Rattle.http_front.specs.declared.item.Stage.TheVariants.{Reading, Answering, Replying}
use Rattle.http_front.specs.declared.item.Progress.{Progress}
use Rattle.http_front.specs.declared.item.Progress.TheVariants.{Ended, Waits}

-- the operation brings content that is kept
abbrev pub brings_content : Op → Bool
brings_content CreateContainer = true
brings_content SetContainerMetadata = true
brings_content SetAcl = true
brings_content PutBlob = true
brings_content SetMetadata = true
brings_content PutBlock = true
brings_content PutBlockList = true
brings_content other = false

-- the operation is answered by a text that may be long
abbrev pub makes_text : Op → Bool
makes_text ListContainers = true
makes_text ListBlobs = true
makes_text GetBlockList = true
makes_text other = false

-- the room of a body
abbrev pub room_of : Admission → Rooms → ℕ
room_of Unjudged rooms = rooms.others
room_of Admitted rooms = rooms.admitted
room_of Stranger rooms = rooms.others

-- what the head asks if its route may admit the body
abbrev pub admitted_by : Admission → Ask → Option Ask
admitted_by Unjudged ask = None
admitted_by Admitted ask = Some ask
admitted_by Stranger ask = None

-- what the head of the item asks if its route may admit the body
abbrev pub item_admitted : PartialItem → Option Ask
item_admitted (InHead search) = None
item_admitted (Asking asking) = admitted_by asking.begun.admission asking.begun.head.ask
item_admitted (InBody begun) = admitted_by begun.admission begun.head.ask

-- what the head of the body that has come in part asks, if its route may admit the body
abbrev pub stage_admitted : Stage → Option Ask
stage_admitted (Reading item) = item_admitted item
stage_admitted (Answering found) = None
stage_admitted (Replying reply) = None

-- the route of what is admitted may admit a body
abbrev pub IsAdmission : (Ask → Type 0) → Stage → Type 0
IsAdmission admits stage = IfSome (stage_admitted stage) admits

-- what is admitted now was admitted before
abbrev pub StaysAdmitted : Option Ask → Option Ask → Type 0
StaysAdmitted before now = IfSome now (λ ask. before ≡ Some ask)

-- reading on in an item admits nothing
abbrev pub ReadsAdmitted : Option Ask → Result Found FrontFault → Type 0
ReadsAdmitted before (Ok finds.End) = Unit {0}
ReadsAdmitted before (Ok (finds.Whole found)) = Unit {0}
ReadsAdmitted before (Ok (finds.Waits item)) = StaysAdmitted before (item_admitted item)
ReadsAdmitted before (Err fault) = Unit {0}

-- a step admits nothing
abbrev pub StepAdmitted : Option Ask → Result Progress FrontFault → Type 0
StepAdmitted before (Ok (Ended end)) = Unit {0}
StepAdmitted before (Ok (Waits stage)) = StaysAdmitted before (stage_admitted stage)
StepAdmitted before (Err fault) = Unit {0}

-- a step admits nothing, if there was one
abbrev pub StepsAdmitted : Option Ask → Result (Option Progress) FrontFault → Type 0
StepsAdmitted before (Ok None) = Unit {0}
StepsAdmitted before (Ok (Some step)) = StepAdmitted before (Ok step)
StepsAdmitted before (Err fault) = Unit {0}

-- the body with this judgement of its head
abbrev pub judged_body : Admission → Begun → Begun
judged_body admission begun = record { head = begun.head; body = begun.body; admission = admission }

-- the same item, with this judgement of its head if its body is awaited
abbrev pub judged_item : Admission → PartialItem → PartialItem
judged_item admission (InHead search) = InHead search
judged_item admission (Asking asking) = Asking asking
judged_item admission (InBody begun) = InBody (judged_body admission begun)

-- the same stage, with this judgement of the head of a body that is awaited
abbrev pub judged_stage : Admission → Stage → Stage
judged_stage admission (Reading item) = Reading (judged_item admission item)
judged_stage admission (Answering found) = Answering found
judged_stage admission (Replying reply) = Replying reply

-- no more of the body has come than bodies of its kind have room for
abbrev pub HasRoom : (Ask → Type 0) → Rooms → Begun → Type 0
HasRoom admits rooms begun = (length begun.body ≤ rooms.others) ⊎ (admits begun.head.ask × (length begun.body ≤ rooms.admitted))

-- if the item waits for the rest of a body, no more of the body has come than there is room for
abbrev pub ItemHasRoom : (Ask → Type 0) → Rooms → PartialItem → Type 0
ItemHasRoom admits rooms (InHead search) = Unit {0}
ItemHasRoom admits rooms (Asking asking) = Unit {0}
ItemHasRoom admits rooms (InBody begun) = HasRoom admits rooms begun

-- If the connection waits for the rest of a body, no more of the body has come than there is room for: the others' room, or more if the
-- route of its request may admit it.
abbrev pub StageHasRoom : (Ask → Type 0) → Rooms → Stage → Type 0
StageHasRoom admits rooms (Reading item) = ItemHasRoom admits rooms item
StageHasRoom admits rooms (Answering found) = Unit {0}
StageHasRoom admits rooms (Replying reply) = Unit {0}
