-- The reply to a request (Blob service REST reference, 2012-02-12, the page of each operation, Status and Error Codes).
use Rattle.std.specs.Prelude.{ℕ, Bool, true, false, List, Option, Some, None}
use Rattle.stamp_values.specs.declared.key.Key.{Key}
use Rattle.stamp_values.specs.declared.op.Op.{Op}
use Rattle.stamp_values.specs.declared.op.Op.TheVariants as op
use Rattle.stamp_types.specs.declared.refusal.Refusal.{Refusal}
use Rattle.stamp_types.specs.declared.reply.Reply.{Reply}
use Rattle.stamp_types.specs.Replies.{denied}
use Rattle.stamp_types.specs.Requests.{Asked}
use Rattle.stamp_types.specs.World.{Part, World, part_at}
use Rattle.access_rules.specs.declared.keys.Keys.{Keys}
use Rattle.range_rows.specs.SentContent.{reply_of, sizes}
use Rattle.list_pages.specs.ListReplies.{blob_list_reply, container_list_reply}
use Rattle.stamp_model.specs.Overrides.{overrides_of}
use Rattle.stamp_model.specs.Refusals.{refusal}
use Rattle.stamp_model.specs.Effects.{effect}

-- the answer of the operation tells what the container has beside its blobs: its ETag and its moment at least
abbrev pub tells_container : Op → Bool
tells_container op.CreateContainer = true
tells_container op.ContainerProperties = true
tells_container op.SetContainerMetadata = true
tells_container op.GetAcl = true
tells_container op.SetAcl = true
tells_container _ = false

-- the answer of the operation tells what readers see of the blob: its ETag and its moment at least
abbrev pub tells_blob : Op → Bool
tells_blob op.PutBlob = true
tells_blob op.GetBlob = true
tells_blob op.BlobProperties = true
tells_blob op.GetMetadata = true
tells_blob op.SetMetadata = true
tells_blob op.PutBlockList = true
tells_blob _ = false

-- the operation's answer tells nothing of the container, nor of its blobs
abbrev pub tells_nothing : Op → Bool
tells_nothing op.DeleteContainer = true
tells_nothing op.DeleteBlob = true
tells_nothing op.PutBlock = true
tells_nothing _ = false

-- what rows answer to a request from the container that it names, with the headers that the request replaces
abbrev pub rows_answer : Part (List ℕ) → Asked → Reply
rows_answer p q = reply_of (overrides_of q.ask) p q

-- what the operation answers from the container that the request names, as it is after the request's change. A List Containers names no
-- container
abbrev pub own_answer_by : Op → Part (List ℕ) → Asked → Reply
own_answer_by op.ListBlobs p q = blob_list_reply (sizes p) q
own_answer_by _ p q = rows_answer p q

-- what an allowed request is answered from the container that it names
abbrev pub own_answer : Part (List ℕ) → Asked → Reply
own_answer p q = own_answer_by q.ask.op p q

-- what the operation answers from the containers, as they are after the request's change. The bound is the first key that is not listed,
-- and matters to List Containers alone
abbrev pub answer_by : Op → World (List ℕ) → Asked → Option Key → Reply
answer_by op.ListContainers w q bound = container_list_reply w q bound
answer_by _ w q bound = own_answer (part_at w q.ask.key) q

-- what an allowed request is answered, from the containers after its change
abbrev pub answer_of : World (List ℕ) → Asked → Option Key → Reply
answer_of w q bound = answer_by q.ask.op w q bound

-- the reply to a refused request, or else this answer
abbrev pub response : Option Refusal → Reply → Reply
response None answer = answer
response (Some r) answer = denied r

-- the reply to a request: if nothing refuses the request, it is answered from the containers after the request
abbrev pub reply : Option Keys → World (List ℕ) → Asked → ℕ → Option Key → Reply
reply keys w q t bound = response (refusal keys (sizes (part_at w q.ask.key)) q t) (answer_of (effect keys w q t) q bound)
