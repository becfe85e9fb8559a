-- What stays of a blob after a request (Blob service REST reference, 2012-02-12, the pages of the operations that write).
use Rattle.std.specs.Prelude.{◌≡◌, ◌⊎◌, ⊤, Bool, true, false, ◌&&◌, List, [], ◌∷◌, ℕ, Some}
use Rattle.stamp_values.specs.Operations.{names_blob, writes}
use Rattle.stamp_values.specs.declared.key.Key.{Key}
use Rattle.stamp_values.specs.declared.op.Op.{Op}
use Rattle.stamp_values.specs.declared.op.Op.TheVariants as op
use Rattle.stamp_types.specs.declared.rule.Rule.{Rule}
use Rattle.stamp_types.specs.Requests.{Asked}
use Rattle.stamp_types.specs.World.{World}
use Rattle.stamp_model.specs.Blocks.{takes_blocks}
use Rattle.stamp_model.specs.Histories.{makes_or_deletes}
use Rattle.stamp_model.specs.Runs.{Timed, reply_to_one, world_after_one}

-- the operation gives its blob a content that readers see: it puts the blob, or commits blocks
abbrev pub gives_content : Op → Bool
gives_content op.PutBlob = true
gives_content op.PutBlockList = true
gives_content _ = false

-- the operation alters what readers see of its blob: it puts, commits or deletes the blob, or sets its metadata
abbrev pub alters_blob : Op → Bool
alters_blob op.SetMetadata = true
alters_blob other = takes_blocks other

-- the operation writes the blob that it names
abbrev pub writes_blob : Op → Bool
writes_blob o = writes o && names_blob o

-- If the request is on this container, its operation neither makes nor deletes the container. If it is on the blob of this name
-- there, `alters` is false of its operation. The request counts by what it asks for, also if it is refused.
abbrev pub LeavesBy : (Op → Bool) → Key → List ℕ → Asked → Type 0
LeavesBy alters key name q = q.ask.key ≡ key → (makes_or_deletes q.ask.op ≡ false) × (q.ask.blob ≡ Some name → alters q.ask.op ≡ false)

-- the request leaves the content of the blob of this name in this container
abbrev pub LeavesContent : Key → List ℕ → Asked → Type 0
LeavesContent key name q = LeavesBy takes_blocks key name q

-- the request leaves what readers see of the blob of this name in this container
abbrev pub LeavesSeen : Key → List ℕ → Asked → Type 0
LeavesSeen key name q = LeavesBy alters_blob key name q

-- the request leaves the blob of this name in this container, with its uncommitted blocks
abbrev pub LeavesBlob : Key → List ℕ → Asked → Type 0
LeavesBlob key name q = LeavesBy writes_blob key name q

-- the request gives the blob of this name in this container no content that readers see
abbrev pub GivesNoContent : Key → List ℕ → Asked → Type 0
GivesNoContent key name q = q.ask.key ≡ key → q.ask.blob ≡ Some name → gives_content q.ask.op ≡ false

-- ---- requests in turn

-- the request is refused, as the containers are then
abbrev pub IsRefusedAt : World (List ℕ) → Timed → Type 0
IsRefusedAt w r = (rule : Rule) × ((reply_to_one w r).rule ≡ Some rule)

-- of requests in turn, each one has this property, or is refused where it comes
abbrev pub HoldUnlessRefused : (Asked → Type 0) → World (List ℕ) → List Timed → Type 0
HoldUnlessRefused holds w [] = ⊤
HoldUnlessRefused holds w (r ∷ rs) = (holds r.request ⊎ IsRefusedAt w r) × HoldUnlessRefused holds (world_after_one w r) rs

-- of requests in turn, each one leaves the content of the blob of this name in this container, or is refused where it comes
abbrev pub SparesContent : Key → List ℕ → World (List ℕ) → List Timed → Type 0
SparesContent key name w rs = HoldUnlessRefused (λ q. LeavesContent key name q) w rs

-- of requests in turn, each one leaves what readers see of the blob of this name in this container, or is refused where it comes
abbrev pub SparesSeen : Key → List ℕ → World (List ℕ) → List Timed → Type 0
SparesSeen key name w rs = HoldUnlessRefused (λ q. LeavesSeen key name q) w rs

-- of requests in turn, each one gives the blob of this name in this container no content that readers see, or is refused where it comes
abbrev pub SparesAbsence : Key → List ℕ → World (List ℕ) → List Timed → Type 0
SparesAbsence key name w rs = HoldUnlessRefused (λ q. GivesNoContent key name q) w rs
