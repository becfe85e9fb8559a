-- A link has said what its connection says since it was fresh.
use Rattle.std.proofs.Common.{◌≡◌, ℕ, ◌≤◌, ◌<◌, ◌⊎◌, Option, Some, None, IfSome, List, length, Result, Ok, Err, inl, inr, refl, sym, ◌∙◌, subst, arith}
use Rattle.stamp_types.specs.Requests.{Asked}
use Rattle.stamp_types.specs.declared.ask.Ask.{Ask}
use Rattle.stamp_types.specs.declared.reply.Reply.{Reply}
use Rattle.http_front.specs.declared.admission.Admission.{Admission}
use Rattle.http_front.specs.declared.admission.Admission.TheVariants.{Unjudged, Admitted, Stranger}
use Rattle.http_front.specs.declared.admission.Rooms.{Rooms}
use Rattle.http_front.specs.declared.end.End.{End}
use Rattle.http_front.specs.declared.end.End.TheVariants.{Clean, Closed}
use Rattle.http_front.specs.declared.end.FrontFault.{FrontFault}
use Rattle.http_front.specs.declared.end.FrontFault.TheVariants.{NoMemory}
use Rattle.http_front.specs.declared.item.PartialItem.{PartialItem}
use Rattle.http_front.specs.declared.item.PartialItem.TheVariants.{InHead, Asking, InBody}
use Rattle.http_front.specs.declared.item.Stage.{Stage}
use Rattle.http_front.specs.declared.item.Stage.TheVariants.{Reading, Answering, Replying}
use Rattle.http_front.specs.Admissions.{IsAdmission, StageHasRoom, StaysAdmitted, admitted_by, judged_stage, room_of, stage_admitted}
use Rattle.http_front.specs.Connections.{ConnectionState, IsFresh, IsIdle, IsOpen, IsStalled}
use Rattle.http_front.specs.Conversations.{LeavesRun}
use Rattle.http_front.specs.Inputs.{ReadsItem}
use Rattle.http_front.specs.Links.{Exceeds, IsBetween, IsLink, ItemExceeds, ServesLink}
use Rattle.http_front.specs.Resumptions.{Finishes, step_of}
use Rattle.http_front.specs.Stages.{IsItemWaiting, IsStaged, Pauses, Suspends, fresh_stage}
use Rattle.http_front.specs.Steps.{Comes, Conversing, LeavesStep}
use Rattle.http_front.proofs.Ends.{searched_none}
use Rattle.http_front.proofs.Going.{comes_fault, conversing_none}
use Rattle.http_front.proofs.Resumed.{has_conversed, has_run}

-- a connection that waits can be gone on with
stays_idle : (a : ConnectionState) → IsIdle a → IsOpen a
stays_idle a idle = (idle.0, λ e. let both = sym idle.1 ∙ e in absurd (cc))

stays_stalled : (a : ConnectionState) → IsStalled a → IsOpen a
stays_stalled a stalled = (stalled.0, stalled.1)

stays_item : (item : PartialItem) (a : ConnectionState) → IsItemWaiting item a → IsOpen a
stays_item (InHead search) a waits = stays_idle a waits.0
stays_item (Asking asking) a waits = stays_stalled a waits.0
stays_item (InBody begun) a waits = stays_idle a waits.0

-- memory runs out for an item whose body exceeds its room
item_starved : (rooms : Rooms) (item : PartialItem) (from a : ConnectionState) → ItemExceeds rooms item → Suspends from item a → ReadsItem (Err NoMemory) from a
item_starved rooms (InHead search) from a exceeds s = absurd exceeds
item_starved rooms (Asking asking) from a exceeds s = absurd exceeds
item_starved rooms (InBody begun) from a exceeds s = record {
  more = s.more;
  received = s.received;
  written = s.written;
  sent = s.sent;
  found = inr (begun.head, s.begun.0, s.begun.1, s.begun.3);
}

-- a run and its last step leave the connection alike
leaves_step : (ended : Result End FrontFault) (a : ConnectionState) → LeavesRun ended a → LeavesStep (step_of ended) a
leaves_step (Ok Clean) a leaves = leaves
leaves_step (Ok Closed) a leaves = leaves
leaves_step (Err fault) a leaves = leaves

module _ {C S : Type 0} (gives : C → ℕ → C → Type 0) (answers : S → Asked → ℕ → Reply → S → Type 0) (admits : Ask → Type 0) where
  -- a fresh connection can be gone on with
  link_none : (starves : S → S → Type 0) (clock : C) (world : S) (from : ConnectionState) → IsFresh from → IsLink gives answers admits clock clock world world from fresh_stage from
  link_none starves clock world from fresh = record {
    was_fresh = fresh;
    conversing = conversing_none gives answers starves clock world from fresh;
    stays = (fresh.0, λ e. let both = sym fresh.1 ∙ e in absurd (cc));
    staged = searched_none _ _ refl;
    admitted = tt;
  }

  pub link_at : (starves : S → S → Type 0) (clock : C) (world : S) (from : ConnectionState) (stage : Stage) → stage ≡ fresh_stage → IsFresh from → IsLink gives answers admits clock clock world world from stage from
  link_at starves clock world from stage is fresh = subst (λ s. IsLink gives answers admits clock clock world world from s from) (sym is) (link_none starves clock world from fresh)

  -- a link of whose next item no byte has come waits between two items
  pub rests : (clock clock' : C) (world world' : S) (from : ConnectionState) (stage : Stage) (a : ConnectionState) → IsLink gives answers admits clock clock' world world' from stage a
      → IsBetween stage a → IsLink gives answers admits clock clock' world world' from fresh_stage a
  rests clock clock' world world' from (Answering found) a link none = absurd none
  rests clock clock' world world' from (Replying reply) a link none = absurd none
  rests clock clock' world world' from (Reading (Asking asking)) a link none = absurd none
  rests clock clock' world world' from (Reading (InBody begun)) a link none = absurd none
  rests clock clock' world world' from (Reading (InHead search)) a link none = record {
    was_fresh = link.was_fresh;
    conversing = record {
      between = link.conversing.between;
      serving = link.conversing.serving;
      begun = record {
        more = link.conversing.begun.more;
        received = link.conversing.begun.received;
        written = link.conversing.begun.written;
        sent = link.conversing.begun.sent;
        begun = link.conversing.begun.begun;
      };
    };
    stays = link.stays;
    staged = searched_none _ _ refl;
    admitted = tt;
  }

  module _ (starves : S → S → Type 0) (clock clock' : C) (world world' : S) (from a : ConnectionState) where
    pub comes_starved : (rooms : Rooms) (stage : Stage) → Exceeds rooms stage → Conversing gives answers clock clock' world world' from stage a → Pauses stage a
        → Comes gives answers starves clock clock' world world' from a (Err NoMemory)
    comes_starved rooms (Reading item) exceeds m waits =
        comes_fault gives answers starves clock clock' world world' from m.between a m.serving NoMemory (item_starved rooms item m.between a exceeds m.begun)
        (stays_item item a waits).1
    comes_starved rooms (Answering found) exceeds m waits = absurd exceeds
    comes_starved rooms (Replying reply) exceeds m waits = absurd exceeds

    -- a link whose connection came to its end and was finished was served
    pub serves_link : (ended result : Result End FrontFault) (to : ConnectionState) (left held : Option (List ℕ))
        → Comes gives answers starves clock clock' world world' from a (step_of ended) → LeavesRun ended a
        → Finishes ended result a to → left ≡ to.reader.left → held ≡ to.writer.held → ServesLink gives answers starves clock clock' world world' from left held result
    serves_link ended result to left held comes leaves finished left_is held_is =
        let ran = has_run gives answers starves clock clock' world world' from a to ended result
        (has_conversed gives answers starves clock clock' world world' from a ended comes (leaves_step ended a leaves)) finished in record {
          to = to;
          left_is = sym left_is;
          held_is = sym held_is;
          conversed = ran.conversed;
          whole = ran.whole;
          starved = ran.starved;
          broken = ran.broken;
          ends = ran.left;
          flushed = ran.flushed;
          told = ran.told;
        }

-- ---- what a body is admitted by

stays_of : (admits : Ask → Type 0) (before now : Option Ask) → IfSome before admits → StaysAdmitted before now → IfSome now admits
stays_of admits before None admitted stays = tt
stays_of admits before (Some ask) admitted stays = subst (λ b. IfSome b admits) stays admitted

-- what is admitted now may be admitted, since it was admitted before
pub stays_admitted : (admits : Ask → Type 0) (before : Option Ask) (stage : Stage) → IfSome before admits → StaysAdmitted before (stage_admitted stage) → IsAdmission admits stage
stays_admitted admits before stage admitted stays = stays_of admits before (stage_admitted stage) admitted stays

body_within : (admits : Ask → Type 0) (rooms : Rooms) (admission : Admission) (ask : Ask) (body : List ℕ) → IfSome (admitted_by admission ask) admits
    → (room_of admission rooms < length body → ⊥) → (length body ≤ rooms.others) ⊎ (admits ask × (length body ≤ rooms.admitted))
body_within admits rooms Unjudged ask body admitted within = inl (omega arith)
body_within admits rooms Stranger ask body admitted within = inl (omega arith)
body_within admits rooms Admitted ask body admitted within = inr (admitted, omega arith)

-- a body that does not exceed its room has room
pub has_room : (admits : Ask → Type 0) (rooms : Rooms) (stage : Stage) → IsAdmission admits stage → (Exceeds rooms stage → ⊥) → StageHasRoom admits rooms stage
has_room admits rooms (Reading (InHead search)) admitted within = tt
has_room admits rooms (Reading (Asking asking)) admitted within = tt
has_room admits rooms (Reading (InBody begun)) admitted within = body_within admits rooms begun.admission begun.head.ask begun.body admitted within
has_room admits rooms (Answering found) admitted within = tt
has_room admits rooms (Replying reply) admitted within = tt

-- ---- the judgement of a head says nothing of what was read and written

pub judged_waiting : (admission : Admission) (stage : Stage) (a : ConnectionState) → Pauses stage a → Pauses (judged_stage admission stage) a
judged_waiting admission (Reading (InHead search)) a waits = waits
judged_waiting admission (Reading (Asking asking)) a waits = waits
judged_waiting admission (Reading (InBody begun)) a waits = waits
judged_waiting admission (Answering found) a waits = waits
judged_waiting admission (Replying reply) a waits = waits

pub judged_conversing : {C S : Type 0} (gives : C → ℕ → C → Type 0) (answers : S → Asked → ℕ → Reply → S → Type 0) (clock clock' : C) (world world' : S)
    (from a : ConnectionState) (admission : Admission) (stage : Stage) → Conversing gives answers clock clock' world world' from stage a
    → Conversing gives answers clock clock' world world' from (judged_stage admission stage) a
judged_conversing gives answers clock clock' world world' from a admission (Reading (InHead search)) m = m
judged_conversing gives answers clock clock' world world' from a admission (Reading (Asking asking)) m = m
judged_conversing gives answers clock clock' world world' from a admission (Answering found) m = m
judged_conversing gives answers clock clock' world world' from a admission (Replying reply) m = m
judged_conversing gives answers clock clock' world world' from a admission (Reading (InBody begun)) m = record {
  between = m.between;
  serving = m.serving;
  begun = record {
    more = m.begun.more;
    received = m.begun.received;
    written = m.begun.written;
    sent = m.begun.sent;
    begun = m.begun.begun;
  };
}

judged_staged : (admission : Admission) (stage : Stage) (a : ConnectionState) → IsStaged stage a → IsStaged (judged_stage admission stage) a
judged_staged admission (Reading (InHead search)) a staged = staged
judged_staged admission (Reading (Asking asking)) a staged = staged
judged_staged admission (Reading (InBody begun)) a staged = staged
judged_staged admission (Answering found) a staged = staged
judged_staged admission (Replying reply) a staged = staged

-- What is said of a stage, its judged stage says too.
module _ {C S : Type 0} (gives : C → ℕ → C → Type 0) (answers : S → Asked → ℕ → Reply → S → Type 0) (clock clock' : C) (world world' : S)
    (from a : ConnectionState) (admission : Admission) (stage later : Stage) (is : later ≡ judged_stage admission stage)
    (m : Conversing gives answers clock clock' world world' from stage a) where
  later_conversing : Conversing gives answers clock clock' world world' from later a
  later_conversing = subst (λ s. Conversing gives answers clock clock' world world' from s a) (sym is)
      (judged_conversing gives answers clock clock' world world' from a admission stage m)

  -- memory ran out for a body that exceeds its room
  pub judged_starved : (starves : S → S → Type 0) (rooms : Rooms) → Pauses stage a → Exceeds rooms later
      → Comes gives answers starves clock clock' world world' from a (Err NoMemory)
  judged_starved starves rooms waits exceeds =
      comes_starved gives answers (λ ask. ⊥) starves clock clock' world world' from a rooms later exceeds later_conversing
      (subst (λ s. Pauses s a) (sym is) (judged_waiting admission stage a waits))

  -- the link waits at the judged stage
  pub judged_link : (admits : Ask → Type 0) → IsFresh from → IsOpen a → IsStaged stage a → IsAdmission admits later
      → IsLink gives answers admits clock clock' world world' from later a
  judged_link admits fresh stays staged admitted = record {
    was_fresh = fresh;
    conversing = later_conversing;
    stays = stays;
    staged = subst (λ s. IsStaged s a) (sym is) (judged_staged admission stage a staged);
    admitted = admitted;
  }
