-- A service that makes a Serve, and the Fetch of its ticket.
use Rattle.std.proofs.Common.{◌≡◌, ◌⊎◌, inl, inr, ℕ, false, length, Option, Some, None, refl, sym, ap, ◌∙◌, subst, Ok, Err}
use Rattle.stamp_types.specs.declared.past.Past.{Past}
use Rattle.stamp_types.specs.declared.reply.Reply as replies
use Rattle.stamp_types.specs.Requests.{Asked}
use Rattle.core_run.specs.declared.step.Step.TheVariants as step
use Rattle.core_run.specs.declared.step.Outcome.TheVariants.{Reply, Later}
use Rattle.core_run.specs.declared.step.StepFault.TheVariants as fault
use Rattle.core_run.specs.Machine.{Answer, FetchesBy, SettlesDoubtBy, Serves, Takes}
use Rattle.core_run.specs.Services.{IsServedWhole, SameButTickets}
use Rattle.core_run.specs.States.{State, slot_doubt, held_by, reply_in, served, slot_for, with_ticket, without_ticket}
use Rattle.core_run.proofs.DoubtLemmas.{served_first}
use Rattle.core_run.proofs.TicketLemmas.{later_fault, later_is, later_reply, fetched_is, reply_fault, reply_is, the_last}
use Rattle.core_run.proofs.Values.{false_true, none_some}

settled_same : (o : Option Past) (s m : State) (i : ℕ) → o ≡ None → SettlesDoubtBy o s i m → m ≡ s
settled_same None s m i calm is = is
settled_same (Some e) s m i calm is = absurd (none_some e (sym calm))

-- without a fault and a doubt a request is answered by the model's reply or by a ticket, or memory runs out
abbrev Answered : State → Asked → ℕ → Answer → State → Type 0
Answered s q t r s' =
    ((r ≡ Ok (Reply (reply_in s q t))) × (s' ≡ served s q t))
    ⊎ (((r ≡ Ok (Later (length s.tickets))) × (s' ≡ with_ticket (served s q t) (reply_in s q t))) ⊎ (r ≡ Err fault.NoMemory))

answered : (s s' : State) (q : Asked) (t : ℕ) (r : Answer) → slot_doubt s (slot_for s q) ≡ None → Takes s (step.Serve q t) false r s' → Answered s q t r s'
answered s s' q t r calm takes = elim (served_first s s' q t false r takes) [
  | inl failed ↦ elim failed [ inl p ↦ absurd (false_true p.0) | inr p ↦ inr (inr p) ]
  | inr p ↦
      let same : p.0 ≡ s = settled_same (slot_doubt s (slot_for s q)) s p.0 (slot_for s q) calm p.1.0 in
      elim (subst (λ (m : State). Serves m q t false r s') same p.1.1) [
        | inl made ↦ inl made
        | inr rest ↦ elim rest [ inl made ↦ inr (inl made) | inr made ↦ absurd (false_true made.0) ]
      ]
]

-- a reply at once is the model's, and the state is that after the request
pub served_is : (s s' : State) (q : Asked) (t : ℕ) (r : replies.Reply) → slot_doubt s (slot_for s q) ≡ None → Takes s (step.Serve q t) false (Ok (Reply r)) s' → (r ≡ reply_in s q t) × (s' ≡ served s q t)
served_is s s' q t r calm takes = by (answered s s' q t (Ok (Reply r)) calm takes)
  where
    by : Answered s q t (Ok (Reply r)) s' → (r ≡ reply_in s q t) × (s' ≡ served s q t)
    by (inl p) = (reply_is (Ok (Reply r)) r (reply_in s q t) refl p.0, p.1)
    by (inr (inl p)) = absurd (later_reply (Ok (Reply r)) (length s.tickets) r p.0 refl)
    by (inr (inr p)) = absurd (reply_fault (Ok (Reply r)) r fault.NoMemory refl p)

same_but : (s s' : State) (q : Asked) (t : ℕ) (o : replies.Reply) → s' ≡ served s q t → SameButTickets (served s q t) s'
same_but s s' q t o is = record { world = ap (λ (x : State). x.world) is; pairs = ap (λ (x : State). x.pairs) is; points = ap (λ (x : State). x.points) is; doubts = ap (λ (x : State). x.doubts) is; history = ap (λ (x : State). x.history) is }

at_once : (s s' : State) (q : Asked) (t : ℕ) (r : replies.Reply) → Answered s q t (Ok (Reply r)) s' → (r ≡ reply_in s q t) × SameButTickets (served s q t) s'
at_once s s' q t r (inl p) = (reply_is (Ok (Reply r)) r (reply_in s q t) refl p.0, same_but s s' q t r p.1)
at_once s s' q t r (inr (inl p)) = absurd (later_reply (Ok (Reply r)) (length s.tickets) r p.0 refl)
at_once s s' q t r (inr (inr p)) = absurd (reply_fault (Ok (Reply r)) r fault.NoMemory refl p)

ended : (h : Option replies.Reply) (m s' : State) (n : ℕ) (r : replies.Reply) → FetchesBy h m n false (Ok (Reply r)) s' → s' ≡ without_ticket m n
ended None m s' n r p = absurd (reply_fault (Ok (Reply r)) r fault.NoSuchTicket refl p.0)
ended (Some h) m s' n r (inl p) = p.1
ended (Some h) m s' n r (inr p) = elim p.0 [ inl failed ↦ absurd (false_true failed.0) | inr failed ↦ absurd (reply_fault (Ok (Reply r)) r fault.NoMemory refl failed) ]

by_ticket : (s m s' : State) (q : Asked) (t n : ℕ) (r : replies.Reply) → Answered s q t (Ok (Later n)) m → Takes m (step.Fetch n) false (Ok (Reply r)) s' → (r ≡ reply_in s q t) × SameButTickets (served s q t) s'
by_ticket s m s' q t n r (inl p) fetch = absurd (later_reply (Ok (Later n)) n (reply_in s q t) refl p.0)
by_ticket s m s' q t n r (inr (inr p)) fetch = absurd (later_fault (Ok (Later n)) n fault.NoMemory refl p)
by_ticket s m s' q t n r (inr (inl p)) fetch =
    let number : n ≡ length s.tickets = later_is (Ok (Later n)) n (length s.tickets) refl p.0 in
    let holds : held_by m n ≡ Some (reply_in s q t) = (λ i. held_by (p.1 i) (number i)) ∙ the_last s.tickets (reply_in s q t) in
    let end : s' ≡ without_ticket m n = ended (held_by m n) m s' n r fetch in
    let left : s' ≡ without_ticket (with_ticket (served s q t) (reply_in s q t)) n = end ∙ ap (λ (x : State). without_ticket x n) p.1 in (
      elim (fetched_is (held_by m n) m s' n false (Ok (Reply r)) (reply_in s q t) holds fetch) [
        | inl is ↦ reply_is (Ok (Reply r)) r (reply_in s q t) refl is
        | inr failed ↦ absurd (elim failed.0 [ inl f ↦ false_true f.0 | inr f ↦ reply_fault (Ok (Reply r)) r fault.NoMemory refl f ])
      ],
      record { world = ap (λ (x : State). x.world) left; pairs = ap (λ (x : State). x.pairs) left; points = ap (λ (x : State). x.points) left; doubts = ap (λ (x : State). x.doubts) left; history = ap (λ (x : State). x.history) left },
    )

pub whole_service : (s s' : State) (q : Asked) (t : ℕ) (r : replies.Reply) → slot_doubt s (slot_for s q) ≡ None → IsServedWhole s q t r s' → (r ≡ reply_in s q t) × SameButTickets (served s q t) s'
whole_service s s' q t r calm (inl p) = at_once s s' q t r (answered s s' q t (Ok (Reply r)) calm p)
whole_service s s' q t r calm (inr p) = by_ticket s p.0 s' q t p.1.0 r (answered s p.0 q t (Ok (Later p.1.0)) calm p.1.1.0) p.1.1.1
