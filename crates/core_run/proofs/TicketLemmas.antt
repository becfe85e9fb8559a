-- What tickets hold.
use Rattle.std.proofs.Common.{◌≡◌, ◌≢◌, ◌⊎◌, inl, inr, ℕ, zero, suc, Bool, true, false, nat_lt, All, List, [], ◌∷◌, ◌++◌, length, Option, Some, None, refl, sym, ap, ◌∙◌, arith, Ok, Err}
use Rattle.std.specs.Prelude.{slice_get, slice_set}
use Rattle.std.specs.Option.{option_and_then}
use Rattle.std.proofs.lemmas.Bool.{cases_order}
use Rattle.std.proofs.lemmas.List.Elements.{All-head, All-tail}
use Rattle.stamp_types.specs.declared.reply.Reply as replies
use Rattle.stamp_types.specs.Requests.{Asked}
use Rattle.stored_slot.specs.Served.{busy}
use Rattle.core_run.specs.declared.step.Step.{Step}
use Rattle.core_run.specs.declared.step.Step.TheVariants as step
use Rattle.core_run.specs.declared.step.Outcome.TheVariants.{Reply, Later}
use Rattle.core_run.specs.declared.step.StepFault.{StepFault}
use Rattle.core_run.specs.declared.step.StepFault.TheVariants as fault
use Rattle.core_run.specs.Machine.{Answer, Fails, FetchesBy, IsRun, SettlesDoubt, Takes}
use Rattle.core_run.specs.States.{State, slot_doubt, held_by, reply_in, slot_for, without_ticket}
use Rattle.core_run.proofs.DoubtLemmas.{served_first}
use Rattle.core_run.proofs.StepLemmas.{by_changes, settled_tickets}
use Rattle.core_run.proofs.Values.{none_some, some_is, true_false}

-- the ticket holds the reply
abbrev Holds : List (Option replies.Reply) → ℕ → replies.Reply → Type 0
Holds ts n o = option_and_then (λ x. x) (slice_get ts n) ≡ Some o

more : (ts us : List (Option replies.Reply)) (n : ℕ) (o : replies.Reply) → Holds ts n o → Holds (ts ++ us) n o
more [] us n o holds = absurd (none_some o holds)
more (t ∷ ts) us zero o holds = holds
more (t ∷ ts) us (suc n) o holds = more ts us n o holds

other_set : (ts : List (Option replies.Reply)) (m n : ℕ) (o : replies.Reply) → n ≢ m → Holds ts n o → Holds (slice_set ts m None) n o
other_set [] m n o apart holds = holds
other_set (t ∷ ts) zero zero o apart holds = absurd (apart refl)
other_set (t ∷ ts) zero (suc n) o apart holds = holds
other_set (t ∷ ts) (suc m) zero o apart holds = holds
other_set (t ∷ ts) (suc m) (suc n) o apart holds = other_set ts m n o (λ same. apart (ap suc same)) holds

pub the_last : (ts : List (Option replies.Reply)) (o : replies.Reply) → Holds (ts ++ Some o ∷ []) (length ts) o
the_last [] o = refl
the_last (t ∷ ts) o = the_last ts o

same_or_not : (n m : ℕ) → (n ≡ m) ⊎ (n ≢ m)
same_or_not n m = elim (cases_order n m) [
  | inl same ↦ inl same
  | inr apart ↦ inr (λ same. elim apart [ inl low ↦ omega (arith, low, same) | inr high ↦ omega (arith, high, same) ])
]

-- what a ticket holds stays until it is fetched
module _ (x : Step) (r : Answer) (n : ℕ) (o : replies.Reply) where
  abbrev Kept : State → State → Type 0
  Kept s s' = held_by s n ≡ Some o → ((x ≡ step.Fetch n) × (r ≡ Ok (Reply o))) ⊎ (held_by s' n ≡ Some o)

  fetched : (s : State) (k : ℕ) (h : replies.Reply) → x ≡ step.Fetch k → held_by s k ≡ Some h → r ≡ Ok (Reply h) → Kept s (without_ticket s k)
  fetched s k h is there answers holds = elim (same_or_not n k) [
    | inl same ↦ inl (is ∙ ap step.Fetch (sym same), answers ∙ ap (λ (y : replies.Reply). Ok (Reply y)) (some_is h o (sym there ∙ ap (held_by s) (sym same) ∙ holds)))
    | inr apart ↦ inr (other_set s.tickets k n o apart holds)
  ]

  pub stays_or_fetched : (s s' : State) (f : Bool) → Takes s x f r s' → held_by s n ≡ Some o → ((x ≡ step.Fetch n) × (r ≡ Ok (Reply o))) ⊎ (held_by s' n ≡ Some o)
  stays_or_fetched s s' f takes =
      by_changes x r Kept Kept (λ s holds. inr holds) (λ s s' kept. kept)
      (λ s m s' i on is kept holds. kept (ap (λ (ts : List (Option replies.Reply)). option_and_then (λ y. y) (slice_get ts n)) (settled_tickets (slot_doubt s i) s m i is) ∙ holds))
      (λ s q t is calm r holds. inr holds) (λ s q t is calm r holds. inr (more s.tickets _ n o holds)) (λ s q t is calm some o r holds. inr holds)
      fetched (λ s i middle calm allowed r holds. inr holds) (λ s account which key old is there r holds. inr holds) s s' f takes

-- in a run without a Fetch of the ticket it holds what it held
pub holds_on : (n : ℕ) (o : replies.Reply) (steps : List Step) (answers : List Answer) (s s' : State) (before after : ℕ) → IsRun s before steps answers s' after
    → All (λ x. x ≢ step.Fetch n) steps → held_by s n ≡ Some o → held_by s' n ≡ Some o
holds_on n o [] [] s s' before after run none holds = ap (λ (x : State). held_by x n) run.0 ∙ holds
holds_on n o [] (r ∷ rs) s s' before after run none holds = absurd run
holds_on n o (x ∷ xs) [] s s' before after run none holds = absurd run
holds_on n o (x ∷ xs) (r ∷ rs) s s' before after run none holds =
    holds_on n o xs rs run.0 s' run.1.0 after run.1.1.1.1 (All-tail (λ (x : Step). x ≢ step.Fetch n) x xs none)
    (elim (stays_or_fetched x r n o s run.0 (nat_lt before run.1.0) run.1.1.1.0 holds) [
      | inl p ↦ absurd (All-head (λ (x : Step). x ≢ step.Fetch n) x xs none p.0)
      | inr kept ↦ kept
    ])

abbrev is_later : Answer → Bool
is_later (Ok (Later k)) = true
is_later other = false

abbrev number_of : Answer → ℕ
number_of (Ok (Later k)) = k
number_of other = 0

pub later_reply : (a : Answer) (n : ℕ) (r : replies.Reply) → a ≡ Ok (Later n) → a ≡ Ok (Reply r) → ⊥
later_reply a n r is other = true_false (sym (ap is_later is) ∙ ap is_later other)

pub later_fault : (a : Answer) (n : ℕ) (e : StepFault) → a ≡ Ok (Later n) → a ≡ Err e → ⊥
later_fault a n e is other = true_false (sym (ap is_later is) ∙ ap is_later other)

pub later_is : (a : Answer) (n m : ℕ) → a ≡ Ok (Later n) → a ≡ Ok (Later m) → n ≡ m
later_is a n m is same = sym (ap number_of is) ∙ ap number_of same

abbrev is_reply : Answer → Bool
is_reply (Ok (Reply r)) = true
is_reply other = false

abbrev reply_of : Answer → Option replies.Reply
reply_of (Ok (Reply r)) = Some r
reply_of other = None

pub reply_fault : (a : Answer) (r : replies.Reply) (e : StepFault) → a ≡ Ok (Reply r) → a ≡ Err e → ⊥
reply_fault a r e is other = true_false (sym (ap is_reply is) ∙ ap is_reply other)

pub reply_is : (a : Answer) (r o : replies.Reply) → a ≡ Ok (Reply r) → a ≡ Ok (Reply o) → r ≡ o
reply_is a r o is same = some_is r o (sym (ap reply_of is) ∙ ap reply_of same)

-- a ticket that a Serve gives holds the model's reply
pub given : (s s' : State) (q : Asked) (t : ℕ) (f : Bool) (n : ℕ) → Takes s (step.Serve q t) f (Ok (Later n)) s'
    → (m : State) × (SettlesDoubt s (slot_for s q) m × (held_by s' n ≡ Some (reply_in m q t)))
given s s' q t f n takes = elim (served_first s s' q t f (Ok (Later n)) takes) [
  | inl failed ↦ absurd (elim failed [ inl p ↦ later_reply (Ok (Later n)) n busy refl p.1 | inr p ↦ later_fault (Ok (Later n)) n fault.NoMemory refl p ])
  | inr p ↦ elim p.1.1 [
    | inl made ↦ absurd (later_reply (Ok (Later n)) n (reply_in p.0 q t) refl made.0)
    | inr rest ↦ elim rest [
      | inl made ↦ (
        p.0,
        (
          p.1.0,
          (λ i. held_by (made.1 i) (later_is (Ok (Later n)) n (length p.0.tickets) refl made.0 i)) ∙ the_last p.0.tickets (reply_in p.0 q t),
        ),
      )
      | inr made ↦ absurd (later_reply (Ok (Later n)) n _ refl made.1.1.0)
    ]
  ]
]

-- a ticket is fetched with the reply that it holds, or the fetch fails and it goes on to hold it
pub fetched_is : (h : Option replies.Reply) (s s' : State) (n : ℕ) (f : Bool) (r : Answer) (o : replies.Reply) → h ≡ Some o → FetchesBy h s n f r s' → (r ≡ Ok (Reply o)) ⊎ (Fails (step.Fetch n) f r × (s' ≡ s))
fetched_is None s s' n f r o is p = absurd (none_some o is)
fetched_is (Some h) s s' n f r o is (inl p) = inl (p.0 ∙ ap (λ (y : replies.Reply). Ok (Reply y)) (some_is h o is))
fetched_is (Some h) s s' n f r o is (inr p) = inr p
