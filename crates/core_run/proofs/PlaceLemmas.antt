-- The places of answers in the history, and runs that are cut.
use Rattle.std.proofs.Common.{◌≡◌, inl, inr, ℕ, Bool, List, [], ◌∷◌, ◌++◌, length, Some, None, refl, sym, ap, ◌∙◌, subst, arith}
use Rattle.std.proofs.lemmas.List.{append_assoc}
use Rattle.stamp_types.specs.declared.reply.Reply as replies
use Rattle.stamp_types.specs.Requests.{Asked}
use Rattle.partition_map.specs.Spans.{bound_at}
use Rattle.stamp_model.specs.Runs.{IsAdmitted, Timed, world_after_all}
use Rattle.stamp_model.specs.SeenContainers.{routed}
use Rattle.stamp_model.proofs.ReplyLemmas.{reply-admits}
use Rattle.slot_state.specs.Pairs.{current_at}
use Rattle.core_run.specs.declared.step.Step.{Step}
use Rattle.core_run.specs.declared.step.Step.TheVariants as step
use Rattle.core_run.specs.Machine.{Answer, IsRun, SettlesDoubt, Takes}
use Rattle.core_run.specs.Places.{GivesReply, HasPlace}
use Rattle.core_run.specs.States.{State, Turn, slot_doubt, held_by, reply_in, requests, served, slot_for, timed_in}
use Rattle.core_run.proofs.DoubtLemmas.{served_first}
use Rattle.core_run.proofs.FaultLemmas.{first_named}
use Rattle.core_run.proofs.HistoryLemmas.{leads_so, model_at, run_leads, settle_leads}
use Rattle.core_run.proofs.StepLemmas.{settled_pairs, settled_points}
use Rattle.core_run.proofs.TicketLemmas.{the_last}
use Rattle.core_run.proofs.Values.{some_is, true_false}

-- ---- one Serve

-- the request is served in the same way after a settle
pub same_timed : (s m : State) (i : ℕ) (q : Asked) (t : ℕ) → SettlesDoubt s i m → timed_in m q t ≡ timed_in s q t
same_timed s m i q t is =
    λ j. record { request = q; moment = t; keys = current_at (settled_pairs (slot_doubt s i) s m i is j) q.ask.key.account; bound = bound_at (settled_points (slot_doubt s i) s m i is j) (routed q) }

-- a Serve that gives a reply: after a settle it is the model's, and it is the last one of the history
pub record IsGiven (s m s' : State) (q : Asked) (t : ℕ) (o : replies.Reply) : Type 0 where
  pub settled : SettlesDoubt s (slot_for s q) m
  pub reply : o ≡ reply_in m q t
  pub history : s'.history ≡ m.history ++ record { served = timed_in m q t; reply = Some o } ∷ []

given_by : (s m s' : State) (q : Asked) (t : ℕ) (o : replies.Reply) → SettlesDoubt s (slot_for s q) m → o ≡ reply_in m q t → s'.history ≡ (served m q t).history → IsGiven s m s' q t o
given_by s m s' q t o settled is history = record {
  settled = settled;
  reply = is;
  history = history ∙ ap (λ (r : replies.Reply). m.history ++ record { served = timed_in m q t; reply = Some r } ∷ []) (sym is);
}

pub given : (s s' : State) (q : Asked) (t : ℕ) (f : Bool) (a : Answer) (o : replies.Reply) → Takes s (step.Serve q t) f a s' → GivesReply a s' o → (m : State) × IsGiven s m s' q t o
given s s' q t f a o takes gives = elim (served_first s s' q t f a takes) [
  | inl failed ↦ elim failed [
    | inl p ↦ absurd (true_false (subst (λ (a : Answer). GivesReply a s' o) p.1 gives).0)
    | inr p ↦ absurd (subst (λ (a : Answer). GivesReply a s' o) p gives)
  ]
  | inr p ↦ elim p.1.1 [
    | inl made ↦ (p.0, given_by s p.0 s' q t o p.1.0 (subst (λ (a : Answer). GivesReply a s' o) made.0 gives).1 (λ j. (made.1 j).history))
    | inr rest ↦ elim rest [
      | inl made ↦ (
        p.0,
        given_by s p.0 s' q t o p.1.0
            (some_is o (reply_in p.0 q t) (sym (subst (λ (a : Answer). GivesReply a s' o) made.0 gives) ∙ ap (λ (x : State). held_by x (length p.0.tickets)) made.1 ∙ the_last p.0.tickets (reply_in p.0 q t)))
            (λ j. (made.1 j).history),
      )
      | inr made ↦ absurd (true_false (subst (λ (a : Answer). GivesReply a s' o) made.1.1.0 gives).0)
    ]
  ]
]

-- what the history has more after a Serve that gives a reply
serve_turns : (s s' : State) (q : Asked) (t : ℕ) (f : Bool) (a : Answer) (o : replies.Reply) → Takes s (step.Serve q t) f a s' → GivesReply a s' o
    → (us : List Turn) × (s'.history ≡ s.history ++ (us ++ record { served = timed_in s q t; reply = Some o } ∷ []))
serve_turns s s' q t f a o takes gives =
    let is = given s s' q t f a o takes gives in
    let before = settle_leads (slot_doubt s (slot_for s q)) s is.0 (slot_for s q) is.1.settled in (
      before.0,
      is.1.history
          ∙ (λ j. before.1.history j ++ record { served = same_timed s is.0 (slot_for s q) q t is.1.settled j; reply = Some o } ∷ [])
          ∙ append_assoc s.history before.0 (record { served = timed_in s q t; reply = Some o } ∷ []),
    )

-- a request with a reply that names no rule was admitted, as its slot was after the settle
pub admitted : (s s' : State) (q : Asked) (t : ℕ) (f : Bool) (a : Answer) (o : replies.Reply) → Takes s (step.Serve q t) f a s' → GivesReply a s' o → o.rule ≡ None
    → (m : State) × (SettlesDoubt s (slot_for s q) m × IsAdmitted m.world (timed_in s q t))
admitted s s' q t f a o takes gives none =
    let is = given s s' q t f a o takes gives in (
      is.0,
      (
        is.1.settled,
        subst (λ (r : Timed). IsAdmitted is.0.world r) (same_timed s is.0 (slot_for s q) q t is.1.settled)
            (reply-admits (timed_in is.0 q t).keys is.0.world q t (timed_in is.0 q t).bound (ap (λ (r : replies.Reply). r.rule) (sym is.1.reply) ∙ none)),
      ),
    )

-- ---- runs that are cut

pub cut : (xs ys : List Step) (rs ss : List Answer) (s s' : State) (before after : ℕ) → length rs ≡ length xs → IsRun s before (xs ++ ys) (rs ++ ss) s' after
    → (m : State) × ((n : ℕ) × (IsRun s before xs rs m n × IsRun m n ys ss s' after))
cut [] ys [] ss s s' before after same run = (s, (before, ((refl, refl), run)))
cut [] ys (r ∷ rs) ss s s' before after same run = absurd (omega (arith, same))
cut (x ∷ xs) ys [] ss s s' before after same run = absurd (omega (arith, same))
cut (x ∷ xs) ys (r ∷ rs) ss s s' before after same run =
    let rest = cut xs ys rs ss run.0 s' run.1.0 after (omega (arith, same)) run.1.1.1.1 in
    (rest.0, (rest.1.0, ((run.0, (run.1.0, (run.1.1.0, (run.1.1.1.0, rest.1.1.0)))), rest.1.1.1)))

pub join : (xs ys : List Step) (rs ss : List Answer) (s m s' : State) (before n after : ℕ) → IsRun s before xs rs m n → IsRun m n ys ss s' after → IsRun s before (xs ++ ys) (rs ++ ss) s' after
join [] ys [] ss s m s' before n after first then =
    subst (λ (x : State). IsRun x before ys ss s' after) first.0 (subst (λ (k : ℕ). IsRun m k ys ss s' after) first.1 then)
join [] ys (r ∷ rs) ss s m s' before n after first then = absurd first
join (x ∷ xs) ys [] ss s m s' before n after first then = absurd first
join (x ∷ xs) ys (r ∷ rs) ss s m s' before n after first then =
    (first.0, (first.1.0, (first.1.1.0, (first.1.1.1.0, join xs ys rs ss first.0 m s' first.1.0 n after first.1.1.1.1 then))))

-- ---- an answer of a run

-- four lists, joined in another way
regroup : (h us vs ws : List Turn) (u : Turn) → ((h ++ us) ++ (vs ++ u ∷ [])) ++ ws ≡ h ++ ((us ++ vs) ++ u ∷ ws)
regroup h us vs ws u =
    append_assoc (h ++ us) (vs ++ u ∷ []) ws
    ∙ append_assoc h us ((vs ++ u ∷ []) ++ ws)
    ∙ ap (λ (xs : List Turn). h ++ (us ++ xs)) (append_assoc vs (u ∷ []) ws)
    ∙ ap (λ (xs : List Turn). h ++ xs) (sym (append_assoc us vs (u ∷ ws)))

-- a run and then a Serve that gives a reply: the Serve's turn is the last one of the history
pub turn_at : (xs : List Step) (rs : List Answer) (s m m' : State) (before n k : ℕ) (q : Asked) (t : ℕ) (a : Answer) (o : replies.Reply)
    → IsRun s before xs rs m n → IsRun m n (step.Serve q t ∷ []) (a ∷ []) m' k → GivesReply a m' o
    → (us : List Turn) × (m'.history ≡ s.history ++ (us ++ record { served = timed_in m q t; reply = Some o } ∷ []))
turn_at xs rs s m m' before n k q t a o first serve gives =
    let led = run_leads xs rs s m before n first in
    let same : m' ≡ serve.0 = serve.1.1.1.1.0 in
    let turns = serve_turns m serve.0 q t _ a o serve.1.1.1.0 (subst (λ (x : State). GivesReply a x o) same gives) in
    let now : Turn = record { served = timed_in m q t; reply = Some o } in (
      led.0 ++ turns.0,
      (λ j. (same j).history) ∙ turns.1 ∙ (λ j. led.1.history j ++ (turns.0 ++ now ∷ []))
          ∙ append_assoc s.history led.0 (turns.0 ++ now ∷ [])
          ∙ ap (λ (us : List Turn). s.history ++ us) (sym (append_assoc led.0 turns.0 (now ∷ []))),
    )

-- lists that are joined after two turns
after_two : (h us vs ws : List Turn) (u v : Turn) → ((h ++ (us ++ u ∷ [])) ++ (vs ++ v ∷ [])) ++ ws ≡ h ++ (us ++ u ∷ (vs ++ v ∷ ws))
after_two h us vs ws u v =
    append_assoc (h ++ (us ++ u ∷ [])) (vs ++ v ∷ []) ws
    ∙ append_assoc h (us ++ u ∷ []) ((vs ++ v ∷ []) ++ ws)
    ∙ ap (λ (xs : List Turn). h ++ xs) (append_assoc us (u ∷ []) ((vs ++ v ∷ []) ++ ws) ∙ ap (λ (xs : List Turn). us ++ u ∷ xs) (append_assoc vs (v ∷ []) ws))

-- of two Serves the later one's turn comes after the earlier one's
pub in_order : (s m m' n n' s' : State) (before a b c d after : ℕ) (xs ys zs : List Step) (rs ss ts : List Answer) (q q' : Asked) (t t' : ℕ) (r r' : Answer) (o o' : replies.Reply)
    → IsRun s before xs rs m a → IsRun m a (step.Serve q t ∷ []) (r ∷ []) m' b → GivesReply r m' o → IsRun m' b ys ss n c
    → IsRun n c (step.Serve q' t' ∷ []) (r' ∷ []) n' d → GivesReply r' n' o' → IsRun n' d zs ts s' after
    → (front : List Turn) × ((middle : List Turn) × ((rest : List Turn)
    × (s'.history ≡ s.history ++ (front ++ record { served = timed_in m q t; reply = Some o } ∷ (middle ++ record { served = timed_in n q' t'; reply = Some o' } ∷ rest)))))
in_order s m m' n n' s' before a b c d after xs ys zs rs ss ts q q' t t' r r' o o' first serve gives between later gives' last =
    let one = turn_at xs rs s m m' before a b q t r o first serve gives in
    let two = turn_at ys ss m' n n' b c d q' t' r' o' between later gives' in
    let rest = run_leads zs ts n' s' d after last in
    let u : Turn = record { served = timed_in m q t; reply = Some o } in
    let v : Turn = record { served = timed_in n q' t'; reply = Some o' } in (
      one.0,
      (
        two.0,
        (
          rest.0,
          rest.1.history
              ∙ ap (λ (h : List Turn). h ++ rest.0) (two.1 ∙ ap (λ (h : List Turn). h ++ (two.0 ++ v ∷ [])) one.1)
              ∙ after_two s.history one.0 two.0 rest.0 u v,
        ),
      ),
    )

pub has_place : (xs ys : List Step) (rs ss : List Answer) (s m m' s' : State) (before n k after : ℕ) (q : Asked) (t : ℕ) (a : Answer) (o : replies.Reply)
    → IsRun s before xs rs m n → IsRun m n (step.Serve q t ∷ []) (a ∷ []) m' k → IsRun m' k ys ss s' after → GivesReply a m' o → HasPlace s s' (timed_in m q t) o
has_place xs ys rs ss s m m' s' before n k after q t a o first serve then gives =
    let led = run_leads xs rs s m before n first in
    let later = run_leads ys ss m' s' k after then in
    let takes = serve.1.1.1.0 in
    let same : m' ≡ serve.0 = serve.1.1.1.1.0 in
    let turns = serve_turns m serve.0 q t _ a o takes (subst (λ (x : State). GivesReply a x o) same gives) in
    let now : Turn = record { served = timed_in m q t; reply = Some o } in
    let history : s'.history ≡ s.history ++ ((led.0 ++ turns.0) ++ now ∷ later.0) =
    later.1.history ∙ (λ j. (same j).history ++ later.0) ∙ ap (λ (h : List Turn). h ++ later.0) (turns.1 ∙ (λ j. led.1.history j ++ (turns.0 ++ now ∷ []))) ∙ regroup s.history led.0 turns.0 later.0 now in
    let whole = join xs (step.Serve q t ∷ ys) rs (a ∷ ss) s m s' before n after first (join (step.Serve q t ∷ []) ys (a ∷ []) ss m m' s' n k after serve then) in
    let all = leads_so (xs ++ step.Serve q t ∷ ys) (rs ++ a ∷ ss) s s' before after ((led.0 ++ turns.0) ++ now ∷ later.0) whole history in
    let reply = model_at s.world (led.0 ++ turns.0) now later.0 o all.replies refl in
    record {
      front = led.0 ++ turns.0;
      rest = later.0;
      history = history;
      reply = reply;
      rule = ap (λ (r : replies.Reply). r.rule) reply ∙ first_named (world_after_all s.world (requests (led.0 ++ turns.0))) (timed_in m q t);
    }
