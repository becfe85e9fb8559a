-- What a caller knows of an answer after what the caller was shown.
use Rattle.std.proofs.Common.{◌≡◌, ◌≢◌, ◌⊎◌, inl, inr, ℕ, Bool, true, false, cond, ◌&&◌, All, List, [], ◌∷◌, ◌++◌, Option, Some, None, unwrap_or, refl, sym, ap, ◌∙◌, subst, if◌then◌else◌, is_some}
use Rattle.std.proofs.lemmas.List.{append-nil, append_assoc}
use Rattle.std.proofs.lemmas.List.Elements.{All-head, All-tail, All-nil, All-cons}
use Rattle.std.specs.Prelude.{IsSome}
use Rattle.std.specs.Option.{option_map, option_or}
use Rattle.std.specs.Ordering.{eq_by_cmp}
use Rattle.std.specs.Cmp.{eq_by_cmp_equiv}
use Rattle.std.specs.FinMap as finite
use Rattle.std.specs.FinMap.{get, get-insert}
use mathlib.Core.List.{IsPrefix}
use Rattle.extent_node.specs.Faults.{Calls}
use Rattle.stamp_values.specs.Operations.{names_container}
use Rattle.stamp_values.specs.Order.{key_cmp, keys_total}
use Rattle.stamp_values.specs.declared.acl.Acl.{Acl}
use Rattle.stamp_values.specs.declared.key.Key.{Key}
use Rattle.stamp_values.specs.declared.signing.Credential.TheVariants.{Token}
use Rattle.stamp_types.specs.declared.past.Past.{Past}
use Rattle.stamp_types.specs.declared.refusal.Refusal.{Refusal}
use Rattle.stamp_types.specs.declared.reply.Reply.{Reply}
use Rattle.stamp_types.specs.declared.rule.Rule.{Rule}
use Rattle.stamp_types.specs.Changes.{KeyedAct}
use Rattle.stamp_types.specs.Replies.{denied}
use Rattle.stamp_types.specs.Requests.{Asked}
use Rattle.stamp_types.specs.World.{Part, World, no_part, part_at}
use Rattle.sas_token.specs.Tokens.{IsToken, Sent}
use Rattle.access_rules.specs.declared.keys.Keys.{Keys}
use Rattle.access_rules.specs.Routes.{Admits}
use Rattle.access_rules.specs.Rules.{first_rule}
use Rattle.row_trees.specs.Access.{acl_of}
use Rattle.range_rows.specs.ObjectRules.{object_refusal}
use Rattle.range_rows.specs.SentContent.{sizes}
use Rattle.range_rows.specs.RequestChanges.{change_of}
use Rattle.stamp_model.specs.AcceptedRequests.{is_on}
use Rattle.stamp_model.specs.Effects.{change, unless_refused}
use Rattle.stamp_model.specs.Histories.{IsLegal, replay}
use Rattle.stamp_model.specs.Refusals.{access_refusal, refusal}
use Rattle.stamp_model.specs.Responses.{own_answer, reply, response}
use Rattle.stamp_model.specs.SeenContainers.{is_between, is_in_account, is_seen, routed}
use Rattle.stamp_model.specs.Withdrawals.{gives_policy, is_before_fields, withdraws_policy}
use Rattle.stamp_model.proofs.HistoryLemmas.{IsLegalFrom-front}
use Rattle.stamp_model.proofs.PolicyLemmas.{refused-withdrawn}
use Rattle.stamp_model.proofs.ReplyLemmas.{reply-admits, reply-own}
use Rattle.tickets.specs.declared.answer.Answer.{Answer}
use Rattle.tickets.specs.declared.answer.Answer.TheVariants as answer
use Rattle.slot_state.specs.HistoryMaps.{Histories, history_at}
use Rattle.slot_state.specs.Pairs.{Pairs, current_at, in_force, pairs_at}
use Rattle.slot_state.specs.Slots.{AgreesFor, IsReplyFor, IsServed, SlotState, change_now, histories_after, replayed_at}
use Rattle.slot_state.proofs.MapLemmas.{tied}
use Rattle.stamp_types.specs.declared.rule.Rule.TheVariants as rules
use Rattle.slot_pass.specs.After.{ServesOrNot}
use Rattle.stored_slot.specs.Served.{FailsAnswer, Faulted, ServesBy, busy, unknown}
use Rattle.stored_slot.specs.Settled.{SettlesDoubtBy, SettlesSlot}
use Rattle.slot_pass.specs.Calls.{AdmitsBy, AnswersAfter, IsAdmittedBy, IsTokenDenial, IsTokenDenied, MeetsIfServed, MetHistory, history_with}
use Rattle.slot_pass.specs.Passes.{IsOrder, IsShown, PassState}
use Rattle.slot_pass.specs.declared.meeting.Order.{Order}
use Rattle.slot_pass.specs.declared.meeting.Order.TheVariants as order
use Rattle.slot_pass.proofs.AfterLemmas.{after_is, longer_served, longer_settled}

-- ---- a world with one container

own_by : {X : Type 0} (o p : Option X) (b : Bool) → b ≡ true → cond b p o ≡ p
own_by o p true tie = refl
own_by o p false tie = cc

chosen_by : (named x y : Bool) → named ≡ true → (if named then x else y) ≡ x
chosen_by true x y is = refl
chosen_by false x y is = cc

module _ (pairs : Pairs) (h : Histories) (q : Asked) (t : ℕ) (bound : Option Key) (names : names_container q.ask.op ≡ true) where
  abbrev own : Part (List ℕ)
  own = replayed_at pairs h q.ask.key

  abbrev world : World (List ℕ)
  world = finite.insert finite.empty q.ask.key own

  own_part : part_at world q.ask.key ≡ own
  own_part =
      ap (λ (o : Option (Part (List ℕ))). unwrap_or o no_part)
      (get-insert keys_total finite.empty q.ask.key own q.ask.key ∙ own_by (get finite.empty q.ask.key) (Some own) (eq_by_cmp key_cmp q.ask.key q.ask.key) ((eq_by_cmp_equiv keys_total).refl q.ask.key))

  agrees : AgreesFor pairs h q bound world
  agrees key seen =
      let tie : eq_by_cmp key_cmp key q.ask.key ≡ true = sym (chosen_by (names_container q.ask.op) (is_on key q) (is_in_account key q && is_between (routed q) bound key) names) ∙ seen in
      subst (λ (k : Key). part_at world k ≡ replayed_at pairs h k) (sym (tied key q.ask.key tie)) own_part

  abbrev keys : Option Keys
  keys = current_at pairs q.ask.key.account

  -- the reply of the model
  replied : (r : Reply) → IsReplyFor pairs h q t bound r → r ≡ reply keys world q t bound
  replied r is = is world agrees

  -- a request that is refused
  pub refused_reply : (r : Reply) (refused : Refusal) → refusal keys (sizes own) q t ≡ Some refused → IsReplyFor pairs h q t bound r → r ≡ denied refused
  refused_reply r refused has is =
      replied r is ∙ (reply-own keys world q t bound names
      ∙ (ap (λ (p : Part (List ℕ)). response (refusal keys (sizes p) q t) (own_answer (change keys p q t) q)) own_part
      ∙ ap (λ (o : Option Refusal). response o (own_answer (change keys own q t) q)) has))

  -- a request that is not refused
  pub admitted_reply : (r : Reply) → r.rule ≡ None → IsReplyFor pairs h q t bound r → (acl : Option Acl) × Admits keys acl q.ask.credential q.ask t
  admitted_reply r none is = (acl_of (part_at world q.ask.key), reply-admits keys world q t bound (ap (λ (x : Reply). x.rule) (sym (replied r is)) ∙ none))

-- ---- a request that permission refuses

none_for : (o : Option Refusal) (refused : Refusal) (c : Option KeyedAct) → o ≡ Some refused → IsSome (unless_refused o c) → ⊥
none_for None refused c has some = absurd (cc has)
none_for (Some r) refused c has some = cc some

module _ (m s' : SlotState) (q : Asked) (t : ℕ) (F : Type 0) (names : names_container q.ask.op ≡ true) (rule : Rule) (before : is_before_fields rule ≡ true)
    (has : refusal (current_at m.pairs q.ask.key.account) (sizes (replayed_at m.pairs m.histories q.ask.key)) q t ≡ Some (access_refusal rule)) where
  denied_by : (r : Reply) → IsServed m q t m.to r s' → IsTokenDenial r
  denied_by r served = (rule, (before, refused_reply m.pairs m.histories q t m.to names r (access_refusal rule) has served.reply))

  pub denied_at : (a : Answer) → ServesBy m q t F a s' → IsTokenDenied a
  denied_at (answer.Done r) (inl served) = inl (denied_by r served)
  denied_at (answer.Done r) (inr (inl failed)) = inr failed.1.0
  denied_at (answer.Done r) (inr (inr doubt)) =
      absurd (none_for (refusal (current_at m.pairs q.ask.key.account) (sizes (replayed_at m.pairs m.histories q.ask.key)) q t) (access_refusal rule)
      (change_of (sizes (replayed_at m.pairs m.histories q.ask.key)) q t) has doubt.1.0)
  denied_at (answer.Later r) served = denied_by r served.0
  denied_at answer.NoMemory same = tt

-- ---- what the pass had is in the history that the request met

module _ {X : Type 0} (P : X → Type 0) where
  all_first : (xs ys : List X) → All P (xs ++ ys) → All P xs
  all_first [] ys all = All-nil P
  all_first (x ∷ xs) ys all = All-cons P x xs (All-head P x (xs ++ ys) all) (all_first xs ys (All-tail P x (xs ++ ys) all))

same_rest : {X : Type 0} (front : List X) (x : X) (xs ys : List X) → front ++ x ∷ xs ≡ front ++ x ∷ ys → xs ≡ ys
same_rest [] x xs ys h = cc
same_rest (z ∷ front) x xs ys h = same_rest front x xs ys (cc h)

prefix_then : {X : Type 0} (xs ys zs : List X) → IsPrefix xs ys → IsPrefix ys zs → IsPrefix xs zs
prefix_then {X} xs ys zs p q = (p.0 ++ q.0, sym (append_assoc xs p.0 q.0) ∙ (ap (λ (l : List X). l ++ q.0) p.1 ∙ q.1))

module _ (pairs : List Keys) (key : Key) (keys : Option Keys) (q : Asked) (t : ℕ) (had met has front rest later : List Past) (e : Past) (id : List ℕ) (token : Sent)
    (first : IsPrefix had met) (then_first : IsPrefix met has) (legal : IsLegal pairs key has) (had_is : had ≡ front ++ e ∷ rest) (withdraws : withdraws_policy id e.request ≡ true)
    (has_is : has ≡ front ++ e ∷ later) (none : All (λ l. gives_policy id l.request ≡ false) later)
    (asks : q.ask.credential ≡ Token) (reads : IsToken q.ask.signing.query token) (named : token.id ≡ id) (some : id ≢ []) where
  abbrev met_rest : List Past
  met_rest = rest ++ first.0

  met_is : met ≡ front ++ e ∷ met_rest
  met_is = sym first.1 ∙ (ap (λ (l : List Past). l ++ first.0) had_is ∙ append_assoc front (e ∷ rest) first.0)

  later_is : met_rest ++ then_first.0 ≡ later
  later_is = same_rest front e (met_rest ++ then_first.0) later (sym (append_assoc front (e ∷ met_rest) then_first.0) ∙ (ap (λ (l : List Past). l ++ then_first.0) (sym met_is) ∙ (then_first.1 ∙ has_is)))

  none_met : All (λ l. gives_policy id l.request ≡ false) met_rest
  none_met = all_first (λ (l : Past). gives_policy id l.request ≡ false) met_rest then_first.0 (subst (λ (l : List Past). All (λ (x : Past). gives_policy id x.request ≡ false) l) (sym later_is) none)

  legal_met : IsLegal pairs key met
  legal_met = IsLegalFrom-front pairs key no_part met then_first.0 (subst (λ (l : List Past). IsLegal pairs key l) (sym then_first.1) legal)

  pub refused_met : (rule : Rule) × ((is_before_fields rule ≡ true) × (refusal keys (sizes (replay pairs met)) q t ≡ Some (access_refusal rule)))
  refused_met =
      let found = refused-withdrawn pairs key front met_rest e id (subst (λ (l : List Past). IsLegal pairs key l) met_is legal_met) withdraws none_met keys q.ask t token asks reads named some in (
        found.0,
        (
          found.1,
          ap (λ (l : List Past). refusal keys (sizes (replay pairs l)) q t) met_is
              ∙ ap (λ (o : Option Rule). option_or (option_map access_refusal o) (object_refusal (sizes (replay pairs (front ++ e ∷ met_rest))) q)) found.2,
        ),
      )

-- ---- the laws

failed_denied : (F : Type 0) (a : Answer) → FailsAnswer F a → IsTokenDenied a
failed_denied F (answer.Done r) failed = inr failed.1
failed_denied F (answer.Later r) failed = absurd failed
failed_denied F answer.NoMemory failed = tt

not_none : (o : Option Rule) (x : Rule) → o ≡ Some x → o ≡ None → ⊥
not_none o x has none = cc (has, none)

module _ (p after : PassState) (s next : SlotState) (q : Asked) (t : ℕ) (old new : Calls) (a : Answer) (answers : AnswersAfter p s q t old new a after next) (names : names_container q.ask.op ≡ true) where
  abbrev key : Key
  key = q.ask.key

  after_front : after.front ≡ history_at next.histories key
  after_front = ap (λ (x : PassState). x.front) answers.holds ∙ ap (λ (k : Key). history_at next.histories k) (sym answers.names)

  after_pairs : after.pairs ≡ pairs_at next.pairs key.account
  after_pairs = ap (λ (x : PassState). x.pairs) answers.holds ∙ ap (λ (k : Key). pairs_at next.pairs k.account) (sym answers.names)

  after_key : after.key ≡ key
  after_key = ap (λ (x : PassState). x.key) answers.holds ∙ sym answers.names

  had_first : IsPrefix p.front (history_at s.histories key)
  had_first = subst (λ (k : Key). IsPrefix p.front (history_at s.histories k)) (sym answers.names) answers.begins.front

  module _ (m : SlotState) (settles : SettlesSlot s m) (serves : ServesBy m q t (Faulted old new) a next) where
    pairs_met : after.pairs ≡ pairs_at m.pairs key.account
    pairs_met = after_pairs ∙ ap (λ (x : Pairs). pairs_at x key.account) (longer_served m next q t (Faulted old new) key a serves).1

    admitted_by : (r : Reply) → IsServed m q t m.to r next → IsAdmittedBy after q t r
    admitted_by r served none =
        let found = admitted_reply m.pairs m.histories q t m.to names r none served.reply in
        (found.0, subst (λ (ks : List Keys). Admits (in_force ks) found.0 q.ask.credential q.ask t) (sym pairs_met) found.1)

  admitted_at : (m : SlotState) (b : Answer) → SettlesSlot s m → ServesBy m q t (Faulted old new) a next → b ≡ a → ServesBy m q t (Faulted old new) b next → AdmitsBy after q t b
  admitted_at m (answer.Done r) settles serves is (inl served) = admitted_by m settles serves r served
  admitted_at m (answer.Done r) settles serves is (inr (inl failed)) = λ none. absurd (not_none r.rule rules.N1 (ap (λ (x : Reply). x.rule) failed.1.0) none)
  admitted_at m (answer.Done r) settles serves is (inr (inr doubt)) = λ none. absurd (not_none r.rule rules.N2 (ap (λ (x : Reply). x.rule) doubt.1.1.0) none)
  admitted_at m (answer.Later r) settles serves is served = admitted_by m settles serves r served.0
  admitted_at m answer.NoMemory settles serves is same = tt

  admitted_failed : (b : Answer) → FailsAnswer (Faulted old new) b → AdmitsBy after q t b
  admitted_failed (answer.Done r) failed = λ none. absurd (not_none r.rule rules.N1 (ap (λ (x : Reply). x.rule) failed.1) none)
  admitted_failed (answer.Later r) failed = absurd failed
  admitted_failed answer.NoMemory failed = tt

  admitted_as : ServesOrNot s q t (Faulted old new) a next → AdmitsBy after q t a
  admitted_as (inl (inl served)) = admitted_at served.0 a served.1.0 served.1.1 refl served.1.1
  admitted_as (inl (inr failed)) = admitted_failed a failed.1.0
  admitted_as (inr none) = subst (λ (b : Answer). AdmitsBy after q t b) (sym none.0) tt

  pub admitted : AdmitsBy after q t a
  admitted = admitted_as answers.answered

  module _ (front rest later : List Past) (e : Past) (id : List ℕ) (shown : IsShown after.pairs after.key after.front) (had : p.front ≡ front ++ e ∷ rest) (withdraws : withdraws_policy id e.request ≡ true)
      (has : after.front ≡ front ++ e ∷ later) (none : All (λ l. gives_policy id l.request ≡ false) later)
      (token : Sent) (asks : q.ask.credential ≡ Token) (reads : IsToken q.ask.signing.query token) (named : token.id ≡ id) (some : id ≢ []) where
    served_denied : (m : SlotState) → SettlesSlot s m → ServesBy m q t (Faulted old new) a next → IsTokenDenied a
    served_denied m settles serves =
        let first = longer_settled s.doubt s m key settles in
        let then_first = longer_served m next q t (Faulted old new) key a serves in
        let legal_key = subst (λ (k : Key). IsLegal after.pairs k after.front) after_key shown.legal in
        let legal = subst (λ (ks : List Keys). IsLegal ks key after.front) (pairs_met m settles serves) legal_key in
        let met_first = subst (λ (l : List Past). IsPrefix (history_at m.histories key) l) (sym after_front) then_first.0 in
        let found = refused_met (pairs_at m.pairs key.account) key (current_at m.pairs key.account) q t p.front (history_at m.histories key) after.front front rest later e id token
        (prefix_then p.front (history_at s.histories key) (history_at m.histories key) had_first first.0) met_first legal had withdraws has none asks reads named some in
        denied_at m next q t (Faulted old new) names found.0 found.1.0 found.1.1 a serves

    denied_as : ServesOrNot s q t (Faulted old new) a next → IsTokenDenied a
    denied_as (inl (inl served)) = served_denied served.0 served.1.0 served.1.1
    denied_as (inl (inr failed)) = failed_denied (Faulted old new) a failed.1.0
    denied_as (inr none) = subst (λ (b : Answer). IsTokenDenied b) (sym none.0) tt

    pub denied_shown : IsTokenDenied a
    denied_shown = denied_as answers.answered

-- ---- the changes of two passes

module _ (p after : PassState) (s next : SlotState) (q : Asked) (t : ℕ) (old new : Calls) (a : Answer) (answers : AnswersAfter p s q t old new a after next) where
  abbrev own_key : Key
  own_key = q.ask.key

  now_front : after.front ≡ history_at next.histories own_key
  now_front = ap (λ (x : PassState). x.front) answers.holds ∙ ap (λ (k : Key). history_at next.histories k) (sym answers.names)

  now_pairs : after.pairs ≡ pairs_at next.pairs own_key.account
  now_pairs = ap (λ (x : PassState). x.pairs) answers.holds ∙ ap (λ (k : Key). pairs_at next.pairs k.account) (sym answers.names)

  was_first : IsPrefix p.front (history_at s.histories own_key)
  was_first = subst (λ (k : Key). IsPrefix p.front (history_at s.histories k)) (sym answers.names) answers.begins.front

  was_pairs : IsPrefix p.pairs (pairs_at s.pairs own_key.account)
  was_pairs = subst (λ (k : Key). IsPrefix p.pairs (pairs_at s.pairs k.account)) (sym answers.names) answers.begins.pairs

  -- the slot only got longer histories, and keeps its pairs
  slot_grown : ServesOrNot s q t (Faulted old new) a next → IsPrefix (history_at s.histories own_key) (history_at next.histories own_key) × (next.pairs ≡ s.pairs)
  slot_grown (inl (inl served)) =
      let first = longer_settled s.doubt s served.0 own_key served.1.0 in
      let then_first = longer_served served.0 next q t (Faulted old new) own_key a served.1.1 in
      (prefix_then (history_at s.histories own_key) (history_at served.0.histories own_key) (history_at next.histories own_key) first.0 then_first.0, then_first.1 ∙ first.1)
  slot_grown (inl (inr failed)) = (([], append-nil (history_at s.histories own_key) ∙ ap (λ (v : SlotState). history_at v.histories own_key) (sym failed.1.1)), ap (λ (v : SlotState). v.pairs) failed.1.1)
  slot_grown (inr none) = (([], append-nil (history_at s.histories own_key) ∙ ap (λ (v : SlotState). history_at v.histories own_key) (sym none.1)), ap (λ (v : SlotState). v.pairs) none.1)

  pub grown_pass : IsPrefix p.front after.front × IsPrefix p.pairs after.pairs
  grown_pass =
      let grown = slot_grown answers.answered in (
        subst (λ (l : List Past). IsPrefix p.front l) (sym now_front) (prefix_then p.front (history_at s.histories own_key) (history_at next.histories own_key) was_first grown.0),
        subst (λ (l : List Keys). IsPrefix p.pairs l) (ap (λ (x : Pairs). pairs_at x own_key.account) (sym grown.1) ∙ sym now_pairs) was_pairs,
      )

  met_by : (m : SlotState) (r : Reply) → SettlesSlot s m → ServesBy m q t (Faulted old new) a next → IsServed m q t m.to r next → MetHistory p q t after
  met_by m r settles serves served =
      let first = longer_settled s.doubt s m own_key settles in
      let then_first = longer_served m next q t (Faulted old new) own_key a serves in
      let pairs : after.pairs ≡ pairs_at m.pairs own_key.account = now_pairs ∙ ap (λ (x : Pairs). pairs_at x own_key.account) then_first.1 in (
        history_at m.histories own_key,
        (
          prefix_then p.front (history_at s.histories own_key) (history_at m.histories own_key) was_first first.0,
          now_front ∙ (ap (λ (v : SlotState). history_at v.histories own_key) served.after ∙ (after_is m.pairs m.histories q t (change_now m.pairs m.histories q t)
              ∙ ap (λ (ks : List Keys). history_with ks (history_at m.histories own_key) q t) (sym pairs))),
        ),
      )

  met_at : (m : SlotState) (b : Answer) → SettlesSlot s m → ServesBy m q t (Faulted old new) a next → ServesBy m q t (Faulted old new) b next → MeetsIfServed p q t b after
  met_at m (answer.Done r) settles serves (inl served) = λ none. met_by m r settles serves served
  met_at m (answer.Done r) settles serves (inr (inl failed)) = λ none. absurd (not_none r.rule rules.N1 (ap (λ (x : Reply). x.rule) failed.1.0) none)
  met_at m (answer.Done r) settles serves (inr (inr doubt)) = λ none. absurd (not_none r.rule rules.N2 (ap (λ (x : Reply). x.rule) doubt.1.1.0) none)
  met_at m (answer.Later r) settles serves served = met_by m r settles serves served.0
  met_at m answer.NoMemory settles serves same = tt

  met_failed : (b : Answer) → FailsAnswer (Faulted old new) b → MeetsIfServed p q t b after
  met_failed (answer.Done r) failed = λ none. absurd (not_none r.rule rules.N1 (ap (λ (x : Reply). x.rule) failed.1) none)
  met_failed (answer.Later r) failed = absurd failed
  met_failed answer.NoMemory failed = tt

  met_as : ServesOrNot s q t (Faulted old new) a next → MeetsIfServed p q t a after
  met_as (inl (inl served)) = met_at served.0 a served.1.0 served.1.1 served.1.1
  met_as (inl (inr failed)) = met_failed a failed.1.0
  met_as (inr none) = subst (λ (b : Answer). MeetsIfServed p q t b after) (sym none.0) tt

  pub met_history : MeetsIfServed p q t a after
  met_history = met_as answers.answered

pub in_one_list : (p other : PassState) (o : Order) → IsOrder p.front other.front o → (list : List Past) × IsPrefix p.front list × IsPrefix other.front list
in_one_list p other order.Same same = (other.front, ([], append-nil p.front ∙ same), ([], append-nil other.front))
in_one_list p other order.First first = (other.front, first.0, ([], append-nil other.front))
in_one_list p other order.Second second = (p.front, ([], append-nil p.front), second.0)
