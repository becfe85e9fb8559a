-- Keys of another account count as none.
use Rattle.std.proofs.Common.{◌≡◌, ◌≢◌, ℕ, Bool, true, false, not, cond, ◌&&◌, ◌||◌, List, Option, Some, None, find, is_none, bytes_eq, [], ◌∷◌, unwrap_or, refl, sym, ap, ◌∙◌}
use Rattle.std.specs.Option.{option_map, option_or}
use Rattle.std.specs.FinMap.{empty, get-empty}
use Rattle.std.specs.Ordering.{eq_by_cmp}
use Rattle.std.proofs.lemmas.Slice.Eq.{bytes_eq-Decides}
use Rattle.stamp_values.specs.declared.acl.Acl.{Acl}
use Rattle.stamp_values.specs.declared.key.Key.{Key}
use Rattle.stamp_values.specs.Order.{name_cmp}
use Rattle.stamp_types.specs.declared.ask.Ask.{Ask}
use Rattle.stamp_types.specs.declared.refusal.Refusal.{Refusal}
use Rattle.stamp_types.specs.declared.rule.Rule.{Rule}
use Rattle.stamp_types.specs.declared.rule.Rule.TheVariants as rule
use Rattle.stamp_types.specs.Changes.{KeyedAct}
use Rattle.stamp_types.specs.Pieces.{held}
use Rattle.stamp_types.specs.Requests.{Asked}
use Rattle.stamp_types.specs.World.{Part, World, part_at}
use Rattle.access_rules.specs.declared.keys.Keys.{Keys}
use Rattle.access_rules.specs.Parts.{claim_of, is_signed, keys_for, string_of}
use Rattle.access_rules.specs.Rules.{access_rules, first_rule, holds, of_token, on_key, some_passes}
use Rattle.access_rules.specs.TokenParts.{names_resource, text_of}
use Rattle.row_trees.specs.Access.{acl_of}
use Rattle.range_rows.specs.ObjectRules.{object_refusal}
use Rattle.range_rows.specs.RequestChanges.{change_of}
use Rattle.range_rows.specs.SentContent.{sizes}
use Rattle.stamp_model.specs.Effects.{accepted, effect, unless_refused, world_after}
use Rattle.stamp_model.specs.Refusals.{access_refusal, refusal}
use Rattle.stamp_model.specs.Responses.{answer_of, reply, response}
use Rattle.stamp_model.specs.Runs.{reply_to_one, timed, world_after_one}
use Rattle.stamp_model.specs.SeenContainers.{routed}
use Rattle.slot_state.specs.Pairs.{Pairs, current_at, first_pairs, in_force, pairs_at}
use Rattle.partition_map.specs.Spans.{bound_at}
use Rattle.core_run.specs.States.{State, reply_in, served}
use Rattle.core_run.proofs.KeyLemmas.{same_name}
use Rattle.core_run.proofs.SoundLemmas.{pairs_at-insert}
use Rattle.core_run.proofs.Values.{true_false}

-- two that give the same keys for the account of the request
module _ (a b : Option Keys) (q : Ask) (same : keys_for a q.key.account ≡ keys_for b q.key.account) where
  by : (test : Option Keys → Bool) → test (keys_for a q.key.account) ≡ test (keys_for b q.key.account)
  by test = ap test same

  same_rule : (acl : Option Acl) (t : ℕ) (r : Rule) → holds a acl q t r ≡ holds b acl q t r
  same_rule acl t rule.K2 = by (λ keys. on_key q.credential && some_passes (λ claim. not (bytes_eq claim.account q.key.account) || is_none keys) (claim_of q.credential))
  same_rule acl t rule.K5 = by (λ keys. on_key q.credential && some_passes (λ claim. some_passes (λ pair. not (is_signed pair (string_of q) claim.signature)) keys) (claim_of q.credential))
  same_rule acl t rule.S2 = by (λ keys. of_token (λ token. is_none keys) q)
  same_rule acl t rule.S4 = by (λ keys. of_token (λ token. names_resource q token.resource && some_passes (λ pair. not (is_signed pair (text_of q token) token.signature)) keys) q)
  same_rule acl t other = refl

  pub same_first : (acl : Option Acl) (t : ℕ) → first_rule a acl q t ≡ first_rule b acl q t
  same_first acl t = λ i. find (λ r. same_rule acl t r i) access_rules

module _ (a b : Option Keys) (q : Asked) (same : keys_for a q.ask.key.account ≡ keys_for b q.ask.key.account) where
  same_refusal : (p : Part ℕ) (t : ℕ) → refusal a p q t ≡ refusal b p q t
  same_refusal p t = ap (λ (r : Option Rule). option_or (option_map access_refusal r) (object_refusal p q)) (same_first a b q.ask same (acl_of p) t)

  pub same_accepted : (p : Part ℕ) (t : ℕ) → accepted a p q t ≡ accepted b p q t
  same_accepted p t = ap (λ (o : Option Refusal). unless_refused o (change_of p q t)) (same_refusal p t)

  pub same_effect : (w : World (List ℕ)) (t : ℕ) → effect a w q t ≡ effect b w q t
  same_effect w t = ap (λ (c : Option KeyedAct). world_after held c w) (same_accepted (sizes (part_at w q.ask.key)) t)

  pub same_reply : (w : World (List ℕ)) (t : ℕ) (bound : Option Key) → reply a w q t bound ≡ reply b w q t bound
  same_reply w t bound = λ i. response (same_refusal (sizes (part_at w q.ask.key)) t i) (answer_of (same_effect w t i) q bound)

pub no_keys_for : (pair : Keys) (account : List ℕ) → pair.account ≢ account → keys_for (Some pair) account ≡ keys_for None account
no_keys_for pair account apart = by_case (bytes_eq pair.account account) refl
  where
    by_case : (c : Bool) → bytes_eq pair.account account ≡ c → cond c (Some pair) None ≡ None
    by_case true is = absurd (apart ((bytes_eq-Decides pair.account account).0 is))
    by_case false is = refl

-- if the stamp has one pair, which is of one account, this pair and the one in force for any account give the same keys for it
one_pair : (pair : Keys) (account : List ℕ) → keys_for (current_at (first_pairs (pair ∷ [])) account) account ≡ keys_for (Some pair) account
one_pair pair account =
    ap (λ (ks : List Keys). keys_for (in_force ks) account) (pairs_at-insert empty pair.account (pair ∷ []) account)
    ∙ by_case (eq_by_cmp name_cmp account pair.account) refl
  where
    by_case : (b : Bool) → eq_by_cmp name_cmp account pair.account ≡ b → keys_for (in_force (cond b (pair ∷ []) (pairs_at empty account))) account ≡ keys_for (Some pair) account
    by_case true is = refl
    by_case false is =
        ap (λ (o : Option (List Keys)). keys_for (in_force (unwrap_or o [])) account) (get-empty name_cmp account)
        ∙ sym (no_keys_for pair account (λ e. true_false (sym (same_name account) ∙ ap (eq_by_cmp name_cmp account) (sym e) ∙ is)))

module _ (pair : Keys) (s : State) (q : Asked) (t : ℕ) (one : s.pairs ≡ first_pairs (pair ∷ [])) where
  same_keys : keys_for (current_at s.pairs q.ask.key.account) q.ask.key.account ≡ keys_for (Some pair) q.ask.key.account
  same_keys = ap (λ (ps : Pairs). keys_for (current_at ps q.ask.key.account) q.ask.key.account) one ∙ one_pair pair q.ask.key.account

  pub one_reply : reply_in s q t ≡ reply_to_one s.world (record (timed pair q t) { bound = bound_at s.points (routed q) })
  one_reply = same_reply (current_at s.pairs q.ask.key.account) (Some pair) q same_keys s.world t (bound_at s.points (routed q))

  pub one_world : (served s q t).world ≡ world_after_one s.world (timed pair q t)
  one_world = same_effect (current_at s.pairs q.ask.key.account) (Some pair) q same_keys s.world t
