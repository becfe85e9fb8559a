-- What is so along the history of a run, by the laws of requests that are answered in turn.
use Rattle.std.proofs.Common.{◌≡◌, ℕ, List, [], ◌∷◌, ◌++◌, Some, None, sym, ap, ◌∙◌, subst}
use Rattle.std.proofs.lemmas.List.{append_assoc}
use Rattle.stamp_values.specs.declared.condition.Condition.TheVariants as condition
use Rattle.stamp_values.specs.declared.key.Key.{Key}
use Rattle.stamp_values.specs.declared.op.Op.TheVariants as op
use Rattle.stamp_types.specs.declared.committed.Committed.{Committed}
use Rattle.stamp_types.specs.declared.reply.Reply as replies
use Rattle.stamp_types.specs.declared.rule.Rule.{Rule}
use Rattle.stamp_types.specs.EffectKinds.{EtagsAtMost}
use Rattle.stamp_types.specs.Requests.{IsAsk}
use Rattle.stamp_types.specs.World.{World, blob_in, part_at}
use Rattle.stamp_model.specs.Kept.{SparesContent}
use Rattle.stamp_model.specs.Runs.{IsOn, Timed, replies_to, reply_to_one, world_after_all, world_after_one}
use Rattle.stamp_model.proofs.ConditionLemmas.{seen-answered}
use Rattle.stamp_model.proofs.EtagLemmas.{one_state-run}
use Rattle.stamp_model.proofs.LastLemmas.{body-put_last}
use Rattle.stamp_model.proofs.RunLemmas.{answered_in_turn, replies_to-without, world_after_all-without}
use Rattle.stamp_model.proofs.WrittenLemmas.{kept-put}
use Rattle.core_run.specs.States.{State, Turn, requests}
use Rattle.core_run.proofs.HistoryLemmas.{AreModels, Leads, model_at, requests-append, world-append}

module _ (s s' : State) where
  -- a refused request has no trace: without it the containers in the end, and all other replies, are the same
  module _ (front : List Turn) (u : Turn) (rest : List Turn) (led : Leads s (front ++ u ∷ rest) s') (r : replies.Reply) (gives : u.reply ≡ Some r) (rule : Rule) (named : r.rule ≡ Some rule) where
    model : r ≡ reply_to_one (world_after_all s.world (requests front)) u.served
    model = model_at s.world front u rest r led.replies gives

    model_named : (reply_to_one (world_after_all s.world (requests front)) u.served).rule ≡ Some rule
    model_named = ap (λ (x : replies.Reply). x.rule) (sym model) ∙ named

    pub refused_world : s'.world ≡ world_after_all s.world (requests (front ++ rest))
    refused_world =
        led.world
        ∙ ap (world_after_all s.world) (requests-append front (u ∷ rest))
        ∙ sym (world_after_all-without s.world (requests front) u.served (requests rest) _ _ _ (answered_in_turn s.world (requests front) u.served (requests rest)) rule model_named)
        ∙ ap (world_after_all s.world) (sym (requests-append front rest))

    pub refused_replies : replies_to s.world (requests (front ++ rest))
        ≡ replies_to s.world (requests front) ++ replies_to (world_after_all s.world (requests (front ++ u ∷ []))) (requests rest)
    refused_replies =
        ap (replies_to s.world) (requests-append front rest)
        ∙ replies_to-without s.world (requests front) u.served (requests rest) _ _ _ (answered_in_turn s.world (requests front) u.served (requests rest)) rule model_named
        ∙ ap (λ (w : List Timed). replies_to s.world (requests front) ++ replies_to (world_after_all s.world w) (requests rest)) (sym (requests-append front (u ∷ [])))

  -- what is written is read
  pub written_read : (front : List Turn) (put : Turn) (middle : List Turn) (get : Turn) (rest : List Turn) (key : Key) (name : List ℕ) (p g : replies.Reply)
      → Leads s (front ++ put ∷ (middle ++ get ∷ rest)) s'
      → IsAsk put.served.request.ask → IsOn op.PutBlob key name put.served.request → put.reply ≡ Some p → p.rule ≡ None
      → SparesContent key name (world_after_one (world_after_all s.world (requests front)) put.served) (requests middle)
      → IsOn op.GetBlob key name get.served.request → get.served.request.ask.args.range ≡ None → get.reply ≡ Some g → g.rule ≡ None
      → g.body ≡ put.served.request.body
  written_read front put middle get rest key name p g led fits puts puts_reply accepted spares gets whole gets_reply free =
      let w : World (List ℕ) = world_after_all s.world (requests front) in
      let first : p ≡ reply_to_one w put.served = model_at s.world front put (middle ++ get ∷ rest) p led.replies puts_reply in
      let at : front ++ put ∷ (middle ++ get ∷ rest) ≡ (front ++ put ∷ middle) ++ get ∷ rest = sym (append_assoc front (put ∷ middle) (get ∷ rest)) in
      let second : g ≡ reply_to_one (world_after_all s.world (requests (front ++ put ∷ middle))) get.served =
      model_at s.world (front ++ put ∷ middle) get rest g (subst (λ (us : List Turn). AreModels s.world us) at led.replies) gets_reply in
      let then : g ≡ reply_to_one (world_after_all w (put.served ∷ requests middle)) get.served =
      second ∙ ap (λ (v : World (List ℕ)). reply_to_one v get.served) (world-append s.world front (put ∷ middle)) in
      let keeps = kept-put put.served.request key name fits puts in
      ap (λ (x : replies.Reply). x.body) then
      ∙ body-put_last w key name keeps.0 put.served puts keeps.1 (ap (λ (x : replies.Reply). x.rule) (sym first) ∙ accepted) (requests middle)
      spares get.served gets whole (ap (λ (x : replies.Reply). x.rule) (sym then) ∙ free)

  -- a conditional write changes what its caller saw
  pub condition_met : (front middle : List Turn) (u : Turn) (rest : List Turn) (name : List ℕ) (seen : Committed (List ℕ)) (r : replies.Reply)
      → Leads s (front ++ (middle ++ u ∷ rest)) s'
      → EtagsAtMost (part_at s.world u.served.request.ask.key).count (part_at s.world u.served.request.ask.key)
      → IsAsk u.served.request.ask → u.served.request.ask.blob ≡ Some name → u.served.request.ask.args.if_match ≡ Some (condition.Count seen.etag)
      → (blob_in (part_at (world_after_all s.world (requests front)) u.served.request.ask.key) name).committed ≡ Some seen
      → u.reply ≡ Some r → r.rule ≡ None
      → (blob_in (part_at (world_after_all s.world (requests (front ++ middle))) u.served.request.ask.key) name).committed ≡ Some seen
  condition_met front middle u rest name seen r led within fits on asks at_first gives free =
      let at : front ++ (middle ++ u ∷ rest) ≡ (front ++ middle) ++ u ∷ rest = sym (append_assoc front middle (u ∷ rest)) in
      let model : r ≡ reply_to_one (world_after_all s.world (requests (front ++ middle))) u.served =
      model_at s.world (front ++ middle) u rest r (subst (λ (us : List Turn). AreModels s.world us) at led.replies) gives in
      let all = requests-append front middle in
      ap (λ (rs : List Timed). (blob_in (part_at (world_after_all s.world rs) u.served.request.ask.key) name).committed) all
      ∙ seen-answered s.world (requests front) (requests middle) u.served name seen within fits on asks at_first
      (ap (λ (rs : List Timed). (reply_to_one (world_after_all s.world rs) u.served).rule) (sym all) ∙ ap (λ (x : replies.Reply). x.rule) (sym model) ∙ free)

  -- an ETag names one state
  pub etag_one : (front middle rest : List Turn) (key : Key) (name : List ℕ) (first last : Committed (List ℕ))
      → Leads s (front ++ (middle ++ rest)) s'
      → EtagsAtMost (part_at s.world key).count (part_at s.world key)
      → (blob_in (part_at (world_after_all s.world (requests front)) key) name).committed ≡ Some first
      → (blob_in (part_at s'.world key) name).committed ≡ Some last → first.etag ≡ last.etag
      → (blob_in (part_at (world_after_all s.world (requests (front ++ middle))) key) name).committed ≡ Some first
  etag_one front middle rest key name first last led within at_first at_last same =
      let all = requests-append front middle in
      let whole : requests (front ++ (middle ++ rest)) ≡ (requests front ++ requests middle) ++ requests rest =
      ap requests (sym (append_assoc front middle rest)) ∙ requests-append (front ++ middle) rest ∙ ap (λ (rs : List Timed). rs ++ requests rest) all in
      ap (λ (rs : List Timed). (blob_in (part_at (world_after_all s.world rs) key) name).committed) all
      ∙ one_state-run s.world key within (requests front) (requests middle) (requests rest) name first last at_first
      (ap (λ (w : World (List ℕ)). (blob_in (part_at w key) name).committed) (sym (led.world ∙ ap (world_after_all s.world) whole)) ∙ at_last) same
