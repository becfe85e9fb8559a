-- What a connection wrote is what it reads.
use Rattle.std.proofs.Common.{◌≡◌, ℕ, List, ◌∷◌, None, sym, ap, ◌∙◌, subst}
use Rattle.stamp_values.specs.declared.key.Key.{Key}
use Rattle.stamp_values.specs.declared.op.Op.TheVariants.{GetBlob, PutBlob, PutBlockList}
use Rattle.stamp_types.specs.declared.reply.Reply.{Reply}
use Rattle.stamp_types.specs.Requests.{Asked, IsAsk}
use Rattle.stamp_types.specs.World.{World, blob_in, part_at}
use Rattle.range_rows.specs.Readings.{wanted_blocks}
use Rattle.stamp_model.specs.Blocks.{wanted_bytes}
use Rattle.stamp_model.specs.Kept.{SparesContent}
use Rattle.stamp_model.specs.Runs.{IsOn, reply_to_one, world_after_all, world_after_one}
use Rattle.stamp_model.proofs.BlockLemmas.{kept-list}
use Rattle.stamp_model.proofs.LastLemmas.{body-list_last, body-put_last}
use Rattle.stamp_model.proofs.WrittenLemmas.{kept-put}
use Rattle.served_history.specs.declared.entry.Entry.{Entry}
use Rattle.served_history.specs.declared.entry.Entry.TheVariants.{Served}
use Rattle.served_history.specs.Histories.{served_requests, world_left}
use Rattle.served_history.specs.Connections.{Call, IsReadAfter}
use Rattle.served_history.proofs.StayLemmas.{world_left-append}

module _ (known : List Entry) (key : Key) (name : List ℕ) (write get : Call) (reads : IsReadAfter known write get)
    (all : SparesContent key name (world_after_one (world_left reads.before) reads.first) (served_requests reads.between))
    (gets : IsOn GetBlob key name get.0.request) (whole : get.0.request.ask.args.range ≡ None) (accepted : write.1.rule ≡ None) (read : get.1.rule ≡ None) where
  abbrev before : World (List ℕ)
  before = world_left reads.before

  abbrev later : World (List ℕ)
  later = world_after_all before (reads.first ∷ served_requests reads.between)

  wrote : write.0.request ≡ reads.first.request
  wrote = ap (λ (c : Call). c.0.request) reads.first_is

  asked : get.0.request ≡ reads.second.request
  asked = ap (λ (c : Call). c.0.request) reads.second_is

  answer : get.1 ≡ reply_to_one later reads.second
  answer =
      ap (λ (c : Call). c.1) reads.second_is
      ∙ ap (λ (v : World (List ℕ)). reply_to_one v reads.second) (world_left-append reads.before (Served reads.slot reads.first ∷ reads.between))

  none : (reply_to_one before reads.first).rule ≡ None
  none = ap (λ (c : Call). c.1.rule) (sym reads.first_is) ∙ accepted

  free : (reply_to_one later reads.second).rule ≡ None
  free = ap (λ (r : Reply). r.rule) (sym answer) ∙ read

  gets_there : IsOn GetBlob key name reads.second.request
  gets_there = subst (λ (q : Asked). IsOn GetBlob key name q) asked gets

  whole_there : reads.second.request.ask.args.range ≡ None
  whole_there = ap (λ (q : Asked). q.ask.args.range) (sym asked) ∙ whole

  -- the reply to a later Get Blob has the body that was put, if each entry between the two spares the blob
  pub body_read : IsAsk write.0.request.ask → IsOn PutBlob key name write.0.request → get.1.body ≡ write.0.request.body
  body_read fits puts =
      let there = subst (λ (q : Asked). IsOn PutBlob key name q) wrote puts in
      let keeps = kept-put reads.first.request key name (subst (λ (q : Asked). IsAsk q.ask) wrote fits) there in
      ap (λ (r : Reply). r.body) answer
      ∙ body-put_last before key name keeps.0 reads.first there keeps.1 none (served_requests reads.between) all reads.second gets_there whole_there free
      ∙ ap (λ (q : Asked). q.body) (sym wrote)

  -- the same of the blocks that a Put Block List commits
  pub blocks_read : IsAsk write.0.request.ask → IsOn PutBlockList key name write.0.request
      → get.1.body ≡ wanted_bytes (blob_in (part_at before key) name) (wanted_blocks write.0.request)
  blocks_read fits lists =
      let there = subst (λ (q : Asked). IsOn PutBlockList key name q) wrote lists in
      let keeps = kept-list reads.first.request key name (subst (λ (q : Asked). IsAsk q.ask) wrote fits) there in
      ap (λ (r : Reply). r.body) answer
      ∙ body-list_last before key name reads.first there none keeps.0 keeps.1 (served_requests reads.between) all reads.second gets_there whole_there free
      ∙ ap (λ (q : Asked). wanted_bytes (blob_in (part_at before key) name) (wanted_blocks q)) (sym wrote)
