use Rattle.std.proofs.Common.{rules, ◌≡◌, [], sym, ap, ◌∙◌}
use Rattle.block_blobs.specs.ResolvedLists.{resolved}
use Rattle.range_rows.specs.JudgedBlocks.{blocks_by}
use Rattle.range_rows.specs.Readings.{listed_in, reading_of, wanted_blocks}
use Rattle.range_rows.specs.declared.reading.Reading.TheVariants as reading
use Rattle.range_rows.proofs.GroupLemmas.{is_put_block_list, lists_nothing, refused_by_id, refused_by_list}
use Rattle.range_rows.proofs.block_rules.judged_blocks.Goals as goal

pub returns-in_err-blocks-in-BlockList-clause-memory : goal.returns-in_err-blocks-in-BlockList-clause-memory
returns-in_err-blocks-in-BlockList-clause-memory c =
    let q = c.args.request.now in
    let is : reading.BlockList c.as_slice.result.now ≡ reading_of q = search rules in
    λ failed. is_put_block_list q c.as_slice.result.now is

pub returns-in_ok-blocks-in-BlockList-clause-judged : goal.returns-in_ok-blocks-in-BlockList-clause-judged
returns-in_ok-blocks-in-BlockList-clause-judged c =
    let q = c.args.request.now in
    let seen = c.args.seen.now in
    let is : reading.BlockList c.as_slice.result.now ≡ reading_of q = search rules in
    λ p found.
    c.in_ok-blocks-in-BlockList.ensures
    ∙ (λ i. blocks_by (refused_by_list seen q p found c.as_slice.result.now c.ask-ask.ensures.fits is i) (resolved seen (listed_in (is i))))

pub returns-in_default : goal.returns-in_default
returns-in_default c =
    let q = c.args.request.now in
    let seen = c.args.seen.now in
    let none : listed_in c.args.reading.now ≡ [] = lists_nothing c.args.reading.now (λ ws is. c.in_default.not-BlockList ws is) in
    let wants : [] ≡ wanted_blocks q = sym none ∙ ap listed_in c.requires in
    let answered : c.judged_id.result ≡ _ = c.judged_id.ensures in record {
      judged = λ p found. search rules ∙ (λ i. blocks_by (refused_by_id seen q p found c.args.reading.now c.requires none i) (resolved seen (wants i)));
      memory = λ failed. cc;
    }
