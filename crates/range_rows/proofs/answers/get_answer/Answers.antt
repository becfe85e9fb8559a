use Rattle.std.proofs.Common.{◌≡◌, ◌≤◌, rules, map, sym, ap, ◌∙◌, subst, List}
use Rattle.std.specs.List.{flat_map, list_all}
use Rattle.range_rows.specs.declared.answer.Span.{Span}
use Rattle.range_rows.specs.SentContent.{is_within, spans_len, whole_span}
use Rattle.range_rows.proofs.AnswerLemmas.{spans_of_blocks}
use Rattle.range_rows.proofs.PutParts.{within_blob}
use Rattle.range_rows.proofs.SpanLemmas.{whole_within, spans_len_of_blocks}
use Rattle.range_rows.proofs.answers.get_answer.Goals as goal

pub returns-clause-spans : goal.returns-clause-spans
returns-clause-spans c =
    let blocks = c.args.blob.now.blocks in
    let made : c.new.result ≡ flat_map (λ b. map whole_span b.content) blocks = search rules in
    made ∙ sym (spans_of_blocks blocks)

pub returns-clause-within : goal.returns-clause-within
returns-clause-within c =
    let blocks = c.args.blob.now.blocks in
    let made : c.new.result ≡ flat_map (λ b. map whole_span b.content) blocks = search rules in
    ap (λ (ss : List Span). list_all is_within ss) (made ∙ sym (spans_of_blocks blocks)) ∙ whole_within (flat_map (λ b. b.content) blocks)

pub returns-clause-short : goal.returns-clause-short
returns-clause-short c =
    let blocks = c.args.blob.now.blocks in
    let made : c.new.result ≡ flat_map (λ b. map whole_span b.content) blocks = search rules in
    subst (λ n. n ≤ 268435456) (sym (ap spans_len (made ∙ sym (spans_of_blocks blocks)) ∙ spans_len_of_blocks blocks)) (within_blob blocks c.requires.blocks)
