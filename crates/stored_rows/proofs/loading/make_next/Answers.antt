use Rattle.std.proofs.Common.{◌≡◌, ◌++◌, ◌∷◌, [], rules}
use Rattle.partition_stream.specs.Positions.{all_changes, changes_before}
use Rattle.stored_rows.proofs.LoadLemmas.{none_left, same_read, step_fits, step_left, step_read}
use Rattle.stored_rows.proofs.loading.make_next.Goals as goal

pub make-requires : goal.make-requires
make-requires g c =
    let next : changes_before c.args.streams.now c.next_change.new.position ≡ changes_before c.args.streams.now c.args.position.now ++ (c.in-Some.change, c.in-Some._epoch) ∷ [] = search rules in
    λ covered. step_fits c.args.streams.now c.args.range.now c.args.position.now c.next_change.new.position (c.in-Some.change, c.in-Some._epoch) c.args.rows.now c.requires.fit c.requires.read next covered

pub returns-in_default-clause-made : goal.returns-in_default-clause-made
returns-in_default-clause-made g c =
    let same : changes_before c.args.streams.now c.next_change.new.position ≡ changes_before c.args.streams.now c.args.position.now = search rules in
    same_read c.args.streams.now c.args.range.now c.args.position.now c.next_change.new.position c.args.rows.now c.requires.read same

pub returns-in_default-clause-ended : goal.returns-in_default-clause-ended
returns-in_default-clause-ended g c = λ _.
    let same : changes_before c.args.streams.now c.next_change.new.position ≡ changes_before c.args.streams.now c.args.position.now = search rules in
    let all : changes_before c.args.streams.now c.args.position.now ≡ all_changes c.args.streams.now = search rules in
    none_left c.args.streams.now c.args.position.now c.next_change.new.position same all

pub returns-clause-made : goal.returns-clause-made
returns-clause-made g c =
    let next : changes_before c.args.streams.now c.next_change.new.position ≡ changes_before c.args.streams.now c.args.position.now ++ (c.in-Some.change, c.in-Some._epoch) ∷ [] = search rules in
    step_read c.args.streams.now c.args.range.now c.args.position.now c.next_change.new.position (c.in-Some.change, c.in-Some._epoch) c.args.rows.now c.make.new.rows c.requires.read next
    c.in_ok-make.ensures.made

pub returns-clause-more : goal.returns-clause-more
returns-clause-more g c = λ _.
    let next : changes_before c.args.streams.now c.next_change.new.position ≡ changes_before c.args.streams.now c.args.position.now ++ (c.in-Some.change, c.in-Some._epoch) ∷ [] = search rules in
    step_left c.args.streams.now c.args.position.now c.next_change.new.position (c.in-Some.change, c.in-Some._epoch) next
