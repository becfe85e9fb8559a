use Rattle.std.proofs.Common.{◌≡◌, ◌<◌, ◌+◌, ◌∙◌, List, ℕ, ap, arith, drop, length, refl, sym}
use Rattle.std.proofs.lemmas.List.{length-drop, take_all}
use Rattle.std.specs.List.{position_or_len}
use Rattle.request_form.specs.HeadRanges.{is_hyphen}
use Rattle.request_form.proofs.RangeLemmas.{marked, without_mark}
use Rattle.request_form.proofs.parse.range_field.halves.Goals as goal

pub returns-then-at-numbers : goal.returns-then-at-numbers
returns-then-at-numbers c =
    let rest = c.in_ok-numbers.ensures.1 in
    without_mark c.args.text.now (rw rest at (sym c.position-at.ensures.value ∙ c.if-at-numbers.true))

pub returns : goal.returns
returns c =
    let text = c.args.text.now in
    let rest = c.in_ok-numbers.ensures.1 in
    let place : c.position-at.result ≡ position_or_len is_hyphen (drop 6 text) = rw rest at c.position-at.ensures.value in
    let len : length c.in_ok-numbers.numbers.now ≡ length (drop 6 text) = ap (λ (x : List ℕ). length x) rest in
    let inside : position_or_len is_hyphen (drop 6 text) < length (drop 6 text) = omega (arith, place, len, c.position-at.ensures.bound, c.if-at-numbers.false) in
    let left = length-drop (position_or_len is_hyphen (drop 6 text) + 1) (drop 6 text) in (
      marked text c.in_ok-numbers.ensures.0 inside,
      rw (place, rest) refl,
      rw (place, rest) (take_all _ (drop (position_or_len is_hyphen (drop 6 text) + 1) (drop 6 text)) (omega (arith, left))),
    )
