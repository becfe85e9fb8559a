use Rattle.std.proofs.Common.{◌+◌, arith}
use Rattle.request_form.proofs.NumberLemmas.{digit_in, more, fits}
use Rattle.request_form.proofs.parse.head_fields.digits_number.Goals as goal

pub overflow_mul-number : goal.overflow_mul-number
overflow_mul-number c =
    let next = more c.args.digits.now c.loop-digit.digit-index c.requires c.loop-digit-test.true in
    omega (arith, next, fits c.args.digits.now (c.loop-digit.digit-index + 1) c.requires, c.loop-digit.invariant)

pub overflow_sub-digit : goal.overflow_sub-digit
overflow_sub-digit c = (digit_in c.args.digits.now c.loop-digit.digit-index c.requires c.loop-digit-test.true).0

pub overflow_add-number : goal.overflow_add-number
overflow_add-number c =
    let next = more c.args.digits.now c.loop-digit.digit-index c.requires c.loop-digit-test.true in
    omega (arith, next, c.from.ensures, fits c.args.digits.now (c.loop-digit.digit-index + 1) c.requires, c.loop-digit.invariant)

pub loop-digit-preserved : goal.loop-digit-preserved
loop-digit-preserved c =
    let next = more c.args.digits.now c.loop-digit.digit-index c.requires c.loop-digit-test.true in
    omega (arith, next, c.from.ensures, c.loop-digit.invariant)
