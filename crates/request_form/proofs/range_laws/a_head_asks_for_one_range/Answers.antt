use Rattle.std.proofs.Common.{refl, ap}
use Rattle.std.specs.Prelude.{option_and_then}
use Rattle.request_form.specs.HeadRanges.{range_of}
use Rattle.request_form.proofs.RangeLemmas.{range_by-none, range_sent-conditional, range_sent-own, range_sent-plain}
use Rattle.request_form.proofs.range_laws.a_head_asks_for_one_range.Goals as goal

pub returns-clause-own : goal.returns-clause-own
returns-clause-own c = λ fields value unconditional own. ap (option_and_then range_of) (range_sent-own fields value unconditional own)

pub returns-clause-plain : goal.returns-clause-plain
returns-clause-plain c = λ fields value unconditional none plain. ap (option_and_then range_of) (range_sent-plain fields value unconditional none plain)

pub returns-clause-conditional : goal.returns-clause-conditional
returns-clause-conditional c = λ op fields conditional. range_by-none op fields (range_sent-conditional fields conditional)

pub returns-clause-other : goal.returns-clause-other
returns-clause-other c = λ op fields other. rw other refl
