use Rattle.std.proofs.Common.{◌≡◌, ◌<◌, ◌^◌}
use Rattle.std.specs.Prelude.{drop}
use Rattle.moment_text.specs.IsoReader.{number_after, number_of}
use Rattle.moment_text.proofs.digits.number.Given as goal

abbrev pub invariant-loop-digit : goal.invariant-loop-digit
invariant-loop-digit l = record {
  left : number_after l.number (drop l.digit-index l.digits) ≡ number_of l.digits;
  small : l.number < 10 ^ l.digit-index;
}
