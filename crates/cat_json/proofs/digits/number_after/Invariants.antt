use Rattle.std.proofs.Common.{◌≡◌, ◌+◌, ◌*◌, ◌<◌, ◌^◌, true, drop}
use Rattle.std.specs.Str.{all_ascii_digits}
use Rattle.cat_num.specs.Reading.{number_after}
use Rattle.cat_json.proofs.digits.number_after.Given as goal

abbrev pub invariant-loop-digit : goal.invariant-loop-digit
invariant-loop-digit l = record {
  value : number_after l.number (drop l.digit-index l.digits) ≡ number_after l.initial.number l.digits;
  bound : l.number < (l.initial.number + 1) * 10 ^ l.digit-index;
  digits : all_ascii_digits (drop l.digit-index l.digits) ≡ true;
}
