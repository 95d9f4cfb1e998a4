use Rattle.std.proofs.Common.{◌≡◌, drop, take}
use Rattle.cat_num.specs.Reading.{split_at}
use Rattle.cat_json.proofs.DigitSteps.{with_front}
use Rattle.cat_json.proofs.digits.split.Given as goal

abbrev pub invariant-loop-i : goal.invariant-loop-i
invariant-loop-i l = with_front (take l.i l.text) (split_at l.mark (drop l.i l.text)) ≡ split_at l.mark l.text
