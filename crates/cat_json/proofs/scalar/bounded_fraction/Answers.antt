use Rattle.std.proofs.Common.{rules}
use Rattle.cat_json.proofs.Numerals.{whole-over_one}
use Rattle.cat_json.proofs.scalar.bounded_fraction.Goals as goal

pub returns-in-Ok : goal.returns-in-Ok
returns-in-Ok c = let w = whole-over_one c.in_ok-number.number c.get.ensures.fits in search rules

pub returns-in-Err : goal.returns-in-Err
returns-in-Err c = let w = whole-over_one c.in_ok-number.number c.get.ensures.fits in search rules
