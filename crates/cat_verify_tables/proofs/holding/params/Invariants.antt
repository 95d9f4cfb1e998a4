use Rattle.std.proofs.Common.{length}
use Rattle.std.specs.Str.{IsUtf8}
use Rattle.cat_verify_tables.proofs.ParamLemmas.{IsUnderWay}
use Rattle.cat_verify_tables.proofs.holding.params.Given as goal

abbrev pub invariant-loop-ty : goal.invariant-loop-ty
invariant-loop-ty l = record {
  utf8 : IsUtf8 l.rest;
  way : IsUnderWay l.types l.text l.params l.rest;
}

abbrev pub decreases-loop-ty : goal.decreases-loop-ty
decreases-loop-ty l = length l.rest
