use Rattle.std.proofs.Common.{◌≡◌, drop}
use Rattle.cat_json.specs.Reads.{case_named}
use Rattle.cat_json.proofs.reading.case_named.Given as goal

abbrev pub invariant-loop-number : goal.invariant-loop-number
invariant-loop-number l = case_named l.number l.name (drop l.number l.cases) ≡ case_named 0 l.name l.cases
