use Rattle.std.proofs.Common.{IsTrue, drop}
use Rattle.cat_order.specs.Order.{is_listed}
use Rattle.cat_value.specs.Dependencies.{named_by_cases}
use Rattle.cat_verify_tables.proofs.in_order.case_naming.Given as goal

abbrev pub invariant-loop-index : goal.invariant-loop-index
invariant-loop-index l = IsTrue (is_listed (named_by_cases l.structures (drop l.index l.cases)) l.number)
