use Rattle.std.proofs.Common.{rules, ◌≡◌, sym, not, is_some, true, false}
use Rattle.cat_check_names.specs.Table.{number_in}
use Rattle.cat_check_names.proofs.Tabled.{one_more}
use Rattle.cat_check_names.proofs.Cases.{one_again, one_case_more}
use Rattle.cat_check_names.proofs.building.table_of_cases.Goals as goal

pub loop-number-preserved-then-not-branch : goal.loop-number-preserved-then-not-branch
loop-number-preserved-then-not-branch c =
    let case = c.index-cases-number.result in
    let again : not (is_some (number_in c.loop-number.table case.name)) ≡ false = search rules in (
      one_more (λ k. k.name) c.args.cases.now c.loop-number.number case c.loop-number.table c.add.new.self
          (search rules) (sym c.index-cases-number.is) c.loop-number.invariant.0 c.in_ok-add.ensures.added,
      λ front before.
          one_again front c.args.enumeration c.args.cases.now c.loop-number.number case c.loop-number.table
          c.loop-number.only_cases (search rules) (sym c.index-cases-number.is) c.loop-number.invariant.0 again
          (c.loop-number.invariant.1 front before),
    )

pub loop-number-preserved : goal.loop-number-preserved
loop-number-preserved c =
    let case = c.index-cases-number.result in
    let fresh : not (is_some (number_in c.loop-number.table case.name)) ≡ true = search rules in (
      one_more (λ k. k.name) c.args.cases.now c.loop-number.number case c.loop-number.table c.add.new.self
          (search rules) (sym c.index-cases-number.is) c.loop-number.invariant.0 c.in_ok-add.ensures.added,
      λ front before.
          one_case_more front c.args.enumeration c.args.cases.now c.loop-number.number case c.loop-number.table
          c.loop-number.only_cases c.add-in-loop-number.new.self (search rules) (sym c.index-cases-number.is)
          c.loop-number.invariant.0 fresh (search rules) (c.loop-number.invariant.1 front before),
    )
