use Rattle.cat_machine.proofs.steps.frequent.frequent.Goals as goal

pub returns-in-Integer-Integer : goal.returns-in-Integer-Integer
returns-in-Integer-Integer c =
    rw c.in-Integer-Integer.is-0 (rw c.in-Integer-Integer.is-1 c.of_wholes.ensures)

pub returns-in-Money-Money : goal.returns-in-Money-Money
returns-in-Money-Money c =
    rw c.in-Money-Money.is-0 (rw c.in-Money-Money.is-1 c.of_amounts.ensures)

pub returns-in-Decimal-Decimal : goal.returns-in-Decimal-Decimal
returns-in-Decimal-Decimal c =
    rw c.in-Decimal-Decimal.is-0 (rw c.in-Decimal-Decimal.is-1 c.of_decimals.ensures)

pub returns-in-Money-Decimal : goal.returns-in-Money-Decimal
returns-in-Money-Decimal c =
    rw c.in-Money-Decimal.is-0 (rw c.in-Money-Decimal.is-1 c.of_amount_and_decimal.ensures)
