-- Worked examples of the meaning: days that a month lacks, and amounts that are rounded.
use Rattle.std.proofs.Common.{◌≡◌, ℕ, ℤ, pos, negsuc, false, List, [], ◌∷◌, None, Some, Result, Ok, Err, rules}
use Rattle.cat_num.specs.Frac.{gcd, ratio, lowest}
use Rattle.cat_date.specs.declared.rounding.Rounding.{Rounding}
use Rattle.cat_date.specs.declared.rounding.Rounding.TheVariants.{Up, Down, Refuse}
use Rattle.cat_date.proofs.Exported.{cat_date_on_literals}
use Rattle.cat_value.specs.declared.ty.Ty.{Ty}
use Rattle.cat_value.specs.declared.ty.Ty.TheVariants as ty
use Rattle.cat_value.specs.declared.value.Value.{Value}
use Rattle.cat_value.specs.declared.value.Value.TheVariants as flat
use Rattle.cat_value.specs.declared.value.Value.TheViews as value
use Rattle.cat_value.specs.declared.declaration.Kind.{Kind}
use Rattle.cat_value.specs.declared.declaration.Kind.TheVariants as kind
use Rattle.cat_value.specs.declared.declaration.ItemDecl.{ItemDecl}
use Rattle.cat_value.specs.declared.outcome.FaultKind.TheVariants.{AmbiguousDate, DivisionByZero}
use Rattle.cat_scope.specs.declared.stop.Stop.{Stop}
use Rattle.cat_scope.specs.declared.stop.Stop.TheVariants.{Fault}
use Rattle.cat_scope.specs.declared.operators.BinaryOp.TheVariants.{AddDurationToDate, MultiplyMoneyByDecimal}
use Rattle.cat_scope.specs.declared.operators.BinaryOp.TheVariants.{DivideMoneyByInteger}
use Rattle.cat_scope.specs.declared.expr.Literal.TheVariants as literal
use Rattle.cat_scope.specs.declared.expr.Expr.{Expr}
use Rattle.cat_scope.specs.declared.expr.Expr.TheVariants as leaf
use Rattle.cat_scope.specs.declared.expr.Expr.TheViews as expr
use Rattle.cat_scope.specs.declared.defs.Except.TheVariants as except
use Rattle.cat_scope.specs.Running.{run_of}
use Rattle.cat_scope.specs.Targets.{judge_target}
use Rattle.cat_scope.proofs.Equations.{equations}
use Rattle.cat_scope.proofs.Samples.{at, def, source_of, x, scope_of}

abbrev of_type : Ty → Kind → ItemDecl
of_type t k = record { name = []; pos = at 3 9; kind = k; ty = t; condition = false; params = [] }

-- x is e, where the input is v of a type, in a scope that rounds so
abbrev giving : Rounding → Ty → Value → Expr → Result (List Value) Stop
giving r t v e =
    (run_of (scope_of (of_type t kind.Input ∷ of_type t kind.Output ∷ []) ∷ [])
    (record {
      defs = def x None except.No None e (at 6 3) ∷ [];
      assertions = [];
      source =
          source_of (def x None except.No None e (at 6 3) ∷ []);
      rounding = r;
      order = 0 ∷ 1 ∷ [];
      calls = [];
    } ∷ [])
    (0 ∷ []) 0 (Some v ∷ None ∷ [])).end

-- `d + 1 month`, where d is 2024-01-31
abbrev month_later : Rounding → Result (List Value) Stop
month_later r = giving r ty.Date (flat.Date (pos 19753))
    (expr.Binary (at 6 23) AddDurationToDate (at 6 25) (leaf.Item (at 6 23) 0)
    (leaf.Literal (at 6 27) (literal.Duration (record { months = pos 1; days = pos 0 }))))

a_day_that_a_month_lacks_is_refused : month_later Refuse ≡ Err (Fault AmbiguousDate (at 6 25))
unfolding run_of judge_target cat_date_on_literals
a_day_that_a_month_lacks_is_refused = search (rules, equations, value.the_lemmas)

-- 2024-03-01
a_day_that_a_month_lacks_is_rounded_up : month_later Up ≡ Ok (flat.Date (pos 19783) ∷ [])
unfolding run_of judge_target cat_date_on_literals
a_day_that_a_month_lacks_is_rounded_up = search (rules, equations, value.the_lemmas)

-- 2024-02-29
a_day_that_a_month_lacks_is_rounded_down : month_later Down ≡ Ok (flat.Date (pos 19782) ∷ [])
unfolding run_of judge_target cat_date_on_literals
a_day_that_a_month_lacks_is_rounded_down = search (rules, equations, value.the_lemmas)

-- half of an amount of cents, by a decimal and by an integer
abbrev half : ℤ → Result (List Value) Stop
half cents = giving Refuse ty.Money (flat.Money cents) (expr.Binary (at 6 23) MultiplyMoneyByDecimal (at 6 25)
    (leaf.Item (at 6 23) 0) (leaf.Literal (at 6 27) (literal.Decimal (record { digits = 50; places = 2 }))))

half_a_cent_goes_away_from_zero : half (pos 1) ≡ Ok (flat.Money (pos 1) ∷ [])
unfolding run_of judge_target gcd ratio lowest
half_a_cent_goes_away_from_zero = search (rules, equations, value.the_lemmas)

half_a_cent_below_zero_goes_away_from_zero : half (negsuc 0) ≡ Ok (flat.Money (negsuc 0) ∷ [])
unfolding run_of judge_target gcd ratio lowest
half_a_cent_below_zero_goes_away_from_zero = search (rules, equations, value.the_lemmas)

abbrev parted : ℕ → Result (List Value) Stop
parted k = giving Refuse ty.Money (flat.Money (pos 100)) (expr.Binary (at 6 23) DivideMoneyByInteger (at 6 25)
    (leaf.Item (at 6 23) 0) (leaf.Literal (at 6 27) (literal.Integer (pos k))))

two_thirds_of_a_cent_are_one : parted 6 ≡ Ok (flat.Money (pos 17) ∷ [])
unfolding run_of judge_target
two_thirds_of_a_cent_are_one = search (rules, equations, value.the_lemmas)

an_amount_is_not_parted_by_zero : parted 0 ≡ Err (Fault DivisionByZero (at 6 25))
unfolding run_of judge_target
an_amount_is_not_parted_by_zero = search (rules, equations, value.the_lemmas)
