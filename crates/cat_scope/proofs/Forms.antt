-- Worked examples of single forms: what is evaluated, in which order, and where that stops.
use Rattle.std.proofs.Common.{◌≡◌, ℕ, pos, negsuc, true, false, List, [], ◌∷◌, None, Some, Ok, Err, ap, ◌∙◌, rules}
use Rattle.cat_num.specs.Frac.{gcd, ratio, lowest}
use Rattle.cat_date.specs.Span.{compared_spans}
use Rattle.cat_date.specs.declared.rounding.Rounding.TheVariants.{Refuse}
use Rattle.cat_pos.specs.declared.pos.Pos.{Pos}
use Rattle.cat_value.specs.declared.value.Value.TheVariants as flat
use Rattle.cat_value.specs.declared.value.Value.TheViews as value
use Rattle.cat_value.specs.declared.outcome.FaultKind.TheVariants.{DivisionByZero, Overflow, Uncomparable}
use Rattle.cat_scope.specs.declared.stop.Stop.TheVariants.{Fault, Stuck}
use Rattle.cat_value.specs.declared.value.Value.{Value}
use Rattle.cat_scope.specs.declared.expr.Expr.{Expr}
use Rattle.cat_scope.specs.declared.expr.Arm.{Arm}
use Rattle.cat_scope.specs.declared.expr.Expr.TheVariants as leaf
use Rattle.cat_scope.specs.declared.expr.Expr.TheViews as expr
use Rattle.cat_scope.specs.declared.expr.Literal.TheVariants as literal
use Rattle.cat_scope.specs.declared.expr.ArmPattern.TheVariants as pattern
use Rattle.cat_scope.specs.declared.operators.BinaryOp.TheVariants.{DivideIntegers, AddIntegers, Greater}
use Rattle.cat_scope.specs.declared.operators.SumKind.TheVariants.{Integers}
use Rattle.cat_scope.specs.Replies.{Reply}
use Rattle.cat_scope.specs.Runs.{Run, plain, stops, and_then}
use Rattle.cat_scope.specs.Projections.{case_of}
use Rattle.cat_scope.specs.Eval.{Env, eval}
use Rattle.cat_scope.specs.inside.EvalParts.{eval_arms}
use Rattle.cat_scope.proofs.Equations.{equations, eval_Literal, eval_Case_Some, eval_Match}
use Rattle.cat_scope.proofs.Samples.{at, whole}

abbrev nothing : Env
nothing = record { rounding = Refuse; items = []; call = λ f vs. stops Stuck; scope_call = λ s fs k. stops Stuck }

-- what an expression without names gives
abbrev gives : Expr → Reply
gives e = (eval nothing e []).end

abbrev o : Pos
o = at 0 0

abbrev there : Pos
there = at 1 1

abbrev truth : Expr
truth = leaf.Literal o (literal.Boolean true)

abbrev falsehood : Expr
falsehood = leaf.Literal o (literal.Boolean false)

-- `1 / k`, and `1 / w > k` for an element w
abbrev per : ℕ → Expr
per k = expr.Binary o DivideIntegers there (whole 1) (whole k)

abbrev per_element_above : ℕ → Expr
per_element_above k = expr.Binary o Greater o (expr.Binary o DivideIntegers there (whole 1) (leaf.Local o 0))
    (leaf.Literal o (literal.Decimal (record { digits = k; places = 0 })))

and_stops_at_false : gives (expr.And o falsehood (per 0)) ≡ Ok (flat.Boolean false)
and_stops_at_false = search (rules, equations, value.the_lemmas)

and_goes_on_at_true : gives (expr.And o truth (per 0)) ≡ Err (Fault DivisionByZero there)
unfolding gcd ratio lowest
and_goes_on_at_true = search (rules, equations, value.the_lemmas)

or_stops_at_true : gives (expr.Or o truth (per 0)) ≡ Ok (flat.Boolean true)
or_stops_at_true = search (rules, equations, value.the_lemmas)

one_branch_is_evaluated : gives (expr.If o truth (whole 1) (per 0)) ≡ Ok (flat.Integer (pos 1))
one_branch_is_evaluated = search (rules, equations, value.the_lemmas)

exists_stops_at_true : gives (expr.Exists o (expr.List o (whole 1 ∷ whole 0 ∷ [])) (per_element_above 0)) ≡ Ok
    (flat.Boolean true)
unfolding gcd ratio lowest
exists_stops_at_true = search (rules, equations, value.the_lemmas)

for_all_stops_at_false : gives (expr.ForAll o (expr.List o (whole 1 ∷ whole 0 ∷ [])) (per_element_above 1)) ≡ Ok
    (flat.Boolean false)
unfolding gcd ratio lowest
for_all_stops_at_false = search (rules, equations, value.the_lemmas)

abbrev months : ℕ → Expr
months k = leaf.Literal o (literal.Duration (record { months = pos k; days = pos 0 }))

abbrev days : ℕ → Expr
days k = leaf.Literal o (literal.Duration (record { months = pos 0; days = pos k }))

contains_stops_at_an_equal_one : gives (expr.Contains o there (expr.List o (months 1 ∷ days 1 ∷ [])) (months 1)) ≡ Ok
    (flat.Boolean true)
unfolding compared_spans
contains_stops_at_an_equal_one = search (rules, equations, value.the_lemmas)

contains_compares_what_comes_before : gives (expr.Contains o there (expr.List o (days 1 ∷ months 1 ∷ [])) (months 1))
    ≡ Err (Fault Uncomparable there)
unfolding compared_spans
contains_compares_what_comes_before = search (rules, equations, value.the_lemmas)

a_sum_adds_in_order : gives
    (expr.Sum there Integers
    (expr.List o (whole 9223372036854775807 ∷ whole 1 ∷ leaf.Literal o (literal.Integer (negsuc 0)) ∷ []))) ≡ Err
    (Fault Overflow there)
a_sum_adds_in_order = search (rules, equations, value.the_lemmas)

combining_goes_over_the_elements : gives (expr.Combine o (expr.List o (whole 1 ∷ whole 2 ∷ [])) (whole 4)
    (expr.Binary o AddIntegers o (leaf.Local o 0) (leaf.Local o 1))) ≡ Ok (flat.Integer (pos 7))
combining_goes_over_the_elements = search (rules, equations, value.the_lemmas)

-- fields are evaluated in written order, and stand in the order of their declarations
fields_stand_in_their_order : gives
    (expr.Structure o 0 (record { field = 1; value = whole 5 } ∷ record { field = 0; value = whole 4 } ∷ [])) ≡ Ok
    (value.Structure (flat.Integer (pos 4) ∷ flat.Integer (pos 5) ∷ []))
fields_stand_in_their_order = search (rules, equations, value.the_lemmas)

the_first_written_field_faults_first : gives
    (expr.Structure o 0
    (record { field = 1; value = per 0 } ∷ record {
      field = 0;
      value = expr.Binary o DivideIntegers (at 2 2) (whole 1)
          (whole 0);
    } ∷ [])) ≡ Err (Fault DivisionByZero there)
unfolding gcd ratio lowest
the_first_written_field_faults_first = search (rules, equations, value.the_lemmas)

-- the case 1 of an enumeration, with a content
abbrev with_three : Expr
with_three = expr.Case o 0 1 (Some (whole 3))

abbrev its_arms : List Arm
its_arms = record { pattern = pattern.Case 0 false; body = whole 1 } ∷ record {
  pattern = pattern.Case 1 true;
  body =
      leaf.Local o 0;
} ∷ []

its_value : eval nothing with_three [] ≡ plain (Ok (value.Case 1 (Some (flat.Integer (pos 3)))))
its_value = eval_Case_Some nothing o 0 1 (whole 3) []
    ∙ ap (λ run. and_then run (λ v. plain (Ok (value.Case 1 (Some v)))))
    (eval_Literal nothing o (literal.Integer (pos 3)) [])

an_arm_binds_the_content : gives (expr.Match o with_three its_arms) ≡ Ok (flat.Integer (pos 3))
an_arm_binds_the_content =
    ap (λ (run : Run Value). run.end)
    (eval_Match nothing o with_three its_arms []
    ∙ ap (λ run. and_then run (λ v. and_then (plain (case_of v)) (λ c. eval_arms nothing its_arms c.0 c.1 [])))
    its_value)
    ∙ search (rules, equations, value.the_lemmas)

anything_is_for_each_case : gives
    (expr.Match o (expr.Case o 0 1 None) (record { pattern = pattern.Case 0 false; body = whole 1 } ∷
    record { pattern = pattern.Anything; body = whole 2 } ∷ [])) ≡ Ok (flat.Integer (pos 2))
anything_is_for_each_case = search (rules, equations, value.the_lemmas)
