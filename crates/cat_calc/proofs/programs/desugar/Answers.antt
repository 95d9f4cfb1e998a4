use Rattle.std.proofs.Common.{◌≡◌, ℕ, sym, ap, ◌∙◌, subst, List}
use Rattle.cat_value.specs.declared.value.Value.{Value}
use Rattle.cat_scope.specs.Calls.{Items}
use Rattle.cat_scope.specs.Runs.{Run}
use Rattle.cat_scope.specs.Running.{scope_run}
use Rattle.cat_scope.specs.Outcomes.{outcome_of}
use Rattle.cat_calc.specs.Calculus.{calc_run}
use Rattle.cat_calc.specs.Desugared.{AreMadeOf}
use Rattle.cat_calc.proofs.Desugaring.{calc_formed, program_runs}
use Rattle.cat_calc.proofs.MadeTerms.{scopes_made}
use Rattle.cat_calc.proofs.programs.desugar.Goals as goal

pub from_parts-requires : goal.from_parts-requires
from_parts-requires c =
    calc_formed c.args.program.now.decls c.in_ok-decls.decls c.args.program.now.bodies c.args.program.now.scope_order
    c.in_ok-scope_order.scope_order c.in_ok-scopes.scopes c.programs_are_well_formed.ensures
    c.in_ok-decls.ensures (c.in_ok-scope_order.ensures ∙ c.scope_order.ensures) c.in_ok-scopes.ensures

pub returns-clause-decls : goal.returns-clause-decls
returns-clause-decls c = c.from_parts.ensures.decls ∙ c.in_ok-decls.ensures

same_runs : (c : goal.After-from_parts) (scope : ℕ) (input : Items)
    → calc_run c.from_parts.result scope input ≡ scope_run c.args.program.now scope input
same_runs c = program_runs c.args.program.now c.args.forests.now c.from_parts.result
    c.programs_are_well_formed.ensures c.requires.stand (returns-clause-decls c)
    (c.from_parts.ensures.scopes ∙ c.in_ok-scopes.ensures)
    (c.from_parts.ensures.scope_order ∙ c.in_ok-scope_order.ensures ∙ c.scope_order.ensures)

pub returns-clause-outcomes : goal.returns-clause-outcomes
returns-clause-outcomes c scope input =
    ap (λ (run : Run (List Value)). outcome_of run.end) (same_runs c scope input)

pub returns-clause-deciders : goal.returns-clause-deciders
returns-clause-deciders c scope input = ap (λ (run : Run (List Value)). run.log) (same_runs c scope input)

pub returns-clause-made : goal.returns-clause-made
returns-clause-made c =
    let program = c.args.program.now in
    subst (AreMadeOf program.bodies) (sym (c.from_parts.ensures.scopes ∙ c.in_ok-scopes.ensures))
    (scopes_made program.decls program.decls.scopes program.bodies)
