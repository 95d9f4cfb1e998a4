-- What a run tells of a definition.
use Rattle.std.proofs.Common.{◌≡◌, ◌∙◌, ℕ, Bool, true, List, Option, None, Some, refl, ap, sym, true≢false}
use Rattle.std.proofs.Math.Logic.{∥∥₁_elim}
use Rattle.std.proofs.Props.{props}
use Rattle.cat_pos.specs.declared.pos.Pos.{Pos}
use Rattle.cat_value.specs.declared.declaration.ItemDecl.{ItemDecl}
use Rattle.cat_value.specs.declared.decls.Decls.{Decls}
use Rattle.cat_value.specs.declared.value.Value.{Value}
use Rattle.cat_value.specs.declared.outcome.Outcome.{Outcome}
use Rattle.cat_value.specs.declared.outcome.Target.{Target}
use Rattle.cat_value.specs.Inputs.{IsWellTyped}
use Rattle.cat_region.specs.Regions.{Constraints}
use Rattle.cat_scope.specs.declared.programs.Program.{Program}
use Rattle.cat_scope.specs.Calls.{Items}
use Rattle.cat_scope.specs.Outcomes.{deciders, scope_outcome}
use Rattle.cat_sound.specs.Endings.{IsOutcomeOf}
use Rattle.cat_code.specs.declared.code.Code.{Code}
use Rattle.cat_guard.specs.declared.table.Table.{Table}
use Rattle.cat_guard.specs.declared.table.TableTarget.{TableTarget}
use Rattle.cat_machine.specs.declared.log.LogEntry.{LogEntry}
use Rattle.cat_machine.specs.States.{decided}
use Rattle.cat_machine.specs.Running.{Logs}
use Rattle.cat_machine.specs.ForPrograms.{IsCodeFor}
use Rattle.cat_audit.specs.Findings.{undecided_at, shown_input}
use Rattle.cat_dead_report.specs.Deciders.{has_decider}
use Rattle.cat_dead_report.specs.RunLines.{line_by, line_from, line_in}
use Rattle.cat_dead_report.specs.inside.Faultless.{is_sure}

-- the log of the code has a decider where the run of the scope has it
pub logged : (program : Program) (code : Code) → ∥ IsCodeFor program code ∥₁ → (scope : ℕ) (input : Items)
    → IsWellTyped program.decls scope input → (target : Target) (p : Pos) (log : List LogEntry)
    → Logs code scope input log
    → has_decider target p (decided code.tables log) ≡ has_decider target p (deciders program scope input)
logged program code is scope input typed target p log logs = ∥∥₁_elim is (hlevel props) (λ for_program.
    let runs = for_program.runs scope input typed in
    ap (has_decider target p) (logs runs.run runs.gives ∙ runs.log))

-- a run has an outcome
pub some_outcome : (ds : Decls) (items : List ItemDecl) (o : Option Outcome) → IsOutcomeOf ds items o
    → (outcome : Outcome) × (o ≡ Some outcome)
some_outcome ds items None is = elim is [ ]
some_outcome ds items (Some outcome) is = (outcome, refl)

-- what is known without a run
pub sure_parts : (faultless : Bool) (at : Option Pos) → is_sure faultless at ≡ true → (faultless ≡ true) × (at ≡ None)
sure_parts faultless None sure = (sure, refl)
sure_parts faultless (Some at) sure = absurd (true≢false (sym sure))

-- what a run says
pub line_said : (program : Program) (table : Table) (t : TableTarget) (p : Pos) (region : Constraints) (b : Bool)
    (at : Option Pos) (input : List (Option Value)) (o : Outcome) → input ≡ shown_input program table region
    → b ≡ has_decider t.target p (deciders program table.scope input) → at ≡ undecided_at table.terms t region
    → scope_outcome program table.scope input ≡ Some o
    → line_in program table t p region ≡ Some (line_by b at input o)
line_said program table t p region b at input o shown decides hangs comes =
    let here = shown_input program table region in
    ap (λ i. line_from (has_decider t.target p (deciders program table.scope i)) (undecided_at table.terms t region) i
    (scope_outcome program table.scope i)) (sym shown)
    ∙ ap (λ c. line_from c (undecided_at table.terms t region) input (scope_outcome program table.scope input))
    (sym decides)
    ∙ ap (λ q. line_from b q input (scope_outcome program table.scope input)) (sym hangs)
    ∙ ap (line_from b at input) comes
