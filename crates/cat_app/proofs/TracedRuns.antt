-- What a trace says of the log of a run.
use Rattle.std.proofs.Common.{◌≡◌, ◌∙◌, ℕ, List, ap}
use Rattle.std.proofs.Math.Logic.{∥∥₁_elim}
use Rattle.std.proofs.Props.{props}
use Rattle.cat_value.specs.declared.decls.Decls.{Decls}
use Rattle.cat_value.specs.Inputs.{IsWellTyped}
use Rattle.cat_scope.specs.declared.programs.Program.{Program}
use Rattle.cat_scope.specs.Calls.{Items}
use Rattle.cat_scope.specs.Outcomes.{deciders}
use Rattle.cat_weave.specs.declared.source.Source.{Source}
use Rattle.cat_code.specs.declared.code.Code.{Code}
use Rattle.cat_machine.specs.declared.log.LogEntry.{LogEntry}
use Rattle.cat_machine.specs.States.{decided}
use Rattle.cat_machine.specs.Running.{Logs}
use Rattle.cat_machine.specs.ForPrograms.{IsCodeFor}
use Rattle.cat_trace.specs.Traces.{trace_text}

-- it is what it says of the deciders of the scope
pub tells_deciders : (program : Program) (code : Code) → ∥ IsCodeFor program code ∥₁ → (scope : ℕ) (input : Items)
    → IsWellTyped program.decls scope input → (source : Source) (log : List LogEntry) → Logs code scope input log
    → trace_text code.tables.decls source (decided code.tables log)
    ≡ trace_text program.decls source (deciders program scope input)
tells_deciders program code is scope input typed source log logs = ∥∥₁_elim is (hlevel props) (λ runs.
    let here = runs.runs scope input typed in
    ap (λ (ds : Decls). trace_text ds source (decided code.tables log)) runs.declared
    ∙ ap (trace_text program.decls source) (logs here.run here.gives ∙ here.log))
