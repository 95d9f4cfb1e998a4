-- The answer to one who asked for the code of a program, alone or with a run of it, or for what decided in a run.
use Rattle.std.specs.Prelude.{◌≡◌, ◌≤◌, ℕ, List, [], ◌∷◌, ◌++◌, length, Option, codes}
use Rattle.std.specs.Fmt.{decimal}
use Rattle.cat_pos.specs.Limits.{most_input_bytes}
use Rattle.cat_io.specs.Shelf.{Shelved}
use Rattle.cat_value.specs.declared.value.Value.{Value}
use Rattle.cat_scope.specs.declared.programs.Program.{Program}
use Rattle.cat_scope.specs.Outcomes.{deciders}
use Rattle.cat_weave.specs.declared.source.Source.{Source}
use Rattle.cat_code.specs.declared.code.Code.{Code}
use Rattle.cat_machine.specs.Running.{Counts}
use Rattle.cat_machine.specs.ForPrograms.{IsCodeFor}
use Rattle.cat_listing.specs.Listing.{listing}
use Rattle.cat_emitted.specs.Accepted.{IsAcceptedListing}
use Rattle.cat_trace.specs.Traces.{trace_text}
use Rattle.cat_app.specs.Words.{Request}
use Rattle.cat_app.specs.Asked.{IsAsked}
use Rattle.cat_app.specs.declared.request.Mode.{Mode}
use Rattle.cat_app.specs.declared.request.Mode.TheVariants.{Run, Emit, EmitRun, Trace}

-- a text is the listing of code that runs each scope of a program to its outcome, by its deciders; where it is short
-- enough to be read, it is accepted
pub record ListsCode (source : Source) (program : Program) (text : List ℕ) : Type 0 where
  pub code : Code
  pub declared : code.tables.decls ≡ program.decls
  pub code_is : ∥ IsCodeFor program code ∥₁
  pub text_is : text ≡ listing code source.files
  pub accepted : length text ≤ most_input_bytes → IsAcceptedListing text source.files code

-- of an emit: such a listing
pub record IsListed (request : Request) (old new : Shelved) (text : List ℕ) : Type 0 where
  pub source : Source
  pub program : Program
  pub scope : ℕ
  pub mode : request.mode ≡ Emit
  pub asked : IsAsked request old source program scope
  pub lists : ListsCode source program text
  pub untouched : new ≡ old

-- the line of a number of steps
abbrev pub steps_line : ℕ → List ℕ
steps_line steps = codes "steps " ++ (decimal steps ++ 10 ∷ [])

-- a text is such a listing, and how many steps that very code takes from a scope's start on an input to the outcome
pub record ListsSteps (source : Source) (program : Program) (scope : ℕ) (input : List (Option Value)) (text : List ℕ)
    : Type 0 where
  pub code : Code
  pub steps : ℕ
  pub code_is : ∥ IsCodeFor program code ∥₁
  pub steps_are : Counts code scope input steps
  pub text_is : text ≡ listing code source.files ++ steps_line steps

-- what stands in front of the line of an outcome: nothing of a run; of an emit with an input the code that was run, and
-- its steps; of a trace what decided each judging that ended
abbrev pub StandsInFront : Mode → Source → Program → ℕ → List (Option Value) → List ℕ → Type 0
StandsInFront Run source program scope input front = front ≡ []
StandsInFront EmitRun source program scope input front = ListsSteps source program scope input front
StandsInFront Trace source program scope input front =
    front ≡ trace_text program.decls source (deciders program scope input)
StandsInFront mode source program scope input front = ⊥
