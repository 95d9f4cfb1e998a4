-- How an emit ends.
use Rattle.std.specs.Prelude.{◌≡◌, ◌≤◌, ℕ, List, length, Option, Ok, Some, ⊤}
use Rattle.cat_pos.specs.Limits.{most_input_bytes}
use Rattle.cat_io.specs.Shelf.{Shelved}
use Rattle.cat_io.specs.Sink.{Sunk}
use Rattle.cat_value.specs.declared.value.Value.{Value}
use Rattle.cat_scope.specs.declared.programs.Program.{Program}
use Rattle.cat_json.specs.InputsRead.{input_read}
use Rattle.cat_weave.specs.declared.source.Source.{Source}
use Rattle.cat_app.specs.Words.{Request}
use Rattle.cat_app.specs.Answers.{TellsOutcome}
use Rattle.cat_app.specs.Complete.{IsToldScope, WritesText}
use Rattle.cat_app.specs.Listings.{ListsCode}
use Rattle.cat_app.specs.declared.request.Mode.{Mode}
use Rattle.cat_app.specs.declared.request.Mode.TheVariants.{Emit, EmitRun}
use Rattle.cat_app.specs.declared.status.Status.{Status}
use Rattle.cat_app.specs.declared.status.Status.TheVariants.{Fine, ReadFault, WriteFault, Memory}

-- the words ask for the code of a source that is accepted and has the scope, over contents that the shelf tells
pub record IsToldEmit (words : List (List ℕ)) (old : Shelved) (request : Request) (source : Source) (program : Program)
    (scope : ℕ) : Type 0 where
  pub told : IsToldScope words old request source program scope
  pub mode : request.mode ≡ Emit

-- a listing of the program's code is written whole; else the shelf or the sink failed, or memory ran out
abbrev pub EndsEmit : Sunk → Sunk → Source → Program → Status → Type 0
EndsEmit sink sunk source program ReadFault = ⊤
EndsEmit sink sunk source program WriteFault = ⊤
EndsEmit sink sunk source program Memory = ⊤
EndsEmit sink sunk source program Fine = WritesText sink sunk (ListsCode source program)
EndsEmit sink sunk source program status = ⊥

-- they ask for it with a run of the scope, on an input that is told and is read
pub record IsToldEmitRun (words : List (List ℕ)) (old : Shelved) (request : Request) (source : Source)
    (program : Program) (scope : ℕ) (input : List (Option Value)) : Type 0 where
  pub extra : List ℕ
  pub told : IsToldScope words old request source program scope
  pub mode : request.mode ≡ EmitRun
  pub extra_told : old.content request.extra ≡ Some extra
  pub extra_short : length extra ≤ most_input_bytes
  pub input_is : input_read program.decls scope extra ≡ Ok input

-- what a mode puts in front of a scope's outcome and that outcome are written whole, with the outcome's status; else
-- the shelf or the sink failed, or memory ran out
abbrev pub EndsTold : Mode → Sunk → Sunk → Source → Program → ℕ → List (Option Value) → Status → Type 0
EndsTold mode sink sunk source program scope input ReadFault = ⊤
EndsTold mode sink sunk source program scope input WriteFault = ⊤
EndsTold mode sink sunk source program scope input Memory = ⊤
EndsTold mode sink sunk source program scope input status =
    WritesText sink sunk (TellsOutcome mode source program scope input status)

-- so are a listing of the program's code and the number of its steps on the input
abbrev pub EndsEmitRun : Sunk → Sunk → Source → Program → ℕ → List (Option Value) → Status → Type 0
EndsEmitRun = EndsTold EmitRun
