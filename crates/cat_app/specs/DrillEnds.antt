-- How a drill ends.
use Rattle.std.specs.Prelude.{◌≡◌, ℕ, List, Some, ⊤}
use Rattle.cat_io.specs.Sink.{Sunk}
use Rattle.cat_scope.specs.declared.programs.Program.{Program}
use Rattle.cat_scope.specs.Named.{number_named}
use Rattle.cat_weave.specs.declared.source.Source.{Source}
use Rattle.cat_weave.specs.Gathered.{Whole, gathered}
use Rattle.cat_build.specs.Accepted.{IsAccepted}
use Rattle.cat_app.specs.Words.{bands_of}
use Rattle.cat_app.specs.Complete.{WritesText}
use Rattle.cat_app.specs.Drills.{HasLine, HasRefusedRun, HasStop, bands_request, bands_shelf}
use Rattle.cat_app.specs.declared.status.Status.{Status}
use Rattle.cat_app.specs.declared.status.Status.TheVariants.{Conflict, Fault, Fine, Input, NoValue, WriteFault, Memory}

-- the words ask for a drill whose source is accepted, and declares the scope
pub record IsToldDrill (words : List (List ℕ)) (bands : ℕ) (source : Source) (program : Program) (scope : ℕ) : Type 0
  where
    pub asked : bands_of words ≡ Some bands
    pub source_told : gathered (bands_shelf bands).content bands_request.file ≡ Whole source
    pub accepted : IsAccepted source.pieces program
    pub named : number_named bands_request.scope 0 program.decls.scopes ≡ Some scope

-- the line of the drill is written, or the reply to the first run without a value; else the sink failed, or memory ran
-- out
abbrev pub EndsDrill : Sunk → Sunk → ℕ → Source → Program → ℕ → Status → Type 0
EndsDrill sink sunk bands source program scope WriteFault = ⊤
EndsDrill sink sunk bands source program scope Memory = ⊤
EndsDrill sink sunk bands source program scope Fine = WritesText sink sunk (HasLine bands source program scope)
EndsDrill sink sunk bands source program scope Conflict =
    WritesText sink sunk (HasStop bands Conflict source program scope)
EndsDrill sink sunk bands source program scope NoValue =
    WritesText sink sunk (HasStop bands NoValue source program scope)
EndsDrill sink sunk bands source program scope Fault = WritesText sink sunk (HasStop bands Fault source program scope)
EndsDrill sink sunk bands source program scope Input = WritesText sink sunk (HasRefusedRun bands source program scope)
EndsDrill sink sunk bands source program scope status = ⊥
