-- How a run on many inputs ends.
use Rattle.std.specs.Prelude.{◌≡◌, ◌≤◌, ℕ, List, length, take, Ok, Some, ⊤}
use Rattle.std.specs.List.{concat}
use Rattle.std.specs.Io.KnownBytes.{Appends}
use Rattle.cat_pos.specs.Limits.{most_input_bytes}
use Rattle.cat_io.specs.Shelf.{Shelved}
use Rattle.cat_io.specs.Sink.{Sunk}
use Rattle.cat_scope.specs.declared.programs.Program.{Program}
use Rattle.cat_json.specs.InputsRead.{inputs_read}
use Rattle.cat_weave.specs.declared.source.Source.{Source}
use Rattle.cat_app.specs.Words.{Request}
use Rattle.cat_app.specs.Many.{AreLines, ReadInput}
use Rattle.cat_app.specs.Complete.{IsToldScope}
use Rattle.cat_app.specs.declared.request.Mode.TheVariants.{Many}
use Rattle.cat_app.specs.declared.status.Status.{Status}
use Rattle.cat_app.specs.declared.status.Status.TheVariants.{Fine, ReadFault, WriteFault, Memory}

-- the words ask for the outcomes of a scope of a source that is accepted, on an array whose elements are read as these,
-- over contents that the shelf tells
pub record IsToldMany (words : List (List ℕ)) (old : Shelved) (request : Request) (source : Source) (program : Program)
    (scope : ℕ) (inputs : List ReadInput) : Type 0 where
  pub extra : List ℕ
  pub told : IsToldScope words old request source program scope
  pub mode : request.mode ≡ Many
  pub extra_told : old.content request.extra ≡ Some extra
  pub extra_short : length extra ≤ most_input_bytes
  pub inputs_are : inputs_read program.decls scope extra ≡ Ok inputs

-- the lines of these elements are written whole, and nothing else
pub record WritesLines (sink sunk : Sunk) (source : Source) (program : Program) (scope : ℕ) (inputs : List ReadInput)
    : Type 0 where
  pub lines : List (List ℕ)
  pub lines_are : AreLines program scope source.files inputs lines
  pub written : Appends sink.taken sunk.taken (concat lines)

-- a line is written for each element, or for the first ones where memory ran out; else the shelf or the sink failed
abbrev pub EndsMany : Sunk → Sunk → Source → Program → ℕ → List ReadInput → Status → Type 0
EndsMany sink sunk source program scope inputs ReadFault = ⊤
EndsMany sink sunk source program scope inputs WriteFault = ⊤
EndsMany sink sunk source program scope inputs Memory =
    (count : ℕ) × WritesLines sink sunk source program scope (take count inputs)
EndsMany sink sunk source program scope inputs Fine = WritesLines sink sunk source program scope inputs
EndsMany sink sunk source program scope inputs status = ⊥
