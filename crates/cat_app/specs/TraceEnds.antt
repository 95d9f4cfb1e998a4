-- How a trace ends.
use Rattle.std.specs.Prelude.{◌≡◌, ◌≤◌, ℕ, List, length, Option, Ok, Some}
use Rattle.cat_pos.specs.Limits.{most_input_bytes}
use Rattle.cat_io.specs.Shelf.{Shelved}
use Rattle.cat_io.specs.Sink.{Sunk}
use Rattle.cat_value.specs.declared.value.Value.{Value}
use Rattle.cat_scope.specs.declared.programs.Program.{Program}
use Rattle.cat_json.specs.InputsRead.{input_read}
use Rattle.cat_weave.specs.declared.source.Source.{Source}
use Rattle.cat_app.specs.Words.{Request}
use Rattle.cat_app.specs.Complete.{IsToldScope}
use Rattle.cat_app.specs.EmitEnds.{EndsTold}
use Rattle.cat_app.specs.declared.request.Mode.TheVariants.{Trace}
use Rattle.cat_app.specs.declared.status.Status.{Status}

-- the words ask for a trace of a scope of a source that is accepted, on an input that is read, over contents that the
-- shelf tells
pub record IsToldTrace (words : List (List ℕ)) (old : Shelved) (request : Request) (source : Source) (program : Program)
    (scope : ℕ) (input : List (Option Value)) : Type 0 where
  pub extra : List ℕ
  pub told : IsToldScope words old request source program scope
  pub mode : request.mode ≡ Trace
  pub extra_told : old.content request.extra ≡ Some extra
  pub extra_short : length extra ≤ most_input_bytes
  pub input_is : input_read program.decls scope extra ≡ Ok input

-- what decided each judging that ended, under its heading, and then the scope's outcome are written whole
abbrev pub EndsTrace : Sunk → Sunk → Source → Program → ℕ → List (Option Value) → Status → Type 0
EndsTrace = EndsTold Trace
