-- How a run of listed code ends.
use Rattle.std.specs.Prelude.{◌≡◌, ◌≤◌, ℕ, List, length, Option, Ok, Some, ⊤}
use Rattle.cat_pos.specs.Limits.{most_input_bytes}
use Rattle.cat_io.specs.Shelf.{Shelved}
use Rattle.cat_io.specs.Sink.{Sunk}
use Rattle.cat_value.specs.declared.value.Value.{Value}
use Rattle.cat_scope.specs.declared.programs.Program.{Program}
use Rattle.cat_scope.specs.Named.{number_named}
use Rattle.cat_json.specs.InputsRead.{input_read}
use Rattle.cat_weave.specs.declared.source.Source.{Source}
use Rattle.cat_code.specs.declared.code.Code.{Code}
use Rattle.cat_code.specs.declared.code.Tables.{Tables}
use Rattle.cat_code.specs.declared.instr.Instr.{Instr}
use Rattle.cat_app.specs.Words.{ListingRequest, listing_of}
use Rattle.cat_app.specs.Complete.{WritesText}
use Rattle.cat_app.specs.Executed.{IsCodeOf, TellsRun}
use Rattle.cat_app.specs.Listings.{ListsCode}
use Rattle.cat_app.specs.declared.status.Status.{Status}
use Rattle.cat_app.specs.declared.status.Status.TheVariants.{ReadFault, WriteFault, Memory}

-- the words ask for a run of the code of a listing on an input, over contents that the shelf tells
pub record IsToldExec (words : List (List ℕ)) (old : Shelved) (request : ListingRequest) (code : Code)
    (files : List (List ℕ)) (scope : ℕ) (input : List (Option Value)) : Type 0 where
  pub bytes : List ℕ
  pub extra : List ℕ
  pub asked : listing_of words ≡ Some request
  pub listing_told : old.content request.file ≡ Some bytes
  pub listing_short : length bytes ≤ most_input_bytes
  pub code_is : IsCodeOf bytes code files
  pub named : number_named request.scope 0 code.tables.decls.scopes ≡ Some scope
  pub extra_told : old.content request.extra ≡ Some extra
  pub extra_short : length extra ≤ most_input_bytes
  pub input_is : input_read code.tables.decls scope extra ≡ Ok input

-- what the code gives is written whole, with its status; else the shelf or the sink failed, or memory ran out
abbrev pub EndsExec : Sunk → Sunk → Tables → List Instr → List (List ℕ) → ℕ → List (Option Value) → Status → Type 0
EndsExec sink sunk tables code files scope input ReadFault = ⊤
EndsExec sink sunk tables code files scope input WriteFault = ⊤
EndsExec sink sunk tables code files scope input Memory = ⊤
EndsExec sink sunk tables code files scope input status =
    WritesText sink sunk (TellsRun tables code files scope input status)

-- the listing is one that an emit may write of a program, and the input is one of its scope
pub record IsToldListing (words : List (List ℕ)) (old : Shelved) (request : ListingRequest) (source : Source)
    (program : Program) (scope : ℕ) (input : List (Option Value)) : Type 0 where
  pub bytes : List ℕ
  pub extra : List ℕ
  pub asked : listing_of words ≡ Some request
  pub listing_told : old.content request.file ≡ Some bytes
  pub listing_short : length bytes ≤ most_input_bytes
  pub lists : ListsCode source program bytes
  pub named : number_named request.scope 0 program.decls.scopes ≡ Some scope
  pub extra_told : old.content request.extra ≡ Some extra
  pub extra_short : length extra ≤ most_input_bytes
  pub input_is : input_read program.decls scope extra ≡ Ok input
