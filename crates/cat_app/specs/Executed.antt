-- The answers to one who asked for a run of code that a listing tells.
use Rattle.std.specs.Prelude.{◌≡◌, ◌⊎◌, ℕ, List, [], Option, Some, Ok}
use Rattle.cat_pos.specs.Limits.{most_input_bytes}
use Rattle.cat_io.specs.Shelf.{Shelved}
use Rattle.cat_io.specs.Shelf as shelf
use Rattle.cat_value.specs.Inputs.{IsWellTyped}
use Rattle.cat_value.specs.declared.value.Value.{Value}
use Rattle.cat_value.specs.declared.outcome.Outcome.{Outcome}
use Rattle.cat_scope.specs.Named.{number_named}
use Rattle.cat_scope.specs.Outcomes.{outcome_of}
use Rattle.cat_json.specs.InputsRead.{input_read}
use Rattle.cat_answer.specs.Answer.{answer_of}
use Rattle.cat_code.specs.declared.code.Code.{Code}
use Rattle.cat_code.specs.declared.code.Tables.{Tables}
use Rattle.cat_code.specs.declared.instr.Instr.{Instr}
use Rattle.cat_code.specs.Runs.{Gives, Whole}
use Rattle.cat_image.specs.Image.{IsImage}
use Rattle.cat_image.specs.declared.image.Image.{Image}
use Rattle.cat_verify.specs.Told.{IsVerified}
use Rattle.cat_app.specs.Words.{ListingRequest}
use Rattle.cat_app.specs.Lines.{line, status_of}
use Rattle.cat_app.specs.declared.status.Status.{Status}

-- bytes are the image of valid and tame code with the names of its files
pub record IsCodeOf (bytes : List ℕ) (code : Code) (files : List (List ℕ)) : Type 0 where
  pub image : Image
  pub image_is : IsImage bytes image.tables image.instructions
  pub verified : IsVerified image code files

-- the listing is that of such code, of which the scope that is asked for has this number
pub record IsAskedOf (request : ListingRequest) (shelved : Shelved) (code : Code) (files : List (List ℕ)) (scope : ℕ)
    : Type 0 where
  pub bytes : List ℕ
  pub listing_read : shelf.Gives (shelved.content request.file) most_input_bytes bytes
  pub code_is : IsCodeOf bytes code files
  pub named : number_named request.scope 0 code.tables.decls.scopes ≡ Some scope

-- the file that is read at this point: the listing first, and the input once it is accepted and its scope found
pub record IsListingReadNow (request : ListingRequest) (shelved : Shelved) (name : List ℕ) (limit : ℕ) : Type 0 where
  pub limit_is : limit ≡ most_input_bytes
  pub file : (name ≡ request.file) ⊎ ((name ≡ request.extra)
      × ((code : Code) × (files : List (List ℕ)) × (scope : ℕ) × IsAskedOf request shelved code files scope))

-- code gives a scope on an input this outcome, and no other one
pub record GivesAlone (tables : Tables) (code : List Instr) (scope : ℕ) (input : List (Option Value)) (o : Outcome)
    : Type 0 where
  pub some : ∥ ((run : Whole) × Gives tables code scope input run) ∥₁
  pub alone : (run : Whole) → Gives tables code scope input run → outcome_of run.end ≡ Some o

-- a text tells, with its status, what code gives a scope on an input of it
pub record TellsRun (tables : Tables) (code : List Instr) (files : List (List ℕ)) (scope : ℕ)
    (input : List (Option Value)) (ended : Status) (text : List ℕ) : Type 0 where
  pub outcome : Outcome
  pub typed : IsWellTyped tables.decls scope input
  pub gives : GivesAlone tables code scope input outcome
  pub status : ended ≡ status_of outcome
  pub reply : text ≡ line (answer_of tables.decls scope files outcome) []

-- The replies. No name was listed.

pub record IsExecuted (request : ListingRequest) (old new : Shelved) (ended : Status) (text : List ℕ) : Type 0 where
  pub code : Code
  pub files : List (List ℕ)
  pub scope : ℕ
  pub extra : List ℕ
  pub input : List (Option Value)
  pub asked : IsAskedOf request old code files scope
  pub extra_read : shelf.Gives (old.content request.extra) most_input_bytes extra
  pub input_is : input_read code.tables.decls scope extra ≡ Ok input
  pub tells : TellsRun code.tables code.instructions files scope input ended text
  pub untouched : new ≡ old
