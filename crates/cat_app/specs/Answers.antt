-- The answers of the top call, each with its cause.
use Rattle.std.specs.Prelude.{◌≡◌, ℕ, IsTrue, List, [], ◌++◌, Option, Some, None, Ok, Err, codes}
use Rattle.cat_io.specs.Shelf.{Shelved, Reads}
use Rattle.cat_io.specs.declared.shelf.ShelfFault.{ShelfFault}
use Rattle.cat_pos.specs.declared.pos.Pos.{Pos}
use Rattle.cat_value.specs.declared.value.Value.{Value}
use Rattle.cat_value.specs.declared.outcome.Outcome.{Outcome}
use Rattle.cat_scope.specs.declared.programs.Program.{Program}
use Rattle.cat_scope.specs.Named.{number_named}
use Rattle.cat_scope.specs.Outcomes.{scope_outcome}
use Rattle.cat_json.specs.declared.refusal.InputRefusal.{InputRefusal}
use Rattle.cat_json.specs.InputsRead.{input_read}
use Rattle.cat_answer.specs.Answer.{answer_of, position_text}
use Rattle.cat_weave.specs.declared.source.Source.{Source}
use Rattle.cat_weave.specs.declared.source.GatherRefusal.{GatherRefusal}
use Rattle.cat_weave.specs.Gathered.{Refused}
use Rattle.cat_weave.specs.Causes.{HasEnding}
use Rattle.cat_build.specs.declared.code.FaultCode.{FaultCode}
use Rattle.cat_build.specs.Accepted.{IsAccepted}
use Rattle.cat_build.specs.Causes.{StandsAt}
use Rattle.cat_build.specs.Codes.{number_of}
use Rattle.cat_app.specs.Modes.{runs_scope}
use Rattle.cat_app.specs.Words.{Request}
use Rattle.cat_app.specs.Lines.{gathering_line, input_line, line, refusal_line, status_of}
use Rattle.cat_app.specs.declared.request.Mode.{Mode}
use Rattle.cat_app.specs.Asked.{IsSource, IsExtra, IsAsked, IsReadNow}
use Rattle.cat_app.specs.Listings.{StandsInFront}
use Rattle.cat_app.specs.declared.status.Status.{Status}
use Rattle.cat_app.specs.declared.status.Status.TheVariants as status

-- a text tells, with its status, what a scope gives on an input: the line of its outcome, behind what the mode asks for
pub record TellsOutcome (mode : Mode) (source : Source) (program : Program) (scope : ℕ) (input : List (Option Value))
    (ended : Status) (text : List ℕ) : Type 0 where
  pub outcome : Outcome
  pub front : List ℕ
  pub outcome_is : scope_outcome program scope input ≡ Some outcome
  pub status : ended ≡ status_of outcome
  pub front_is : StandsInFront mode source program scope input front
  pub reply : text ≡ front ++ line (answer_of program.decls scope source.files outcome) []

-- The replies. The files are as they may have been read, and no name was listed.

-- of a run, an emit with an input, or a trace: what the scope gives on the input
pub record IsOutcome (request : Request) (old new : Shelved) (ended : Status) (text : List ℕ) : Type 0 where
  pub source : Source
  pub program : Program
  pub scope : ℕ
  pub extra : List ℕ
  pub input : List (Option Value)
  pub mode : IsTrue (runs_scope request.mode)
  pub asked : IsAsked request old source program scope
  pub extra_read : IsExtra request old extra
  pub input_is : input_read program.decls scope extra ≡ Ok input
  pub tells : TellsOutcome request.mode source program scope input ended text
  pub untouched : new ≡ old

-- a file of the source isn't text, has an open block, or includes one that is taken or one too many
pub record IsRefusedFile (request : Request) (old new : Shelved) (text : List ℕ) : Type 0 where
  pub refusal : GatherRefusal
  pub ending : HasEnding old.content request.file (Refused refusal)
  pub untouched : new ≡ old
  pub reply : gathering_line refusal ≡ Some text

-- the source is gathered, and this stands in it at this position
pub record IsRefusedSource (request : Request) (old new : Shelved) (text : List ℕ) : Type 0 where
  pub source : Source
  pub code : FaultCode
  pub pos : Pos
  pub source_read : IsSource request old source
  pub stands : StandsAt source.pieces code pos
  pub untouched : new ≡ old
  pub reply : text ≡ refusal_line (number_of code) (position_text source.files pos)

-- the source is accepted, and declares no scope of that name
pub record IsNoScope (request : Request) (old new : Shelved) (text : List ℕ) : Type 0 where
  pub source : Source
  pub program : Program
  pub source_read : IsSource request old source
  pub accepted : IsAccepted source.pieces program
  pub unnamed : number_named request.scope 0 program.decls.scopes ≡ None
  pub untouched : new ≡ old
  pub reply : text ≡ line (codes "no such scope ") request.scope

-- of a run, an emit with an input, or a trace: the input is none of the scope's
pub record IsRefusedInput (request : Request) (old new : Shelved) (text : List ℕ) : Type 0 where
  pub source : Source
  pub program : Program
  pub scope : ℕ
  pub extra : List ℕ
  pub refusal : InputRefusal
  pub mode : IsTrue (runs_scope request.mode)
  pub asked : IsAsked request old source program scope
  pub extra_read : IsExtra request old extra
  pub refused : input_read program.decls scope extra ≡ Err refusal
  pub untouched : new ≡ old
  pub reply : input_line refusal ≡ Some text

-- the words ask for nothing
pub record IsUsage (old new : Shelved) (ended : Status) (text : List ℕ) : Type 0 where
  pub untouched : new ≡ old
  pub ended_is : ended ≡ status.Usage
  pub reply : text ≡ line (codes "usage: catala MODE SCOPE FILE [EXTRA] [--cases N]") []

-- The shelf's own causes.

-- the file that is read now was refused by the shelf, and its name's count rose: this line tells of it
pub record IsRefusedRead (request : Request) (old new : Shelved) (fault : ShelfFault) (words text : List ℕ) : Type 0
  where
    pub name : List ℕ
    pub limit : ℕ
    pub now : IsReadNow request old name limit
    pub read : Reads name limit old new (Err fault)
    pub reply : text ≡ line words name
