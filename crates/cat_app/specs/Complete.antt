-- What follows from the answers: when a reply comes, and when a fault can't.
use Rattle.std.specs.Prelude.{◌≡◌, ℕ, ◌≤◌, Bool, true, false, List, [], length, Option, Some, Ok, IfSome, ⊤}
use Rattle.std.specs.List.{concat}
use Rattle.std.specs.Io.KnownBytes.{Appends}
use Rattle.cat_pos.specs.Limits.{most_input_bytes}
use Rattle.cat_io.specs.Shelf.{Shelved}
use Rattle.cat_io.specs.Sink.{Sunk}
use Rattle.cat_value.specs.declared.value.Value.{Value}
use Rattle.cat_value.specs.declared.outcome.Outcome.{Outcome}
use Rattle.cat_scope.specs.declared.programs.Program.{Program}
use Rattle.cat_scope.specs.Named.{number_named}
use Rattle.cat_scope.specs.Outcomes.{scope_outcome}
use Rattle.cat_json.specs.InputsRead.{input_read}
use Rattle.cat_answer.specs.Answer.{answer_of}
use Rattle.cat_weave.specs.declared.source.Source.{Source}
use Rattle.cat_weave.specs.Gathered.{Whole, gathered}
use Rattle.cat_build.specs.Accepted.{IsAccepted}
use Rattle.cat_app.specs.Words.{Request, request_of}
use Rattle.cat_app.specs.Lines.{line, status_of}
use Rattle.cat_app.specs.Checks.{HasCertificate, HasNoCertificate}
use Rattle.cat_app.specs.Many.{IsAskedMany}
use Rattle.cat_app.specs.Table.{MayReply}
use Rattle.cat_app.specs.declared.request.Mode.TheVariants.{Run, Check}
use Rattle.cat_app.specs.declared.status.Status.{Status}
use Rattle.cat_app.specs.declared.status.Status.TheVariants.{Certificate, Fine, Missing, ReadFault, WriteFault, Memory}
use Rattle.cat_app.specs.declared.status.Status.TheVariants.{TooLarge}

-- whether a status tells of a cause outside: a shelf's or a sink's
abbrev pub is_fault : Status → Bool
is_fault Missing = true
is_fault ReadFault = true
is_fault TooLarge = true
is_fault WriteFault = true
is_fault status = false

-- whether the reply of a status is a function of the words and the bytes
abbrev pub is_reply : Status → Bool
is_reply Missing = false
is_reply ReadFault = false
is_reply TooLarge = false
is_reply WriteFault = false
is_reply Memory = false
is_reply status = true

-- the lines of many inputs fit, where the words ask for these
abbrev pub LinesFit : Option Request → Shelved → ℕ → Type 0
LinesFit asked old room = IfSome asked (λ request.
    (lines : List (List ℕ)) → IsAskedMany request old lines → length (concat lines) ≤ room)

-- each text that may come here fits, and so do the lines
pub record RepliesFit (words : List (List ℕ)) (old new : Shelved) (room : ℕ) : Type 0 where
  pub texts : (status : Status) (text : List ℕ) → MayReply words old new status text → length text ≤ room
  pub lines : LinesFit (request_of words) old room

-- the words ask for a scope of a source that is accepted, over contents that the shelf tells
pub record IsToldScope (words : List (List ℕ)) (old : Shelved) (request : Request) (source : Source)
    (program : Program) (scope : ℕ) : Type 0 where
  pub asked : request_of words ≡ Some request
  pub source_told : gathered old.content request.file ≡ Whole source
  pub accepted : IsAccepted source.pieces program
  pub named : number_named request.scope 0 program.decls.scopes ≡ Some scope

-- they ask for a run of it, on an input that is told and is read
pub record IsToldRun (words : List (List ℕ)) (old : Shelved) (request : Request) (source : Source) (program : Program)
    (scope : ℕ) (input : List (Option Value)) : Type 0 where
  pub extra : List ℕ
  pub told : IsToldScope words old request source program scope
  pub mode : request.mode ≡ Run
  pub extra_told : old.content request.extra ≡ Some extra
  pub extra_short : length extra ≤ most_input_bytes
  pub input_is : input_read program.decls scope extra ≡ Ok input

-- the scope's outcome on the input is written whole, with its status
pub record WritesOutcome (sink sunk : Sunk) (source : Source) (program : Program) (scope : ℕ)
    (input : List (Option Value)) (ended : Status) : Type 0 where
  pub outcome : Outcome
  pub outcome_is : scope_outcome program scope input ≡ Some outcome
  pub status : ended ≡ status_of outcome
  pub written : Appends sink.taken sunk.taken (line (answer_of program.decls scope source.files outcome) [])

-- the outcome is written; else the shelf or the sink failed, or memory ran out
abbrev pub EndsRun : Sunk → Sunk → Source → Program → ℕ → List (Option Value) → Status → Type 0
EndsRun sink sunk source program scope input ReadFault = ⊤
EndsRun sink sunk source program scope input WriteFault = ⊤
EndsRun sink sunk source program scope input Memory = ⊤
EndsRun sink sunk source program scope input status = WritesOutcome sink sunk source program scope input status

-- the words ask for a check of a scope of a source that is accepted, with bytes that are to be a certificate, over
-- contents that the shelf tells
pub record IsToldCheck (words : List (List ℕ)) (old : Shelved) (request : Request) (source : Source) (program : Program)
    (scope : ℕ) (extra : List ℕ) : Type 0 where
  pub told : IsToldScope words old request source program scope
  pub mode : request.mode ≡ Check
  pub extra_told : old.content request.extra ≡ Some extra
  pub extra_short : length extra ≤ most_input_bytes

-- a text of this kind is written whole
abbrev pub WritesText : Sunk → Sunk → (List ℕ → Type 0) → Type 0
WritesText sink sunk IsText = (text : List ℕ) × IsText text × Appends sink.taken sunk.taken text

-- a yes is written, or why not; else the shelf or the sink failed, or memory ran out
abbrev pub EndsCheck : Sunk → Sunk → Program → ℕ → List ℕ → Status → Type 0
EndsCheck sink sunk program scope extra ReadFault = ⊤
EndsCheck sink sunk program scope extra WriteFault = ⊤
EndsCheck sink sunk program scope extra Memory = ⊤
EndsCheck sink sunk program scope extra Fine = WritesText sink sunk (HasCertificate program scope extra)
EndsCheck sink sunk program scope extra Certificate = WritesText sink sunk (HasNoCertificate program scope extra)
EndsCheck sink sunk program scope extra status = ⊥
