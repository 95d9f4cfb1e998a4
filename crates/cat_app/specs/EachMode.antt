-- What each mode comes to over told contents.
use Rattle.std.specs.Prelude.{ℕ, List, Option}
use Rattle.cat_io.specs.Shelf.{Shelved}
use Rattle.cat_io.specs.Sink.{Sunk}
use Rattle.cat_value.specs.declared.value.Value.{Value}
use Rattle.cat_scope.specs.declared.programs.Program.{Program}
use Rattle.cat_weave.specs.declared.source.Source.{Source}
use Rattle.cat_code.specs.declared.code.Code.{Code}
use Rattle.cat_app.specs.Words.{ListingRequest, Request}
use Rattle.cat_app.specs.Complete.{EndsCheck, EndsRun, IsToldCheck, IsToldRun}
use Rattle.cat_app.specs.AuditEnds.{EndsAudit, IsToldAudit}
use Rattle.cat_app.specs.DeadEnds.{EndsDead, EndsDeadCheck, IsToldDead, IsToldDeadCheck}
use Rattle.cat_app.specs.DrillEnds.{EndsDrill, IsToldDrill}
use Rattle.cat_app.specs.EmitEnds.{EndsEmit, EndsEmitRun, IsToldEmit, IsToldEmitRun}
use Rattle.cat_app.specs.ExecEnds.{EndsExec, IsToldExec, IsToldListing}
use Rattle.cat_app.specs.Many.{ReadInput}
use Rattle.cat_app.specs.ManyEnds.{EndsMany, IsToldMany}
use Rattle.cat_app.specs.TableEnds.{EndsTable, IsToldTable}
use Rattle.cat_app.specs.TraceEnds.{EndsTrace, IsToldTrace}
use Rattle.cat_app.specs.declared.status.Status.{Status}

-- whatever the words ask for of what is told, what the sink took since is what they ask for; else the shelf or the sink
-- failed, or memory ran out
pub record WritesWhatIsAsked (words : List (List ℕ)) (old : Shelved) (sink sunk : Sunk) (ended : Status) : Type 0 where
  -- the outcome of the scope
  pub a_run_writes_the_outcome : (request : Request) (source : Source) (program : Program) (scope : ℕ)
      (input : List (Option Value)) → IsToldRun words old request source program scope input
      → EndsRun sink sunk source program scope input ended
  -- the report of the scope. Where it is complete, no well-typed input of the scope ends in a Conflict or a NoValue.
  -- The text of each input in it is read as that input, and a run on it comes to the outcome that stands beside it
  pub an_audit_writes_the_report : (request : Request) (source : Source) (program : Program) (scope : ℕ)
      → IsToldAudit words old request source program scope → EndsAudit sink sunk request source program scope ended
  -- a yes, after which no well-typed input of the scope ends in a Conflict or a NoValue, or why the bytes are no
  -- certificate
  pub a_check_writes_its_answer : (request : Request) (source : Source) (program : Program) (scope : ℕ)
      (extra : List ℕ) → IsToldCheck words old request source program scope extra
      → EndsCheck sink sunk program scope extra ended
  -- a listing of code that runs each scope of the program, on each well-typed input of it, to its outcome
  pub an_emit_writes_the_listing : (request : Request) (source : Source) (program : Program) (scope : ℕ)
      → IsToldEmit words old request source program scope → EndsEmit sink sunk source program ended
  -- with an input the number of steps that the listed code itself takes on it behind the listing, and then the line
  -- that a run writes, with its status
  pub an_emit_with_an_input_writes_its_steps : (request : Request) (source : Source) (program : Program) (scope : ℕ)
      (input : List (Option Value)) → IsToldEmitRun words old request source program scope input
      → EndsEmitRun sink sunk source program scope input ended
  -- what decided each judging that ended in the run of the scope, a line each under the heading over the definition,
  -- and then the line that a run writes, with its status
  pub a_trace_writes_what_decided : (request : Request) (source : Source) (program : Program) (scope : ℕ)
      (input : List (Option Value)) → IsToldTrace words old request source program scope input
      → EndsTrace sink sunk source program scope input ended
  -- a line for each element of an array, as a run on it alone writes it; where memory runs out, those of the first ones
  pub a_run_on_many_writes_a_line_each : (request : Request) (source : Source) (program : Program) (scope : ℕ)
      (inputs : List ReadInput) → IsToldMany words old request source program scope inputs
      → EndsMany sink sunk source program scope inputs ended
  -- the tables of the targets that are asked for. The regions of a target's leaves and rests are disjoint and admit
  -- every valuation, and the line of a leaf says what decides the target at each valuation of its region; or there is
  -- no such target
  pub a_table_writes_what_decides : (request : Request) (source : Source) (program : Program) (scope : ℕ)
      → IsToldTable words old request source program scope → EndsTable sink sunk request source program scope ended
  -- the report on the definitions of the scope, each line with its cause. A definition of which it is written that it
  -- never decides does so in no run of the scope on a well-typed input. In a plain scope no target of which has more
  -- cells than leaves may be made, each line is `decides`, Masked or `never decides`
  pub a_dead_report_tells_what_never_decides : (request : Request) (source : Source) (program : Program) (scope : ℕ)
      → IsToldDead words old request source program scope → EndsDead sink sunk request source program scope ended
  -- the definitions that win in no leaf of a certificate's trees and decide in no run of the scope on a well-typed
  -- input, whoever made it, and then a yes; or why the bytes are no such certificate
  pub a_certificate_of_dead_definitions_is_checked : (request : Request) (source : Source) (program : Program)
      (scope : ℕ) (extra : List ℕ) → IsToldDeadCheck words old request source program scope extra
      → EndsDeadCheck sink sunk source program scope extra ended
  -- what code that a listing tells gives: it ends on each well-typed input of the scope
  pub an_exec_writes_what_the_code_gives : (request : ListingRequest) (code : Code) (files : List (List ℕ))
      (scope : ℕ) (input : List (Option Value)) → IsToldExec words old request code files scope input
      → EndsExec sink sunk code.tables code.instructions files scope input ended
  -- of a listing that an emit writes of a program what a run of the scope writes
  pub an_exec_of_an_emitted_listing_is_a_run : (request : ListingRequest) (source : Source) (program : Program)
      (scope : ℕ) (input : List (Option Value)) → IsToldListing words old request source program scope input
      → EndsRun sink sunk source program scope input ended
  -- the line of a drill, which has the sum of the rates of its runs, the leaves of the trees of its audit, and the
  -- verdict
  pub a_drill_writes_its_line : (bands : ℕ) (source : Source) (program : Program) (scope : ℕ)
      → IsToldDrill words bands source program scope → EndsDrill sink sunk bands source program scope ended
