-- What each mode comes to follows from the answers.
use Rattle.std.proofs.Common.{ℕ, List}
use Rattle.cat_io.specs.Shelf.{Shelved}
use Rattle.cat_io.specs.Sink.{Sunk}
use Rattle.cat_app.specs.EachMode.{WritesWhatIsAsked}
use Rattle.cat_app.specs.Table.{Answers}
use Rattle.cat_app.specs.declared.status.Status.{Status}
use Rattle.cat_app.proofs.Answering.{at_once, drill_at_once, listing_at_once}
use Rattle.cat_app.proofs.Complete.{FilesAreTold, ends_audit, ends_check}
use Rattle.cat_app.proofs.DeadEnds.{ends_dead, ends_dead_check}
use Rattle.cat_app.proofs.DrillEnds.{ends_drill}
use Rattle.cat_app.proofs.EmitEnds.{ends_emit}
use Rattle.cat_app.proofs.EmittedEnds.{ends_emitted}
use Rattle.cat_app.proofs.ExecEnds.{OneImage, OneTable, ends_exec}
use Rattle.cat_app.proofs.ManyEnds.{many_ends}
use Rattle.cat_app.proofs.RunEnds.{emit_run_ends, run_ends, trace_ends}
use Rattle.cat_app.proofs.TableEnds.{ends_table, no_table_of_many}
use Rattle.cat_app.proofs.ToldSources.{AreNotAccepted, EndingsAreTold, IsOneProgram}

module _ (one_program : IsOneProgram) (not_accepted : AreNotAccepted) (endings : EndingsAreTold) (files : FilesAreTold)
    (one_image : OneImage) (one_table : OneTable) (words : List (List ℕ)) (old new : Shelved) (sink sunk : Sunk)
    (ended : Status) (answers : Answers words old new sink sunk ended) where
  pub writes_what_is_asked : WritesWhatIsAsked words old sink sunk ended
  writes_what_is_asked = record {
    a_run_writes_the_outcome = λ request source program scope input run.
        run_ends one_program not_accepted endings files words old new sink sunk request source program scope input run
        ended (at_once words old new sink sunk ended request run.told.asked (λ many. cc (many, run.mode)) answers);
    an_audit_writes_the_report = λ request source program scope audit.
        ends_audit one_program not_accepted endings files words old new sink sunk request source program scope
        audit.told audit.mode ended
        (at_once words old new sink sunk ended request audit.told.asked (λ many. cc (many, audit.mode)) answers);
    a_check_writes_its_answer = λ request source program scope extra check.
        ends_check one_program not_accepted endings files words old new sink sunk request source program scope
        check.told extra check ended
        (at_once words old new sink sunk ended request check.told.asked (λ many. cc (many, check.mode)) answers);
    an_emit_writes_the_listing = λ request source program scope emit.
        ends_emit one_program not_accepted endings files words old new sink sunk request source program scope emit.told
        emit.mode ended
        (at_once words old new sink sunk ended request emit.told.asked (λ many. cc (many, emit.mode)) answers);
    an_emit_with_an_input_writes_its_steps = λ request source program scope input run.
        emit_run_ends one_program not_accepted endings files words old new sink sunk request source program scope input
        run ended (at_once words old new sink sunk ended request run.told.asked (λ many. cc (many, run.mode)) answers);
    a_trace_writes_what_decided = λ request source program scope input run.
        trace_ends one_program not_accepted endings files words old new sink sunk request source program scope input run
        ended (at_once words old new sink sunk ended request run.told.asked (λ many. cc (many, run.mode)) answers);
    a_run_on_many_writes_a_line_each = λ request source program scope inputs many.
        many_ends one_program not_accepted endings files words old new sink sunk request source program scope inputs
        many ended answers;
    a_table_writes_what_decides = λ request source program scope table.
        ends_table one_program not_accepted endings files words old new sink sunk request source program scope
        table.told table.mode ended (at_once words old new sink sunk ended request table.told.asked
        (λ many. no_table_of_many request.mode many table.mode) answers);
    a_dead_report_tells_what_never_decides = λ request source program scope dead.
        ends_dead one_program not_accepted endings files words old new sink sunk request source program scope dead.told
        dead.mode ended
        (at_once words old new sink sunk ended request dead.told.asked (λ many. cc (many, dead.mode)) answers);
    a_certificate_of_dead_definitions_is_checked = λ request source program scope extra check.
        ends_dead_check one_program not_accepted endings files words old new sink sunk request source program scope
        check.told extra check ended
        (at_once words old new sink sunk ended request check.told.asked (λ many. cc (many, check.mode)) answers);
    an_exec_writes_what_the_code_gives = λ request code files scope input exec.
        ends_exec one_image one_table words old new sink sunk request code files scope input exec ended
        (listing_at_once words old new sink sunk ended request exec.asked answers);
    an_exec_of_an_emitted_listing_is_a_run = λ request source program scope input told.
        ends_emitted one_image one_table words old new sink sunk request source program scope input told ended
        (listing_at_once words old new sink sunk ended request told.asked answers);
    a_drill_writes_its_line = λ bands source program scope drill.
        ends_drill one_program not_accepted endings words old new sink sunk bands source program scope drill ended
        (drill_at_once words old new sink sunk ended bands drill.asked answers);
  }
