-- What follows from the answers to one who asked for a run, alone or behind the code that is run.
use Rattle.std.proofs.Common.{◌≡◌, ◌∙◌, ◌≤◌, ◌<◌, ◌++◌, ℕ, List, [], sym, ap, subst, ⊎_elim}
use Rattle.std.specs.Prelude.{Option, Some, Ok, IfSome, IsNone, IsTrue, length}
use Rattle.std.specs.Io.KnownBytes.{Appends}
use Rattle.cat_pos.specs.Limits.{most_input_bytes}
use Rattle.cat_io.specs.Shelf.{Shelved}
use Rattle.cat_io.specs.Sink.{Sunk, Took}
use Rattle.cat_value.specs.declared.value.Value.{Value}
use Rattle.cat_scope.specs.declared.programs.Program.{Program}
use Rattle.cat_json.specs.InputsRead.{input_read}
use Rattle.cat_answer.specs.Answer.{answer_of}
use Rattle.cat_weave.specs.declared.source.Source.{Source}
use Rattle.cat_app.specs.Modes.{asks_dead, runs_scope, shows_tables}
use Rattle.cat_app.specs.Words.{Request}
use Rattle.cat_app.specs.Asked.{IsExtra, IsReadNow}
use Rattle.cat_app.specs.Answers.{IsOutcome, IsRefusedInput, TellsOutcome}
use Rattle.cat_app.specs.Deads.{TellsDead}
use Rattle.cat_app.specs.Lines.{line}
use Rattle.cat_app.specs.Complete.{EndsRun, IsToldRun, IsToldScope, WritesOutcome}
use Rattle.cat_app.specs.EmitEnds.{EndsEmitRun, EndsTold, IsToldEmitRun}
use Rattle.cat_app.specs.TraceEnds.{EndsTrace, IsToldTrace}
use Rattle.cat_app.specs.Table.{AnswersAtOnce, MayAnswer, MayReply}
use Rattle.cat_app.specs.declared.request.Mode.{Mode}
use Rattle.cat_app.specs.declared.request.Mode.TheVariants.{Run, Audit, Check, Emit, EmitRun, Trace, Many}
use Rattle.cat_app.specs.declared.request.Mode.TheVariants.{AllTables, OneTable, Dead, DeadCheck}
use Rattle.cat_app.specs.declared.status.Status.{Status}
use Rattle.cat_app.specs.declared.status.Status.TheVariants as status
use Rattle.cat_app.proofs.Complete.{FilesAreTold, answer_is, extra_is, not_large, not_missing, program_of}
use Rattle.cat_app.proofs.Complete.{refused_source, refused_usage, scope_of, source_is}
use Rattle.cat_app.proofs.DeadAsked.{dead_asked}
use Rattle.cat_app.proofs.ToldSources.{AreNotAccepted, EndingsAreTold, IsOneProgram}

-- a mode that runs the scope shows no tables
runs_none : (mode : Mode) → IsTrue (runs_scope mode) → IsTrue (shows_tables mode) → ⊥
runs_none AllTables runs shows = cc runs
runs_none OneTable runs shows = cc runs
runs_none _ runs shows = cc shows

-- nor does it ask for dead definitions
runs_no_dead : (mode : Mode) → IsTrue (runs_scope mode) → IsTrue (asks_dead mode) → ⊥
runs_no_dead Dead runs asks = cc runs
runs_no_dead DeadCheck runs asks = cc runs
runs_no_dead _ runs asks = cc asks

module _ (one_program : IsOneProgram) (not_accepted : AreNotAccepted) (endings : EndingsAreTold) (files : FilesAreTold)
    (words : List (List ℕ)) (old new : Shelved) (sink sunk : Sunk) (request : Request) (source : Source)
    (program : Program) (scope : ℕ) (told : IsToldScope words old request source program scope) (extra : List ℕ)
    (extra_told : old.content request.extra ≡ Some extra) (extra_short : length extra ≤ most_input_bytes)
    (input : List (Option Value)) (input_is : input_read program.decls scope extra ≡ Ok input)
    (runs : IsTrue (runs_scope request.mode)) where
  answered : (ended : Status) (text : List ℕ) → MayReply words old new ended text
      → MayAnswer request old new ended text
  answered = answer_is one_program not_accepted endings files words old new sink sunk request source program scope told

  no_usage : (text : List ℕ) → MayReply words old new status.Usage text → ⊥
  no_usage = refused_usage one_program not_accepted endings files words old new sink sunk request source program scope
      told (λ one. cc (ap runs_scope one, runs))

  no_refusal : (text : List ℕ) → MayReply words old new status.Source text → ⊥
  no_refusal = refused_source one_program not_accepted endings files words old new sink sunk request source program
      scope told

  no_file : (name : List ℕ) (limit : ℕ) → IsReadNow request old name limit → IsNone (old.content name) → ⊥
  no_file = not_missing one_program not_accepted endings files words old new sink sunk request source program scope
      told extra extra_told extra_short

  no_large : (name : List ℕ) (limit : ℕ) → IsReadNow request old name limit
      → IfSome (old.content name) (λ content. limit < length content) → ⊥
  no_large = not_large one_program not_accepted endings files words old new sink sunk request source program scope
      told extra extra_told extra_short

  same_extra : (other : List ℕ) → IsExtra request old other → other ≡ extra
  same_extra = extra_is one_program not_accepted endings files words old new sink sunk request source program scope
      told extra extra_told extra_short

  audits : request.mode ≡ Audit → ⊥
  audits is = cc (ap runs_scope is, runs)

  checks : request.mode ≡ Check → ⊥
  checks is = cc (ap runs_scope is, runs)

  many : request.mode ≡ Many → ⊥
  many is = cc (ap runs_scope is, runs)

  lists : request.mode ≡ Emit → ⊥
  lists is = cc (ap runs_scope is, runs)

  tables : IsTrue (shows_tables request.mode) → ⊥
  tables = runs_none request.mode runs

  no_dead : (ended : Status) (text : List ℕ) → TellsDead request old new ended text → ⊥
  no_dead ended text t = runs_no_dead request.mode runs (dead_asked request old new ended text t)

  -- what is read of the input is this
  read_as : (other : Program) (number : ℕ) (bytes : List ℕ) → program ≡ other → scope ≡ number → bytes ≡ extra
      → input_read other.decls number bytes ≡ Ok input
  read_as other number bytes program_is scope_is bytes_are =
      ap (λ (p : Program). input_read p.decls number bytes) (sym program_is)
      ∙ (ap (λ n. input_read program.decls n bytes) (sym scope_is)
      ∙ (ap (λ (e : List ℕ). input_read program.decls scope e) bytes_are ∙ input_is))

  -- the outcome that is told is that of this program's scope on this input
  told_here : (ended : Status) (text : List ℕ) → IsOutcome request old new ended text
      → TellsOutcome request.mode source program scope input ended text
  told_here ended text o =
      let sources = source_is one_program not_accepted endings files words old new sink sunk request source program
      scope told o.source o.asked.source_read in
      let programs = program_of one_program not_accepted endings files words old new sink sunk request source program
      scope told o.source o.program o.asked.source_read o.asked.accepted in
      let scopes = scope_of one_program not_accepted endings files words old new sink sunk request source program scope
      told o.program o.scope programs o.asked.named in
      let read = read_as o.program o.scope o.extra programs scopes (same_extra o.extra o.extra_read) in
      let inputs : o.input ≡ input = cc (read, o.input_is) in
      subst (λ (s : Source). TellsOutcome request.mode s program scope input ended text) sources
      (subst (λ (p : Program). TellsOutcome request.mode o.source p scope input ended text) (sym programs)
      (subst (λ n. TellsOutcome request.mode o.source o.program n input ended text) (sym scopes)
      (subst (λ (i : List (Option Value)). TellsOutcome request.mode o.source o.program o.scope i ended text) inputs
      o.tells)))

  no_input : (text : List ℕ) → IsRefusedInput request old new text → ⊥
  no_input text is =
      let programs = program_of one_program not_accepted endings files words old new sink sunk request source program
      scope told is.source is.program is.asked.source_read is.asked.accepted in
      let scopes = scope_of one_program not_accepted endings files words old new sink sunk request source program scope
      told is.program is.scope programs is.asked.named in
      let read = read_as is.program is.scope is.extra programs scopes (same_extra is.extra is.extra_read) in
      cc (read, is.refused)

  -- with each status of an outcome one is told; else the sink or the shelf failed, or memory ran out
  abbrev Ends : Status → Type 0
  Ends ended = (text : List ℕ) × TellsOutcome request.mode source program scope input ended text × Took sink sunk text

  ends_told : (ended : Status) (text : List ℕ) → IsOutcome request old new ended text → Took sink sunk text → Ends ended
  ends_told ended text o took = (text, told_here ended text o, took)

  ends_fine : (text : List ℕ) → MayReply words old new status.Fine text → Took sink sunk text → Ends status.Fine
  ends_fine text may took = ⊎_elim (λ o. ends_told status.Fine text o took)
      (⊎_elim (λ a. absurd (audits a.mode)) (⊎_elim (λ k. absurd (checks k.mode))
      (⊎_elim (λ l. absurd (lists l.mode))
      (⊎_elim (λ d. absurd (tables d.mode)) (λ t. absurd (no_dead status.Fine text t))))))
      (answered status.Fine text may)

  -- ---- of a run

  module _ (is_run : request.mode ≡ Run) where
    outcome_written : (ended : Status) → Ends ended → WritesOutcome sink sunk source program scope input ended
    outcome_written ended (text, tells, took) =
        let here = subst (λ (m : Mode). TellsOutcome m source program scope input ended text) is_run tells in
        let alone = line (answer_of program.decls scope source.files here.outcome) [] in record {
          outcome = here.outcome;
          outcome_is = here.outcome_is;
          status = here.status;
          written = subst (λ (t : List ℕ). Appends sink.taken sunk.taken t)
              (here.reply ∙ ap (λ (f : List ℕ). f ++ alone) here.front_is) took.taken;
        }

    pub ends_run : (ended : Status) → AnswersAtOnce words old new sink sunk ended
        → EndsRun sink sunk source program scope input ended
    ends_run status.Fine is = outcome_written status.Fine (ends_fine is.0 is.1 is.2)
    ends_run status.Conflict is =
        outcome_written status.Conflict (ends_told status.Conflict is.0 (answered status.Conflict is.0 is.1) is.2)
    ends_run status.NoValue is =
        outcome_written status.NoValue (ends_told status.NoValue is.0 (answered status.NoValue is.0 is.1) is.2)
    ends_run status.Fault is =
        outcome_written status.Fault (ends_told status.Fault is.0 (answered status.Fault is.0 is.1) is.2)
    ends_run status.Source is = absurd (no_refusal is.0 is.1)
    ends_run status.Input is =
        ⊎_elim (λ i. absurd (no_input is.0 i)) (λ a. absurd (many a.mode)) (answered status.Input is.0 is.1)
    ends_run status.Found is =
        absurd (⊎_elim (λ a. audits a.mode) (no_dead status.Found is.0) (answered status.Found is.0 is.1))
    ends_run status.Unsettled is = absurd (⊎_elim (λ a. audits a.mode)
        (⊎_elim (λ d. tables d.mode) (no_dead status.Unsettled is.0)) (answered status.Unsettled is.0 is.1))
    ends_run status.Certificate is =
        absurd (⊎_elim (λ k. checks k.mode) (no_dead status.Certificate is.0) (answered status.Certificate is.0 is.1))
    ends_run status.Usage is = absurd (no_usage is.0 is.1)
    ends_run status.Missing is =
        let read = answered status.Missing is.0 is.1 in
        absurd (no_file read.name read.limit read.now read.read.2)
    ends_run status.ReadFault is = tt
    ends_run status.WriteFault is = tt
    ends_run status.Memory is = tt
    ends_run status.Listing is = absurd (answered status.Listing is.0 is.1)
    ends_run status.TooLarge is =
        let read = answered status.TooLarge is.0 is.1 in
        absurd (no_large read.name read.limit read.now read.read.2)

  -- ---- of a mode that writes something in front

  module _ (mode : Mode) (is_mode : request.mode ≡ mode) where
    front_written : (ended : Status) → Ends ended
        → (text : List ℕ) × TellsOutcome mode source program scope input ended text
        × Appends sink.taken sunk.taken text
    front_written ended (text, tells, took) = (
      text,
      subst (λ (m : Mode). TellsOutcome m source program scope input ended text) is_mode tells,
      took.taken,
    )

    pub ends_so : (ended : Status) → AnswersAtOnce words old new sink sunk ended
        → EndsTold mode sink sunk source program scope input ended
    ends_so status.Fine is = front_written status.Fine (ends_fine is.0 is.1 is.2)
    ends_so status.Conflict is =
        front_written status.Conflict (ends_told status.Conflict is.0 (answered status.Conflict is.0 is.1) is.2)
    ends_so status.NoValue is =
        front_written status.NoValue (ends_told status.NoValue is.0 (answered status.NoValue is.0 is.1) is.2)
    ends_so status.Fault is =
        front_written status.Fault (ends_told status.Fault is.0 (answered status.Fault is.0 is.1) is.2)
    ends_so status.Source is = absurd (no_refusal is.0 is.1)
    ends_so status.Input is =
        ⊎_elim (λ i. absurd (no_input is.0 i)) (λ a. absurd (many a.mode)) (answered status.Input is.0 is.1)
    ends_so status.Found is =
        absurd (⊎_elim (λ a. audits a.mode) (no_dead status.Found is.0) (answered status.Found is.0 is.1))
    ends_so status.Unsettled is = absurd (⊎_elim (λ a. audits a.mode)
        (⊎_elim (λ d. tables d.mode) (no_dead status.Unsettled is.0)) (answered status.Unsettled is.0 is.1))
    ends_so status.Certificate is =
        absurd (⊎_elim (λ k. checks k.mode) (no_dead status.Certificate is.0) (answered status.Certificate is.0 is.1))
    ends_so status.Usage is = absurd (no_usage is.0 is.1)
    ends_so status.Missing is =
        let read = answered status.Missing is.0 is.1 in
        absurd (no_file read.name read.limit read.now read.read.2)
    ends_so status.ReadFault is = tt
    ends_so status.WriteFault is = tt
    ends_so status.Memory is = tt
    ends_so status.Listing is = absurd (answered status.Listing is.0 is.1)
    ends_so status.TooLarge is =
        let read = answered status.TooLarge is.0 is.1 in
        absurd (no_large read.name read.limit read.now read.read.2)

-- a run that is told ends so
pub run_ends : IsOneProgram → AreNotAccepted → EndingsAreTold → FilesAreTold → (words : List (List ℕ))
    (old new : Shelved) (sink sunk : Sunk) (request : Request) (source : Source) (program : Program) (scope : ℕ)
    (input : List (Option Value)) → IsToldRun words old request source program scope input → (ended : Status)
    → AnswersAtOnce words old new sink sunk ended → EndsRun sink sunk source program scope input ended
run_ends one_program not_accepted endings files words old new sink sunk request source program scope input run =
    ends_run one_program not_accepted endings files words old new sink sunk request source program scope run.told
    run.extra run.extra_told run.extra_short input run.input_is (ap runs_scope run.mode) run.mode

-- and an emit with an input
pub emit_run_ends : IsOneProgram → AreNotAccepted → EndingsAreTold → FilesAreTold → (words : List (List ℕ))
    (old new : Shelved) (sink sunk : Sunk) (request : Request) (source : Source) (program : Program) (scope : ℕ)
    (input : List (Option Value)) → IsToldEmitRun words old request source program scope input → (ended : Status)
    → AnswersAtOnce words old new sink sunk ended → EndsEmitRun sink sunk source program scope input ended
emit_run_ends one_program not_accepted endings files words old new sink sunk request source program scope input run =
    ends_so one_program not_accepted endings files words old new sink sunk request source program scope run.told
    run.extra run.extra_told run.extra_short input run.input_is (ap runs_scope run.mode) EmitRun run.mode

-- and a trace
pub trace_ends : IsOneProgram → AreNotAccepted → EndingsAreTold → FilesAreTold → (words : List (List ℕ))
    (old new : Shelved) (sink sunk : Sunk) (request : Request) (source : Source) (program : Program) (scope : ℕ)
    (input : List (Option Value)) → IsToldTrace words old request source program scope input → (ended : Status)
    → AnswersAtOnce words old new sink sunk ended → EndsTrace sink sunk source program scope input ended
trace_ends one_program not_accepted endings files words old new sink sunk request source program scope input run =
    ends_so one_program not_accepted endings files words old new sink sunk request source program scope run.told
    run.extra run.extra_told run.extra_short input run.input_is (ap runs_scope run.mode) Trace run.mode
