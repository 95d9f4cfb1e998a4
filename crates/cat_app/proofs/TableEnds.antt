-- What follows from the answers to one who asked for decision tables.
use Rattle.std.proofs.Common.{◌≡◌, ◌<◌, ℕ, List, sym, ap, subst, ⊎_elim}
use Rattle.std.specs.Prelude.{IsTrue, length, IfSome, IsNone}
use Rattle.cat_io.specs.Shelf.{Shelved}
use Rattle.cat_io.specs.Sink.{Sunk, Took}
use Rattle.std.specs.Io.KnownBytes.{Appends}
use Rattle.cat_scope.specs.declared.programs.Program.{Program}
use Rattle.cat_weave.specs.declared.source.Source.{Source}
use Rattle.cat_app.specs.Modes.{asks_dead, reads_extra, runs_scope, shows_tables, wanted_by}
use Rattle.cat_app.specs.Words.{Request}
use Rattle.cat_app.specs.Complete.{IsToldScope}
use Rattle.cat_app.specs.Deads.{TellsDead}
use Rattle.cat_app.specs.TableEnds.{EndsTable, WritesNoTarget, WritesTables}
use Rattle.cat_app.specs.TargetTables.{HasNoTarget, HasTables, IsNoTarget, IsTabled}
use Rattle.cat_app.specs.Answers.{IsNoScope}
use Rattle.cat_app.specs.Asked.{IsReadNow}
use Rattle.cat_app.specs.Table.{AnswersAtOnce, MayAnswer, MayReply}
use Rattle.cat_app.specs.declared.request.Mode.{Mode}
use Rattle.cat_app.specs.declared.request.Mode.TheVariants.{Audit, Check, Emit, Many, AllTables, OneTable}
use Rattle.cat_app.specs.declared.status.Status.{Status}
use Rattle.cat_app.specs.declared.status.Status.TheVariants as status
use Rattle.cat_app.proofs.Complete.{FilesAreTold, answer_is, none_large, none_missing, program_of, refused_source}
use Rattle.cat_app.proofs.Complete.{scope_of, source_is}
use Rattle.cat_app.proofs.DeadAsked.{dead_asked}
use Rattle.cat_app.proofs.ToldSources.{AreNotAccepted, EndingsAreTold, IsOneProgram, scope_is_there}

-- tables read no EXTRA
reads_nothing : (mode : Mode) → IsTrue (shows_tables mode) → IsTrue (reads_extra mode) → ⊥
reads_nothing AllTables shows reads = cc reads
reads_nothing OneTable shows reads = cc reads
reads_nothing _ shows reads = cc shows

-- nor do they run the scope
runs_nothing : (mode : Mode) → IsTrue (shows_tables mode) → IsTrue (runs_scope mode) → ⊥
runs_nothing AllTables shows runs = cc runs
runs_nothing OneTable shows runs = cc runs
runs_nothing _ shows runs = cc shows

-- nor do they ask for dead definitions
shows_no_dead : (mode : Mode) → IsTrue (shows_tables mode) → IsTrue (asks_dead mode) → ⊥
shows_no_dead AllTables shows asks = cc asks
shows_no_dead OneTable shows asks = cc asks
shows_no_dead _ shows asks = cc shows

-- of many inputs none is shown
pub no_table_of_many : (mode : Mode) → mode ≡ Many → IsTrue (shows_tables mode) → ⊥
no_table_of_many mode many shows = cc (ap shows_tables many, shows)

module _ (one_program : IsOneProgram) (not_accepted : AreNotAccepted) (endings : EndingsAreTold) (files : FilesAreTold)
    (words : List (List ℕ)) (old new : Shelved) (sink sunk : Sunk) (request : Request) (source : Source)
    (program : Program) (scope : ℕ) (told : IsToldScope words old request source program scope)
    (tables : IsTrue (shows_tables request.mode)) where
  answered : (ended : Status) (text : List ℕ) → MayReply words old new ended text
      → MayAnswer request old new ended text
  answered = answer_is one_program not_accepted endings files words old new sink sunk request source program scope told

  no_refusal : (text : List ℕ) → MayReply words old new status.Source text → ⊥
  no_refusal = refused_source one_program not_accepted endings files words old new sink sunk request source program
      scope told

  runs : IsTrue (runs_scope request.mode) → ⊥
  runs = runs_nothing request.mode tables

  audits : request.mode ≡ Audit → ⊥
  audits is = cc (ap shows_tables is, tables)

  checks : request.mode ≡ Check → ⊥
  checks is = cc (ap shows_tables is, tables)

  emits : request.mode ≡ Emit → ⊥
  emits is = cc (ap shows_tables is, tables)

  many : request.mode ≡ Many → ⊥
  many is = no_table_of_many request.mode is tables

  no_dead : (ended : Status) (text : List ℕ) → TellsDead request old new ended text → ⊥
  no_dead ended text t = shows_no_dead request.mode tables (dead_asked request old new ended text t)

  unread : IsTrue (reads_extra request.mode) → ⊥
  unread = reads_nothing request.mode tables

  no_file : (name : List ℕ) (limit : ℕ) → IsReadNow request old name limit → IsNone (old.content name) → ⊥
  no_file = none_missing one_program not_accepted endings files words old new sink sunk request source program scope
      told unread

  no_large : (name : List ℕ) (limit : ℕ) → IsReadNow request old name limit
      → IfSome (old.content name) (λ content. limit < length content) → ⊥
  no_large = none_large one_program not_accepted endings files words old new sink sunk request source program scope
      told unread

  no_scope : (text : List ℕ) → IsNoScope request old new text → ⊥
  no_scope = scope_is_there one_program endings old new request source program scope told.source_told told.accepted
      told.named

  -- the tables that are answered are those of this program's scope
  tables_written : (ended : Status) (text : List ℕ) → IsTabled request old new ended text → Took sink sunk text
      → WritesTables sink sunk request source program scope ended
  tables_written ended text d took =
      let sources = source_is one_program not_accepted endings files words old new sink sunk request source program
      scope told d.source d.asked.source_read in
      let programs = program_of one_program not_accepted endings files words old new sink sunk request source program
      scope told d.source d.program d.asked.source_read d.asked.accepted in
      let scopes = scope_of one_program not_accepted endings files words old new sink sunk request source program
      scope told d.program d.scope programs d.asked.named in
      let wanted = wanted_by request.mode request.extra in
      record {
        most = d.most;
        spent = d.spent;
        text = text;
        most_is = d.most_is;
        tables = subst (λ (p : Program). HasTables p scope d.most source.files wanted d.spent text) (sym programs)
            (subst (λ n. HasTables d.program n d.most source.files wanted d.spent text) (sym scopes)
            (subst (λ (s : Source). HasTables d.program d.scope d.most s.files wanted d.spent text) sources d.tables));
        status = d.status;
        written = took.taken;
      }

  -- and so is the scope that has no such target
  no_target_written : (text : List ℕ) → IsNoTarget request old new text → Took sink sunk text
      → WritesNoTarget sink sunk request program scope
  no_target_written text n took =
      let programs = program_of one_program not_accepted endings files words old new sink sunk request source program
      scope told n.source n.program n.asked.source_read n.asked.accepted in
      let scopes = scope_of one_program not_accepted endings files words old new sink sunk request source program
      scope told n.program n.scope programs n.asked.named in
      record {
        mode = n.mode;
        none = subst (λ (p : Program). HasNoTarget p scope request.extra) (sym programs)
            (subst (λ k. HasNoTarget n.program k request.extra) (sym scopes) n.none);
        written = subst (λ (t : List ℕ). Appends sink.taken sunk.taken t) n.reply took.taken;
      }

  pub ends_table : (ended : Status) → AnswersAtOnce words old new sink sunk ended
      → EndsTable sink sunk request source program scope ended
  ends_table status.Fine is = ⊎_elim (λ o. absurd (runs o.mode))
      (⊎_elim (λ a. absurd (audits a.mode))
      (⊎_elim (λ k. absurd (checks k.mode))
      (⊎_elim (λ l. absurd (emits l.mode))
      (⊎_elim (λ d. tables_written status.Fine is.0 d is.2) (λ t. absurd (no_dead status.Fine is.0 t))))))
      (answered status.Fine is.0 is.1)
  ends_table status.Conflict is = let o = answered status.Conflict is.0 is.1 in absurd (runs o.mode)
  ends_table status.NoValue is = let o = answered status.NoValue is.0 is.1 in absurd (runs o.mode)
  ends_table status.Fault is = let o = answered status.Fault is.0 is.1 in absurd (runs o.mode)
  ends_table status.Source is = absurd (no_refusal is.0 is.1)
  ends_table status.Input is =
      ⊎_elim (λ i. absurd (runs i.mode)) (λ a. absurd (many a.mode)) (answered status.Input is.0 is.1)
  ends_table status.Found is =
      absurd (⊎_elim (λ a. audits a.mode) (no_dead status.Found is.0) (answered status.Found is.0 is.1))
  ends_table status.Unsettled is = ⊎_elim (λ a. absurd (audits a.mode))
      (⊎_elim (λ d. tables_written status.Unsettled is.0 d is.2) (λ t. absurd (no_dead status.Unsettled is.0 t)))
      (answered status.Unsettled is.0 is.1)
  ends_table status.Certificate is =
      absurd (⊎_elim (λ k. checks k.mode) (no_dead status.Certificate is.0) (answered status.Certificate is.0 is.1))
  ends_table status.Usage is = ⊎_elim (λ n. absurd (no_scope is.0 n)) (λ n. no_target_written is.0 n is.2)
      (answered status.Usage is.0 is.1)
  ends_table status.Missing is =
      let read = answered status.Missing is.0 is.1 in
      absurd (no_file read.name read.limit read.now read.read.2)
  ends_table status.ReadFault is = tt
  ends_table status.WriteFault is = tt
  ends_table status.Memory is = tt
  ends_table status.Listing is = absurd (answered status.Listing is.0 is.1)
  ends_table status.TooLarge is =
      let read = answered status.TooLarge is.0 is.1 in
      absurd (no_large read.name read.limit read.now read.read.2)
