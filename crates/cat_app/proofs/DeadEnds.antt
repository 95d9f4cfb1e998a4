-- What follows from the answers to one who asked for dead definitions.
use Rattle.std.proofs.Common.{◌≡◌, ◌≤◌, ◌<◌, ℕ, List, sym, ap, subst, ⊎_elim}
use Rattle.std.specs.Prelude.{IfSome, IsNone, IsTrue, Some, length}
use Rattle.std.specs.Io.KnownBytes.{Appends}
use Rattle.cat_pos.specs.Limits.{most_input_bytes}
use Rattle.cat_io.specs.Shelf.{Shelved}
use Rattle.cat_io.specs.Sink.{Sunk, Took}
use Rattle.cat_scope.specs.declared.programs.Program.{Program}
use Rattle.cat_scope.specs.Named.{number_named}
use Rattle.cat_weave.specs.declared.source.Source.{Source}
use Rattle.cat_build.specs.Accepted.{IsAccepted}
use Rattle.cat_app.specs.Modes.{reads_extra, runs_scope, shows_tables}
use Rattle.cat_app.specs.Words.{Request}
use Rattle.cat_app.specs.Asked.{IsExtra, IsReadNow, IsSource}
use Rattle.cat_app.specs.Complete.{IsToldScope}
use Rattle.cat_app.specs.DeadChecks.{HasDead, HasNoDead, IsDeadAnswer}
use Rattle.cat_app.specs.DeadEnds.{EndsDead, EndsDeadCheck, IsToldDeadCheck, WritesDead}
use Rattle.cat_app.specs.Deads.{HasDeadReport, IsReported}
use Rattle.cat_app.specs.Table.{AnswersAtOnce, MayAnswer, MayReply}
use Rattle.cat_app.specs.declared.request.Mode.TheVariants.{Audit, Check, Dead, DeadCheck, Emit, Many}
use Rattle.cat_app.specs.declared.status.Status.{Status}
use Rattle.cat_app.specs.declared.status.Status.TheVariants as status
use Rattle.cat_app.proofs.Complete.{FilesAreTold, answer_is, extra_is, none_large, none_missing, not_large, not_missing}
use Rattle.cat_app.proofs.Complete.{program_of, refused_source, refused_usage, scope_of, source_is}
use Rattle.cat_app.proofs.ToldSources.{AreNotAccepted, EndingsAreTold, IsOneProgram}

module _ (one_program : IsOneProgram) (not_accepted : AreNotAccepted) (endings : EndingsAreTold) (files : FilesAreTold)
    (words : List (List ℕ)) (old new : Shelved) (sink sunk : Sunk) (request : Request) (source : Source)
    (program : Program) (scope : ℕ) (told : IsToldScope words old request source program scope) where
  answered : (ended : Status) (text : List ℕ) → MayReply words old new ended text
      → MayAnswer request old new ended text
  answered = answer_is one_program not_accepted endings files words old new sink sunk request source program scope told

  no_refusal : (text : List ℕ) → MayReply words old new status.Source text → ⊥
  no_refusal = refused_source one_program not_accepted endings files words old new sink sunk request source program
      scope told

  -- what is answered is of this source, program and scope
  same_source : (other : Source) → IsSource request old other → other ≡ source
  same_source = source_is one_program not_accepted endings files words old new sink sunk request source program scope
      told

  same_program : (others : Source) (other : Program) → IsSource request old others → IsAccepted others.pieces other
      → program ≡ other
  same_program = program_of one_program not_accepted endings files words old new sink sunk request source program scope
      told

  same_scope : (other : Program) (number : ℕ) → program ≡ other
      → number_named request.scope 0 other.decls.scopes ≡ Some number → scope ≡ number
  same_scope = scope_of one_program not_accepted endings files words old new sink sunk request source program scope told

  -- ---- of a report

  module _ (asks : request.mode ≡ Dead) where
    runs : IsTrue (runs_scope request.mode) → ⊥
    runs is = cc (ap runs_scope asks, is)

    audits : request.mode ≡ Audit → ⊥
    audits is = cc (is, asks)

    checks : request.mode ≡ Check → ⊥
    checks is = cc (is, asks)

    emits : request.mode ≡ Emit → ⊥
    emits is = cc (is, asks)

    many : request.mode ≡ Many → ⊥
    many is = cc (is, asks)

    tables : IsTrue (shows_tables request.mode) → ⊥
    tables is = cc (ap shows_tables asks, is)

    no_check : request.mode ≡ DeadCheck → ⊥
    no_check is = cc (is, asks)

    unread : IsTrue (reads_extra request.mode) → ⊥
    unread reads = cc (ap reads_extra asks, reads)

    no_usage : (text : List ℕ) → MayReply words old new status.Usage text → ⊥
    no_usage = refused_usage one_program not_accepted endings files words old new sink sunk request source program scope
        told (λ one. cc (one, asks))

    no_file : (name : List ℕ) (limit : ℕ) → IsReadNow request old name limit → IsNone (old.content name) → ⊥
    no_file = none_missing one_program not_accepted endings files words old new sink sunk request source program scope
        told unread

    no_large : (name : List ℕ) (limit : ℕ) → IsReadNow request old name limit
        → IfSome (old.content name) (λ content. limit < length content) → ⊥
    no_large = none_large one_program not_accepted endings files words old new sink sunk request source program scope
        told unread

    -- the report that is answered is on the definitions of this program's scope
    dead_written : (ended : Status) (text : List ℕ) → IsReported request old new ended text → Took sink sunk text
        → WritesDead sink sunk request source program scope ended
    dead_written ended text r took =
        let sources = same_source r.source r.asked.source_read in
        let programs = same_program r.source r.program r.asked.source_read r.asked.accepted in
        let scopes = same_scope r.program r.scope programs r.asked.named in
        record {
          most = r.most;
          report = r.report;
          most_is = r.most_is;
          report_is = subst (λ (p : Program). HasDeadReport p source.files scope r.most r.report) (sym programs)
              (subst (λ n. HasDeadReport r.program source.files n r.most r.report) (sym scopes)
              (subst (λ (s : Source). HasDeadReport r.program s.files r.scope r.most r.report) sources r.report_is));
          status = r.status;
          written = subst (λ (t : List ℕ). Appends sink.taken sunk.taken t) r.reply took.taken;
        }

    pub ends_dead : (ended : Status) → AnswersAtOnce words old new sink sunk ended
        → EndsDead sink sunk request source program scope ended
    ends_dead status.Fine is = ⊎_elim (λ o. absurd (runs o.mode))
        (⊎_elim (λ a. absurd (audits a.mode))
        (⊎_elim (λ k. absurd (checks k.mode))
        (⊎_elim (λ l. absurd (emits l.mode))
        (⊎_elim (λ d. absurd (tables d.mode))
        (⊎_elim (λ r. dead_written status.Fine is.0 r is.2) (λ k. absurd (no_check k.mode)))))))
        (answered status.Fine is.0 is.1)
    ends_dead status.Conflict is = let o = answered status.Conflict is.0 is.1 in absurd (runs o.mode)
    ends_dead status.NoValue is = let o = answered status.NoValue is.0 is.1 in absurd (runs o.mode)
    ends_dead status.Fault is = let o = answered status.Fault is.0 is.1 in absurd (runs o.mode)
    ends_dead status.Source is = absurd (no_refusal is.0 is.1)
    ends_dead status.Input is =
        ⊎_elim (λ i. absurd (runs i.mode)) (λ a. absurd (many a.mode)) (answered status.Input is.0 is.1)
    ends_dead status.Found is = ⊎_elim (λ a. absurd (audits a.mode))
        (λ r. dead_written status.Found is.0 r is.2) (answered status.Found is.0 is.1)
    ends_dead status.Unsettled is = ⊎_elim (λ a. absurd (audits a.mode))
        (⊎_elim (λ d. absurd (tables d.mode)) (λ r. dead_written status.Unsettled is.0 r is.2))
        (answered status.Unsettled is.0 is.1)
    ends_dead status.Certificate is = absurd (⊎_elim (λ k. checks k.mode) (λ k. no_check k.mode)
        (answered status.Certificate is.0 is.1))
    ends_dead status.Usage is = absurd (no_usage is.0 is.1)
    ends_dead status.Missing is =
        let read = answered status.Missing is.0 is.1 in
        absurd (no_file read.name read.limit read.now read.read.2)
    ends_dead status.ReadFault is = tt
    ends_dead status.WriteFault is = tt
    ends_dead status.Memory is = tt
    ends_dead status.Listing is = absurd (answered status.Listing is.0 is.1)
    ends_dead status.TooLarge is =
        let read = answered status.TooLarge is.0 is.1 in
        absurd (no_large read.name read.limit read.now read.read.2)

  -- ---- of a check of a certificate

  module _ (extra : List ℕ) (check : IsToldDeadCheck words old request source program scope extra) where
    check_runs : IsTrue (runs_scope request.mode) → ⊥
    check_runs is = cc (ap runs_scope check.mode, is)

    check_audits : request.mode ≡ Audit → ⊥
    check_audits is = cc (is, check.mode)

    check_checks : request.mode ≡ Check → ⊥
    check_checks is = cc (is, check.mode)

    check_emits : request.mode ≡ Emit → ⊥
    check_emits is = cc (is, check.mode)

    check_many : request.mode ≡ Many → ⊥
    check_many is = cc (is, check.mode)

    check_tables : IsTrue (shows_tables request.mode) → ⊥
    check_tables is = cc (ap shows_tables check.mode, is)

    no_report : request.mode ≡ Dead → ⊥
    no_report is = cc (is, check.mode)

    no_usage_checked : (text : List ℕ) → MayReply words old new status.Usage text → ⊥
    no_usage_checked = refused_usage one_program not_accepted endings files words old new sink sunk request source
        program scope told (λ one. cc (one, check.mode))

    none_gone : (name : List ℕ) (limit : ℕ) → IsReadNow request old name limit → IsNone (old.content name) → ⊥
    none_gone = not_missing one_program not_accepted endings files words old new sink sunk request source program scope
        told extra check.extra_told check.extra_short

    none_long : (name : List ℕ) (limit : ℕ) → IsReadNow request old name limit
        → IfSome (old.content name) (λ content. limit < length content) → ⊥
    none_long = not_large one_program not_accepted endings files words old new sink sunk request source program scope
        told extra check.extra_told check.extra_short

    same_extra : (other : List ℕ) → IsExtra request old other → other ≡ extra
    same_extra = extra_is one_program not_accepted endings files words old new sink sunk request source program scope
        told extra check.extra_told check.extra_short

    -- what is said is said of this program's scope and these bytes
    said_here : (Says : Program → ℕ → List (List ℕ) → List ℕ → List ℕ → Type 0) (text : List ℕ)
        → IsDeadAnswer Says request old new text → Says program scope source.files extra text
    said_here Says text k =
        let sources = same_source k.source k.asked.source_read in
        let programs = same_program k.source k.program k.asked.source_read k.asked.accepted in
        let scopes = same_scope k.program k.scope programs k.asked.named in
        subst (λ (p : Program). Says p scope source.files extra text) (sym programs)
        (subst (λ n. Says k.program n source.files extra text) (sym scopes)
        (subst (λ (s : Source). Says k.program k.scope s.files extra text) sources
        (subst (λ (e : List ℕ). Says k.program k.scope k.source.files e text) (same_extra k.extra k.extra_read)
        k.says)))

    pub ends_dead_check : (ended : Status) → AnswersAtOnce words old new sink sunk ended
        → EndsDeadCheck sink sunk source program scope extra ended
    ends_dead_check status.Fine is = ⊎_elim (λ o. absurd (check_runs o.mode))
        (⊎_elim (λ a. absurd (check_audits a.mode))
        (⊎_elim (λ k. absurd (check_checks k.mode))
        (⊎_elim (λ l. absurd (check_emits l.mode))
        (⊎_elim (λ d. absurd (check_tables d.mode))
        (⊎_elim (λ r. absurd (no_report r.mode)) (λ k. (is.0, said_here HasDead is.0 k, is.2.taken)))))))
        (answered status.Fine is.0 is.1)
    ends_dead_check status.Conflict is = let o = answered status.Conflict is.0 is.1 in absurd (check_runs o.mode)
    ends_dead_check status.NoValue is = let o = answered status.NoValue is.0 is.1 in absurd (check_runs o.mode)
    ends_dead_check status.Fault is = let o = answered status.Fault is.0 is.1 in absurd (check_runs o.mode)
    ends_dead_check status.Source is = absurd (no_refusal is.0 is.1)
    ends_dead_check status.Input is =
        ⊎_elim (λ i. absurd (check_runs i.mode)) (λ a. absurd (check_many a.mode)) (answered status.Input is.0 is.1)
    ends_dead_check status.Found is = absurd (⊎_elim (λ a. check_audits a.mode) (λ r. no_report r.mode)
        (answered status.Found is.0 is.1))
    ends_dead_check status.Unsettled is = absurd (⊎_elim (λ a. check_audits a.mode)
        (⊎_elim (λ d. check_tables d.mode) (λ r. no_report r.mode)) (answered status.Unsettled is.0 is.1))
    ends_dead_check status.Certificate is = ⊎_elim (λ k. absurd (check_checks k.mode))
        (λ k. (is.0, said_here (λ p n names. HasNoDead p n) is.0 k, is.2.taken))
        (answered status.Certificate is.0 is.1)
    ends_dead_check status.Usage is = absurd (no_usage_checked is.0 is.1)
    ends_dead_check status.Missing is =
        let read = answered status.Missing is.0 is.1 in
        absurd (none_gone read.name read.limit read.now read.read.2)
    ends_dead_check status.ReadFault is = tt
    ends_dead_check status.WriteFault is = tt
    ends_dead_check status.Memory is = tt
    ends_dead_check status.Listing is = absurd (answered status.Listing is.0 is.1)
    ends_dead_check status.TooLarge is =
        let read = answered status.TooLarge is.0 is.1 in
        absurd (none_long read.name read.limit read.now read.read.2)
