-- What follows from the answers of the top call.
use Rattle.std.proofs.Common.{◌≡◌, ◌∙◌, ◌≤◌, ◌<◌, ℕ, List, refl, sym, ap, subst, inl, inr, arith, ⊎_elim}
use Rattle.std.specs.Prelude.{Option, Some, None, IsSomeAnd, IfSome, IsNone, IsTrue, length}
use Rattle.std.specs.Io.KnownBytes.{Appends}
use Rattle.cat_pos.specs.Limits.{most_input_bytes}
use Rattle.cat_io.specs.Shelf.{Shelved}
use Rattle.cat_io.specs.Sink.{Sunk, Took}
use Rattle.cat_scope.specs.declared.programs.Program.{Program}
use Rattle.cat_scope.specs.Named.{number_named}
use Rattle.cat_scope.specs.Names.{AllHave}
use Rattle.cat_audit.specs.declared.report.Report.{Report}
use Rattle.cat_audit.specs.declared.report.Verdict.{Verdict}
use Rattle.cat_audit.specs.declared.report.Verdict.TheVariants as verdict
use Rattle.cat_audit.specs.Reports.{last_verdict}
use Rattle.cat_audit.specs.RunsAgain.{RunAgain}
use Rattle.cat_weave.specs.declared.source.Source.{Source}
use Rattle.cat_weave.specs.Gathered.{Contents, Whole, gathered, limit_after}
use Rattle.cat_weave.specs.Causes.{ComesTo}
use Rattle.cat_build.specs.Accepted.{IsAccepted}
use Rattle.cat_app.specs.Modes.{asks_dead, reads_extra, runs_scope, shows_tables}
use Rattle.cat_app.specs.Words.{Ask, OfBands, OfListing, OfScope, Request, ask_of, request_in}
use Rattle.cat_app.specs.Asked.{IsSource, IsExtra, IsReadNow}
use Rattle.cat_app.specs.Answers.{IsOutcome, IsRefusedFile, IsRefusedSource, IsNoScope}
use Rattle.cat_app.specs.Audits.{HasReport, IsAudited, audit_text, status_at}
use Rattle.cat_app.specs.Deads.{TellsDead}
use Rattle.cat_app.specs.Table.{AnswersAtOnce, MayAnswer, MayAnswerTo, MayReply}
use Rattle.cat_app.specs.declared.request.Mode.TheVariants.{Audit, Check, Emit, Many, OneTable}
use Rattle.cat_app.proofs.DeadAsked.{dead_asked}
use Rattle.cat_app.proofs.ToldSources.{AreNotAccepted, EndingsAreTold, IsOneProgram, no_refused_file, no_refused_source}
use Rattle.cat_app.proofs.ToldSources.{scope_is_there, told_program, told_scope, told_source}
use Rattle.cat_app.specs.Complete.{EndsCheck, IsToldCheck, IsToldScope}
use Rattle.cat_app.specs.AuditEnds.{WritesReport, EndsAudit, IsComplete}
use Rattle.cat_app.specs.Checks.{HasCertificate, HasNoCertificate, IsChecked}
use Rattle.cat_app.specs.declared.status.Status.{Status}
use Rattle.cat_app.specs.declared.status.Status.TheVariants as status

-- ---- over told contents

abbrev pub FilesAreTold : Type 0
FilesAreTold = (told : Contents) (main name : List ℕ) (source : Source) (bytes : ℕ)
    → gathered told main ≡ Whole source → ComesTo told main name bytes
    → IsSomeAnd (told name) (λ content. length content ≤ limit_after bytes)

-- of what is told, what holds of the content
pub of_told : (P : List ℕ → Type 0) (o : Option (List ℕ)) (content : List ℕ) → o ≡ Some content → IfSome o P → P content
of_told P o content is holds = subst (λ (x : Option (List ℕ)). IfSome x P) is holds

pub none_there : (o : Option (List ℕ)) (content : List ℕ) → o ≡ Some content → IsNone o → ⊥
none_there o content is none = cc (subst (λ (x : Option (List ℕ)). IsNone x) is none)

some_there : (P : List ℕ → Type 0) (o : Option (List ℕ)) → IsSomeAnd o P → IsNone o → ⊥
some_there P None holds none = absurd holds
some_there P (Some x) holds none = cc none

not_longer : (o : Option (List ℕ)) (limit most : ℕ) → limit ≡ most
    → IsSomeAnd o (λ content. length content ≤ most) → IfSome o (λ content. limit < length content) → ⊥
not_longer None limit most is short long = absurd short
not_longer (Some content) limit most is short long = absurd (omega (arith, is, short, long))

-- `Fine` is the status of Complete alone
is_complete : (v : Verdict) → status_at v ≡ status.Fine → v ≡ verdict.Complete
is_complete verdict.Found is = cc is
is_complete verdict.Masked is = cc is
is_complete verdict.Undecided is = cc is
is_complete verdict.Complete is = refl

complete_of : {program : Program} {scope most : ℕ} (report : Report) → HasReport program scope most report
    → status_at (last_verdict report.sections) ≡ status.Fine → IsComplete program scope report
complete_of report is fine =
    let last = is_complete (last_verdict report.sections) fine in (last, is.no_gap last)

-- where a request is what is asked of a scope, it is what is asked
of_scope : (o : Option Ask) (request : Request) → request_in o ≡ Some request → o ≡ Some (OfScope request)
of_scope None request is = cc is
of_scope (Some (OfScope other)) request is = cc is
of_scope (Some (OfListing other)) request is = cc is
of_scope (Some (OfBands bands)) request is = cc is

module _ (one_program : IsOneProgram) (not_accepted : AreNotAccepted) (endings : EndingsAreTold) (files : FilesAreTold)
    (words : List (List ℕ)) (old new : Shelved) (sink sunk : Sunk) (request : Request) (source : Source)
    (program : Program) (scope : ℕ) (told : IsToldScope words old request source program scope) where
  -- what may be replied answers this request
  pub answer_is : (ended : Status) (text : List ℕ) → MayReply words old new ended text
      → MayAnswer request old new ended text
  answer_is ended text may = subst (λ (o : Option Ask). MayAnswerTo o old new ended text)
      (of_scope (ask_of words) request told.asked) may

  pub source_is : (other : Source) → IsSource request old other → other ≡ source
  source_is = told_source endings old request source told.source_told

  pub program_of : (others : Source) (other : Program) → IsSource request old others → IsAccepted others.pieces other
      → program ≡ other
  program_of = told_program one_program endings old request source program told.source_told told.accepted

  pub scope_of : (other : Program) (number : ℕ) → program ≡ other
      → number_named request.scope 0 other.decls.scopes ≡ Some number → scope ≡ number
  scope_of = told_scope request program scope told.named

  no_file : (text : List ℕ) → IsRefusedFile request old new text → ⊥
  no_file = no_refused_file endings old new request source told.source_told

  no_source : (text : List ℕ) → IsRefusedSource request old new text → ⊥
  no_source = no_refused_source not_accepted endings old new request source program told.source_told told.accepted

  no_scope : (text : List ℕ) → IsNoScope request old new text → ⊥
  no_scope = scope_is_there one_program endings old new request source program scope told.source_told told.accepted
      told.named

  -- the source is told, and so is the input of a run
  no_source_missing : (name : List ℕ) (limit : ℕ) → ((bytes : ℕ) × ComesTo old.content request.file name bytes
      × (limit ≡ limit_after bytes)) → IsNone (old.content name) → ⊥
  no_source_missing name limit now none =
      some_there (λ content. length content ≤ limit_after now.0) (old.content name)
      (files old.content request.file name source now.0 told.source_told now.1) none

  no_source_large : (name : List ℕ) (limit : ℕ) → ((bytes : ℕ) × ComesTo old.content request.file name bytes
      × (limit ≡ limit_after bytes)) → IfSome (old.content name) (λ content. limit < length content) → ⊥
  no_source_large name limit now long =
      not_longer (old.content name) limit (limit_after now.0) now.2
      (files old.content request.file name source now.0 told.source_told now.1) long

  -- the scope is there, so that only a target may be missing
  pub refused_usage : (request.mode ≡ OneTable → ⊥) → (text : List ℕ) → MayReply words old new status.Usage text → ⊥
  refused_usage other text may = ⊎_elim (no_scope text) (λ t. other t.mode) (answer_is status.Usage text may)

  pub refused_source : (text : List ℕ) → MayReply words old new status.Source text → ⊥
  refused_source text may = ⊎_elim (no_file text) (no_source text) (answer_is status.Source text may)

  -- where EXTRA isn't read, no file is missing or too large
  pub none_missing : (IsTrue (reads_extra request.mode) → ⊥) → (name : List ℕ) (limit : ℕ)
      → IsReadNow request old name limit → IsNone (old.content name) → ⊥
  none_missing unread name limit (inl now) none = no_source_missing name limit now none
  none_missing unread name limit (inr now) none = unread now.2

  pub none_large : (IsTrue (reads_extra request.mode) → ⊥) → (name : List ℕ) (limit : ℕ)
      → IsReadNow request old name limit → IfSome (old.content name) (λ content. limit < length content) → ⊥
  none_large unread name limit (inl now) long = no_source_large name limit now long
  none_large unread name limit (inr now) long = unread now.2

  -- the report that is answered is one of this program's scope
  report_written : (ended : Status) (text : List ℕ) → IsAudited request old new ended text → Took sink sunk text
      → WritesReport sink sunk request source program scope ended
  report_written ended text a took =
      let sources = source_is a.source a.asked.source_read in
      let programs = program_of a.source a.program a.asked.source_read a.asked.accepted in
      let scopes = scope_of a.program a.scope programs a.asked.named in
      let report_is : HasReport program scope a.most a.report =
      subst (λ (p : Program). HasReport p scope a.most a.report) (sym programs)
      (subst (λ n. HasReport a.program n a.most a.report) (sym scopes) a.report_is) in
      let text_is : text ≡ audit_text program.decls source.files a.most a.report =
      a.reply
      ∙ (ap (λ (s : Source). audit_text a.program.decls s.files a.most a.report) sources
      ∙ ap (λ (p : Program). audit_text p.decls source.files a.most a.report) (sym programs)) in
      record {
        most = a.most;
        report = a.report;
        most_is = a.most_is;
        report_is = report_is;
        again = subst (λ (p : Program). AllHave (RunAgain p) a.report.sections) (sym programs) a.again;
        status = a.status;
        written = subst (λ (t : List ℕ). Appends sink.taken sunk.taken t) text_is took.taken;
        complete = λ fine. complete_of a.report report_is (sym a.status ∙ fine);
      }

  -- ---- of an audit

  module _ (audits : request.mode ≡ Audit) where
    not_run : IsTrue (runs_scope request.mode) → ⊥
    not_run runs = cc (ap runs_scope audits, runs)

    not_check : request.mode ≡ Check → ⊥
    not_check checks = cc (checks, audits)

    not_emit : request.mode ≡ Emit → ⊥
    not_emit emits = cc (emits, audits)

    not_many : request.mode ≡ Many → ⊥
    not_many many = cc (many, audits)

    not_table : IsTrue (shows_tables request.mode) → ⊥
    not_table shows = cc (ap shows_tables audits, shows)

    not_one_table : request.mode ≡ OneTable → ⊥
    not_one_table one = cc (one, audits)

    not_dead : (ended : Status) (text : List ℕ) → TellsDead request old new ended text → ⊥
    not_dead ended text t = cc (ap asks_dead audits, dead_asked request old new ended text t)

    not_read : IsTrue (reads_extra request.mode) → ⊥
    not_read reads = cc (ap reads_extra audits, reads)

    no_outcome : (ended : Status) (text : List ℕ) → IsOutcome request old new ended text → ⊥
    no_outcome ended text o = not_run o.mode

    pub ends_audit : (ended : Status) → AnswersAtOnce words old new sink sunk ended
        → EndsAudit sink sunk request source program scope ended
    ends_audit status.Fine is = ⊎_elim (λ o. absurd (no_outcome status.Fine is.0 o))
        (⊎_elim (λ a. report_written status.Fine is.0 a is.2)
        (⊎_elim (λ k. absurd (not_check k.mode))
        (⊎_elim (λ l. absurd (not_emit l.mode))
        (⊎_elim (λ d. absurd (not_table d.mode)) (λ t. absurd (not_dead status.Fine is.0 t))))))
        (answer_is status.Fine is.0 is.1)
    ends_audit status.Conflict is =
        absurd (no_outcome status.Conflict is.0 (answer_is status.Conflict is.0 is.1))
    ends_audit status.NoValue is =
        absurd (no_outcome status.NoValue is.0 (answer_is status.NoValue is.0 is.1))
    ends_audit status.Fault is =
        absurd (no_outcome status.Fault is.0 (answer_is status.Fault is.0 is.1))
    ends_audit status.Source is = absurd (refused_source is.0 is.1)
    ends_audit status.Input is =
        ⊎_elim (λ i. absurd (not_run i.mode)) (λ a. absurd (not_many a.mode)) (answer_is status.Input is.0 is.1)
    ends_audit status.Found is = ⊎_elim (λ a. report_written status.Found is.0 a is.2)
        (λ t. absurd (not_dead status.Found is.0 t)) (answer_is status.Found is.0 is.1)
    ends_audit status.Unsettled is = ⊎_elim (λ a. report_written status.Unsettled is.0 a is.2)
        (⊎_elim (λ d. absurd (not_table d.mode)) (λ t. absurd (not_dead status.Unsettled is.0 t)))
        (answer_is status.Unsettled is.0 is.1)
    ends_audit status.Certificate is = ⊎_elim (λ k. absurd (not_check k.mode))
        (λ t. absurd (not_dead status.Certificate is.0 t)) (answer_is status.Certificate is.0 is.1)
    ends_audit status.Usage is = absurd (refused_usage not_one_table is.0 is.1)
    ends_audit status.Missing is =
        let read = answer_is status.Missing is.0 is.1 in
        absurd (none_missing not_read read.name read.limit read.now read.read.2)
    ends_audit status.ReadFault is = tt
    ends_audit status.WriteFault is = tt
    ends_audit status.Memory is = tt
    ends_audit status.Listing is = absurd (answer_is status.Listing is.0 is.1)
    ends_audit status.TooLarge is =
        let read = answer_is status.TooLarge is.0 is.1 in
        absurd (none_large not_read read.name read.limit read.now read.read.2)

  -- ---- where the file that EXTRA names is told

  module _ (extra : List ℕ) (extra_told : old.content request.extra ≡ Some extra)
      (extra_short : length extra ≤ most_input_bytes) where
    pub extra_is : (other : List ℕ) → IsExtra request old other → other ≡ extra
    extra_is other read =
        of_told (λ content. other ≡ content) (old.content request.extra) extra extra_told read.content

    pub not_missing : (name : List ℕ) (limit : ℕ) → IsReadNow request old name limit → IsNone (old.content name) → ⊥
    not_missing name limit (inl now) none = no_source_missing name limit now none
    not_missing name limit (inr now) none =
        none_there (old.content name) extra (ap old.content now.0 ∙ extra_told) none

    pub not_large : (name : List ℕ) (limit : ℕ) → IsReadNow request old name limit
        → IfSome (old.content name) (λ content. limit < length content) → ⊥
    not_large name limit (inl now) long = no_source_large name limit now long
    not_large name limit (inr now) long =
        let longer : limit < length extra =
        of_told (λ content. limit < length content) (old.content name) extra
        (ap old.content now.0 ∙ extra_told) long in
        absurd (omega (arith, longer, now.1, extra_short))

  -- ---- of a check

  module _ (extra : List ℕ) (check : IsToldCheck words old request source program scope extra) where
    -- what is said is said of this program's scope and these bytes
    said_here : (Says : Program → ℕ → List ℕ → List ℕ → Type 0) (text : List ℕ) → IsChecked Says request old new text
        → Says program scope extra text
    said_here Says text k =
        let programs = program_of k.source k.program k.asked.source_read k.asked.accepted in
        let scopes = scope_of k.program k.scope programs k.asked.named in
        let same = extra_is extra check.extra_told check.extra_short k.extra k.extra_read in
        subst (λ (p : Program). Says p scope extra text) (sym programs)
        (subst (λ n. Says k.program n extra text) (sym scopes)
        (subst (λ (e : List ℕ). Says k.program k.scope e text) same k.says))

    check_runs : IsTrue (runs_scope request.mode) → ⊥
    check_runs runs = cc (ap runs_scope check.mode, runs)

    check_audits : request.mode ≡ Audit → ⊥
    check_audits audits = cc (audits, check.mode)

    check_many : request.mode ≡ Many → ⊥
    check_many many = cc (many, check.mode)

    check_emits : request.mode ≡ Emit → ⊥
    check_emits emits = cc (emits, check.mode)

    check_tables : IsTrue (shows_tables request.mode) → ⊥
    check_tables shows = cc (ap shows_tables check.mode, shows)

    check_one_table : request.mode ≡ OneTable → ⊥
    check_one_table one = cc (one, check.mode)

    check_dead : (ended : Status) (text : List ℕ) → TellsDead request old new ended text → ⊥
    check_dead ended text t = cc (ap asks_dead check.mode, dead_asked request old new ended text t)

    no_outcome_checked : (ended : Status) (text : List ℕ) → IsOutcome request old new ended text → ⊥
    no_outcome_checked ended text o = check_runs o.mode

    no_audit_checked : (ended : Status) (text : List ℕ) → IsAudited request old new ended text → ⊥
    no_audit_checked ended text a = check_audits a.mode

    pub ends_check : (ended : Status) → AnswersAtOnce words old new sink sunk ended
        → EndsCheck sink sunk program scope extra ended
    ends_check status.Fine is = ⊎_elim (λ o. absurd (no_outcome_checked status.Fine is.0 o))
        (⊎_elim (λ a. absurd (no_audit_checked status.Fine is.0 a))
        (⊎_elim (λ k. (is.0, said_here HasCertificate is.0 k, is.2.taken))
        (⊎_elim (λ l. absurd (check_emits l.mode))
        (⊎_elim (λ d. absurd (check_tables d.mode)) (λ t. absurd (check_dead status.Fine is.0 t))))))
        (answer_is status.Fine is.0 is.1)
    ends_check status.Conflict is = absurd
        (no_outcome_checked status.Conflict is.0 (answer_is status.Conflict is.0 is.1))
    ends_check status.NoValue is = absurd
        (no_outcome_checked status.NoValue is.0 (answer_is status.NoValue is.0 is.1))
    ends_check status.Fault is = absurd
        (no_outcome_checked status.Fault is.0 (answer_is status.Fault is.0 is.1))
    ends_check status.Source is = absurd (refused_source is.0 is.1)
    ends_check status.Input is =
        ⊎_elim (λ i. absurd (check_runs i.mode)) (λ a. absurd (check_many a.mode)) (answer_is status.Input is.0 is.1)
    ends_check status.Found is = absurd (⊎_elim (no_audit_checked status.Found is.0)
        (check_dead status.Found is.0) (answer_is status.Found is.0 is.1))
    ends_check status.Unsettled is = absurd (⊎_elim (no_audit_checked status.Unsettled is.0)
        (⊎_elim (λ d. check_tables d.mode) (check_dead status.Unsettled is.0)) (answer_is status.Unsettled is.0 is.1))
    ends_check status.Certificate is = ⊎_elim (λ k. (is.0, said_here HasNoCertificate is.0 k, is.2.taken))
        (λ t. absurd (check_dead status.Certificate is.0 t)) (answer_is status.Certificate is.0 is.1)
    ends_check status.Usage is = absurd (refused_usage check_one_table is.0 is.1)
    ends_check status.Missing is =
        let read = answer_is status.Missing is.0 is.1 in
        absurd (not_missing extra check.extra_told check.extra_short read.name read.limit read.now read.read.2)
    ends_check status.ReadFault is = tt
    ends_check status.WriteFault is = tt
    ends_check status.Memory is = tt
    ends_check status.Listing is = absurd (answer_is status.Listing is.0 is.1)
    ends_check status.TooLarge is =
        let read = answer_is status.TooLarge is.0 is.1 in
        absurd (not_large extra check.extra_told check.extra_short read.name read.limit read.now read.read.2)
