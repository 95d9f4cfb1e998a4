-- What follows from the answers to one who asked for the code of a program.
use Rattle.std.proofs.Common.{◌≡◌, ◌<◌, ℕ, List, sym, ap, subst, ⊎_elim}
use Rattle.std.specs.Prelude.{IsTrue, length, IfSome, IsNone}
use Rattle.cat_io.specs.Shelf.{Shelved}
use Rattle.cat_io.specs.Sink.{Sunk}
use Rattle.cat_scope.specs.declared.programs.Program.{Program}
use Rattle.cat_weave.specs.declared.source.Source.{Source}
use Rattle.cat_app.specs.Modes.{asks_dead, reads_extra, runs_scope, shows_tables}
use Rattle.cat_app.specs.Words.{Request}
use Rattle.cat_app.specs.Complete.{IsToldScope}
use Rattle.cat_app.specs.EmitEnds.{EndsEmit}
use Rattle.cat_app.specs.Deads.{TellsDead}
use Rattle.cat_app.specs.Listings.{IsListed, ListsCode}
use Rattle.cat_app.specs.Asked.{IsReadNow}
use Rattle.cat_app.specs.Table.{AnswersAtOnce, MayAnswer, MayReply}
use Rattle.cat_app.specs.declared.request.Mode.TheVariants.{Audit, Check, Emit, Many}
use Rattle.cat_app.specs.declared.status.Status.{Status}
use Rattle.cat_app.specs.declared.status.Status.TheVariants as status
use Rattle.cat_app.proofs.Complete.{FilesAreTold, answer_is, none_large, none_missing, program_of, refused_source}
use Rattle.cat_app.proofs.Complete.{refused_usage, source_is}
use Rattle.cat_app.proofs.DeadAsked.{dead_asked}
use Rattle.cat_app.proofs.ToldSources.{AreNotAccepted, EndingsAreTold, IsOneProgram}

module _ (one_program : IsOneProgram) (not_accepted : AreNotAccepted) (endings : EndingsAreTold) (files : FilesAreTold)
    (words : List (List ℕ)) (old new : Shelved) (sink sunk : Sunk) (request : Request) (source : Source)
    (program : Program) (scope : ℕ) (told : IsToldScope words old request source program scope)
    (emits : request.mode ≡ Emit) where
  answered : (ended : Status) (text : List ℕ) → MayReply words old new ended text
      → MayAnswer request old new ended text
  answered = answer_is one_program not_accepted endings files words old new sink sunk request source program scope told

  no_usage : (text : List ℕ) → MayReply words old new status.Usage text → ⊥
  no_usage = refused_usage one_program not_accepted endings files words old new sink sunk request source program scope
      told (λ one. cc (one, emits))

  no_refusal : (text : List ℕ) → MayReply words old new status.Source text → ⊥
  no_refusal = refused_source one_program not_accepted endings files words old new sink sunk request source program
      scope told

  runs : IsTrue (runs_scope request.mode) → ⊥
  runs is = cc (ap runs_scope emits, is)

  audits : request.mode ≡ Audit → ⊥
  audits is = cc (is, emits)

  checks : request.mode ≡ Check → ⊥
  checks is = cc (is, emits)

  tables : IsTrue (shows_tables request.mode) → ⊥
  tables is = cc (ap shows_tables emits, is)

  no_dead : (ended : Status) (text : List ℕ) → TellsDead request old new ended text → ⊥
  no_dead ended text t = cc (ap asks_dead emits, dead_asked request old new ended text t)

  unread : IsTrue (reads_extra request.mode) → ⊥
  unread reads = cc (ap reads_extra emits, reads)

  no_file : (name : List ℕ) (limit : ℕ) → IsReadNow request old name limit → IsNone (old.content name) → ⊥
  no_file = none_missing one_program not_accepted endings files words old new sink sunk request source program scope
      told unread

  no_large : (name : List ℕ) (limit : ℕ) → IsReadNow request old name limit
      → IfSome (old.content name) (λ content. limit < length content) → ⊥
  no_large = none_large one_program not_accepted endings files words old new sink sunk request source program scope
      told unread

  -- the code that is listed is of this program
  code_listed : (text : List ℕ) → IsListed request old new text → ListsCode source program text
  code_listed text l =
      let sources = source_is one_program not_accepted endings files words old new sink sunk request source program
      scope told l.source l.asked.source_read in
      let programs = program_of one_program not_accepted endings files words old new sink sunk request source program
      scope told l.source l.program l.asked.source_read l.asked.accepted in
      subst (λ (s : Source). ListsCode s program text) sources
      (subst (λ (p : Program). ListsCode l.source p text) (sym programs) l.lists)

  many : request.mode ≡ Many → ⊥
  many is = cc (is, emits)

  pub ends_emit : (ended : Status) → AnswersAtOnce words old new sink sunk ended
      → EndsEmit sink sunk source program ended
  ends_emit status.Fine is = ⊎_elim (λ o. absurd (runs o.mode))
      (⊎_elim (λ a. absurd (audits a.mode))
      (⊎_elim (λ k. absurd (checks k.mode))
      (⊎_elim (λ l. (is.0, code_listed is.0 l, is.2.taken))
      (⊎_elim (λ d. absurd (tables d.mode)) (λ t. absurd (no_dead status.Fine is.0 t))))))
      (answered status.Fine is.0 is.1)
  ends_emit status.Conflict is = let o = answered status.Conflict is.0 is.1 in absurd (runs o.mode)
  ends_emit status.NoValue is = let o = answered status.NoValue is.0 is.1 in absurd (runs o.mode)
  ends_emit status.Fault is = let o = answered status.Fault is.0 is.1 in absurd (runs o.mode)
  ends_emit status.Source is = absurd (no_refusal is.0 is.1)
  ends_emit status.Input is =
      ⊎_elim (λ i. absurd (runs i.mode)) (λ a. absurd (many a.mode)) (answered status.Input is.0 is.1)
  ends_emit status.Found is =
      absurd (⊎_elim (λ a. audits a.mode) (no_dead status.Found is.0) (answered status.Found is.0 is.1))
  ends_emit status.Unsettled is = absurd (⊎_elim (λ a. audits a.mode)
      (⊎_elim (λ d. tables d.mode) (no_dead status.Unsettled is.0)) (answered status.Unsettled is.0 is.1))
  ends_emit status.Certificate is =
      absurd (⊎_elim (λ k. checks k.mode) (no_dead status.Certificate is.0) (answered status.Certificate is.0 is.1))
  ends_emit status.Usage is = absurd (no_usage is.0 is.1)
  ends_emit status.Missing is =
      let read = answered status.Missing is.0 is.1 in
      absurd (no_file read.name read.limit read.now read.read.2)
  ends_emit status.ReadFault is = tt
  ends_emit status.WriteFault is = tt
  ends_emit status.Memory is = tt
  ends_emit status.Listing is = absurd (answered status.Listing is.0 is.1)
  ends_emit status.TooLarge is =
      let read = answered status.TooLarge is.0 is.1 in
      absurd (no_large read.name read.limit read.now read.read.2)
