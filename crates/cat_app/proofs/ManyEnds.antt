-- What follows from the answers to one who asked for the outcomes of a scope on many inputs.
use Rattle.std.proofs.Common.{◌≡◌, ◌∙◌, ◌<◌, ℕ, zero, suc, List, [], ◌∷◌, take, sym, ap, subst, ⊎_elim}
use Rattle.std.specs.Prelude.{Ok, IfSome, IsNone, IsSomeAnd, IsTrue, length}
use Rattle.std.specs.Io.KnownBytes.{Appends}
use Rattle.cat_io.specs.Shelf.{Shelved}
use Rattle.cat_io.specs.Sink.{Sunk}
use Rattle.cat_io.proofs.Taking.{nothing_more}
use Rattle.cat_scope.specs.declared.programs.Program.{Program}
use Rattle.cat_json.specs.InputsRead.{inputs_read}
use Rattle.cat_weave.specs.declared.source.Source.{Source}
use Rattle.cat_app.specs.Modes.{asks_dead, runs_scope, shows_tables}
use Rattle.cat_app.specs.Words.{Request, request_of}
use Rattle.cat_app.specs.Asked.{IsAsked, IsExtra, IsReadNow}
use Rattle.cat_app.specs.Deads.{TellsDead}
use Rattle.cat_app.specs.Many.{AnswersByLine, AreLines, IsAskedMany, IsRefusedArray, ReadInput}
use Rattle.cat_app.specs.ManyEnds.{EndsMany, IsToldMany, WritesLines}
use Rattle.cat_app.specs.Table.{Answers, AnswersAtOnce, MayAnswer, MayReply}
use Rattle.cat_app.specs.declared.request.Mode.TheVariants.{Audit, Check, Emit}
use Rattle.cat_app.specs.declared.status.Status.{Status}
use Rattle.cat_app.specs.declared.status.Status.TheVariants as status
use Rattle.cat_app.proofs.Answering.{asked_here}
use Rattle.cat_app.proofs.Complete.{FilesAreTold, answer_is, extra_is, not_large, not_missing, program_of}
use Rattle.cat_app.proofs.Complete.{refused_source, refused_usage, scope_of, source_is}
use Rattle.cat_app.proofs.DeadAsked.{dead_asked}
use Rattle.cat_app.proofs.ToldSources.{AreNotAccepted, EndingsAreTold, IsOneProgram}

first_lines : (program : Program) (scope : ℕ) (names : List (List ℕ)) (count : ℕ) (rs : List ReadInput)
    (lines : List (List ℕ)) → AreLines program scope names rs lines
    → AreLines program scope names (take count rs) (take count lines)
first_lines program scope names zero rs lines are = tt
first_lines program scope names (suc k) [] [] are = tt
first_lines program scope names (suc k) [] (l ∷ lines) are = absurd are
first_lines program scope names (suc k) (r ∷ rs) [] are = absurd are
first_lines program scope names (suc k) (r ∷ rs) (l ∷ lines) are =
    (are.0, first_lines program scope names k rs lines are.1)

module _ (one_program : IsOneProgram) (not_accepted : AreNotAccepted) (endings : EndingsAreTold) (files : FilesAreTold)
    (words : List (List ℕ)) (old new : Shelved) (sink sunk : Sunk) (request : Request) (source : Source)
    (program : Program) (scope : ℕ) (inputs : List ReadInput)
    (many : IsToldMany words old request source program scope inputs) where
  answered : (ended : Status) (text : List ℕ) → MayReply words old new ended text
      → MayAnswer request old new ended text
  answered = answer_is one_program not_accepted endings files words old new sink sunk request source program scope
      many.told

  no_usage : (text : List ℕ) → MayReply words old new status.Usage text → ⊥
  no_usage = refused_usage one_program not_accepted endings files words old new sink sunk request source program scope
      many.told (λ one. cc (one, many.mode))

  no_refusal : (text : List ℕ) → MayReply words old new status.Source text → ⊥
  no_refusal = refused_source one_program not_accepted endings files words old new sink sunk request source program
      scope many.told

  no_file : (name : List ℕ) (limit : ℕ) → IsReadNow request old name limit → IsNone (old.content name) → ⊥
  no_file = not_missing one_program not_accepted endings files words old new sink sunk request source program scope
      many.told many.extra many.extra_told many.extra_short

  no_large : (name : List ℕ) (limit : ℕ) → IsReadNow request old name limit
      → IfSome (old.content name) (λ content. limit < length content) → ⊥
  no_large = not_large one_program not_accepted endings files words old new sink sunk request source program scope
      many.told many.extra many.extra_told many.extra_short

  same_extra : (other : List ℕ) → IsExtra request old other → other ≡ many.extra
  same_extra = extra_is one_program not_accepted endings files words old new sink sunk request source program scope
      many.told many.extra many.extra_told many.extra_short

  runs : IsTrue (runs_scope request.mode) → ⊥
  runs is = cc (ap runs_scope many.mode, is)

  audits : request.mode ≡ Audit → ⊥
  audits is = cc (is, many.mode)

  checks : request.mode ≡ Check → ⊥
  checks is = cc (is, many.mode)

  lists : request.mode ≡ Emit → ⊥
  lists is = cc (is, many.mode)

  tables : IsTrue (shows_tables request.mode) → ⊥
  tables is = cc (ap shows_tables many.mode, is)

  no_dead : (ended : Status) (text : List ℕ) → TellsDead request old new ended text → ⊥
  no_dead ended text t = cc (ap asks_dead many.mode, dead_asked request old new ended text t)

  -- what is read of the array is this
  module _ (others : Source) (other : Program) (number : ℕ) (bytes : List ℕ)
      (asked : IsAsked request old others other number) (read : IsExtra request old bytes) where
    same_source : others ≡ source
    same_source = source_is one_program not_accepted endings files words old new sink sunk request source program scope
        many.told others asked.source_read

    same_program : program ≡ other
    same_program = program_of one_program not_accepted endings files words old new sink sunk request source program
        scope many.told others other asked.source_read asked.accepted

    same_scope : scope ≡ number
    same_scope = scope_of one_program not_accepted endings files words old new sink sunk request source program scope
        many.told other number same_program asked.named

    read_here : inputs_read other.decls number bytes ≡ Ok inputs
    read_here =
        ap (λ (p : Program). inputs_read p.decls number bytes) (sym same_program)
        ∙ (ap (λ n. inputs_read program.decls n bytes) (sym same_scope)
        ∙ (ap (λ (e : List ℕ). inputs_read program.decls scope e) (same_extra bytes read) ∙ many.inputs_are))

  no_array : (text : List ℕ) → IsRefusedArray request old new text → ⊥
  no_array text is = cc (read_here is.source is.program is.scope is.extra is.asked is.extra_read, is.refused)

  -- the lines that are asked for are of these inputs
  lines_here : (lines : List (List ℕ)) → IsAskedMany request old lines
      → AreLines program scope source.files inputs lines
  lines_here lines is =
      let read = read_here is.source is.program is.scope is.extra is.asked is.extra_read in
      let same : is.inputs ≡ inputs = cc (is.inputs_are, read) in
      subst (λ (s : Source). AreLines program scope s.files inputs lines)
      (same_source is.source is.program is.scope is.extra is.asked is.extra_read)
      (subst (λ (p : Program). AreLines p scope is.source.files inputs lines)
      (sym (same_program is.source is.program is.scope is.extra is.asked is.extra_read))
      (subst (λ n. AreLines is.program n is.source.files inputs lines)
      (sym (same_scope is.source is.program is.scope is.extra is.asked is.extra_read))
      (subst (λ (rs : List ReadInput). AreLines is.program is.scope is.source.files rs lines) same is.lines_are)))

  nothing_written : sunk ≡ sink → WritesLines sink sunk source program scope []
  nothing_written same = record {
    lines = [];
    lines_are = tt;
    written = subst (λ (s : Sunk). Appends sink.taken s.taken []) (sym same) (nothing_more sink.taken);
  }

  at_once : (ended : Status) → AnswersAtOnce words old new sink sunk ended
      → EndsMany sink sunk source program scope inputs ended
  at_once status.Fine is = ⊎_elim (λ o. absurd (runs o.mode))
      (⊎_elim (λ a. absurd (audits a.mode)) (⊎_elim (λ k. absurd (checks k.mode))
      (⊎_elim (λ l. absurd (lists l.mode))
      (⊎_elim (λ d. absurd (tables d.mode)) (λ t. absurd (no_dead status.Fine is.0 t))))))
      (answered status.Fine is.0 is.1)
  at_once status.Conflict is = let o = answered status.Conflict is.0 is.1 in absurd (runs o.mode)
  at_once status.NoValue is = let o = answered status.NoValue is.0 is.1 in absurd (runs o.mode)
  at_once status.Fault is = let o = answered status.Fault is.0 is.1 in absurd (runs o.mode)
  at_once status.Source is = absurd (no_refusal is.0 is.1)
  at_once status.Input is =
      ⊎_elim (λ i. absurd (runs i.mode)) (λ a. absurd (no_array is.0 a)) (answered status.Input is.0 is.1)
  at_once status.Found is =
      absurd (⊎_elim (λ a. audits a.mode) (no_dead status.Found is.0) (answered status.Found is.0 is.1))
  at_once status.Unsettled is = absurd (⊎_elim (λ a. audits a.mode)
      (⊎_elim (λ d. tables d.mode) (no_dead status.Unsettled is.0)) (answered status.Unsettled is.0 is.1))
  at_once status.Certificate is =
      absurd (⊎_elim (λ k. checks k.mode) (no_dead status.Certificate is.0) (answered status.Certificate is.0 is.1))
  at_once status.Usage is = absurd (no_usage is.0 is.1)
  at_once status.Missing is =
      let read = answered status.Missing is.0 is.1 in
      absurd (no_file read.name read.limit read.now read.read.2)
  at_once status.ReadFault is = tt
  at_once status.WriteFault is = tt
  at_once status.Memory is = (0, nothing_written is.0)
  at_once status.Listing is = absurd (answered status.Listing is.0 is.1)
  at_once status.TooLarge is =
      let read = answered status.TooLarge is.0 is.1 in
      absurd (no_large read.name read.limit read.now read.read.2)

  by_line : (ended : Status) → AnswersByLine request old new sink sunk ended
      → EndsMany sink sunk source program scope inputs ended
  by_line status.Fine is =
      record { lines = is.lines; lines_are = lines_here is.lines is.asked; written = is.puts.taken }
  by_line status.WriteFault is = tt
  by_line status.ReadFault is = tt
  by_line status.Memory is = (
    is.puts.0,
    record {
      lines = take is.puts.0 is.lines;
      lines_are = first_lines program scope source.files is.puts.0 inputs is.lines (lines_here is.lines is.asked);
      written = is.puts.1.taken;
    },
  )
  by_line _ is = absurd is.puts

  -- a line is written for each
  pub many_ends : (ended : Status) → Answers words old new sink sunk ended
      → EndsMany sink sunk source program scope inputs ended
  many_ends ended = ⊎_elim (at_once ended) lines
    where
      lines : IsSomeAnd (request_of words) (λ r. AnswersByLine r old new sink sunk ended)
          → EndsMany sink sunk source program scope inputs ended
      lines l =
          let here = asked_here (λ r. AnswersByLine r old new sink sunk ended) (request_of words) l in
          let same : here.0 ≡ request = cc (here.1, many.told.asked) in
          by_line ended (subst (λ (r : Request). AnswersByLine r old new sink sunk ended) same here.2)
