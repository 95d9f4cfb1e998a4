-- Which replies the steps of a call lead to.
use Rattle.std.proofs.Common.{◌≡◌, ◌≢◌, ◌∙◌, ◌<◌, ◌≤◌, ◌+◌, ℕ, Bool, true, false, List, [], ◌∷◌, refl}
use Rattle.std.proofs.Common.{sym, subst, inl, inr, arith}
use Rattle.std.specs.Prelude.{Option, Some, None, Result, Ok, Err, IfOk, codes, length, string_bytes, if◌then◌else◌}
use Rattle.std.specs.Prelude.{bytes_eq, IsTrue, max}
use Rattle.cat_pos.specs.Limits.{most_input_bytes}
use Rattle.cat_io.specs.Shelf.{Shelved, Reads}
use Rattle.cat_io.specs.declared.shelf.ShelfFault.{ShelfFault}
use Rattle.cat_io.specs.declared.shelf.ShelfFault.TheVariants as shelf
use Rattle.cat_value.specs.declared.value.Value.{Value}
use Rattle.cat_value.specs.declared.declaration.Scope.{Scope}
use Rattle.cat_value.specs.declared.outcome.Outcome.{Outcome}
use Rattle.cat_value.specs.declared.outcome.Outcome.TheVariants as outcome
use Rattle.cat_scope.specs.declared.programs.Program.{Program}
use Rattle.cat_scope.specs.Named.{number_named}
use Rattle.cat_audit.specs.declared.report.Verdict.{Verdict}
use Rattle.cat_audit.specs.declared.report.Verdict.TheVariants as verdict
use Rattle.cat_audit.specs.Reports.{last_verdict}
use Rattle.cat_emitted.specs.Accepted.{IsAcceptedListing}
use Rattle.cat_json.specs.declared.refusal.InputRefusal.{InputRefusal}
use Rattle.cat_json.specs.declared.refusal.InputRefusal.TheVariants as refused
use Rattle.cat_json.specs.InputsRead.{input_read, inputs_read}
use Rattle.cat_weave.specs.declared.source.Source.{Source}
use Rattle.cat_weave.specs.declared.source.GatherRefusal.{GatherRefusal}
use Rattle.cat_weave.specs.declared.source.GatherRefusal.TheVariants as gathering
use Rattle.cat_weave.specs.Gathered.{limit_after}
use Rattle.cat_weave.specs.Causes.{HasCause}
use Rattle.cat_build.specs.declared.Built.{Built}
use Rattle.cat_build.specs.Accepted.{IsAccepted}
use Rattle.cat_build.specs.Built.{IsBuiltOf}
use Rattle.cat_words.specs.Asked.{IsCases}
use Rattle.cat_words.proofs.Exported.{cases_within}
use Rattle.cat_app.specs.Modes.{reads_extra, runs_scope}
use Rattle.cat_app.specs.Words.{Request, IsMost}
use Rattle.cat_app.specs.Asked.{IsSource, IsExtra, IsAsked, IsReadNow}
use Rattle.cat_app.specs.declared.request.Mode.{Mode}
use Rattle.cat_app.specs.declared.request.Mode.TheVariants as modes
use Rattle.cat_app.specs.declared.request.Mode.TheVariants.{Audit, Check, Emit}
use Rattle.cat_app.specs.Audits.{IsAudited, status_at}
use Rattle.cat_app.specs.Checks.{HasCertificate, HasNoCertificate, IsChecked}
use Rattle.cat_app.specs.Answers.{IsOutcome}
use Rattle.cat_app.specs.Lines.{input_line, line, status_of}
use Rattle.cat_app.specs.Table.{MayAnswer}
use Rattle.cat_app.specs.inside.Says.{Says, SaysChecked, SaysFault, SaysGathering, SaysListing}
use Rattle.cat_app.specs.inside.Says.{SaysInput, SaysReport, SaysRun, MaySay}
use Rattle.cat_app.specs.declared.reply.Reply.{Reply}
use Rattle.cat_app.specs.declared.status.Status.{Status}
use Rattle.cat_app.specs.declared.status.Status.TheVariants.{Usage}

-- of a result, what a fact leads to
pub if_ok : {A E : Type 0} {P Q : A → Type 0} (r : Result A E) → IfOk r P → ((a : A) → P a → Q a) → IfOk r Q
if_ok (Ok a) p step = step a p
if_ok (Err e) p step = tt

-- ---- replies

-- the read of this file was refused
refused_now : (request : Request) (old new : Shelved) (name : List ℕ) (limit : ℕ) (fault : ShelfFault) (reply : Reply) →
    IsReadNow request old name limit → Reads name limit old new (Err fault) → SaysFault name fault reply →
    MaySay request old new reply
refused_now request old new name limit shelf.Missing reply now read says =
    rw says.0 (record { name = name; limit = limit; now = now; read = read; reply = says.1 })
refused_now request old new name limit shelf.Failed reply now read says =
    rw says.0 (record { name = name; limit = limit; now = now; read = read; reply = says.1 })
refused_now request old new name limit shelf.Long reply now read says =
    rw says.0 (record { name = name; limit = limit; now = now; read = read; reply = says.1 })
refused_now request old new name limit shelf.Memory reply now read says = absurd says

-- the files of the source can't be gathered
pub no_source : (request : Request) (old new : Shelved) (refusal : GatherRefusal) (reply : Reply)
    → HasCause old new request.file (Err refusal) → SaysGathering refusal reply → MaySay request old new reply
no_source request old new (gathering.NotUtf8 name pos) reply cause says =
    rw says.0 (inl (record {
      refusal = gathering.NotUtf8 name pos;
      ending = cause.1;
      untouched = cause.0;
      reply = says.1;
    }))
no_source request old new (gathering.FenceOpen name pos) reply cause says =
    rw says.0 (inl (record {
      refusal = gathering.FenceOpen name pos;
      ending = cause.1;
      untouched = cause.0;
      reply = says.1;
    }))
no_source request old new (gathering.IncludeTwice name pos) reply cause says =
    rw says.0 (inl (record {
      refusal = gathering.IncludeTwice name pos;
      ending = cause.1;
      untouched = cause.0;
      reply = says.1;
    }))
no_source request old new (gathering.Missing name) reply cause says =
    refused_now request old new name (limit_after cause.0) shelf.Missing reply (inl (cause.0, cause.1, refl)) cause.2
    says
no_source request old new (gathering.ReadFault name) reply cause says =
    refused_now request old new name (limit_after cause.0) shelf.Failed reply (inl (cause.0, cause.1, refl)) cause.2
    says
no_source request old new (gathering.TooLarge name) reply cause says =
    refused_now request old new name (limit_after cause.0) shelf.Long reply (inl (cause.0, cause.1, refl)) cause.2 says
no_source request old new gathering.Memory reply cause says = absurd says

-- the source declares no such scope
pub no_scope : (request : Request) (old new : Shelved) (source : Source) (program : Program) (reply : Reply)
    → IsSource request old source → IsAccepted source.pieces program
    → number_named request.scope 0 program.decls.scopes ≡ None → new ≡ old
    → Says Usage (line (codes "no such scope ") request.scope) reply → MaySay request old new reply
no_scope request old new source program reply read accepted unnamed same says = rw says.0 (inl (record {
  source = source;
  program = program;
  source_read = read;
  accepted = accepted;
  unnamed = unnamed;
  untouched = same;
  reply = says.1;
}))

-- the scope is there
pub asked_for : (request : Request) (old : Shelved) (source : Source) (built : Built) (scope : ℕ)
    → IsSource request old source → IsBuiltOf source.pieces built
    → number_named request.scope 0 built.program.decls.scopes ≡ Some scope
    → IsAsked request old source built.program scope
asked_for request old source built scope read is named =
    record { source_read = read; accepted = is.accepted; named = named }

-- the input can't be read
pub no_extra : (request : Request) (old new : Shelved) (source : Source) (program : Program) (scope : ℕ)
    (fault : ShelfFault) (reply : Reply) → Reads request.extra most_input_bytes old new (Err fault)
    → SaysFault request.extra fault reply → IsAsked request old source program scope
    → IsTrue (reads_extra request.mode) → MaySay request old new reply
no_extra request old new source program scope fault reply read says asked mode =
    refused_now request old new request.extra most_input_bytes fault reply
    (inr (refl, refl, mode, (source, program, scope, asked))) read says

-- a mode that runs the scope reads the input
pub run_reads : (mode : Mode) → IsTrue (runs_scope mode) → IsTrue (reads_extra mode)
run_reads modes.Run is = is
run_reads modes.EmitRun is = is
run_reads modes.Trace is = is
run_reads modes.Audit is = is
run_reads modes.Check is = refl
run_reads modes.Emit is = is
run_reads modes.Many is = refl
run_reads modes.AllTables is = is
run_reads modes.OneTable is = is
run_reads modes.Dead is = is
run_reads modes.DeadCheck is = refl

-- the input is none of the scope's
pub no_input : (request : Request) (old new : Shelved) (source : Source) (program : Program) (scope : ℕ)
    (extra : List ℕ) (refusal : InputRefusal) (reply : Reply) → IsExtra request old extra → new ≡ old
    → input_read program.decls scope extra ≡ Err refusal → SaysInput refusal reply
    → IsAsked request old source program scope → IsTrue (runs_scope request.mode) → MaySay request old new reply
no_input request old new source program scope extra refusal reply extra_read same none says asked mode =
    rw says.0 (inl (record {
      source = source;
      program = program;
      scope = scope;
      extra = extra;
      refusal = refusal;
      mode = mode;
      asked = asked;
      extra_read = extra_read;
      refused = none;
      untouched = same;
      reply = says.1;
    }))

-- the array is refused as a whole
pub no_array : (request : Request) (old new : Shelved) (source : Source) (program : Program) (scope : ℕ)
    (extra : List ℕ) (refusal : InputRefusal) (reply : Reply) → IsExtra request old extra → new ≡ old
    → inputs_read program.decls scope extra ≡ Err refusal → SaysInput refusal reply
    → IsAsked request old source program scope → request.mode ≡ modes.Many → MaySay request old new reply
no_array request old new source program scope extra refusal reply extra_read same none says asked mode =
    rw says.0 (inr (record {
      source = source;
      program = program;
      scope = scope;
      extra = extra;
      refusal = refusal;
      mode = mode;
      asked = asked;
      extra_read = extra_read;
      refused = none;
      untouched = same;
      reply = says.1;
    }))

-- want of memory refuses no input
pub not_memory : (refusal : InputRefusal) (reply : Reply) → SaysInput refusal reply → refusal ≢ refused.Memory
not_memory refusal reply says is =
    cc (subst (λ (r : InputRefusal). input_line r ≡ Some (string_bytes reply.text)) is says.1)

-- an outcome answers with its own status
outcome_at : (request : Request) (old new : Shelved) (o : Outcome) (text : List ℕ)
    → IsOutcome request old new (status_of o) text → MayAnswer request old new (status_of o) text
outcome_at request old new (outcome.Value values) text is = inl is
outcome_at request old new (outcome.Conflict target positions) text is = is
outcome_at request old new (outcome.NoValue target pos) text is = is
outcome_at request old new (outcome.Fault kind pos) text is = is

outcome_answers : (request : Request) (old new : Shelved) (ended : Status) (o : Outcome) (text : List ℕ)
    → ended ≡ status_of o → IsOutcome request old new ended text → MayAnswer request old new ended text
outcome_answers request old new ended o text is answer =
    subst (λ (s : Status). MayAnswer request old new s text) (sym is)
    (outcome_at request old new o text (subst (λ (s : Status). IsOutcome request old new s text) is answer))

-- the scope comes to its outcome on the input
pub an_outcome : (request : Request) (old new : Shelved) (source : Source) (program : Program) (scope : ℕ)
    (extra : List ℕ) (input : List (Option Value)) (reply : Reply) → IsExtra request old extra → new ≡ old
    → input_read program.decls scope extra ≡ Ok input → SaysRun request.mode source program scope input reply
    → IsAsked request old source program scope → IsTrue (runs_scope request.mode) → MaySay request old new reply
an_outcome request old new source program scope extra input reply extra_read same known says asked mode =
    outcome_answers request old new reply.status says.outcome (string_bytes reply.text) says.status (record {
      source = source;
      program = program;
      scope = scope;
      extra = extra;
      input = input;
      mode = mode;
      asked = asked;
      extra_read = extra_read;
      input_is = known;
      tells = says;
      untouched = same;
    })

-- a report answers with the status of its last verdict
report_answers : (request : Request) (old new : Shelved) (v : Verdict) (text : List ℕ)
    → IsAudited request old new (status_at v) text → MayAnswer request old new (status_at v) text
report_answers request old new verdict.Found text is = inl is
report_answers request old new verdict.Masked text is = inl is
report_answers request old new verdict.Undecided text is = inl is
report_answers request old new verdict.Complete text is = inr (inl is)

-- the number of cases is the most leaves
pub most_is : (cases : Option (List ℕ)) (number most : ℕ) → IsCases cases number → most ≡ max number 1
    → IsMost cases most
most_is cases number most is same =
    let within = cases_within cases number is in
    let equal : most ≡ number = same ∙ omega (arith, within.0) in
    subst (λ n. IsMost cases n) (sym equal)
    (record { number_is = is; some = within.0; few = within.1 })

-- an audit says this of the scope
pub a_report : (request : Request) (old new : Shelved) (source : Source) (program : Program) (scope most : ℕ)
    (reply : Reply) → new ≡ old → SaysReport program scope most source.files reply
    → IsAsked request old source program scope → request.mode ≡ Audit → IsMost request.cases most
    → MaySay request old new reply
a_report request old new source program scope most reply same says asked mode most_is =
    rw says.says.0
    (report_answers request old new (last_verdict says.report.sections) (string_bytes reply.text) (record {
      source = source;
      program = program;
      scope = scope;
      most = most;
      report = says.report;
      mode = mode;
      asked = asked;
      most_is = most_is;
      report_is = says.report_is;
      again = says.again;
      untouched = same;
      status = refl;
      reply = says.says.1;
    }))

-- whatever a check says of the bytes, it says of the scope
is_checked : (Says : Program → ℕ → List ℕ → List ℕ → Type 0) (request : Request) (old new : Shelved)
    (source : Source) (program : Program) (scope : ℕ) (extra text : List ℕ) → IsExtra request old extra → new ≡ old
    → IsAsked request old source program scope → request.mode ≡ Check → Says program scope extra text
    → IsChecked Says request old new text
is_checked Says request old new source program scope extra text extra_read same asked mode says = record {
  source = source;
  program = program;
  scope = scope;
  extra = extra;
  mode = mode;
  asked = asked;
  extra_read = extra_read;
  says = says;
  untouched = same;
}

-- a check answers
pub a_check : (request : Request) (old new : Shelved) (source : Source) (program : Program) (scope : ℕ)
    (extra : List ℕ) (reply : Reply) → IsExtra request old extra → new ≡ old
    → IsAsked request old source program scope → request.mode ≡ Check → SaysChecked program scope extra reply
    → MaySay request old new reply
a_check request old new source program scope extra reply extra_read same asked mode (inl yes_says) =
    rw yes_says.0 (inr (inr (inl (is_checked HasCertificate request old new source program scope extra
    (string_bytes reply.text) extra_read same asked mode yes_says.1))))
a_check request old new source program scope extra reply extra_read same asked mode (inr no_says) =
    rw no_says.0 (inl (is_checked HasNoCertificate request old new source program scope extra (string_bytes reply.text)
    extra_read same asked mode no_says.1))

-- the code that is built is listed
pub a_listing : (request : Request) (old new : Shelved) (source : Source) (built : Built) (scope : ℕ) (reply : Reply)
    → new ≡ old → IsBuiltOf source.pieces built → SaysListing source built reply
    → IsAsked request old source built.program scope → request.mode ≡ Emit → MaySay request old new reply
a_listing request old new source built scope reply same is lists asked mode =
    rw lists.says.0 (inr (inr (inr (inl (record {
      source = source;
      program = built.program;
      scope = scope;
      mode = mode;
      asked = asked;
      lists = record {
        code = built.code;
        declared = is.lowered.code_is.decls ∙ is.lowered.decls;
        code_is = is.code;
        text_is = lists.says.1;
        accepted = subst (λ (text : List ℕ). length text ≤ most_input_bytes
            → IsAcceptedListing text source.files built.code) (sym lists.says.1) lists.accepted;
      };
      untouched = same;
    })))))

-- ---- scopes by name

named_from : (name : List ℕ) (n k : ℕ) (scopes : List Scope) → number_named name n scopes ≡ Some k
    → k < n + length scopes
named_from name n k [] named = cc named
named_from name n k (s ∷ scopes) named = by (bytes_eq s.name name) named (named_from name (n + 1) k scopes)
  where
    by : (test : Bool) → (if test then Some n else number_named name (n + 1) scopes) ≡ Some k
        → (number_named name (n + 1) scopes ≡ Some k → k < n + 1 + length scopes) → k < n + length (s ∷ scopes)
    by true is later = let same : n ≡ k = cc is in omega (arith, same)
    by false is later = omega (arith, later is)

-- a scope that has a name is one of them
pub named_within : (name : List ℕ) (k : ℕ) (scopes : List Scope) → number_named name 0 scopes ≡ Some k
    → k < length scopes
named_within name k scopes named = omega (arith, named_from name 0 k scopes named)
