-- Which replies the steps of a drill lead to.
use Rattle.std.proofs.Common.{◌≡◌, ◌∙◌, ℕ, ℤ, List, [], ◌∷◌, ◌++◌, refl, sym, ap, subst}
use Rattle.std.specs.Prelude.{None, Some, Ok, Err, codes, string_bytes}
use Rattle.std.specs.Fmt.{decimal, signed_decimal}
use Rattle.cat_io.specs.Shelf.{Shelved}
use Rattle.cat_pos.specs.declared.pos.Pos.{Pos}
use Rattle.cat_value.specs.declared.outcome.Outcome.{Outcome}
use Rattle.cat_value.specs.declared.outcome.Outcome.TheVariants as outcome
use Rattle.cat_scope.specs.declared.programs.Program.{Program}
use Rattle.cat_scope.specs.Named.{number_named}
use Rattle.cat_json.specs.declared.refusal.InputRefusal.{InputRefusal}
use Rattle.cat_weave.specs.declared.source.Source.{Source}
use Rattle.cat_weave.specs.declared.source.GatherRefusal.{GatherRefusal}
use Rattle.cat_weave.specs.declared.source.GatherRefusal.TheVariants as gathering
use Rattle.cat_weave.specs.Causes.{AreReadableTogether, HasCause}
use Rattle.cat_build.specs.declared.Built.{Built}
use Rattle.cat_build.specs.Accepted.{IsAccepted}
use Rattle.cat_build.specs.Built.{IsBuiltOf}
use Rattle.cat_audit.specs.declared.report.Section.{Section}
use Rattle.cat_audit.specs.declared.report.Verdict.{Verdict}
use Rattle.cat_audit.specs.Reports.{last_verdict}
use Rattle.cat_audit.specs.ReportLines.{verdict_text}
use Rattle.cat_app.specs.Runs.{IsFirstRefused, IsFirstStop, IsValue}
use Rattle.cat_app.specs.Asked.{IsAsked, IsSource}
use Rattle.cat_app.specs.Lines.{line, status_of}
use Rattle.cat_app.specs.Drills.{HasLine, HasRefusedRun, HasStop, IsOfBands, bands_request, bands_shelf, drill_line}
use Rattle.cat_app.specs.Table.{MayAnswer, MayDrill}
use Rattle.cat_app.specs.inside.Says.{MaySay, Says, SaysGathering, SaysInput, SaysOutcome}
use Rattle.cat_app.specs.inside.SaysOfBands.{GathersBands, MaySayOfBands, RefusesBands, SaysLine}
use Rattle.cat_app.specs.declared.reply.Reply.{Reply}
use Rattle.cat_app.specs.declared.status.Status.{Status}
use Rattle.cat_app.specs.declared.status.Status.TheVariants.{Source as SourceStatus, Usage}
use Rattle.cat_app.proofs.Replies.{asked_for, no_scope, no_source}

-- ---- gathering

pub whole_source : (bands : ℕ) (old new : Shelved) (source : Source) → old ≡ bands_shelf bands
    → HasCause old new (codes "none") (Ok source) → AreReadableTogether source.pieces → GathersBands bands (Ok source)
whole_source bands old new source is cause readable =
    (subst (λ (s : Shelved). IsSource bands_request s source) is cause.1, readable)

pub refused_text : (bands : ℕ) (old new : Shelved) (name : List ℕ) (pos : Pos) → old ≡ bands_shelf bands
    → HasCause old new (codes "none") (Err (gathering.NotUtf8 name pos))
    → RefusesBands bands (gathering.NotUtf8 name pos)
refused_text bands old new name pos is cause =
    let told = subst (λ (s : Shelved). HasCause s s (codes "none") (Err (gathering.NotUtf8 name pos))) is
    (refl, cause.1) in told.1

pub refused_fence : (bands : ℕ) (old new : Shelved) (name : List ℕ) (pos : Pos) → old ≡ bands_shelf bands
    → HasCause old new (codes "none") (Err (gathering.FenceOpen name pos))
    → RefusesBands bands (gathering.FenceOpen name pos)
refused_fence bands old new name pos is cause =
    let told = subst (λ (s : Shelved). HasCause s s (codes "none") (Err (gathering.FenceOpen name pos))) is
    (refl, cause.1) in told.1

pub refused_include : (bands : ℕ) (old new : Shelved) (name : List ℕ) (pos : Pos) → old ≡ bands_shelf bands
    → HasCause old new (codes "none") (Err (gathering.IncludeTwice name pos))
    → RefusesBands bands (gathering.IncludeTwice name pos)
refused_include bands old new name pos is cause =
    let told = subst (λ (s : Shelved). HasCause s s (codes "none") (Err (gathering.IncludeTwice name pos))) is
    (refl, cause.1) in told.1

-- ---- refusals

-- a refusal of the source is that of a run
pub source_refused : (bands : ℕ) (reply : Reply) → reply.status ≡ SourceStatus
    → MaySay bands_request (bands_shelf bands) (bands_shelf bands) reply → MaySayOfBands bands reply
source_refused bands reply is may = subst (λ (st : Status). MayDrill bands st (string_bytes reply.text)) (sym is)
    (subst (λ (st : Status).
    MayAnswer bands_request (bands_shelf bands) (bands_shelf bands) st (string_bytes reply.text)) is may)

pub scope_refused : (bands : ℕ) (reply : Reply) → reply.status ≡ Usage
    → MaySay bands_request (bands_shelf bands) (bands_shelf bands) reply → MaySayOfBands bands reply
scope_refused bands reply is may = subst (λ (st : Status). MayDrill bands st (string_bytes reply.text)) (sym is)
    (subst (λ (st : Status).
    MayAnswer bands_request (bands_shelf bands) (bands_shelf bands) st (string_bytes reply.text)) is may)

pub no_bands_scope : (bands : ℕ) (source : Source) (program : Program) (reply : Reply)
    → IsSource bands_request (bands_shelf bands) source → IsAccepted source.pieces program
    → number_named bands_request.scope 0 program.decls.scopes ≡ None
    → Says Usage (line (codes "no such scope ") bands_request.scope) reply → MaySayOfBands bands reply
no_bands_scope bands source program reply read accepted unnamed says = scope_refused bands reply says.0
    (no_scope bands_request (bands_shelf bands) (bands_shelf bands) source program reply read accepted unnamed refl
    says)

pub gathering_refused : (bands : ℕ) (refusal : GatherRefusal) (reply : Reply) → RefusesBands bands refusal
    → SaysGathering refusal reply → MaySayOfBands bands reply
gathering_refused bands (gathering.NotUtf8 name pos) reply why says = source_refused bands reply says.0
    (no_source bands_request (bands_shelf bands) (bands_shelf bands) (gathering.NotUtf8 name pos) reply (refl, why)
    says)
gathering_refused bands (gathering.FenceOpen name pos) reply why says = source_refused bands reply says.0
    (no_source bands_request (bands_shelf bands) (bands_shelf bands) (gathering.FenceOpen name pos) reply (refl, why)
    says)
gathering_refused bands (gathering.IncludeTwice name pos) reply why says = source_refused bands reply says.0
    (no_source bands_request (bands_shelf bands) (bands_shelf bands) (gathering.IncludeTwice name pos) reply (refl, why)
    says)
gathering_refused bands (gathering.Missing name) reply why says = absurd why
gathering_refused bands (gathering.ReadFault name) reply why says = absurd why
gathering_refused bands (gathering.TooLarge name) reply why says = absurd why
gathering_refused bands gathering.Memory reply why says = absurd says

-- ---- the line

pub line_is : (bands : ℕ) (sum : ℤ) (leaves : ℕ) (word : List ℕ) (v : Verdict) (sections seen : List Section)
    → word ≡ verdict_text v → v ≡ last_verdict seen → seen ≡ sections
    → codes "bands " ++ (decimal bands ++ (codes " runs 1000 sum " ++ (signed_decimal sum
    ++ (codes " leaves " ++ (decimal leaves ++ (codes " " ++ (word ++ 10 ∷ [])))))))
    ≡ drill_line bands sum leaves (last_verdict sections)
line_is bands sum leaves word v sections seen word_is v_is same =
    ap (λ (w : List ℕ). codes "bands " ++ (decimal bands ++ (codes " runs 1000 sum " ++ (signed_decimal sum
    ++ (codes " leaves " ++ (decimal leaves ++ (codes " " ++ (w ++ 10 ∷ []))))))))
    (word_is ∙ (ap verdict_text v_is ∙ ap (λ (ss : List Section). verdict_text (last_verdict ss)) same))

-- ---- of the scope

module _ (bands : ℕ) (source : Source) (built : Built) (scope : ℕ)
    (read : IsSource bands_request (bands_shelf bands) source) (is : IsBuiltOf source.pieces built)
    (named : number_named bands_request.scope 0 built.program.decls.scopes ≡ Some scope) where
  is_asked : IsAsked bands_request (bands_shelf bands) source built.program scope
  is_asked = asked_for bands_request (bands_shelf bands) source built scope read is named

  -- what is said of it
  of_bands : (Says : Source → Program → ℕ → List ℕ → Type 0) (text : List ℕ)
      → Says source built.program scope text → IsOfBands Says bands text
  of_bands Says text says =
      record { source = source; program = built.program; scope = scope; asked = is_asked; says = says }

  pub a_line : (reply : Reply) → SaysLine bands source built.program scope reply → MaySayOfBands bands reply
  a_line reply says = rw says.0 (of_bands (HasLine bands) (string_bytes reply.text) says.1)

  -- an outcome that is no value answers with its own status
  stop_answers : (o : Outcome) (text : List ℕ) → (IsValue o → ⊥)
      → IsOfBands (HasStop bands (status_of o)) bands text → MayDrill bands (status_of o) text
  stop_answers (outcome.Value outputs) text stops h = absurd (stops tt)
  stop_answers (outcome.Conflict target positions) text stops h = h
  stop_answers (outcome.NoValue target pos) text stops h = h
  stop_answers (outcome.Fault kind pos) text stops h = h

  pub a_stop : (o : Outcome) (reply : Reply) → IsFirstStop built.program scope bands o
      → SaysOutcome built.program.decls scope source.files o reply → MaySayOfBands bands reply
  a_stop o reply stop says = rw says.0 (stop_answers o (string_bytes reply.text) stop.stops
      (of_bands (HasStop bands (status_of o)) (string_bytes reply.text)
      (record { outcome = o; stop = stop; status = refl; text_is = says.1 })))

  pub a_refused_run : (refusal : InputRefusal) (reply : Reply) → IsFirstRefused built.program scope bands refusal
      → SaysInput refusal reply → MaySayOfBands bands reply
  a_refused_run refusal reply refused says = rw says.0 (of_bands (HasRefusedRun bands) (string_bytes reply.text)
      (record { refusal = refusal; refused = refused; text_is = says.1 }))
