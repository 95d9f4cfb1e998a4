-- What the steps of a call say.
use Rattle.std.specs.Prelude.{◌≡◌, ◌⊎◌, ◌≤◌, List, [], ℕ, length, Option, Some, string_bytes, codes}
use Rattle.cat_pos.specs.Limits.{most_input_bytes}
use Rattle.cat_io.specs.Shelf.{Shelved}
use Rattle.cat_io.specs.declared.shelf.ShelfFault.{ShelfFault}
use Rattle.cat_io.specs.declared.shelf.ShelfFault.TheVariants as shelf
use Rattle.cat_value.specs.declared.decls.Decls.{Decls}
use Rattle.cat_value.specs.declared.value.Value.{Value}
use Rattle.cat_value.specs.declared.outcome.Outcome.{Outcome}
use Rattle.cat_scope.specs.declared.programs.Program.{Program}
use Rattle.cat_scope.specs.Names.{AllHave}
use Rattle.cat_audit.specs.declared.report.Report.{Report}
use Rattle.cat_audit.specs.declared.report.Verdict.{Verdict}
use Rattle.cat_audit.specs.declared.report.Verdict.TheVariants as verdict
use Rattle.cat_audit.specs.Complete.{AreClosedTrees, targets_in}
use Rattle.cat_audit.specs.Reports.{last_verdict}
use Rattle.cat_audit.specs.RunsAgain.{RunAgain}
use Rattle.cat_json.specs.declared.refusal.InputRefusal.{InputRefusal}
use Rattle.cat_answer.specs.Answer.{answer_of}
use Rattle.cat_weave.specs.declared.source.Source.{Source}
use Rattle.cat_weave.specs.declared.source.GatherRefusal.{GatherRefusal}
use Rattle.cat_weave.specs.declared.source.GatherRefusal.TheVariants as gathering
use Rattle.cat_listing.specs.Listing.{listing}
use Rattle.cat_build.specs.declared.Built.{Built}
use Rattle.cat_emitted.specs.Accepted.{IsAcceptedListing}
use Rattle.cat_words.specs.Asked.{IsCases}
use Rattle.cat_app.specs.Words.{Request}
use Rattle.cat_app.specs.inside.AskedWords.{asked_of}
use Rattle.cat_app.specs.Answers.{TellsOutcome}
use Rattle.cat_app.specs.Lines.{line, status_of, gathering_line, input_line}
use Rattle.cat_cert.specs.declared.refusal.CertRefusal.{CertRefusal}
use Rattle.cat_app.specs.Checks.{HasCertificate, HasNoCertificate, certificate_line}
use Rattle.cat_app.specs.Audits.{HasReport, audit_text, status_at}
use Rattle.cat_app.specs.Table.{MayAnswer}
use Rattle.cat_app.specs.declared.asked_words.AskedWords.{AskedWords}
use Rattle.cat_app.specs.declared.request.Mode.{Mode}
use Rattle.cat_app.specs.declared.reply.Reply.{Reply}
use Rattle.cat_app.specs.declared.status.Status.{Status}
use Rattle.cat_app.specs.declared.status.Status.TheVariants.{Certificate, Fine, Input, Missing, ReadFault, TooLarge}
use Rattle.cat_app.specs.declared.status.Status.TheVariants.{Source as SourceStatus}

-- a reply has this status and this text
abbrev pub Says : Status → List ℕ → Reply → Type 0
Says status text reply = (reply.status ≡ status) × (string_bytes reply.text ≡ text)

-- a reply is the listing of code, which is accepted where it is short enough to be read
pub record SaysListing (source : Source) (built : Built) (reply : Reply) : Type 0 where
  pub says : Says Fine (listing built.code source.files) reply
  pub accepted : length (listing built.code source.files) ≤ most_input_bytes
      → IsAcceptedListing (listing built.code source.files) source.files built.code

-- a reply tells of a refused read of that file; none tells of want of memory
abbrev pub SaysFault : List ℕ → ShelfFault → Reply → Type 0
SaysFault name shelf.Missing reply = Says Missing (line (codes "missing file ") name) reply
SaysFault name shelf.Failed reply = Says ReadFault (line (codes "read fault ") name) reply
SaysFault name shelf.Long reply = Says TooLarge (line (codes "too large ") name) reply
SaysFault name shelf.Memory reply = ⊥

-- a reply tells why files can't be gathered; none tells of want of memory
abbrev pub SaysGathering : GatherRefusal → Reply → Type 0
SaysGathering (gathering.NotUtf8 name pos) reply =
    (reply.status ≡ SourceStatus) × (gathering_line (gathering.NotUtf8 name pos) ≡ Some (string_bytes reply.text))
SaysGathering (gathering.FenceOpen name pos) reply =
    (reply.status ≡ SourceStatus) × (gathering_line (gathering.FenceOpen name pos) ≡ Some (string_bytes reply.text))
SaysGathering (gathering.IncludeTwice name pos) reply =
    (reply.status ≡ SourceStatus) × (gathering_line (gathering.IncludeTwice name pos) ≡ Some (string_bytes reply.text))
SaysGathering (gathering.Missing name) reply = SaysFault name shelf.Missing reply
SaysGathering (gathering.ReadFault name) reply = SaysFault name shelf.Failed reply
SaysGathering (gathering.TooLarge name) reply = SaysFault name shelf.Long reply
SaysGathering gathering.Memory reply = ⊥

-- a reply tells why an input is refused
abbrev pub SaysInput : InputRefusal → Reply → Type 0
SaysInput refusal reply = (reply.status ≡ Input) × (input_line refusal ≡ Some (string_bytes reply.text))

-- a reply tells of an outcome, with its own status
abbrev pub SaysOutcome : Decls → ℕ → List (List ℕ) → Outcome → Reply → Type 0
SaysOutcome decls scope names ended reply =
    Says (status_of ended) (line (answer_of decls scope names ended) []) reply

-- a reply may answer the request
abbrev pub MaySay : Request → Shelved → Shelved → Reply → Type 0
MaySay asked old new reply = MayAnswer asked old new reply.status (string_bytes reply.text)

-- a reply may answer what is asked for, whatever text its number of cases has
abbrev pub MayTell : AskedWords → Shelved → Shelved → Reply → Type 0
MayTell asked old new reply =
    (cases : Option (List ℕ)) → IsCases cases asked.cases → MaySay (asked_of cases asked) old new reply

-- where the last verdict is this one and Complete, the trees of a report are closed ones
abbrev pub HasClosedTrees : Verdict → Report → Type 0
HasClosedTrees v report = v ≡ verdict.Complete
    → (most : ℕ) × AreClosedTrees most (targets_in report.tables) report.trees

-- a reply tells why a certificate is refused
abbrev pub SaysCertificate : CertRefusal → Reply → Type 0
SaysCertificate why reply = (reply.status ≡ Certificate) × (certificate_line why ≡ Some (string_bytes reply.text))

-- a reply tells whether bytes are a certificate
abbrev pub SaysChecked : Program → ℕ → List ℕ → Reply → Type 0
SaysChecked program scope extra reply =
    ((reply.status ≡ Fine) × HasCertificate program scope extra (string_bytes reply.text))
    ⊎ ((reply.status ≡ Certificate) × HasNoCertificate program scope extra (string_bytes reply.text))

-- a reply tells of a report
pub record SaysReport (program : Program) (scope most : ℕ) (files : List (List ℕ)) (reply : Reply) : Type 0 where
  pub report : Report
  pub report_is : HasReport program scope most report
  pub again : AllHave (RunAgain program) report.sections
  pub says : Says (status_at (last_verdict report.sections)) (audit_text program.decls files most report) reply

-- a reply tells what a scope gives on an input, as a mode asks for it
abbrev pub SaysRun : Mode → Source → Program → ℕ → List (Option Value) → Reply → Type 0
SaysRun mode source program scope input reply =
    TellsOutcome mode source program scope input reply.status (string_bytes reply.text)
