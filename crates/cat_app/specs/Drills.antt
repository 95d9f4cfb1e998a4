-- The answers to one who asked for a drill.
use Rattle.std.specs.Prelude.{◌≡◌, ℕ, ℤ, List, [], ◌∷◌, ◌++◌, None, Some, bytes_eq, codes, if◌then◌else◌}
use Rattle.std.specs.Fmt.{decimal, signed_decimal}
use Rattle.cat_io.specs.Shelf.{Shelved}
use Rattle.cat_value.specs.declared.outcome.Outcome.{Outcome}
use Rattle.cat_scope.specs.declared.programs.Program.{Program}
use Rattle.cat_json.specs.declared.refusal.InputRefusal.{InputRefusal}
use Rattle.cat_answer.specs.Answer.{answer_of}
use Rattle.cat_audit.specs.declared.report.Report.{Report}
use Rattle.cat_audit.specs.declared.report.Verdict.{Verdict}
use Rattle.cat_audit.specs.Reports.{last_verdict}
use Rattle.cat_audit.specs.ReportLines.{verdict_text}
use Rattle.cat_app.specs.Limits.{runs}
use Rattle.cat_app.specs.Texts.{drill_text}
use Rattle.cat_app.specs.Runs.{HaveSum, IsFirstRefused, IsFirstStop}
use Rattle.cat_app.specs.Leaves.{leaf_count}
use Rattle.cat_weave.specs.Gathered.{Contents}
use Rattle.cat_weave.specs.declared.source.Source.{Source}
use Rattle.cat_app.specs.Words.{Request, request}
use Rattle.cat_app.specs.Asked.{IsAsked}
use Rattle.cat_app.specs.Lines.{input_line, line, status_of}
use Rattle.cat_app.specs.Audits.{HasReport}
use Rattle.cat_app.specs.declared.request.Mode.TheVariants.{Run}
use Rattle.cat_app.specs.declared.status.Status.{Status}

-- ---- the source

-- one file alone
abbrev pub one_file : List ℕ → List ℕ → Contents
one_file file content name = if bytes_eq file name then Some content else None

-- a shelf that has the source of so many bands alone, under the name `none`
abbrev pub bands_shelf : ℕ → Shelved
bands_shelf bands =
    record { content = one_file (codes "none") (drill_text bands); misses = []; faults = []; longs = [] }

-- what asks it for a run of the scope that the source declares
abbrev pub bands_request : Request
bands_request = request Run (codes "Bands") (codes "none") (codes "-") None

-- the source of so many bands is accepted and its scope found, and this is said of it
pub record IsOfBands (Says : Source → Program → ℕ → List ℕ → Type 0) (bands : ℕ) (text : List ℕ) : Type 0 where
  pub source : Source
  pub program : Program
  pub scope : ℕ
  pub asked : IsAsked bands_request (bands_shelf bands) source program scope
  pub says : Says source program scope text

-- ---- what is said

-- the line of a drill, with the sum of the rates, the number of leaves and the verdict
abbrev pub drill_line : ℕ → ℤ → ℕ → Verdict → List ℕ
drill_line bands sum leaves verdict =
    codes "bands " ++ (decimal bands ++ (codes " runs 1000 sum " ++ (signed_decimal sum
    ++ (codes " leaves " ++ (decimal leaves ++ (codes " " ++ (verdict_text verdict ++ 10 ∷ [])))))))

-- each of the thousand runs has a value, and the line has the sum of their rates; the scope has a report of at most as
-- many leaves a target as there are bands, and the line has the leaves of its trees, whatever its verdict, and that
pub record HasLine (bands : ℕ) (source : Source) (program : Program) (scope : ℕ) (text : List ℕ) : Type 0 where
  pub sum : ℤ
  pub report : Report
  pub sum_is : HaveSum program scope bands runs sum
  pub report_is : HasReport program scope bands report
  pub text_is : text ≡ drill_line bands sum (leaf_count report.trees) (last_verdict report.sections)

-- a run is the first without a value: its reply, with its status
pub record HasStop (bands : ℕ) (ended : Status) (source : Source) (program : Program) (scope : ℕ) (text : List ℕ)
    : Type 0 where
  pub outcome : Outcome
  pub stop : IsFirstStop program scope bands outcome
  pub status : ended ≡ status_of outcome
  pub text_is : text ≡ line (answer_of program.decls scope source.files outcome) []

-- a run is the first whose input isn't read: its reply
pub record HasRefusedRun (bands : ℕ) (source : Source) (program : Program) (scope : ℕ) (text : List ℕ) : Type 0 where
  pub refusal : InputRefusal
  pub refused : IsFirstRefused program scope bands refusal
  pub text_is : input_line refusal ≡ Some text
