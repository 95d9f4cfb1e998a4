-- Which replies reports on definitions and certificates of dead ones lead to.
use Rattle.std.proofs.Common.{◌≡◌, ◌++◌, ◌∙◌, ℕ, Bool, true, false, List, [], refl, sym, ap, subst, inl, inr}
use Rattle.std.specs.Prelude.{codes, nat_eq, string_bytes, if◌then◌else◌}
use Rattle.cat_pos.specs.declared.pos.Pos.{Pos}
use Rattle.cat_io.specs.Shelf.{Shelved}
use Rattle.cat_scope.specs.declared.programs.Program.{Program}
use Rattle.cat_guard.specs.declared.table.Table.{Table}
use Rattle.cat_dead.specs.Checked.{IsDeadChecked}
use Rattle.cat_dead.specs.Winners.{winners_of, wins_nowhere}
use Rattle.cat_weave.specs.declared.source.Source.{Source}
use Rattle.cat_app.specs.Words.{IsMost, Request}
use Rattle.cat_app.specs.Asked.{IsAsked, IsExtra}
use Rattle.cat_app.specs.DeadChecks.{HasDead, HasNoDead, IsDeadAnswer, lines_at}
use Rattle.cat_app.specs.Deads.{IsReported, status_of_dead}
use Rattle.cat_app.specs.Table.{MayAnswer}
use Rattle.cat_app.specs.declared.reply.Reply.{Reply}
use Rattle.cat_app.specs.declared.request.Mode.TheVariants.{Dead, DeadCheck}
use Rattle.cat_app.specs.declared.status.Status.TheVariants as status
use Rattle.cat_app.specs.inside.Beside.{lines_beside}
use Rattle.cat_app.specs.inside.Says.{MaySay}
use Rattle.cat_app.specs.inside.SaysOfDead.{SaysDead, SaysDeadReport}
use Rattle.cat_app.proofs.BesideLemmas.{lines_are}

-- a report answers with its own status
report_at : (request : Request) (old new : Shelved) (number : ℕ) (text : List ℕ)
    → IsReported request old new (status_of_dead number) text → MayAnswer request old new (status_of_dead number) text
report_at request old new number text = by (nat_eq number 6) (nat_eq number 7)
  where
    by : (six seven : Bool)
        → IsReported request old new
        (if six then status.Found else (if seven then status.Unsettled else status.Fine)) text
        → MayAnswer request old new
        (if six then status.Found else (if seven then status.Unsettled else status.Fine)) text
    by true seven is = inr is
    by false true is = inr (inr is)
    by false false is = inr (inr (inr (inr (inr (inl is)))))

-- a report says this of the definitions of the scope
pub a_dead_report : (request : Request) (old new : Shelved) (source : Source) (program : Program) (scope most : ℕ)
    (reply : Reply) → new ≡ old → SaysDeadReport program scope most source.files reply
    → IsAsked request old source program scope → request.mode ≡ Dead → IsMost request.cases most
    → MaySay request old new reply
a_dead_report request old new source program scope most reply same says asked mode most_is =
    rw says.says.0 (report_at request old new says.report.status (string_bytes reply.text) (record {
      source = source;
      program = program;
      scope = scope;
      most = most;
      report = says.report;
      mode = mode;
      asked = asked;
      most_is = most_is;
      report_is = says.report_is;
      untouched = same;
      status = refl;
      reply = says.says.1;
    }))

-- whatever is said of the bytes, it is said of the scope
is_dead_answer : (Says : Program → ℕ → List (List ℕ) → List ℕ → List ℕ → Type 0) (request : Request)
    (old new : Shelved) (source : Source) (program : Program) (scope : ℕ) (extra text : List ℕ)
    → IsExtra request old extra → new ≡ old → IsAsked request old source program scope → request.mode ≡ DeadCheck
    → Says program scope source.files extra text → IsDeadAnswer Says request old new text
is_dead_answer Says request old new source program scope extra text extra_read same asked mode says = record {
  source = source;
  program = program;
  scope = scope;
  extra = extra;
  mode = mode;
  asked = asked;
  extra_read = extra_read;
  says = says;
  untouched = same;
}

-- a check of a certificate of dead definitions answers
pub a_dead_check : (request : Request) (old new : Shelved) (source : Source) (program : Program) (scope : ℕ)
    (extra : List ℕ) (reply : Reply) → IsExtra request old extra → new ≡ old
    → IsAsked request old source program scope → request.mode ≡ DeadCheck
    → SaysDead program scope source.files extra reply → MaySay request old new reply
a_dead_check request old new source program scope extra reply extra_read same asked mode (inl yes_says) =
    rw yes_says.0 (inr (inr (inr (inr (inr (inr (is_dead_answer HasDead request old new source program scope extra
    (string_bytes reply.text) extra_read same asked mode yes_says.1)))))))
a_dead_check request old new source program scope extra reply extra_read same asked mode (inr no_says) =
    rw no_says.0 (inr (is_dead_answer (λ p n files. HasNoDead p n) request old new source program scope extra
    (string_bytes reply.text) extra_read same asked mode no_says.1))

-- the lines that are written beside the positions that were checked are those of the definitions there
pub dead_lines : (files : List (List ℕ)) (table : Table) (extra : List ℕ) (positions : List Pos)
    → IsDeadChecked table extra positions
    → lines_beside files table.targets positions ≡ lines_at files positions table.targets
dead_lines files table extra positions checked =
    subst (λ (ps : List Pos). lines_beside files table.targets ps ≡ lines_at files ps table.targets) (sym checked.3)
    (lines_are (wins_nowhere (winners_of table checked.0.trees)) files table.targets)
