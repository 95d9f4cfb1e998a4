-- What is said of definitions that decide or never do.
use Rattle.std.specs.Prelude.{◌≡◌, ◌⊎◌, ℕ, List, string_bytes}
use Rattle.cat_scope.specs.declared.programs.Program.{Program}
use Rattle.cat_dead_report.specs.declared.report.DeadReport.{DeadReport}
use Rattle.cat_app.specs.DeadChecks.{HasDead, HasNoDead}
use Rattle.cat_app.specs.Deads.{HasDeadReport, status_of_dead}
use Rattle.cat_app.specs.declared.reply.Reply.{Reply}
use Rattle.cat_app.specs.declared.status.Status.TheVariants.{Certificate, Fine}
use Rattle.cat_app.specs.inside.Says.{Says}

-- a reply tells of a report on definitions
pub record SaysDeadReport (program : Program) (scope most : ℕ) (files : List (List ℕ)) (reply : Reply) : Type 0 where
  pub report : DeadReport
  pub report_is : HasDeadReport program files scope most report
  pub says : Says (status_of_dead report.status) (string_bytes report.text) reply

-- a reply tells which definitions are dead by a certificate, or that bytes are none
abbrev pub SaysDead : Program → ℕ → List (List ℕ) → List ℕ → Reply → Type 0
SaysDead program scope files extra reply =
    ((reply.status ≡ Fine) × HasDead program scope files extra (string_bytes reply.text))
    ⊎ ((reply.status ≡ Certificate) × HasNoDead program scope extra (string_bytes reply.text))
