-- Which replies decision tables lead to.
use Rattle.std.proofs.Common.{◌≡◌, ◌⊎◌, ℕ, Bool, true, false, IsTrue, List, Option, Some, None, refl, inl, inr, ap}
use Rattle.std.specs.Prelude.{IfSome, codes, string_bytes}
use Rattle.cat_io.specs.Shelf.{Shelved}
use Rattle.cat_scope.specs.declared.programs.Program.{Program}
use Rattle.cat_weave.specs.declared.source.Source.{Source}
use Rattle.cat_app.specs.Modes.{shows_tables, wanted_by}
use Rattle.cat_app.specs.Words.{IsMost, Request}
use Rattle.cat_app.specs.Asked.{IsAsked}
use Rattle.cat_app.specs.TargetTables.{HasNoTarget, HasTables, IsNoTarget, IsTabled, status_of_tables}
use Rattle.cat_app.specs.Table.{MayAnswer}
use Rattle.cat_app.specs.declared.reply.Reply.{Reply}
use Rattle.cat_app.specs.declared.request.Mode.TheVariants.{AllTables, OneTable}
use Rattle.cat_app.specs.inside.Says.{MaySay}
use Rattle.cat_app.specs.inside.SaysOfTables.{MaySayOfTarget, SaysTables}

-- tables answer with their own status
tables_answer : (request : Request) (old new : Shelved) (spent : Bool) (text : List ℕ)
    → IsTabled request old new (status_of_tables spent) text
    → MayAnswer request old new (status_of_tables spent) text
tables_answer request old new true text is = inr (inl is)
tables_answer request old new false text is = inr (inr (inr (inr (inl is))))

module _ (request : Request) (old new : Shelved) (source : Source) (program : Program) (scope most : ℕ) (reply : Reply)
    (same : new ≡ old) (asked : IsAsked request old source program scope) (most_is : IsMost request.cases most) where
  some_tables : (wanted : Option (List ℕ)) → wanted_by request.mode request.extra ≡ wanted
      → IsTrue (shows_tables request.mode) → SaysTables program scope most source.files wanted reply
      → MaySay request old new reply
  some_tables wanted is mode says =
      rw says.says.0 (tables_answer request old new says.spent (string_bytes reply.text) (record {
        source = source;
        program = program;
        scope = scope;
        most = most;
        spent = says.spent;
        mode = mode;
        asked = asked;
        most_is = most_is;
        tables = rw is says.tables;
        untouched = same;
        status = refl;
      }))

  -- the tables of all targets
  pub all_answer : request.mode ≡ AllTables → SaysTables program scope most source.files None reply
      → MaySay request old new reply
  all_answer mode = some_tables None (ap (λ m. wanted_by m request.extra) mode) (ap shows_tables mode)

  -- that of one, or that there is none
  pub one_answers : request.mode ≡ OneTable → MaySayOfTarget program scope most source.files request.extra reply
      → MaySay request old new reply
  one_answers mode (inl says) =
      some_tables (Some request.extra) (ap (λ m. wanted_by m request.extra) mode) (ap shows_tables mode) says
  one_answers mode (inr says) = rw says.says.0 (inr (record {
    source = source;
    program = program;
    scope = scope;
    mode = mode;
    asked = asked;
    none = says.none;
    untouched = same;
    reply = says.says.1;
  }))
