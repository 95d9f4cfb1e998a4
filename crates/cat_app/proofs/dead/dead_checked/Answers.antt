use Rattle.std.proofs.Common.{◌++◌, ◌∙◌, ℕ, List, [], ap, inl, inr, subst, sym}
use Rattle.std.specs.Prelude.{codes}
use Rattle.cat_pos.specs.declared.pos.Pos.{Pos}
use Rattle.cat_guard.specs.Tables.{TablesScope}
use Rattle.cat_app.specs.Lines.{line}
use Rattle.cat_app.specs.inside.Beside.{lines_beside}
use Rattle.cat_app.proofs.DeadReplies.{dead_lines}
use Rattle.cat_app.proofs.Replies.{if_ok}
use Rattle.cat_app.proofs.dead.dead_checked.Goals as goal

pub check_dead-requires : goal.check_dead-requires
check_dead-requires c =
    let tabled = c.in_ok-table.ensures in
    subst (λ n. TablesScope c.args.built.now.program n c.in_ok-table.table) (sym tabled.4.scope_is) tabled

pub returns-in-Ok : goal.returns-in-Ok
returns-in-Ok c = if_ok c.say_never.result c.say_never.ensures (λ reply says.
    let files = c.args.source.now.files in
    let table = c.in_ok-table.table in
    let dead = c.in-Ok.dead in
    inl (
      says.0,
      record {
        table = table;
        positions = dead;
        tabled = c.in_ok-table.ensures;
        checked = c.in-Ok.ensures.checked;
        never = c.in-Ok.ensures.dead;
        text_is = says.1
            ∙ (ap (λ (ps : List Pos). lines_beside files table.targets ps ++ line (codes "Yes") []) c.as_slice.ensures
            ∙ ap (λ (text : List ℕ). text ++ line (codes "Yes") [])
            (dead_lines files table c.args.bytes.now dead c.in-Ok.ensures.checked));
      },
    ))

pub returns : goal.returns
returns c = if_ok c.refuse_certificate.result c.refuse_certificate.ensures (λ reply says. inr (
  says.0,
  record {
    table = c.in_ok-table.table;
    why = c.in-Err.why;
    tabled = c.in_ok-table.ensures;
    cause = c.in-Err.ensures.cause;
    text_is = says.1;
  },
))
