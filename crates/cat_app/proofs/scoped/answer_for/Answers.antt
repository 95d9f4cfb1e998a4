use Rattle.std.proofs.Common.{◌<◌, length, refl, arith}
use Rattle.cat_app.specs.inside.AskedWords.{asked_of}
use Rattle.cat_app.proofs.DeadReplies.{a_dead_report}
use Rattle.cat_app.proofs.Replies.{if_ok, asked_for, a_listing, a_report, most_is, named_within}
use Rattle.cat_app.proofs.TableReplies.{all_answer, one_answers}
use Rattle.cat_app.proofs.scoped.answer_for.Goals as goal

pub audited-requires-clause-scope : goal.audited-requires-clause-scope
audited-requires-clause-scope g c =
    named_within c.args.asked.scope.now c.args.scope c.args.built.now.program.decls.scopes c.requires.named

pub returns-in-Audit-clause-may : goal.returns-in-Audit-clause-may
returns-in-Audit-clause-may g c = if_ok c.audited.result c.audited.ensures (λ reply says cases are.
    a_report (asked_of cases c.args.asked) _ _ c.args.source.now c.args.built.now.program c.args.scope c.most_of.result
    reply refl says (asked_for (asked_of cases c.args.asked) _ c.args.source.now c.args.built.now c.args.scope
    c.requires.gathered c.requires.built c.requires.named) c.in-Audit.is
    (most_is cases c.args.asked.cases c.most_of.result are c.most_of.ensures.most))

pub listed-requires-clause-gathered : goal.listed-requires-clause-gathered
listed-requires-clause-gathered g c = record {
  contents = c.requires.gathered.0;
  main = c.args.asked.file.now;
  line = c.args.asked.line;
  whole = c.requires.gathered.2;
}

pub listed-requires-clause-scopes : goal.listed-requires-clause-scopes
listed-requires-clause-scopes g c =
    let within : c.args.scope < length c.args.built.now.program.decls.scopes =
    named_within c.args.asked.scope.now c.args.scope c.args.built.now.program.decls.scopes c.requires.named in
    omega (arith, within)

pub returns-in-Emit-clause-may : goal.returns-in-Emit-clause-may
returns-in-Emit-clause-may g c = if_ok c.listed.result c.listed.ensures (λ reply says cases are.
    a_listing (asked_of cases c.args.asked) _ _ c.args.source.now c.args.built.now c.args.scope reply refl
    c.requires.built says (asked_for (asked_of cases c.args.asked) _ c.args.source.now c.args.built.now c.args.scope
    c.requires.gathered c.requires.built c.requires.named) c.in-Emit.is)

pub all_tables-requires-clause-scope : goal.all_tables-requires-clause-scope
all_tables-requires-clause-scope g c =
    named_within c.args.asked.scope.now c.args.scope c.args.built.now.program.decls.scopes c.requires.named

pub target_table-requires-clause-scope : goal.target_table-requires-clause-scope
target_table-requires-clause-scope g c =
    named_within c.args.asked.scope.now c.args.scope c.args.built.now.program.decls.scopes c.requires.named

pub returns-in-AllTables-clause-may : goal.returns-in-AllTables-clause-may
returns-in-AllTables-clause-may g c = if_ok c.all_tables.result c.all_tables.ensures (λ reply says cases are.
    all_answer (asked_of cases c.args.asked) _ _ c.args.source.now c.args.built.now.program c.args.scope
    c.most_of-in-AllTables.result reply refl (asked_for (asked_of cases c.args.asked) _ c.args.source.now
    c.args.built.now c.args.scope c.requires.gathered c.requires.built c.requires.named)
    (most_is cases c.args.asked.cases c.most_of-in-AllTables.result are c.most_of-in-AllTables.ensures.most)
    c.in-AllTables.is says)

pub returns-in-OneTable-clause-may : goal.returns-in-OneTable-clause-may
returns-in-OneTable-clause-may g c = if_ok c.target_table.result c.target_table.ensures (λ reply says cases are.
    one_answers (asked_of cases c.args.asked) _ _ c.args.source.now c.args.built.now.program c.args.scope
    c.most_of-in-OneTable.result reply refl (asked_for (asked_of cases c.args.asked) _ c.args.source.now
    c.args.built.now c.args.scope c.requires.gathered c.requires.built c.requires.named)
    (most_is cases c.args.asked.cases c.most_of-in-OneTable.result are c.most_of-in-OneTable.ensures.most)
    c.in-OneTable.is says)

pub reported-requires-clause-scope : goal.reported-requires-clause-scope
reported-requires-clause-scope g c =
    named_within c.args.asked.scope.now c.args.scope c.args.built.now.program.decls.scopes c.requires.named

pub returns-in-Dead-clause-may : goal.returns-in-Dead-clause-may
returns-in-Dead-clause-may g c = if_ok c.reported.result c.reported.ensures (λ reply says cases are.
    a_dead_report (asked_of cases c.args.asked) _ _ c.args.source.now c.args.built.now.program c.args.scope
    c.most_of-in-Dead.result reply refl says (asked_for (asked_of cases c.args.asked) _ c.args.source.now
    c.args.built.now c.args.scope c.requires.gathered c.requires.built c.requires.named) c.in-Dead.is
    (most_is cases c.args.asked.cases c.most_of-in-Dead.result are c.most_of-in-Dead.ensures.most))
