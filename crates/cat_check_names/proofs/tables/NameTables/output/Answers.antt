use Rattle.cat_check_names.specs.Tables.{AreOutputsOf}
use Rattle.cat_check_names.proofs.Rows.{row_at}
use Rattle.cat_check_names.proofs.tables.NameTables.output.Goals as goal

pub at-requires : goal.at-requires
at-requires c =
    (row_at (λ s outputs. AreOutputsOf s.items outputs) c.args.decls.now.scopes c.args.self.now.outputs c.args.scope
    c.in-Some.declared.now c.requires.outputs c.in-Some.ensures.value).within

pub output_in-requires : goal.output_in-requires
output_in-requires c =
    (row_at (λ s outputs. AreOutputsOf s.items outputs) c.args.decls.now.scopes c.args.self.now.outputs c.args.scope
    c.in-Some.declared.now c.requires.outputs c.in-Some.ensures.value).row c.at.result.now c.at.ensures
