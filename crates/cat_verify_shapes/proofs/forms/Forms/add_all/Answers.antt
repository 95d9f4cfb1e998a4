use Rattle.std.proofs.Common.{subst, sym}
use Rattle.cat_value.specs.declared.decls.Decls.{Decls}
use Rattle.cat_verify_shapes.specs.inside.Senses.{IsTable}
use Rattle.cat_verify_shapes.proofs.GrowLemmas.{table_on}
use Rattle.cat_verify_shapes.proofs.forms.Forms.add_all.Goals as goal

pub add_structures-requires : goal.add_structures-requires
add_structures-requires c =
    subst (λ (ds : Decls). IsTable ds c.add_flat.new.self) (sym c.get-decls.ensures)
    (table_on c.args.tables.now.decls c.args.self.now c.add_flat.new.self c.in_ok-add_flat.ensures c.requires.table)

pub add_scopes-requires-clause-table : goal.add_scopes-requires-clause-table
add_scopes-requires-clause-table c =
    table_on c.get-decls.result.now c.add_structures.new.self c.add_enumerations.new.self
    c.in_ok-add_enumerations.ensures c.in_ok-add_structures.ensures.0

pub loop-constant-preserved : goal.loop-constant-preserved
loop-constant-preserved c =
    table_on c.args.tables.now.decls c.loop-constant.self c.add_ty.new.self c.in_ok-add_ty.ensures.grows
    c.loop-constant.invariant
