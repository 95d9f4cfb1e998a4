use Rattle.std.proofs.Common.{◌∙◌, slice_get, sym, ap}
use Rattle.cat_value.specs.declared.decls.Decls.{Decls}
use Rattle.cat_calc.proofs.Desugaring.{targets_of_scope}
use Rattle.cat_calc.proofs.scopes.calc_scope.Goals as goal

pub terms_of_items-requires-clause-stand : goal.terms_of_items-requires-clause-stand
terms_of_items-requires-clause-stand c =
    targets_of_scope c.args.program.now c.args.scope c.at.result.now c.at-body.result.now c.args.forest.now
    c.as_slice-defs.result.now c.as_slice.result.now c.programs_are_well_formed.ensures c.requires.few
    (ap (λ (ds : Decls). slice_get ds.scopes c.args.scope) (sym c.decls-decls.ensures) ∙ c.at.ensures)
    c.at-body.ensures c.requires.stands c.as_slice-defs.ensures c.as_slice.ensures
