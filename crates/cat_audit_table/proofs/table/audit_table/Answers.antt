use Rattle.std.proofs.Common.{◌≡◌, ◌∙◌, ℕ, List, Some, slice_get, sym, ap, subst}
use Rattle.cat_value.specs.declared.decls.Decls.{Decls}
use Rattle.cat_value.specs.declared.declaration.Scope.{Scope}
use Rattle.cat_scope.specs.declared.defs.Def.{Def}
use Rattle.cat_scope.specs.Names.{AllHave}
use Rattle.cat_audit_table.specs.inside.Added.{IsForestOf}
use Rattle.cat_audit_table.proofs.Whole.{each_forest, targets_are, made_of, sound_as, tables}
use Rattle.cat_audit_table.proofs.table.audit_table.Goals as goal

-- a scope of declarations is one of those that are the same
declared_at : (ds es : Decls) (n : ℕ) (scope : Scope) → es ≡ ds → slice_get es.scopes n ≡ Some scope
    → slice_get ds.scopes n ≡ Some scope
declared_at ds es n scope same at = ap (λ (those : Decls). slice_get those.scopes n) (sym same) ∙ at

pub targets_asked-requires-clause-forest : goal.targets_asked-requires-clause-forest
targets_asked-requires-clause-forest c =
    subst (λ (ds : List Def). AllHave (IsForestOf ds) c.as_slice-3.result.now) (sym c.as_slice-2.ensures)
    (each_forest c.args.program.now c.requires.cases c.args.scope c.at-decl.result.now c.at-body.result.now
    (declared_at _ _ _ _ c.decls-decls.ensures c.at-decl.ensures) c.at-body.ensures c.args.forest.now.targets
    c.as_slice-3.result.now c.requires.stands c.as_slice-3.ensures)

pub from_parts-requires : goal.from_parts-requires
from_parts-requires c =
    let program = c.args.program.now in
    let decl = c.at-decl.result.now in
    let body = c.at-body.result.now in
    let made = made_of program c.requires.cases c.args.scope decl body
    (declared_at _ _ _ _ c.decls-decls.ensures c.at-decl.ensures) c.at-body.ensures _ _
    c.in_ok-targets.targets c.in_ok-targets.terms c.in_ok-targets.atoms c.in_ok-targets.ensures c.decls-decls.ensures
    c.as_slice.ensures c.as_slice-2.ensures
    (targets_are program c.requires.cases c.args.scope decl body
    (declared_at _ _ _ _ c.decls-decls.ensures c.at-decl.ensures) c.at-body.ensures c.args.forest.now.targets
    c.as_slice-3.result.now c.requires.stands c.as_slice-3.ensures) in
    sound_as program c.requires.cases c.args.scope decl body
    (declared_at _ _ _ _ c.decls-decls.ensures c.at-decl.ensures) c.at-body.ensures c.args.forest.now.targets
    c.args.forest.now.low c.requires.stands c.programs_are_well_formed.ensures
    c.in_ok-targets.terms c.in_ok-targets.atoms c.in_ok-targets.targets made.terms_are made.atoms_are
    made.targets_made

pub returns : goal.returns
returns c =
    let program = c.args.program.now in
    let decl = c.at-decl.result.now in
    let body = c.at-body.result.now in
    let made = made_of program c.requires.cases c.args.scope decl body
    (declared_at _ _ _ _ c.decls-decls.ensures c.at-decl.ensures) c.at-body.ensures _ _
    c.in_ok-targets.targets c.in_ok-targets.terms c.in_ok-targets.atoms c.in_ok-targets.ensures c.decls-decls.ensures
    c.as_slice.ensures c.as_slice-2.ensures
    (targets_are program c.requires.cases c.args.scope decl body
    (declared_at _ _ _ _ c.decls-decls.ensures c.at-decl.ensures) c.at-body.ensures c.args.forest.now.targets
    c.as_slice-3.result.now c.requires.stands c.as_slice-3.ensures) in
    tables program c.requires.cases c.args.scope decl body
    (declared_at _ _ _ _ c.decls-decls.ensures c.at-decl.ensures) c.at-body.ensures c.from_parts.result
    c.from_parts.ensures.scope (c.from_parts.ensures.name ∙ c.in_ok-name.ensures)
    (c.from_parts.ensures.terms ∙ made.terms_are) (c.from_parts.ensures.atoms ∙ made.atoms_are)
    (c.from_parts.ensures.targets ∙ made.targets_made)
