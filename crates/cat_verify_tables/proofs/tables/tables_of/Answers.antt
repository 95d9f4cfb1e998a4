use Rattle.std.proofs.Common.{◌∙◌, ap, map}
use Rattle.cat_value.specs.declared.decls.Decls.{Decls}
use Rattle.cat_code.specs.declared.code.Tables.{Tables}
use Rattle.cat_code.specs.Places as places
use Rattle.cat_image.specs.declared.tables.ImageScope.{ImageScope}
use Rattle.cat_verify_tables.proofs.AllTold.{all_told}
use Rattle.cat_verify_tables.proofs.tables.tables_of.Goals as goal

pub returns-clause-told : goal.returns-clause-told
returns-clause-told c =
    let made : Tables = record {
      decls = c.in_ok-decls.decls;
      cases = c.in_ok-cases.cases;
      scopes = c.in_ok-scopes.scopes;
      targets = c.in_ok-targets.targets;
      definitions = c.in_ok-definitions.definitions;
      functions = c.in_ok-functions.functions;
      positions = c.in_ok-positions.positions;
      constants = c.in_ok-constants.constants;
    } in
    all_told c.args.image.now c.args.declared.now c.requires made c.in_ok-decls.ensures
    (c.in_ok-cases.ensures ∙ ap (λ (ds : Decls). places.case_places 0 ds.enumerations) c.get.ensures)
    (c.in_ok-scopes.ensures ∙ ap (map (λ (s : ImageScope). s.entry)) c.as_slice.ensures)
    (c.in_ok-functions.ensures ∙ c.as_slice-2.ensures) c.in_ok-targets.ensures.told c.in_ok-definitions.ensures.told
    c.in_ok-positions.ensures.told c.in_ok-constants.ensures.told
