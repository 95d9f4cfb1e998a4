use Rattle.std.proofs.Common.{◌≡◌, ◌+◌, length, refl, arith}
use Rattle.cat_verify_tables.specs.inside.DeclarationWords.{definitions_from, positions_from, targets_from}
use Rattle.cat_verify_tables.proofs.AllTold.{targets_begin}
use Rattle.cat_verify_tables.proofs.tables.sections_of.Goals as goal

pub returns : goal.returns
returns c =
    let image = c.args.image.now in
    let scopes = c.as_slice-scopes.result.now in
    let targets : c.in_ok-targets.targets ≡ targets_from image = targets_begin image scopes c.args.scopes_at
    (length scopes) c.in_ok-targets.targets c.as_slice-scopes.ensures c.requires refl c.in_ok-targets.ensures in
    let definitions : c.in_ok-definitions.definitions ≡ definitions_from image =
    omega (arith, targets, c.in_ok-definitions.ensures, c.len.ensures) in
    let functions : c.in_ok-functions.functions ≡ definitions_from image + length image.definitions =
    omega (arith, definitions, c.in_ok-functions.ensures, c.len-2.ensures) in
    let positions : c.in_ok-positions.positions ≡ positions_from image =
    omega (arith, functions, c.in_ok-positions.ensures, c.len-3.ensures) in
    record {
      targets = targets;
      definitions = definitions;
      positions = positions;
      constants = omega (arith, positions, c.in_ok-constants.ensures, c.len-4.ensures);
    }
