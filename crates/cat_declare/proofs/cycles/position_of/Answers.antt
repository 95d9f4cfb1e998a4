use Rattle.std.proofs.Common.{◌-◌, arith}
use Rattle.cat_names.specs.Written.{structures_in, enumerations_in}
use Rattle.cat_declare.proofs.OneMore.{position_front, position_behind}
use Rattle.cat_declare.proofs.Tabling.{as_many_pairs}
use Rattle.cat_declare.proofs.cycles.position_of.Goals as goal

pub returns-then-number-structures : goal.returns-then-number-structures
returns-then-number-structures c = let ds = c.args.declarations.now in let items = ds.tree.now.items in
    position_front ds.structures (structures_in items) (enumerations_in items) c.args.number c.at.result.now
    c.requires.declarations.structures c.at.ensures

pub returns : goal.returns
returns c = let ds = c.args.declarations.now in let items = ds.tree.now.items in
    let many = as_many_pairs ds.structures (structures_in items) c.requires.declarations.structures in
    position_behind ds.enumerations (structures_in items) (enumerations_in items)
    (c.args.number - c.len-structures.result) c.args.number c.at-2.result.now c.requires.declarations.enumerations
    (omega (arith, many, c.len-structures.ensures, c.if-number-structures.false)) c.at-2.ensures
