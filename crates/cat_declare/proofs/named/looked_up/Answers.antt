use Rattle.cat_names.specs.DeclarationFaults.{declared_name, declaration_faults}
use Rattle.cat_names.specs.Unknown.{twice}
use Rattle.std.specs.Prelude.{flat_map}
use Rattle.cat_declare.specs.inside.Tabling.{tree_at}
use Rattle.cat_declare.proofs.FewItems.{declared_few}
use Rattle.cat_declare.proofs.FoundParts.{nothing_in, nothing_behind}
use Rattle.cat_declare.proofs.named.looked_up.Goals as goal

pub item_tables-requires : goal.item_tables-requires
item_tables-requires c = let tables = c.args.tables.now in let items = (tree_at tables).items in
    declared_few items tables.declarations.scopes c.requires.tables.declarations.scopes
    (nothing_behind (twice (flat_map declared_name items)) (flat_map declaration_faults items) c.requires.apart)

pub add_blocks-requires : goal.add_blocks-requires
add_blocks-requires c = let items = (tree_at c.args.tables.now).items in record {
  tables = c.requires.tables;
  items = c.in_ok-variables.ensures;
  apart = nothing_in (twice (flat_map declared_name items)) (flat_map declaration_faults items) c.requires.apart;
}
