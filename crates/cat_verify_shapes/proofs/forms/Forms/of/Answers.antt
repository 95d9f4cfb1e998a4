use Rattle.std.proofs.Common.{rules, ◌≡◌, []}
use Rattle.cat_verify_shapes.specs.declared.forms.Forms.{Forms}
use Rattle.cat_verify_shapes.proofs.GrowLemmas.{empty_table}
use Rattle.cat_verify_shapes.proofs.forms.Forms.of.Goals as goal

pub add_all-requires-clause-table : goal.add_all-requires-clause-table
add_all-requires-clause-table c =
    let keys : c.new.result.keys ≡ [] = search rules in
    let forms : Forms = record {
      alloc = c.args.alloc;
      kinds = c.new.result;
      structures = c.loop.structures;
      outputs = c.new-2.result;
    } in
    empty_table c.args.tables.now.decls forms c.loop.counter keys c.loop.invariant c.new-2.ensures
