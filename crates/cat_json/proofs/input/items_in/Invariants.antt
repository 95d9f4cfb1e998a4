use Rattle.std.proofs.Common.{◌≡◌, drop}
use Rattle.serde_json.specs.View.{view}
use Rattle.cat_json.specs.Reads.{data_members}
use Rattle.cat_json.specs.InputsRead.{items_in}
use Rattle.cat_json.proofs.Levels.{read_before}
use Rattle.cat_json.proofs.input.items_in.Given as goal

abbrev pub invariant-loop-item : goal.invariant-loop-item
invariant-loop-item l = read_before l.input (items_in (data_members l.decls (view l.json)) (drop l.item-index l.items))
    ≡ items_in (data_members l.decls (view l.json)) l.items
