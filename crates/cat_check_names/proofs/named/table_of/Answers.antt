use Rattle.std.proofs.Common.{rules, ◌∙◌, sym, ap}
use Rattle.cat_check_names.proofs.Tabled.{one_more}
use Rattle.cat_check_names.specs.Table.{with_name}
use Rattle.cat_check_names.proofs.named.table_of.Goals as goal

pub loop-number-preserved : goal.loop-number-preserved
loop-number-preserved g c =
    one_more g.T.Named.name_of c.args.things.now c.loop-number.number c.index-things-number.result
    c.loop-number.table c.add.new.self (search rules) (sym c.index-things-number.is) c.loop-number.invariant
    (c.in_ok-add.ensures.added ∙ ap (λ w. with_name c.loop-number.table w c.loop-number.number) c.name.ensures)
