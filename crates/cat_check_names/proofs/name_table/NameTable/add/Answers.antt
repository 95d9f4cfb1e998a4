use Rattle.std.proofs.Common.{rules}
use Rattle.cat_check_names.proofs.Tabled.{new_last}
use Rattle.cat_check_names.proofs.name_table.NameTable.add.Goals as goal

pub returns-clause-added : goal.returns-clause-added
returns-clause-added c =
    new_last c.self.inside.numbers c.args.self.now c.insert.new.self.entries c.args.name.now c.in_ok-copy.field-0
    c.args.number (search rules) (search rules) (search rules) c.in_ok-insert.ensures.entries
