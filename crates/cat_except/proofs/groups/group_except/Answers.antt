use Rattle.cat_except.proofs.Grouped.{first_except}
use Rattle.cat_except.proofs.groups.group_except.Goals as goal

pub returns : goal.returns
returns c =
    first_except c.args.defs.now c.args.list.now c.index-defs-list.result c.requires.some
    (c.requires.numbers 0 0 c.requires.some)
