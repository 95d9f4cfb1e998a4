use Rattle.cat_guard.proofs.LiveLaws.{gone}
use Rattle.cat_guard.proofs.pruned.is_gone.Goals as goal

pub returns : goal.returns
returns c t so = gone t c.args.group.now (c.is_empty.ensures.0 c.if-not-is_empty.false) (c.is_empty-2.ensures.0 so)
