use Rattle.cat_app.proofs.DrillReplies.{gathering_refused}
use Rattle.cat_app.proofs.Replies.{if_ok}
use Rattle.cat_app.proofs.drilled.drilled.Goals as goal

pub returns-in-Err : goal.returns-in-Err
returns-in-Err c = if_ok c.refuse_gathering.result c.refuse_gathering.ensures (λ reply says.
    gathering_refused c.args.bands c.in-Err.refusal reply c.in-Err.ensures says)
