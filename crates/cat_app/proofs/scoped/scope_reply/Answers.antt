use Rattle.cat_app.specs.inside.AskedWords.{asked_of}
use Rattle.cat_app.proofs.Replies.{no_source}
use Rattle.cat_app.proofs.scoped.scope_reply.Goals as goal

pub returns-in_ok-refuse_gathering-in-Err-clause-may : goal.returns-in_ok-refuse_gathering-in-Err-clause-may
returns-in_ok-refuse_gathering-in-Err-clause-may g c cases most =
    no_source (asked_of cases c.args.asked) _ _ c.in-Err.refusal c.in_ok-refuse_gathering-in-Err.field-0
    c.in-Err.ensures.cause c.in_ok-refuse_gathering-in-Err.ensures
