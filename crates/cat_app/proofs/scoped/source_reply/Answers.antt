use Rattle.std.proofs.Common.{refl}
use Rattle.cat_app.specs.inside.AskedWords.{asked_of}
use Rattle.cat_app.proofs.Replies.{no_scope}
use Rattle.cat_app.proofs.scoped.source_reply.Goals as goal

pub returns-in_ok-no_scope-in-None-clause-may : goal.returns-in_ok-no_scope-in-None-clause-may
returns-in_ok-no_scope-in-None-clause-may g c cases most =
    no_scope (asked_of cases c.args.asked) _ _ c.args.source c.in-Ok.built.program c.in_ok-no_scope-in-None.field-0
    c.requires.gathered c.in-Ok.ensures.built.accepted (cc (c.scope_named.ensures, c.in-None.is)) refl
    c.in_ok-no_scope-in-None.ensures
