use Rattle.std.proofs.Common.{◌≡◌, ap, subst, List, ℕ}
use Rattle.cat_app.specs.Modes.{reads_extra}
use Rattle.cat_app.specs.inside.AskedWords.{asked_of}
use Rattle.cat_app.specs.inside.SaysOfDead.{SaysDead}
use Rattle.cat_app.proofs.DeadReplies.{a_dead_check}
use Rattle.cat_app.proofs.Replies.{if_ok, asked_for, no_extra, named_within}
use Rattle.cat_app.proofs.scoped.check_dead_scope.Goals as goal

pub returns-in-Err-clause-may : goal.returns-in-Err-clause-may
returns-in-Err-clause-may g c = if_ok c.refuse_file.result c.refuse_file.ensures (λ reply says cases are.
    no_extra (asked_of cases c.args.asked) _ _ c.args.source.now c.args.built.now.program c.args.scope
    c.in-Err.fault reply c.in-Err.ensures says
    (asked_for (asked_of cases c.args.asked) _ c.args.source.now c.args.built.now c.args.scope
    c.requires.gathered c.requires.built c.requires.named) (ap reads_extra c.requires.mode))

pub dead_checked-requires-clause-scope : goal.dead_checked-requires-clause-scope
dead_checked-requires-clause-scope g c =
    named_within c.args.asked.scope.now c.args.scope c.args.built.now.program.decls.scopes c.requires.named

pub returns-in-Ok-clause-may : goal.returns-in-Ok-clause-may
returns-in-Ok-clause-may g c =
    let bytes : c.deref.result.now ≡ c.in-Ok.bytes.items = cc (c.deref.ensures.value) in
    if_ok c.dead_checked.result c.dead_checked.ensures (λ reply says cases are.
    a_dead_check (asked_of cases c.args.asked) _ _ c.args.source.now c.args.built.now.program c.args.scope
    c.in-Ok.bytes.items reply c.in-Ok.ensures.1 c.in-Ok.ensures.0
    (asked_for (asked_of cases c.args.asked) _ c.args.source.now c.args.built.now c.args.scope
    c.requires.gathered c.requires.built c.requires.named) c.requires.mode
    (subst (λ (b : List ℕ). SaysDead c.args.built.now.program c.args.scope c.args.source.now.files b reply) bytes says))
