use Rattle.std.proofs.Common.{ℕ, List, length, sym, ap, ◌∙◌, subst}
use Rattle.cat_value.specs.declared.value.Value.TheViews as value
use Rattle.cat_pool.specs.declared.node.PoolNode.{PoolNode}
use Rattle.cat_pool.specs.Nodes.{IsPlaced, seen_at, value_in}
use Rattle.cat_machine.proofs.Growth.{no_more}
use Rattle.cat_machine.proofs.Holding.{below_split}
use Rattle.cat_machine.proofs.NodeKinds.{no_structure}
use Rattle.cat_machine.proofs.MakingSteps.{field_kind, field_machine, field_told, field_within}
use Rattle.cat_machine.proofs.steps.making.field.Goals as goal

pub look-requires : goal.look-requires
look-requires c =
    (below_split (length c.args.m.now.pool) c.args.m.now.operands c.in-Some.r c.pop.new.self c.in-Some.ensures
    c.requires.machine.operands).0

pub unreachable-requires-in_default-look : goal.unreachable-requires-in_default-look
unreachable-requires-in_default-look c =
    field_kind c.args.code.now.tables c.args.place c.args.m.now c.in-Some.r c.pop.new.self c.in-Some.ensures
    (value_in c.args.m.now.pool c.look.result.now) c.look.ensures.value c.args.i
    (no_structure c.args.m.now.pool c.look.result.now c.in_default-look.not-Structure) c.requires.going

pub parts-requires : goal.parts-requires
parts-requires c =
    (subst (λ (n : PoolNode). IsPlaced c.args.m.now.pool c.in-Some.r n) c.in-Structure.is c.look.ensures.parts).0

pub bounds-parts-i : goal.bounds-parts-i
bounds-parts-i c =
    (field_within c.args.code.now.tables c.args.place c.args.m.now c.in-Some.r c.pop.new.self c.in-Some.ensures
    (value_in c.args.m.now.pool c.look.result.now) c.look.ensures.value c.parts.result.now
    (ap (value_in c.args.m.now.pool) c.in-Structure.is
    ∙ ap (λ (rs : List ℕ). value.Structure (seen_at c.args.m.now.pool rs)) (sym c.parts.ensures.parts)) c.args.i
    c.requires.going)

pub returns-clause-told : goal.returns-clause-told
returns-clause-told c =
    field_told c.args.code.now.tables c.args.place c.args.m.now c.in-Some.r c.pop.new.self c.in-Some.ensures
    (value_in c.args.m.now.pool c.look.result.now) c.look.ensures.value c.requires.machine c.parts.result.now
    (ap (value_in c.args.m.now.pool) c.in-Structure.is
    ∙ ap (λ (rs : List ℕ). value.Structure (seen_at c.args.m.now.pool rs)) (sym c.parts.ensures.parts)) c.args.i
    (field_within c.args.code.now.tables c.args.place c.args.m.now c.in-Some.r c.pop.new.self c.in-Some.ensures
    (value_in c.args.m.now.pool c.look.result.now) c.look.ensures.value c.parts.result.now
    (ap (value_in c.args.m.now.pool) c.in-Structure.is
    ∙ ap (λ (rs : List ℕ). value.Structure (seen_at c.args.m.now.pool rs)) (sym c.parts.ensures.parts)) c.args.i
    c.requires.going)
    c.push.new.self c.in_ok-push.ensures.ok

pub returns-clause-machine : goal.returns-clause-machine
returns-clause-machine c =
    field_machine c.args.code.now.tables c.args.place c.args.m.now c.in-Some.r c.pop.new.self c.in-Some.ensures
    (value_in c.args.m.now.pool c.look.result.now) c.look.ensures.value c.requires.machine c.parts.result.now
    (ap (value_in c.args.m.now.pool) c.in-Structure.is
    ∙ ap (λ (rs : List ℕ). value.Structure (seen_at c.args.m.now.pool rs)) (sym c.parts.ensures.parts)) c.args.i
    (field_within c.args.code.now.tables c.args.place c.args.m.now c.in-Some.r c.pop.new.self c.in-Some.ensures
    (value_in c.args.m.now.pool c.look.result.now) c.look.ensures.value c.parts.result.now
    (ap (value_in c.args.m.now.pool) c.in-Structure.is
    ∙ ap (λ (rs : List ℕ). value.Structure (seen_at c.args.m.now.pool rs)) (sym c.parts.ensures.parts)) c.args.i
    c.requires.going)
    c.push.new.self c.in_ok-push.ensures.ok c.parts.ensures.below

pub returns-clause-pool : goal.returns-clause-pool
returns-clause-pool c =
    no_more c.args.m.now.pool

pub returns-in_err-push-clause-pool : goal.returns-in_err-push-clause-pool
returns-in_err-push-clause-pool c =
    no_more c.args.m.now.pool
