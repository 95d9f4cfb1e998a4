use Rattle.std.proofs.Common.{sym, ◌∙◌, ℕ, get_or, ◌≡◌, rules, refl, length}
use Rattle.std.proofs.lemmas.List.{get_or_default}
use Rattle.std.proofs.lemmas.Option.{slice_get_read}
use Rattle.cat_except.specs.inside.Grouping.{defs_at, group_by, groups_at}
use Rattle.cat_except.specs.inside.Finding.{kind_of}
use Rattle.cat_except.proofs.Firsts.{here, behind, in_defs_step}
use Rattle.cat_except.proofs.faults.fault_in_group.Goals as goal

pub returns-in-Some : goal.returns-in-Some
returns-in-Some c =
    let n : ℕ = get_or c.args.list.now c.loop-number.number-index 0 in
    let at : get_or c.args.list.now c.loop-number.number-index n ≡ n = search (rules, get_or_default) in
    here _ c.in-Some.pos _ _ _
    (in_defs_step (kind_of c.args.kind) (groups_at c.args.defs.now c.args.groups.now.lists.items)
    (group_by (defs_at c.args.defs.now c.args.list.now)) c.args.defs.now c.args.list.now c.loop-number.number-index n
    c.index-defs-number.result c.loop-number-test.true at
    (slice_get_read c.args.defs.now (length c.args.defs.now) n c.index-defs-number.result refl
    (c.requires.numbers c.loop-number.number-index 0 c.loop-number-test.true) c.index-defs-number.is))
    c.loop-number.invariant (sym c.fault_at.ensures ∙ c.in-Some.is)

pub loop-number-preserved : goal.loop-number-preserved
loop-number-preserved c =
    let n : ℕ = get_or c.args.list.now c.loop-number.number-index 0 in
    let at : get_or c.args.list.now c.loop-number.number-index n ≡ n = search (rules, get_or_default) in
    behind _ _ _ _ (in_defs_step (kind_of c.args.kind) (groups_at c.args.defs.now c.args.groups.now.lists.items)
    (group_by (defs_at c.args.defs.now c.args.list.now)) c.args.defs.now c.args.list.now c.loop-number.number-index n
    c.index-defs-number.result c.loop-number-test.true at
    (slice_get_read c.args.defs.now (length c.args.defs.now) n c.index-defs-number.result refl
    (c.requires.numbers c.loop-number.number-index 0 c.loop-number-test.true) c.index-defs-number.is))
    c.loop-number.invariant (sym c.fault_at.ensures ∙ c.in_default.is)
