use Rattle.std.proofs.Common.{◌≡◌, ◌∙◌, List, IsTrue, sym, ap, subst}
use Rattle.std.proofs.lemmas.Result.{err_from_is_err_and}
use Rattle.cat_scope.specs.declared.forest.ForestTarget.{ForestTarget}
use Rattle.cat_scope.specs.Groups.{Group}
use Rattle.cat_scope.specs.Forests.{are_low}
use Rattle.cat_except.specs.declared.groups.Groups.{Groups}
use Rattle.cat_except.specs.declared.linked.Linked.{Linked}
use Rattle.cat_except.specs.Excepted.{StandsPastLimit}
use Rattle.cat_except.specs.Causes.{AreResolved, HaveNoCycle, StandsIn}
use Rattle.cat_except.specs.Faults.{groups_of_each}
use Rattle.cat_except.specs.inside.Finding.{groups_at_each}
use Rattle.cat_except.specs.inside.Linked.{linked_groups, AreShort, IsLimitIn}
use Rattle.cat_except.proofs.Low.{low_of_short}
use Rattle.cat_except.proofs.Whole.{limit_cause, linked_acyclic, make_forest, forest_is}
use Rattle.cat_except.proofs.forest_of.Goals as goal

pub returns-in_err-check_chains-clause-cause : goal.returns-in_err-check_chains-clause-cause
returns-in_err-check_chains-clause-cause c =
    let all : List (List Group) = groups_of_each c.args.defs.now c.args.targets.now in
    let resolved : AreResolved all = subst (λ (ts : List (List Group)). AreResolved ts)
    (ap (λ (ts : List Groups). groups_at_each c.args.defs.now ts) c.as_slice.ensures ∙ c.in_ok-groups.ensures.groups)
    c.in_ok-check_labels.ensures.resolved in
    let linked : linked_groups c.args.defs.now c.in_ok-linked.linked ≡ all =
    c.in_ok-linked.ensures.groups ∙ c.in_ok-groups.ensures.groups in
    let p = err_from_is_err_and c.from_residual-in_err-check_chains.result
    c.from_residual-in_err-check_chains.ensures.1 in
    rw (p.1, p.2) (limit_cause all c.in_err-check_chains.field-0.0 resolved
    (subst (λ (ts : List (List Group)). HaveNoCycle ts) linked
    (linked_acyclic c.args.defs.now c.in_ok-linked.linked c.in_ok-linked.ensures.linked))
    (subst (λ (ts : List (List Group)). IsLimitIn (StandsIn StandsPastLimit ts) c.in_err-check_chains.field-0.0)
    (ap (λ (ls : List Linked). linked_groups c.args.defs.now ls) c.as_slice-2.ensures ∙ linked)
    c.in_err-check_chains.ensures.cause))

pub from_parts-requires : goal.from_parts-requires
from_parts-requires c =
    subst (λ (ts : List ForestTarget). IsTrue (are_low ts)) (sym c.in_ok-forest_targets.ensures)
    (low_of_short c.args.defs.now c.in_ok-linked.linked c.in_ok-linked.ensures.linked
    (subst (λ (ls : List Linked). AreShort ls) c.as_slice-2.ensures c.in_ok-check_chains.ensures.short))

pub returns-clause-targets : goal.returns-clause-targets
returns-clause-targets c =
    c.from_parts.ensures ∙ c.in_ok-forest_targets.ensures
    ∙ forest_is c.args.defs.now c.in_ok-linked.linked c.args.targets.now
    (c.in_ok-linked.ensures.targets ∙ c.in_ok-groups.ensures.targets)
    (c.in_ok-linked.ensures.groups ∙ c.in_ok-groups.ensures.groups)

pub returns-clause-faultless : goal.returns-clause-faultless
returns-clause-faultless c =
    make_forest c.args.defs.now c.in_ok-linked.linked (groups_of_each c.args.defs.now c.args.targets.now)
    (c.in_ok-linked.ensures.groups ∙ c.in_ok-groups.ensures.groups) c.in_ok-linked.ensures.linked
    (subst (λ (ls : List Linked). AreShort ls) c.as_slice-2.ensures c.in_ok-check_chains.ensures.short)
    (subst (λ (ts : List (List Group)). AreResolved ts)
    (ap (λ (ts : List Groups). groups_at_each c.args.defs.now ts) c.as_slice.ensures ∙ c.in_ok-groups.ensures.groups)
    c.in_ok-check_labels.ensures.resolved)
