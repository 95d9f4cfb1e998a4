use Rattle.std.proofs.Common.{◌≡◌, ◌∙◌, ◌<◌, ◌+◌, ℕ, List, drop, get_or, length, All, None, sym, ap, subst, arith}
use Rattle.std.proofs.lemmas.List.{drop_more}
use Rattle.cat_value.specs.declared.outcome.Target.{Target}
use Rattle.cat_scope.specs.Groups.{groups_of}
use Rattle.cat_scope.specs.Targets.{defs_from}
use Rattle.cat_scope.specs.Forests.{definition_numbers}
use Rattle.cat_except.specs.Faults.{groups_of_each}
use Rattle.cat_except.specs.inside.Grouping.{defs_at}
use Rattle.cat_except.proofs.Numbers.{target_defs, target_numbers, few_numbers}
use Rattle.cat_except.proofs.Whole.{targets_more, groups_more, known_more}
use Rattle.cat_except.proofs.groups_of_each.Goals as goal

-- what stands past the end of a list of targets
abbrev nowhere : Target
nowhere = record { scope = 0; item = 0; inner = None }

pub new-requires-clause-few : goal.new-requires-clause-few
new-requires-clause-few c =
    let target : Target = get_or c.args.targets.now c.loop-target.target-index nowhere in
    let numbers : c.numbers.result.now ≡ definition_numbers (defs_from target 0 c.args.defs.now) =
    c.numbers.ensures ∙ c.in_ok-table.ensures.1 target in
    omega (arith, ap (λ (ns : List ℕ). length ns) numbers, few_numbers target c.args.defs.now, c.requires)

pub new-requires-clause-numbers : goal.new-requires-clause-numbers
new-requires-clause-numbers c =
    let target : Target = get_or c.args.targets.now c.loop-target.target-index nowhere in
    let numbers : c.numbers.result.now ≡ definition_numbers (defs_from target 0 c.args.defs.now) =
    c.numbers.ensures ∙ c.in_ok-table.ensures.1 target in
    subst (λ (ns : List ℕ). All (λ n. n < length c.args.defs.now) ns) (sym numbers)
    (target_numbers target c.args.defs.now)

pub loop-target-preserved : goal.loop-target-preserved
loop-target-preserved c =
    let target : Target = get_or c.args.targets.now c.loop-target.target-index nowhere in
    let numbers : c.numbers.result.now ≡ definition_numbers (defs_from target 0 c.args.defs.now) =
    c.numbers.ensures ∙ c.in_ok-table.ensures.1 target in
    record {
      targets = targets_more c.loop-target.groups c.push.new.self c.in_ok-new.field-0 target
          (drop c.loop-target.target-index c.args.targets.now)
          (drop (c.loop-target.target-index + 1) c.args.targets.now)
          c.args.targets.now (drop_more c.args.targets.now c.loop-target.target-index nowhere c.loop-target-test.true)
          c.in_ok-new.ensures.target c.in_ok-push.ensures.ok c.loop-target.invariant.targets;
      groups = groups_more c.args.defs.now c.loop-target.groups c.push.new.self c.in_ok-new.field-0 target
          (drop c.loop-target.target-index c.args.targets.now)
          (drop (c.loop-target.target-index + 1) c.args.targets.now)
          (groups_of_each c.args.defs.now c.args.targets.now)
          (drop_more c.args.targets.now c.loop-target.target-index nowhere c.loop-target-test.true)
          (c.in_ok-new.ensures.parted
          ∙ ap groups_of (ap (defs_at c.args.defs.now) numbers ∙ target_defs target c.args.defs.now))
          c.in_ok-push.ensures.ok c.loop-target.invariant.groups;
      known = known_more c.args.defs.now c.loop-target.groups c.push.new.self c.in_ok-new.field-0
          c.in_ok-push.ensures.ok c.loop-target.invariant.known c.in_ok-new.ensures.groups;
    }
