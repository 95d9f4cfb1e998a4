use Rattle.std.proofs.Common.{◌≡◌, ◌<◌, ℕ, List, length, Some, IsSome, sym, subst}
use Rattle.cat_except.specs.declared.linked.Linked.{Linked}
use Rattle.cat_except.specs.inside.Grouping.{groups_at}
use Rattle.cat_except.specs.inside.Linking.{targets_from}
use Rattle.cat_except.specs.inside.Linked.{word_at, IsLinked}
use Rattle.cat_except.specs.inside.Chains.{IsTooLong}
use Rattle.cat_except.proofs.Linking.{ExceptsOne, excepts_within, word_there}
use Rattle.cat_except.proofs.EachTarget.{all_at, found_long, long_excepts, limit_in}
use Rattle.cat_except.proofs.linked.check_chains.Goals as goal

pub word_of-requires-clause-group : goal.word_of-requires-clause-group
word_of-requires-clause-group c =
    let l : Linked = c.target-item.result in
    let linked : IsLinked c.args.defs.now l = subst (λ (m : Linked). IsLinked c.args.defs.now m) (sym c.target-item.is)
    (all_at (IsLinked c.args.defs.now) c.args.targets.now c.loop-target.target-index l c.requires
    c.loop-target-test.true) in
    let long : IsTooLong l.excepted.items c.in-Some.group = found_long l.excepted.items c.deref.result.now
    c.in_ok-group.field-0 c.in-Some.group c.deref.ensures.value c.in-Some.is c.in_ok-group.ensures in
    let one : ExceptsOne (targets_from (groups_at c.args.defs.now l.lists.items)
    (groups_at c.args.defs.now l.lists.items))
    c.in-Some.group = long_excepts c.args.defs.now l c.in-Some.group linked long in
    subst (λ (ls : List (List ℕ)). c.in-Some.group < length ls) (sym c.deref-in-Some.ensures.value)
    (excepts_within c.args.defs.now (groups_at c.args.defs.now l.lists.items) l.lists.items c.in-Some.group one.0 one.1)

pub word_of-requires-clause-word : goal.word_of-requires-clause-word
word_of-requires-clause-word c =
    let l : Linked = c.target-item.result in
    let linked : IsLinked c.args.defs.now l = subst (λ (m : Linked). IsLinked c.args.defs.now m) (sym c.target-item.is)
    (all_at (IsLinked c.args.defs.now) c.args.targets.now c.loop-target.target-index l c.requires
    c.loop-target-test.true) in
    let long : IsTooLong l.excepted.items c.in-Some.group = found_long l.excepted.items c.deref.result.now
    c.in_ok-group.field-0 c.in-Some.group c.deref.ensures.value c.in-Some.is c.in_ok-group.ensures in
    let one : ExceptsOne (targets_from (groups_at c.args.defs.now l.lists.items)
    (groups_at c.args.defs.now l.lists.items))
    c.in-Some.group = long_excepts c.args.defs.now l c.in-Some.group linked long in
    subst (λ (ls : List (List ℕ)). IsSome (word_at c.args.defs.now ls c.in-Some.group))
    (sym c.deref-in-Some.ensures.value)
    (word_there c.args.defs.now (groups_at c.args.defs.now l.lists.items) l.lists.items c.in-Some.group one.0 one.1)

pub returns-in-Some-clause-cause : goal.returns-in-Some-clause-cause
returns-in-Some-clause-cause c =
    let l : Linked = c.target-item.result in
    let linked : IsLinked c.args.defs.now l = subst (λ (m : Linked). IsLinked c.args.defs.now m) (sym c.target-item.is)
    (all_at (IsLinked c.args.defs.now) c.args.targets.now c.loop-target.target-index l c.requires
    c.loop-target-test.true) in
    limit_in c.args.defs.now c.args.targets.now c.loop-target.target-index l c.in-Some.group c.word_of.result
    c.loop-target-test.true (sym c.target-item.is) linked
    (found_long l.excepted.items c.deref.result.now c.in_ok-group.field-0 c.in-Some.group c.deref.ensures.value
    c.in-Some.is c.in_ok-group.ensures)
    (subst (λ (ls : List (List ℕ)). word_at c.args.defs.now ls c.in-Some.group ≡ Some c.word_of.result)
    c.deref-in-Some.ensures.value c.word_of.ensures)
