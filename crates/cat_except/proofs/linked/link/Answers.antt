use Rattle.std.proofs.Common.{rules, ◌≡◌, ◌∙◌, ◌<◌, ℕ, List, length, Option, Some, IsSome, sym, ap, subst}
use Rattle.std.proofs.Common.{arith}
use Rattle.cat_order.specs.Order.{AreItems, IsOrder}
use Rattle.cat_order.specs.Cycle.{IsOnCycle}
use Rattle.cat_order.specs.Cause.{HasCause}
use Rattle.cat_order.specs.declared.refusal.OrderRefusal.{OrderRefusal}
use Rattle.cat_order.specs.declared.refusal.OrderRefusal.TheVariants.{Cycle}
use Rattle.cat_scope.specs.Groups.{Group}
use Rattle.cat_except.specs.inside.Grouping.{groups_at}
use Rattle.cat_except.specs.inside.Linking.{targets_from, lists_of}
use Rattle.cat_except.specs.inside.Linked.{word_at}
use Rattle.cat_except.proofs.Linking.{lists_excepted, as_many_groups, as_many_targets, are_items, word_there, has_word}
use Rattle.cat_except.proofs.Linking.{one_excepted, on_cycle_within, ExceptsOne}
use Rattle.cat_except.proofs.linked.link.Goals as goal

pub overflow_cast-len : goal.overflow_cast-len
overflow_cast-len c =
    let gs : List Group = groups_at c.args.defs.now c.args.groups.lists.items in
    let deps : c.in_ok-deps.deps.items ≡ lists_of (targets_from gs gs) =
    c.in_ok-deps.ensures ∙ ap lists_of (c.deref.ensures.value ∙ c.in_ok-excepted.ensures) in
    let many : length c.in_ok-deps.deps.items ≡ length c.args.groups.lists.items =
    ap (λ (ls : List (List ℕ)). length ls) deps ∙ as_many_targets gs gs
    ∙ as_many_groups c.args.defs.now c.args.groups.lists.items in
    let few : length c.in_ok-deps.deps.items < 4294967296 = omega (arith, many, c.requires.few) in
    search (rules, few)

pub order-requires-clause-items : goal.order-requires-clause-items
order-requires-clause-items c =
    let gs : List Group = groups_at c.args.defs.now c.args.groups.lists.items in
    let deps : c.deref-2.result.now ≡ lists_of (targets_from gs gs) =
    c.deref-2.ensures.value ∙ c.in_ok-deps.ensures ∙ ap lists_of (c.deref.ensures.value ∙ c.in_ok-excepted.ensures) in
    subst (λ (ds : List (List ℕ)). AreItems ds) (sym deps) (are_items gs)

pub returns-in-Ok-clause-linked : goal.returns-in-Ok-clause-linked
returns-in-Ok-clause-linked c =
    let gs : List Group = groups_at c.args.defs.now c.args.groups.lists.items in
    let excepted : c.in_ok-excepted.excepted.items ≡ targets_from gs gs = c.in_ok-excepted.ensures in
    let deps : c.deref-2.result.now ≡ lists_of c.in_ok-excepted.excepted.items =
    c.deref-2.ensures.value ∙ c.in_ok-deps.ensures ∙ ap lists_of c.deref.ensures.value in
    let ordered : IsOrder (lists_of c.in_ok-excepted.excepted.items) c.in-Ok.order =
    subst (λ (ds : List (List ℕ)). IsOrder ds c.in-Ok.order) deps c.in-Ok.ensures.order in
    record {
      excepted = excepted;
      items = subst (λ (ts : List (Option ℕ)). AreItems (lists_of ts)) (sym excepted) (are_items gs);
      order = ordered;
      acyclic = λ item on. c.a_cycle_leaves_no_order.ensures (lists_of c.in_ok-excepted.excepted.items) item on
          c.in-Ok.order ordered;
      placed = c.requires.placed;
      few = c.requires.few;
    }

pub word_of-requires-clause-group : goal.word_of-requires-clause-group
word_of-requires-clause-group c =
    let cause : HasCause c.deref-2.result.now (Cycle c.in-Err-Cycle.group) =
    subst (λ (r : OrderRefusal). HasCause c.deref-2.result.now r) c.in-Err-Cycle.field-0-is c.in-Err-Cycle.ensures.cause
    in
    let gs : List Group = groups_at c.args.defs.now c.args.groups.lists.items in
    let deps : c.deref-2.result.now ≡ lists_of (targets_from gs gs) =
    c.deref-2.ensures.value ∙ c.in_ok-deps.ensures ∙ ap lists_of (c.deref.ensures.value ∙ c.in_ok-excepted.ensures) in
    subst (λ (ls : List (List ℕ)). c.in-Err-Cycle.group < length ls) (sym c.deref-in-Err-Cycle.ensures.value)
    (on_cycle_within c.args.defs.now c.args.groups.lists.items c.in-Err-Cycle.group
    (subst (λ (ds : List (List ℕ)). IsOnCycle ds c.in-Err-Cycle.group) deps cause.0))

pub word_of-requires-clause-word : goal.word_of-requires-clause-word
word_of-requires-clause-word c =
    let cause : HasCause c.deref-2.result.now (Cycle c.in-Err-Cycle.group) =
    subst (λ (r : OrderRefusal). HasCause c.deref-2.result.now r) c.in-Err-Cycle.field-0-is c.in-Err-Cycle.ensures.cause
    in
    let gs : List Group = groups_at c.args.defs.now c.args.groups.lists.items in
    let deps : c.deref-2.result.now ≡ lists_of (targets_from gs gs) =
    c.deref-2.ensures.value ∙ c.in_ok-deps.ensures ∙ ap lists_of (c.deref.ensures.value ∙ c.in_ok-excepted.ensures) in
    let one : ExceptsOne (targets_from gs gs) c.in-Err-Cycle.group =
    one_excepted (targets_from gs gs) c.in-Err-Cycle.group
    (subst (λ (ds : List (List ℕ)). IsOnCycle ds c.in-Err-Cycle.group) deps cause.0) in
    subst (λ (ls : List (List ℕ)). IsSome (word_at c.args.defs.now ls c.in-Err-Cycle.group))
    (sym c.deref-in-Err-Cycle.ensures.value)
    (word_there c.args.defs.now gs c.args.groups.lists.items c.in-Err-Cycle.group one.0 one.1)

pub returns-in-Err-Cycle-clause-cause : goal.returns-in-Err-Cycle-clause-cause
returns-in-Err-Cycle-clause-cause c =
    let cause : HasCause c.deref-2.result.now (Cycle c.in-Err-Cycle.group) =
    subst (λ (r : OrderRefusal). HasCause c.deref-2.result.now r) c.in-Err-Cycle.field-0-is c.in-Err-Cycle.ensures.cause
    in
    let gs : List Group = groups_at c.args.defs.now c.args.groups.lists.items in
    let deps : c.deref-2.result.now ≡ lists_of (targets_from gs gs) =
    c.deref-2.ensures.value ∙ c.in_ok-deps.ensures ∙ ap lists_of (c.deref.ensures.value ∙ c.in_ok-excepted.ensures) in
    let on : IsOnCycle (lists_of (targets_from gs gs)) c.in-Err-Cycle.group =
    subst (λ (ds : List (List ℕ)). IsOnCycle ds c.in-Err-Cycle.group) deps cause.0 in (
      c.in-Err-Cycle.group,
      subst (λ (ds : List (List ℕ)). IsOnCycle ds c.in-Err-Cycle.group) (lists_excepted gs gs) on,
      has_word c.args.defs.now c.args.groups.lists.items c.in-Err-Cycle.group c.word_of.result
          (on_cycle_within c.args.defs.now c.args.groups.lists.items c.in-Err-Cycle.group on)
          (subst (λ (ls : List (List ℕ)). word_at c.args.defs.now ls c.in-Err-Cycle.group ≡ Some c.word_of.result)
          c.deref-in-Err-Cycle.ensures.value c.word_of.ensures),
    )
