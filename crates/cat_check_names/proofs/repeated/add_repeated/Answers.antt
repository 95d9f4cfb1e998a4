use Rattle.std.proofs.Common.{rules, ◌≡◌, true, false, bytes_eq, sym, subst, cond, ℕ, List}
use Rattle.std.specs.List.{list_any}
use Rattle.cat_check_names.proofs.Twice.{fresh_name, seen_name, seen_more}
use Rattle.cat_check_names.proofs.repeated.add_repeated.Goals as goal

pub loop-thing-preserved-then-branch : goal.loop-thing-preserved-then-branch
loop-thing-preserved-then-branch g c =
    let thing = c.thing-item.result in
    let named : c.in_ok-copy.field-0 ≡ (g.T.Written.written thing).text = search rules in
    let none : list_any (bytes_eq c.in_ok-copy.field-0) c.loop-thing.seen.keys ≡ false = search rules in (
      seen_more g.T.Written.written c.args.things.now c.loop-thing.thing-index thing c.loop-thing.seen.keys
          c.insert.new.self.keys (search rules) (sym c.thing-item.is)
          (subst (λ (v : List ℕ). (w : List ℕ) → list_any (bytes_eq w) c.insert.new.self.keys
          ≡ cond (bytes_eq v w) true (list_any (bytes_eq w) c.loop-thing.seen.keys)) named
          c.in_ok-insert.ensures.updates.0) c.loop-thing.invariant.0,
      fresh_name g.T.Written.written c.args.things.now c.loop-thing.thing-index thing c.loop-thing.seen.keys
          c.args.faults.now c.loop-thing.faults (search rules) (sym c.thing-item.is) c.loop-thing.invariant.0
          (subst (λ (v : List ℕ). list_any (bytes_eq v) c.loop-thing.seen.keys ≡ false) named none)
          c.loop-thing.invariant.1,
    )

pub loop-thing-preserved : goal.loop-thing-preserved
loop-thing-preserved g c =
    let thing = c.thing-item.result in
    let named : c.in_ok-copy.field-0 ≡ (g.T.Written.written thing).text = search rules in
    let seen : list_any (bytes_eq c.in_ok-copy.field-0) c.loop-thing.seen.keys ≡ true = search rules in (
      seen_more g.T.Written.written c.args.things.now c.loop-thing.thing-index thing c.loop-thing.seen.keys
          c.insert.new.self.keys (search rules) (sym c.thing-item.is)
          (subst (λ (v : List ℕ). (w : List ℕ) → list_any (bytes_eq w) c.insert.new.self.keys
          ≡ cond (bytes_eq v w) true (list_any (bytes_eq w) c.loop-thing.seen.keys)) named
          c.in_ok-insert.ensures.updates.0) c.loop-thing.invariant.0,
      seen_name g.T.Written.written c.args.things.now c.loop-thing.thing-index thing c.loop-thing.seen.keys
          c.args.faults.now c.loop-thing.faults c.push.new.self (search rules) (sym c.thing-item.is)
          c.loop-thing.invariant.0
          (subst (λ (v : List ℕ). list_any (bytes_eq v) c.loop-thing.seen.keys ≡ true) named seen) (search rules)
          c.loop-thing.invariant.1,
    )
