use Rattle.std.proofs.Common.{◌≡◌, [], Some, None, List, sym, subst, rules}
use Rattle.cat_walk.specs.declared.numbering.Open.{Open}
use Rattle.cat_walk.specs.inside.Numbering.{Arrives, GoesOn}
use Rattle.cat_walk.proofs.NumberingLemmas.{done, other_side, both_sides}
use Rattle.cat_walk.proofs.numbering.close.Goals as goal

pub returns-in_default-left-clause-closes : goal.returns-in_default-left-clause-closes
returns-in_default-left-clause-closes c = λ trees t at.
    let l = c.loop-split in
    let none : c.in-Some.split.left ≡ None = search rules in
    let here = subst (λ (os : List Open). Arrives l.classes.splits.keys l.classes.recurs os trees l.class t)
    c.in-Some.ensures (l.invariant.arrives trees t at) in
    subst (λ (os : List Open). GoesOn l.classes.splits.keys l.classes.recurs os trees t) (sym c.in_ok-push.ensures.ok)
    (other_side l.classes.splits.keys l.classes.recurs c.pop.new.self trees l.class t c.in-Some.split here none)

pub loop-split-preserved : goal.loop-split-preserved
loop-split-preserved c =
    let l = c.loop-split in
    record {
      room = c.in_ok-class.ensures.room;
      arrives = λ trees t at.
          let some : c.in-Some.split.left ≡ Some c.in-Some-left.left = search rules in
          let here = subst (λ (os : List Open). Arrives l.classes.splits.keys l.classes.recurs os trees l.class t)
          c.in-Some.ensures (l.invariant.arrives trees t at) in
          both_sides l.classes.splits.keys l.classes.recurs c.pop.new.self trees l.class t c.in-Some.split here
          c.in-Some-left.left some c.meet.new.self.splits.keys c.meet.new.self.recurs c.in_ok-class.class
          (λ met u v. c.in_ok-class.ensures.meets met u v);
    }

pub returns-clause-closes : goal.returns-clause-closes
returns-clause-closes c = λ trees t at.
    let l = c.loop-split in
    let none : l.waiting ≡ [] = search rules in
    done l.classes.splits.keys l.classes.recurs c.pop.new.self trees l.class t
    (subst (λ (os : List Open). Arrives l.classes.splits.keys l.classes.recurs os trees l.class t)
    none (l.invariant.arrives trees t at))
