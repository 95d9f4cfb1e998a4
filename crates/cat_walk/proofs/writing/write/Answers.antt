use Rattle.std.proofs.Common.{◌≡◌, ◌∷◌, [], ◌-◌, ◌<◌, Some, None, List, ℕ, slice_get, rules, sym, subst}
use Rattle.std.proofs.Common.{ap, ◌∙◌}
use Rattle.cat_guard.specs.declared.tree.CitedNode.{CitedNode}
use Rattle.cat_walk.specs.inside.Writing.{CanWrite, work_of}
use Rattle.cat_walk.proofs.WritingLemmas.{IsWriting, can_less, can_more, number_there, less_work, less_behind}
use Rattle.cat_walk.proofs.WritingLemmas.{leaf_written}
use Rattle.cat_walk.proofs.WritingLemmas.{cite_written, split_written, all_are_written, read_at}
use Rattle.cat_walk.proofs.writing.write.Goals as goal

pub loop-class-preserved-then-class-eq-LEAF : goal.loop-class-preserved-then-class-eq-LEAF
loop-class-preserved-then-class-eq-LEAF c =
    let keys = c.args.classes.now.splits.keys in
    let numbers = c.args.numbers.now in
    let all = c.args.left_over.now in
    let before = c.args.nodes.now in
    let l = c.loop-class in
    let cs = c.pop.new.self in
    let can = subst (λ (os : List ℕ). CanWrite keys numbers os) c.in-Some.ensures l.invariant.can in
    let writing = subst (λ (os : List ℕ). IsWriting keys numbers all before os l.nodes) c.in-Some.ensures
    l.invariant.writes in
    record {
      can = can_less keys numbers c.in-Some.class cs can;
      writes = subst (λ (ns : List CitedNode). IsWriting keys numbers all before cs ns) (sym c.in_ok-push.ensures.ok)
          (leaf_written keys numbers all before c.in-Some.class cs l.nodes writing c.if-class-eq-LEAF.true);
    }

pub loop-class-smaller-in-Some-numbers : goal.loop-class-smaller-in-Some-numbers
loop-class-smaller-in-Some-numbers c =
    subst (λ (os : List ℕ). work_of c.pop.new.self < work_of os) (sym c.in-Some.ensures)
    (less_behind c.in-Some.class c.pop.new.self)

pub loop-class-preserved-in-Some-numbers : goal.loop-class-preserved-in-Some-numbers
loop-class-preserved-in-Some-numbers c =
    let keys = c.args.classes.now.splits.keys in
    let numbers = c.args.numbers.now in
    let all = c.args.left_over.now in
    let before = c.args.nodes.now in
    let l = c.loop-class in
    let class = c.in-Some.class in
    let cs = c.pop.new.self in
    let can = subst (λ (os : List ℕ). CanWrite keys numbers os) c.in-Some.ensures l.invariant.can in
    let writing = subst (λ (os : List ℕ). IsWriting keys numbers all before os l.nodes) c.in-Some.ensures
    l.invariant.writes in
    let some = c.if-class-eq-LEAF.false in
    let named : slice_get numbers (class - 1) ≡ Some (Some c.in-Some-numbers.name) =
    read_at numbers (class - 1) _ (Some c.in-Some-numbers.name) (number_there keys numbers class cs can some)
    c.in-Some-numbers.is in
    record {
      can = can_less keys numbers class cs can;
      writes = subst (λ (ns : List CitedNode). IsWriting keys numbers all before cs ns) (sym c.in_ok-push-2.ensures.ok)
          (cite_written keys numbers all before class cs l.nodes writing some c.in-Some-numbers.name named);
    }

pub loop-class-smaller : goal.loop-class-smaller
loop-class-smaller c =
    let keys = c.args.classes.now.splits.keys in
    let numbers = c.args.numbers.now in
    let l = c.loop-class in
    let class = c.in-Some.class in
    let cs = c.pop.new.self in
    let can = subst (λ (os : List ℕ). CanWrite keys numbers os) c.in-Some.ensures l.invariant.can in
    let pushed : c.push-in-Some-3.new.self ≡ c.split-atom.result.1 ∷ c.split-atom.result.2 ∷ cs =
    c.in_ok-push-5.ensures.ok ∙ ap (λ (os : List ℕ). c.split-atom.result.1 ∷ os) c.in_ok-push-4.ensures.ok in
    subst (λ (os : List ℕ). work_of os < work_of l.left_over) (sym pushed)
    (subst (λ (os : List ℕ). work_of (c.split-atom.result.1 ∷ c.split-atom.result.2 ∷ cs) < work_of os)
    (sym c.in-Some.ensures)
    (less_work keys numbers class cs can c.if-class-eq-LEAF.false c.split-atom.result c.split-atom.ensures))

pub loop-class-preserved : goal.loop-class-preserved
loop-class-preserved c =
    let keys = c.args.classes.now.splits.keys in
    let numbers = c.args.numbers.now in
    let all = c.args.left_over.now in
    let before = c.args.nodes.now in
    let l = c.loop-class in
    let class = c.in-Some.class in
    let cs = c.pop.new.self in
    let can = subst (λ (os : List ℕ). CanWrite keys numbers os) c.in-Some.ensures l.invariant.can in
    let writing = subst (λ (os : List ℕ). IsWriting keys numbers all before os l.nodes) c.in-Some.ensures
    l.invariant.writes in
    let some = c.if-class-eq-LEAF.false in
    let unnamed : slice_get numbers (class - 1) ≡ Some None =
    read_at numbers (class - 1) _ None (number_there keys numbers class cs can some) c.in_default-numbers.is in
    let k = c.split-atom.result in
    let pushed : c.push-in-Some-3.new.self ≡ k.1 ∷ k.2 ∷ cs =
    c.in_ok-push-5.ensures.ok ∙ ap (λ (os : List ℕ). k.1 ∷ os) c.in_ok-push-4.ensures.ok in
    record {
      can = subst (λ (os : List ℕ). CanWrite keys numbers os) (sym pushed)
          (can_more keys numbers class cs can some k c.split-atom.ensures);
      writes = subst (λ (os : List ℕ). IsWriting keys numbers all before os c.push-in-Some.new.self) (sym pushed)
          (subst (λ (ns : List CitedNode). IsWriting keys numbers all before (k.1 ∷ k.2 ∷ cs) ns)
          (sym c.in_ok-push-3.ensures.ok)
          (split_written keys numbers all before class cs l.nodes writing some k unnamed c.split-atom.ensures));
    }

pub returns : goal.returns
returns c =
    let keys = c.args.classes.now.splits.keys in
    let l = c.loop-class in
    let none : l.left_over ≡ [] = search rules in
    all_are_written keys c.args.numbers.now c.args.left_over.now c.args.nodes.now l.nodes
    (subst (λ (os : List ℕ). IsWriting keys c.args.numbers.now c.args.left_over.now c.args.nodes.now os l.nodes) none
    l.invariant.writes)
