use Rattle.std.proofs.Common.{◌∷◌, Option, ℕ, List, sym, subst}
use Rattle.cat_guard.specs.declared.tree.TreeNode.{TreeNode}
use Rattle.cat_walk.specs.declared.numbering.Open.{Open}
use Rattle.cat_walk.specs.inside.Numbering.{IsNumbered}
use Rattle.cat_walk.proofs.NumberingLemmas.{opens, node_met, told_or}
use Rattle.cat_walk.proofs.numbering.meet_node.Goals as goal

pub returns-in-Split-clause-numbered : goal.returns-in-Split-clause-numbered
returns-in-Split-clause-numbered c = λ ns t at.
    let s = c.args.classes.now in
    let here = subst (λ (n : TreeNode). IsNumbered s.splits.keys s.recurs c.args.waiting.now (n ∷ ns) c.args.root t)
    c.in-Split.is at in
    subst (λ (os : List Open). IsNumbered s.splits.keys s.recurs os ns c.args.root t) (sym c.in_ok-push.ensures.ok)
    (opens s.splits.keys s.recurs c.args.waiting.now ns c.args.root t c.in-Split.atom here)

pub returns-in-Some : goal.returns-in-Some
returns-in-Some c =
    let s = c.args.classes.now in
    let e = c.close.new.classes in
    record {
      room = c.in_ok-class.ensures.room;
      numbered = λ ns t at.
          subst (λ (o : Option ℕ). IsNumbered e.splits.keys e.recurs c.close.new.waiting ns (told_or o c.args.root) t)
          c.in-Some.is
          (node_met s.splits.keys s.recurs c.args.waiting.now ns c.args.root t c.args.node c.in_default.not-Split at
          e.splits.keys e.recurs c.close.new.waiting c.in_ok-class.field-0
          (λ trees u arrives. c.in_ok-class.ensures.closes trees u arrives));
    }

pub returns-in-None : goal.returns-in-None
returns-in-None c =
    let s = c.args.classes.now in
    let e = c.close.new.classes in
    record {
      room = c.in_ok-class.ensures.room;
      numbered = λ ns t at.
          subst (λ (o : Option ℕ). IsNumbered e.splits.keys e.recurs c.close.new.waiting ns (told_or o c.args.root) t)
          c.in-None.is
          (node_met s.splits.keys s.recurs c.args.waiting.now ns c.args.root t c.args.node c.in_default.not-Split at
          e.splits.keys e.recurs c.close.new.waiting c.in_ok-class.field-0
          (λ trees u arrives. c.in_ok-class.ensures.closes trees u arrives));
    }
