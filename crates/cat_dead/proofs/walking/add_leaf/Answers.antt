use Rattle.std.proofs.Common.{◌≡◌, ◌++◌, ◌∷◌, [], slice_get, sym, subst}
use Rattle.std.specs.Prelude.{OnOk, IfSome}
use Rattle.cat_guard.specs.declared.tree.TreeNode.{TreeNode}
use Rattle.cat_guard.proofs.Exported.{if_some}
use Rattle.cat_dead.specs.declared.judged.LeafJudgement.{LeafJudgement}
use Rattle.cat_dead.specs.Leaves.{leaf_if}
use Rattle.cat_dead.proofs.walking.add_leaf.Goals as goal

pub returns-in_ok-judged-in-Leaf : goal.returns-in_ok-judged-in-Leaf
returns-in_ok-judged-in-Leaf c =
    let table = c.args.table.now in
    let o = slice_get table.targets c.args.target in
    subst (λ (n : TreeNode). IfSome o (λ t. OnOk c.push.result
    (c.push.new.self ≡ c.args.leaves.now ++ leaf_if table.atoms t c.args.region.now c.args.place n)))
    (sym c.in-Leaf.is)
    (if_some o c.in_ok-judged-in-Leaf.ensures (λ t is. subst (λ (j : LeafJudgement). OnOk c.push.result
    (c.push.new.self ≡ c.args.leaves.now ++ record { node = c.args.place; judged = j } ∷ [])) is c.push.ensures.ok))
