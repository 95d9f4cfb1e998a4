use Rattle.std.proofs.Common.{◌≤◌, IsTrue, ◌≡◌, Some, slice_get, length, take, refl, arith}
use Rattle.std.proofs.lemmas.Option.{slice_get_read}
use Rattle.cat_guard.specs.Trees.{expanded}
use Rattle.cat_walk.specs.Sizes.{is_small}
use Rattle.cat_cert.specs.declared.certificate.CertTree.{CertTree}
use Rattle.cat_cert.specs.Heights.{IsUpTo}
use Rattle.cat_cert.proofs.Lists.{have_each, taken_more, left_more}
use Rattle.cat_cert.proofs.CheckLemmas.{low_further}
use Rattle.cat_cert.proofs.heights.highest.Goals as goal

pub loop-tree-preserved : goal.loop-tree-preserved
loop-tree-preserved c =
    let trees = c.args.trees.now in
    let k = c.loop-tree.tree-index in
    let tree = c.tree-item.result in
    let most = c.greater-most.result in
    let bound = c.greater-most.ensures in
    let at : slice_get trees k ≡ Some tree =
    slice_get_read trees (length trees) k tree refl c.loop-tree-test.true c.tree-item.is in
    let up : c.loop-tree.most ≤ most = omega (arith, bound) in
    let next : c.in_ok-next.next ≤ most = omega (arith, bound) in
    record {
      low = taken_more (IsUpTo most) trees k tree at
          (low_further c.in_ok-next.next most next (expanded tree.tree) c.in_ok-next.ensures)
          (have_each (IsUpTo c.loop-tree.most) (IsUpTo most)
          (λ (t : CertTree). low_further c.loop-tree.most most up (expanded t.tree)) (take k trees)
          c.loop-tree.invariant.low);
      small = left_more (λ (t : CertTree). IsTrue (is_small (expanded t.tree))) trees k tree at
          c.loop-tree.invariant.small;
    }
