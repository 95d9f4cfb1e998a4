use Rattle.std.proofs.Common.{◌≡◌, ◌-◌, ◌<◌, suc, drop, slice_index_or, length, subst, ◌∙◌, arith, ℕ}
use Rattle.std.proofs.lemmas.Option.{slice_get-get_or}
use Rattle.cat_guard.specs.declared.tree.CitedNode.TheVariants as cited
use Rattle.cat_walk.proofs.SizeLemmas.{AreSized, in_front, sizable, sized}
use Rattle.cat_walk.proofs.size.list_size.Goals as goal

pub node_size-size-requires : goal.node_size-size-requires
node_size-size-requires c =
    let nodes = c.args.nodes.now in
    let k = c.loop-at.at - 1 in
    let place : c.loop-at.at ≡ suc k = let more = c.loop-at-test.true in omega (arith, more) in
    let within : k < length nodes = let most = c.loop-at.auto.at in omega (arith, most, place) in
    let n = slice_index_or nodes k (cited.Split 0) in
    let r = c.requires in
    let front = in_front r.names n nodes r.tree k c.loop-at.sizes r.is (slice_get-get_or nodes k (cited.Split 0) within)
    (subst (λ (m : ℕ). AreSized r.names (drop m nodes) c.loop-at.sizes) place
    (c.loop-at.invariant r.names r.tree r.sizes r.is)) in
    sizable c.args.named.now r.names r.sizes n front.rest front.made c.loop-at.sizes front.is front.sizes_are

pub loop-at-preserved : goal.loop-at-preserved
loop-at-preserved c = λ names t sizes is.
    let nodes = c.args.nodes.now in
    let k = c.loop-at.at - 1 in
    let place : c.loop-at.at ≡ suc k = let more = c.loop-at-test.true in omega (arith, more) in
    let within : k < length nodes = let most = c.loop-at.auto.at in omega (arith, most, place) in
    let n = slice_index_or nodes k (cited.Split 0) in
    let front = in_front names n nodes t k c.loop-at.sizes is (slice_get-get_or nodes k (cited.Split 0) within)
    (subst (λ (m : ℕ). AreSized names (drop m nodes) c.loop-at.sizes) place (c.loop-at.invariant names t sizes is)) in
    record {
      trees = front.made;
      made = front.all;
      sizes_are = c.in_ok-push.ensures.ok
          ∙ sized c.args.named.now names sizes n front.rest front.made c.loop-at.sizes c.node_size-size.result
          c.node_size-size.new.behind front.is front.sizes_are c.node_size-size.ensures;
    }
