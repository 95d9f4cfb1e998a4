use Rattle.std.proofs.Common.{◌≡◌, [], ◌≤◌, refl, suc, drop, slice_get, length, sym, subst, ap, ◌∙◌, List, ℕ, add-one}
use Rattle.std.proofs.Common.{Some}
use Rattle.std.proofs.lemmas.Option.{slice_get_read, slice_get_past}
use Rattle.cat_guard.specs.declared.tree.CitedNode.{CitedNode}
use Rattle.cat_guard.specs.Trees.{cited_tree_of}
use Rattle.cat_walk.specs.declared.size.TreeSize.{TreeSize}
use Rattle.cat_walk.specs.inside.Sizing.{HasSizes}
use Rattle.cat_walk.proofs.Lists.{drop-at, drop-past}
use Rattle.cat_walk.proofs.SizeLemmas.{AreNamed, next_sized, next_named, main_sized, main_given}
use Rattle.cat_walk.proofs.size.tree_size.Goals as goal

pub list_size-requires : goal.list_size-requires
list_size-requires c =
    let tree = c.args.tree.now in
    let items = c.as_slice-nodes-items.result.now in
    let k = c.loop-nodes.nodes-index in
    let at : slice_get tree.names k ≡ Some c.nodes-item.result =
    ap (λ ns. slice_get ns k) (sym c.as_slice-nodes-items.ensures)
    ∙ slice_get_read items (length items) k c.nodes-item.result refl c.loop-nodes-test.true c.nodes-item.is in
    let named = subst (λ (more : List (List CitedNode)). AreNamed tree more c.loop-nodes.sizes)
    (drop-at tree.names k c.nodes-item.result at) c.loop-nodes.invariant in
    subst (λ (ss : List TreeSize). HasSizes ss c.as_slice-in-loop-nodes.result.now) (sym c.as_slice.ensures)
    (subst (λ (ns : List CitedNode). HasSizes c.loop-nodes.sizes ns) (sym c.as_slice-in-loop-nodes.ensures)
    (next_sized tree c.requires c.nodes-item.result (drop (suc k) tree.names) c.loop-nodes.sizes named))

pub loop-nodes-preserved : goal.loop-nodes-preserved
loop-nodes-preserved c =
    let tree = c.args.tree.now in
    let items = c.as_slice-nodes-items.result.now in
    let k = c.loop-nodes.nodes-index in
    let at : slice_get tree.names k ≡ Some c.nodes-item.result =
    ap (λ ns. slice_get ns k) (sym c.as_slice-nodes-items.ensures)
    ∙ slice_get_read items (length items) k c.nodes-item.result refl c.loop-nodes-test.true c.nodes-item.is in
    let named = subst (λ (more : List (List CitedNode)). AreNamed tree more c.loop-nodes.sizes)
    (drop-at tree.names k c.nodes-item.result at) c.loop-nodes.invariant in
    subst (λ (n : ℕ). AreNamed tree (drop n tree.names) c.push.new.self) (sym (add-one k))
    (subst (λ (ss : List TreeSize). AreNamed tree (drop (suc k) tree.names) ss) (sym c.in_ok-push.ensures.ok)
    (next_named tree c.requires c.nodes-item.result (drop (suc k) tree.names) c.loop-nodes.sizes named c.in_ok-size.size
    (λ names t sizes is. c.in_ok-size.ensures names t (c.as_slice.ensures ∙ sizes)
    (ap (cited_tree_of names) c.as_slice-in-loop-nodes.ensures ∙ is))))

pub list_size-requires-2 : goal.list_size-requires-2
list_size-requires-2 c =
    let tree = c.args.tree.now in
    let k = c.loop-nodes.nodes-index in
    let past : length tree.names ≤ k =
    subst (λ (ns : List (List CitedNode)). length ns ≤ k) c.as_slice-nodes-items.ensures c.loop-nodes-test.false in
    let none : drop k tree.names ≡ [] = drop-past tree.names k (slice_get_past tree.names k past) in
    let last = subst (λ (more : List (List CitedNode)). AreNamed tree more c.loop-nodes.sizes) none
    c.loop-nodes.invariant in
    subst (λ (ss : List TreeSize). HasSizes ss c.as_slice-3.result.now) (sym c.as_slice-2.ensures)
    (subst (λ (ns : List CitedNode). HasSizes c.loop-nodes.sizes ns) (sym c.as_slice-3.ensures)
    (main_sized tree c.requires c.loop-nodes.sizes last))

pub returns : goal.returns
returns c =
    let tree = c.args.tree.now in
    let k = c.loop-nodes.nodes-index in
    let past : length tree.names ≤ k =
    subst (λ (ns : List (List CitedNode)). length ns ≤ k) c.as_slice-nodes-items.ensures c.loop-nodes-test.false in
    let none : drop k tree.names ≡ [] = drop-past tree.names k (slice_get_past tree.names k past) in
    let last = subst (λ (more : List (List CitedNode)). AreNamed tree more c.loop-nodes.sizes) none
    c.loop-nodes.invariant in
    main_given tree c.loop-nodes.sizes last c.list_size-2.result
    (λ names t sizes is. c.list_size-2.ensures names t (c.as_slice-2.ensures ∙ sizes)
    (ap (cited_tree_of names) c.as_slice-3.ensures ∙ is))
