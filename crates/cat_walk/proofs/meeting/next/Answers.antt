use Rattle.std.proofs.Common.{◌≡◌, Some, None, rules, refl, sym, ap, ◌∙◌, ◌∷◌, ◌++◌, slice_get}
use Rattle.cat_guard.specs.declared.tree.CitedNode.TheVariants as cited
use Rattle.cat_walk.specs.LeafPlaces.{lists_of, node_at}
use Rattle.cat_walk.specs.inside.Meetings.{to_come, met_in_list}
use Rattle.cat_walk.specs.declared.meeting.Met.TheVariants as met
use Rattle.cat_walk.proofs.MeetingLemmas.{comes_end, comes_leaf, comes_split, comes_cite, cited_there}
use Rattle.cat_walk.proofs.meeting.next.Goals as goal

pub returns-in_default-node_at-clause-next : goal.returns-in_default-node_at-clause-next
returns-in_default-node_at-clause-next c =
    let lists = lists_of c.args.tree.now in
    let none : node_at lists c.in-Some.place ≡ None = search rules in
    ap (to_come lists) c.in-Some.ensures ∙ comes_end lists c.requires c.in-Some.place c.pop.new.self none

pub returns-in-Split-clause-next : goal.returns-in-Split-clause-next
returns-in-Split-clause-next c =
    let lists = lists_of c.args.tree.now in
    let found : node_at lists c.in-Some.place ≡ Some (cited.Split c.in-Split.atom) = search rules in
    ap (to_come lists) c.in-Some.ensures
    ∙ comes_split lists c.requires c.in-Some.place c.pop.new.self c.in-Split.atom found
    ∙ ap (λ ps. met.Split c.in-Split.atom ∷ to_come lists ps) (sym c.in_ok-push.ensures.ok)

pub returns-in-Leaf-clause-next : goal.returns-in-Leaf-clause-next
returns-in-Leaf-clause-next c =
    let lists = lists_of c.args.tree.now in
    let found : node_at lists c.in-Some.place ≡ Some cited.Leaf = search rules in
    ap (to_come lists) c.in-Some.ensures
    ∙ comes_leaf lists c.requires c.in-Some.place c.pop.new.self found
    ∙ ap (λ ps. met.Leaf c.in-Some.place ∷ to_come lists ps) (sym c.in_ok-push.ensures.ok)

pub returns-in-Cite-clause-next : goal.returns-in-Cite-clause-next
returns-in-Cite-clause-next c =
    let lists = lists_of c.args.tree.now in
    let found : node_at lists c.in-Some.place ≡ Some (cited.Cite c.in-Cite.name) = search rules in
    ap (to_come lists) c.in-Some.ensures
    ∙ comes_cite lists c.requires c.in-Some.place c.pop.new.self c.in-Cite.name found
    ∙ ap (λ ps. met.Cite c.in-Cite.name ∷ met_in_list lists c.in-Cite.name ++ to_come lists ps)
    (sym c.in_ok-push.ensures.ok)

pub returns-in-Cite-clause-leaf : goal.returns-in-Cite-clause-leaf
returns-in-Cite-clause-leaf c =
    let lists = lists_of c.args.tree.now in
    let found : node_at lists c.in-Some.place ≡ Some (cited.Cite c.in-Cite.name) = search rules in
    cited_there lists c.requires c.in-Some.place.list c.in-Some.place.node c.in-Cite.name
    (slice_get lists c.in-Some.place.list) refl found
