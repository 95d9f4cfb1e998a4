use Rattle.std.proofs.Common.{◌≡◌, ◌∷◌, [], List, ℕ, subst, ap, ◌∙◌}
use Rattle.cat_guard.specs.declared.tree.CitedNode.{CitedNode}
use Rattle.cat_walk.specs.inside.Writing.{Writes}
use Rattle.cat_walk.proofs.BodyLemmas.{in_place_is}
use Rattle.cat_walk.proofs.writing.in_place.Goals as goal

pub returns : goal.returns
returns c = λ known names t knows is.
    let keys = c.args.classes.now.splits.keys in
    let numbers = c.args.numbers.now in
    let pushed : c.push.new.self ≡ c.args.class ∷ [] =
    c.in_ok-push.ensures.ok ∙ ap (λ (os : List ℕ). c.args.class ∷ os) c.new-left_over.ensures in
    let written = subst (λ (os : List ℕ). Writes keys numbers os [] c.write.new.nodes) pushed
    (subst (λ (ns : List CitedNode). Writes keys numbers c.push.new.self ns c.write.new.nodes) c.new-nodes.ensures
    (λ a b d e f. c.in_ok-write.ensures a b d e f)) in
    in_place_is keys numbers c.args.class known names t knows is c.write.new.nodes written
