use Rattle.std.proofs.Common.{◌≡◌, ◌∷◌, [], ◌++◌, List, ℕ, sym, subst, ap, ◌∙◌}
use Rattle.cat_guard.specs.declared.tree.CitedNode.{CitedNode}
use Rattle.cat_guard.specs.declared.tree.CitedNode.TheVariants as cited
use Rattle.cat_walk.specs.inside.Writing.{CanWrite, Writes}
use Rattle.cat_walk.proofs.BodyLemmas.{can_body, body_is}
use Rattle.cat_walk.proofs.writing.body.Goals as goal

pub write-requires : goal.write-requires
write-requires c =
    let keys = c.args.classes.now.splits.keys in
    let k = c.split-atom.result in
    let pushed : c.push-3.new.self ≡ k.1 ∷ k.2 ∷ [] =
    c.in_ok-push-3.ensures.ok ∙ ap (λ (os : List ℕ). k.1 ∷ os)
    (c.in_ok-push-2.ensures.ok ∙ ap (λ (os : List ℕ). k.2 ∷ os) c.new-left_over.ensures) in
    subst (λ (os : List ℕ). CanWrite keys c.args.numbers.now os) (sym pushed)
    (can_body keys c.args.numbers.now c.requires.can c.args.index c.requires.index k c.split-atom.ensures)

pub returns : goal.returns
returns c = λ known names t knows is.
    let keys = c.args.classes.now.splits.keys in
    let numbers = c.args.numbers.now in
    let k = c.split-atom.result in
    let pushed : c.push-3.new.self ≡ k.1 ∷ k.2 ∷ [] =
    c.in_ok-push-3.ensures.ok ∙ ap (λ (os : List ℕ). k.1 ∷ os)
    (c.in_ok-push-2.ensures.ok ∙ ap (λ (os : List ℕ). k.2 ∷ os) c.new-left_over.ensures) in
    let begun : c.push.new.self ≡ cited.Split k.0 ∷ [] =
    c.in_ok-push.ensures.ok ∙ ap (λ (ns : List CitedNode). ns ++ cited.Split k.0 ∷ []) c.new-nodes.ensures in
    let written = subst (λ (os : List ℕ). Writes keys numbers os (cited.Split k.0 ∷ []) c.write.new.nodes) pushed
    (subst (λ (ns : List CitedNode). Writes keys numbers c.push-3.new.self ns c.write.new.nodes) begun
    (λ a b d e f. c.in_ok-write.ensures a b d e f)) in
    body_is keys numbers c.requires.can c.args.index c.requires.index k c.split-atom.ensures known names t knows is
    c.write.new.nodes written
