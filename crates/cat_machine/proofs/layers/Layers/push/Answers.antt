use Rattle.std.proofs.Common.{[], ◌∷◌, ◌∙◌, sym}
use Rattle.cat_machine.proofs.Layering.{longer, nested_longer}
use Rattle.cat_machine.proofs.layers.Layers.push.Goals as goal

pub invariant_of-self-2 : goal.invariant_of-self-2
invariant_of-self-2 g c =
    rw c.in_ok-push.ensures.items
    (nested_longer c.self.inside.starts c.self.inside.items.items (c.args.item ∷ []) c.self.invariant
    (λ none. c.requires (sym c.self.view_is ∙ none)))

pub returns-clause-ok : goal.returns-clause-ok
returns-clause-ok g c =
    rw (c.in_ok-push.ensures.items, ← c.self.view_is)
    (longer c.self.inside.starts c.self.inside.items.items (c.args.item ∷ []) c.self.invariant
    (λ none. c.requires (sym c.self.view_is ∙ none)))
