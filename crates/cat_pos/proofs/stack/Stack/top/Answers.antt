use Rattle.std.proofs.Common.{◌≡◌, reverse, slice_get, sym, ap, ◌∙◌, rules}
use Rattle.cat_pos.proofs.StackLemmas.{top_is}
use Rattle.cat_pos.proofs.stack.Stack.top.Goals as goal

pub returns : goal.returns
returns g c =
    let seen : reverse c.self.inside.entries ≡ c.args.self.now = search rules in
    c.last.ensures.value ∙ sym (top_is c.as_slice.result.now)
    ∙ ap (λ xs. slice_get (reverse xs) 0) c.as_slice.ensures ∙ ap (λ xs. slice_get xs 0) seen
