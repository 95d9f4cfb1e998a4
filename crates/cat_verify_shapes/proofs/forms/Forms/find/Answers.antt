use Rattle.std.proofs.Common.{rules, ◌≡◌, ◌∙◌, Some, slice_get, subst, sym, ℕ}
use Rattle.cat_verify_shapes.proofs.KeyLemmas.{found_at}
use Rattle.cat_verify_shapes.proofs.forms.Forms.find.Goals as goal

pub returns : goal.returns
returns c =
    let number : c.in-Ok.number ≡ c.in-Some.index = search rules in
    subst (λ (n : ℕ). slice_get c.args.self.now.kinds.keys n ≡ Some c.args.form) (sym number)
    (found_at c.args.self.now.kinds.keys c.args.form c.in-Some.index
    (sym c.get_index_of.ensures.index ∙ c.in-Some.is))
