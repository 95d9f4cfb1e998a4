use Rattle.std.proofs.Common.{◌∙◌, ◌||◌, ℕ, List, not, nat_eq, ap}
use Rattle.cat_scope.specs.Names.{is_in}
use Rattle.cat_check_forms.proofs.AllThere.{any_in, added_in}
use Rattle.cat_check_forms.proofs.number_set.NumberSet.add.Goals as goal

pub returns-clause-fresh : goal.returns-clause-fresh
returns-clause-fresh c = c.in_ok-insert.ensures.added
    ∙ ap not (any_in c.self.inside.numbers.keys c.args.number ∙ ap (is_in c.args.number) c.self.view_is)

pub returns-clause-added : goal.returns-clause-added
returns-clause-added c k =
    added_in c.self.inside.numbers.keys c.insert.new.self.keys c.args.number c.in_ok-insert.ensures.updates.0 k
    ∙ ap (λ (ns : List ℕ). nat_eq k c.args.number || is_in k ns) c.self.view_is
