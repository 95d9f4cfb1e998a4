use Rattle.std.proofs.Common.{◌∙◌, ap}
use Rattle.cat_scope.specs.Names.{is_in}
use Rattle.cat_check_forms.proofs.AllThere.{any_in}
use Rattle.cat_check_forms.proofs.number_set.NumberSet.has.Goals as goal

pub returns : goal.returns
returns c = c.contains.ensures ∙ any_in c.self.inside.numbers.keys c.args.number
    ∙ ap (is_in c.args.number) c.self.view_is
