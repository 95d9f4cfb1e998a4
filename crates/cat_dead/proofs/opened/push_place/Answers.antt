use Rattle.std.proofs.Common.{◌++◌, ◌∙◌, sym, ap, append-nil}
use Rattle.cat_dead.specs.Winners.{place_of}
use Rattle.cat_dead.proofs.opened.push_place.Goals as goal

pub returns-in-None : goal.returns-in-None
returns-in-None c =
    sym (append-nil c.args.won.now) ∙ ap (λ o. c.args.won.now ++ place_of o) c.in-None.ensures.value
