use Rattle.std.proofs.Common.{◌∙◌, sym}
use Rattle.cat_check_names.proofs.Finding.{named_at}
use Rattle.cat_check_names.proofs.named.found.Goals as goal

pub at-requires : goal.at-requires
at-requires g c =
    (named_at g.T.Named.name_of c.args.name.now c.args.things.now c.in-Some.number
    (sym (c.requires c.args.name.now) ∙ sym c.number.ensures ∙ c.in-Some.is)).within

pub returns-in-Some : goal.returns-in-Some
returns-in-Some g c =
    sym ((named_at g.T.Named.name_of c.args.name.now c.args.things.now c.in-Some.number
    (sym (c.requires c.args.name.now) ∙ sym c.number.ensures ∙ c.in-Some.is)).named c.at.result.now c.at.ensures)
