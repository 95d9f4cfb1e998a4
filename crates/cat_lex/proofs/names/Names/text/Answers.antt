use Rattle.std.proofs.Common.{◌≡◌, sym, ap, ◌∙◌}
use Rattle.std.specs.Option.{option_copied}
use Rattle.cat_lex.proofs.Named.{met_is, told_more}
use Rattle.cat_lex.proofs.names.Names.text.Goals as goal

pub returns-in-Some : goal.returns-in-Some
returns-in-Some c =
    let is : c.in-Some.met.now ≡ c.args.name.now =
    met_is c.self.inside.met c.args.name c.in-Some.met.now c.self.invariant
    (sym c.get.ensures.value ∙ ap option_copied c.in-Some.is) in
    rw (← is) c.copy.ensures

pub invariant_of-self-2 : goal.invariant_of-self-2
invariant_of-self-2 c =
    told_more c.self.inside.met c.insert.new.self c.args.name c.in_ok-copy.field-0 c.self.invariant
    c.in_ok-insert.ensures.updates.0 (c.in_ok-copy.ensures ∙ c.in_ok-text.ensures)
