use Rattle.std.proofs.Common.{◌∙◌, sym}
use Rattle.cat_value.specs.Inputs.{outputs_in}
use Rattle.cat_check_names.proofs.Finding.{named_at}
use Rattle.cat_check_names.proofs.FirstOutputs.{numbers_within, output_at, item_within}
use Rattle.cat_check_names.proofs.lookups.output_in.Goals as goal

pub at-item-requires : goal.at-item-requires
at-item-requires c =
    numbers_within c.args.items.now (outputs_in c.args.items.now) c.args.outputs.now.items c.in-Some.number
    c.requires.numbers (named_at (λ i. i.name) c.args.name.now (outputs_in c.args.items.now) c.in-Some.number
    (sym (c.requires.names c.args.name.now) ∙ sym c.number.ensures ∙ c.in-Some.is)).within

pub at-requires : goal.at-requires
at-requires c =
    item_within c.args.items.now (outputs_in c.args.items.now) c.args.outputs.now.items c.in-Some.number
    c.at-item.result.now c.requires.numbers c.at-item.ensures
    (named_at (λ i. i.name) c.args.name.now (outputs_in c.args.items.now) c.in-Some.number
    (sym (c.requires.names c.args.name.now) ∙ sym c.number.ensures ∙ c.in-Some.is)).within

pub returns-in-Some : goal.returns-in-Some
returns-in-Some c =
    sym ((named_at (λ i. i.name) c.args.name.now (outputs_in c.args.items.now) c.in-Some.number
    (sym (c.requires.names c.args.name.now) ∙ sym c.number.ensures ∙ c.in-Some.is)).named c.at.result.now
    (sym (output_at c.args.items.now (outputs_in c.args.items.now) c.args.outputs.now.items c.in-Some.number
    c.at-item.result.now c.requires.numbers c.at-item.ensures) ∙ c.at.ensures))
