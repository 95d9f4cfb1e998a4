use Rattle.std.proofs.Common.{◌∙◌, ap, sym}
use Rattle.cat_verify_tables.specs.inside.PlainWords.{begins_plainly}
use Rattle.cat_verify_tables.proofs.PlainValues.{plainly_parsed}
use Rattle.cat_verify_tables.proofs.plain_values.plain_number.Goals as goal

pub returns-in-Ok : goal.returns-in-Ok
returns-in-Ok c =
    plainly_parsed c.args.text.now c.in-Ok.number c.parse.result c.parse.ensures.value.0
    (ap begins_plainly (sym c.as_bytes.ensures.value) ∙ sym c.begins_plainly.ensures ∙ c.if-not-begins_plainly.false)
    c.in-Ok.is
