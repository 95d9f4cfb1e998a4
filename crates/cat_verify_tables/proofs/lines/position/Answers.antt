use Rattle.std.proofs.Common.{◌∙◌, sym, ap}
use Rattle.cat_image.specs.Listed.{pos_words}
use Rattle.cat_verify_tables.proofs.PlaceLemmas.{file_below, column_below, place_told}
use Rattle.cat_verify_tables.proofs.lines.position.Goals as goal

pub new-requires-clause-file : goal.new-requires-clause-file
new-requires-clause-file c =
    file_below c.args.files c.args.pos (sym c.is_found.ensures ∙ c.if-not-is_found.false)

pub new-requires-clause-column : goal.new-requires-clause-column
new-requires-clause-column c =
    column_below c.args.files c.args.pos (sym c.is_found.ensures ∙ c.if-not-is_found.false)

pub returns-clause-words : goal.returns-clause-words
returns-clause-words c =
    ap pos_words c.new.ensures
    ∙ place_told c.args.files c.args.pos (sym c.is_found.ensures ∙ c.if-not-is_found.false)
