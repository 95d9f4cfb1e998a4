use Rattle.std.proofs.Common.{◌∙◌, sym}
use Rattle.cat_cert.proofs.TextReadLemmas.{heading_found, no_heading, begun_length}
use Rattle.cat_cert.proofs.line.is_heading.Goals as goal

pub is_rest-requires : goal.is_rest-requires
is_rest-requires c = begun_length c.args.line.now c.args.word.now (sym c.begins.ensures ∙ c.if-not-begins.false)

pub returns-then-not-begins : goal.returns-then-not-begins
returns-then-not-begins c =
    no_heading c.args.line.now c.args.word.now c.args.name.now (sym c.begins.ensures ∙ c.if-not-begins.true)

pub returns : goal.returns
returns c =
    c.is_rest.ensures
    ∙ heading_found c.args.line.now c.args.word.now c.args.name.now (sym c.begins.ensures ∙ c.if-not-begins.false)
