use Rattle.std.proofs.Common.{◌∙◌, ap, sym}
use Rattle.cat_image.specs.inside.Names.{begins_with_digit, look_up, row_kinds}
use Rattle.cat_image.proofs.KindLemmas.{no_kind_begun}
use Rattle.cat_image.proofs.names.row_kind.Goals as goal

pub returns-then-begins_with_digit : goal.returns-then-begins_with_digit
returns-then-begins_with_digit c =
    let same = ap begins_with_digit (sym c.as_bytes-bytes.ensures.value) in
    sym (no_kind_begun c.args.word.now (same ∙ sym c.begins_with_digit.ensures ∙ c.if-begins_with_digit.true))

pub returns : goal.returns
unfolding row_kinds
returns c = c.look_up.ensures ∙ ap (look_up row_kinds) c.as_bytes-bytes.ensures.value
