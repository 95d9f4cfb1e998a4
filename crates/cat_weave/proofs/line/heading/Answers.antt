use Rattle.std.proofs.Common.{◌∙◌, sym}
use Rattle.cat_weave.proofs.LineLemmas.{heading_cut}
use Rattle.cat_weave.proofs.line.heading.Goals as goal

pub range_from-requires : goal.range_from-requires
range_from-requires c _ =
    let level = c.level_of-level.result in
    let tested = sym c.is_heading.ensures ∙ c.if-not-is_heading.false in
    heading_cut c.args.line.now level c.utf8.line (rw c.as_bytes-bytes.ensures.value at tested)
