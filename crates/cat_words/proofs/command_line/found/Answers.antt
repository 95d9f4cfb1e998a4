use Rattle.std.proofs.Common.{codes, ◌∙◌}
use Rattle.clap.specs.Words.{found_of}
use Rattle.clap.proofs.WalkLemmas.{first_value-rows}
use Rattle.cat_words.proofs.command_line.found.Goals as goal

pub returns-clause-asked : goal.returns-clause-asked
returns-clause-asked c =
    let f = found_of c.args.matches.now in
    let mode = c.get_str.ensures ∙ first_value-rows f (codes "MODE") in
    let scope = c.get_str-2.ensures ∙ first_value-rows f (codes "SCOPE") in
    let file = c.get_str-3.ensures ∙ first_value-rows f (codes "FILE") in
    let extra = c.get_str-4.ensures ∙ first_value-rows f (codes "EXTRA") in
    rw (← mode, ← scope, ← file, ← extra) c.line_of.ensures.asked
