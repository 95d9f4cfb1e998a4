use Rattle.std.proofs.Common.{rules, codes, ◌∙◌}
use Rattle.std.specs.Str.Parse.{ParsesUnsigned, ExplainsUnsignedError, HasUnsignedDigitsIfOk}
use Rattle.clap.specs.Words.{found_of, rows_of, one_of}
use Rattle.clap.proofs.WalkLemmas.{one_text-rows}
use Rattle.cat_words.proofs.CasesRead.{cases_read}
use Rattle.cat_words.proofs.command_line.cases_of.Goals as goal

pub returns : goal.returns
returns c =
    let same = one_text-rows (found_of c.args.matches.now) (codes "cases") in
    cases_read (λ bs r. ParsesUnsigned 32 10 bs r × ExplainsUnsignedError 10 bs r × HasUnsignedDigitsIfOk bs r)
    (one_of (codes "cases") (rows_of (found_of c.args.matches.now))) c.get_one.result c.unwrap_or.result
    (λ u x g. g.0) c.requires (λ e. c.get_one.ensures.none (same ∙ e)) (λ t e. c.get_one.ensures.value t (same ∙ e))
    (search rules)
