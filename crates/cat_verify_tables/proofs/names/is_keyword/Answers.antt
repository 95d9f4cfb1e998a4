use Rattle.std.proofs.Common.{sym, ap, arith}
use Rattle.std.specs.Prelude.{is_some}
use Rattle.cat_verify_tables.proofs.WordLemmas.{long_word}
use Rattle.cat_verify_tables.proofs.names.is_keyword.Goals as goal

pub returns-then-text-gt-LONGEST_KEYWORD : goal.returns-then-text-gt-LONGEST_KEYWORD
returns-then-text-gt-LONGEST_KEYWORD c =
    let test = c.if-text-gt-LONGEST_KEYWORD.true in
    sym (ap is_some (long_word c.args.text.now (omega (arith, test))))
