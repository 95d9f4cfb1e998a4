use Rattle.std.proofs.Common.{◌≡◌, ◌∙◌, sym, arith, false, length}
use Rattle.std.specs.Prelude.{nat_lt}
use Rattle.std.proofs.lemmas.Bool.Decides.{nat_tests}
use Rattle.cat_image.proofs.TypeLemmas.{followed_last, followed_short}
use Rattle.cat_image.proofs.words.is_followed.Goals as goal

pub returns-then-word-gt1 : goal.returns-then-word-gt1
returns-then-word-gt1 c = followed_last c.args.word.now c.if-word-gt1.true

pub returns-else-word-gt1 : goal.returns-else-word-gt1
returns-else-word-gt1 c =
    let short = c.if-word-gt1.false in
    let test : nat_lt 1 (length c.args.word.now) ≡ false = grind (arith, nat_tests) in
    test ∙ sym (followed_short c.args.word.now short)
