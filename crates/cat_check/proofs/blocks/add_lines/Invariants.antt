use Rattle.std.proofs.Common.{◌≡◌, ◌++◌, take}
use Rattle.std.specs.Prelude.{flat_map}
use Rattle.cat_names.specs.ScopeWords.{use_words}
use Rattle.cat_check.proofs.blocks.add_lines.Given as goal

abbrev pub invariant-loop-line : goal.invariant-loop-line
invariant-loop-line l = l.words ≡ l.fn.words ++ flat_map use_words (take l.line-index l.lines)
