use Rattle.std.proofs.Common.{◌≡◌, ◌++◌, drop, string_bytes}
use Rattle.cat_table.specs.Conditions.{more_text}
use Rattle.cat_table.specs.inside.Here.{naming_at}
use Rattle.cat_table.proofs.lines.push_more.Given as goal

abbrev pub invariant-loop-answer : goal.invariant-loop-answer
invariant-loop-answer l =
    string_bytes l.text
    ++ more_text (naming_at l.here) l.here.table.now.terms l.here.table.now.atoms (drop l.answer-index l.answers)
    ≡ string_bytes l.fn.text ++ more_text (naming_at l.here) l.here.table.now.terms l.here.table.now.atoms l.answers
