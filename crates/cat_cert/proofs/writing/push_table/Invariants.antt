use Rattle.std.proofs.Common.{◌≡◌, ◌++◌, List, map, drop, string_bytes}
use Rattle.cat_guard.specs.declared.tree.CitedTree.{CitedTree}
use Rattle.cat_cert.specs.Lines.{Due, TargetDue, due_lines}
use Rattle.cat_cert.specs.Texts.{text_of}
use Rattle.cat_cert.proofs.writing.push_table.Given as goal

abbrev pub invariant-loop-at : goal.invariant-loop-at
invariant-loop-at l =
    (more : List Due) (rest : List CitedTree)
    → string_bytes l.text
    ++ text_of (due_lines l.version (map TargetDue (drop l.at l.table.targets) ++ more) (drop l.at l.trees ++ rest))
    ≡ string_bytes l.initial.text ++ text_of (due_lines l.version (map TargetDue l.table.targets ++ more)
    (l.trees ++ rest))
