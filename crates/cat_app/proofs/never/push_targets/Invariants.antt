use Rattle.std.proofs.Common.{◌≡◌, ◌++◌, drop, string_bytes}
use Rattle.cat_app.specs.inside.Beside.{lines_beside}
use Rattle.cat_app.proofs.never.push_targets.Given as goal

abbrev pub invariant-loop-target : goal.invariant-loop-target
invariant-loop-target l = string_bytes l.text ++ lines_beside l.files (drop l.target-index l.targets) l.dead
    ≡ string_bytes l.fn.text ++ lines_beside l.files l.targets l.fn.dead
