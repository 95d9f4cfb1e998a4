use Rattle.std.proofs.Common.{◌≡◌, drop}
use Rattle.cat_weave.specs.Gathered.{is_among}
use Rattle.cat_weave.proofs.gatherer.is_taken.Given as goal

-- no name so far is this one
abbrev pub invariant-loop-file : goal.invariant-loop-file
invariant-loop-file l = is_among l.name (drop l.file l.files) ≡ is_among l.name l.files
