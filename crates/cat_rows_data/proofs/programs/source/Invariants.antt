use Rattle.std.proofs.Common.{◌≡◌, ◌∷◌, replicate}
use Rattle.cat_scope.specs.declared.defs.SourcePart.TheVariants.{Declaration, Definition}
use Rattle.cat_rows_data.proofs.programs.source.Given as goal

abbrev pub invariant-loop : goal.invariant-loop
invariant-loop l = l.source ≡ Declaration ∷ replicate l.counter Definition
