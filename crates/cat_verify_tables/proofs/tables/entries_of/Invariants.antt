use Rattle.std.proofs.Common.{◌≡◌, ◌++◌, drop, map}
use Rattle.cat_image.specs.declared.tables.ImageScope.{ImageScope}
use Rattle.cat_verify_tables.proofs.tables.entries_of.Given as goal

abbrev pub invariant-loop-scope : goal.invariant-loop-scope
invariant-loop-scope l =
    l.entries ++ map (λ (s : ImageScope). s.entry) (drop l.scope-index l.scopes)
    ≡ map (λ (s : ImageScope). s.entry) l.scopes
