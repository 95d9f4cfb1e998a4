use Rattle.std.proofs.Common.{◌≡◌, ◌++◌, drop}
use Rattle.cat_names.specs.Written.{scopes_in, names_of, positions}
use Rattle.cat_check.proofs.outline.scope_positions.Given as goal

abbrev pub invariant-loop-item : goal.invariant-loop-item
invariant-loop-item l =
    l.found ++ positions (names_of (scopes_in (drop l.item-index l.items))) ≡ positions (names_of (scopes_in l.items))
