use Rattle.std.proofs.Common.{◌≡◌, drop}
use Rattle.cat_region.specs.Chosen.{point_at}
use Rattle.cat_guard.specs.declared.table.InputPath.{InputPath}
use Rattle.cat_audit_sound.specs.PointInputs.{point_from}
use Rattle.cat_audit_sound.specs.inside.PointTables.{earlier, found_in}
use Rattle.cat_audit_sound.proofs.points.points_of.Given as goal

-- the points of the terms so far stand before those of the others
abbrev pub invariant-loop-number : goal.invariant-loop-number
invariant-loop-number l = (path : InputPath)
    → earlier (found_in l.points path) (point_from (point_at l.region) l.number (drop l.number l.terms) path)
    ≡ point_from (point_at l.region) 0 l.terms path
