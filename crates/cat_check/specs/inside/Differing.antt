-- Roundings that differ from one.
use Rattle.std.specs.Prelude.{Bool, false, true, List, [], ◌∷◌, if◌then◌else◌}
use Rattle.cat_pos.specs.declared.pos.Pos.{Pos}
use Rattle.cat_names.specs.Bodies.{differ}

-- whether any of some differs from one
abbrev pub any_differs : Pos × Bool → List (Pos × Bool) → Bool
any_differs first [] = false
any_differs first (r ∷ rs) = if differ r first then true else any_differs first rs
