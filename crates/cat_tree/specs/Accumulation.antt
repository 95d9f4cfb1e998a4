-- What `combine` binds.
use Rattle.cat_pos.specs.declared.pos.Pos.{Pos}
use Rattle.cat_tree.specs.declared.name.Name.{Name}
use Rattle.cat_tree.specs.declared.expression.Accumulation.{Accumulation}

-- the position of `combine`, the name of an element, and that of what was combined before
abbrev pub accumulation : Pos → Name → Name → Accumulation
accumulation pos element sum = record { pos = pos; element = element; sum = sum }
