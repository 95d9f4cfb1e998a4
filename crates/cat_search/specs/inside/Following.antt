-- Answers from the first on.
use Rattle.std.specs.Prelude.{List, [], ◌∷◌}
use Rattle.cat_region.specs.Regions.{Constraints}
use Rattle.cat_guard.specs.declared.table.Atom.{Atom}
use Rattle.cat_guard.specs.Trees.{answering}
use Rattle.cat_search.specs.declared.way.Answer.{Answer}

-- what answers leave of a region, of which the first one stands first
abbrev pub following : List Atom → Constraints → List Answer → Constraints
following atoms region [] = region
following atoms region (n ∷ ns) = following atoms (answering atoms region n.atom n.yes) ns

-- a region without room
abbrev pub roomless : Constraints → Constraints
roomless region = record { dims = region.dims; narrowings = region.narrowings; room = 0 }
