use Rattle.std.proofs.Common.{◌≡◌, ◌++◌, drop, map, IsTrue}
use Rattle.std.specs.List.{list_all}
use Rattle.cat_region.specs.Regions.{is_dim}
use Rattle.cat_region.specs.Extents.{start}
use Rattle.cat_region.proofs.region.all_of.Given as goal

abbrev pub invariant-loop-dim : goal.invariant-loop-dim
invariant-loop-dim l =
    (l.left ++ map start (drop l.dim-index l.dims) ≡ map start l.dims)
    × IsTrue (list_all is_dim (drop l.dim-index l.dims))
