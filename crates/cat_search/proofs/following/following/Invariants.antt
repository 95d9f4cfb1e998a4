use Rattle.std.proofs.Common.{◌≡◌, ◌+◌, drop, length}
use Rattle.cat_search.specs.Searched.{everything}
use Rattle.cat_guard.specs.Valuations.{dims_of}
use Rattle.cat_search.specs.inside.Following.{following, roomless}
use Rattle.cat_search.proofs.following.following.Given as goal

abbrev pub invariant-loop-atom : goal.invariant-loop-atom
invariant-loop-atom l = record {
  dims : l.region.dims ≡ dims_of l.table.terms;
  room : l.region.room + l.atom-index ≡ length l.answers;
  same : following l.table.atoms (roomless l.region) (drop l.atom-index l.answers)
      ≡ following l.table.atoms (everything l.table.terms) l.answers;
}
