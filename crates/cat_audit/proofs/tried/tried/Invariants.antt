use Rattle.std.proofs.Common.{◌≡◌, [], None, true, false, drop, take, slice_get}
use Rattle.std.specs.Prelude.{IfSome}
use Rattle.cat_search.specs.Ways.{way_from}
use Rattle.cat_audit.specs.inside.Hanging.{IsQuiet}
use Rattle.cat_audit.proofs.TriedLemmas.{IsTrying, one_found}
use Rattle.cat_audit.proofs.tried.tried.Given as goal

-- where the way is, and what the leaves that are left come to with the best finding so far
abbrev pub invariant-loop-leaf : goal.invariant-loop-leaf
invariant-loop-leaf l = record {
  way_is : l.way ≡ way_from [] (take l.at l.nodes);
  trying : IfSome (slice_get l.table.targets l.target)
      (λ t. IsTrying l.program l.table t l.nodes l.at l.best (drop l.leaf-index l.bad) l.bad);
  unfound : one_found l.best ≡ false;
  none : l.best ≡ None → l.leaf-index ≡ 0;
  quiet : l.default_is_run ≡ true → IsQuiet l.program l.table × (l.best ≡ None → ⊥);
}
