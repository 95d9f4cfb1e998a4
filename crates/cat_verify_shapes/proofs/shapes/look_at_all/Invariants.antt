use Rattle.std.proofs.Common.{◌≡◌, ℕ, List, ◌++◌, drop, length}
use Rattle.cat_verify_shapes.specs.inside.States.{AreInOrder, IsState}
use Rattle.cat_verify_shapes.proofs.shapes.look_at_all.Given as goal

abbrev pub invariant-loop-place : goal.invariant-loop-place
invariant-loop-place l = record {
  looked : (left : List ℕ) → AreInOrder l.tables l.code (l.places ++ left)
      → IsState l.tables l.code l.fn.forms l.fn.found.items (length l.tables.decls.scopes) (l.places ++ left)
      → IsState l.tables l.code l.forms l.found.items (length l.tables.decls.scopes)
      (drop l.place-index l.places ++ left);
  long : length l.found.items ≡ length l.code;
}
