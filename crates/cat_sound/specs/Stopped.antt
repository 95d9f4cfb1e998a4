-- Of what a called scope comes to a stop.
use Rattle.std.specs.Prelude.{◌≡◌, ℕ, false, IsTrue, List, Some, Err, slice_get}
use Rattle.cat_value.specs.declared.declaration.ItemDecl.{ItemDecl}
use Rattle.cat_value.specs.Inputs.{must_be_given}
use Rattle.cat_scope.specs.declared.stop.Stop.{Stop}
use Rattle.cat_scope.specs.declared.stop.Stop.TheVariants.{NoValue}
use Rattle.cat_scope.specs.Calls.{Items, Scoped, items_of, variable_of_called}
use Rattle.cat_scope.specs.ItemValues.{inner_judging}

-- item `item` calls the scope `called`, and `decl` declares it: a stop was met in the judging of an input or a context,
-- or in the run of the scope; or an input that is no condition is missing
pub data ComesOf (scoped : Scoped) (before : List ℕ) (values : Items) (item called : ℕ) (decl : ItemDecl)
    (stop : Stop) : Type 0 where
  judging : (n : ℕ) → (inner_judging scoped before values item n).end ≡ Err stop
      → ComesOf scoped before values item called decl stop
  running : (input : Items) → (scoped.runs called input).end ≡ Err stop
      → ComesOf scoped before values item called decl stop
  missing : (n : ℕ) (inner : ItemDecl) → slice_get (items_of scoped called) n ≡ Some inner
      → IsTrue (must_be_given inner.kind) → inner.condition ≡ false
      → stop ≡ NoValue (variable_of_called scoped item n) decl.pos
      → ComesOf scoped before values item called decl stop
