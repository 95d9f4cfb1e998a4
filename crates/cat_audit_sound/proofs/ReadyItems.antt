-- What the items that are done have in an environment, functions too, which call only what stands before them.
use Rattle.std.proofs.Common.{◌≡◌, ℕ, true, IsTrue, List, []}
use Rattle.std.proofs.Common.{Some, None, slice_get, refl}
use Rattle.cat_value.specs.declared.value.Value.{Value}
use Rattle.cat_value.specs.declared.decls.Decls.{Decls}
use Rattle.cat_value.specs.declared.declaration.Kind.TheVariants as kind
use Rattle.cat_value.specs.declared.declaration.ItemDecl.{ItemDecl}
use Rattle.cat_scope.specs.Runs.{Run}
use Rattle.cat_scope.specs.Names.{Names, AllHave}
use Rattle.cat_scope.specs.Naming.{is_defined}
use Rattle.cat_scope.specs.Calls.{Items, Scoped, variable, env_of, judging_of}
use Rattle.cat_sound.specs.Endings.{EndsIn, AreOf, IsReady}
use Rattle.cat_sound.specs.Settled.{IsHeldOf}
use Rattle.cat_sound.proofs.Exported.{IsSound, anything}
use Rattle.cat_sound.proofs.Exported.{names_of}

module _ (ds : Decls) (scoped : Scoped) (needs : ℕ → List ℕ) (sound : IsSound anything ds scoped needs) where
  abbrev ns : Names
  ns = names_of ds scoped

  pub own_judged : (calls : ℕ → List Value → Run Value) (values : Items) (arguments : List Value) (item : ℕ)
      (decl : ItemDecl)
      → slice_get scoped.items item ≡ Some decl → IsTrue (is_defined decl) → AreOf ds decl.params arguments
      → AllHave (IsReady anything ns (env_of scoped calls values)) (needs item)
      → EndsIn anything (IsHeldOf true ds decl.ty) (judging_of scoped calls values arguments (variable scoped item))
  own_judged calls values arguments item decl is defined are ready =
      (sound.judged calls values arguments item None decl.params decl.ty
      (record { decl = decl; decl_is = is; defined = defined; params_are = refl; ty_is = refl }) are ready).ends
