-- The types that expressions may have.
use Rattle.std.specs.Prelude.{ℕ, IsTrue}
use Rattle.cat_value.specs.declared.ty.Ty.{Ty}
use Rattle.cat_value.specs.declared.decls.Decls.{Decls}
use Rattle.cat_value.specs.Typing.{is_type}
use Rattle.cat_scope.specs.Names.{Names, scope_items}
use Rattle.cat_scope.specs.Fitting.{is_low_type}

-- a type that is declared, and no higher than types may be
pub record IsLow (ds : Decls) (t : Ty) : Type 0 where
  pub declared : IsTrue (is_type ds t)
  pub low : IsTrue (is_low_type ds t)

-- what names stand for in the scope of that number
abbrev pub names_at : Decls → ℕ → Names
names_at ds scope = record { decls = ds; items = scope_items ds scope }
