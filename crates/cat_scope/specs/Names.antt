-- What names stand for, and which types what they name has.
use Rattle.std.specs.Prelude.{◌≡◌, ◌⊎◌, ℕ, zero, suc, ◌+◌, ◌&&◌, nat_eq, Bool, true, false, not, List, [], ◌∷◌, Option}
use Rattle.std.specs.Prelude.{Some, None, slice_get, if◌then◌else◌}
use Rattle.cat_value.specs.declared.decls.Decls.{Decls}
use Rattle.cat_value.specs.declared.declaration.ItemDecl.{ItemDecl}
use Rattle.cat_value.specs.declared.declaration.Scope.{Scope}
use Rattle.cat_value.specs.Inputs.{must_be_given, outputs_in}
pub use Rattle.cat_value.specs.Inputs.{is_called, has_none, is_plain, is_function}

-- the items of a scope
abbrev pub items_in : Option Scope → List ItemDecl
items_in None = []
items_in (Some scope) = scope.items

-- each element has a property
abbrev pub AllHave : {A : Type 0} → (A → Type 0) → List A → Type 0
AllHave Has [] = Unit {0}
AllHave Has (x ∷ xs) = Has x × AllHave Has xs

-- x is one of a list
abbrev pub IsOneOf : {A : Type 0} → A → List A → Type 0
IsOneOf x [] = ⊥
IsOneOf x (y ∷ ys) = (x ≡ y) ⊎ IsOneOf x ys

-- what names stand for: the declarations of the program, and the items of the scope
pub record Names : Type 0 where
  pub decls : Decls
  pub items : List ItemDecl

-- the items of the scope of that number
abbrev pub scope_items : Decls → ℕ → List ItemDecl
scope_items ds scope = items_in (slice_get ds.scopes scope)

-- output k of the scope of that number
abbrev pub output_at : Decls → ℕ → ℕ → Option ItemDecl
output_at ds scope k = slice_get (outputs_in (scope_items ds scope)) k

-- n is one of some numbers
abbrev pub is_in : ℕ → List ℕ → Bool
is_in n [] = false
is_in n (m ∷ ms) = if nat_eq n m then true else is_in n ms

-- no number is there twice
abbrev pub all_differ : List ℕ → Bool
all_differ [] = true
all_differ (n ∷ ns) = not (is_in n ns) && all_differ ns

-- each number below a bound is in a list
abbrev pub are_all_in : ℕ → List ℕ → Bool
are_all_in zero ns = true
are_all_in (suc n) ns = is_in n ns && are_all_in n ns

-- each input of a scope that is no condition is given, from number n on
abbrev pub inputs_given : ℕ → List ItemDecl → List ℕ → Bool
inputs_given n [] fields = true
inputs_given n (item ∷ items) fields =
    (if must_be_given item.kind && not item.condition then is_in n fields else true)
    && inputs_given (n + 1) items fields
