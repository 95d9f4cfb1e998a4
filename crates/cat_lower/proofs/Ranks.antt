-- Who calls whom: each call goes to a scope that stands in front in the order of the scopes, or to a function that
-- stands in front in the order of its scope; and what a function begins with.
use Rattle.std.proofs.Common.{◌≡◌, ◌<◌, ℕ, nat_eq, nat_lt, ◌&&◌, ◌||◌, Bool, true, false, true≢false, IsTrue, List}
use Rattle.std.proofs.Common.{[], length, map, Option, Some, None, slice_get, sym, ap, ◌∙◌, arith}
use Rattle.std.proofs.lemmas.Bool.Decides.{nat_tests}
use Rattle.cat_value.specs.declared.decls.Decls.{Decls}
use Rattle.cat_scope.specs.Names.{scope_items}
use Rattle.cat_calc.specs.declared.calcs.CalcScope.{CalcScope}
use Rattle.cat_code.specs.Forms.{form_of}
use Rattle.cat_code.specs.Shapes.{Owner, Shape}
use Rattle.cat_code.specs.Places.{FunctionPlace, function_places}
use Rattle.cat_code.specs.Shaped.{scope_entry}
use Rattle.cat_lower.specs.Pieces.{index_of}
use Rattle.cat_lower.proofs.FilledSlots.{filled_from, in_front_of}

-- the order of the items of a scope
abbrev pub order_in : Option CalcScope → List ℕ
order_in None = []
order_in (Some terms) = terms.order

abbrev pub order_of : List CalcScope → ℕ → List ℕ
order_of scopes n = order_in (slice_get scopes n)

-- where a function stands in the order of its scope
abbrev pub place_rank : List CalcScope → Option FunctionPlace → ℕ
place_rank scopes None = 0
place_rank scopes (Some place) = index_of place.item (order_of scopes place.scope)

-- a scope's body stands behind all its items
abbrev pub rank_by : Decls → List CalcScope → ℕ → Option ℕ → ℕ
rank_by ds scopes n None = length (order_of scopes n)
rank_by ds scopes n (Some f) = place_rank scopes (slice_get (function_places ds) f)

abbrev pub local_rank : Decls → List CalcScope → Owner → ℕ
local_rank ds scopes owner = rank_by ds scopes owner.scope owner.function

-- whether one pair of numbers is before another
abbrev pub is_before : ℕ → ℕ → ℕ → ℕ → Bool
is_before a b c d = nat_lt a c || (nat_eq a c && nat_lt b d)

before_then : (a b c d e f : ℕ) → is_before a b c d ≡ true → is_before c d e f ≡ true → is_before a b e f ≡ true
before_then a b c d e f one two = grind (arith, nat_tests)

not_before : (a b : ℕ) → is_before a b a b ≡ true → ⊥
not_before a b so = true≢false (sym so ∙ by)
  where
    by : is_before a b a b ≡ false
    by = grind (arith, nat_tests)

module _ (ds : Decls) (scopes : List CalcScope) (scope_order : List ℕ) where
  -- a call goes to what stands in front
  abbrev pub Calls : Owner → Owner → Type 0
  Calls caller called =
      IsTrue (is_before (index_of called.scope scope_order) (local_rank ds scopes called)
      (index_of caller.scope scope_order) (local_rank ds scopes caller))

  pub calls_further : (a b c : Owner) → Calls a b → Calls b c → Calls a c
  calls_further a b c one two =
      before_then (index_of c.scope scope_order) (local_rank ds scopes c) (index_of b.scope scope_order)
      (local_rank ds scopes b)
      (index_of a.scope scope_order) (local_rank ds scopes a) two one

  pub none_itself : (a : Owner) → Calls a a → ⊥
  none_itself a so = not_before (index_of a.scope scope_order) (local_rank ds scopes a) so

  -- a scope that stands in front
  pub calls_scope : (caller : Owner) (s : ℕ) → index_of s scope_order < index_of caller.scope scope_order
      → Calls caller (record { scope = s; function = None })
  calls_scope caller s less = lower _ _ _ _ less
    where
      lower : (a b c d : ℕ) → a < c → is_before a b c d ≡ true
      lower a b c d less = grind (arith, nat_tests)

  -- a function that stands in front in its scope
  pub calls_function : (caller : Owner) (f : ℕ)
      → local_rank ds scopes (record { scope = caller.scope; function = Some f }) < local_rank ds scopes caller
      → Calls caller (record { scope = caller.scope; function = Some f })
  calls_function caller f less =
      lower (index_of caller.scope scope_order)
      (local_rank ds scopes (record { scope = caller.scope; function = Some f })) (local_rank ds scopes caller) less
    where
      lower : (a b d : ℕ) → b < d → is_before a b a d ≡ true
      lower a b d less = grind (arith, nat_tests)

  -- what a function begins with
  abbrev pub function_shape : ℕ → FunctionPlace → Shape
  function_shape f place = record {
    owner = record { scope = place.scope; function = Some f };
    operands = [];
    locals = map (form_of ds) place.decl.params;
    filled = filled_from 0 (scope_items ds place.scope) (in_front_of place.item (order_of scopes place.scope));
    defaults = [];
    loops = [];
    pending = [];
  }

  abbrev pub entry_by : ℕ → Option FunctionPlace → Shape
  entry_by f None = scope_entry 0 []
  entry_by f (Some place) = function_shape f place

  abbrev pub entry : ℕ → Shape
  entry f = entry_by f (slice_get (function_places ds) f)

  pub entry_is : (f : ℕ) (place : FunctionPlace) → slice_get (function_places ds) f ≡ Some place
      → entry f ≡ function_shape f place
  entry_is f place is = ap (entry_by f) is
