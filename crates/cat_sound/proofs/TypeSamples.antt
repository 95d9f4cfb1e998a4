-- Samples that meet the premises of the laws of types.
use Rattle.std.proofs.Common.{◌≡◌, nat_le, false, IsTrue, [], ◌∷◌, Some, refl, ap, rules, arith}
use Rattle.cat_value.specs.declared.ty.Ty.{Ty}
use Rattle.cat_value.specs.declared.ty.Ty.TheVariants as flat
use Rattle.cat_value.specs.declared.ty.Ty.TheViews as ty
use Rattle.cat_value.specs.Declarations.{highest}
use Rattle.cat_value.specs.Laws.{height_of}
use Rattle.cat_value.specs.Typing.{is_type}
use Rattle.cat_value.specs.Entries.{content_of}
use Rattle.cat_value.proofs.Exported.{declared, height_List, height_Integer, pair, choice, sample}
use Rattle.cat_scope.specs.declared.expr.Expr.{Expr}
use Rattle.cat_scope.specs.declared.expr.Expr.TheVariants as leaf
use Rattle.cat_scope.specs.declared.expr.Expr.TheViews as expr
use Rattle.cat_scope.specs.Names.{AllHave, Names}
use Rattle.cat_scope.specs.Fitting.{is_low_type}
use Rattle.cat_scope.specs.HasType.{HasType}
use Rattle.cat_scope.specs.HasType as typed
use Rattle.cat_scope.specs.Expected.{lists_placed}
use Rattle.cat_scope.specs.Naming.{IsTargetAt}
use Rattle.cat_scope.proofs.Exported.{placings}
use Rattle.cat_scope.proofs.Samples.{at, n_above}
use Rattle.cat_sound.specs.LowTypes.{IsLow, names_at}
use Rattle.cat_sound.proofs.OneType.{one_type_alone}
use Rattle.cat_sound.proofs.WellFormedCalls.{decls, s_names, n_above_zero_typed, x_of_t}

-- ---- one type

-- `n > 0` is a boolean, and nothing else
a_comparison_is_a_boolean : (u : Ty) → HasType s_names [] (n_above 0) u → flat.Boolean ≡ u
a_comparison_is_a_boolean u is =
    one_type_alone s_names [] (n_above 0) flat.Boolean u n_above_zero_typed is (search (rules, placings))

-- `[]` is a list of whatever is expected, and so may not stand where nothing is
abbrev nothing : Expr
nothing = expr.List (at 1 1) []

nothing_is_a_list_of_each_type : (names : Names) (t : Ty) → IsTrue (is_type names.decls t)
    → IsTrue (is_low_type names.decls (ty.List t)) → HasType names [] nothing (ty.List t)
nothing_is_a_list_of_each_type names t declared low = typed.list declared low refl typed.all_none

nothing_stands_not_alone : lists_placed nothing false ≡ false
nothing_stands_not_alone = search (rules, placings)

-- ---- low types

integers_are_two_high : height_of sample (ty.List flat.Integer) ≡ 2
integers_are_two_high =
    omega (
      arith,
      height_List (pair [] [] []) (choice [] [] []) 63 flat.Integer,
      height_Integer (pair [] [] [])
          (choice [] [] []) 62,
    )

integers_are_low : IsLow sample (ty.List flat.Integer)
integers_are_low = record {
  declared = search (rules, declared);
  low = ap (λ height. nat_le height highest) integers_are_two_high;
}

-- the first case with a local name of that type
a_case_of_integers : HasType (names_at sample 0) (ty.List flat.Integer ∷ [])
    (expr.Case (at 1 1) 0 0 (Some (leaf.Local (at 1 2) 0))) (flat.Enumeration 0)
a_case_of_integers = typed.case_with (ty.List flat.Integer) refl (typed.local refl)

its_local_is_low : AllHave (IsLow sample) (ty.List flat.Integer ∷ [])
its_local_is_low = (integers_are_low, tt)

its_content : content_of sample 0 0 ≡ Some (Some (ty.List flat.Integer))
its_content = refl

-- the context of the called scope
its_target : IsTargetAt (names_at decls 1) 1 (Some 0) [] flat.Integer
its_target = x_of_t
