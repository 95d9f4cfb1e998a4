use Rattle.std.proofs.Common.{◌≡◌, ◌∙◌, IfOk, sym, ap, subst}
use Rattle.cat_scope.specs.declared.expr.Expr.TheViews as expr
use Rattle.cat_lower.proofs.TypesOf.{told_Literal, told_Unary, told_Binary, told_And, told_Or, told_IsCase, told_Case}
use Rattle.cat_lower.proofs.TypesOf.{told_Structure, told_ForAll, told_Exists, told_Contains, told_Length, told_Sum}
use Rattle.cat_lower.proofs.TypesOf.{told_Field, told_Match, told_Map}
use Rattle.cat_lower.proofs.types.+typing.Goals as goal

pub type_of-returns-in-Literal-clause-ty : goal.type_of-returns-in-Literal-clause-ty
type_of-returns-in-Literal-clause-ty t c = c.literal_ty.ensures ∙ told_Literal _ _ _ _ _ _ c.in-Literal.is

pub type_of-returns-in-Unary-clause-ty : goal.type_of-returns-in-Unary-clause-ty
type_of-returns-in-Unary-clause-ty t c = c.given.ensures ∙ told_Unary _ _ _ _ _ _ _ c.in-Unary.is

pub type_of-returns-in-Binary-clause-ty : goal.type_of-returns-in-Binary-clause-ty
type_of-returns-in-Binary-clause-ty t c = c.result_type.ensures ∙ told_Binary _ _ _ _ _ _ _ _ _ c.in-Binary.is

pub type_of-returns-in-And-clause-ty : goal.type_of-returns-in-And-clause-ty
type_of-returns-in-And-clause-ty t c = told_And _ _ _ _ _ _ _ c.in-And.is

pub type_of-returns-in-Or-clause-ty : goal.type_of-returns-in-Or-clause-ty
type_of-returns-in-Or-clause-ty t c = told_Or _ _ _ _ _ _ _ c.in-Or.is

pub type_of-returns-in-IsCase-clause-ty : goal.type_of-returns-in-IsCase-clause-ty
type_of-returns-in-IsCase-clause-ty t c = told_IsCase _ _ _ _ _ _ _ _ c.in-IsCase.is

pub type_of-returns-in-Case-default-default-default-None-clause-ty :
    goal.type_of-returns-in-Case-default-default-default-None-clause-ty
type_of-returns-in-Case-default-default-default-None-clause-ty t c =
    told_Case _ _ _ _ _ _ _ _ c.in-Case-default-default-default-None.is

pub type_of-returns-in-Case-default-default-default-Some-clause-ty :
    goal.type_of-returns-in-Case-default-default-default-Some-clause-ty
type_of-returns-in-Case-default-default-default-Some-clause-ty t c =
    told_Case _ _ _ _ _ _ _ _ c.in-Case-default-default-default-Some.is

pub type_of-returns-in-Structure-clause-ty : goal.type_of-returns-in-Structure-clause-ty
type_of-returns-in-Structure-clause-ty t c = told_Structure _ _ _ _ _ _ _ c.in-Structure.is

pub type_of-returns-in-ForAll-clause-ty : goal.type_of-returns-in-ForAll-clause-ty
type_of-returns-in-ForAll-clause-ty t c = told_ForAll _ _ _ _ _ _ _ c.in-ForAll.is

pub type_of-returns-in-Exists-clause-ty : goal.type_of-returns-in-Exists-clause-ty
type_of-returns-in-Exists-clause-ty t c = told_Exists _ _ _ _ _ _ _ c.in-Exists.is

pub type_of-returns-in-Contains-clause-ty : goal.type_of-returns-in-Contains-clause-ty
type_of-returns-in-Contains-clause-ty t c = told_Contains _ _ _ _ _ _ _ _ c.in-Contains.is

pub type_of-returns-in-Length-clause-ty : goal.type_of-returns-in-Length-clause-ty
type_of-returns-in-Length-clause-ty t c = told_Length _ _ _ _ _ _ c.in-Length.is

pub type_of-returns-in-Sum-clause-ty : goal.type_of-returns-in-Sum-clause-ty
type_of-returns-in-Sum-clause-ty t c = c.summed.ensures ∙ told_Sum _ _ _ _ _ _ _ c.in-Sum.is

pub type_of-returns-in-Field-clause-ty : goal.type_of-returns-in-Field-clause-ty
type_of-returns-in-Field-clause-ty t c =
    subst (λ u. IfOk c.type_of_field.result (λ t. t ≡ u))
    (told_Field _ _ _ _ _ _ _ c.in-Field.is) c.type_of_field.ensures.ty

pub type_of-returns-in-Match-clause-ty : goal.type_of-returns-in-Match-clause-ty
type_of-returns-in-Match-clause-ty t c =
    subst (λ u. IfOk c.type_of_match.result (λ t. t ≡ u))
    (told_Match _ _ _ _ _ _ _
    (c.in-Match.is ∙ ap (λ a. expr.Match c.in-Match.field-0 c.in-Match.of a) (sym c.get-in-Match.ensures)))
    c.type_of_match.ensures.ty

pub type_of-returns-in-Map-clause-ty : goal.type_of-returns-in-Map-clause-ty
type_of-returns-in-Map-clause-ty t c =
    subst (λ u. IfOk c.type_of_map.result (λ t. t ≡ u)) (told_Map _ _ _ _ _ _ _ c.in-Map.is) c.type_of_map.ensures.ty
