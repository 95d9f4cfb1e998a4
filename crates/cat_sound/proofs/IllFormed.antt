-- Programs that are not well formed: one that is ill typed, one in a wrong order, and one whose calls are not listed.
use Rattle.std.proofs.Common.{◌≡◌, arith, ℕ, true, IsTrue, List, [], ◌∷◌, None, Some, sym, ap, ◌∙◌, subst, rules}
use Rattle.std.proofs.Common.{true≢false}
use Rattle.cat_pos.specs.declared.pos.Pos.{Pos}
use Rattle.cat_value.specs.declared.ty.Ty.{Ty}
use Rattle.cat_value.specs.declared.ty.Ty.TheVariants as flat
use Rattle.cat_value.specs.declared.ty.Ty.TheViews as ty
use Rattle.cat_value.specs.declared.decls.Decls.{Decls}
use Rattle.cat_value.specs.declared.ty.Ty.TheViews.{out-Ty}
use Rattle.cat_value.specs.declared.declaration.ItemDecl.{ItemDecl}
use Rattle.cat_value.specs.declared.declaration.Kind.TheVariants as kind
use Rattle.cat_value.specs.Declarations.{is_boolean, are_sound}
use Rattle.cat_value.specs.Dependencies.{are_ordered}
use Rattle.cat_value.proofs.Exported.{typing}
use Rattle.cat_scope.specs.declared.expr.Expr.TheVariants as leaf
use Rattle.cat_scope.specs.declared.expr.Expr.TheOpen.{Expr-F}
use Rattle.cat_scope.specs.declared.expr.Literal.TheVariants as literal
use Rattle.cat_scope.specs.Names.{Names}
use Rattle.cat_scope.specs.Orders.{scope_dependencies, calls_in, once}
use Rattle.cat_scope.specs.WellFormed.{DefTyped, IsBodyOf, IsWellFormed}
use Rattle.cat_scope.proofs.Exported.{namings}
use Rattle.cat_order.specs.Order.{IsOrder, is_ready}
use Rattle.cat_order.specs.Computed.{order_of}
use Rattle.cat_order.proofs.Exported.{order_of-iff_IsOrder}
use Rattle.cat_value.specs.declared.declaration.Scope.{Scope}
use Rattle.cat_scope.specs.declared.defs.Except.TheVariants as except
use Rattle.cat_scope.specs.declared.defs.Def.{Def}
use Rattle.cat_scope.specs.declared.defs.Body.{Body}
use Rattle.cat_scope.specs.HasType.{HasType}
use Rattle.cat_scope.proofs.Samples.{at, variable, item, whole, def, body, scope_of, calling_scopes, calling_bodies}
use Rattle.cat_scope.specs.declared.expr.Expr.TheViews as expr
use Rattle.cat_sound.specs.Parts.{PartsTyped}
use Rattle.cat_sound.proofs.PartTypes.{parts_typed}
use Rattle.cat_sound.proofs.WellFormedParts.{integer_is_sound}
use Rattle.cat_sound.proofs.WellFormedCalls.{decls, s_items}

some_is : {A : Type 0} {a b : A} → Some a ≡ Some b → a ≡ b
some_is e = cc

-- `true` is no integer, whatever it stands in
true_is_no_integer : (ns : Names) (ls : List Ty) (p : Pos)
    → ¬ HasType ns ls (leaf.Literal p (literal.Boolean true)) flat.Integer
true_is_no_integer ns ls p typing =
    let parts : PartsTyped ns ls (Expr-F.Literal p (literal.Boolean true)) flat.Integer =
    subst (λ x. PartsTyped ns ls x flat.Integer) (expr.outs-Literal p (literal.Boolean true))
    (parts_typed ns ls (leaf.Literal p (literal.Boolean true)) flat.Integer typing) in
    true≢false
    (sym (ap is_boolean ty.outs-Boolean) ∙ sym (ap (λ (t : Ty). is_boolean (out-Ty t)) parts.1)
    ∙ ap is_boolean ty.outs-Integer)

-- `definition x equals true`, where x is an output that is an integer
abbrev wrong : Def
wrong = def (variable 0 0) None except.No None (leaf.Literal (at 5 23) (literal.Boolean true)) (at 5 3)

abbrev x_out : ItemDecl
x_out = item kind.Output (at 3 10)

abbrev one_scope : List Scope
one_scope = scope_of (x_out ∷ []) ∷ []

one_scope_is_sound : IsTrue (are_sound [] [] one_scope)
unfolding are_sound are_ordered order_of
one_scope_is_sound = search (rules, ty.the_lemmas, integer_is_sound)

abbrev one_decls : Decls
one_decls = record { structures = []; enumerations = []; scopes = one_scope; sound = one_scope_is_sound }

abbrev one_names : Names
one_names = record { decls = one_decls; items = x_out ∷ [] }

wrong_is_ill_typed : ¬ DefTyped one_names 0 wrong
wrong_is_ill_typed is =
    let declared : Some x_out ≡ Some is.target.decl = is.target.decl_is in
    let an_integer : is.ty ≡ flat.Integer = is.target.ty_is ∙ ap (λ (i : ItemDecl). i.ty) (sym (some_is declared)) in
    true_is_no_integer one_names is.params (at 5 23)
    (subst (λ (t : Ty). HasType one_names is.params (leaf.Literal (at 5 23) (literal.Boolean true)) t)
    an_integer is.consequence)

an_ill_typed_program_is_not_well_formed : ¬ IsWellFormed one_decls (body (wrong ∷ []) (0 ∷ []) ∷ []) (0 ∷ [])
an_ill_typed_program_is_not_well_formed is = wrong_is_ill_typed is.bodies_are.0.defs.0

-- S, which calls T, stands before T
one_list : {A : Type 0} {a b : A} {more rest : List A} → Some (a ∷ more) ≡ Some (b ∷ rest) → a ≡ b
one_list e = cc

no_order : ¬ IsOrder ([] ∷ (0 ∷ []) ∷ []) (1 ∷ 0 ∷ [])
unfolding order_of is_ready
no_order is =
    let computed : order_of ([] ∷ (0 ∷ []) ∷ []) ≡ Some (1 ∷ 0 ∷ []) =
    (order_of-iff_IsOrder ([] ∷ (0 ∷ []) ∷ []) (1 ∷ 0 ∷ [])).1 is in
    absurd (omega (arith, one_list computed))

depend : scope_dependencies calling_scopes calling_bodies ≡ [] ∷ (0 ∷ []) ∷ []
depend = search (rules, namings)

a_caller_does_not_stand_before_the_called : ¬ IsWellFormed decls calling_bodies (1 ∷ 0 ∷ [])
a_caller_does_not_stand_before_the_called is =
    no_order (subst (λ (deps : List (List ℕ)). IsOrder deps (1 ∷ 0 ∷ [])) depend is.order)

-- S calls T, and says that it calls none
abbrev silent : Body
silent = body (def (variable 1 2) None except.No None (leaf.Output (at 13 23) 1 0) (at 13 3) ∷ []) (0 ∷ 1 ∷ 2 ∷ [])

abbrev silent_bodies : List Body
silent_bodies = body (def (variable 0 0) None except.No None (whole 7) (at 10 3) ∷ []) (0 ∷ []) ∷ silent ∷ []

no_list : {A : Type 0} {a : A} {more : List A} → [] ≡ a ∷ more → ⊥
no_list e = absurd (cc)

listed : {decls : Decls} {n : ℕ} {scope : Scope} {body : Body} → IsBodyOf decls n scope body
    → body.calls ≡ once [] (calls_in scope.items body)
listed is = is.calls

a_call_is_listed : ¬ IsWellFormed decls silent_bodies (0 ∷ 1 ∷ [])
a_call_is_listed is =
    let said : [] ≡ once [] (calls_in s_items silent) = listed is.bodies_are.1.0 in
    let done : once [] (calls_in s_items silent) ≡ 0 ∷ [] = search (rules, namings) in
    no_list (said ∙ done)
