-- Worked examples of whole trees: one that is accepted with its program, and two that are refused.
use Rattle.std.proofs.Common.{◌≡◌, ℕ, zero, suc, true, List, [], ◌∷◌, Some, None, refl, sym, subst, rules, arith, inl}
use Rattle.std.proofs.Common.{true≢false}
use Rattle.cat_order.specs.Order.{IsOrder, is_ready}
use Rattle.cat_order.specs.Cycle.{DependsOn, IsOnCycle}
use Rattle.cat_order.specs.Computed.{order_of}
use Rattle.cat_order.proofs.Exported.{order_of-iff_IsOrder}
use Rattle.cat_date.specs.declared.rounding.Rounding.TheVariants.{Refuse}
use Rattle.cat_value.specs.declared.ty.Ty.TheVariants as flat_ty
use Rattle.cat_value.specs.declared.declaration.Kind.TheVariants as kind
use Rattle.cat_value.specs.declared.declaration.ItemDecl.{ItemDecl}
use Rattle.cat_value.specs.declared.decls.Decls.{Decls}
use Rattle.cat_tree.specs.declared.name.Base.TheVariants as base
use Rattle.cat_tree.specs.declared.expression.SurfaceLiteral.TheVariants as literal
use Rattle.cat_tree.specs.declared.expression.Node.{Node}
use Rattle.cat_tree.specs.declared.expression.Node.TheVariants as node
use Rattle.cat_tree.specs.declared.program.Tree.{Tree}
use Rattle.cat_scope.specs.declared.expr.Expr.TheVariants as leaf
use Rattle.cat_scope.specs.declared.defs.Except.TheVariants as except
use Rattle.cat_scope.specs.declared.defs.SourcePart.TheVariants as part
use Rattle.cat_scope.specs.declared.defs.Body.{Body}
use Rattle.cat_scope.specs.Orders.{item_dependencies, function_calls, scope_dependencies}
use Rattle.cat_scope.specs.Chains.{HasShortChains, HasNoCycle}
use Rattle.cat_scope.proofs.Exported.{namings}
use Rattle.cat_names.specs.declared.fault.Fault.TheVariants.{NameUnknown, TypeMismatch, VariableCycle}
use Rattle.cat_names.specs.Accepted.{IsMeant, IsProgramOf, IsRefused}
use Rattle.cat_names.specs.Accepted as refused
use Rattle.cat_names.proofs.TypeEquations.{views}
use Rattle.cat_names.proofs.Equations.{forms}
use Rattle.cat_names.proofs.UnknownEquations.{unknowns}
use Rattle.cat_names.proofs.Samples.{at, name, local, n, q, x, S, definition, head_of, head_decls, HeadSound, item_of}
use Rattle.cat_names.proofs.RowSamples.{a_truth_value_is_no_integer, an_unknown_name_stands_where_it_is}

-- an order that is computed, of dependencies that come to these
ordered : (deps closed : List (List ℕ)) (order : List ℕ) → deps ≡ closed → order_of closed ≡ Some order
    → IsOrder deps order
ordered deps closed order is computed =
    subst (λ d. IsOrder d order) (sym is) ((order_of-iff_IsOrder closed order).0 computed)

one_leads_nowhere : (n m : ℕ) → DependsOn ([] ∷ []) n m → ⊥
one_leads_nowhere zero m leads = true≢false (sym leads)
one_leads_nowhere (suc n) m leads = true≢false (sym leads)

two_lead_nowhere : (n m : ℕ) → DependsOn ([] ∷ [] ∷ []) n m → ⊥
two_lead_nowhere zero m leads = true≢false (sym leads)
two_lead_nowhere (suc zero) m leads = true≢false (sym leads)
two_lead_nowhere (suc (suc n)) m leads = true≢false (sym leads)

-- chains of what leads nowhere are short
short_alone : (deps : List (List ℕ)) → ((n m : ℕ) → DependsOn deps n m → ⊥) → HasShortChains deps
short_alone deps nowhere [] chain = omega arith
short_alone deps nowhere (n ∷ []) chain = omega arith
short_alone deps nowhere (n ∷ m ∷ ns) chain = absurd (nowhere n m chain.0)

short : (deps closed : List (List ℕ)) → deps ≡ closed → ((n m : ℕ) → DependsOn closed n m → ⊥) → HasShortChains deps
short deps closed is nowhere = subst HasShortChains (sym is) (short_alone closed nowhere)

no_cycle_alone : (deps : List (List ℕ)) → ((n m : ℕ) → DependsOn deps n m → ⊥) → HasNoCycle deps
unfolding IsOnCycle
no_cycle_alone deps nowhere n ([], path) = nowhere n n path
no_cycle_alone deps nowhere n ((m ∷ ms), path) = nowhere n m path.0

no_cycle : (deps closed : List (List ℕ)) → deps ≡ closed → ((n m : ℕ) → DependsOn closed n m → ⊥) → HasNoCycle deps
no_cycle deps closed is nowhere = subst HasNoCycle (sym is) (no_cycle_alone closed nowhere)

-- `definition x equals e`
abbrev tree_of : Node → Tree
tree_of e = head_of base.Integer (definition (at 6 3) (name x (at 6 14)) e ∷ [])

-- the body of S, where x is that item
abbrev body_of : ℕ → List ℕ → Body
body_of i order = record {
  defs = record {
    target = record { scope = 0; item = 1; inner = None };
    label = None;
    except = except.No;
    condition = None;
    consequence = leaf.Item (at 6 23) i;
    params = 0;
    pos = at 6 3;
  } ∷ [];
  assertions = [];
  source = part.Declaration ∷ part.Definition ∷ [];
  rounding = Refuse;
  order = order;
  calls = [];
}

module _ (sound : HeadSound flat_ty.Integer) where
  abbrev decls : Decls
  decls = head_decls flat_ty.Integer sound

  abbrev items : List ItemDecl
  items = item_of n (at 3 9) kind.Input flat_ty.Integer ∷ item_of x (at 4 10) kind.Output flat_ty.Integer ∷ []

  -- `definition x equals n`
  the_program_of_a_tree : IsProgramOf (tree_of (local n (at 6 23))) decls (body_of 0 (0 ∷ 1 ∷ []) ∷ []) (0 ∷ [])
  unfolding order_of is_ready
  the_program_of_a_tree = record {
    meant = record {
      named = record { names = search (rules, unknowns); declared = search rules };
      meant = search (rules, forms, views, namings);
    };
    items = (
      ordered (item_dependencies items (body_of 0 (0 ∷ 1 ∷ [])).defs) ([] ∷ (0 ∷ []) ∷ []) (0 ∷ 1 ∷ [])
          (search (rules, namings)) refl,
      short (function_calls items (body_of 0 (0 ∷ 1 ∷ [])).defs) ([] ∷ [] ∷ []) (search (rules, namings))
          two_lead_nowhere,
      tt,
    );
    order = ordered (scope_dependencies decls.scopes (body_of 0 (0 ∷ 1 ∷ []) ∷ [])) ([] ∷ []) (0 ∷ [])
        (search (rules, namings)) refl;
    chains = short (scope_dependencies decls.scopes (body_of 0 (0 ∷ 1 ∷ []) ∷ [])) ([] ∷ []) (search (rules, namings))
        one_leads_nowhere;
  }

  -- `definition x equals x`
  abbrev self_defined : Tree
  self_defined = tree_of (local x (at 6 23))

  it_means_a_body : IsMeant self_defined decls (body_of 1 [] ∷ [])
  it_means_a_body = record {
    named = record { names = search (rules, unknowns); declared = search rules };
    meant = search (rules, forms, views, namings);
  }

  x_depends_on_itself : IsOnCycle (item_dependencies items (body_of 1 []).defs) 1
  unfolding IsOnCycle
  x_depends_on_itself = ([], search (rules, namings))

  an_item_on_a_cycle_is_refused : IsRefused self_defined (VariableCycle (at 4 10))
  an_item_on_a_cycle_is_refused = refused.item_cycle decls (body_of 1 [] ∷ []) it_means_a_body
      (no_cycle (scope_dependencies decls.scopes (body_of 1 [] ∷ [])) ([] ∷ []) (search (rules, namings))
      one_leads_nowhere)
      (record {
        number = 0;
        item_number = 1;
        scope = record { name = S ∷ []; items = items };
        body = body_of 1 [];
        item = item_of x (at 4 10) kind.Output flat_ty.Integer;
        scope_is = refl;
        body_is = refl;
        item_is = refl;
        on_cycle = x_depends_on_itself;
        fault_is = refl;
      })

  -- `definition x equals true`
  a_mismatch_is_refused : IsRefused (tree_of (node.Literal (literal.Boolean true) (at 6 23))) (TypeMismatch (at 6 23))
  a_mismatch_is_refused = refused.expression decls
      (record { names = search (rules, unknowns); declared = search rules })
      (rw (a_truth_value_is_no_integer sound) (inl refl))

-- an unknown name is refused before types are looked at
an_unknown_name_is_refused : IsRefused (tree_of (local q (at 6 23))) (NameUnknown (at 6 23))
an_unknown_name_is_refused = refused.name (rw an_unknown_name_stands_where_it_is (inl refl))
