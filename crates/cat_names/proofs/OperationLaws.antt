-- Operators have their types.
use Rattle.std.proofs.Common.{◌≡◌, ◌&&◌, Bool, true, false, IsTrue, List, Option, Some, None, Ok, refl, sym, ap, ◌∙◌}
use Rattle.std.proofs.Common.{subst}
use Rattle.cat_pos.specs.declared.pos.Pos.{Pos}
use Rattle.cat_value.specs.declared.ty.Ty.{Ty}
use Rattle.cat_value.specs.declared.ty.Ty.TheVariants as flat_ty
use Rattle.cat_value.specs.declared.ty.Ty.TheViews as ty
use Rattle.cat_value.specs.declared.decls.Decls.{Decls}
use Rattle.cat_value.specs.Typing.{is_type}
use Rattle.cat_value.proofs.Exported.{is_declared_Boolean, is_declared_Integer, is_declared_Decimal, is_declared_Money}
use Rattle.cat_value.proofs.Exported.{is_declared_Date, is_declared_Duration}
use Rattle.cat_tree.specs.declared.expression.Operator.{Operator}
use Rattle.cat_tree.specs.declared.expression.Operator.TheVariants as operator
use Rattle.cat_tree.specs.declared.expression.Prefix.{Prefix}
use Rattle.cat_tree.specs.declared.expression.Prefix.TheVariants as prefix
use Rattle.cat_scope.specs.declared.expr.Expr.TheViews as expr
use Rattle.cat_scope.specs.Names.{Names}
use Rattle.cat_scope.specs.HasType.{HasType}
use Rattle.cat_scope.specs.HasType as typed
use Rattle.cat_scope.proofs.Exported.{placed_Binary, placed_And, placed_Or, placed_Contains, placed_Length}
use Rattle.cat_scope.proofs.Exported.{placed_Unary, placed_Sum}
use Rattle.cat_names.specs.declared.fault.Fault.TheVariants.{TypeMismatch}
use Rattle.cat_names.specs.declared.typed.Typed.{Typed}
use Rattle.cat_names.specs.declared.typed.Local.{Local}
use Rattle.cat_names.specs.declared.typed.Flat.{Flat}
use Rattle.cat_names.specs.declared.typed.Flat.TheVariants as flat
use Rattle.cat_names.specs.Found.{Found, and_then, or_fault}
use Rattle.cat_names.specs.Types.{same, element_of, flat_of, whole}
use Rattle.cat_names.specs.Rows.{chosen, converted, sum_kind, of_flat, operator_for, prefix_for, sum_for}
use Rattle.cat_names.specs.Lookup.{types_of}
use Rattle.cat_names.specs.Naming.{typed as plain}
use Rattle.cat_names.specs.Operations.{operated, binary_of, prefixed_of, sum_of}
use Rattle.cat_names.specs.TypedMeanings.{OnFound, HasItsType, IsTyped}
use Rattle.cat_names.proofs.OnFound.{on_then, on_where, on_or}
use Rattle.cat_names.proofs.SameTypes.{same_is, flat_is, element_is}
use Rattle.cat_names.proofs.RowLaws.{row_typed, prefix_row, sum_row, is_compared}

-- each flat type is declared
pub flat_declared : (ds : Decls) (t : Flat) → IsTrue (is_type ds (whole t))
flat_declared ds flat.Boolean = is_declared_Boolean ds.structures ds.enumerations
flat_declared ds flat.Integer = is_declared_Integer ds.structures ds.enumerations
flat_declared ds flat.Decimal = is_declared_Decimal ds.structures ds.enumerations
flat_declared ds flat.Money = is_declared_Money ds.structures ds.enumerations
flat_declared ds flat.Date = is_declared_Date ds.structures ds.enumerations
flat_declared ds flat.Duration = is_declared_Duration ds.structures ds.enumerations

-- a row of a type is a row of a flat one
flat_row : {A : Type 0} (row : Flat → Option A) (o : Option Flat) (r : A) → of_flat row o ≡ Some r
    → (f : Flat) × (o ≡ Some f) × (row f ≡ Some r)
flat_row row None r h = cc h
flat_row row (Some f) r h = (f, refl, h)

pub first_true : (a b : Bool) → IsTrue (a && b) → IsTrue a
first_true true b h = refl
first_true false b h = h

pub second_true : (a b : Bool) → IsTrue (a && b) → IsTrue b
second_true true b h = h
second_true false true h = refl
second_true false false h = h

pub both_true : (a b : Bool) → IsTrue a → IsTrue b → IsTrue (a && b)
both_true a b h i = rw (h, i) refl

module _ (ns : Names) (ls : List Local) (ex : Option Ty) where
  abbrev Has : Typed → Type 0
  Has = HasItsType ns ls ex

  abbrev Operand : Typed → Type 0
  Operand = IsTyped ns ls None

  -- what has one type has another that is the same
  pub as_type : (x : Typed) (t : Ty) → Operand x → x.ty ≡ t → HasType ns (types_of ls) x.expr t
  as_type x t h is = subst (λ u. HasType ns (types_of ls) x.expr u) is h.has.typed

  and_has : (p : Pos) (a b : Typed) → Operand a → Operand b → OnFound Has (binary_of operator.And p a b)
  and_has p a b ha hb = on_where Has (same flat_ty.Boolean a.ty && same flat_ty.Boolean b.ty) _ _ (λ are. record {
    typed = typed.both (as_type a flat_ty.Boolean ha (sym (same_is flat_ty.Boolean a.ty (first_true _ _ are))))
        (as_type b flat_ty.Boolean hb (sym (same_is flat_ty.Boolean b.ty (second_true _ _ are))));
    placed = rw (placed_And a.first a.expr b.expr) (both_true _ _ ha.has.placed hb.has.placed);
    declared = flat_declared ns.decls flat.Boolean;
  })

  or_has : (p : Pos) (a b : Typed) → Operand a → Operand b → OnFound Has (binary_of operator.Or p a b)
  or_has p a b ha hb = on_where Has (same flat_ty.Boolean a.ty && same flat_ty.Boolean b.ty) _ _ (λ are. record {
    typed = typed.any (as_type a flat_ty.Boolean ha (sym (same_is flat_ty.Boolean a.ty (first_true _ _ are))))
        (as_type b flat_ty.Boolean hb (sym (same_is flat_ty.Boolean b.ty (second_true _ _ are))));
    placed = rw (placed_Or a.first a.expr b.expr) (both_true _ _ ha.has.placed hb.has.placed);
    declared = flat_declared ns.decls flat.Boolean;
  })

  contains_has : (p : Pos) (l e : Typed) → Operand l → Operand e → OnFound Has (binary_of operator.Contains p l e)
  contains_has p l e hl he = on_then (λ t. flat_of e.ty ≡ Some t) Has (or_fault (TypeMismatch p) (flat_of e.ty)) _
      (on_or (TypeMismatch p) (flat_of e.ty))
      (λ t is. on_where Has (same (ty.List (whole t)) l.ty) _ _ (λ fits. record {
        typed = typed.contains (whole t)
            (as_type l (ty.List (whole t)) hl (sym (same_is (ty.List (whole t)) l.ty fits)))
            (as_type e (whole t) he (flat_is e.ty t is)) (is_compared t);
        placed = rw (placed_Contains l.first p l.expr e.expr) (both_true _ _ hl.has.placed he.has.placed);
        declared = flat_declared ns.decls flat.Boolean;
      }))

  -- an operator of the table
  abbrev between : Operator → Pos → Typed → Typed → Found Typed
  between o p a b = and_then (or_fault (TypeMismatch p) (operator_for o a.ty b.ty)) (λ row.
      Ok (operated a.first p (expr.Binary a.first row.0 p a.expr b.expr) (whole row.1)))

  between_has : (o : Operator) (p : Pos) (a b : Typed) → Operand a → Operand b → OnFound Has (between o p a b)
  between_has o p a b ha hb = on_then (λ row. operator_for o a.ty b.ty ≡ Some row) Has
      (or_fault (TypeMismatch p) (operator_for o a.ty b.ty)) _ (on_or (TypeMismatch p) (operator_for o a.ty b.ty))
      (λ row is. let f = flat_row (λ left. of_flat (chosen o left) (flat_of b.ty)) (flat_of a.ty) row is in
      let g = flat_row (chosen o f.0) (flat_of b.ty) row f.2 in record {
        typed = row_typed ns (types_of ls) a.first p a.expr b.expr o f.0 g.0 row g.2
            (as_type a (whole f.0) ha (flat_is a.ty f.0 f.1)) (as_type b (whole g.0) hb (flat_is b.ty g.0 g.1));
        placed = rw (placed_Binary a.first row.0 p a.expr b.expr) (both_true _ _ ha.has.placed hb.has.placed);
        declared = flat_declared ns.decls row.1;
      })

  pub binary_has : (o : Operator) (p : Pos) (a b : Typed) → Operand a → Operand b → OnFound Has (binary_of o p a b)
  binary_has operator.Or p a b ha hb = or_has p a b ha hb
  binary_has operator.Xor p a b ha hb = between_has operator.Xor p a b ha hb
  binary_has operator.And p a b ha hb = and_has p a b ha hb
  binary_has operator.Less p a b ha hb = between_has operator.Less p a b ha hb
  binary_has operator.LessEqual p a b ha hb = between_has operator.LessEqual p a b ha hb
  binary_has operator.Greater p a b ha hb = between_has operator.Greater p a b ha hb
  binary_has operator.GreaterEqual p a b ha hb = between_has operator.GreaterEqual p a b ha hb
  binary_has operator.Equal p a b ha hb = between_has operator.Equal p a b ha hb
  binary_has operator.NotEqual p a b ha hb = between_has operator.NotEqual p a b ha hb
  binary_has operator.Contains p a b ha hb = contains_has p a b ha hb
  binary_has operator.Plus p a b ha hb = between_has operator.Plus p a b ha hb
  binary_has operator.Minus p a b ha hb = between_has operator.Minus p a b ha hb
  binary_has operator.Times p a b ha hb = between_has operator.Times p a b ha hb
  binary_has operator.Divide p a b ha hb = between_has operator.Divide p a b ha hb

  -- a prefix of the table
  abbrev before : Prefix → Pos → Typed → Found Typed
  before o p e = and_then (or_fault (TypeMismatch p) (prefix_for o e.ty)) (λ row.
      Ok (plain p (expr.Unary p row.0 e.expr) (whole row.1)))

  before_has : (o : Prefix) (p : Pos) (e : Typed) → Operand e → OnFound Has (before o p e)
  before_has o p e h = on_then (λ row. prefix_for o e.ty ≡ Some row) Has (or_fault (TypeMismatch p) (prefix_for o e.ty))
      _ (on_or (TypeMismatch p) (prefix_for o e.ty))
      (λ row is. let f = flat_row (converted o) (flat_of e.ty) row is in let takes = prefix_row o f.0 row f.2 in
      record {
        typed = subst (λ t. HasType ns (types_of ls) (expr.Unary p row.0 e.expr) t) (sym takes.1)
            (typed.unary (as_type e _ h (flat_is e.ty f.0 f.1 ∙ takes.0)));
        placed = rw (placed_Unary p row.0 e.expr) h.has.placed;
        declared = flat_declared ns.decls row.1;
      })

  length_has : (p : Pos) (l : Typed) → Operand l → OnFound Has (prefixed_of prefix.NumberOf p l)
  length_has p l h = on_then (λ t. element_of l.ty ≡ Some t) Has (or_fault (TypeMismatch p) (element_of l.ty)) _
      (on_or (TypeMismatch p) (element_of l.ty))
      (λ t is. record {
        typed = typed.number_of t (as_type l (ty.List t) h (element_is l.ty t is));
        placed = rw (placed_Length p l.expr) h.has.placed;
        declared = flat_declared ns.decls flat.Integer;
      })

  pub prefixed_has : (o : Prefix) (p : Pos) (e : Typed) → Operand e → OnFound Has (prefixed_of o p e)
  prefixed_has prefix.Not p e h = before_has prefix.Not p e h
  prefixed_has prefix.Negate p e h = before_has prefix.Negate p e h
  prefixed_has prefix.IntegerOf p e h = before_has prefix.IntegerOf p e h
  prefixed_has prefix.DecimalOf p e h = before_has prefix.DecimalOf p e h
  prefixed_has prefix.MoneyOf p e h = before_has prefix.MoneyOf p e h
  prefixed_has prefix.RoundOf p e h = before_has prefix.RoundOf p e h
  prefixed_has prefix.GetYear p e h = before_has prefix.GetYear p e h
  prefixed_has prefix.GetMonth p e h = before_has prefix.GetMonth p e h
  prefixed_has prefix.GetDay p e h = before_has prefix.GetDay p e h
  prefixed_has prefix.NumberOf p e h = length_has p e h

  pub sum_has : (p : Pos) (t : Ty) (l : Typed) → Operand l → OnFound Has (sum_of p t l)
  sum_has p t l h = on_then (λ kind. sum_for t ≡ Some kind) Has (or_fault (TypeMismatch p) (sum_for t)) _
      (on_or (TypeMismatch p) (sum_for t))
      (λ kind is. let f = flat_row sum_kind (flat_of t) kind is in let row = flat_is t f.0 f.1 ∙ sum_row f.0 kind f.2 in
      on_where Has (same (ty.List t) l.ty) _ _ (λ fits. record {
        typed = subst (λ u. HasType ns (types_of ls) (expr.Sum p kind l.expr) u) (sym row)
            (typed.sum (as_type l _ h (sym (same_is (ty.List t) l.ty fits) ∙ ap (λ u. ty.List u) row)));
        placed = rw (placed_Sum p kind l.expr) h.has.placed;
        declared = subst (λ u. IsTrue (is_type ns.decls u)) (sym (flat_is t f.0 f.1)) (flat_declared ns.decls f.0);
      }))
