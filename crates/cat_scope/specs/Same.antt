-- Expressions that agree but for positions. A parameter is the parameter of its function, and a name that is bound
-- inside is counted from its binder.
use Rattle.std.specs.Prelude.{◌≡◌, ◌+◌, ◌<◌, ℕ, List, [], ◌∷◌, Option, Some, None, Result, Ok, Err}
use Rattle.cat_pos.specs.declared.pos.Pos.{Pos}
use Rattle.cat_scope.specs.declared.stop.Stop.{Stop}
use Rattle.cat_scope.specs.declared.expr.Literal.{Literal}
use Rattle.cat_scope.specs.declared.expr.Expr.{Expr}
use Rattle.cat_scope.specs.declared.expr.Arm.{Arm}
use Rattle.cat_scope.specs.declared.expr.FieldValue.{FieldValue}
use Rattle.cat_scope.specs.declared.expr.Expr.TheVariants as leaf
use Rattle.cat_scope.specs.declared.expr.Expr.TheViews as expr
use Rattle.cat_scope.specs.declared.operators.UnaryOp.{UnaryOp}
use Rattle.cat_scope.specs.declared.operators.BinaryOp.{BinaryOp}
use Rattle.cat_scope.specs.declared.operators.SumKind.{SumKind}
use Rattle.cat_scope.specs.Runs.{Run}

-- of which function's definitions an expression is a part, and how many parameters that has; where there are none, the
-- function doesn't matter
pub record Standing : Type 0 where
  pub function : ℕ
  pub params : ℕ

mutual
  -- one rule a form
  pub data Same (g h : Standing) : Expr → Expr → Type 0 where
    literal : {p q : Pos} {l : Literal} → Same g h (leaf.Literal p l) (leaf.Literal q l)
    item : {p q : Pos} {i : ℕ} → Same g h (leaf.Item p i) (leaf.Item q i)
    output : {p q : Pos} {i k : ℕ} → Same g h (leaf.Output p i k) (leaf.Output q i k)
    parameter : {p q : Pos} {k : ℕ} → g.function ≡ h.function → k < g.params → k < h.params
        → Same g h (leaf.Local p k) (leaf.Local q k)
    bound : {p q : Pos} (k : ℕ) → Same g h (leaf.Local p (g.params + k)) (leaf.Local q (h.params + k))
    field : {p q : Pos} {e f : Expr} {k : ℕ} → Same g h e f → Same g h (expr.Field p e k) (expr.Field q f k)
    unary : {p q : Pos} {o : UnaryOp} {e f : Expr} → Same g h e f → Same g h (expr.Unary p o e) (expr.Unary q o f)
    binary : {p q r s : Pos} {o : BinaryOp} {a b c d : Expr} → Same g h a c → Same g h b d
        → Same g h (expr.Binary p o r a b) (expr.Binary q o s c d)
    both : {p q : Pos} {a b c d : Expr} → Same g h a c → Same g h b d → Same g h (expr.And p a b) (expr.And q c d)
    any : {p q : Pos} {a b c d : Expr} → Same g h a c → Same g h b d → Same g h (expr.Or p a b) (expr.Or q c d)
    choice : {p q : Pos} {t a b u c d : Expr} → Same g h t u → Same g h a c → Same g h b d
        → Same g h (expr.If p t a b) (expr.If q u c d)
    matching : {p q : Pos} {e f : Expr} {xs ys : List Arm} → Same g h e f → SameArms g h xs ys
        → Same g h (expr.Match p e xs) (expr.Match q f ys)
    is_case : {p q : Pos} {e f : Expr} {n k : ℕ} → Same g h e f → Same g h (expr.IsCase p e n k) (expr.IsCase q f n k)
    case_alone : {p q : Pos} {n k : ℕ} → Same g h (expr.Case p n k None) (expr.Case q n k None)
    case_with : {p q : Pos} {n k : ℕ} {e f : Expr} → Same g h e f
        → Same g h (expr.Case p n k (Some e)) (expr.Case q n k (Some f))
    structure : {p q : Pos} {n : ℕ} {es fs : List FieldValue} → SameFields g h es fs
        → Same g h (expr.Structure p n es) (expr.Structure q n fs)
    list : {p q : Pos} {es fs : List Expr} → SameAll g h es fs → Same g h (expr.List p es) (expr.List q fs)
    for_all : {p q : Pos} {l e m f : Expr} → Same g h l m → Same g h e f
        → Same g h (expr.ForAll p l e) (expr.ForAll q m f)
    exists : {p q : Pos} {l e m f : Expr} → Same g h l m → Same g h e f
        → Same g h (expr.Exists p l e) (expr.Exists q m f)
    map_each : {p q : Pos} {l e m f : Expr} → Same g h l m → Same g h e f → Same g h (expr.Map p l e) (expr.Map q m f)
    filter : {p q : Pos} {l e m f : Expr} → Same g h l m → Same g h e f
        → Same g h (expr.Filter p l e) (expr.Filter q m f)
    combine : {p q : Pos} {l s e m t f : Expr} → Same g h l m → Same g h s t → Same g h e f
        → Same g h (expr.Combine p l s e) (expr.Combine q m t f)
    contains : {p q r s : Pos} {l e m f : Expr} → Same g h l m → Same g h e f
        → Same g h (expr.Contains p r l e) (expr.Contains q s m f)
    number_of : {p q : Pos} {l m : Expr} → Same g h l m → Same g h (expr.Length p l) (expr.Length q m)
    sum : {p q : Pos} {k : SumKind} {l m : Expr} → Same g h l m → Same g h (expr.Sum p k l) (expr.Sum q k m)
    call : {p q : Pos} {f : ℕ} {es fs : List Expr} → SameAll g h es fs → Same g h (expr.Call p f es) (expr.Call q f fs)
    scope_call : {p q : Pos} {s k : ℕ} {es fs : List FieldValue} → SameFields g h es fs
        → Same g h (expr.ScopeCall p s es k) (expr.ScopeCall q s fs k)

  -- element by element
  pub data SameAll (g h : Standing) : List Expr → List Expr → Type 0 where
    all_none : SameAll g h [] []
    all_more : {e f : Expr} {es fs : List Expr} → Same g h e f → SameAll g h es fs → SameAll g h (e ∷ es) (f ∷ fs)

  -- field by field, in written order
  pub data SameFields (g h : Standing) : List FieldValue → List FieldValue → Type 0 where
    fields_none : SameFields g h [] []
    fields_more : {e f : FieldValue} {es fs : List FieldValue} → e.field ≡ f.field → Same g h e.value f.value
        → SameFields g h es fs → SameFields g h (e ∷ es) (f ∷ fs)

  -- arm by arm
  pub data SameArms (g h : Standing) : List Arm → List Arm → Type 0 where
    arms_none : SameArms g h [] []
    arms_more : {a b : Arm} {xs ys : List Arm} → a.pattern ≡ b.pattern → Same g h a.body b.body → SameArms g h xs ys
        → SameArms g h (a ∷ xs) (b ∷ ys)

-- the value, where there is one
abbrev pub kept : {A : Type 0} → Result A Stop → Option A
kept (Ok a) = Some a
kept (Err stop) = None

-- two runs decide the same, and both have the same value or none
abbrev pub Alike : {A : Type 0} → Run A → Run A → Type 0
Alike r s = (r.log ≡ s.log) × (kept r.end ≡ kept s.end)
