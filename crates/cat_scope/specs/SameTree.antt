-- The test that decides whether two expressions agree but for positions.
use Rattle.std.specs.Prelude.{◌+◌, ◌&&◌, ℕ, nat_eq, nat_lt, nat_le, Bool, true, false, not, List, [], ◌∷◌, Some, None}
use Rattle.std.specs.Prelude.{if◌then◌else◌}
use Rattle.std.specs.Ordering.{int_eq}
use Rattle.cat_scope.specs.declared.expr.Literal.{Literal}
use Rattle.cat_scope.specs.declared.expr.Literal.TheVariants as literal
use Rattle.cat_scope.specs.declared.expr.ArmPattern.{ArmPattern}
use Rattle.cat_scope.specs.declared.expr.ArmPattern.TheVariants as pattern
use Rattle.cat_scope.specs.declared.expr.Expr.{Expr}
use Rattle.cat_scope.specs.declared.expr.Arm.{Arm}
use Rattle.cat_scope.specs.declared.expr.FieldValue.{FieldValue}
use Rattle.cat_scope.specs.declared.expr.Expr.TheOpen.{Expr-F, FieldValue-F, Arm-F}
use Rattle.cat_scope.specs.declared.expr.Expr.TheViews.{out-Expr}
use Rattle.cat_scope.specs.declared.expr.Expr.TheFolds.{fold-Expr}
use Rattle.cat_scope.specs.Comparing.{differ}
use Rattle.cat_scope.specs.OperatorNumbers.{unary_number, binary_number, sum_number}
use Rattle.cat_scope.specs.Same.{Standing}

-- two literals are one
abbrev pub same_literal : Literal → Literal → Bool
same_literal (literal.Boolean a) (literal.Boolean b) = not (differ a b)
same_literal (literal.Integer a) (literal.Integer b) = int_eq a b
same_literal (literal.Decimal a) (literal.Decimal b) = nat_eq a.digits b.digits && nat_eq a.places b.places
same_literal (literal.Money a) (literal.Money b) = int_eq a b
same_literal (literal.Date a) (literal.Date b) = int_eq a b
same_literal (literal.Duration a) (literal.Duration b) = int_eq a.months b.months && int_eq a.days b.days
same_literal _ _ = false

-- two arms are for the same
abbrev pub same_pattern : ArmPattern → ArmPattern → Bool
same_pattern (pattern.Case k bound) (pattern.Case m other) = nat_eq k m && not (differ bound other)
same_pattern pattern.Anything pattern.Anything = true
same_pattern _ _ = false

-- a parameter of one function, or a name bound inside that has as many binders in front
abbrev pub same_local : Standing → Standing → ℕ → ℕ → Bool
same_local g h k m =
    if nat_lt k g.params then nat_eq g.function h.function && (nat_eq k m && nat_lt k h.params)
    else nat_le h.params m && nat_eq (k + h.params) (m + g.params)

-- each of a list beside one of another
abbrev pub each_same : {A : Type 0} → List (A → Bool) → List A → Bool
each_same [] [] = true
each_same (t ∷ ts) (x ∷ xs) = t x && each_same ts xs
each_same _ _ = false

-- a form beside another, where each part has its test
abbrev pub same_in : Standing → Standing
    → Expr-F (Expr → Bool) (Arm → Bool) (FieldValue → Bool) → Expr-F Expr Arm FieldValue → Bool
same_in g h (Expr-F.Literal p l) (Expr-F.Literal q m) = same_literal l m
same_in g h (Expr-F.Item p i) (Expr-F.Item q j) = nat_eq i j
same_in g h (Expr-F.Output p i k) (Expr-F.Output q j m) = nat_eq i j && nat_eq k m
same_in g h (Expr-F.Local p k) (Expr-F.Local q m) = same_local g h k m
same_in g h (Expr-F.Field p e k) (Expr-F.Field q f m) = nat_eq k m && e f
same_in g h (Expr-F.Unary p o e) (Expr-F.Unary q u f) = nat_eq (unary_number o) (unary_number u) && e f
same_in g h (Expr-F.Binary p o r a b) (Expr-F.Binary q u s c d) =
    nat_eq (binary_number o) (binary_number u) && (a c && b d)
same_in g h (Expr-F.And p a b) (Expr-F.And q c d) = a c && b d
same_in g h (Expr-F.Or p a b) (Expr-F.Or q c d) = a c && b d
same_in g h (Expr-F.If p t a b) (Expr-F.If q u c d) = t u && (a c && b d)
same_in g h (Expr-F.Match p e arms) (Expr-F.Match q f others) = e f && each_same arms others
same_in g h (Expr-F.IsCase p e n k) (Expr-F.IsCase q f m j) = nat_eq n m && (nat_eq k j && e f)
same_in g h (Expr-F.Case p n k None) (Expr-F.Case q m j None) = nat_eq n m && nat_eq k j
same_in g h (Expr-F.Case p n k (Some e)) (Expr-F.Case q m j (Some f)) = nat_eq n m && (nat_eq k j && e f)
same_in g h (Expr-F.Structure p n fields) (Expr-F.Structure q m others) = nat_eq n m && each_same fields others
same_in g h (Expr-F.List p es) (Expr-F.List q fs) = each_same es fs
same_in g h (Expr-F.ForAll p l e) (Expr-F.ForAll q m f) = l m && e f
same_in g h (Expr-F.Exists p l e) (Expr-F.Exists q m f) = l m && e f
same_in g h (Expr-F.Map p l e) (Expr-F.Map q m f) = l m && e f
same_in g h (Expr-F.Filter p l e) (Expr-F.Filter q m f) = l m && e f
same_in g h (Expr-F.Combine p l s e) (Expr-F.Combine q m t f) = l m && (s t && e f)
same_in g h (Expr-F.Contains p r l e) (Expr-F.Contains q s m f) = l m && e f
same_in g h (Expr-F.Length p l) (Expr-F.Length q m) = l m
same_in g h (Expr-F.Sum p kind l) (Expr-F.Sum q other m) = nat_eq (sum_number kind) (sum_number other) && l m
same_in g h (Expr-F.Call p i es) (Expr-F.Call q j fs) = nat_eq i j && each_same es fs
same_in g h (Expr-F.ScopeCall p s fields k) (Expr-F.ScopeCall q t others m) =
    nat_eq s t && (nat_eq k m && each_same fields others)
same_in g h _ _ = false

-- an arm beside another
abbrev pub same_arm : Arm-F (Expr → Bool) (Arm → Bool) (FieldValue → Bool) → Arm → Bool
same_arm a other = same_pattern a.pattern other.pattern && a.body other.body

-- a field beside another
abbrev pub same_field : FieldValue-F (Expr → Bool) (Arm → Bool) (FieldValue → Bool) → FieldValue → Bool
same_field f other = nat_eq f.field other.field && f.value other.value

-- whether two expressions agree but for positions
unfoldable pub same_tree : Standing → Standing → Expr → Expr → Bool
same_tree g h =
    fold-Expr (Expr → Bool) (Arm → Bool) (FieldValue → Bool) (λ y f. same_in g h y (out-Expr f)) same_arm same_field
