-- A part that adds the code of the form of an expression adds the code of the expression.
use Rattle.std.proofs.Common.{◌≡◌, ℕ, List, [], ◌∷◌, length, map, Option, Some, None, Result, OnOk, refl, sym, ap, ◌∙◌}
use Rattle.std.proofs.Common.{subst}
use Rattle.std.specs.Prelude.{option_map}
use Rattle.std.specs.declared.alloc.AllocError.{AllocError}
use Rattle.cat_pos.specs.declared.pos.Pos.{Pos}
use Rattle.cat_value.specs.declared.ty.Ty.{Ty}
use Rattle.cat_scope.specs.declared.expr.Literal.{Literal}
use Rattle.cat_scope.specs.declared.operators.UnaryOp.{UnaryOp}
use Rattle.cat_scope.specs.declared.operators.BinaryOp.{BinaryOp}
use Rattle.cat_scope.specs.declared.operators.SumKind.{SumKind}
use Rattle.cat_scope.specs.declared.expr.ArmPattern.{ArmPattern}
use Rattle.cat_scope.specs.declared.expr.Expr.{Expr}
use Rattle.cat_scope.specs.declared.expr.FieldValue.{FieldValue}
use Rattle.cat_scope.specs.declared.expr.Arm.{Arm}
use Rattle.cat_scope.specs.declared.expr.Expr.TheOpen.{Expr-F}
use Rattle.cat_scope.specs.declared.expr.Expr.TheVariants as leaf
use Rattle.cat_scope.specs.declared.expr.Expr.TheViews as expr
use Rattle.cat_scope.specs.Names.{scope_items}
use Rattle.cat_scope.specs.Fitting.{field_type, input_type}
use Rattle.cat_code.specs.declared.instr.Instr.TheVariants as instr
use Rattle.cat_lower.specs.declared.growing.Growing.{Growing}
use Rattle.cat_lower.specs.Grown.{Grown}
use Rattle.cat_lower.specs.Types.{Lowering}
use Rattle.cat_lower.specs.Laying.{one, then_code, led}
use Rattle.cat_lower.specs.Pieces.{packed, pass_all, pass_absent}
use Rattle.cat_lower.specs.Rows.{Standing, fields_code, values_code}
use Rattle.cat_lower.specs.Expressions.{lowered, case_code, numbers_of}
use Rattle.cat_lower.proofs.LoweredEquations.{form, field, lowered_Literal, lowered_Item, lowered_Output}
use Rattle.cat_lower.proofs.LoweredEquations.{lowered_Local, lowered_Field, lowered_Unary, lowered_Binary, lowered_And}
use Rattle.cat_lower.proofs.LoweredEquations.{lowered_Or, lowered_If, lowered_Match, lowered_IsCase, lowered_Case_None}
use Rattle.cat_lower.proofs.LoweredEquations.{lowered_Case_Some, lowered_Structure, lowered_List, lowered_ForAll}
use Rattle.cat_lower.proofs.LoweredEquations.{lowered_Exists, lowered_Map, lowered_Filter, lowered_Combine}
use Rattle.cat_lower.proofs.LoweredEquations.{lowered_Contains, lowered_Length, lowered_Sum, lowered_Call}
use Rattle.cat_lower.proofs.LoweredEquations.{lowered_ScopeCall}
use Rattle.cat_lower.proofs.TypesOf.{branches_are, fields_are}

pub code_Literal : (r : Result Unit AllocError) (old new : Growing) (here : Standing) (p : Pos) (l : Literal)
    (ls : List Ty) (x : Option Ty)
    → OnOk r (Grown old new ((form here (Expr-F.Literal p l)).code ls x))
    → OnOk r (Grown old new ((lowered here (leaf.Literal p l)).code ls x))
code_Literal r old new here p l ls x h =
    subst (λ (y : Lowering). OnOk r (Grown old new (y.code ls x))) (sym (lowered_Literal here p l)) h

pub code_Item : (r : Result Unit AllocError) (old new : Growing) (here : Standing) (p : Pos) (item : ℕ) (ls : List Ty)
    (x : Option Ty)
    → OnOk r (Grown old new ((form here (Expr-F.Item p item)).code ls x))
    → OnOk r (Grown old new ((lowered here (leaf.Item p item)).code ls x))
code_Item r old new here p item ls x h =
    subst (λ (y : Lowering). OnOk r (Grown old new (y.code ls x))) (sym (lowered_Item here p item)) h

pub code_Output : (r : Result Unit AllocError) (old new : Growing) (here : Standing) (p : Pos) (item k : ℕ)
    (ls : List Ty) (x : Option Ty)
    → OnOk r (Grown old new ((form here (Expr-F.Output p item k)).code ls x))
    → OnOk r (Grown old new ((lowered here (leaf.Output p item k)).code ls x))
code_Output r old new here p item k ls x h =
    subst (λ (y : Lowering). OnOk r (Grown old new (y.code ls x))) (sym (lowered_Output here p item k)) h

pub code_Local : (r : Result Unit AllocError) (old new : Growing) (here : Standing) (p : Pos) (k : ℕ) (ls : List Ty)
    (x : Option Ty)
    → OnOk r (Grown old new ((form here (Expr-F.Local p k)).code ls x))
    → OnOk r (Grown old new ((lowered here (leaf.Local p k)).code ls x))
code_Local r old new here p k ls x h =
    subst (λ (y : Lowering). OnOk r (Grown old new (y.code ls x))) (sym (lowered_Local here p k)) h

pub code_Field : (r : Result Unit AllocError) (old new : Growing) (here : Standing) (p : Pos) (e : Expr) (k : ℕ)
    (ls : List Ty) (x : Option Ty)
    → OnOk r (Grown old new ((form here (Expr-F.Field p (lowered here e) k)).code ls x))
    → OnOk r (Grown old new ((lowered here (expr.Field p e k)).code ls x))
code_Field r old new here p e k ls x h =
    subst (λ (y : Lowering). OnOk r (Grown old new (y.code ls x))) (sym (lowered_Field here p e k)) h

pub code_Unary : (r : Result Unit AllocError) (old new : Growing) (here : Standing) (p : Pos) (o : UnaryOp) (e : Expr)
    (ls : List Ty) (x : Option Ty)
    → OnOk r (Grown old new ((form here (Expr-F.Unary p o (lowered here e))).code ls x))
    → OnOk r (Grown old new ((lowered here (expr.Unary p o e)).code ls x))
code_Unary r old new here p o e ls x h =
    subst (λ (y : Lowering). OnOk r (Grown old new (y.code ls x))) (sym (lowered_Unary here p o e)) h

pub code_Binary : (r : Result Unit AllocError) (old new : Growing) (here : Standing) (p : Pos) (o : BinaryOp) (q : Pos)
    (a b : Expr) (ls : List Ty) (x : Option Ty)
    → OnOk r (Grown old new ((form here (Expr-F.Binary p o q (lowered here a) (lowered here b))).code ls x))
    → OnOk r (Grown old new ((lowered here (expr.Binary p o q a b)).code ls x))
code_Binary r old new here p o q a b ls x h =
    subst (λ (y : Lowering). OnOk r (Grown old new (y.code ls x))) (sym (lowered_Binary here p o q a b)) h

pub code_And : (r : Result Unit AllocError) (old new : Growing) (here : Standing) (p : Pos) (a b : Expr) (ls : List Ty)
    (x : Option Ty)
    → OnOk r (Grown old new ((form here (Expr-F.And p (lowered here a) (lowered here b))).code ls x))
    → OnOk r (Grown old new ((lowered here (expr.And p a b)).code ls x))
code_And r old new here p a b ls x h =
    subst (λ (y : Lowering). OnOk r (Grown old new (y.code ls x))) (sym (lowered_And here p a b)) h

pub code_Or : (r : Result Unit AllocError) (old new : Growing) (here : Standing) (p : Pos) (a b : Expr) (ls : List Ty)
    (x : Option Ty)
    → OnOk r (Grown old new ((form here (Expr-F.Or p (lowered here a) (lowered here b))).code ls x))
    → OnOk r (Grown old new ((lowered here (expr.Or p a b)).code ls x))
code_Or r old new here p a b ls x h =
    subst (λ (y : Lowering). OnOk r (Grown old new (y.code ls x))) (sym (lowered_Or here p a b)) h

pub code_If : (r : Result Unit AllocError) (old new : Growing) (here : Standing) (p : Pos) (c a b : Expr) (ls : List Ty)
    (x : Option Ty)
    → OnOk r (Grown old new ((form here (Expr-F.If p (lowered here c) (lowered here a) (lowered here b))).code ls x))
    → OnOk r (Grown old new ((lowered here (expr.If p c a b)).code ls x))
code_If r old new here p c a b ls x h =
    subst (λ (y : Lowering). OnOk r (Grown old new (y.code ls x))) (sym (lowered_If here p c a b)) h

pub code_Match : (r : Result Unit AllocError) (old new : Growing) (here : Standing) (p : Pos) (e : Expr)
    (arms : List Arm) (ls : List Ty) (x : Option Ty)
    → OnOk r (Grown old new ((form here
    (Expr-F.Match p (lowered here e) (map (λ a. (a.pattern, lowered here a.body)) arms))).code ls x))
    → OnOk r (Grown old new ((lowered here (expr.Match p e arms)).code ls x))
code_Match r old new here p e arms ls x h =
    subst (λ (y : Lowering). OnOk r (Grown old new (y.code ls x)))
    (sym (lowered_Match here p e arms
    ∙ ap (λ (l : List (ArmPattern × Lowering)). form here (Expr-F.Match p (lowered here e) l))
    (branches_are here arms))) h

pub code_IsCase : (r : Result Unit AllocError) (old new : Growing) (here : Standing) (p : Pos) (e : Expr) (n k : ℕ)
    (ls : List Ty) (x : Option Ty)
    → OnOk r (Grown old new ((form here (Expr-F.IsCase p (lowered here e) n k)).code ls x))
    → OnOk r (Grown old new ((lowered here (expr.IsCase p e n k)).code ls x))
code_IsCase r old new here p e n k ls x h =
    subst (λ (y : Lowering). OnOk r (Grown old new (y.code ls x))) (sym (lowered_IsCase here p e n k)) h

pub code_Case_None : (r : Result Unit AllocError) (old new : Growing) (here : Standing) (p : Pos) (n k : ℕ)
    (ls : List Ty) (x : Option Ty)
    → OnOk r (Grown old new ((form here (Expr-F.Case p n k None)).code ls x))
    → OnOk r (Grown old new ((lowered here (expr.Case p n k None)).code ls x))
code_Case_None r old new here p n k ls x h =
    subst (λ (y : Lowering). OnOk r (Grown old new (y.code ls x))) (sym (lowered_Case_None here p n k)) h

pub code_Case_Some : (r : Result Unit AllocError) (old new : Growing) (here : Standing) (p : Pos) (n k : ℕ) (e : Expr)
    (ls : List Ty) (x : Option Ty)
    → OnOk r (Grown old new ((form here (Expr-F.Case p n k (Some (lowered here e)))).code ls x))
    → OnOk r (Grown old new ((lowered here (expr.Case p n k (Some e))).code ls x))
code_Case_Some r old new here p n k e ls x h =
    subst (λ (y : Lowering). OnOk r (Grown old new (y.code ls x))) (sym (lowered_Case_Some here p n k e)) h

pub code_Case : (r : Result Unit AllocError) (old new : Growing) (here : Standing) (p : Pos) (n k : ℕ)
    (content : Option Expr) (ls : List Ty) (x : Option Ty)
    → OnOk r (Grown old new (case_code here n k (option_map (lowered here) content) ls))
    → OnOk r (Grown old new ((lowered here (expr.Case p n k content)).code ls x))
code_Case r old new here p n k None ls x h = code_Case_None r old new here p n k ls x h
code_Case r old new here p n k (Some e) ls x h = code_Case_Some r old new here p n k e ls x h

-- fields that are lowered have the numbers that they had
numbers_are : (here : Standing) (fs : List FieldValue)
    → numbers_of (map (λ f. (f.field, lowered here f.value)) fs) ≡ map (λ f. f.field) fs
numbers_are here [] = refl
numbers_are here (f ∷ fs) = ap (λ (ns : List ℕ). f.field ∷ ns) (numbers_are here fs)

pub code_Structure : (r : Result Unit AllocError) (old new : Growing) (here : Standing) (p : Pos) (n : ℕ)
    (fields : List FieldValue) (ls : List Ty) (x : Option Ty)
    → OnOk r (Grown old new (then_code
    (values_code (fields_code (field_type here.names.decls n)
    (map (λ f. (f.field, lowered here f.value)) fields) ls))
    (packed (length ls) (map (λ f. f.field) fields))))
    → OnOk r (Grown old new ((lowered here (expr.Structure p n fields)).code ls x))
code_Structure r old new here p n fields ls x h =
    subst (λ (y : Lowering). OnOk r (Grown old new (y.code ls x)))
    (sym (lowered_Structure here p n fields
    ∙ ap (λ (l : List (ℕ × Lowering)). form here (Expr-F.Structure p n l)) (fields_are here fields)))
    (subst (λ (ns : List ℕ). OnOk r (Grown old new
    (then_code (values_code (fields_code (field_type here.names.decls n)
    (map (λ f. (f.field, lowered here f.value)) fields) ls)) (packed (length ls) ns))))
    (sym (numbers_are here fields)) h)

pub code_List : (r : Result Unit AllocError) (old new : Growing) (here : Standing) (p : Pos) (es : List Expr)
    (ls : List Ty) (x : Option Ty)
    → OnOk r (Grown old new ((form here (Expr-F.List p (map (lowered here) es))).code ls x))
    → OnOk r (Grown old new ((lowered here (expr.List p es)).code ls x))
code_List r old new here p es ls x h =
    subst (λ (y : Lowering). OnOk r (Grown old new (y.code ls x))) (sym (lowered_List here p es)) h

pub code_ForAll : (r : Result Unit AllocError) (old new : Growing) (here : Standing) (p : Pos) (l test : Expr)
    (ls : List Ty) (x : Option Ty)
    → OnOk r (Grown old new ((form here (Expr-F.ForAll p (lowered here l) (lowered here test))).code ls x))
    → OnOk r (Grown old new ((lowered here (expr.ForAll p l test)).code ls x))
code_ForAll r old new here p l test ls x h =
    subst (λ (y : Lowering). OnOk r (Grown old new (y.code ls x))) (sym (lowered_ForAll here p l test)) h

pub code_Exists : (r : Result Unit AllocError) (old new : Growing) (here : Standing) (p : Pos) (l test : Expr)
    (ls : List Ty) (x : Option Ty)
    → OnOk r (Grown old new ((form here (Expr-F.Exists p (lowered here l) (lowered here test))).code ls x))
    → OnOk r (Grown old new ((lowered here (expr.Exists p l test)).code ls x))
code_Exists r old new here p l test ls x h =
    subst (λ (y : Lowering). OnOk r (Grown old new (y.code ls x))) (sym (lowered_Exists here p l test)) h

pub code_Map : (r : Result Unit AllocError) (old new : Growing) (here : Standing) (p : Pos) (l e : Expr) (ls : List Ty)
    (x : Option Ty)
    → OnOk r (Grown old new ((form here (Expr-F.Map p (lowered here l) (lowered here e))).code ls x))
    → OnOk r (Grown old new ((lowered here (expr.Map p l e)).code ls x))
code_Map r old new here p l e ls x h =
    subst (λ (y : Lowering). OnOk r (Grown old new (y.code ls x))) (sym (lowered_Map here p l e)) h

pub code_Filter : (r : Result Unit AllocError) (old new : Growing) (here : Standing) (p : Pos) (l test : Expr)
    (ls : List Ty) (x : Option Ty)
    → OnOk r (Grown old new ((form here (Expr-F.Filter p (lowered here l) (lowered here test))).code ls x))
    → OnOk r (Grown old new ((lowered here (expr.Filter p l test)).code ls x))
code_Filter r old new here p l test ls x h =
    subst (λ (y : Lowering). OnOk r (Grown old new (y.code ls x))) (sym (lowered_Filter here p l test)) h

pub code_Combine : (r : Result Unit AllocError) (old new : Growing) (here : Standing) (p : Pos) (l start e : Expr)
    (ls : List Ty) (x : Option Ty)
    → OnOk r (Grown old new ((form here (Expr-F.Combine p (lowered here l) (lowered here start) (lowered here e))).code
    ls x)) → OnOk r (Grown old new ((lowered here (expr.Combine p l start e)).code ls x))
code_Combine r old new here p l start e ls x h =
    subst (λ (y : Lowering). OnOk r (Grown old new (y.code ls x))) (sym (lowered_Combine here p l start e)) h

pub code_Contains : (r : Result Unit AllocError) (old new : Growing) (here : Standing) (p q : Pos) (l e : Expr)
    (ls : List Ty) (x : Option Ty)
    → OnOk r (Grown old new ((form here (Expr-F.Contains p q (lowered here l) (lowered here e))).code ls x))
    → OnOk r (Grown old new ((lowered here (expr.Contains p q l e)).code ls x))
code_Contains r old new here p q l e ls x h =
    subst (λ (y : Lowering). OnOk r (Grown old new (y.code ls x))) (sym (lowered_Contains here p q l e)) h

pub code_Length : (r : Result Unit AllocError) (old new : Growing) (here : Standing) (p : Pos) (l : Expr) (ls : List Ty)
    (x : Option Ty)
    → OnOk r (Grown old new ((form here (Expr-F.Length p (lowered here l))).code ls x))
    → OnOk r (Grown old new ((lowered here (expr.Length p l)).code ls x))
code_Length r old new here p l ls x h =
    subst (λ (y : Lowering). OnOk r (Grown old new (y.code ls x))) (sym (lowered_Length here p l)) h

pub code_Sum : (r : Result Unit AllocError) (old new : Growing) (here : Standing) (p : Pos) (kind : SumKind) (l : Expr)
    (ls : List Ty) (x : Option Ty)
    → OnOk r (Grown old new ((form here (Expr-F.Sum p kind (lowered here l))).code ls x))
    → OnOk r (Grown old new ((lowered here (expr.Sum p kind l)).code ls x))
code_Sum r old new here p kind l ls x h =
    subst (λ (y : Lowering). OnOk r (Grown old new (y.code ls x))) (sym (lowered_Sum here p kind l)) h

pub code_Call : (r : Result Unit AllocError) (old new : Growing) (here : Standing) (p : Pos) (f : ℕ) (es : List Expr)
    (ls : List Ty) (x : Option Ty)
    → OnOk r (Grown old new ((form here (Expr-F.Call p f (map (lowered here) es))).code ls x))
    → OnOk r (Grown old new ((lowered here (expr.Call p f es)).code ls x))
code_Call r old new here p f es ls x h =
    subst (λ (y : Lowering). OnOk r (Grown old new (y.code ls x))) (sym (lowered_Call here p f es)) h

pub code_ScopeCall : (r : Result Unit AllocError) (old new : Growing) (here : Standing) (p : Pos) (s : ℕ)
    (fields : List FieldValue) (k : ℕ) (ls : List Ty) (x : Option Ty)
    → OnOk r (Grown old new (led (instr.Scope s)
    (then_code (pass_all (fields_code (input_type here.names.decls s)
    (map (λ f. (f.field, lowered here f.value)) fields) ls))
    (then_code (pass_absent 0 (map (λ f. f.field) fields) (scope_items here.names.decls s))
    (led instr.Enter (one (instr.Field k)))))))
    → OnOk r (Grown old new ((lowered here (expr.ScopeCall p s fields k)).code ls x))
code_ScopeCall r old new here p s fields k ls x h =
    subst (λ (y : Lowering). OnOk r (Grown old new (y.code ls x)))
    (sym (lowered_ScopeCall here p s fields k
    ∙ ap (λ (l : List (ℕ × Lowering)). form here (Expr-F.ScopeCall p s l k)) (fields_are here fields)))
    (subst (λ (ns : List ℕ). OnOk r (Grown old new
    (led (instr.Scope s) (then_code
    (pass_all (fields_code (input_type here.names.decls s) (map (λ f. (f.field, lowered here f.value)) fields) ls))
    (then_code (pass_absent 0 ns (scope_items here.names.decls s)) (led instr.Enter (one (instr.Field k))))))))
    (sym (numbers_are here fields)) h)
