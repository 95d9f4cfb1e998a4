-- The code of an expression: it pushes the value. The local names of its frame are those of the expression.
use Rattle.std.specs.Prelude.{ℕ, ◌+◌, true, false, List, [], ◌∷◌, ◌++◌, length, map, Option, Some, None, slice_get}
use Rattle.cat_value.specs.declared.value.Value.TheViews as value
use Rattle.cat_value.specs.declared.ty.Ty.{Ty}
use Rattle.cat_value.specs.declared.ty.Ty.TheViews as ty
use Rattle.cat_value.specs.declared.ty.Ty.TheViews.{out-Ty}
use Rattle.cat_value.specs.Entries.{content_of}
use Rattle.cat_scope.specs.declared.operators.BinaryOp.TheVariants.{Equal}
use Rattle.cat_scope.specs.declared.expr.ArmPattern.{ArmPattern}
use Rattle.cat_scope.specs.declared.expr.Expr.{Expr}
use Rattle.cat_scope.specs.declared.expr.Expr.TheOpen.{Expr-F}
use Rattle.cat_scope.specs.declared.expr.Expr.TheFolds.{fold-Expr}
use Rattle.cat_scope.specs.Literals.{literal_type}
use Rattle.cat_scope.specs.Signatures.{summed_type}
use Rattle.cat_scope.specs.Lists.{zero_of, adding}
use Rattle.cat_scope.specs.Composed.{literal_value}
use Rattle.cat_scope.specs.Names.{scope_items}
use Rattle.cat_scope.specs.Fitting.{field_type, input_type}
use Rattle.cat_code.specs.declared.instr.Instr.TheVariants as instr
use Rattle.cat_code.specs.OperationNumbers.{number_before, number_between, rounding_number}
use Rattle.cat_lower.specs.Laying.{Coded, one, with_constant, then_code, led, over, branch, loop}
use Rattle.cat_lower.specs.Types.{Lowering, element_type, enumeration_in, content_type, arms_type}
use Rattle.cat_lower.specs.FormTypes.{type_by}
use Rattle.cat_lower.specs.Pieces.{constant, truth, operator, packed, search_for, any_turn, all_turn, of_local}
use Rattle.cat_lower.specs.Pieces.{pass_all, pass_absent}
use Rattle.cat_lower.specs.Rows.{Standing, function_number, case_number, list_code, arms_code, arguments_code}
use Rattle.cat_lower.specs.Rows.{params_of, fields_code, values_code}

-- begins a loop that collects values of a type
abbrev pub collecting : Ty → Coded
collecting t = with_constant (λ k. instr.IterList k) (record { ty = ty.List t; value = value.List [] })

-- the code of a case with its content, where it has one
abbrev pub case_code : Standing → ℕ → ℕ → Option Lowering → List Ty → Coded
case_code here n k None locals = one (instr.TagNone (case_number here n k))
case_code here n k (Some e) locals =
    then_code (e.code locals (content_type (content_of here.names.decls n k))) (one (instr.Tag (case_number here n k)))

-- the numbers of some fields, in their order
abbrev pub numbers_of : List (ℕ × Lowering) → List ℕ
numbers_of fields = map (λ f. f.0) fields

-- the code of an expression, where each part is lowered in its place
abbrev pub code_by : Standing → Expr-F Lowering (ArmPattern × Lowering) (ℕ × Lowering) → List Ty → Option Ty → Coded
code_by here (Expr-F.Literal p l) locals x = constant (literal_type l) (literal_value l)
code_by here (Expr-F.Item p k) locals x = one (instr.Slot k)
code_by here (Expr-F.Output p item k) locals x = led (instr.Slot item) (one (instr.Field k))
code_by here (Expr-F.Local p k) locals x = one (instr.Local k)
code_by here (Expr-F.Field p e k) locals x = then_code (e.code locals None) (one (instr.Field k))
code_by here (Expr-F.Unary p o e) locals x = then_code (e.code locals None) (operator (number_before o) 0 p)
code_by here (Expr-F.Binary p o q a b) locals x =
    then_code (a.code locals None) (then_code (b.code locals None)
    (operator (number_between o) (rounding_number here.rounding) q))
code_by here (Expr-F.And p a b) locals x =
    then_code (a.code locals None) (branch (λ t. instr.JumpFalse t) (b.code locals None) (truth false))
code_by here (Expr-F.Or p a b) locals x =
    then_code (a.code locals None) (branch (λ t. instr.JumpFalse t) (truth true) (b.code locals None))
code_by here (Expr-F.If p c a b) locals x =
    then_code (c.code locals None)
    (branch (λ t. instr.JumpFalse t) (a.code locals x) (b.code locals (Some (a.type locals x))))
code_by here (Expr-F.Match p e arms) locals x =
    then_code (e.code locals None) (led instr.Bind (arms_code here (enumeration_in (out-Ty (e.type locals None)))
    (arms_type here.names.decls (enumeration_in (out-Ty (e.type locals None))) arms locals x) arms locals x))
code_by here (Expr-F.IsCase p e n k) locals x =
    then_code (e.code locals None) (one (instr.IsCase (case_number here n k)))
code_by here (Expr-F.Case p n k content) locals x = case_code here n k content locals
code_by here (Expr-F.Structure p n fields) locals x =
    then_code (values_code (fields_code (field_type here.names.decls n) fields locals))
    (packed (length locals) (numbers_of fields))
code_by here (Expr-F.List p es) locals x = list_code es locals x
code_by here (Expr-F.ForAll p l test) locals x =
    then_code (l.code locals None) (led instr.Iter
    (search_for (all_turn (of_local (test.code (locals ++ element_type (l.type locals None) ∷ []) None))) true))
code_by here (Expr-F.Exists p l test) locals x =
    then_code (l.code locals None) (led instr.Iter
    (search_for (any_turn (of_local (test.code (locals ++ element_type (l.type locals None) ∷ []) None))) false))
code_by here (Expr-F.Map p l e) locals x =
    then_code (l.code locals None)
    (then_code (collecting (e.type (locals ++ element_type (l.type locals None) ∷ []) None))
    (loop (led instr.Bind (then_code (e.code (locals ++ element_type (l.type locals None) ∷ []) None)
    (led instr.Collect (one (instr.Drop 1)))))))
code_by here (Expr-F.Filter p l test) locals x =
    then_code (l.code locals None) (then_code (collecting (element_type (l.type locals None)))
    (loop (led instr.Bind (then_code (test.code (locals ++ element_type (l.type locals None) ∷ []) None)
    (then_code (over (λ t. instr.JumpFalse t) (led (instr.Local (length locals)) (one instr.Collect)))
    (one (instr.Drop 1)))))))
code_by here (Expr-F.Combine p l start e) locals x =
    then_code (l.code locals None) (then_code (start.code locals None)
    (led instr.Bind (led instr.Bind (led (instr.Local (length locals)) (led (instr.Local (length locals + 1))
    (led (instr.Drop 2) (led instr.Iter
    (loop (led instr.Bind (led instr.Bind (then_code
    (e.code (locals ++ element_type (l.type locals None) ∷ start.type locals None ∷ []) (Some (start.type locals None)))
    (one (instr.Drop 2)))))))))))))
code_by here (Expr-F.Contains p q l e) locals x =
    then_code (l.code locals None) (then_code (e.code locals None) (led instr.Bind (led instr.Iter (then_code
    (search_for (any_turn (led (instr.Local (length locals)) (operator (number_between Equal) 0 q))) false)
    (one (instr.Drop 1))))))
code_by here (Expr-F.Length p l) locals x = then_code (l.code locals None) (one instr.Length)
code_by here (Expr-F.Sum p kind l) locals x =
    then_code (constant (summed_type kind) (zero_of kind)) (then_code (l.code locals None)
    (led instr.Iter (loop (operator (number_between (adding kind)) 0 p))))
code_by here (Expr-F.Call p f es) locals x =
    then_code (arguments_code (params_of (slice_get here.names.items f)) es locals)
    (one (instr.Call (function_number here f) (length es)))
code_by here (Expr-F.ScopeCall p s fields k) locals x =
    led (instr.Scope s) (then_code (pass_all (fields_code (input_type here.names.decls s) fields locals))
    (then_code (pass_absent 0 (numbers_of fields) (scope_items here.names.decls s))
    (led instr.Enter (one (instr.Field k)))))

-- an expression, lowered
unfoldable pub lowered : Standing → Expr → Lowering
lowered here = fold-Expr Lowering (ArmPattern × Lowering) (ℕ × Lowering)
    (λ y. record { type = type_by here.names y; code = code_by here y }) (λ a. (a.pattern, a.body))
    (λ f. (f.field, f.value))
