-- Code of forms whose parts are told by types that are equal.
use Rattle.std.proofs.Common.{◌≡◌, ℕ, ◌+◌, false, List, [], ◌∷◌, ◌++◌, length, map, Option, Some, None, Result, Ok, Err}
use Rattle.std.proofs.Common.{OnOk, refl, sym, ap, ◌∙◌, subst, take, drop, slice_get, get_or, suc, ◌-◌, ◌≤◌, arith}
use Rattle.std.proofs.lemmas.List.{take_all, length-map}
use Rattle.std.specs.declared.alloc.AllocError.{AllocError}
use Rattle.cat_pos.specs.declared.pos.Pos.{Pos}
use Rattle.cat_value.specs.declared.ty.Ty.{Ty}
use Rattle.cat_value.specs.declared.ty.Ty.TheViews as ty
use Rattle.cat_value.specs.declared.value.Value.TheViews as value
use Rattle.cat_scope.specs.declared.operators.BinaryOp.TheVariants.{Equal}
use Rattle.cat_scope.specs.declared.expr.ArmPattern.{ArmPattern}
use Rattle.cat_scope.specs.declared.expr.Arm.{Arm}
use Rattle.cat_scope.specs.declared.expr.Expr.{Expr}
use Rattle.cat_code.specs.declared.instr.Instr.{Instr}
use Rattle.cat_code.specs.declared.instr.Instr.TheVariants as instr
use Rattle.cat_code.specs.OperationNumbers.{number_between}
use Rattle.cat_lower.specs.declared.growing.Growing.{Growing}
use Rattle.cat_lower.specs.Laying.{Ends, Coded, nothing, one, with_constant, then_code, led, skip, end_of, over}
use Rattle.cat_lower.specs.Laying.{all_code}
use Rattle.cat_lower.specs.Grown.{ends_of, Grown, Patched, all_patched}
use Rattle.cat_lower.specs.Pieces.{operator, search_for, any_turn, of_local, arm_body, first_side}
use Rattle.cat_lower.specs.Types.{Lowering, element_expected, arm_types, is_bound}
use Rattle.cat_lower.specs.Rows.{Standing, row_code, list_code, arms_code, arguments_code, case_number}
use Rattle.cat_lower.specs.Expressions.{lowered, collecting}
use Rattle.cat_lower.proofs.Grows.{then_ok, grown_then, grown_at, patched, place_behind}
use Rattle.cat_lower.proofs.Regrouped.{after_joined}
use Rattle.cat_lower.proofs.Rests.{rest_from, none_from, none_more_from, step_on}
use Rattle.cat_lower.proofs.Chained.{side}

pub typed_alike : (here : Standing) (e : Expr) (x : Option Ty) (later first : List Ty) → later ≡ first
    → (lowered here e).type later x ≡ (lowered here e).type first x
typed_alike here e x later first is = ap (λ (ls : List Ty). (lowered here e).type ls x) is

-- a part under one name more
pub under_code : (old new : Growing) (here : Standing) (e : Expr) (x : Option Ty) (later first : List Ty) (t u : Ty)
    → later ≡ first → t ≡ u
    → Grown old new ((lowered here e).code (later ++ t ∷ []) x)
    → Grown old new ((lowered here e).code (first ++ u ∷ []) x)
under_code old new here e x later first t u is_locals is_type g =
    subst (λ (v : Ty). Grown old new ((lowered here e).code (first ++ v ∷ []) x)) is_type
    (subst (λ (ls : List Ty). Grown old new ((lowered here e).code (ls ++ t ∷ []) x)) is_locals g)

pub tested : (old new : Growing) (here : Standing) (e : Expr) (later first : List Ty) (t u : Ty) → later ≡ first → t ≡ u
    → Grown old new (of_local ((lowered here e).code (later ++ t ∷ []) None))
    → Grown old new (of_local ((lowered here e).code (first ++ u ∷ []) None))
tested old new here e later first t u is_locals is_type g =
    subst (λ (v : Ty). Grown old new (of_local ((lowered here e).code (first ++ v ∷ []) None))) is_type
    (subst (λ (ls : List Ty). Grown old new (of_local ((lowered here e).code (ls ++ t ∷ []) None))) is_locals g)

pub collected : (old new : Growing) (t u : Ty) → t ≡ ty.List u
    → Grown old new (with_constant (λ k. instr.IterList k) (record { ty = t; value = value.List [] }))
    → Grown old new (collecting u)
collected old new t u is g =
    subst (λ (v : Ty). Grown old new (with_constant (λ k. instr.IterList k) (record { ty = v; value = value.List [] })))
    is g

-- a step of what is combined
abbrev step_code : Standing → Expr → List Ty → Ty → Ty → Coded
step_code here e ls t u =
    led instr.Bind (led instr.Bind (then_code ((lowered here e).code (ls ++ t ∷ u ∷ []) (Some u)) (one (instr.Drop 2))))

pub stepped : (old new : Growing) (here : Standing) (e : Expr) (later first : List Ty) (t v u : Ty) (w : Ty)
    → later ≡ first → t ≡ v → u ≡ w
    → Grown old new (step_code here e later t u) → Grown old new (step_code here e first v w)
stepped old new here e later first t v u w is_locals is_element is_total g =
    subst (λ (z : Ty). Grown old new (step_code here e first v z)) is_total
    (subst (λ (z : Ty). Grown old new (step_code here e first z u)) is_element
    (subst (λ (ls : List Ty). Grown old new (step_code here e ls t u)) is_locals g))

-- the code of a list and what stands behind it that change places
abbrev pub exchanged_code : ℕ → Coded
exchanged_code n =
    led instr.Bind (led instr.Bind (led (instr.Local n) (led (instr.Local (n + 1)) (one (instr.Drop 2)))))

-- the code of a test whether an element of a list is equal to what stands behind it
abbrev pub contained_code : ℕ → Pos → Coded
contained_code n p =
    led instr.Bind (led instr.Iter (then_code
    (search_for (any_turn (led (instr.Local n) (operator (number_between Equal) 0 p))) false) (one (instr.Drop 1))))

-- the code that collects an element where its test is true
abbrev pub kept_code_at : ℕ → Coded
kept_code_at n =
    then_code (over (λ t. instr.JumpFalse t) (led (instr.Local n) (one instr.Collect))) (one (instr.Drop 1))

-- a loop behind an exchange
pub led_ok : (r : Result Unit AllocError) (t1 t2 t3 new : Growing) (n : ℕ) (a : Coded) → Grown t1 t2 (exchanged_code n)
    → Grown t2 t3 (one instr.Iter)
    → OnOk r (Grown t3 new a)
    → OnOk r (Grown t1 new (led instr.Bind
    (led instr.Bind (led (instr.Local n) (led (instr.Local (n + 1)) (led (instr.Drop 2) (led instr.Iter a)))))))
led_ok (Ok u) t1 t2 t3 new n a g h k =
    grown_at t1 new (then_code (exchanged_code n) (led instr.Iter a))
    (led instr.Bind (led instr.Bind
    (led (instr.Local n) (led (instr.Local (n + 1)) (led (instr.Drop 2) (led instr.Iter a)))))) refl
    (grown_then t1 t2 new (exchanged_code n) (led instr.Iter a) g (grown_then t2 t3 new (one instr.Iter) a h k))
led_ok (Err e) t1 t2 t3 new n a g h k = tt

-- expressions of one type
pub all_told : (r : Result Unit AllocError) (old new : Growing) (here : Standing) (es : List Expr)
    (later first : List Ty) (t u : Ty)
    → later ≡ first → t ≡ u
    → OnOk r (Grown old new (all_code (map (λ o. o.code later (Some t)) (map (lowered here) es))))
    → OnOk r (Grown old new (all_code (map (λ o. o.code first (Some u)) (map (lowered here) es))))
all_told r old new here es later first t u is_locals is_type g =
    subst (λ (v : Ty). OnOk r (Grown old new (all_code (map (λ o. o.code first (Some v)) (map (lowered here) es)))))
    is_type
    (subst (λ (ls : List Ty). OnOk r (Grown old new (all_code (map (λ o. o.code ls (Some t)) (map (lowered here) es)))))
    is_locals g)

front_of : (es : List Expr) (e d : Expr) → 1 ≤ length es → e ≡ get_or es 0 d → es ≡ e ∷ take (length es - 1) (drop 1 es)
front_of [] e d some is = absurd (omega (arith, some))
front_of (x ∷ xs) e d some is =
    let all : take (suc (length xs) - 1) xs ≡ xs = take_all (suc (length xs) - 1) xs (omega arith) in
    ap (λ (l : List Expr). x ∷ l) (sym all) ∙ ap (λ (y : Expr). y ∷ take (suc (length xs) - 1) xs) (sym is)

-- a list that isn't empty
pub list_told : (r : Result Unit AllocError) (old mid new : Growing) (here : Standing) (es items : List Expr)
    (e d : Expr) (ls : List Ty)
    (x y : Option Ty) (n : ℕ) → items ≡ es → 1 ≤ length items → e ≡ get_or items 0 d → y ≡ element_expected x
    → n ≡ length es
    → OnOk r (Grown mid new (one (instr.List n)))
    → Grown old mid (row_code (lowered here e ∷ map (lowered here) (take (length items - 1) (drop 1 items))) ls y)
    → OnOk r (Grown old new (list_code (map (lowered here) es) ls x))
list_told r old mid new here es items e d ls x y n same some is told long put laid =
    let rest = take (length items - 1) (drop 1 items) in
    let front : es ≡ e ∷ rest = sym same ∙ front_of items e d some is in
    let count : n ≡ length (map (lowered here) (e ∷ rest)) =
    long ∙ ap (λ (all : List Expr). length all) front ∙ sym (length-map (e ∷ rest) (lowered here)) in
    subst (λ (all : List Expr). OnOk r (Grown old new (list_code (map (lowered here) all) ls x))) (sym front)
    (then_ok r old mid new (row_code (map (lowered here) (e ∷ rest)) ls (element_expected x))
    (one (instr.List (length (map (lowered here) (e ∷ rest)))))
    (subst (λ (z : Option Ty). Grown old mid (row_code (map (lowered here) (e ∷ rest)) ls z)) told laid)
    (subst (λ (m : ℕ). OnOk r (Grown mid new (one (instr.List m)))) count put))

-- arms by the number of their enumeration and their type
pub arms_told : (r : Result Unit AllocError) (old new : Growing) (here : Standing) (arms : List (ArmPattern × Lowering))
    (x : Option Ty)
    (n m : ℕ) (t u : Ty) (later first : List Ty) → n ≡ m → t ≡ u → later ≡ first
    → OnOk r (Grown old new (arms_code here n t arms later x))
    → OnOk r (Grown old new (arms_code here m u arms first x))
arms_told r old new here arms x n m t u later first is_number is_type is_locals g =
    subst (λ (ls : List Ty). OnOk r (Grown old new (arms_code here m u arms ls x))) is_locals
    (subst (λ (v : Ty). OnOk r (Grown old new (arms_code here m v arms later x))) is_type
    (subst (λ (k : ℕ). OnOk r (Grown old new (arms_code here k t arms later x))) is_number g))

-- an argument in front of others
pub argument_next : (params : List Ty) (i : ℕ) (e : Lowering) (es : List Lowering) (ls : List Ty)
    → arguments_code (drop i params) (e ∷ es) ls
    ≡ then_code (e.code ls (slice_get params i)) (arguments_code (drop (i + 1) params) es ls)
argument_next params i e es ls = by (slice_get params i) refl
  where
    by : (o : Option Ty) → slice_get params i ≡ o
        → arguments_code (drop i params) (e ∷ es) ls
        ≡ then_code (e.code ls o) (arguments_code (drop (i + 1) params) es ls)
    by None is =
        ap (λ (ps : List Ty). arguments_code ps (e ∷ es) ls) (none_from params i is)
        ∙ ap (λ (ps : List Ty). then_code (e.code ls None) (arguments_code ps es ls)) (sym (none_more_from params i is))
    by (Some p) is = ap (λ (ps : List Ty). arguments_code ps (e ∷ es) ls) (rest_from params i p is)

pub no_arguments : (params ls : List Ty) → arguments_code params [] ls ≡ nothing
no_arguments [] ls = refl
no_arguments (p ∷ ps) ls = refl

-- a part is laid and passed, and the rest is left
pub pass_on : (old t1 t2 t3 new : Growing) (before a : Coded) (n : ℕ) (rest whole : Coded)
    → before ≡ then_code a (led (instr.Pass n) rest)
    → ((t : Growing) → Grown t1 t before → Grown old t whole) → Grown t1 t2 a → Grown t2 t3 (one (instr.Pass n))
    → Grown t3 new rest
    → Grown old new whole
pass_on old t1 t2 t3 new before a n rest whole is so_far g p h =
    step_on old t1 t2 new before a (led (instr.Pass n) rest) whole is so_far g
    (grown_then t2 t3 new (one (instr.Pass n)) rest p h)

-- an arm under the same names
pub side_told : (old new : Growing) (here : Standing) (n k : ℕ) (a : Arm) (x : Option Ty) (later first : List Ty)
    → later ≡ first
    → Grown old new (side (length later) (case_number here n k) (arm_body (length later) (is_bound a.pattern)
    ((lowered here a.body).code (arm_types here.names.decls n a.pattern later) x)))
    → Grown old new (side (length first) (case_number here n k) (arm_body (length first) (is_bound a.pattern)
    ((lowered here a.body).code (arm_types here.names.decls n a.pattern first) x)))
side_told old new here n k a x later first is g =
    subst (λ (ls : List Ty). Grown old new
    (side (length ls) (case_number here n k) (arm_body (length ls) (is_bound a.pattern)
    ((lowered here a.body).code (arm_types here.names.decls n a.pattern ls) x)))) is g

-- the jump in front of the first side is patched
pub side_closed : (t1 t2 t3 t4 t5 : Growing) (body : Coded) (test end : ℕ) (x : Instr) → Grown t1 t2 (one x)
    → Grown t2 t3 body
    → Grown t3 t4 (one (instr.Jump 0)) → test ≡ length t1.instructions → end ≡ length t4.instructions
    → Patched t4 t5 test (instr.JumpFalse end) → Grown t1 t5 (first_side body)
side_closed t1 t2 t3 t4 t5 body test end x g h k is_test is_end p =
    let part : Coded = then_code body (one (instr.Jump 0)) in
    let ends = ends_of t1 in
    let laid = grown_then t1 t2 t4 (one x) part g (grown_then t2 t3 t4 body (one (instr.Jump 0)) h k) in
    let whole = patched t1 t4 t5 x (instr.JumpFalse end) part test laid is_test p in
    let behind : end_of part (skip ends) ≡ skip (end_of body (skip ends)) =
    after_joined (skip ends) (body (skip ends)) (one (instr.Jump 0) (end_of body (skip ends))) in
    let at_end : end ≡ (skip (end_of body (skip ends))).place =
    is_end ∙ place_behind t1 t4 (led x part) laid ∙ ap (λ (e : Ends). e.place) behind in
    grown_at t1 t5 (led (instr.JumpFalse end) part) (first_side body)
    (ap (λ (n : ℕ). led (instr.JumpFalse n) part ends) at_end) whole

-- the jumps behind all arms are patched
pub ends_patched : (r : Growing) (old new : Growing) (places : List ℕ) (end : ℕ) (whole : Coded)
    → end ≡ length r.instructions
    → new ≡ all_patched places (instr.Jump end) r
    → Grown old (all_patched places (instr.Jump (length r.instructions)) r) whole → Grown old new whole
ends_patched r old new places end whole is_end is g =
    subst (λ (t : Growing). Grown old t whole) (sym is)
    (subst (λ (n : ℕ). Grown old (all_patched places (instr.Jump n) r) whole) (sym is_end) g)
