-- Lowered expressions have the files of their operations: one lemma a form.
use Rattle.std.proofs.Common.{ℕ, true, false, List, [], ◌∷◌, ◌++◌, length, map, Option, Some, None, subst}
use Rattle.std.proofs.Common.{sym, slice_get}
use Rattle.cat_pos.specs.declared.pos.Pos.{Pos}
use Rattle.cat_value.specs.declared.ty.Ty.{Ty}
use Rattle.cat_scope.specs.declared.expr.Literal.{Literal}
use Rattle.cat_scope.specs.declared.operators.UnaryOp.{UnaryOp}
use Rattle.cat_scope.specs.declared.operators.BinaryOp.{BinaryOp}
use Rattle.cat_scope.specs.declared.operators.SumKind.{SumKind}
use Rattle.cat_scope.specs.declared.expr.ArmPattern.{ArmPattern}
use Rattle.cat_scope.specs.declared.expr.ArmPattern.TheVariants as pattern
use Rattle.cat_scope.specs.declared.expr.Expr.{Expr}
use Rattle.cat_scope.specs.declared.expr.FieldValue.{FieldValue}
use Rattle.cat_scope.specs.declared.expr.Arm.{Arm}
use Rattle.cat_scope.specs.declared.expr.Expr.TheVariants as leaf
use Rattle.cat_scope.specs.declared.expr.Expr.TheViews as expr
use Rattle.cat_scope.specs.Fitting.{field_type, input_type}
use Rattle.cat_scope.specs.Mentions.{joined}
use Rattle.cat_scope.specs.Names.{AllHave, scope_items}
use Rattle.cat_scope.proofs.Namings as named
use Rattle.cat_scope.proofs.Exported.{names_in_field, names_in_arm, names_in_field_is, names_in_arm_is}
use Rattle.cat_scope.proofs.Exported.{Each, Within, induction}
use Rattle.cat_sound.proofs.Exported.{all_back, all_front}
use Rattle.cat_code.specs.declared.instr.Instr.TheVariants as instr
use Rattle.cat_code.specs.OperationNumbers.{number_before, number_between, rounding_number}
use Rattle.cat_code.specs.declared.code.TargetEntry.{TargetEntry}
use Rattle.cat_lower.specs.Files.{own_file, files_in}
use Rattle.cat_lower.specs.Laying.{Coded}
use Rattle.cat_lower.specs.Types.{Lowering, element_expected}
use Rattle.cat_lower.specs.Types.{arm_types}
use Rattle.cat_lower.specs.Rows.{Standing, row_code, list_code, arm_code, arms_code, arguments_code, params_of}
use Rattle.cat_lower.specs.Rows.{fields_code, values_code}
use Rattle.cat_lower.specs.Expressions.{lowered, numbers_of}
use Rattle.cat_lower.proofs.LoweredEquations as made
use Rattle.cat_lower.proofs.LoweredEquations.{branch, field, branch_is, field_is}
use Rattle.cat_lower.proofs.LaidFiles as laid
use Rattle.cat_lower.proofs.LaidFiles.{Fits}

-- ---- lists

pub each_on : {A : Type 0} (P R : A → Type 0) (xs : List A) → Each (λ x. P x → R x) xs → Each P xs → Each R xs
each_on P R [] go h = tt
each_on P R (x ∷ xs) go h = (go.0 h.0, each_on P R xs go.1 h.1)

pub each_mapped : {A B : Type 0} (P : A → Type 0) (R : B → Type 0) (f : A → B) (xs : List A) → ((x : A) → P x → R (f x))
    → Each P xs → AllHave R (map f xs)
each_mapped P R f [] go h = tt
each_mapped P R f (x ∷ xs) go h = (go x h.0, each_mapped P R f xs go h.1)

module _ (Q : ℕ → Type 0) (T : TargetEntry → Type 0) (here : Standing) where
  -- a lowered part has such files, wherever it stands
  abbrev pub LowFits : Lowering → Type 0
  LowFits l = (locals : List Ty) (x : Option Ty) → Fits Q T (l.code locals x)

  abbrev Has : Expr → Type 0
  Has e = AllHave Q (files_in e)

  abbrev Held : Expr → Type 0
  Held e = Has e → LowFits (lowered here e)

  -- ---- parts in a row

  each_file : (es : List Expr) → AllHave Q (joined (map files_in es)) → Each Has es
  each_file [] h = tt
  each_file (e ∷ es) h =
      let more = joined (map files_in es) in
      (all_front Q (files_in e) more h, each_file es (all_back Q (files_in e) more h))

  each_value : (fs : List FieldValue) → AllHave Q (joined (map (names_in_field own_file) fs))
      → Each (λ f. Has f.value) fs
  each_value [] h = tt
  each_value (f ∷ fs) h = (
    subst (AllHave Q) (names_in_field_is own_file f)
        (all_front Q (names_in_field own_file f) (joined (map (names_in_field own_file) fs)) h),
    each_value fs (all_back Q (names_in_field own_file f) (joined (map (names_in_field own_file) fs)) h),
  )

  each_body : (arms : List Arm) → AllHave Q (joined (map (names_in_arm own_file) arms)) → Each (λ a. Has a.body) arms
  each_body [] h = tt
  each_body (a ∷ arms) h = (
    subst (AllHave Q) (names_in_arm_is own_file a)
        (all_front Q (names_in_arm own_file a) (joined (map (names_in_arm own_file) arms)) h),
    each_body arms (all_back Q (names_in_arm own_file a) (joined (map (names_in_arm own_file) arms)) h),
  )

  all_low : (es : List Expr) → Each Held es → Each Has es → AllHave LowFits (map (lowered here) es)
  all_low es held has =
      each_mapped (λ e. LowFits (lowered here e)) LowFits (lowered here) es (λ e h. h)
      (each_on Has (λ e. LowFits (lowered here e)) es held has)

  fields_low : (fs : List FieldValue) → Each (λ f. Held f.value) fs → Each (λ f. Has f.value) fs
      → AllHave (λ (f : ℕ × Lowering). LowFits f.1) (map (field here) fs)
  fields_low fs held has =
      each_mapped (λ f. LowFits (lowered here f.value)) (λ (f : ℕ × Lowering). LowFits f.1) (field here) fs
      (λ f h. subst (λ (x : ℕ × Lowering). LowFits x.1) (sym (field_is here f)) h)
      (each_on (λ f. Has f.value) (λ f. LowFits (lowered here f.value)) fs held has)

  arms_low : (arms : List Arm) → Each (λ a. Held a.body) arms → Each (λ a. Has a.body) arms
      → AllHave (λ (a : ArmPattern × Lowering). LowFits a.1) (map (branch here) arms)
  arms_low arms held has =
      each_mapped (λ a. LowFits (lowered here a.body)) (λ (a : ArmPattern × Lowering). LowFits a.1) (branch here) arms
      (λ a h. subst (λ (x : ArmPattern × Lowering). LowFits x.1) (sym (branch_is here a)) h)
      (each_on (λ a. Has a.body) (λ a. LowFits (lowered here a.body)) arms held has)

  fits_row : (es : List Lowering) → AllHave LowFits es → (locals : List Ty) (x : Option Ty)
      → Fits Q T (row_code es locals x)
  fits_row [] h locals x = laid.fits_nothing Q T
  fits_row (e ∷ es) h locals x =
      laid.fits_then Q T _ _ (h.0 locals x) (laid.fits_all Q T _ (later es h.1))
    where
      later : (os : List Lowering) → AllHave LowFits os
          → AllHave (Fits Q T) (map (λ (o : Lowering). o.code locals (Some (e.type locals x))) os)
      later [] h = tt
      later (o ∷ os) h = (h.0 locals (Some (e.type locals x)), later os h.1)

  fits_list : (es : List Lowering) → AllHave LowFits es → (locals : List Ty) (x : Option Ty)
      → Fits Q T (list_code es locals x)
  fits_list [] h locals None = laid.fits_constant Q T _ _
  fits_list [] h locals (Some t) = laid.fits_constant Q T _ _
  fits_list (e ∷ es) h locals x =
      laid.fits_then Q T _ _ (fits_row (e ∷ es) h locals (element_expected x)) (laid.fits_one Q T _)

  fits_arm : (n i : ℕ) (p : ArmPattern) (body rest : Coded) → Fits Q T body → Fits Q T rest
      → Fits Q T (arm_code here n i p body rest)
  fits_arm n i pattern.Anything body rest f g = laid.fits_led Q T (instr.Drop 1) body f
  fits_arm n i (pattern.Case k bound) body rest f g =
      laid.fits_led Q T _ _ (laid.fits_led Q T _ _ (laid.fits_branch Q T (λ t. instr.JumpFalse t) _ rest
      (laid.fits_arm Q T i bound body f) g))

  fits_arms : (n : ℕ) (t : Ty) (arms : List (ArmPattern × Lowering))
      → AllHave (λ (a : ArmPattern × Lowering). LowFits a.1) arms
      → (locals : List Ty) (x : Option Ty) → Fits Q T (arms_code here n t arms locals x)
  fits_arms n t [] h locals x = laid.fits_then Q T _ _ (laid.fits_constant Q T _ _) (laid.fits_one Q T _)
  fits_arms n t (a ∷ arms) h locals x =
      fits_arm n (length locals) a.0 _ _ (h.0 (arm_types here.names.decls n a.0 locals) x)
      (fits_arms n t arms h.1 locals (Some t))

  fits_arguments : (params : List Ty) (es : List Lowering) → AllHave LowFits es → (locals : List Ty)
      → Fits Q T (arguments_code params es locals)
  fits_arguments params [] h locals = laid.fits_nothing Q T
  fits_arguments [] (e ∷ es) h locals = laid.fits_then Q T _ _ (h.0 locals None) (fits_arguments [] es h.1 locals)
  fits_arguments (p ∷ ps) (e ∷ es) h locals =
      laid.fits_then Q T _ _ (h.0 locals (Some p)) (fits_arguments ps es h.1 locals)

  fits_fields : (expected : ℕ → Option Ty) (fs : List (ℕ × Lowering))
      → AllHave (λ (f : ℕ × Lowering). LowFits f.1) fs → (locals : List Ty)
      → AllHave (λ (f : ℕ × Coded). Fits Q T f.1) (fields_code expected fs locals)
  fits_fields expected [] h locals = tt
  fits_fields expected (f ∷ fs) h locals = (h.0 locals (expected f.0), fits_fields expected fs h.1 locals)

  fits_values : (fs : List (ℕ × Coded)) → AllHave (λ (f : ℕ × Coded). Fits Q T f.1) fs → Fits Q T (values_code fs)
  fits_values [] h = laid.fits_nothing Q T
  fits_values (f ∷ fs) h = laid.fits_then Q T _ _ h.0 (fits_values fs h.1)

  -- ---- each form

  on_literal : (p : Pos) (l : Literal) → Held (leaf.Literal p l)
  on_literal p l h = rw (made.lowered_Literal here p l) (λ locals x. laid.fits_constant Q T _ _)

  on_item : (p : Pos) (item : ℕ) → Held (leaf.Item p item)
  on_item p item h = rw (made.lowered_Item here p item) (λ locals x. laid.fits_one Q T _)

  on_output : (p : Pos) (item k : ℕ) → Held (leaf.Output p item k)
  on_output p item k h =
      rw (made.lowered_Output here p item k) (λ locals x. laid.fits_led Q T _ _ (laid.fits_one Q T _))

  on_local : (p : Pos) (k : ℕ) → Held (leaf.Local p k)
  on_local p k h = rw (made.lowered_Local here p k) (λ locals x. laid.fits_one Q T _)

  on_field : (p : Pos) (e : Expr) (k : ℕ) → Held e → Held (expr.Field p e k)
  on_field p e k he h =
      let has = subst (AllHave Q) (named.named_Field own_file p e k) h in
      rw (made.lowered_Field here p e k)
      (λ locals x. laid.fits_then Q T _ _ (he has locals None) (laid.fits_one Q T _))

  on_unary : (p : Pos) (o : UnaryOp) (e : Expr) → Held e → Held (expr.Unary p o e)
  on_unary p o e he h =
      let has = subst (AllHave Q) (named.named_Unary own_file p o e) h in
      rw (made.lowered_Unary here p o e)
      (λ locals x. laid.fits_then Q T _ _ (he has.1 locals None) (laid.fits_operator Q T (number_before o) 0 p has.0))

  on_binary : (p : Pos) (o : BinaryOp) (q : Pos) (a b : Expr) → Held a → Held b → Held (expr.Binary p o q a b)
  on_binary p o q a b ha hb h =
      let has = subst (AllHave Q) (named.named_Binary own_file p o q a b) h in
      let one = all_front Q (files_in a) (files_in b) has.1 in
      let other = all_back Q (files_in a) (files_in b) has.1 in
      rw (made.lowered_Binary here p o q a b)
      (λ locals x. laid.fits_then Q T _ _ (ha one locals None) (laid.fits_then Q T _ _ (hb other locals None)
      (laid.fits_operator Q T (number_between o) (rounding_number here.rounding) q has.0)))

  on_and : (p : Pos) (a b : Expr) → Held a → Held b → Held (expr.And p a b)
  on_and p a b ha hb h =
      let has = subst (AllHave Q) (named.named_And own_file p a b) h in
      let one = all_front Q (files_in a) (files_in b) has in
      let other = all_back Q (files_in a) (files_in b) has in
      rw (made.lowered_And here p a b)
      (λ locals x. laid.fits_then Q T _ _ (ha one locals None)
      (laid.fits_branch Q T (λ t. instr.JumpFalse t) _ _ (hb other locals None) (laid.fits_truth Q T false)))

  on_or : (p : Pos) (a b : Expr) → Held a → Held b → Held (expr.Or p a b)
  on_or p a b ha hb h =
      let has = subst (AllHave Q) (named.named_Or own_file p a b) h in
      let one = all_front Q (files_in a) (files_in b) has in
      let other = all_back Q (files_in a) (files_in b) has in
      rw (made.lowered_Or here p a b)
      (λ locals x. laid.fits_then Q T _ _ (ha one locals None)
      (laid.fits_branch Q T (λ t. instr.JumpFalse t) _ _ (laid.fits_truth Q T true) (hb other locals None)))

  on_if : (p : Pos) (c a b : Expr) → Held c → Held a → Held b → Held (expr.If p c a b)
  on_if p c a b hc ha hb h =
      let has = subst (AllHave Q) (named.named_If own_file p c a b) h in
      let both = all_front Q (files_in c ++ files_in a) (files_in b) has in
      let other = all_back Q (files_in c ++ files_in a) (files_in b) has in
      let test = all_front Q (files_in c) (files_in a) both in
      let one = all_back Q (files_in c) (files_in a) both in
      rw (made.lowered_If here p c a b)
      (λ locals x. laid.fits_then Q T _ _ (hc test locals None)
      (laid.fits_branch Q T (λ t. instr.JumpFalse t) _ _ (ha one locals x) (hb other locals _)))

  on_match : (p : Pos) (e : Expr) (arms : List Arm) → Held e → Each (λ a. Held a.body) arms
      → Held (expr.Match p e arms)
  on_match p e arms he held h =
      let has = subst (AllHave Q) (named.named_Match own_file p e arms) h in
      let one = all_front Q (files_in e) _ has in
      let low = arms_low arms held (each_body arms (all_back Q (files_in e) _ has)) in
      rw (made.lowered_Match here p e arms)
      (λ locals x. laid.fits_then Q T _ _ (he one locals None)
      (laid.fits_led Q T _ _ (fits_arms _ _ (map (branch here) arms) low locals x)))

  on_is_case : (p : Pos) (e : Expr) (n k : ℕ) → Held e → Held (expr.IsCase p e n k)
  on_is_case p e n k he h =
      let has = subst (AllHave Q) (named.named_IsCase own_file p e n k) h in
      rw (made.lowered_IsCase here p e n k)
      (λ locals x. laid.fits_then Q T _ _ (he has locals None) (laid.fits_one Q T _))

  on_case : (p : Pos) (n k : ℕ) (content : Option Expr) → Within Held content → Held (expr.Case p n k content)
  on_case p n k None held h = rw (made.lowered_Case_None here p n k) (λ locals x. laid.fits_one Q T _)
  on_case p n k (Some e) held h =
      let has = subst (AllHave Q) (named.named_Case_Some own_file p n k e) h in
      rw (made.lowered_Case_Some here p n k e)
      (λ locals x. laid.fits_then Q T _ _ (held has locals _) (laid.fits_one Q T _))

  on_structure : (p : Pos) (n : ℕ) (fields : List FieldValue) → Each (λ f. Held f.value) fields
      → Held (expr.Structure p n fields)
  on_structure p n fields held h =
      let has = subst (AllHave Q) (named.named_Structure own_file p n fields) h in
      let low = fields_low fields held (each_value fields has) in
      rw (made.lowered_Structure here p n fields)
      (λ locals x. laid.fits_then Q T _ _
      (fits_values _ (fits_fields (field_type here.names.decls n) (map (field here) fields) low locals))
      (laid.fits_packed Q T (length locals) (numbers_of (map (field here) fields))))

  on_list : (p : Pos) (es : List Expr) → Each Held es → Held (expr.List p es)
  on_list p es held h =
      let has = subst (AllHave Q) (named.named_List own_file p es) h in
      let low = all_low es held (each_file es has) in
      rw (made.lowered_List here p es) (λ locals x. fits_list (map (lowered here) es) low locals x)

  on_for_all : (p : Pos) (l test : Expr) → Held l → Held test → Held (expr.ForAll p l test)
  on_for_all p l test hl ht h =
      let has = subst (AllHave Q) (named.named_ForAll own_file p l test) h in
      let one = all_front Q (files_in l) (files_in test) has in
      let other = all_back Q (files_in l) (files_in test) has in
      rw (made.lowered_ForAll here p l test)
      (λ locals x. laid.fits_then Q T _ _ (hl one locals None) (laid.fits_led Q T _ _
      (laid.fits_search Q T _ true (laid.fits_all_turn Q T _ (laid.fits_of_local Q T _ (ht other _ None))))))

  on_exists : (p : Pos) (l test : Expr) → Held l → Held test → Held (expr.Exists p l test)
  on_exists p l test hl ht h =
      let has = subst (AllHave Q) (named.named_Exists own_file p l test) h in
      let one = all_front Q (files_in l) (files_in test) has in
      let other = all_back Q (files_in l) (files_in test) has in
      rw (made.lowered_Exists here p l test)
      (λ locals x. laid.fits_then Q T _ _ (hl one locals None) (laid.fits_led Q T _ _
      (laid.fits_search Q T _ false (laid.fits_any_turn Q T _ (laid.fits_of_local Q T _ (ht other _ None))))))

  on_map : (p : Pos) (l e : Expr) → Held l → Held e → Held (expr.Map p l e)
  on_map p l e hl he h =
      let has = subst (AllHave Q) (named.named_Map own_file p l e) h in
      let one = all_front Q (files_in l) (files_in e) has in
      let other = all_back Q (files_in l) (files_in e) has in
      rw (made.lowered_Map here p l e)
      (λ locals x. laid.fits_then Q T _ _ (hl one locals None)
      (laid.fits_then Q T _ _ (laid.fits_constant Q T (λ k. instr.IterList k) _)
      (laid.fits_loop Q T _ (laid.fits_led Q T instr.Bind _ (laid.fits_then Q T _ _ (he other _ None)
      (laid.fits_led Q T instr.Collect _ (laid.fits_one Q T (instr.Drop 1))))))))

  on_filter : (p : Pos) (l test : Expr) → Held l → Held test → Held (expr.Filter p l test)
  on_filter p l test hl ht h =
      let has = subst (AllHave Q) (named.named_Filter own_file p l test) h in
      let one = all_front Q (files_in l) (files_in test) has in
      let other = all_back Q (files_in l) (files_in test) has in
      rw (made.lowered_Filter here p l test)
      (λ locals x. laid.fits_then Q T _ _ (hl one locals None)
      (laid.fits_then Q T _ _ (laid.fits_constant Q T (λ k. instr.IterList k) _)
      (laid.fits_loop Q T _ (laid.fits_led Q T instr.Bind _ (laid.fits_then Q T _ _ (ht other _ None)
      (laid.fits_then Q T _ _ (laid.fits_over Q T (λ t. instr.JumpFalse t) _
      (laid.fits_led Q T (instr.Local (length locals)) _ (laid.fits_one Q T instr.Collect)))
      (laid.fits_one Q T (instr.Drop 1))))))))

  on_combine : (p : Pos) (l start e : Expr) → Held l → Held start → Held e → Held (expr.Combine p l start e)
  on_combine p l start e hl hs he h =
      let has = subst (AllHave Q) (named.named_Combine own_file p l start e) h in
      let both = all_front Q (files_in l ++ files_in start) (files_in e) has in
      let other = all_back Q (files_in l ++ files_in start) (files_in e) has in
      let one = all_front Q (files_in l) (files_in start) both in
      let begun = all_back Q (files_in l) (files_in start) both in
      rw (made.lowered_Combine here p l start e)
      (λ locals x. laid.fits_then Q T _ _ (hl one locals None) (laid.fits_then Q T _ _ (hs begun locals None)
      (laid.fits_led Q T _ _ (laid.fits_led Q T _ _ (laid.fits_led Q T _ _ (laid.fits_led Q T _ _
      (laid.fits_led Q T _ _ (laid.fits_led Q T _ _
      (laid.fits_loop Q T _ (laid.fits_led Q T _ _ (laid.fits_led Q T _ _ (laid.fits_then Q T _ _
      (he other _ _) (laid.fits_one Q T _)))))))))))))

  on_contains : (p q : Pos) (l e : Expr) → Held l → Held e → Held (expr.Contains p q l e)
  on_contains p q l e hl he h =
      let has = subst (AllHave Q) (named.named_Contains own_file p q l e) h in
      let one = all_front Q (files_in l) (files_in e) has.1 in
      let other = all_back Q (files_in l) (files_in e) has.1 in
      rw (made.lowered_Contains here p q l e)
      (λ locals x. laid.fits_then Q T _ _ (hl one locals None) (laid.fits_then Q T _ _ (he other locals None)
      (laid.fits_led Q T _ _ (laid.fits_led Q T _ _ (laid.fits_then Q T _ _
      (laid.fits_search Q T _ false (laid.fits_any_turn Q T _
      (laid.fits_led Q T _ _ (laid.fits_operator Q T _ _ q has.0))))
      (laid.fits_one Q T _))))))

  on_length : (p : Pos) (l : Expr) → Held l → Held (expr.Length p l)
  on_length p l hl h =
      let has = subst (AllHave Q) (named.named_Length own_file p l) h in
      rw (made.lowered_Length here p l)
      (λ locals x. laid.fits_then Q T _ _ (hl has locals None) (laid.fits_one Q T _))

  on_sum : (p : Pos) (kind : SumKind) (l : Expr) → Held l → Held (expr.Sum p kind l)
  on_sum p kind l hl h =
      let has = subst (AllHave Q) (named.named_Sum own_file p kind l) h in
      rw (made.lowered_Sum here p kind l)
      (λ locals x. laid.fits_then Q T _ _ (laid.fits_constant Q T _ _) (laid.fits_then Q T _ _ (hl has.1 locals None)
      (laid.fits_led Q T _ _ (laid.fits_loop Q T _ (laid.fits_operator Q T _ _ p has.0)))))

  on_call : (p : Pos) (f : ℕ) (es : List Expr) → Each Held es → Held (expr.Call p f es)
  on_call p f es held h =
      let has = subst (AllHave Q) (named.named_Call own_file p f es) h in
      let low = all_low es held (each_file es has) in
      rw (made.lowered_Call here p f es)
      (λ locals x. laid.fits_then Q T _ _
      (fits_arguments (params_of (slice_get here.names.items f)) (map (lowered here) es) low locals)
      (laid.fits_one Q T _))

  on_scope_call : (p : Pos) (s : ℕ) (fields : List FieldValue) (k : ℕ) → Each (λ f. Held f.value) fields
      → Held (expr.ScopeCall p s fields k)
  on_scope_call p s fields k held h =
      let has = subst (AllHave Q) (named.named_ScopeCall own_file p s fields k) h in
      let low = fields_low fields held (each_value fields has) in
      rw (made.lowered_ScopeCall here p s fields k)
      (λ locals x. laid.fits_led Q T _ _ (laid.fits_then Q T _ _
      (laid.fits_pass_all Q T _ (fits_fields (input_type here.names.decls s) (map (field here) fields) low locals))
      (laid.fits_then Q T _ _
      (laid.fits_pass_absent Q T 0 (numbers_of (map (field here) fields)) (scope_items here.names.decls s))
      (laid.fits_led Q T _ _ (laid.fits_one Q T _)))))

  -- each expression
  pub lowered_fits : (e : Expr) → Held e
  lowered_fits =
      induction Held on_literal on_item on_output on_local on_field on_unary on_binary on_and on_or on_if on_match
      on_is_case on_case on_structure on_list on_for_all on_exists on_map on_filter on_combine on_contains on_length
      on_sum on_call on_scope_call
