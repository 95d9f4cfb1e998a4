-- Each form of expression ends in a value of its type, or in a stop that an outcome may be, where its parts do.
use Rattle.std.proofs.Common.{◌≡◌, ℕ, pos, true, false, IsTrue, List, [], ◌∷◌, ◌++◌, length, Option, Some, None, Ok}
use Rattle.std.proofs.Common.{slice_get, nat_eq, nat_le, refl, sym, ap, ◌∙◌, subst, arith}
use Rattle.cat_pos.specs.declared.pos.Pos.{Pos}
use Rattle.cat_value.specs.declared.ty.Ty.{Ty}
use Rattle.cat_value.specs.declared.ty.Ty.TheVariants as flat_ty
use Rattle.cat_value.specs.declared.ty.Ty.TheViews as ty
use Rattle.cat_value.specs.declared.value.Value.{Value}
use Rattle.cat_value.specs.declared.value.Value.TheVariants as flat
use Rattle.cat_value.specs.declared.decls.Decls.{Decls}
use Rattle.cat_value.specs.Typing.{is_type, most_elements, content_has_type}
use Rattle.cat_value.specs.Entries.{some_passes, content_of}
use Rattle.cat_value.proofs.Exported.{has_type_Case}
use Rattle.cat_scope.specs.declared.expr.Literal.{Literal}
use Rattle.cat_scope.specs.declared.operators.UnaryOp.{UnaryOp}
use Rattle.cat_scope.specs.declared.operators.BinaryOp.{BinaryOp}
use Rattle.cat_scope.specs.declared.operators.SumKind.{SumKind}
use Rattle.cat_scope.specs.declared.expr.Expr.{Expr}
use Rattle.cat_scope.specs.declared.expr.FieldValue.{FieldValue}
use Rattle.cat_scope.specs.declared.expr.Arm.{Arm}
use Rattle.cat_scope.specs.declared.expr.Expr.TheVariants as leaf
use Rattle.cat_scope.specs.declared.expr.Expr.TheViews as expr
use Rattle.cat_scope.specs.Replies.{on_one, evaluated, known}
use Rattle.cat_scope.specs.Runs.{plain, gives, and_then}
use Rattle.cat_scope.specs.Projections.{elements, case_of}
use Rattle.cat_scope.specs.Operators.{convert, operate}
use Rattle.cat_scope.specs.Lists.{zero_of, mapped, filtered, contained, summed}
use Rattle.cat_scope.specs.Names.{Names, IsOneOf, is_plain}
use Rattle.cat_scope.specs.Signatures.{Signature, signatures_of, taken_by, given_by, summed_type, compared_types}
use Rattle.cat_scope.specs.Fitting.{numbers_in, are_complete, field_type, are_fields_of, are_call_fields, input_type}
use Rattle.cat_scope.specs.Naming.{IsItem, IsCalledOutput, IsFunction, IsOutput}
use Rattle.cat_scope.specs.Names.{AllHave}
use Rattle.cat_scope.specs.Eval.{Env, eval}
use Rattle.cat_scope.specs.inside.EvalParts.{eval_all, eval_fields, eval_arms}
use Rattle.cat_scope.specs.Composed.{literal_value, part, structured, listed}
use Rattle.cat_sound.specs.Endings.{Allowed, EndsIn, IsOf, AreOf, IsFieldOf, field_numbers, IsReady, IsCallable}
use Rattle.cat_scope.proofs.Exported.{eval_Literal, eval_Item, eval_Output, eval_Local, eval_Field, eval_Unary}
use Rattle.cat_scope.proofs.Exported.{eval_Binary, eval_And, eval_Or, eval_If, eval_Match, eval_IsCase, eval_Case_None}
use Rattle.cat_scope.proofs.Exported.{eval_Case_Some, eval_Structure, eval_List, eval_ForAll, eval_Exists, eval_Map}
use Rattle.cat_scope.proofs.Exported.{eval_Filter, eval_Combine, eval_Contains, eval_Length, eval_Sum, eval_Call}
use Rattle.cat_scope.proofs.Exported.{eval_ScopeCall}
use Rattle.cat_sound.proofs.Results.{local_of, result_as}
use Rattle.cat_sound.proofs.Endings.{ends_plain, ends_as, ends_then, ends_giving, ends_in_front, ends_choose}
use Rattle.cat_sound.proofs.FlatTypes.{of-Boolean, of-Integer}
use Rattle.cat_sound.proofs.OperatorTypes.{conversions_go_on, operators_go_on}
use Rattle.cat_sound.proofs.ListTypes.{AreElements, of-List, elements-end, AreFrom, AreElements-from, for_all-ends}
use Rattle.cat_sound.proofs.ListTypes.{exists-ends, mapped-ends, filtered-ends, combined-ends, contained-ends}
use Rattle.cat_sound.proofs.ListTypes.{zero-typed, summed-ends}
use Rattle.cat_sound.proofs.FormTypes.{part-ends, structured-ends, ArmEnds, arms-end, met, case_seen}

-- fields with their values are those that are written, of their types
pub record AreWritten (ds : Decls) (type_of : ℕ → Option Ty) (fields : List FieldValue) (fs : List (ℕ × Value)) : Type 0
  where
    pub numbers : field_numbers fs ≡ numbers_in fields
    pub typed : AllHave (IsFieldOf ds type_of) fs

-- as many values as expressions, each of a type
pub record AreSome (ds : Decls) (t : Ty) (es : List Expr) (vs : List Value) : Type 0 where
  pub counted : length vs ≡ length es
  pub all : AllHave (IsOf ds t) vs

-- ---- one lemma for each form

module _ (allowed : Allowed) (ns : Names) (env : Env) (locals : List Value) where
  abbrev Ends : Ty → Expr → Type 0
  Ends t e = EndsIn allowed (IsOf ns.decls t) (eval env e locals)

  -- under one more local name, and under two
  abbrev EndsUnder : Ty → Ty → Expr → Type 0
  EndsUnder t u e = (v : Value) → IsOf ns.decls t v → EndsIn allowed (IsOf ns.decls u) (eval env e (locals ++ v ∷ []))

  pub on_Literal : (p : Pos) (l : Literal) (t : Ty) → IsOf ns.decls t (literal_value l) → Ends t (leaf.Literal p l)
  on_Literal p l t h = ends_as allowed (IsOf ns.decls t) (eval env (leaf.Literal p l) locals) (gives (literal_value l))
      (eval_Literal env p l locals) (tt, h)

  pub on_Item : (p : Pos) (i : ℕ) (t : Ty) → IsReady allowed ns env i → IsItem is_plain ns.items i t
      → Ends t (leaf.Item p i)
  on_Item p i t ready is = ends_as allowed (IsOf ns.decls t) (eval env (leaf.Item p i) locals) _
      (eval_Item env p i locals) (ends_plain allowed (IsOf ns.decls t) (evaluated (slice_get env.items i))
      (ready.variable t is))

  pub on_Output : (p : Pos) (i k : ℕ) (t : Ty) → IsReady allowed ns env i → IsCalledOutput ns i k t
      → Ends t (leaf.Output p i k)
  on_Output p i k t ready is = ends_as allowed (IsOf ns.decls t) (eval env (leaf.Output p i k) locals) _
      (eval_Output env p i k locals)
      (ends_plain allowed (IsOf ns.decls t) (on_one (evaluated (slice_get env.items i)) (part k)) (ready.output k t is))

  pub on_Local : (p : Pos) (ls : List Ty) (k : ℕ) (t : Ty) → AreOf ns.decls ls locals → slice_get ls k ≡ Some t
      → Ends t (leaf.Local p k)
  on_Local p ls k t are is = ends_as allowed (IsOf ns.decls t) (eval env (leaf.Local p k) locals) _
      (eval_Local env p k locals)
      (ends_plain allowed (IsOf ns.decls t) (known (slice_get locals k)) (local_of ns.decls ls locals k t are is))

  pub on_Field : (p : Pos) (e : Expr) (n k : ℕ) (t : Ty) → Ends (flat_ty.Structure n) e → field_type ns.decls n k ≡ Some
      t
      → Ends t (expr.Field p e k)
  on_Field p e n k t h is =
      ends_as allowed (IsOf ns.decls t) (eval env (expr.Field p e k) locals) _ (eval_Field env p e k locals)
      (ends_giving allowed (IsOf ns.decls (flat_ty.Structure n)) (IsOf ns.decls t) (eval env e locals) (part k) h
      (λ v hv. part-ends ns.decls n k t v hv is))

  pub on_Unary : (p : Pos) (o : UnaryOp) (e : Expr) → Ends (taken_by o) e → Ends (given_by o) (expr.Unary p o e)
  on_Unary p o e h =
      ends_as allowed (IsOf ns.decls (given_by o)) (eval env (expr.Unary p o e) locals) _ (eval_Unary env p o e locals)
      (ends_giving allowed (IsOf ns.decls (taken_by o)) (IsOf ns.decls (given_by o)) (eval env e locals) (convert o p) h
      (λ v hv. conversions_go_on ns.decls p v o hv))

  pub on_Binary : (p q : Pos) (o : BinaryOp) (a b : Expr) (r : Signature) → IsOneOf r (signatures_of o) → Ends r.left a
      → Ends r.right b
      → Ends r.result (expr.Binary p o q a b)
  on_Binary p q o a b r is ha hb =
      ends_as allowed (IsOf ns.decls r.result) (eval env (expr.Binary p o q a b) locals) _
      (eval_Binary env p o q a b locals)
      (ends_then allowed (IsOf ns.decls r.left) (IsOf ns.decls r.result) (eval env a locals) _ ha
      (λ v hv. ends_giving allowed (IsOf ns.decls r.right) (IsOf ns.decls r.result) (eval env b locals)
      (operate env.rounding o q v) hb
      (λ w hw. operators_go_on ns.decls env.rounding q v w r o is hv hw)))

  pub on_And : (p : Pos) (a b : Expr) → Ends flat_ty.Boolean a → Ends flat_ty.Boolean b
      → Ends flat_ty.Boolean (expr.And p a b)
  on_And p a b ha hb =
      ends_as allowed (IsOf ns.decls flat_ty.Boolean) (eval env (expr.And p a b) locals) _ (eval_And env p a b locals)
      (ends_then allowed (IsOf ns.decls flat_ty.Boolean) (IsOf ns.decls flat_ty.Boolean) (eval env a locals) _ ha
      (λ v hv. ends_choose allowed (IsOf ns.decls flat_ty.Boolean) ns.decls v (eval env b locals)
      (gives (flat.Boolean false)) hv hb (tt, of-Boolean ns.decls false)))

  pub on_Or : (p : Pos) (a b : Expr) → Ends flat_ty.Boolean a → Ends flat_ty.Boolean b
      → Ends flat_ty.Boolean (expr.Or p a b)
  on_Or p a b ha hb =
      ends_as allowed (IsOf ns.decls flat_ty.Boolean) (eval env (expr.Or p a b) locals) _ (eval_Or env p a b locals)
      (ends_then allowed (IsOf ns.decls flat_ty.Boolean) (IsOf ns.decls flat_ty.Boolean) (eval env a locals) _ ha
      (λ v hv. ends_choose allowed (IsOf ns.decls flat_ty.Boolean) ns.decls v (gives (flat.Boolean true))
      (eval env b locals) hv (tt, of-Boolean ns.decls true) hb))

  pub on_If : (p : Pos) (c a b : Expr) (t : Ty) → Ends flat_ty.Boolean c → Ends t a → Ends t b
      → Ends t (expr.If p c a b)
  on_If p c a b t hc ha hb =
      ends_as allowed (IsOf ns.decls t) (eval env (expr.If p c a b) locals) _ (eval_If env p c a b locals)
      (ends_then allowed (IsOf ns.decls flat_ty.Boolean) (IsOf ns.decls t) (eval env c locals) _ hc
      (λ v hv. ends_choose allowed (IsOf ns.decls t) ns.decls v (eval env a locals) (eval env b locals) hv ha hb))

  pub on_Match : (p : Pos) (e : Expr) (arms : List Arm) (n : ℕ) (ls : List Ty) (t : Ty) → AreOf ns.decls ls locals
      → Ends (flat_ty.Enumeration n) e → AllHave (ArmEnds allowed ns.decls env n ls t) arms
      → IsTrue (are_complete ns.decls n arms) → Ends t (expr.Match p e arms)
  on_Match p e arms n ls t are h each complete =
      ends_as allowed (IsOf ns.decls t) (eval env (expr.Match p e arms) locals) _ (eval_Match env p e arms locals)
      (ends_then allowed (IsOf ns.decls (flat_ty.Enumeration n)) (IsOf ns.decls t) (eval env e locals) _ h
      (λ v hv. let seen = case_seen ns.decls n v hv in
      ends_as allowed (IsOf ns.decls t) (and_then (plain (case_of v)) (λ c. eval_arms env arms c.0 c.1 locals))
      (eval_arms env arms seen.case seen.content locals)
      (ap (λ r. and_then (plain r) (λ c. eval_arms env arms c.0 c.1 locals)) seen.read)
      (arms-end allowed ns.decls env n ls t seen.case seen.content locals seen.is are arms each
      (met ns.decls n seen.case seen.content arms seen.is complete))))

  pub on_IsCase : (p : Pos) (e : Expr) (n k : ℕ) → Ends (flat_ty.Enumeration n) e
      → Ends flat_ty.Boolean (expr.IsCase p e n k)
  on_IsCase p e n k h =
      ends_as allowed (IsOf ns.decls flat_ty.Boolean) (eval env (expr.IsCase p e n k) locals) _
      (eval_IsCase env p e n k locals)
      (ends_giving allowed (IsOf ns.decls (flat_ty.Enumeration n)) (IsOf ns.decls flat_ty.Boolean) (eval env e locals)
      (λ v. on_one (case_of v) (λ c. Ok (flat.Boolean (nat_eq c.0 k)))) h
      (λ v hv. let seen = case_seen ns.decls n v hv in
      result_as (IsOf ns.decls flat_ty.Boolean) (on_one (case_of v) (λ c. Ok (flat.Boolean (nat_eq c.0 k))))
      (Ok (flat.Boolean (nat_eq seen.case k)))
      (ap (λ r. on_one r (λ c. Ok (flat.Boolean (nat_eq c.0 k)))) seen.read)
      (of-Boolean ns.decls (nat_eq seen.case k))))

  pub on_Case_None : (p : Pos) (n k : ℕ) → content_of ns.decls n k ≡ Some None → Ends (flat_ty.Enumeration n)
      (expr.Case p n k None)
  on_Case_None p n k is =
      ends_as allowed (IsOf ns.decls (flat_ty.Enumeration n)) (eval env (expr.Case p n k None) locals) _
      (eval_Case_None env p n k locals)
      (tt, has_type_Case ns.decls k None n ∙ ap (some_passes (content_has_type ns.decls None)) is)

  pub on_Case_Some : (p : Pos) (n k : ℕ) (e : Expr) (t : Ty) → content_of ns.decls n k ≡ Some (Some t) → Ends t e
      → Ends (flat_ty.Enumeration n) (expr.Case p n k (Some e))
  on_Case_Some p n k e t is h =
      ends_as allowed (IsOf ns.decls (flat_ty.Enumeration n)) (eval env (expr.Case p n k (Some e)) locals) _
      (eval_Case_Some env p n k e locals)
      (ends_then allowed (IsOf ns.decls t) (IsOf ns.decls (flat_ty.Enumeration n)) (eval env e locals) _ h
      (λ v hv. (
        tt,
        has_type_Case ns.decls k (Some v) n ∙ ap (some_passes (content_has_type ns.decls (Some v))) is
            ∙ hv,
      )))

  pub on_Structure : (p : Pos) (n : ℕ) (fields : List FieldValue)
      → EndsIn allowed (AreWritten ns.decls (field_type ns.decls n) fields) (eval_fields env fields locals)
      → IsTrue (are_fields_of ns.decls n (numbers_in fields)) → Ends (flat_ty.Structure n) (expr.Structure p n fields)
  on_Structure p n fields h there =
      ends_as allowed (IsOf ns.decls (flat_ty.Structure n)) (eval env (expr.Structure p n fields) locals) _
      (eval_Structure env p n fields locals)
      (ends_giving allowed (AreWritten ns.decls (field_type ns.decls n) fields) (IsOf ns.decls (flat_ty.Structure n))
      (eval_fields env fields locals) structured h
      (λ fs are. structured-ends ns.decls n fs are.typed
      (subst (λ ks. IsTrue (are_fields_of ns.decls n ks)) (sym are.numbers) there)))

  pub on_List : (p : Pos) (es : List Expr) (t : Ty) → IsTrue (is_type ns.decls t)
      → IsTrue (nat_le (length es) most_elements) → EndsIn allowed (AreSome ns.decls t es) (eval_all env es locals)
      → Ends (ty.List t) (expr.List p es)
  on_List p es t declared few h =
      ends_as allowed (IsOf ns.decls (ty.List t)) (eval env (expr.List p es) locals) _ (eval_List env p es locals)
      (ends_then allowed (AreSome ns.decls t es) (IsOf ns.decls (ty.List t)) (eval_all env es locals) _ h
      (λ vs are. (
        tt,
        of-List ns.decls t vs
            (record {
              declared = declared;
              counted = subst (λ (n : ℕ). IsTrue (nat_le n most_elements)) (sym are.counted)
                  few;
              all = are.all;
            }),
      )))

  on_listed : (l : Expr) (t : Ty) → Ends (ty.List t) l → EndsIn allowed (AreElements ns.decls t)
      (listed (eval env l) locals)
  on_listed l t h = ends_giving allowed (IsOf ns.decls (ty.List t)) (AreElements ns.decls t) (eval env l locals)
      elements h (λ v hv. elements-end ns.decls t v hv)

  pub on_ForAll : (p : Pos) (l test : Expr) (t : Ty) → Ends (ty.List t) l → EndsUnder t flat_ty.Boolean test
      → Ends flat_ty.Boolean (expr.ForAll p l test)
  on_ForAll p l test t hl ht =
      ends_as allowed (IsOf ns.decls flat_ty.Boolean) (eval env (expr.ForAll p l test) locals) _
      (eval_ForAll env p l test locals)
      (ends_then allowed (AreElements ns.decls t) (IsOf ns.decls flat_ty.Boolean) (listed (eval env l) locals) _
      (on_listed l t hl)
      (λ vs are. for_all-ends allowed ns.decls t (λ v. eval env test (locals ++ v ∷ [])) ht vs are.all))

  pub on_Exists : (p : Pos) (l test : Expr) (t : Ty) → Ends (ty.List t) l → EndsUnder t flat_ty.Boolean test
      → Ends flat_ty.Boolean (expr.Exists p l test)
  on_Exists p l test t hl ht =
      ends_as allowed (IsOf ns.decls flat_ty.Boolean) (eval env (expr.Exists p l test) locals) _
      (eval_Exists env p l test locals)
      (ends_then allowed (AreElements ns.decls t) (IsOf ns.decls flat_ty.Boolean) (listed (eval env l) locals) _
      (on_listed l t hl)
      (λ vs are. exists-ends allowed ns.decls t (λ v. eval env test (locals ++ v ∷ [])) ht vs are.all))

  pub on_Map : (p : Pos) (l e : Expr) (t u : Ty) → IsTrue (is_type ns.decls u) → Ends (ty.List t) l → EndsUnder t u e
      → Ends (ty.List u) (expr.Map p l e)
  on_Map p l e t u declared hl he =
      ends_as allowed (IsOf ns.decls (ty.List u)) (eval env (expr.Map p l e) locals) _ (eval_Map env p l e locals)
      (ends_then allowed (AreElements ns.decls t) (IsOf ns.decls (ty.List u)) (listed (eval env l) locals) _
      (on_listed l t hl)
      (λ vs are. ends_then allowed (AreFrom ns.decls u vs) (IsOf ns.decls (ty.List u))
      (mapped (λ v. eval env e (locals ++ v ∷ [])) vs) _
      (mapped-ends allowed ns.decls t u (λ v. eval env e (locals ++ v ∷ [])) he vs are.all)
      (λ ws new. (tt, of-List ns.decls u ws (AreElements-from ns.decls t u vs ws declared are new)))))

  pub on_Filter : (p : Pos) (l test : Expr) (t : Ty) → Ends (ty.List t) l → EndsUnder t flat_ty.Boolean test
      → Ends (ty.List t) (expr.Filter p l test)
  on_Filter p l test t hl ht =
      ends_as allowed (IsOf ns.decls (ty.List t)) (eval env (expr.Filter p l test) locals) _
      (eval_Filter env p l test locals)
      (ends_then allowed (AreElements ns.decls t) (IsOf ns.decls (ty.List t)) (listed (eval env l) locals) _
      (on_listed l t hl)
      (λ vs are. ends_then allowed (AreFrom ns.decls t vs) (IsOf ns.decls (ty.List t))
      (filtered (λ v. eval env test (locals ++ v ∷ [])) vs) _
      (filtered-ends allowed ns.decls t (λ v. eval env test (locals ++ v ∷ [])) ht vs are.all)
      (λ ws new. (tt, of-List ns.decls t ws (AreElements-from ns.decls t t vs ws are.declared are new)))))

  pub on_Combine : (p : Pos) (l start e : Expr) (t u : Ty) → Ends (ty.List t) l → Ends u start
      → ((v w : Value) → IsOf ns.decls t v → IsOf ns.decls u w → EndsIn allowed (IsOf ns.decls u)
      (eval env e (locals ++ v ∷ w ∷ []))) → Ends u (expr.Combine p l start e)
  on_Combine p l start e t u hl hs he =
      ends_as allowed (IsOf ns.decls u) (eval env (expr.Combine p l start e) locals) _
      (eval_Combine env p l start e locals)
      (ends_then allowed (AreElements ns.decls t) (IsOf ns.decls u) (listed (eval env l) locals) _ (on_listed l t hl)
      (λ vs are. ends_then allowed (IsOf ns.decls u) (IsOf ns.decls u) (eval env start locals) _ hs
      (λ first hf. combined-ends allowed ns.decls t u (λ v before. eval env e (locals ++ v ∷ before ∷ [])) he vs first
      are.all hf)))

  pub on_Contains : (p q : Pos) (l e : Expr) (t : Ty) → IsOneOf t compared_types → Ends (ty.List t) l → Ends t e
      → Ends flat_ty.Boolean (expr.Contains p q l e)
  on_Contains p q l e t is hl he =
      ends_as allowed (IsOf ns.decls flat_ty.Boolean) (eval env (expr.Contains p q l e) locals) _
      (eval_Contains env p q l e locals)
      (ends_then allowed (AreElements ns.decls t) (IsOf ns.decls flat_ty.Boolean) (listed (eval env l) locals) _
      (on_listed l t hl)
      (λ vs are. ends_giving allowed (IsOf ns.decls t) (IsOf ns.decls flat_ty.Boolean) (eval env e locals)
      (λ v. contained q v vs) he (λ w hw. contained-ends allowed ns.decls t q w vs is hw are.all)))

  pub on_Length : (p : Pos) (l : Expr) (t : Ty) → Ends (ty.List t) l → Ends flat_ty.Integer (expr.Length p l)
  on_Length p l t hl =
      ends_as allowed (IsOf ns.decls flat_ty.Integer) (eval env (expr.Length p l) locals) _ (eval_Length env p l locals)
      (ends_then allowed (AreElements ns.decls t) (IsOf ns.decls flat_ty.Integer) (listed (eval env l) locals) _
      (on_listed l t hl)
      (λ vs are. (tt, of-Integer ns.decls (pos (length vs)) are.counted)))

  pub on_Sum : (p : Pos) (kind : SumKind) (l : Expr) → Ends (ty.List (summed_type kind)) l → Ends (summed_type kind)
      (expr.Sum p kind l)
  on_Sum p kind l hl =
      ends_as allowed (IsOf ns.decls (summed_type kind)) (eval env (expr.Sum p kind l) locals) _
      (eval_Sum env p kind l locals)
      (ends_giving allowed (AreElements ns.decls (summed_type kind)) (IsOf ns.decls (summed_type kind))
      (listed (eval env l) locals) (λ vs. summed kind p vs (zero_of kind)) (on_listed l (summed_type kind) hl)
      (λ vs are. summed-ends ns.decls kind p vs (zero_of kind) are.all (zero-typed ns.decls kind)))

  pub on_Call : (p : Pos) (f : ℕ) (es : List Expr) (params : List Ty) (t : Ty) → IsReady allowed ns env f
      → IsFunction ns f params t → EndsIn allowed (AreOf ns.decls params) (eval_all env es locals)
      → Ends t (expr.Call p f es)
  on_Call p f es params t ready is h =
      ends_as allowed (IsOf ns.decls t) (eval env (expr.Call p f es) locals) _ (eval_Call env p f es locals)
      (ends_then allowed (AreOf ns.decls params) (IsOf ns.decls t) (eval_all env es locals) (env.call f) h
      (λ vs are. ready.function params t vs is are))

  pub on_ScopeCall : (p : Pos) (s : ℕ) (fields : List FieldValue) (k : ℕ) (t : Ty) → IsCallable allowed ns env s
      → EndsIn allowed (AreWritten ns.decls (input_type ns.decls s) fields) (eval_fields env fields locals)
      → IsTrue (are_call_fields ns.decls s (numbers_in fields)) → IsOutput ns.decls s k t
      → Ends t (expr.ScopeCall p s fields k)
  on_ScopeCall p s fields k t callable h there is =
      ends_as allowed (IsOf ns.decls t) (eval env (expr.ScopeCall p s fields k) locals) _
      (eval_ScopeCall env p s fields k locals)
      (ends_then allowed (AreWritten ns.decls (input_type ns.decls s) fields) (IsOf ns.decls t)
      (eval_fields env fields locals) _ h
      (λ fs are. callable fs k t are.typed (subst (λ ks. IsTrue (are_call_fields ns.decls s ks)) (sym are.numbers)
      there) is))

  pub on_all_more : (t : Ty) (e : Expr) (es : List Expr) → Ends t e → EndsIn allowed (AreSome ns.decls t es)
      (eval_all env es locals) → EndsIn allowed (AreSome ns.decls t (e ∷ es)) (eval_all env (e ∷ es) locals)
  on_all_more t e es h more =
      ends_in_front allowed (IsOf ns.decls t) (AreSome ns.decls t es) (AreSome ns.decls t (e ∷ es)) (eval env e locals)
      (eval_all env es locals) h more
      (λ v vs hv are. let counted = are.counted in record { counted = omega arith; all = (hv, are.all) })

  pub on_each_more : (t : Ty) (ts : List Ty) (e : Expr) (es : List Expr) → Ends t e → EndsIn allowed (AreOf ns.decls ts)
      (eval_all env es locals) → EndsIn allowed (AreOf ns.decls (t ∷ ts)) (eval_all env (e ∷ es) locals)
  on_each_more t ts e es h more =
      ends_in_front allowed (IsOf ns.decls t) (AreOf ns.decls ts) (AreOf ns.decls (t ∷ ts)) (eval env e locals)
      (eval_all env es locals) h more (λ v vs hv are. (hv, are))

  on_field : (type_of : ℕ → Option Ty) (t : Ty) (f : FieldValue) → type_of f.field ≡ Some t → Ends t f.value
      → EndsIn allowed (λ (x : ℕ × Value). IsFieldOf ns.decls type_of x × (x.0 ≡ f.field))
      (and_then (eval env f.value locals) (λ v. gives (f.field, v)))
  on_field type_of t f is h =
      ends_then allowed (IsOf ns.decls t) (λ (x : ℕ × Value). IsFieldOf ns.decls type_of x × (x.0 ≡ f.field))
      (eval env f.value locals) _ h (λ v hv. (tt, ((t, is, hv), refl)))

  pub on_fields_more : (type_of : ℕ → Option Ty) (t : Ty) (f : FieldValue) (fs : List FieldValue)
      → type_of f.field ≡ Some t
      → Ends t f.value
      → EndsIn allowed (AreWritten ns.decls type_of fs) (eval_fields env fs locals)
      → EndsIn allowed (AreWritten ns.decls type_of (f ∷ fs)) (eval_fields env (f ∷ fs) locals)
  on_fields_more type_of t f fs is h more =
      ends_in_front allowed (λ (x : ℕ × Value). IsFieldOf ns.decls type_of x × (x.0 ≡ f.field))
      (AreWritten ns.decls type_of fs) (AreWritten ns.decls type_of (f ∷ fs))
      (and_then (eval env f.value locals) (λ v. gives (f.field, v))) (eval_fields env fs locals)
      (on_field type_of t f is h) more
      (λ x xs hx are. record {
        numbers = ap (λ n. n ∷ field_numbers xs) hx.1 ∙ ap (λ ms. f.field ∷ ms) are.numbers;
        typed =
            (hx.0, are.typed);
      })
