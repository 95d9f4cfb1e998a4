-- Each scope that a meaning calls is named by a word of the expression: one lemma a form.
use Rattle.std.specs.Prelude.{option_map}
use Rattle.std.proofs.Common.{◌≡◌, ℕ, nat_eq, nat_le, List, [], ◌∷◌, ◌++◌, length, map, Option, Some, None, refl, sym}
use Rattle.std.proofs.Common.{subst, inl}
use Rattle.cat_pos.specs.declared.pos.Pos.{Pos}
use Rattle.cat_value.specs.declared.ty.Ty.{Ty}
use Rattle.cat_value.specs.declared.ty.Ty.TheVariants as flat_ty
use Rattle.cat_value.specs.declared.ty.Ty.TheViews as ty
use Rattle.cat_value.specs.declared.declaration.ItemDecl.{ItemDecl}
use Rattle.cat_value.specs.declared.declaration.Scope.{Scope}
use Rattle.cat_value.specs.Entries.{content_of}
use Rattle.cat_value.specs.Typing.{most_elements}
use Rattle.cat_tree.specs.Accumulation.{accumulation}
use Rattle.cat_tree.specs.declared.name.Name.{Name}
use Rattle.cat_tree.specs.declared.name.CaseName.{CaseName}
use Rattle.cat_tree.specs.declared.name.Type as types
use Rattle.cat_tree.specs.declared.expression.SurfaceLiteral as tree
use Rattle.cat_tree.specs.declared.expression.Prefix.{Prefix}
use Rattle.cat_tree.specs.declared.expression.Operator.{Operator}
use Rattle.cat_tree.specs.declared.expression.Each as eaches
use Rattle.cat_tree.specs.declared.expression.Each.TheVariants as each
use Rattle.cat_tree.specs.declared.expression.Node.{Node}
use Rattle.cat_tree.specs.declared.expression.SurfaceField.{SurfaceField}
use Rattle.cat_tree.specs.declared.expression.SurfaceArm.{SurfaceArm}
use Rattle.cat_tree.specs.declared.expression.Node.TheVariants as leaf_node
use Rattle.cat_tree.specs.declared.expression.Node.TheViews as node
use Rattle.cat_tree.specs.declared.expression.Node.TheViews.{out-Node}
use Rattle.cat_scope.specs.declared.expr.Expr.TheVariants as leaf
use Rattle.cat_scope.specs.declared.expr.Expr.TheViews as expr
use Rattle.cat_scope.specs.Names.{Names, is_plain}
use Rattle.cat_scope.specs.Fitting.{numbers_in, are_complete, are_fields_of, are_call_fields, is_low_type}
use Rattle.cat_scope.specs.Literals.{literal_fits}
use Rattle.cat_scope.specs.Mentions.{own_scope, scopes_named, joined}
use Rattle.cat_scope.proofs.Exported.{names_by_level, names_in_field, names_in_arm, Each}
use Rattle.cat_names.specs.declared.fault.Fault.TheVariants.{TypeMismatch, NameUnknown}
use Rattle.cat_names.specs.declared.typed.Typed.{Typed}
use Rattle.cat_names.specs.declared.typed.Local.{Local}
use Rattle.cat_names.specs.Found.{or_fault}
use Rattle.cat_names.specs.Types.{same, element_of, expected_element, enumeration_of, structure_of}
use Rattle.cat_names.specs.Lookup.{scope_named, innermost, item_named, type_names, type_found}
use Rattle.cat_names.specs.Naming.{Called, called_scope, name_found, bound_or_item, item_found, function_found}
use Rattle.cat_names.specs.Naming.{case_found, case_first, structure_found, scope_found}
use Rattle.cat_names.specs.Operations.{literal_written}
use Rattle.cat_names.specs.Forms.{field_named, input_named, output_named, if_of, test_of, each_of, bound}
use Rattle.cat_names.specs.Parts.{Meaning, elements_of, arguments_of, values_of, arms_of}
use Rattle.cat_names.specs.Compound.{dotted, content_of_type, case_alone, branches_of}
use Rattle.cat_names.specs.Meaning.{meant, name_alone, field_meant, arm_meant}
use Rattle.cat_names.specs.ScopeWords.{all_words, scope_words, IsWordOf, AreWordsOf}
use Rattle.cat_names.specs.TypedMeanings.{OnFound}
use Rattle.cat_names.proofs.OnFound.{on_then, on_both, on_both_where, on_where, on_any}
use Rattle.cat_names.proofs.Equations as equation
use Rattle.cat_names.proofs.WordEquations as written
use Rattle.cat_names.proofs.WordEquations.{value_words, body_words}
use Rattle.cat_names.proofs.CalledWords.{Calls, both_words, calls_fitting, calls_literal, calls_binary, calls_prefixed}
use Rattle.cat_names.proofs.CalledWords.{calls_sum, calls_one, calls_two}
use Rattle.cat_names.proofs.CalledParts.{CallsBy, values_are, bodies_are, CallRow, CallAll, CallValues, CallRows}
use Rattle.cat_names.proofs.CalledParts.{calls_elements, calls_arguments, calls_values, calls_arms}
use Rattle.cat_names.proofs.Induction.{induction}

module _ (ns : Names) where
  abbrev By : List Name → Typed → Type 0
  By words = Calls ns.decls words

  abbrev Called_ : Node → Type 0
  Called_ e = CallsBy ns.decls (scope_words e) (meant ns e)

  -- ---- forms with known parts

  named_none : (w : Name) (ls : List Local) → OnFound (By []) (name_found ns w ls)
  named_none w ls = by (innermost w.text ls)
    where
      item : (found : Option (ℕ × ItemDecl)) → OnFound (By []) (item_found w.pos found)
      item None = tt
      item (Some i) = on_where (By []) (is_plain i.1) _ _
          (λ plain. rw (names_by_level own_scope (leaf.Item w.pos i.0), expr.outs-Item w.pos i.0) tt)

      by : (found : Option (ℕ × Ty)) → OnFound (By []) (bound_or_item ns w found)
      by (Some l) = rw (names_by_level own_scope (leaf.Local w.pos l.0), expr.outs-Local w.pos l.0) tt
      by None = item (item_named w.text ns.items)

  alone_none : (p : Pos) (k : ℕ × ℕ) (content : Option (Option Ty)) → OnFound (By []) (case_alone p k content)
  alone_none p k (Some None) = rw (names_by_level own_scope (expr.Case p k.0 k.1 None), expr.outs-Case p k.0 k.1 None)
      tt
  alone_none p k (Some (Some t)) = tt
  alone_none p k None = tt

  content_calls : (p : Pos) (k : ℕ × ℕ) (ws : List Name) (e : Meaning) → CallsBy ns.decls ws e → (ls : List Local)
      (content : Option (Option Ty)) → OnFound (By ws) (content_of_type p k e ls content)
  content_calls p k ws e h ls (Some (Some t)) = on_then (By ws) (By ws) (e ls (Some t)) _ (h ls (Some t)) (λ x hx.
      calls_one ns.decls ws x hx (expr.Case p k.0 k.1 (Some x.expr))
      (rw (names_by_level own_scope (expr.Case p k.0 k.1 (Some x.expr)), expr.outs-Case p k.0 k.1 (Some x.expr))
      refl))
  content_calls p k ws e h ls (Some None) = on_then (By ws) (By ws) (e ls None) _ (h ls None) (λ x hx. tt)
  content_calls p k ws e h ls None = on_then (By ws) (By ws) (e ls None) _ (h ls None) (λ x hx. tt)

  dotted_calls : (w : Name) (ws : List Name) (e : Meaning) → CallsBy ns.decls ws e
      → (ls : List Local) (o : Option Called)
      → OnFound (By ws) (dotted ns w e ls o)
  dotted_calls w ws e h ls (Some c) = on_then (λ o. Unit {0}) (By ws)
      (or_fault (NameUnknown w.pos) (output_named ns.decls c.scope w.text)) _
      (on_any (or_fault (NameUnknown w.pos) (output_named ns.decls c.scope w.text)))
      (λ o i. rw (names_by_level own_scope (leaf.Output c.first c.item o.0), expr.outs-Output c.first c.item o.0) tt)
  dotted_calls w ws e h ls None = on_then (By ws) (By ws) (e ls None) _ (h ls None) (λ x hx.
      on_then (λ n. Unit {0}) (By ws) (or_fault (TypeMismatch x.first) (structure_of x.ty)) _
      (on_any (or_fault (TypeMismatch x.first) (structure_of x.ty))) (λ n i.
      on_then (λ f. Unit {0}) (By ws) (or_fault (NameUnknown w.pos) (field_named ns.decls n w.text)) _
      (on_any (or_fault (NameUnknown w.pos) (field_named ns.decls n w.text))) (λ f j.
      calls_one ns.decls ws x hx (expr.Field x.first x.expr f.0)
      (rw (names_by_level own_scope (expr.Field x.first x.expr f.0), expr.outs-Field x.first x.expr f.0) refl))))

  test_calls : (p : Pos) (ws : List Name) (e : Typed) (k : ℕ × ℕ) → By ws e → OnFound (By ws) (test_of p e k)
  test_calls p ws e k h = on_then (λ n. Unit {0}) (By ws) (or_fault (TypeMismatch p) (enumeration_of e.ty)) _
      (on_any (or_fault (TypeMismatch p) (enumeration_of e.ty)))
      (λ n i. on_where (By ws) (nat_eq k.0 n) _ _ (λ is. calls_one ns.decls ws e h (expr.IsCase e.first e.expr n k.1)
      (rw (names_by_level own_scope (expr.IsCase e.first e.expr n k.1), expr.outs-IsCase e.first e.expr n k.1) refl)))

  if_calls : (p : Pos) (ws vs us : List Name) (c : Typed) (xs : Typed × Typed) → By ws c → By vs xs.0 → By us xs.1
      → OnFound (By (ws ++ vs ++ us)) (if_of p c xs)
  if_calls p ws vs us c xs hc ha hb = on_where (By (ws ++ vs ++ us)) (same flat_ty.Boolean c.ty) _ _ (λ is.
      rw (names_by_level own_scope (expr.If p c.expr xs.0.expr xs.1.expr), expr.outs-If p c.expr xs.0.expr xs.1.expr)
      (both_words ns.decls (ws ++ vs) us (scopes_named c.expr ++ scopes_named xs.0.expr) (scopes_named xs.1.expr)
      (both_words ns.decls ws vs (scopes_named c.expr) (scopes_named xs.0.expr) hc ha) hb))

  each_calls : (k : eaches.Each) (p : Pos) (ws vs : List Name) (l body : Typed) → By ws l → By vs body
      → OnFound (By (ws ++ vs)) (each_of ns k p l body)
  each_calls each.ForAll p ws vs l body hl hb = on_where (By (ws ++ vs)) (same flat_ty.Boolean body.ty) _ _ (λ is.
      calls_two ns.decls ws vs l body hl hb (expr.ForAll p l.expr body.expr)
      (rw (names_by_level own_scope (expr.ForAll p l.expr body.expr), expr.outs-ForAll p l.expr body.expr) refl))
  each_calls each.Exists p ws vs l body hl hb = on_where (By (ws ++ vs)) (same flat_ty.Boolean body.ty) _ _ (λ is.
      calls_two ns.decls ws vs l body hl hb (expr.Exists p l.expr body.expr)
      (rw (names_by_level own_scope (expr.Exists p l.expr body.expr), expr.outs-Exists p l.expr body.expr) refl))
  each_calls each.ListOf p ws vs l body hl hb = on_where (By (ws ++ vs)) (same flat_ty.Boolean body.ty) _ _ (λ is.
      calls_two ns.decls ws vs l body hl hb (expr.Filter p l.expr body.expr)
      (rw (names_by_level own_scope (expr.Filter p l.expr body.expr), expr.outs-Filter p l.expr body.expr) refl))
  each_calls each.MapEach p ws vs l body hl hb = on_where (By (ws ++ vs)) (is_low_type ns.decls (ty.List body.ty)) _ _
      (λ is.
      calls_two ns.decls ws vs l body hl hb (expr.Map p l.expr body.expr)
      (rw (names_by_level own_scope (expr.Map p l.expr body.expr), expr.outs-Map p l.expr body.expr) refl))

  scope_word : (u : Name) → OnFound (λ s. IsWordOf ns.decls (u ∷ []) s) (scope_found ns u)
  scope_word u = by (scope_named u.text ns.decls.scopes) refl
    where
      by : (o : Option (ℕ × Scope)) → scope_named u.text ns.decls.scopes ≡ o
          → OnFound (λ s. IsWordOf ns.decls (u ∷ []) s) (or_fault (NameUnknown u.pos) (option_map (λ s. s.0) o))
      by None e = tt
      by (Some s) e = record { word = u; there = inl refl; found = s; found_is = e; number = refl }

  -- ---- each form

  on_literal : (l : tree.SurfaceLiteral) (p : Pos) → Called_ (leaf_node.Literal l p)
  on_literal l p ls ex = rw (written.words_Literal l p, equation.meant_Literal ns l p ls ex)
      (calls_fitting ns.decls _ ex _ (on_where (By []) (literal_fits (literal_written l)) (TypeMismatch p) _
      (λ is. calls_literal ns.decls p (literal_written l))))

  on_name : (w : Name) → Called_ (leaf_node.Name w)
  on_name w ls ex =
      rw (written.words_Name w, equation.meant_Name ns w ls ex) (calls_fitting ns.decls _ ex _ (named_none w ls))

  on_case : (c : CaseName) → Called_ (leaf_node.Case c)
  on_case c ls ex = rw (written.words_Case c, equation.meant_Case ns c ls ex)
      (calls_fitting ns.decls _ ex _ (on_then (λ k. Unit {0}) (By []) (case_found ns c) _ (on_any (case_found ns c))
      (λ k i. alone_none (case_first c) k (content_of ns.decls k.0 k.1))))

  on_parens : (p : Pos) (e : Node) → Called_ e → Called_ (node.Parens p e)
  on_parens p e he ls ex = rw (written.words_Parens p e, equation.meant_Parens ns p e ls ex)
      (on_then (By (scope_words e)) (By (scope_words e)) (meant ns e ls ex) _ (he ls ex) (λ x hx. hx))

  on_field : (e : Node) (w : Name) → Called_ e → Called_ (node.Field e w)
  on_field e w he ls ex = rw (written.words_Field e w, equation.meant_Field ns e w ls ex)
      (calls_fitting ns.decls _ ex _
      (dotted_calls w (scope_words e) (meant ns e) he ls (called_scope ns (name_alone (out-Node e)) ls)))

  on_prefixed : (o : Prefix) (p : Pos) (e : Node) → Called_ e → Called_ (node.Prefixed o p e)
  on_prefixed o p e he ls ex = rw (written.words_Prefixed o p e, equation.meant_Prefixed ns o p e ls ex)
      (calls_fitting ns.decls _ ex _ (on_then (By (scope_words e)) (By (scope_words e)) (meant ns e ls None) _
      (he ls None) (λ x hx. calls_prefixed ns.decls o p (scope_words e) x hx)))

  on_sum : (p : Pos) (t : types.Type) (e : Node) → Called_ e → Called_ (node.Sum p t e)
  on_sum p t e he ls ex = rw (written.words_Sum p t e, equation.meant_Sum ns p t e ls ex)
      (calls_fitting ns.decls _ ex _ (on_both (λ u. Unit {0}) (By (scope_words e)) (By (scope_words e))
      (type_found (type_names ns.decls) t) (meant ns e ls None) _ (on_any (type_found (type_names ns.decls) t))
      (he ls None)
      (λ u x i hx. calls_sum ns.decls p u (scope_words e) x
      hx)))

  on_content : (c : CaseName) (e : Node) → Called_ e → Called_ (node.Content c e)
  on_content c e he ls ex = rw (written.words_Content c e, equation.meant_Content ns c e ls ex)
      (calls_fitting ns.decls _ ex _ (on_then (λ k. Unit {0}) (By (scope_words e)) (case_found ns c) _
      (on_any (case_found ns c)) (λ k i. content_calls (case_first c) k (scope_words e) (meant ns e) he ls
      (content_of ns.decls k.0 k.1))))

  on_call : (w : Name) (args : List Node) → Each Called_ args → Called_ (node.Call w args)
  on_call w args he ls ex = rw (written.words_Call w args, equation.meant_Call ns w args ls ex)
      (calls_fitting ns.decls _ ex _ (on_then (λ f. Unit {0}) (By (all_words (map scope_words args)))
      (function_found ns w ls) _ (on_any (function_found ns w ls)) (λ f i.
      on_both_where (CallAll ns.decls scope_words (meant ns) args) (By (all_words (map scope_words args)))
      (nat_eq (length args) (length f.1.params)) _ f (arguments_of (meant ns) args ls f.1.params) _
      (λ is. calls_arguments ns.decls scope_words (meant ns) args he ls f.1.params) (λ is xs hxs.
      rw (names_by_level own_scope (expr.Call w.pos f.0 xs), expr.outs-Call w.pos f.0 xs) hxs))))

  on_binary : (o : Operator) (p : Pos) (a b : Node) → Called_ a → Called_ b → Called_ (node.Binary o p a b)
  on_binary o p a b ha hb ls ex = rw (written.words_Binary o p a b, equation.meant_Binary ns o p a b ls ex)
      (calls_fitting ns.decls _ ex _
      (on_both (By (scope_words a)) (By (scope_words b)) (By (scope_words a ++ scope_words b)) (meant ns a ls None)
      (meant ns b ls None) _ (ha ls None) (hb ls None) (λ x y hx hy. calls_binary ns.decls o p (scope_words a)
      (scope_words b) x y hx hy)))

  on_test : (e : Node) (p : Pos) (c : CaseName) → Called_ e → Called_ (node.Test e p c)
  on_test e p c he ls ex = rw (written.words_Test e p c, equation.meant_Test ns e p c ls ex)
      (calls_fitting ns.decls _ ex _ (on_both (By (scope_words e)) (λ k. Unit {0}) (By (scope_words e))
      (meant ns e ls None) (case_found ns c) _ (he ls None) (on_any (case_found ns c))
      (λ x k hx i. test_calls p (scope_words e) x k hx)))

  on_list : (p : Pos) (es : List Node) → Each Called_ es → Called_ (node.List p es)
  on_list p es he ls ex = rw (written.words_List p es, equation.meant_List ns p es ls ex)
      (calls_fitting ns.decls _ ex _ (on_then (CallRow ns.decls scope_words (meant ns) es)
      (By (all_words (map scope_words es))) (elements_of (meant ns) p es ls (expected_element ex)) _
      (calls_elements ns.decls scope_words (meant ns) p es he ls (expected_element ex)) (λ row hrow.
      on_where (By (all_words (map scope_words es))) (nat_le (length row.0) most_elements) _ _
      (λ few. on_where (By (all_words (map scope_words es))) (is_low_type ns.decls (ty.List row.1)) _ _ (λ low.
      rw (names_by_level own_scope (expr.List p row.0), expr.outs-List p row.0) hrow)))))

  on_structure : (u : Name) (fs : List SurfaceField) → Each (λ f. Called_ f.value) fs → Called_ (node.Structure u fs)
  on_structure u fs he ls ex = rw (written.words_Structure u fs, equation.meant_Structure ns u fs ls ex)
      (calls_fitting ns.decls _ ex _ (on_then (λ n. Unit {0}) (By (all_words (map value_words fs)))
      (structure_found ns u) _ (on_any (structure_found ns u)) (λ n i.
      on_then (CallValues ns.decls value_words (field_meant ns) (field_named ns.decls n) fs)
      (By (all_words (map value_words fs))) (values_of (field_meant ns) (field_named ns.decls n) fs ls) _
      (calls_values ns.decls value_words (field_meant ns) (field_named ns.decls n) fs he ls) (λ xs hxs.
      on_where (By (all_words (map value_words fs))) (are_fields_of ns.decls n (numbers_in xs)) _ _ (λ is.
      rw (names_by_level own_scope (expr.Structure u.pos n xs), expr.outs-Structure u.pos n xs)
      (subst (AreWordsOf ns.decls (all_words (map value_words fs))) (sym (values_are xs)) hxs))))))

  on_scope_call : (p : Pos) (u : Name) (fs : List SurfaceField) (w : Name) → Each (λ f. Called_ f.value) fs
      → Called_ (node.ScopeCall p u fs w)
  on_scope_call p u fs w he ls ex = rw (written.words_ScopeCall p u fs w, equation.meant_ScopeCall ns p u fs w ls ex)
      (calls_fitting ns.decls _ ex _
      (on_then (λ s. IsWordOf ns.decls (u ∷ []) s) (By (u ∷ all_words (map value_words fs))) (scope_found ns u) _
      (scope_word u) (λ s hs.
      on_both (CallValues ns.decls value_words (field_meant ns) (input_named ns.decls s) fs) (λ o. Unit {0})
      (By (u ∷ all_words (map value_words fs))) (values_of (field_meant ns) (input_named ns.decls s) fs ls)
      (or_fault (NameUnknown w.pos) (output_named ns.decls s w.text)) _
      (calls_values ns.decls value_words (field_meant ns) (input_named ns.decls s) fs he ls)
      (on_any (or_fault (NameUnknown w.pos) (output_named ns.decls s w.text))) (λ xs o hxs i.
      on_where (By (u ∷ all_words (map value_words fs))) (are_call_fields ns.decls s (numbers_in xs)) _ _ (λ is.
      rw (names_by_level own_scope (expr.ScopeCall p s xs o.0), expr.outs-ScopeCall p s xs o.0)
      (both_words ns.decls (u ∷ []) (all_words (map value_words fs)) (s ∷ [])
      (joined (map (names_in_field own_scope) xs)) (hs, tt)
      (subst (AreWordsOf ns.decls (all_words (map value_words fs))) (sym (values_are xs)) hxs)))))))

  on_if : (p : Pos) (c a b : Node) → Called_ c → Called_ a → Called_ b → Called_ (node.If p c a b)
  on_if p c a b hc ha hb ls ex = rw (written.words_If p c a b, equation.meant_If ns p c a b ls ex)
      (on_both (By (scope_words c)) (λ xs. By (scope_words a) xs.0 × By (scope_words b) xs.1)
      (By (scope_words c ++ scope_words a ++ scope_words b)) (meant ns c ls None)
      (branches_of (meant ns a) (meant ns b) ls ex) _ (hc ls None)
      (on_then (By (scope_words a)) (λ xs. By (scope_words a) xs.0 × By (scope_words b) xs.1) (meant ns a ls ex) _
      (ha ls ex) (λ x hx. on_then (By (scope_words b)) (λ xs. By (scope_words a) xs.0 × By (scope_words b) xs.1)
      (meant ns b ls (Some x.ty)) _ (hb ls (Some x.ty)) (λ y hy. (hx, hy))))
      (λ x xs hx hxs. if_calls p (scope_words c) (scope_words a) (scope_words b) x xs hx hxs.0 hxs.1))

  on_match : (p : Pos) (e : Node) (more : List SurfaceArm) → Called_ e → Each (λ a. Called_ a.body) more
      → Called_ (node.Match p e more)
  on_match p e more he each_ ls ex = rw (written.words_Match p e more, equation.meant_Match ns p e more ls ex)
      (on_then (By (scope_words e)) (By (scope_words e ++ all_words (map body_words more))) (meant ns e ls None) _
      (he ls None) (λ x hx.
      on_then (λ n. Unit {0}) (By (scope_words e ++ all_words (map body_words more)))
      (or_fault (TypeMismatch p) (enumeration_of x.ty)) _ (on_any (or_fault (TypeMismatch p) (enumeration_of x.ty)))
      (λ n i.
      on_then (CallRows ns.decls body_words (arm_meant ns) ns p n more)
      (By (scope_words e ++ all_words (map body_words more))) (arms_of (arm_meant ns) ns p n more ls ex) _
      (calls_arms ns.decls body_words (arm_meant ns) ns p n more each_ ls ex) (λ row hrow.
      on_where (By (scope_words e ++ all_words (map body_words more))) (are_complete ns.decls n row.0) _ _ (λ is.
      rw (names_by_level own_scope (expr.Match p x.expr row.0), expr.outs-Match p x.expr row.0)
      (both_words ns.decls (scope_words e) (all_words (map body_words more)) (scopes_named x.expr)
      (joined (map (names_in_arm own_scope) row.0)) hx (subst (AreWordsOf ns.decls (all_words (map body_words more)))
      (sym (bodies_are row.0)) hrow)))))))

  on_each : (k : eaches.Each) (p : Pos) (w : Name) (l e : Node) → Called_ l → Called_ e → Called_ (node.Each k p w l e)
  on_each k p w l e hl he ls ex = rw (written.words_Each k p w l e, equation.meant_Each ns k p w l e ls ex)
      (calls_fitting ns.decls _ ex _ (on_then (By (scope_words l)) (By (scope_words l ++ scope_words e))
      (meant ns l ls None) _ (hl ls None) (λ x hx.
      on_then (λ t. Unit {0}) (By (scope_words l ++ scope_words e)) (or_fault (TypeMismatch p) (element_of x.ty)) _
      (on_any (or_fault (TypeMismatch p) (element_of x.ty))) (λ t i.
      on_then (By (scope_words e)) (By (scope_words l ++ scope_words e)) (meant ns e (ls ++ bound w t ∷ []) None) _
      (he (ls ++ bound w t ∷ []) None) (λ y hy. each_calls k p (scope_words l) (scope_words e) x y hx hy)))))

  on_combine : (p : Pos) (w : Name) (l : Node) (acc : Name) (s e : Node) → Called_ l → Called_ s → Called_ e
      → Called_ (node.Combine (accumulation p w acc) l s e)
  on_combine p w l acc s e hl hs he ls ex = rw (
    written.words_Combine p w l acc s e,
    equation.meant_Combine ns p w l acc
        s e ls ex,
  ) (calls_fitting ns.decls _ ex _
      (on_both (By (scope_words l)) (By (scope_words s)) (By (scope_words l ++ scope_words s ++ scope_words e))
      (meant ns l ls None) (meant ns s ls None) _ (hl ls None) (hs ls None) (λ x y hx hy.
      on_then (λ t. Unit {0}) (By (scope_words l ++ scope_words s ++ scope_words e))
      (or_fault (TypeMismatch p) (element_of x.ty)) _ (on_any (or_fault (TypeMismatch p) (element_of x.ty))) (λ t i.
      on_then (By (scope_words e)) (By (scope_words l ++ scope_words s ++ scope_words e))
      (meant ns e (ls ++ bound w t ∷ bound acc y.ty ∷ []) (Some y.ty)) _
      (he (ls ++ bound w t ∷ bound acc y.ty ∷ []) (Some y.ty)) (λ z hz.
      rw (names_by_level own_scope (expr.Combine p x.expr y.expr z.expr), expr.outs-Combine p x.expr y.expr z.expr)
      (both_words ns.decls (scope_words l ++ scope_words s) (scope_words e) (scopes_named x.expr ++ scopes_named y.expr)
      (scopes_named z.expr)
      (both_words ns.decls (scope_words l) (scope_words s) (scopes_named x.expr) (scopes_named y.expr) hx hy) hz))))))

  -- each expression
  pub each_call_is_written : (e : Node) → Called_ e
  each_call_is_written = induction Called_ on_literal on_name on_case on_parens on_field on_prefixed on_sum on_content
      on_call
      on_binary on_test on_list on_structure on_scope_call on_if on_match on_each on_combine
