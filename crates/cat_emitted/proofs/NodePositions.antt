-- What a spelled expression means has operations in the files of its tokens: one lemma a form.
use Rattle.std.proofs.Common.{ℕ, nat_eq, nat_le, List, [], ◌∷◌, ◌++◌, length, Option, Some, None, refl, sym}
use Rattle.std.proofs.Common.{subst}
use Rattle.cat_pos.specs.declared.pos.Pos.{Pos}
use Rattle.cat_value.specs.declared.ty.Ty.{Ty}
use Rattle.cat_value.specs.declared.ty.Ty.TheVariants as flat_ty
use Rattle.cat_value.specs.declared.ty.Ty.TheViews as ty
use Rattle.cat_value.specs.declared.declaration.ItemDecl.{ItemDecl}
use Rattle.cat_value.specs.Entries.{content_of}
use Rattle.cat_value.specs.Typing.{most_elements}
use Rattle.cat_tree.specs.Accumulation.{accumulation}
use Rattle.cat_tree.specs.declared.name.Name.{Name}
use Rattle.cat_tree.specs.declared.name.CaseName.{CaseName}
use Rattle.cat_tree.specs.declared.name.Type as types
use Rattle.cat_tree.specs.declared.expression.SurfaceLiteral as tree
use Rattle.cat_tree.specs.declared.expression.Prefix.{Prefix}
use Rattle.cat_tree.specs.declared.expression.Operator.{Operator}
use Rattle.cat_tree.specs.declared.expression.Each as eaches
use Rattle.cat_tree.specs.declared.expression.Each.TheVariants as each
use Rattle.cat_tree.specs.declared.expression.Node.{Node}
use Rattle.cat_tree.specs.declared.expression.SurfaceField.{SurfaceField}
use Rattle.cat_tree.specs.declared.expression.SurfaceArm.{SurfaceArm}
use Rattle.cat_tree.specs.declared.expression.Node.TheVariants as leaf_node
use Rattle.cat_tree.specs.declared.expression.Node.TheViews as node
use Rattle.cat_tree.specs.declared.expression.Node.TheViews.{out-Node}
use Rattle.cat_tree.specs.Grammar.{phrase}
use Rattle.cat_tree.proofs.Exported as row
use Rattle.cat_scope.specs.declared.expr.Expr.TheVariants as leaf
use Rattle.cat_scope.specs.declared.expr.Expr.TheViews as expr
use Rattle.cat_scope.specs.Names.{Names, AllHave, is_plain}
use Rattle.cat_scope.specs.Fitting.{numbers_in, are_complete, are_fields_of, are_call_fields, is_low_type}
use Rattle.cat_scope.specs.Literals.{literal_fits}
use Rattle.cat_scope.proofs.Exported.{names_by_level, Each, all_append}
use Rattle.cat_names.specs.declared.fault.Fault.TheVariants.{TypeMismatch, NameUnknown}
use Rattle.cat_names.specs.declared.typed.Typed.{Typed}
use Rattle.cat_names.specs.declared.typed.Local.{Local}
use Rattle.cat_names.specs.Found.{or_fault}
use Rattle.cat_names.specs.Types.{same, element_of, expected_element, enumeration_of, structure_of}
use Rattle.cat_names.specs.Lookup.{innermost, item_named, type_names, type_found}
use Rattle.cat_names.specs.Naming.{Called, called_scope, name_found, bound_or_item, item_found, function_found}
use Rattle.cat_names.specs.Naming.{case_found, case_first, structure_found, scope_found}
use Rattle.cat_names.specs.Operations.{literal_written}
use Rattle.cat_names.specs.Forms.{field_named, input_named, output_named, if_of, test_of, each_of, bound}
use Rattle.cat_names.specs.Parts.{Meaning, elements_of, arguments_of, values_of, arms_of}
use Rattle.cat_names.specs.Compound.{dotted, content_of_type, case_alone, branches_of}
use Rattle.cat_names.specs.Meaning.{meant, name_alone, field_meant, arm_meant}
use Rattle.cat_names.specs.TypedMeanings.{OnFound}
use Rattle.cat_lower.specs.Files.{own_file, files_in}
use Rattle.cat_emitted.proofs.FoundLemmas.{on_then, on_both, on_both_where, on_where, on_any}
use Rattle.cat_names.proofs.Equations as equation
use Rattle.cat_emitted.proofs.NodeInduction.{induction}
use Rattle.cat_emitted.proofs.TreePositions.{HasFiles}
use Rattle.cat_emitted.proofs.PhraseParts as part
use Rattle.cat_emitted.proofs.MeantFiles as fits
use Rattle.cat_emitted.proofs.MeantFiles.{values_are, bodies_are}

-- what each element hands on from one property to another
each_on : {A : Type 0} (P R : A → Type 0) (xs : List A) → Each (λ x. P x → R x) xs → Each P xs → Each R xs
each_on P R [] go h = tt
each_on P R (x ∷ xs) go h = (go.0 h.0, each_on P R xs go.1 h.1)

module _ (Q : ℕ → Type 0) (ns : Names) where
  abbrev Fits : Typed → Type 0
  Fits = fits.Fits Q

  abbrev Held : Node → Type 0
  Held e = HasFiles Q (phrase e) → fits.FitsBy Q (meant ns e)

  -- ---- forms with known parts

  named_fits : (w : Name) (ls : List Local) → OnFound Fits (name_found ns w ls)
  named_fits w ls = by (innermost w.text ls)
    where
      item : (found : Option (ℕ × ItemDecl)) → OnFound Fits (item_found w.pos found)
      item None = tt
      item (Some i) = on_where Fits (is_plain i.1) _ _
          (λ plain. rw (names_by_level own_file (leaf.Item w.pos i.0), expr.outs-Item w.pos i.0) tt)

      by : (found : Option (ℕ × Ty)) → OnFound Fits (bound_or_item ns w found)
      by (Some l) = rw (names_by_level own_file (leaf.Local w.pos l.0), expr.outs-Local w.pos l.0) tt
      by None = item (item_named w.text ns.items)

  alone_fits : (p : Pos) (k : ℕ × ℕ) (content : Option (Option Ty)) → OnFound Fits (case_alone p k content)
  alone_fits p k (Some None) = rw (names_by_level own_file (expr.Case p k.0 k.1 None), expr.outs-Case p k.0 k.1 None)
      tt
  alone_fits p k (Some (Some t)) = tt
  alone_fits p k None = tt

  content_fits : (p : Pos) (k : ℕ × ℕ) (e : Meaning) → fits.FitsBy Q e → (ls : List Local)
      (content : Option (Option Ty)) → OnFound Fits (content_of_type p k e ls content)
  content_fits p k e h ls (Some (Some t)) = on_then Fits Fits (e ls (Some t)) _ (h ls (Some t)) (λ x hx.
      fits.fits_one Q x hx (expr.Case p k.0 k.1 (Some x.expr))
      (rw (names_by_level own_file (expr.Case p k.0 k.1 (Some x.expr)), expr.outs-Case p k.0 k.1 (Some x.expr))
      refl))
  content_fits p k e h ls (Some None) = on_then Fits Fits (e ls None) _ (h ls None) (λ x hx. tt)
  content_fits p k e h ls None = on_then Fits Fits (e ls None) _ (h ls None) (λ x hx. tt)

  dotted_fits : (w : Name) (e : Meaning) → fits.FitsBy Q e → (ls : List Local) (o : Option Called)
      → OnFound Fits (dotted ns w e ls o)
  dotted_fits w e h ls (Some c) = on_then (λ o. Unit {0}) Fits
      (or_fault (NameUnknown w.pos) (output_named ns.decls c.scope w.text)) _
      (on_any (or_fault (NameUnknown w.pos) (output_named ns.decls c.scope w.text)))
      (λ o i. rw (names_by_level own_file (leaf.Output c.first c.item o.0), expr.outs-Output c.first c.item o.0) tt)
  dotted_fits w e h ls None = on_then Fits Fits (e ls None) _ (h ls None) (λ x hx.
      on_then (λ n. Unit {0}) Fits (or_fault (TypeMismatch x.first) (structure_of x.ty)) _
      (on_any (or_fault (TypeMismatch x.first) (structure_of x.ty))) (λ n i.
      on_then (λ f. Unit {0}) Fits (or_fault (NameUnknown w.pos) (field_named ns.decls n w.text)) _
      (on_any (or_fault (NameUnknown w.pos) (field_named ns.decls n w.text))) (λ f j.
      fits.fits_one Q x hx (expr.Field x.first x.expr f.0)
      (rw (names_by_level own_file (expr.Field x.first x.expr f.0), expr.outs-Field x.first x.expr f.0) refl))))

  test_fits : (p : Pos) (e : Typed) (k : ℕ × ℕ) → Fits e → OnFound Fits (test_of p e k)
  test_fits p e k h = on_then (λ n. Unit {0}) Fits (or_fault (TypeMismatch p) (enumeration_of e.ty)) _
      (on_any (or_fault (TypeMismatch p) (enumeration_of e.ty)))
      (λ n i. on_where Fits (nat_eq k.0 n) _ _ (λ is. fits.fits_one Q e h (expr.IsCase e.first e.expr n k.1)
      (rw (names_by_level own_file (expr.IsCase e.first e.expr n k.1), expr.outs-IsCase e.first e.expr n k.1) refl)))

  if_fits : (p : Pos) (c : Typed) (xs : Typed × Typed) → Fits c → Fits xs.0 → Fits xs.1 → OnFound Fits (if_of p c xs)
  if_fits p c xs hc ha hb = on_where Fits (same flat_ty.Boolean c.ty) _ _ (λ is.
      rw (names_by_level own_file (expr.If p c.expr xs.0.expr xs.1.expr), expr.outs-If p c.expr xs.0.expr xs.1.expr)
      (all_append Q (files_in c.expr ++ files_in xs.0.expr) (files_in xs.1.expr)
      (all_append Q (files_in c.expr) (files_in xs.0.expr) hc ha) hb))

  each_fits : (k : eaches.Each) (p : Pos) (l body : Typed) → Fits l → Fits body → OnFound Fits (each_of ns k p l body)
  each_fits each.ForAll p l body hl hb = on_where Fits (same flat_ty.Boolean body.ty) _ _ (λ is.
      fits.fits_two Q l body hl hb (expr.ForAll p l.expr body.expr)
      (rw (names_by_level own_file (expr.ForAll p l.expr body.expr), expr.outs-ForAll p l.expr body.expr) refl))
  each_fits each.Exists p l body hl hb = on_where Fits (same flat_ty.Boolean body.ty) _ _ (λ is.
      fits.fits_two Q l body hl hb (expr.Exists p l.expr body.expr)
      (rw (names_by_level own_file (expr.Exists p l.expr body.expr), expr.outs-Exists p l.expr body.expr) refl))
  each_fits each.ListOf p l body hl hb = on_where Fits (same flat_ty.Boolean body.ty) _ _ (λ is.
      fits.fits_two Q l body hl hb (expr.Filter p l.expr body.expr)
      (rw (names_by_level own_file (expr.Filter p l.expr body.expr), expr.outs-Filter p l.expr body.expr) refl))
  each_fits each.MapEach p l body hl hb = on_where Fits (is_low_type ns.decls (ty.List body.ty)) _ _ (λ is.
      fits.fits_two Q l body hl hb (expr.Map p l.expr body.expr)
      (rw (names_by_level own_file (expr.Map p l.expr body.expr), expr.outs-Map p l.expr body.expr) refl))

  -- ---- each form

  on_literal : (l : tree.SurfaceLiteral) (p : Pos) → Held (leaf_node.Literal l p)
  on_literal l p h ls ex = rw (equation.meant_Literal ns l p ls ex)
      (fits.fits_expected Q ex _ (on_where Fits (literal_fits (literal_written l)) (TypeMismatch p) _
      (λ is. fits.fits_literal Q p (literal_written l))))

  on_name : (w : Name) → Held (leaf_node.Name w)
  on_name w h ls ex = rw (equation.meant_Name ns w ls ex) (fits.fits_expected Q ex _ (named_fits w ls))

  on_case : (c : CaseName) → Held (leaf_node.Case c)
  on_case c h ls ex = rw (equation.meant_Case ns c ls ex)
      (fits.fits_expected Q ex _ (on_then (λ k. Unit {0}) Fits (case_found ns c) _ (on_any (case_found ns c))
      (λ k i. alone_fits (case_first c) k (content_of ns.decls k.0 k.1))))

  on_parens : (p : Pos) (e : Node) → Held e → Held (node.Parens p e)
  on_parens p e he h ls ex =
      let parts = subst (HasFiles Q) (row.phrase_Parens p e) h in
      rw (equation.meant_Parens ns p e ls ex)
      (on_then Fits Fits (meant ns e ls ex) _ (he parts.1.0 ls ex) (λ x hx. hx))

  on_field : (e : Node) (w : Name) → Held e → Held (node.Field e w)
  on_field e w he h ls ex =
      let parts = subst (HasFiles Q) (row.phrase_Field e w) h in
      rw (equation.meant_Field ns e w ls ex)
      (fits.fits_expected Q ex _
      (dotted_fits w (meant ns e) (he parts.0) ls (called_scope ns (name_alone (out-Node e)) ls)))

  on_prefixed : (o : Prefix) (p : Pos) (e : Node) → Held e → Held (node.Prefixed o p e)
  on_prefixed o p e he h ls ex =
      let parts = part.prefix_files Q o p _ (subst (HasFiles Q) (row.phrase_Prefixed o p e) h) in
      rw (equation.meant_Prefixed ns o p e ls ex)
      (fits.fits_expected Q ex _ (on_then Fits Fits (meant ns e ls None) _ (he parts.1.0 ls None)
      (λ x hx. fits.fits_prefixed Q o p parts.0 x hx)))

  on_sum : (p : Pos) (t : types.Type) (e : Node) → Held e → Held (node.Sum p t e)
  on_sum p t e he h ls ex =
      let parts = subst (HasFiles Q) (row.phrase_Sum p t e) h in
      let rest = part.type_rest Q t _ parts.1 in
      rw (equation.meant_Sum ns p t e ls ex)
      (fits.fits_expected Q ex _ (on_both (λ u. Unit {0}) Fits Fits
      (type_found (type_names ns.decls) t) (meant ns e ls None) _ (on_any (type_found (type_names ns.decls) t))
      (he rest.0 ls None) (λ u x i hx. fits.fits_sum Q p parts.0 u x hx)))

  on_content : (c : CaseName) (e : Node) → Held e → Held (node.Content c e)
  on_content c e he h ls ex =
      let rest = part.case_rest Q c _ (subst (HasFiles Q) (row.phrase_Content c e) h) in
      rw (equation.meant_Content ns c e ls ex)
      (fits.fits_expected Q ex _ (on_then (λ k. Unit {0}) Fits (case_found ns c) _
      (on_any (case_found ns c)) (λ k i. content_fits (case_first c) k (meant ns e) (he rest.0) ls
      (content_of ns.decls k.0 k.1))))

  on_call : (w : Name) (args : List Node) → Each Held args → Held (node.Call w args)
  on_call w args he h ls ex =
      let parts = subst (HasFiles Q) (row.phrase_Call w args) h in
      let all = part.elements_files Q _ _ args _ parts.1 in
      let each_fit = each_on (λ e. HasFiles Q (phrase e)) (λ e. fits.FitsBy Q (meant ns e)) args he all.0 in
      rw (equation.meant_Call ns w args ls ex)
      (fits.fits_expected Q ex _ (on_then (λ f. Unit {0}) Fits
      (function_found ns w ls) _ (on_any (function_found ns w ls)) (λ f i.
      on_both_where (fits.FitAll Q) Fits
      (nat_eq (length args) (length f.1.params)) _ f (arguments_of (meant ns) args ls f.1.params) _
      (λ is. fits.fits_arguments Q (meant ns) args each_fit ls f.1.params) (λ is xs hxs.
      rw (names_by_level own_file (expr.Call w.pos f.0 xs), expr.outs-Call w.pos f.0 xs) hxs))))

  on_binary : (o : Operator) (p : Pos) (a b : Node) → Held a → Held b → Held (node.Binary o p a b)
  on_binary o p a b ha hb h ls ex =
      let parts = subst (HasFiles Q) (row.phrase_Binary o p a b) h in
      rw (equation.meant_Binary ns o p a b ls ex)
      (fits.fits_expected Q ex _
      (on_both Fits Fits Fits (meant ns a ls None) (meant ns b ls None) _ (ha parts.0 ls None)
      (hb parts.1.1.0 ls None) (λ x y hx hy. fits.fits_binary Q o p parts.1.0 x y hx hy)))

  on_test : (e : Node) (p : Pos) (c : CaseName) → Held e → Held (node.Test e p c)
  on_test e p c he h ls ex =
      let parts = subst (HasFiles Q) (row.phrase_Test e p c) h in
      rw (equation.meant_Test ns e p c ls ex)
      (fits.fits_expected Q ex _ (on_both Fits (λ k. Unit {0}) Fits
      (meant ns e ls None) (case_found ns c) _ (he parts.0 ls None) (on_any (case_found ns c))
      (λ x k hx i. test_fits p x k hx)))

  on_list : (p : Pos) (es : List Node) → Each Held es → Held (node.List p es)
  on_list p es he h ls ex =
      let parts = subst (HasFiles Q) (row.phrase_List p es) h in
      let all = part.elements_files Q _ _ es _ parts.1 in
      let each_fit = each_on (λ e. HasFiles Q (phrase e)) (λ e. fits.FitsBy Q (meant ns e)) es he all.0 in
      rw (equation.meant_List ns p es ls ex)
      (fits.fits_expected Q ex _ (on_then (fits.FitRow Q (meant ns)) Fits
      (elements_of (meant ns) p es ls (expected_element ex)) _
      (fits.fits_elements Q (meant ns) p es each_fit ls (expected_element ex)) (λ row hrow.
      on_where Fits (nat_le (length row.0) most_elements) _ _
      (λ few. on_where Fits (is_low_type ns.decls (ty.List row.1)) _ _ (λ low.
      rw (names_by_level own_file (expr.List p row.0), expr.outs-List p row.0) hrow)))))

  on_structure : (u : Name) (fs : List SurfaceField) → Each (λ f. Held f.value) fs → Held (node.Structure u fs)
  on_structure u fs he h ls ex =
      let parts = subst (HasFiles Q) (row.phrase_Structure u fs) h in
      let all = part.fields_files Q fs _ parts.1 in
      let each_fit = each_on (λ f. HasFiles Q (phrase f.value)) (λ f. fits.FitsBy Q (meant ns f.value)) fs he all.0 in
      rw (equation.meant_Structure ns u fs ls ex)
      (fits.fits_expected Q ex _ (on_then (λ n. Unit {0}) Fits
      (structure_found ns u) _ (on_any (structure_found ns u)) (λ n i.
      on_then (fits.FitValues Q) Fits (values_of (field_meant ns) (field_named ns.decls n) fs ls) _
      (fits.fits_values Q (field_meant ns) (field_named ns.decls n) fs each_fit ls) (λ xs hxs.
      on_where Fits (are_fields_of ns.decls n (numbers_in xs)) _ _ (λ is.
      rw (names_by_level own_file (expr.Structure u.pos n xs), expr.outs-Structure u.pos n xs)
      (subst (AllHave Q) (sym (values_are xs)) hxs))))))

  on_scope_call : (p : Pos) (u : Name) (fs : List SurfaceField) (w : Name) → Each (λ f. Held f.value) fs
      → Held (node.ScopeCall p u fs w)
  on_scope_call p u fs w he h ls ex =
      let parts = subst (HasFiles Q) (row.phrase_ScopeCall p u fs w) h in
      let all = part.fields_files Q fs _ parts.1.1 in
      let each_fit = each_on (λ f. HasFiles Q (phrase f.value)) (λ f. fits.FitsBy Q (meant ns f.value)) fs he all.0 in
      rw (equation.meant_ScopeCall ns p u fs w ls ex)
      (fits.fits_expected Q ex _
      (on_then (λ s. Unit {0}) Fits (scope_found ns u) _ (on_any (scope_found ns u)) (λ s hs.
      on_both (fits.FitValues Q) (λ o. Unit {0}) Fits (values_of (field_meant ns) (input_named ns.decls s) fs ls)
      (or_fault (NameUnknown w.pos) (output_named ns.decls s w.text)) _
      (fits.fits_values Q (field_meant ns) (input_named ns.decls s) fs each_fit ls)
      (on_any (or_fault (NameUnknown w.pos) (output_named ns.decls s w.text))) (λ xs o hxs i.
      on_where Fits (are_call_fields ns.decls s (numbers_in xs)) _ _ (λ is.
      rw (names_by_level own_file (expr.ScopeCall p s xs o.0), expr.outs-ScopeCall p s xs o.0)
      (subst (AllHave Q) (sym (values_are xs)) hxs))))))

  on_if : (p : Pos) (c a b : Node) → Held c → Held a → Held b → Held (node.If p c a b)
  on_if p c a b hc ha hb h ls ex =
      let parts = subst (HasFiles Q) (row.phrase_If p c a b) h in
      rw (equation.meant_If ns p c a b ls ex)
      (on_both Fits (λ xs. Fits xs.0 × Fits xs.1) Fits (meant ns c ls None)
      (branches_of (meant ns a) (meant ns b) ls ex) _ (hc parts.1.0 ls None)
      (on_then Fits (λ xs. Fits xs.0 × Fits xs.1) (meant ns a ls ex) _
      (ha parts.1.1.0 ls ex) (λ x hx. on_then Fits (λ xs. Fits xs.0 × Fits xs.1)
      (meant ns b ls (Some x.ty)) _ (hb parts.1.1.1.0 ls (Some x.ty)) (λ y hy. (hx, hy))))
      (λ x xs hx hxs. if_fits p x xs hx hxs.0 hxs.1))

  on_match : (p : Pos) (e : Node) (more : List SurfaceArm) → Held e → Each (λ a. Held a.body) more
      → Held (node.Match p e more)
  on_match p e more he arms_held h ls ex =
      let parts = subst (HasFiles Q) (row.phrase_Match p e more) h in
      let all = part.arms_files Q more parts.1.1 in
      let each_fit =
      each_on (λ a. HasFiles Q (phrase a.body)) (λ a. fits.FitsBy Q (meant ns a.body)) more arms_held all in
      rw (equation.meant_Match ns p e more ls ex)
      (on_then Fits Fits (meant ns e ls None) _ (he parts.1.0 ls None) (λ x hx.
      on_then (λ n. Unit {0}) Fits
      (or_fault (TypeMismatch p) (enumeration_of x.ty)) _ (on_any (or_fault (TypeMismatch p) (enumeration_of x.ty)))
      (λ n i.
      on_then (fits.FitRows Q) Fits (arms_of (arm_meant ns) ns p n more ls ex) _
      (fits.fits_arms Q (arm_meant ns) ns p n more each_fit ls ex) (λ row hrow.
      on_where Fits (are_complete ns.decls n row.0) _ _ (λ is.
      rw (names_by_level own_file (expr.Match p x.expr row.0), expr.outs-Match p x.expr row.0)
      (all_append Q (files_in x.expr) _ hx (subst (AllHave Q) (sym (bodies_are row.0)) hrow)))))))

  on_each : (k : eaches.Each) (p : Pos) (w : Name) (l e : Node) → Held l → Held e → Held (node.Each k p w l e)
  on_each k p w l e hl he h ls ex =
      let parts = part.each_files Q k p w (phrase l) (phrase e) (subst (HasFiles Q) (row.phrase_Each k p w l e) h) in
      rw (equation.meant_Each ns k p w l e ls ex)
      (fits.fits_expected Q ex _ (on_then Fits Fits (meant ns l ls None) _ (hl parts.0 ls None) (λ x hx.
      on_then (λ t. Unit {0}) Fits (or_fault (TypeMismatch p) (element_of x.ty)) _
      (on_any (or_fault (TypeMismatch p) (element_of x.ty))) (λ t i.
      on_then Fits Fits (meant ns e (ls ++ bound w t ∷ []) None) _
      (he parts.1 (ls ++ bound w t ∷ []) None) (λ y hy. each_fits k p x y hx hy)))))

  on_combine : (p : Pos) (w : Name) (l : Node) (acc : Name) (s e : Node) → Held l → Held s → Held e
      → Held (node.Combine (accumulation p w acc) l s e)
  on_combine p w l acc s e hl hs he h ls ex =
      let parts = subst (HasFiles Q) (row.phrase_Combine p w l acc s e) h in
      rw (equation.meant_Combine ns p w l acc s e ls ex)
      (fits.fits_expected Q ex _
      (on_both Fits Fits Fits (meant ns l ls None) (meant ns s ls None) _ (hl parts.1.1.0 ls None)
      (hs parts.1.1.1.1.0 ls None) (λ x y hx hy.
      on_then (λ t. Unit {0}) Fits (or_fault (TypeMismatch p) (element_of x.ty)) _
      (on_any (or_fault (TypeMismatch p) (element_of x.ty))) (λ t i.
      on_then Fits Fits (meant ns e (ls ++ bound w t ∷ bound acc y.ty ∷ []) (Some y.ty)) _
      (he parts.1.1.1.1.1.0 (ls ++ bound w t ∷ bound acc y.ty ∷ []) (Some y.ty)) (λ z hz.
      rw (names_by_level own_file (expr.Combine p x.expr y.expr z.expr), expr.outs-Combine p x.expr y.expr z.expr)
      (all_append Q (files_in x.expr ++ files_in y.expr) (files_in z.expr)
      (all_append Q (files_in x.expr) (files_in y.expr) hx hy) hz))))))

  -- each expression
  pub meant_files : (e : Node) → Held e
  meant_files = induction Held on_literal on_name on_case on_parens on_field on_prefixed on_sum on_content on_call
      on_binary on_test on_list on_structure on_scope_call on_if on_match on_each on_combine
