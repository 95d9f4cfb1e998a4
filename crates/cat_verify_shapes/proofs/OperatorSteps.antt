-- Where operators lead.
use Rattle.std.proofs.Common.{◌≡◌, ◌⊎◌, inl, inr, ℕ, ◌+◌, nat_eq, nat_lt, ◌&&◌, Bool, true, false, List, [], ◌∷◌}
use Rattle.std.proofs.Common.{length, map, Option, Some, None, slice_get, refl, sym, ap, ◌∙◌, subst}
use Rattle.std.specs.Prelude.{Result, Ok, Err}
use Rattle.std.proofs.lemmas.Bool.{eq-eqb, and_from, and_right, and_left}
use Rattle.cat_value.specs.declared.ty.Ty.{Ty}
use Rattle.cat_value.specs.declared.ty.Ty.TheVariants as ty
use Rattle.cat_value.specs.declared.decls.Decls.{Decls}
use Rattle.cat_scope.specs.declared.operators.BinaryOp.{BinaryOp}
use Rattle.cat_scope.specs.Signatures.{Signature, comparison, ordered_types, compared_types, signatures_of, taken_by}
use Rattle.cat_scope.specs.Signatures.{given_by}
use Rattle.cat_code.specs.declared.instr.Instr.TheVariants as instr
use Rattle.cat_code.specs.declared.code.Tables.{Tables}
use Rattle.cat_code.specs.Operations as operations
use Rattle.cat_code.specs.Operations.{Operation, operation, roundings}
use Rattle.cat_code.specs.Forms as code
use Rattle.cat_code.specs.Forms.{same_form, form_of}
use Rattle.cat_code.specs.Shapes as meant
use Rattle.cat_code.specs.Wanted.{signed}
use Rattle.cat_code.specs.Leads.{Flow, leads, with, pushed, pop, operated}
use Rattle.cat_code.specs.Flow.{flow}
use Rattle.cat_code.proofs.FormLaws.{form_Boolean, form_Integer, form_Decimal, form_Money, form_Date, form_Duration}
use Rattle.cat_verify_shapes.specs.declared.forms.Form.{Form}
use Rattle.cat_verify_shapes.specs.declared.forms.Form.TheVariants as form
use Rattle.cat_verify_shapes.specs.declared.forms.Forms.{Forms}
use Rattle.cat_verify_shapes.specs.declared.operators.Operator.{Operator}
use Rattle.cat_verify_shapes.specs.declared.operators.Operator.TheVariants as operator
use Rattle.cat_verify_shapes.specs.declared.shape.Shape.{Shape}
use Rattle.cat_verify_shapes.specs.declared.leads.Leads.{Leads}
use Rattle.cat_verify_shapes.specs.declared.leads.Stuck.{Stuck}
use Rattle.cat_verify_shapes.specs.declared.leads.Stuck.TheVariants as stuck
use Rattle.cat_verify_shapes.specs.inside.Senses.{Senses, AreSenses, Means}
use Rattle.cat_verify_shapes.specs.inside.Told.{shape_of, leads_of, Tells}
use Rattle.cat_verify_shapes.specs.inside.Taking.{Takes}
use Rattle.cat_verify_shapes.specs.inside.Operators.{type_of, IsOf, IsNamed, TakesForm, TakesBoth, is_compared}
use Rattle.cat_verify_shapes.specs.inside.Operators.{Compares, AreUnlike, GivesForm, Operates}
use Rattle.cat_verify_shapes.proofs.ListLemmas.{none_some, some_is}
use Rattle.cat_verify_shapes.proofs.StepLemmas.{with_is, with_not, where_is, where_not, pop_none, pop_some, as_so}
use Rattle.cat_verify_shapes.proofs.StepLemmas.{as_not, AreApart, comes_by}
use Rattle.cat_verify_shapes.proofs.ComparedForms.{chosen, any_same, signed_self, signed_apart, ordered_forms}
use Rattle.cat_verify_shapes.proofs.ComparedForms.{compared_forms, forms_of, any_is}

flat_means : (ds : Decls) (d : Senses) (n : ℕ) (f : Form) (t : Ty) → type_of f ≡ Some t → Means d n f
    → d.one n ≡ form_of ds t
flat_means ds d n form.Truth t e m = m ∙ sym (form_Boolean ds) ∙ ap (form_of ds) (some_is ty.Boolean t e)
flat_means ds d n form.Whole t e m = m ∙ sym (form_Integer ds) ∙ ap (form_of ds) (some_is ty.Integer t e)
flat_means ds d n form.Fraction t e m = m ∙ sym (form_Decimal ds) ∙ ap (form_of ds) (some_is ty.Decimal t e)
flat_means ds d n form.Amount t e m = m ∙ sym (form_Money ds) ∙ ap (form_of ds) (some_is ty.Money t e)
flat_means ds d n form.Day t e m = m ∙ sym (form_Date ds) ∙ ap (form_of ds) (some_is ty.Date t e)
flat_means ds d n form.Span t e m = m ∙ sym (form_Duration ds) ∙ ap (form_of ds) (some_is ty.Duration t e)
flat_means ds d n (form.Many k) t e m = absurd (none_some t e)
flat_means ds d n (form.Fields k) t e m = absurd (none_some t e)
flat_means ds d n (form.OneOf k) t e m = absurd (none_some t e)
flat_means ds d n form.Last t e m = absurd (none_some t e)
flat_means ds d n (form.More k l) t e m = absurd (none_some t e)

module _ (tables : Tables) (forms : Forms) (p : ℕ) where
  -- ---- before one operand

  told_by : (d : Senses) (s : Shape) (o u : Operation) → o ≡ u
      → operated (form_of tables.decls) o p (shape_of d s) ≡ operated (form_of tables.decls) u p (shape_of d s)
  told_by d s o u e = ap (λ (x : Operation). operated (form_of tables.decls) x p (shape_of d s)) e

  given_is : (d : Senses) → AreSenses tables.decls forms d → (r : Shape) (b : Form) (t : Ty) (l : Leads)
      → type_of b ≡ Some t → GivesForm forms p r b l
      → leads (p + 1) (pushed (form_of tables.decls t) (shape_of d r)) ≡ Some (leads_of d l)
  given_is d h r b t l is gives =
      ap (λ (x : code.Form). leads (p + 1) (pushed x (shape_of d r)))
      (sym (flat_means tables.decls d gives.0 b t is (h.means gives.0 b gives.1)))
      ∙ ap (λ (x : Leads). Some (leads_of d x)) (sym gives.2)

  pub before_so : (s r : Shape) (a b : Form) (l : Leads) → TakesForm forms s r a true → GivesForm forms p r b l
      → Operates tables forms p s (operator.Before a b) (Ok l)
  before_so s r a b l takes gives o of d h =
      told_by d s o (operations.Before of.0) of.1
      ∙ as_so d h.apart s r takes.0 (form_of tables.decls (taken_by of.0))
      (λ x. leads (p + 1) (pushed (form_of tables.decls (given_by of.0)) x))
      (flat_means tables.decls d takes.0 a (taken_by of.0) of.2 (h.means takes.0 a takes.1)) takes.2
      ∙ given_is d h r b (given_by of.0) l of.3 gives

  pub before_not : (s r : Shape) (a b : Form) → TakesForm forms s r a false
      → Operates tables forms p s (operator.Before a b) (Err stuck.Bad)
  before_not s r a b takes o of d h =
      told_by d s o (operations.Before of.0) of.1
      ∙ as_not d h.apart s r takes.0 (form_of tables.decls (taken_by of.0))
      (λ x. leads (p + 1) (pushed (form_of tables.decls (given_by of.0)) x))
      (flat_means tables.decls d takes.0 a (taken_by of.0) of.2 (h.means takes.0 a takes.1)) takes.2

  -- ---- between two operands

  -- what is given for two operands
  abbrev resulting : List Signature → code.Form → code.Form → meant.Shape → Flow
  resulting ss u t x = with (signed (form_of tables.decls) ss t u)
      (λ r. leads (p + 1) (pushed (form_of tables.decls r) x))

  abbrev popping : List Signature → code.Form → meant.Shape → Flow
  popping ss u x = pop x (λ t y. resulting ss u t y)

  between_is : (d : Senses) (s : Shape) (o : Operation) (u : BinaryOp) (ss : List Signature)
      → o ≡ operations.Between u → signatures_of u ≡ ss
      → operated (form_of tables.decls) o p (shape_of d s) ≡ pop (shape_of d s) (popping ss)
  between_is d s o u ss is of =
      told_by d s o (operations.Between u) is
      ∙ ap (λ (l : List Signature). pop (shape_of d s) (popping l)) of

  one_signature : (g : Signature) (t u : code.Form)
      → (same_form t (form_of tables.decls g.left) && same_form u (form_of tables.decls g.right)) ≡ true
      → Some g.result ≡ signed (form_of tables.decls) (g ∷ []) t u
  one_signature g t u e = sym (ap (λ (b : Bool). chosen b g.result None) e)

  no_signature : (g : Signature) (t u : code.Form)
      → (same_form t (form_of tables.decls g.left) && same_form u (form_of tables.decls g.right)) ≡ false
      → None ≡ signed (form_of tables.decls) (g ∷ []) t u
  no_signature g t u e = sym (ap (λ (b : Bool). chosen b g.result None) e)

  same_as : (d : Senses) → AreApart d → (n m : ℕ) (t : code.Form) → d.one m ≡ t → same_form (d.one n) t ≡ nat_eq n m
  same_as d apart n m t is = ap (same_form (d.one n)) (sym is) ∙ apart n m

  pub between_so : (s r : Shape) (a b c : Form) (l : Leads) → TakesBoth forms s r a b true → GivesForm forms p r c l
      → Operates tables forms p s (operator.Between a b c) (Ok l)
  between_so s r a b c l takes gives o of d h =
      between_is d s o of.0 (of.1 ∷ []) of.2 of.3
      ∙ pop_some d s takes.0 takes.1.0 (popping (of.1 ∷ [])) takes.1.2
      ∙ pop_some d takes.0 r takes.2.0 (resulting (of.1 ∷ []) (d.one takes.1.0)) takes.2.2
      ∙ with_is (signed (form_of tables.decls) (of.1 ∷ []) (d.one takes.2.0) (d.one takes.1.0)) of.1.result
      (λ t. leads (p + 1) (pushed (form_of tables.decls t) (shape_of d r)))
      (one_signature of.1 (d.one takes.2.0) (d.one takes.1.0)
      (and_from (same_form (d.one takes.2.0) (form_of tables.decls of.1.left))
      (same_form (d.one takes.1.0) (form_of tables.decls of.1.right)) left right))
      ∙ given_is d h r c of.1.result l of.6 gives
    where
      left : same_form (d.one takes.2.0) (form_of tables.decls of.1.left) ≡ true
      left =
          same_as d h.apart takes.2.0 takes.2.0 (form_of tables.decls of.1.left)
          (flat_means tables.decls d takes.2.0 a of.1.left of.4 (h.means takes.2.0 a takes.2.1))
          ∙ eq-eqb takes.2.0 takes.2.0 refl

      right : same_form (d.one takes.1.0) (form_of tables.decls of.1.right) ≡ true
      right =
          same_as d h.apart takes.1.0 takes.1.0 (form_of tables.decls of.1.right)
          (flat_means tables.decls d takes.1.0 b of.1.right of.5 (h.means takes.1.0 b takes.1.1))
          ∙ eq-eqb takes.1.0 takes.1.0 refl

  -- the right operand is of another type, whatever stands below it
  right_off : (d : Senses) (g : Signature) (u : code.Form) (x : meant.Shape) (ops : List ℕ)
      → same_form u (form_of tables.decls g.right) ≡ false
      → popping (g ∷ []) u (record x { operands = map d.one ops }) ≡ None
  right_off d g u x [] other = refl
  right_off d g u x (n ∷ ops) other =
      with_not (signed (form_of tables.decls) (g ∷ []) (d.one n) u)
      (λ r. leads (p + 1) (pushed (form_of tables.decls r) (record x { operands = map d.one ops })))
      (no_signature g (d.one n) u
      (and_right (same_form (d.one n) (form_of tables.decls g.left)) (same_form u (form_of tables.decls g.right))
      other))

  right_not : (d : Senses) → AreSenses tables.decls forms d → (s q : Shape) (b : Form) (g : Signature)
      → type_of b ≡ Some g.right → (takes : TakesForm forms s q b false)
      → pop (shape_of d s) (popping (g ∷ [])) ≡ None
  right_not d h s q b g is takes = by_case takes.2
    where
      by_case : Takes s q takes.0 false → pop (shape_of d s) (popping (g ∷ [])) ≡ None
      by_case (inl none) = pop_none d s (popping (g ∷ [])) none
      by_case (inr (m, ms, e, other)) =
          pop_some d s (record s { operands = ms }) m (popping (g ∷ []))
          (ap (λ (ops : List ℕ). record s { operands = ops }) e)
          ∙ right_off d g (d.one m) (shape_of d s) ms
          (same_as d h.apart m takes.0 (form_of tables.decls g.right)
          (flat_means tables.decls d takes.0 b g.right is (h.means takes.0 b takes.1)) ∙ other)

  left_not : (d : Senses) → AreSenses tables.decls forms d → (q r : Shape) (a : Form) (g : Signature) (u : code.Form)
      → type_of a ≡ Some g.left → (takes : TakesForm forms q r a false) → popping (g ∷ []) u (shape_of d q) ≡ None
  left_not d h q r a g u is takes = by_case takes.2
    where
      by_case : Takes q r takes.0 false → popping (g ∷ []) u (shape_of d q) ≡ None
      by_case (inl none) = pop_none d q (resulting (g ∷ []) u) none
      by_case (inr (m, ms, e, other)) =
          pop_some d q (record q { operands = ms }) m (resulting (g ∷ []) u)
          (ap (λ (ops : List ℕ). record q { operands = ops }) e)
          ∙ with_not (signed (form_of tables.decls) (g ∷ []) (d.one m) u)
          (λ t. leads (p + 1) (pushed (form_of tables.decls t) (shape_of d (record q { operands = ms }))))
          (no_signature g (d.one m) u
          (and_left (same_form (d.one m) (form_of tables.decls g.left)) (same_form u (form_of tables.decls g.right))
          (same_as d h.apart m takes.0 (form_of tables.decls g.left)
          (flat_means tables.decls d takes.0 a g.left is (h.means takes.0 a takes.1)) ∙ other)))

  pub between_not : (s r : Shape) (a b c : Form) → TakesBoth forms s r a b false
      → Operates tables forms p s (operator.Between a b c) (Err stuck.Bad)
  between_not s r a b c takes o of d h =
      between_is d s o of.0 (of.1 ∷ []) of.2 of.3 ∙ by_case takes.1
    where
      by_case : TakesForm forms s takes.0 b false
          ⊎ (TakesForm forms s takes.0 b true × TakesForm forms takes.0 r a false)
          → pop (shape_of d s) (popping (of.1 ∷ [])) ≡ None
      by_case (inl off) = right_not d h s takes.0 b of.1 of.5 off
      by_case (inr both) =
          pop_some d s takes.0 both.0.0 (popping (of.1 ∷ [])) both.0.2
          ∙ left_not d h takes.0 r a of.1 (d.one both.0.0) of.4 both.1

  -- ---- comparisons

  abbrev compared_of : Bool → List Ty
  compared_of true = ordered_types
  compared_of false = compared_types

  compares_is : (d : Senses) (s : Shape) (o : Operation) (ordered : Bool) → IsOf (operator.Compares ordered) o
      → operated (form_of tables.decls) o p (shape_of d s)
      ≡ pop (shape_of d s) (popping (map comparison (compared_of ordered)))
  compares_is d s o true of = between_is d s o of.0 (map comparison ordered_types) of.1 of.2
  compares_is d s o false of = between_is d s o of.0 (map comparison compared_types) of.1 of.2

  forms_are : (ordered : Bool) → map (form_of tables.decls) (compared_of ordered) ≡ forms_of ordered
  forms_are true = ordered_forms tables.decls
  forms_are false = compared_forms tables.decls

  signed_is : (d : Senses) → AreSenses tables.decls forms d → (n : ℕ) (f : Form) (ordered : Bool)
      → slice_get forms.kinds.keys n ≡ Some f
      → signed (form_of tables.decls) (map comparison (compared_of ordered)) (d.one n) (d.one n)
      ≡ chosen (is_compared f ordered) ty.Boolean None
  signed_is d h n f ordered at =
      signed_self (form_of tables.decls) (compared_of ordered) (d.one n)
      ∙ ap (λ (ts : List code.Form). chosen (any_same (d.one n) ts) ty.Boolean None) (forms_are ordered)
      ∙ ap (λ (b : Bool). chosen b ty.Boolean None) (any_is d n f ordered (h.means n f at))

  pub compares_so : (s r : Shape) (ordered : Bool) (l : Leads) → Compares forms s r ordered true
      → GivesForm forms p r form.Truth l → Operates tables forms p s (operator.Compares ordered) (Ok l)
  compares_so s r ordered l takes gives o of d h =
      compares_is d s o ordered of
      ∙ pop_some d s (record r { operands = takes.0 ∷ r.operands }) takes.0
      (popping (map comparison (compared_of ordered))) takes.2
      ∙ ap (λ (c : Option Ty). with c (λ t. leads (p + 1) (pushed (form_of tables.decls t) (shape_of d r))))
      (signed_is d h takes.0 takes.1 ordered takes.3
      ∙ ap (λ (b : Bool). chosen b ty.Boolean None) takes.4)
      ∙ given_is d h r form.Truth ty.Boolean l refl gives

  -- two operands that are of no compared type
  two_off : (d : Senses) (s : Shape) (ss : List Signature) (n m : ℕ) (ns : List ℕ) → s.operands ≡ n ∷ m ∷ ns
      → signed (form_of tables.decls) ss (d.one m) (d.one n) ≡ None
      → pop (shape_of d s) (popping ss) ≡ None
  two_off d s ss n m ns e none =
      ap (λ (ops : List ℕ). pop (shape_of d (record s { operands = ops })) (popping ss)) e
      ∙ with_not (signed (form_of tables.decls) ss (d.one m) (d.one n))
      (λ t. leads (p + 1) (pushed (form_of tables.decls t) (shape_of d (record s { operands = ns })))) (sym none)

  unlike : (d : Senses) → AreSenses tables.decls forms d → (s : Shape) (tys : List Ty) → AreUnlike s
      → pop (shape_of d s) (popping (map comparison tys)) ≡ None
  unlike d h s tys (inl none) = pop_none d s (popping (map comparison tys)) none
  unlike d h s tys (inr (inl (n, e))) =
      ap (λ (ops : List ℕ). pop (shape_of d (record s { operands = ops })) (popping (map comparison tys))) e
  unlike d h s tys (inr (inr (n, m, ns, e, other))) =
      two_off d s (map comparison tys) n m ns e
      (signed_apart (form_of tables.decls) tys (d.one m) (d.one n) (h.apart m n ∙ other))

  pub compares_not : (s r : Shape) (ordered : Bool) → Compares forms s r ordered false
      → Operates tables forms p s (operator.Compares ordered) (Err stuck.Bad)
  compares_not s r ordered (inl off) o of d h =
      compares_is d s o ordered of ∙ unlike d h s (compared_of ordered) off
  compares_not s r ordered (inr (n, f, ns, top, off)) o of d h =
      compares_is d s o ordered of
      ∙ two_off d s (map comparison (compared_of ordered)) n n ns top.operands
      (signed_is d h n f ordered top.entry ∙ ap (λ (b : Bool). chosen b ty.Boolean None) off)

  -- ---- the instruction

  pub operate_unrounded : (s : Shape) (n r q : ℕ) → nat_lt r (length roundings) ≡ false
      → Tells tables forms (Err stuck.Bad) (flow tables [] (instr.Op n r q) p) s
  operate_unrounded s n r q off = λ d h.
      where_not (nat_lt r (length roundings) && nat_lt q (length tables.positions))
      (with (operation n) (λ o. operated (form_of tables.decls) o p (shape_of d s)))
      (and_left (nat_lt r (length roundings)) (nat_lt q (length tables.positions)) off)

  pub operate_nowhere : (s : Shape) (n r q : ℕ) → nat_lt q (length tables.positions) ≡ false
      → Tells tables forms (Err stuck.Bad) (flow tables [] (instr.Op n r q) p) s
  operate_nowhere s n r q off = λ d h.
      where_not (nat_lt r (length roundings) && nat_lt q (length tables.positions))
      (with (operation n) (λ o. operated (form_of tables.decls) o p (shape_of d s)))
      (and_right (nat_lt r (length roundings)) (nat_lt q (length tables.positions)) off)

  operate_is : (d : Senses) (s : Shape) (n r q : ℕ) → nat_lt r (length roundings) ≡ true
      → nat_lt q (length tables.positions) ≡ true
      → flow tables [] (instr.Op n r q) p (shape_of d s)
      ≡ with (operation n) (λ o. operated (form_of tables.decls) o p (shape_of d s))
  operate_is d s n r q e f =
      where_is (nat_lt r (length roundings) && nat_lt q (length tables.positions))
      (with (operation n) (λ o. operated (form_of tables.decls) o p (shape_of d s)))
      (and_from (nat_lt r (length roundings)) (nat_lt q (length tables.positions)) e f)

  pub operate_unnamed : (s : Shape) (n r q : ℕ) → nat_lt r (length roundings) ≡ true
      → nat_lt q (length tables.positions) ≡ true → IsNamed (operation n) None
      → Tells tables forms (Err stuck.Bad) (flow tables [] (instr.Op n r q) p) s
  operate_unnamed s n r q e f named = λ d h. operate_is d s n r q e f ∙ by_operation d (operation n) named
    where
      by_operation : (d : Senses) (o : Option Operation) → IsNamed o None
          → with o (λ o. operated (form_of tables.decls) o p (shape_of d s)) ≡ None
      by_operation d None is = refl
      by_operation d (Some o) is = absurd (none_some is.0 is.1)

  pub operate_so : (result : Result Leads Stuck) (s : Shape) (n r q : ℕ) (op : Operator)
      → nat_lt r (length roundings) ≡ true → nat_lt q (length tables.positions) ≡ true
      → IsNamed (operation n) (Some op) → Operates tables forms p s op result
      → Tells tables forms result (flow tables [] (instr.Op n r q) p) s
  operate_so result s n r q op e f named operates = by_operation (operation n) refl named
    where
      by_operation : (o : Option Operation) → operation n ≡ o → IsNamed o (Some op)
          → Tells tables forms result (flow tables [] (instr.Op n r q) p) s
      by_operation None is named = absurd (none_some op (sym named))
      by_operation (Some o) is named =
          comes_by tables forms result (λ d. flow tables [] (instr.Op n r q) p (shape_of d s))
          (λ d. operated (form_of tables.decls) o p (shape_of d s))
          (λ d h. operate_is d s n r q e f
          ∙ with_is (operation n) o (λ o. operated (form_of tables.decls) o p (shape_of d s)) (sym is))
          (operates o (subst (λ (x : Operator). IsOf x o) (sym (some_is op named.0 named.1)) named.2))
