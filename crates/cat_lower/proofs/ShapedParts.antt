-- What lowering expressions to typed places stands on.
use Rattle.std.proofs.Common.{◌≡◌, ℕ, zero, suc, ◌<◌, Bool, true, false, true≢false, not, ◌&&◌, IsTrue, List, [], ◌∷◌}
use Rattle.std.proofs.Common.{length, map, Option, Some, None, refl, sym, ap, ◌∙◌, slice_get, arith, inl, inr}
use Rattle.cat_value.specs.declared.ty.Ty.{Ty}
use Rattle.cat_value.specs.declared.ty.Ty.TheViews as ty
use Rattle.cat_value.specs.declared.value.Value.TheViews as value
use Rattle.cat_value.specs.declared.declaration.Field.{Field}
use Rattle.cat_value.specs.declared.declaration.Kind.{Kind}
use Rattle.cat_value.specs.declared.declaration.Kind.TheVariants as kind
use Rattle.cat_value.specs.declared.declaration.ItemDecl.{ItemDecl}
use Rattle.cat_value.specs.Inputs.{may_be_given}
use Rattle.cat_value.specs.Entries.{some_passes, fields_of}
use Rattle.cat_value.specs.Typing.{has_type}
use Rattle.cat_scope.specs.declared.expr.ArmPattern.{ArmPattern}
use Rattle.cat_scope.specs.declared.expr.ArmPattern.TheVariants as pattern
use Rattle.cat_scope.specs.declared.expr.Expr.{Expr}
use Rattle.cat_scope.specs.declared.expr.FieldValue.{FieldValue}
use Rattle.cat_scope.specs.declared.expr.Arm.{Arm}
use Rattle.cat_scope.specs.declared.expr.Expr.TheViews as expr
use Rattle.cat_scope.specs.Signatures.{signatures_of}
use Rattle.cat_scope.specs.Names.{AllHave, Names, scope_items, is_function, is_plain, is_called, has_none, is_in}
use Rattle.cat_scope.specs.Names.{are_all_in}
use Rattle.cat_scope.specs.Fitting.{given_type, input_type, numbers_in, are_fields_of}
use Rattle.cat_scope.specs.HasType.{EachHasType}
use Rattle.cat_scope.specs.HasType as typed
use Rattle.cat_scope.proofs.Exported.{arms_placed, later_arms_placed}
use Rattle.cat_sound.specs.LowTypes.{IsLow}
use Rattle.cat_code.specs.declared.code.Tables.{Tables}
use Rattle.cat_code.specs.Forms.{Form, form_of, item_form, slot_form}
use Rattle.cat_code.specs.Wanted.{all_same}
use Rattle.cat_code.proofs.FormLaws.{same_self}
use Rattle.cat_lower.specs.Types.{Lowering}
use Rattle.cat_lower.specs.Rows.{Standing}
use Rattle.cat_lower.specs.Expressions.{numbers_of, lowered}
use Rattle.cat_lower.proofs.LoweredEquations.{branch, branch_is, field, field_is}
use Rattle.cat_lower.proofs.TypesAgree.{both_so, result_is}
use Rattle.cat_lower.proofs.ShapedForms.{more}
use Rattle.std.proofs.Common.{nat_eq, if◌then◌else◌}
use Rattle.std.proofs.lemmas.Bool.{eqb-true}
use Rattle.std.proofs.lemmas.Bool.Decides.{nat_tests}
use Rattle.cat_value.proofs.Exported.{is_declared_List}
use Rattle.cat_scope.specs.Names.{IsOneOf}
use Rattle.cat_scope.specs.Signatures.{Signature}
use Rattle.cat_scope.specs.declared.operators.BinaryOp.{BinaryOp}
use Rattle.cat_sound.proofs.ListTypes.{of-List}
use Rattle.cat_code.specs.Forms.{same_form, value_form}
use Rattle.std.proofs.Common.{subst}
use Rattle.cat_value.specs.declared.decls.Decls.{Decls}
use Rattle.cat_value.specs.Laws.{AreSound}
use Rattle.cat_scope.specs.Fitting.{ArmLocals}
use Rattle.cat_sound.proofs.LowTypes.{content_low}
use Rattle.cat_lower.proofs.Sketches.{all_both}

pub read_map : {A B : Type 0} (f : A → B) (xs : List A) (k : ℕ) (x : A) → slice_get xs k ≡ Some x
    → slice_get (map f xs) k ≡ Some (f x)
read_map f [] k x is = absurd (cc is)
read_map f (y ∷ xs) zero x is = let same : y ≡ x = cc is in ap (λ z. Some (f z)) same
read_map f (y ∷ xs) (suc k) x is = read_map f xs k x is

-- a variable that isn't a called scope holds values of its type
pub plain_form : (tables : Tables) (item : ItemDecl) → is_called item.kind ≡ false
    → item_form tables.decls item ≡ form_of tables.decls item.ty
plain_form tables item is = by item.kind is
  where
    by : (k : Kind) → is_called k ≡ false → value_form tables.decls item.ty k ≡ form_of tables.decls item.ty
    by (kind.Called s) is = absurd (true≢false is)
    by kind.Input is = refl
    by kind.InputOutput is = refl
    by kind.Output is = refl
    by kind.Internal is = refl
    by kind.Context is = refl
    by kind.ContextOutput is = refl

pub slot_of : (tables : Tables) (s k : ℕ) (item : ItemDecl) → slice_get (scope_items tables.decls s) k ≡ Some item
    → slot_form tables.decls s k ≡ Some (item_form tables.decls item)
slot_of tables s k item is = rw is refl

pub not_called : (k : Kind) → may_be_given k ≡ true → is_called k ≡ false
not_called (kind.Called s) is = absurd (true≢false (sym is))
not_called kind.Input is = refl
not_called kind.InputOutput is = refl
not_called kind.Output is = refl
not_called kind.Internal is = refl
not_called kind.Context is = refl
not_called kind.ContextOutput is = refl

-- what may be given to a slot is of its item's type
pub given_form : (tables : Tables) (s k : ℕ) (t : Ty) → input_type tables.decls s k ≡ Some t
    → slot_form tables.decls s k ≡ Some (form_of tables.decls t)
given_form tables s k t is = by (slice_get (scope_items tables.decls s) k) refl is
  where
    inner : (item : ItemDecl) → slice_get (scope_items tables.decls s) k ≡ Some item → (b : Bool)
        → may_be_given item.kind ≡ b
        → (if b then Some item.ty else None) ≡ Some t → slot_form tables.decls s k ≡ Some (form_of tables.decls t)
    inner item there true may is =
        let same : item.ty ≡ t = cc is in
        slot_of tables s k item there ∙ ap (λ (f : Form). Some f) (plain_form tables item (not_called item.kind may))
        ∙ ap (λ (u : Ty). Some (form_of tables.decls u)) same
    inner item there false may is = absurd (cc is)

    by : (o : Option ItemDecl) → slice_get (scope_items tables.decls s) k ≡ o → given_type o ≡ Some t
        → slot_form tables.decls s k ≡ Some (form_of tables.decls t)
    by None there is = absurd (cc is)
    by (Some item) there is = inner item there (may_be_given item.kind) refl is

-- without elements a list is of every type of lists that is declared
pub empty_typed : (tables : Tables) (t : Ty) → IsLow tables.decls (ty.List t)
    → IsTrue (has_type tables.decls (value.List []) (ty.List t))
empty_typed tables t low =
    of-List tables.decls t []
    (record {
      declared =
          sym (is_declared_List tables.decls.structures tables.decls.enumerations t) ∙ low.declared;
      counted = refl;
      all =
          tt;
    })

-- the numbers of lowered fields are those of the fields
pub written : (here : Standing) (fs : List FieldValue)
    → numbers_of (map (λ f. (f.field, lowered here f.value)) fs) ≡ numbers_in fs
written here [] = refl
written here (f ∷ fs) = ap (λ (l : List ℕ). f.field ∷ l) (written here fs)

pub each_counted : {ns : Names} {ls : List Ty} {es : List Expr} {params : List Ty} → EachHasType ns ls es params
    → length params ≡ length es
each_counted typed.each_none = refl
each_counted (typed.each_more g more) = let e = each_counted more in omega arith

pub later_placed : (arms : List Arm) → later_arms_placed arms ≡ true → arms_placed arms true ≡ true
later_placed [] placed = refl
later_placed (a ∷ arms) placed = placed

pub fields_are : (here : Standing) (fs : List FieldValue)
    → map (field here) fs ≡ map (λ f. (f.field, lowered here f.value)) fs
fields_are here [] = refl
fields_are here (f ∷ fs) =
    ap (λ (g : ℕ × Lowering). g ∷ map (field here) fs) (field_is here f)
    ∙ ap (λ l. (f.field, lowered here f.value) ∷ l) (fields_are here fs)

pub branches_are : (here : Standing) (arms : List Arm)
    → map (branch here) arms ≡ map (λ a. (a.pattern, lowered here a.body)) arms
branches_are here [] = refl
branches_are here (a ∷ arms) =
    ap (λ (g : ArmPattern × Lowering). g ∷ map (branch here) arms) (branch_is here a)
    ∙ ap (λ l. (a.pattern, lowered here a.body) ∷ l) (branches_are here arms)

pub same_all : {A : Type 0} (f : A → Form) (t : Form) (xs : List A) → ((x : A) → f x ≡ t) → all_same t (map f xs) ≡ true
same_all f t [] is = refl
same_all f t (x ∷ xs) is =
    let first : same_form (f x) t ≡ true = ap (λ u. same_form u t) (is x) ∙ same_self t in
    let rest = same_all f t xs is in rw (first, rest) refl

pub plain_not_called : (item : ItemDecl) → is_plain item ≡ true → is_called item.kind ≡ false
plain_not_called item is = by (is_called item.kind) (both_so (not (is_called item.kind)) (has_none item.params) is).0
  where
    by : (b : Bool) → not b ≡ true → b ≡ false
    by true e = absurd (true≢false (sym e))
    by false e = refl

pub plain_no_function : (item : ItemDecl) → is_plain item ≡ true → is_function item ≡ false
plain_no_function item is = by (is_called item.kind) (has_none item.params) is
  where
    by : (a b : Bool) → (not a && b) ≡ true → (not a && not b) ≡ false
    by true b e = refl
    by false true e = refl
    by false false e = absurd (true≢false (sym e))

pub called_no_function : (item : ItemDecl) (s : ℕ) → item.kind ≡ kind.Called s → is_function item ≡ false
called_no_function item s is = ap (λ k. not (is_called k) && not (has_none item.params)) is

-- each result of an operator is that of one of its signatures
pub same_as_one : (o : BinaryOp) (s : Signature) → IsOneOf s (signatures_of o)
    → AllHave (λ (u : Signature). u.result ≡ s.result) (signatures_of o)
same_as_one o s is = by (signatures_of o) (λ r among. among)
  where
    by : (rs : List Signature) → ((r : Signature) → IsOneOf r rs → IsOneOf r (signatures_of o))
        → AllHave (λ (u : Signature). u.result ≡ s.result) rs
    by [] within = tt
    by (r ∷ rs) within = (
      result_is o r (within r (inl refl)) ∙ sym (result_is o s is),
      by rs (λ u among. within u (inr among)),
    )

-- the fields of a structure whose numbers are all there
pub record DeclaredFields (tables : Tables) (n : ℕ) (ks : List ℕ) : Type 0 where
  pub fields : List Field
  pub is : fields_of tables.decls n ≡ Some fields
  pub counted : length ks ≡ length fields
  pub each : (j : ℕ) → j < length fields → is_in j ks ≡ true

lower_than : (j n : ℕ) → j < suc n → nat_eq j n ≡ false → j < n
lower_than j n less e = grind (arith, nat_tests)

each_in : (n : ℕ) (ns : List ℕ) (j : ℕ) → are_all_in n ns ≡ true → j < n → is_in j ns ≡ true
each_in zero ns j so less = absurd (omega arith)
each_in (suc n) ns j so less =
    let parts = both_so (is_in n ns) (are_all_in n ns) so in
    by (nat_eq j n) refl parts.0 (λ lower. each_in n ns j parts.1 lower)
  where
    by : (b : Bool) → nat_eq j n ≡ b → is_in n ns ≡ true → (j < n → is_in j ns ≡ true) → is_in j ns ≡ true
    by true e first rest = ap (λ m. is_in m ns) (eqb-true j n e) ∙ first
    by false e first rest = rest (lower_than j n less e)

pub declared_fields : (tables : Tables) (n : ℕ) (ks : List ℕ) → IsTrue (are_fields_of tables.decls n ks)
    → DeclaredFields tables n ks
declared_fields tables n ks is = by (fields_of tables.decls n) refl is
  where
    by : (o : Option (List Field)) → fields_of tables.decls n ≡ o
        → IsTrue (some_passes (λ fields. nat_eq (length ks) (length fields) && are_all_in (length fields) ks) o)
        → DeclaredFields tables n ks
    by None there so = absurd (true≢false (sym so))
    by (Some fields) there so =
        let parts = both_so (nat_eq (length ks) (length fields)) (are_all_in (length fields) ks) so in
        record {
          fields = fields;
          is = there;
          counted = eqb-true (length ks) (length fields) parts.0;
          each = λ j less. each_in (length fields) ks j parts.1 less;
        }

-- the local names of an arm's body have low types
pub arm_low : (ds : Decls) (sound : AreSound ds) (n : ℕ) (p : ArmPattern) (ls inside : List Ty)
    → ArmLocals ds n p ls inside → AllHave (IsLow ds) ls
    → AllHave (IsLow ds) inside
arm_low ds sound n pattern.Anything ls inside is are = subst (AllHave (IsLow ds)) (sym is) are
arm_low ds sound n (pattern.Case k false) ls inside is are = subst (AllHave (IsLow ds)) (sym is.1) are
arm_low ds sound n (pattern.Case k true) ls inside is are =
    subst (AllHave (IsLow ds)) (sym is.2)
    (all_both (IsLow ds) ls (is.0 ∷ []) are (content_low ds sound n k is.0 is.1, tt))
