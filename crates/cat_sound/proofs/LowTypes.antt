-- An expression has a declared type that is no higher than types may be, where its local names have such types.
use Rattle.std.proofs.Common.{◌≡◌, ℕ, zero, suc, ◌<◌, ◌≤◌, nat_le, nat_lt, Bool, true, false, IsTrue, List, []}
use Rattle.std.proofs.Common.{◌∷◌, length, Option, Some, None, slice_get, refl, sym, ap, ◌∙◌, subst, arith}
use Rattle.std.proofs.Common.{if◌then◌else◌}
use Rattle.std.proofs.lemmas.Bool.Decides.{nat_tests}
use Rattle.cat_value.specs.declared.ty.Ty.{Ty}
use Rattle.cat_value.specs.declared.ty.Ty.TheVariants as flat
use Rattle.cat_value.specs.declared.ty.Ty.TheViews as ty
use Rattle.cat_value.specs.declared.declaration.Field.{Field}
use Rattle.cat_value.specs.declared.declaration.Structure.{Structure}
use Rattle.cat_value.specs.declared.declaration.Case.{Case}
use Rattle.cat_value.specs.declared.declaration.Enumeration.{Enumeration}
use Rattle.cat_value.specs.declared.declaration.ItemDecl.{ItemDecl}
use Rattle.cat_value.specs.declared.declaration.Scope.{Scope}
use Rattle.cat_value.specs.declared.decls.Decls.{Decls}
use Rattle.cat_value.specs.Declarations.{highest}
use Rattle.cat_value.specs.Heights.{highest_field, content_height, highest_content, structure_parts, enumeration_parts}
use Rattle.cat_value.specs.Laws.{height_of, part_height, AreSound}
use Rattle.cat_value.specs.Laws as law
use Rattle.cat_value.specs.Typing.{is_type}
use Rattle.cat_value.specs.Entries.{some_passes, fields_in, fields_of, content_in, case_in, content_of}
use Rattle.cat_value.proofs.Exported.{is_declared_Boolean, is_declared_Integer, is_declared_Decimal, is_declared_Money}
use Rattle.cat_value.proofs.Exported.{is_declared_Date, is_declared_Duration, is_declared_List, is_declared_Structure}
use Rattle.cat_value.proofs.Exported.{is_declared_Enumeration, height_Boolean, height_Integer, height_Decimal}
use Rattle.cat_value.proofs.Exported.{height_Money, height_Date, height_Duration, structure_there, enumeration_there}
use Rattle.cat_value.proofs.Exported.{structure_low, enumeration_low, found, within, height_of_is}
use Rattle.cat_scope.specs.declared.expr.Literal.{Literal}
use Rattle.cat_scope.specs.declared.expr.Literal.TheVariants as literal
use Rattle.cat_scope.specs.declared.expr.ArmPattern.{ArmPattern}
use Rattle.cat_scope.specs.declared.expr.ArmPattern.TheVariants as pattern
use Rattle.cat_scope.specs.declared.expr.Arm.{Arm}
use Rattle.cat_scope.specs.declared.expr.Expr.{Expr}
use Rattle.cat_scope.specs.declared.operators.UnaryOp.{UnaryOp}
use Rattle.cat_scope.specs.declared.operators.UnaryOp.TheVariants as unary
use Rattle.cat_scope.specs.declared.operators.BinaryOp.{BinaryOp}
use Rattle.cat_scope.specs.declared.operators.BinaryOp.TheVariants as binary
use Rattle.cat_scope.specs.declared.operators.SumKind.{SumKind}
use Rattle.cat_scope.specs.declared.operators.SumKind.TheVariants as sum
use Rattle.cat_scope.specs.Names.{AllHave, IsOneOf, items_in, scope_items, output_at, are_all_in}
use Rattle.cat_value.specs.Inputs.{is_output, outputs_in}
use Rattle.cat_scope.specs.Literals.{literal_type}
use Rattle.cat_scope.specs.Signatures.{Signature, signatures_of, given_by, summed_type}
use Rattle.cat_scope.specs.Fitting.{are_complete, cases_in, ArmLocals, field_at, type_in, field_type}
use Rattle.cat_scope.specs.HasType.{HasType, ArmsHaveType}
use Rattle.cat_scope.specs.HasType as typed
use Rattle.cat_scope.specs.Naming.{IsTargetAt}
use Rattle.cat_sound.specs.LowTypes.{IsLow, names_at}
use Rattle.cat_sound.proofs.FormTypes.{same_some, not_true}
use Rattle.cat_sound.proofs.OneType.{first_result, first_is}
use Rattle.cat_sound.proofs.TargetTypes.{all_at}
use Rattle.cat_sound.proofs.Endings.{all_both}

le_true : (a b : ℕ) → a ≤ b → IsTrue (nat_le a b)
le_true a b h = grind (arith, nat_tests)

true_le : (a b : ℕ) → IsTrue (nat_le a b) → a ≤ b
true_le a b h = grind (arith, nat_tests)

lt_true : (a b : ℕ) → a < b → IsTrue (nat_lt a b)
lt_true a b h = grind (arith, nat_tests)

-- what holds at each number holds of all
each_all : {A : Type 0} (P : A → Type 0) (xs : List A) → ((k : ℕ) (x : A) → slice_get xs k ≡ Some x → P x)
    → AllHave P xs
each_all P [] each = tt
each_all P (x ∷ xs) each = (each 0 x refl, each_all P xs (λ k y e. each (suc k) y e))

-- no field and no content is higher than the highest
field_below : (height : Ty → ℕ) (fs : List Field) (k : ℕ) (f : Field) → slice_get fs k ≡ Some f
    → height f.ty ≤ highest_field height fs
field_below height [] k f e = absurd (cc e)
field_below height (g ∷ fs) zero f e =
    subst (λ (x : Field). height x.ty ≤ highest_field height (g ∷ fs)) (same_some g f e) (omega arith)
field_below height (g ∷ fs) (suc k) f e = omega (arith, field_below height fs k f e)

content_below : (height : Ty → ℕ) (cs : List Case) (k : ℕ) (c : Case) → slice_get cs k ≡ Some c
    → content_height height c.content ≤ highest_content height cs
content_below height [] k c e = absurd (cc e)
content_below height (b ∷ cs) zero c e =
    subst (λ (x : Case). content_height height x.content ≤ highest_content height (b ∷ cs)) (same_some b c e)
    (omega arith)
content_below height (b ∷ cs) (suc k) c e = omega (arith, content_below height cs k c e)

-- without arms there is no case to miss
no_cases : (n : ℕ) → IsTrue (are_all_in n []) → n ≡ 0
no_cases zero h = refl
no_cases (suc n) h = not_true h

module _ (ds : Decls) (sound : AreSound ds) where
  low_type : (t : Ty) → IsTrue (is_type ds t) → height_of ds t ≤ highest → IsLow ds t
  low_type t declared low = record { declared = declared; low = le_true (height_of ds t) highest low }

  -- ---- flat types

  boolean_low : IsLow ds flat.Boolean
  boolean_low = low_type flat.Boolean (is_declared_Boolean ds.structures ds.enumerations)
      (omega (arith, height_Boolean ds.structures ds.enumerations 63))

  integer_low : IsLow ds flat.Integer
  integer_low = low_type flat.Integer (is_declared_Integer ds.structures ds.enumerations)
      (omega (arith, height_Integer ds.structures ds.enumerations 63))

  decimal_low : IsLow ds flat.Decimal
  decimal_low = low_type flat.Decimal (is_declared_Decimal ds.structures ds.enumerations)
      (omega (arith, height_Decimal ds.structures ds.enumerations 63))

  money_low : IsLow ds flat.Money
  money_low = low_type flat.Money (is_declared_Money ds.structures ds.enumerations)
      (omega (arith, height_Money ds.structures ds.enumerations 63))

  date_low : IsLow ds flat.Date
  date_low = low_type flat.Date (is_declared_Date ds.structures ds.enumerations)
      (omega (arith, height_Date ds.structures ds.enumerations 63))

  duration_low : IsLow ds flat.Duration
  duration_low = low_type flat.Duration (is_declared_Duration ds.structures ds.enumerations)
      (omega (arith, height_Duration ds.structures ds.enumerations 63))

  literal_low : (l : Literal) → IsLow ds (literal_type l)
  literal_low (literal.Boolean b) = boolean_low
  literal_low _ = search (integer_low, decimal_low, money_low, date_low, duration_low)

  given_low : (o : UnaryOp) → IsLow ds (given_by o)
  given_low unary.Not = boolean_low
  given_low _ = search (integer_low, decimal_low, money_low, duration_low)

  -- the signatures of an operator have one result
  first_low : (o : BinaryOp) → IsLow ds (first_result (signatures_of o))
  first_low binary.Xor = boolean_low
  first_low _ = search (boolean_low, integer_low, decimal_low, money_low, date_low, duration_low)

  signature_low : (o : BinaryOp) (r : Signature) → IsOneOf r (signatures_of o) → IsLow ds r.result
  signature_low o r is = subst (IsLow ds) (sym (first_is o r is)) (first_low o)

  summed_low : (k : SumKind) → IsLow ds (summed_type k)
  summed_low sum.Integers = integer_low
  summed_low _ = search (decimal_low, money_low, duration_low)

  -- ---- lists

  list_declared : (t : Ty) → IsTrue (is_type ds t) → IsTrue (is_type ds (ty.List t))
  list_declared t declared = is_declared_List ds.structures ds.enumerations t ∙ declared

  pub element_low : (t : Ty) → IsLow ds (ty.List t) → IsLow ds t
  element_low t is =
      let bound = true_le (height_of ds (ty.List t)) highest is.low in
      let part : part_height ds (ty.out-Ty (ty.List t)) ≡ height_of ds t = ap (part_height ds) (ty.outs-List t) in
      low_type t (sym (is_declared_List ds.structures ds.enumerations t) ∙ is.declared)
      (omega (arith, height_of_is ds (ty.List t) bound, part))

  -- ---- structures and enumerations

  structure_is_low : (n : ℕ) → IsTrue (is_type ds (flat.Structure n)) → IsLow ds (flat.Structure n)
  structure_is_low n declared =
      low_type (flat.Structure n) declared (structure_low ds n (structure_there ds n declared))

  enumeration_is_low : (n : ℕ) → IsTrue (is_type ds (flat.Enumeration n)) → IsLow ds (flat.Enumeration n)
  enumeration_is_low n declared =
      low_type (flat.Enumeration n) declared (enumeration_low ds n (enumeration_there ds n declared))

  structure_at : (n : ℕ) (s : Structure) → slice_get ds.structures n ≡ Some s → IsLow ds (flat.Structure n)
  structure_at n s e = structure_is_low n
      (is_declared_Structure ds.structures ds.enumerations n
      ∙ lt_true n (length ds.structures) (within ds.structures n s e))

  enumeration_at : (n : ℕ) (d : Enumeration) → slice_get ds.enumerations n ≡ Some d → IsLow ds (flat.Enumeration n)
  enumeration_at n d e = enumeration_is_low n
      (is_declared_Enumeration ds.structures ds.enumerations n
      ∙ lt_true n (length ds.enumerations) (within ds.enumerations n d e))

  field_low : (n k : ℕ) (s : Structure) (f : Field) → slice_get ds.structures n ≡ Some s → slice_get s.fields k ≡ Some f
      → IsLow ds f.ty
  field_low n k s f e at =
      let is = sound.structures n s e in
      let parts : part_height ds (ty.out-Ty (flat.Structure n)) ≡ highest_field (height_of ds) s.fields =
      ap (part_height ds) (ty.outs-Structure n) ∙ ap (structure_parts (height_of ds)) e in
      low_type f.ty (is.declared k f at)
      (omega (arith, height_of_is ds (flat.Structure n) is.low, parts, field_below (height_of ds) s.fields k f at))

  case_low : (n k : ℕ) (d : Enumeration) (c : Case) (t : Ty) → slice_get ds.enumerations n ≡ Some d
      → slice_get d.cases k ≡ Some c → c.content ≡ Some t → IsLow ds t
  case_low n k d c t e at content =
      let is = sound.enumerations n d e in
      let parts : part_height ds (ty.out-Ty (flat.Enumeration n)) ≡ highest_content (height_of ds) d.cases =
      ap (part_height ds) (ty.outs-Enumeration n) ∙ ap (enumeration_parts (height_of ds)) e in
      let height : content_height (height_of ds) c.content ≡ height_of ds t =
      ap (content_height (height_of ds)) content in
      low_type t (is.declared k c t at content)
      (omega
      (arith, height_of_is ds (flat.Enumeration n) is.low, parts, content_below (height_of ds) d.cases k c at, height))

  in_structure : (n k : ℕ) (t : Ty) → field_type ds n k ≡ Some t → IsLow ds t
  in_structure n k t = by (slice_get ds.structures n) refl
    where
      at_field : (s : Structure) → slice_get ds.structures n ≡ Some s → (o : Option Field) → slice_get s.fields k ≡ o
          → type_in o ≡ Some t → IsLow ds t
      at_field s e None at g = absurd (cc g)
      at_field s e (Some f) at g = subst (IsLow ds) (same_some f.ty t g) (field_low n k s f e at)

      by : (o : Option Structure) → slice_get ds.structures n ≡ o → type_in (field_at (fields_in o) k) ≡ Some t
          → IsLow ds t
      by None e g = absurd (cc g)
      by (Some s) e g = at_field s e (slice_get s.fields k) refl g

  fields_there : (n : ℕ) (test : List Field → Bool) → IsTrue (some_passes test (fields_of ds n))
      → IsLow ds (flat.Structure n)
  fields_there n test = by (slice_get ds.structures n) refl
    where
      by : (o : Option Structure) → slice_get ds.structures n ≡ o → IsTrue (some_passes test (fields_in o))
          → IsLow ds (flat.Structure n)
      by None e h = not_true h
      by (Some s) e h = structure_at n s e

  pub content_low : (n k : ℕ) (t : Ty) → content_of ds n k ≡ Some (Some t) → IsLow ds t
  content_low n k t = by (slice_get ds.enumerations n) refl
    where
      at_case : (d : Enumeration) → slice_get ds.enumerations n ≡ Some d → (o : Option Case) → slice_get d.cases k ≡ o
          → content_in o ≡ Some (Some t) → IsLow ds t
      at_case d e None at g = absurd (cc g)
      at_case d e (Some c) at g = case_low n k d c t e at (same_some c.content (Some t) g)

      by : (o : Option Enumeration) → slice_get ds.enumerations n ≡ o → case_in k o ≡ Some (Some t) → IsLow ds t
      by None e g = absurd (cc g)
      by (Some d) e g = at_case d e (slice_get d.cases k) refl g

  case_there : (n k : ℕ) (content : Option Ty) → content_of ds n k ≡ Some content → IsLow ds (flat.Enumeration n)
  case_there n k content = by (slice_get ds.enumerations n) refl
    where
      by : (o : Option Enumeration) → slice_get ds.enumerations n ≡ o → case_in k o ≡ Some content
          → IsLow ds (flat.Enumeration n)
      by None e g = absurd (cc g)
      by (Some d) e g = enumeration_at n d e

  -- a match without arms is of an enumeration without cases, and there is none
  some_arm : {A : Type 0} (n : ℕ) → IsTrue (is_type ds (flat.Enumeration n)) → IsTrue (are_complete ds n []) → A
  some_arm n declared whole =
      let there = found ds.enumerations n (enumeration_there ds n declared) in
      let none : cases_in (slice_get ds.enumerations n) ≡ 0 = no_cases (cases_in (slice_get ds.enumerations n)) whole in
      let some = (sound.enumerations n there.0 there.1).has_case in
      let counted : cases_in (slice_get ds.enumerations n) ≡ length there.0.cases = ap cases_in there.1 in
      absurd (omega (arith, none, some, counted))

  -- ---- items

  item_low : (i : ItemDecl) → law.IsItem ds i → IsLow ds i.ty
  item_low i is = low_type i.ty is.declared is.low

  all_params : (i : ItemDecl) → law.IsItem ds i → AllHave (IsLow ds) i.params
  all_params i is = each_all (IsLow ds) i.params (λ k t e. low_type t (is.params_declared k t e) (is.params_low k t e))

  item_sound : (scope k : ℕ) (i : ItemDecl) → slice_get (scope_items ds scope) k ≡ Some i → law.IsItem ds i
  item_sound scope k i = by (slice_get ds.scopes scope) refl
    where
      by : (o : Option Scope) → slice_get ds.scopes scope ≡ o → slice_get (items_in o) k ≡ Some i → law.IsItem ds i
      by None e g = absurd (cc g)
      by (Some s) e g = sound.items scope k s i e g

  all_outputs : (items : List ItemDecl) → AllHave (law.IsItem ds) items → AllHave (law.IsItem ds) (outputs_in items)
  all_outputs [] all = tt
  all_outputs (i ∷ items) all = by (is_output i.kind) (all_outputs items all.1)
    where
      by : (b : Bool) → AllHave (law.IsItem ds) (outputs_in items)
          → AllHave (law.IsItem ds) (if b then i ∷ outputs_in items else outputs_in items)
      by true rest = (all.0, rest)
      by false rest = rest

  output_low : (scope k : ℕ) (o : ItemDecl) → output_at ds scope k ≡ Some o → IsLow ds o.ty
  output_low scope k o e =
      item_low o (all_at (law.IsItem ds) (outputs_in (scope_items ds scope)) k o
      (all_outputs (scope_items ds scope) (each_all (law.IsItem ds) (scope_items ds scope) (item_sound scope))) e)

  pub target_low : (scope item : ℕ) (inner : Option ℕ) (params : List Ty) (t : Ty)
      → IsTargetAt (names_at ds scope) item inner params t → IsLow ds t
  target_low scope item None params t is =
      subst (IsLow ds) (sym is.ty_is) (item_low is.decl (item_sound scope item is.decl is.decl_is))
  target_low scope item (Some inner) params t is =
      subst (IsLow ds) (sym is.ty_is) (item_low is.decl (item_sound is.scope inner is.decl is.decl_is))

  pub params_low : (scope item : ℕ) (inner : Option ℕ) (params : List Ty) (t : Ty)
      → IsTargetAt (names_at ds scope) item inner params t → AllHave (IsLow ds) params
  params_low scope item None params t is =
      subst (AllHave (IsLow ds)) (sym is.params_are) (all_params is.decl (item_sound scope item is.decl is.decl_is))
  params_low scope item (Some inner) params t is = subst (AllHave (IsLow ds)) (sym is.params_are) tt

  inside_low : (n : ℕ) (p : ArmPattern) (ls inside : List Ty) → ArmLocals ds n p ls inside → AllHave (IsLow ds) ls
      → AllHave (IsLow ds) inside
  inside_low n pattern.Anything ls inside is are = subst (AllHave (IsLow ds)) (sym is) are
  inside_low n (pattern.Case k false) ls inside is are = subst (AllHave (IsLow ds)) (sym is.1) are
  inside_low n (pattern.Case k true) ls inside is are =
      subst (AllHave (IsLow ds)) (sym is.2) (all_both (IsLow ds) ls (is.0 ∷ []) are (content_low n k is.0 is.1, tt))

  -- ---- induction on the typing

  module _ (scope : ℕ) where
    mutual
      low : {ls : List Ty} {e : Expr} {t : Ty} → AllHave (IsLow ds) ls → HasType (names_at ds scope) ls e t → IsLow ds t
      low are (typed.literal {l = l} is) = literal_low l
      low are (typed.item {i = i} is) =
          subst (IsLow ds) (sym is.3) (item_low is.0 (item_sound scope i is.0 is.1))
      low are (typed.output {k = k} is) =
          subst (IsLow ds) (sym is.ty_is) (output_low is.scope k is.output is.output_is)
      low {ls} are (typed.local {k = k} {t = t} is) = all_at (IsLow ds) ls k t are is
      low are (typed.field {k = k} {t = t} n g is) = in_structure n k t is
      low are (typed.unary {o = o} g) = given_low o
      low are (typed.binary {o = o} r is g h) = signature_low o r is
      low are (typed.both g h) = boolean_low
      low are (typed.any g h) = boolean_low
      low are (typed.choice c g h) = low are g
      low are (typed.matching n g each whole) = arms_low are each whole (low are g).declared
      low are (typed.is_case g is) = boolean_low
      low are (typed.case_alone {n = n} {k = k} is) = case_there n k None is
      low are (typed.case_with {n = n} {k = k} t is g) = case_there n k (Some t) is
      low are (typed.structure {n = n} g there) = fields_there n _ there
      low are (typed.list {t = t} declared no_higher few g) =
          record { declared = list_declared t declared; low = no_higher }
      low are (typed.for_all t g h) = boolean_low
      low are (typed.exists t g h) = boolean_low
      low are (typed.map_each {u = u} t g h declared no_higher) =
          record { declared = list_declared u declared; low = no_higher }
      low are (typed.filter t g h) = low are g
      low are (typed.combine t g start h) = low are start
      low are (typed.contains t g h is) = boolean_low
      low are (typed.number_of t g) = integer_low
      low are (typed.sum {k = k} g) = summed_low k
      low are (typed.call {f = f} params is g) =
          subst (IsLow ds) (sym is.ty_is) (item_low is.decl (item_sound scope f is.decl is.decl_is))
      low are (typed.scope_call {s = s} {k = k} g there is) =
          subst (IsLow ds) (sym is.2) (output_low s k is.0 is.1)

      arms_low : {ls : List Ty} {n : ℕ} {arms : List Arm} {t : Ty} → AllHave (IsLow ds) ls
          → ArmsHaveType (names_at ds scope) ls n arms t → IsTrue (are_complete ds n arms)
          → IsTrue (is_type ds (flat.Enumeration n)) → IsLow ds t
      arms_low {n = n} are typed.arms_none whole declared = some_arm n declared whole
      arms_low {ls} {n} are (typed.arms_more {a = a} inside is g more) whole declared =
          low (inside_low n a.pattern ls inside is are) g

  pub low_alone : (scope : ℕ) (ls : List Ty) (e : Expr) (t : Ty) → AllHave (IsLow ds) ls
      → HasType (names_at ds scope) ls e t → IsLow ds t
  low_alone scope ls e t are is = low scope are is
