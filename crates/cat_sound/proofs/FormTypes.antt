-- Structures, their fields, and the arms of matches end in values of their types.
use Rattle.std.proofs.Common.{◌≡◌, ◌⊎◌, inl, inr, ℕ, zero, suc, ◌+◌, ◌<◌, Bool, true, false, ◌&&◌, IsTrue, List, []}
use Rattle.std.proofs.Common.{◌∷◌, ◌++◌, length, Option, Some, None, Ok, slice_get, refl, sym, ap, ◌∙◌, subst}
use Rattle.std.proofs.Common.{true≢false, if◌then◌else◌, arith, ⊎_elim}
use Rattle.std.specs.Prelude.{nat_eq}
use Rattle.std.proofs.lemmas.Bool.{cases_eq}
use Rattle.std.proofs.lemmas.Bool.Decides.{nat_tests}
use Rattle.std.proofs.lemmas.Option.{slice_get_within}
use Rattle.cat_value.specs.declared.ty.Ty.{Ty}
use Rattle.cat_value.specs.declared.ty.Ty.TheVariants as ty
use Rattle.cat_value.specs.declared.value.Value.{Value}
use Rattle.cat_value.specs.declared.value.Value.TheViews as value
use Rattle.cat_value.specs.declared.decls.Decls.{Decls}
use Rattle.cat_value.specs.declared.declaration.Field.{Field}
use Rattle.cat_value.specs.declared.declaration.Case.{Case}
use Rattle.cat_value.specs.declared.declaration.Enumeration.{Enumeration}
use Rattle.cat_value.specs.Typing.{fields_have_types, is_structure, content_has_type, is_case}
use Rattle.cat_value.specs.Entries.{some_passes, fields_of, content_of, content_in}
use Rattle.cat_value.specs.Entries as entry
use Rattle.cat_value.proofs.Exported.{has_type_Structure, structure_value, case_value}
use Rattle.cat_scope.specs.declared.expr.ArmPattern.{ArmPattern}
use Rattle.cat_scope.specs.declared.expr.ArmPattern.TheVariants as pattern
use Rattle.cat_scope.specs.declared.expr.Arm.{Arm}
use Rattle.cat_scope.specs.Replies.{on_one, known}
use Rattle.cat_scope.specs.Runs.{Run, plain, and_then}
use Rattle.cat_scope.specs.Projections.{parts, parts_in, case_of, case_in}
use Rattle.cat_scope.specs.Names.{is_in, are_all_in}
use Rattle.cat_scope.specs.Fitting.{with_case, cases_of, is_anything, ends_in_anything, cases_in, are_complete}
use Rattle.cat_scope.specs.Fitting.{ArmLocals, field_at, type_in, field_type, are_fields_of}
use Rattle.cat_scope.specs.Names.{AllHave}
use Rattle.cat_scope.specs.Eval.{Env, eval}
use Rattle.cat_scope.specs.inside.EvalParts.{eval_arms}
use Rattle.cat_scope.specs.Composed.{Meaning, part, value_given, in_order, structured, arm_locals, arm_value}
use Rattle.cat_sound.specs.Endings.{Allowed, EndsIn, ResultsIn, IsOf, AreOf, IsFieldOf, field_numbers}
use Rattle.cat_sound.proofs.Results.{both, result_as, result_then, result_with_front, result_known, are_more}
use Rattle.cat_sound.proofs.Endings.{ends_as}

some_or : {A : Type 0} → A → Option A → A
some_or d None = d
some_or d (Some a) = a

pub same_some : {A : Type 0} (a b : A) → Some a ≡ Some b → a ≡ b
unfolding some_or
same_some a b e = ap (some_or a) e

pub same_number : (a b : ℕ) → nat_eq a b ≡ true → a ≡ b
same_number a b h = grind (arith, nat_tests)

pub not_true : {A : Type 0} → IsTrue false → A
not_true h = absurd (true≢false (sym h))

-- ---- the parts of structures

in_fields : (ds : Decls) (fs : List Field) (vs : List Value) (k : ℕ) (t : Ty) → IsTrue (fields_have_types ds vs fs)
    → type_in (slice_get fs k) ≡ Some t → ResultsIn (IsOf ds t) (known (slice_get vs k))
in_fields ds [] vs k t h is = absurd (cc)
in_fields ds (f ∷ fs) [] k t h is = not_true h
in_fields ds (f ∷ fs) (v ∷ vs) zero t h is = subst (λ u. IsOf ds u v) (same_some f.ty t is) (both _ _ h).0
in_fields ds (f ∷ fs) (v ∷ vs) (suc k) t h is = in_fields ds fs vs k t (both _ _ h).1 is

part_in : (ds : Decls) (o : Option (List Field)) (vs : List Value) (k : ℕ) (t : Ty)
    → IsTrue (some_passes (fields_have_types ds vs) o) → type_in (field_at o k) ≡ Some t
    → ResultsIn (IsOf ds t) (known (slice_get vs k))
part_in ds None vs k t h is = not_true h
part_in ds (Some fs) vs k t h is = in_fields ds fs vs k t h is

pub part-ends : (ds : Decls) (n k : ℕ) (t : Ty) (v : Value) → IsOf ds (ty.Structure n) v → field_type ds n k ≡ Some t
    → ResultsIn (IsOf ds t) (part k v)
part-ends ds n k t v h is =
    let seen = structure_value ds v n h in
    result_as (IsOf ds t) (part k v) (known (slice_get seen.0 k))
    (ap (λ r. on_one r (λ vs. known (slice_get vs k))) (ap parts seen.1 ∙ ap parts_in (value.outs-Structure seen.0)))
    (part_in ds (fields_of ds n) seen.0 k t seen.2 is)

-- ---- fields with their numbers

-- what is given for a number that is there, and of which type it is
pub record IsGiven (ds : Decls) (type_of : ℕ → Option Ty) (k : ℕ) (fs : List (ℕ × Value)) : Type 0 where
  pub value : Value
  pub ty : Ty
  pub is : value_given k fs ≡ Some value
  pub type_is : type_of k ≡ Some ty
  pub typed : IsOf ds ty value

value_given-typed : (ds : Decls) (type_of : ℕ → Option Ty) (fs : List (ℕ × Value)) (k : ℕ)
    → AllHave (IsFieldOf ds type_of) fs
    → IsTrue (is_in k (field_numbers fs)) → IsGiven ds type_of k fs
value_given-typed ds type_of [] k h there = not_true there
value_given-typed ds type_of (f ∷ fs) k h there = by (nat_eq k f.0) refl (value_given-typed ds type_of fs k h.1)
  where
    by : (b : Bool) → nat_eq k f.0 ≡ b → (IsTrue (is_in k (field_numbers fs)) → IsGiven ds type_of k fs)
        → IsGiven ds type_of k (f ∷ fs)
    by true e rest = record {
      value = f.1;
      ty = h.0.0;
      is = ap (λ b. if b then Some f.1 else value_given k fs) e;
      type_is = ap type_of (same_number k f.0 e) ∙ h.0.1;
      typed = h.0.2;
    }
    by false e rest =
        let more = rest (sym (ap (λ b. if b then true else is_in k (field_numbers fs)) e) ∙ there) in
        record {
          value = more.value;
          ty = more.ty;
          is = ap (λ b. if b then Some f.1 else value_given k fs) e ∙ more.is;
          type_is = more.type_is;
          typed = more.typed;
        }

all_in : (n : ℕ) (ns : List ℕ) (k : ℕ) → IsTrue (are_all_in n ns) → k < n → IsTrue (is_in k ns)
all_in zero ns k h below = absurd (omega arith)
all_in (suc n) ns k h below =
    let two = both _ _ h in
    ⊎_elim (λ same. subst (λ (m : ℕ). IsTrue (is_in m ns)) (sym same) two.0)
    (λ other. all_in n ns k two.1 (omega (arith, other))) (cases_eq k n)

-- fields in the order of their declarations, from number k on
ordered : (ds : Decls) (back : List Field) (k : ℕ) (fs : List (ℕ × Value))
    → ((j : ℕ) (f : Field) → slice_get back j ≡ Some f → ResultsIn (IsOf ds f.ty) (known (value_given (k + j) fs)))
    → ResultsIn (λ vs. IsTrue (fields_have_types ds vs back)) (in_order (length back) k fs)
ordered ds [] k fs each = refl
ordered ds (f ∷ back) k fs each =
    result_with_front (IsOf ds f.ty) (λ vs. IsTrue (fields_have_types ds vs back))
    (λ vs. IsTrue (fields_have_types ds vs (f ∷ back))) (known (value_given k fs)) (in_order (length back) (k + 1) fs)
    (subst (λ (m : ℕ). ResultsIn (IsOf ds f.ty) (known (value_given m fs))) (omega arith) (each 0 f refl))
    (ordered ds back (k + 1) fs (λ j g is. subst (λ (m : ℕ). ResultsIn (IsOf ds g.ty) (known (value_given m fs)))
    (omega arith) (each (suc j) g is)))
    (λ v vs hv hvs. and_both v vs hv hvs)
  where
    and_both : (v : Value) (vs : List Value) → IsOf ds f.ty v → IsTrue (fields_have_types ds vs back)
        → IsTrue (fields_have_types ds (v ∷ vs) (f ∷ back))
    and_both v vs hv hvs = ap (λ b. b && fields_have_types ds vs back) hv ∙ hvs

numbers-length : (fs : List (ℕ × Value)) → length (field_numbers fs) ≡ length fs
numbers-length [] = refl
numbers-length (f ∷ fs) = ap suc (numbers-length fs)

in_place : (ds : Decls) (o : Option (List Field)) (fs : List (ℕ × Value))
    → AllHave (IsFieldOf ds (λ k. type_in (field_at o k))) fs
    → IsTrue (some_passes (λ fields. nat_eq (length (field_numbers fs)) (length fields) && are_all_in (length fields)
    (field_numbers fs)) o)
    → ResultsIn (λ vs. IsTrue (some_passes (fields_have_types ds vs) o)) (in_order (length fs) 0 fs)
in_place ds None fs h there = not_true there
in_place ds (Some fields) fs h there =
    let two = both _ _ there in
    let many : length fields ≡ length fs = sym (same_number _ _ two.0) ∙ numbers-length fs in
    subst (λ (n : ℕ). ResultsIn (λ vs. IsTrue (fields_have_types ds vs fields)) (in_order n 0 fs)) many
    (ordered ds fields 0 fs (λ j f is. one j f is two.1))
  where
    one : (j : ℕ) (f : Field) → slice_get fields j ≡ Some f → IsTrue (are_all_in (length fields) (field_numbers fs))
        → ResultsIn (IsOf ds f.ty) (known (value_given (0 + j) fs))
    one j f is all =
        let found = value_given-typed ds (λ k. type_in (field_at (Some fields) k)) fs j h
        (all_in (length fields) (field_numbers fs) j all (slice_get_within fields j f is)) in
        let same : f.ty ≡ found.ty = same_some f.ty found.ty (sym (ap type_in is) ∙ found.type_is) in
        subst (λ (m : ℕ). ResultsIn (IsOf ds f.ty) (known (value_given m fs))) (omega arith)
        (result_known (IsOf ds f.ty) (value_given j fs) found.value found.is
        (subst (λ u. IsOf ds u found.value) (sym same) found.typed))

pub structured-ends : (ds : Decls) (n : ℕ) (fs : List (ℕ × Value)) → AllHave (IsFieldOf ds (field_type ds n)) fs
    → IsTrue (are_fields_of ds n (field_numbers fs)) → ResultsIn (IsOf ds (ty.Structure n)) (structured fs)
structured-ends ds n fs h there =
    result_then (λ vs. IsTrue (is_structure ds n vs)) (IsOf ds (ty.Structure n)) (in_order (length fs) 0 fs) _
    (in_place ds (fields_of ds n) fs h there)
    (λ vs is. has_type_Structure ds vs n ∙ is)

-- ---- matches

-- the body of an arm ends in a value of a type, under the local names of the arm
pub record ArmEnds (allowed : Allowed) (ds : Decls) (env : Env) (n : ℕ) (ls : List Ty) (t : Ty) (a : Arm) : Type 0 where
  pub inside : List Ty
  pub locals : ArmLocals ds n a.pattern ls inside
  pub body : (vs : List Value) → AreOf ds inside vs → EndsIn allowed (IsOf ds t) (eval env a.body vs)

abbrev Missed : ArmPattern → ℕ → Type 0
Missed pattern.Anything k = ⊥
Missed (pattern.Case c bound) k = nat_eq k c ≡ false

-- some arm is for the case
abbrev pub IsMet : List Arm → ℕ → Type 0
IsMet arms k = IsTrue (is_in k (cases_of arms)) ⊎ IsTrue (ends_in_anything arms)

in_rest : (q : ArmPattern) (cases : List ℕ) (k : ℕ) → Missed q k → IsTrue (is_in k (with_case q cases))
    → IsTrue (is_in k cases)
in_rest pattern.Anything cases k missed h = elim missed [ ]
in_rest (pattern.Case c bound) cases k missed h = sym (ap (λ b. if b then true else is_in k cases) missed) ∙ h

not_anything : (q : ArmPattern) (k : ℕ) → Missed q k → IsTrue (is_anything q) → ⊥
not_anything pattern.Anything k missed h = missed
not_anything (pattern.Case c bound) k missed h = not_true h

met_behind : (a : Arm) (arms : List Arm) (k : ℕ) → Missed a.pattern k → IsMet (a ∷ arms) k → IsMet arms k
met_behind a arms k missed (inl h) = inl (in_rest a.pattern (cases_of arms) k missed h)
met_behind a [] k missed (inr h) = absurd (not_anything a.pattern k missed h)
met_behind a (b ∷ arms) k missed (inr h) = inr h

module _ (allowed : Allowed) (ds : Decls) (env : Env) (n : ℕ) (ls : List Ty) (t : Ty) (k : ℕ) (content : Option Value)
    (locals : List Value) (case : IsTrue (is_case ds n k content)) (are : AreOf ds ls locals) where
  bound_content : (u : Ty) (o : Option Value) → IsTrue (content_has_type ds o (Some u)) → (v : Value) × (o ≡ Some v)
      × IsOf ds u v
  bound_content u None h = not_true h
  bound_content u (Some v) h = (v, refl, h)

  bound_locals : (bound : Bool) (c : ℕ) (inside : List Ty) (body : Meaning) → k ≡ c
      → ArmLocals ds n (pattern.Case c bound) ls inside
      → ((vs : List Value) → AreOf ds inside vs → EndsIn allowed (IsOf ds t) (body vs)) → EndsIn allowed (IsOf ds t)
      (and_then (plain (arm_locals bound content locals)) body)
  bound_locals false c inside body same h go = go locals (subst (λ us. AreOf ds us locals) (sym h.1) are)
  bound_locals true c inside body same h go =
      let here : content_of ds n k ≡ Some (Some h.0) = ap (content_of ds n) same ∙ h.1 in
      let found = bound_content h.0 content (sym (ap (some_passes (content_has_type ds content)) here) ∙ case) in
      ends_as allowed (IsOf ds t) (and_then (plain (arm_locals true content locals)) body)
      (body (locals ++ found.0 ∷ [])) (ap (λ o. and_then (plain (arm_locals true o locals)) body) found.1)
      (go (locals ++ found.0 ∷ []) (subst (λ us. AreOf ds us (locals ++ found.0 ∷ [])) (sym h.2)
      (are_more ds ls (h.0 ∷ []) locals (found.0 ∷ []) are (found.2, tt))))

  at_pattern : (q : ArmPattern) (inside : List Ty) (body : Meaning) (rest : Run Value) → ArmLocals ds n q ls inside
      → ((vs : List Value) → AreOf ds inside vs → EndsIn allowed (IsOf ds t) (body vs))
      → (Missed q k → EndsIn allowed (IsOf ds t) rest) → EndsIn allowed (IsOf ds t)
      (arm_value q body rest k content locals)
  at_pattern pattern.Anything inside body rest h go behind = go locals (subst (λ us. AreOf ds us locals) (sym h) are)
  at_pattern (pattern.Case c bound) inside body rest h go behind = by (nat_eq k c) refl
    where
      by : (b : Bool) → nat_eq k c ≡ b → EndsIn allowed (IsOf ds t)
          (if nat_eq k c then and_then (plain (arm_locals bound content locals)) body else rest)
      by true e =
          ends_as allowed (IsOf ds t) (if nat_eq k c then and_then (plain (arm_locals bound content locals)) body else
          rest) (and_then (plain (arm_locals bound content locals)) body)
          (ap (λ b. if b then and_then (plain (arm_locals bound content locals)) body else rest) e)
          (bound_locals bound c inside body (same_number k c e) h go)
      by false e =
          ends_as allowed (IsOf ds t) (if nat_eq k c then and_then (plain (arm_locals bound content locals)) body else
          rest) rest
          (ap (λ b. if b then and_then (plain (arm_locals bound content locals)) body else rest) e) (behind e)

  pub arms-end : (arms : List Arm) → AllHave (ArmEnds allowed ds env n ls t) arms → IsMet arms k
      → EndsIn allowed (IsOf ds t) (eval_arms env arms k content locals)
  arms-end [] h (inl met) = not_true met
  arms-end [] h (inr met) = not_true met
  arms-end (a ∷ arms) h met =
      at_pattern a.pattern h.0.inside (eval env a.body) (eval_arms env arms k content locals) h.0.locals h.0.body
      (λ missed. arms-end arms h.1 (met_behind a arms k missed met))

-- a case of an enumeration is below the number of its cases
case_below : (o : Option Enumeration) (k : ℕ) (test : Option Ty → Bool) → IsTrue (some_passes test (entry.case_in k o))
    → k < cases_in o
case_below None k test h = not_true h
case_below (Some e) k test h = by (slice_get e.cases k) refl h
  where
    by : (o : Option Case) → slice_get e.cases k ≡ o → IsTrue (some_passes test (content_in o)) → k < length e.cases
    by None is g = not_true g
    by (Some c) is g = slice_get_within e.cases k c is

pub met : (ds : Decls) (n k : ℕ) (content : Option Value) (arms : List Arm) → IsTrue (is_case ds n k content)
    → IsTrue (are_complete ds n arms) → IsMet arms k
met ds n k content arms case complete = by (ends_in_anything arms) refl (both _ _ complete).1
  where
    by : (b : Bool) → ends_in_anything arms ≡ b
        → IsTrue (if b then true else are_all_in (cases_in (slice_get ds.enumerations n)) (cases_of arms))
        → IsMet arms k
    by true e h = inr e
    by false e h =
        inl (all_in _ (cases_of arms) k h (case_below (slice_get ds.enumerations n) k (content_has_type ds content)
        case))

-- a value of an enumeration by its case
pub record IsCaseOf (ds : Decls) (n : ℕ) (v : Value) : Type 0 where
  pub case : ℕ
  pub content : Option Value
  pub read : case_of v ≡ Ok (case, content)
  pub is : IsTrue (is_case ds n case content)

pub case_seen : (ds : Decls) (n : ℕ) (v : Value) → IsOf ds (ty.Enumeration n) v → IsCaseOf ds n v
case_seen ds n v h =
    let seen = case_value ds v n h in
    record {
      case = seen.0;
      content = seen.1;
      read = ap case_of seen.2 ∙ ap case_in (value.outs-Case seen.0 seen.1);
      is = seen.3;
    }
