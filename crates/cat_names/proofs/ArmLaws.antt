-- Cases that are found are there; arms have their types.
use Rattle.std.specs.Prelude.{option_map, option_and_then, filter_map}
use Rattle.std.specs.List.{cons_option}
use Rattle.cat_scope.specs.Names.{IsOneOf, Names, AllHave}
use Rattle.std.proofs.Common.{inl, inr, ◌≡◌, ℕ, nat_eq, IsTrue, is_some, List, [], ◌∷◌, Option, Some, None, Ok}
use Rattle.std.proofs.Common.{slice_get, refl, sym, subst, arith}
use Rattle.cat_pos.specs.declared.pos.Pos.{Pos}
use Rattle.cat_value.specs.declared.ty.Ty.{Ty}
use Rattle.cat_value.specs.declared.declaration.Case.{Case}
use Rattle.cat_value.specs.declared.declaration.Enumeration.{Enumeration}
use Rattle.cat_value.specs.declared.decls.Decls.{Decls}
use Rattle.cat_value.specs.Typing.{is_type}
use Rattle.cat_value.specs.Entries.{content_of}
use Rattle.cat_value.specs.Laws.{AreSound}
use Rattle.cat_tree.specs.declared.name.Name.{Name}
use Rattle.cat_tree.specs.declared.name.CaseName.{CaseName}
use Rattle.cat_tree.specs.declared.name.CaseName.TheVariants as case
use Rattle.cat_tree.specs.declared.expression.Pattern.{Pattern}
use Rattle.cat_tree.specs.declared.expression.Pattern.TheVariants as written
use Rattle.cat_scope.specs.declared.expr.Arm.{Arm}
use Rattle.cat_scope.specs.declared.expr.ArmPattern.{ArmPattern}
use Rattle.cat_scope.specs.declared.expr.ArmPattern.TheVariants as pattern
use Rattle.cat_scope.specs.Fitting.{ArmLocals, has_case}
use Rattle.cat_scope.specs.HasType.{HasType, ArmsHaveType}
use Rattle.cat_scope.specs.HasType as typed
use Rattle.cat_scope.specs.Expected.{lists_placed}
use Rattle.cat_scope.proofs.Exported.{later_arms_placed, arms_placed, Each}
use Rattle.cat_names.specs.declared.fault.Fault.TheVariants.{NameUnknown}
use Rattle.cat_names.specs.declared.typed.Local.{Local}
use Rattle.cat_names.specs.Found.{and_then, or_fault}
use Rattle.cat_names.specs.Types.{is_as_expected, enumeration_of}
use Rattle.cat_names.specs.Lookup.{first_named, case_named, cases_named, types_of, type_named, type_names}
use Rattle.cat_names.specs.Lists.{numbered}
use Rattle.cat_names.specs.Naming.{only_case, case_found, names_in_scope}
use Rattle.cat_names.specs.Forms.{bound}
use Rattle.cat_names.specs.Parts.{Meaning, with_content, pattern_of, arm_of, all_arms, arms_of}
use Rattle.cat_names.specs.TypedMeanings.{OnFound, AreDeclared, IsExpected, IsTyped}
use Rattle.cat_names.proofs.OnFound.{on_then, on_both, on_where, on_any}
use Rattle.cat_names.proofs.SameTypes.{same_is}
use Rattle.cat_names.proofs.Lookups.{first_is, numbered_is}
use Rattle.cat_names.proofs.OperationLaws.{both_true}
use Rattle.cat_names.proofs.DeclaredTypes.{content_declared}
use Rattle.cat_names.proofs.PartLaws.{Sound, types_join, declared_join}

equal_numbers : (a b : ℕ) → IsTrue (nat_eq a b) → a ≡ b
equal_numbers a b h = grind (arith, h)

-- a case of a numbered enumeration that is there
abbrev IsThere : List Enumeration → ℕ × ℕ → Type 0
IsThere es k = (e : Enumeration) × (entry : Case) × (slice_get es k.0 ≡ Some e) × (slice_get e.cases k.1 ≡ Some entry)

case_is : (c : List ℕ) (es : List Enumeration) (e : ℕ × Enumeration) (k : ℕ × ℕ) → slice_get es e.0 ≡ Some e.1
    → case_named c e ≡ Some k → IsThere es k
case_is c es e k at h = by (first_named (λ x. x.name) c e.1.cases) refl h
  where
    by : (found : Option (ℕ × Case)) → first_named (λ x. x.name) c e.1.cases ≡ found
        → option_map (λ m. (e.0, m.0)) found ≡ Some k → IsThere es k
    by None g r = cc r
    by (Some m) g r = let pair : (e.0, m.0) ≡ k = cc r in
        subst (IsThere es) pair (e.1, m.1, at, first_is (λ x. x.name) c e.1.cases m g)

cases_there : (c : List ℕ) (es : List Enumeration) (numbers : List (ℕ × Enumeration))
    → ((e : ℕ × Enumeration) → IsOneOf e numbers → slice_get es e.0 ≡ Some e.1)
    → AllHave (IsThere es) (filter_map (case_named c) numbers)
cases_there c es [] at = tt
cases_there c es (e ∷ numbers) at =
    by (case_named c e) refl (cases_there c es numbers (λ f h. at f (inr h)))
  where
    by : (o : Option (ℕ × ℕ)) → case_named c e ≡ o → AllHave (IsThere es) (filter_map (case_named c) numbers)
        → AllHave (IsThere es) (cons_option o (filter_map (case_named c) numbers))
    by None h rest = rest
    by (Some k) h rest = (case_is c es e k (at e (inl refl)) h, rest)

there_case : (ds : Decls) (k : ℕ × ℕ) → IsThere ds.enumerations k → IsTrue (has_case ds k.0 k.1)
there_case ds k h = rw (h.2, h.3) refl

module _ (ds : Decls) (sound : AreSound ds) (scope : ℕ) where
  abbrev ns : Names
  ns = names_in_scope ds scope

  abbrev IsCase : ℕ × ℕ → Type 0
  IsCase k = IsTrue (has_case ds k.0 k.1)

  only_there : (p : Pos) (ks : List (ℕ × ℕ)) → AllHave (IsThere ds.enumerations) ks → OnFound IsCase (only_case p ks)
  only_there p [] all = tt
  only_there p (k ∷ []) all = there_case ds k all.0
  only_there p (k ∷ m ∷ ks) all = tt

  among_there : (c : Name) (n : ℕ) (o : Option Enumeration) → slice_get ds.enumerations n ≡ o
      → OnFound IsCase (or_fault (NameUnknown c.pos) (option_and_then (λ e. case_named c.text (n, e)) o))
  among_there c n None is = tt
  among_there c n (Some e) is = by (case_named c.text (n, e)) refl
    where
      by : (o : Option (ℕ × ℕ)) → case_named c.text (n, e) ≡ o → OnFound IsCase (or_fault (NameUnknown c.pos) o)
      by None h = tt
      by (Some k) h = there_case ds k (case_is c.text ds.enumerations (n, e) k is h)

  pub case_there : (c : CaseName) → OnFound IsCase (case_found ns c)
  case_there (case.Bare c) = only_there c.pos (cases_named c.text ds.enumerations)
      (cases_there c.text ds.enumerations (numbered ds.enumerations) (numbered_is ds.enumerations))
  case_there (case.Qualified u c) =
      on_then (λ t. Unit {0}) IsCase (or_fault (NameUnknown u.pos) (type_named (type_names ds) u.text)) _
      (on_any (or_fault (NameUnknown u.pos) (type_named (type_names ds) u.text)))
      (λ t h. on_then (λ n. Unit {0}) IsCase (or_fault (NameUnknown c.pos) (enumeration_of t)) _
      (on_any (or_fault (NameUnknown c.pos) (enumeration_of t)))
      (λ n i. among_there c n (slice_get ds.enumerations n) refl))

  -- a pattern with the bound names of its arm
  record PatternStands (n : ℕ) (ls : List Local) (q : ArmPattern × List Local) : Type 0 where
    locals : ArmLocals ds n q.0 (types_of ls) (types_of q.1)
    declared : AreDeclared ds q.1

  pattern_stands : (p : Pos) (n : ℕ) (q : Pattern) (ls : List Local) → AreDeclared ds ls
      → OnFound (PatternStands n ls) (pattern_of ns p n q ls)
  pattern_stands p n written.Anything ls all = record { locals = refl; declared = all }
  pattern_stands p n (written.Case c w) ls all =
      on_then IsCase (PatternStands n ls) (case_found ns c) _ (case_there c)
      (λ k there. on_where (PatternStands n ls) (nat_eq k.0 n) _ _ (λ same. by k.1 w (content_of ds n k.1) refl
      (subst (λ m. IsTrue (has_case ds m k.1)) (equal_numbers k.0 n same) there)))
    where
      by : (k : ℕ) (w : Option Name) (content : Option (Option Ty)) → content_of ds n k ≡ content
          → IsTrue (has_case ds n k)
          → OnFound (PatternStands n ls) (and_then {A = List Local} (with_content p w content ls)
          (λ inside. Ok (pattern.Case k (is_some w), inside)))
      by k None content is there = record { locals = (there, refl); declared = all }
      by k (Some w) (Some (Some t)) is there = record {
        locals = (t, is, types_join ls (bound w t));
        declared = declared_join ds ls (bound w t) all (content_declared ds sound n k t is);
      }
      by k (Some w) (Some None) is there = tt
      by k (Some w) None is there = tt

  -- an arm with the type of its body
  record ArmStands (n : ℕ) (ls : List Local) (ex : Option Ty) (x : Arm × Ty) : Type 0 where
    inside : List Ty
    locals : ArmLocals ds n x.0.pattern (types_of ls) inside
    typed : HasType ns inside x.0.body x.1
    placed : IsTrue (lists_placed x.0.body (is_some ex))
    declared : IsTrue (is_type ds x.1)
    fit : IsTrue (is_as_expected ex x.1)

  arm_stands : (p : Pos) (n : ℕ) (a : Pattern × Meaning) → Sound ds sound scope a.1 → (ls : List Local) (ex : Option Ty)
      → AreDeclared ds ls → IsExpected ds ex → OnFound (ArmStands n ls ex) (arm_of ns p n a ls ex)
  arm_stands p n a h ls ex all expected =
      on_then (PatternStands n ls) (ArmStands n ls ex) (pattern_of ns p n a.0 ls) _ (pattern_stands p n a.0 ls all)
      (λ q hq. on_then (IsTyped ns q.1 ex) (ArmStands n ls ex) (a.1 q.1 ex) _ (h q.1 ex hq.declared expected)
      (λ x hx. record {
        inside = types_of q.1;
        locals = hq.locals;
        typed = hx.has.typed;
        placed = hx.has.placed;
        declared = hx.has.declared;
        fit = hx.fit;
      }))

  record AllArmsStand (n : ℕ) (ls : List Local) (t : Ty) (xs : List Arm) : Type 0 where
    typed : ArmsHaveType ns (types_of ls) n xs t
    placed : IsTrue (later_arms_placed xs)

  pub record ArmsStand (n : ℕ) (ls : List Local) (ex : Option Ty) (row : List Arm × Ty) : Type 0 where
    pub typed : ArmsHaveType ns (types_of ls) n row.0 row.1
    pub placed : IsTrue (arms_placed row.0 (is_some ex))
    pub declared : IsTrue (is_type ds row.1)
    pub fit : IsTrue (is_as_expected ex row.1)

  module _ {A : Type 0} (means : A → Pattern × Meaning) where
    all_arms_stand : (p : Pos) (n : ℕ) (arms : List A) → Each (λ a. Sound ds sound scope ((means a).1)) arms
        → (ls : List Local) (t : Ty) → AreDeclared ds ls → IsTrue (is_type ds t)
        → OnFound (AllArmsStand n ls t) (all_arms means ns p n arms ls t)
    all_arms_stand p n [] each ls t all h = record { typed = typed.arms_none; placed = refl }
    all_arms_stand p n (a ∷ arms) each ls t all h =
        on_both (ArmStands n ls (Some t)) (AllArmsStand n ls t) (AllArmsStand n ls t)
        (arm_of ns p n (means a) ls (Some t)) (all_arms means ns p n arms ls t) _
        (arm_stands p n (means a) each.0 ls (Some t) all h) (all_arms_stand p n arms each.1 ls t all h)
        (λ x xs hx hxs. record {
          typed = typed.arms_more hx.inside hx.locals
              (subst (λ u. HasType ns hx.inside x.0.body u) (sym (same_is t x.1 hx.fit)) hx.typed) hxs.typed;
          placed = both_true _ _ hx.placed hxs.placed;
        })

    pub arms_stand : (p : Pos) (n : ℕ) (arms : List A) → Each (λ a. Sound ds sound scope ((means a).1)) arms
        → (ls : List Local) (ex : Option Ty) → AreDeclared ds ls → IsExpected ds ex
        → OnFound (ArmsStand n ls ex) (arms_of means ns p n arms ls ex)
    arms_stand p n [] each ls ex all h = tt
    arms_stand p n (a ∷ arms) each ls ex all h =
        on_then (ArmStands n ls ex) (ArmsStand n ls ex) (arm_of ns p n (means a) ls ex) _
        (arm_stands p n (means a) each.0 ls ex all h)
        (λ x hx. on_then (AllArmsStand n ls x.1) (ArmsStand n ls ex) (all_arms means ns p n arms ls x.1) _
        (all_arms_stand p n arms each.1 ls x.1 all hx.declared)
        (λ xs hxs. record {
          typed = typed.arms_more hx.inside hx.locals hx.typed hxs.typed;
          placed = both_true _ _ hx.placed hxs.placed;
          declared = hx.declared;
          fit = hx.fit;
        }))
