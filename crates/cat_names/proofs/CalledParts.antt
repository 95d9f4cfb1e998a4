-- Each scope that a list of parts calls is named by a word of one of them.
use Rattle.std.proofs.Common.{◌≡◌, ℕ, List, [], ◌∷◌, ◌++◌, map, Option, Some, None, refl, ap, ◌∙◌}
use Rattle.cat_pos.specs.declared.pos.Pos.{Pos}
use Rattle.cat_value.specs.declared.ty.Ty.{Ty}
use Rattle.cat_value.specs.declared.decls.Decls.{Decls}
use Rattle.cat_tree.specs.declared.name.Name.{Name}
use Rattle.cat_tree.specs.declared.expression.Pattern.{Pattern}
use Rattle.cat_scope.specs.declared.expr.Expr.{Expr}
use Rattle.cat_scope.specs.declared.expr.FieldValue.{FieldValue}
use Rattle.cat_scope.specs.declared.expr.Arm.{Arm}
use Rattle.cat_scope.specs.Names.{Names}
use Rattle.cat_scope.specs.Mentions.{own_scope, scopes_named, joined}
use Rattle.cat_scope.proofs.Exported.{names_in_field, names_in_arm, names_in_field_is, names_in_arm_is, Each}
use Rattle.cat_names.specs.declared.fault.Fault.TheVariants.{NameUnknown}
use Rattle.cat_names.specs.declared.typed.Local.{Local}
use Rattle.cat_names.specs.Found.{or_fault}
use Rattle.cat_names.specs.Parts.{Meaning, all_of_type, elements_of, arguments_of, value_of, values_of, pattern_of}
use Rattle.cat_names.specs.Parts.{arm_of, all_arms, arms_of}
use Rattle.cat_names.specs.ScopeWords.{all_words, AreWordsOf}
use Rattle.cat_names.specs.TypedMeanings.{OnFound}
use Rattle.cat_names.proofs.OnFound.{on_then, on_both, on_any}
use Rattle.cat_names.proofs.CalledWords.{Calls, both_words}

-- a meaning calls what these words name, wherever it stands
abbrev pub CallsBy : Decls → List Name → Meaning → Type 0
CallsBy ds words m = (ls : List Local) (ex : Option Ty) → OnFound (Calls ds words) (m ls ex)

-- what fields and arms call, by their values and bodies
abbrev pub called_by_values : List FieldValue → List ℕ
called_by_values fs = joined (map (λ f. scopes_named f.value) fs)

abbrev pub called_by_bodies : List Arm → List ℕ
called_by_bodies arms = joined (map (λ a. scopes_named a.body) arms)

pub values_are : (fs : List FieldValue) → joined (map (names_in_field own_scope) fs) ≡ called_by_values fs
values_are [] = refl
values_are (f ∷ fs) = ap (λ ns. ns ++ joined (map (names_in_field own_scope) fs)) (names_in_field_is own_scope f)
    ∙ ap (λ ns. scopes_named f.value ++ ns) (values_are fs)

pub bodies_are : (arms : List Arm) → joined (map (names_in_arm own_scope) arms) ≡ called_by_bodies arms
bodies_are [] = refl
bodies_are (a ∷ arms) = ap (λ ns. ns ++ joined (map (names_in_arm own_scope) arms)) (names_in_arm_is own_scope a)
    ∙ ap (λ ns. scopes_named a.body ++ ns) (bodies_are arms)

module _ (ds : Decls) {A : Type 0} (words : A → List Name) where
  abbrev All : List A → List Name
  All xs = all_words (map words xs)

  module _ (means : A → Meaning) where
    abbrev pub CallAll : List A → List Expr → Type 0
    CallAll xs es = AreWordsOf ds (All xs) (joined (map scopes_named es))

    calls_all : (xs : List A) → Each (λ x. CallsBy ds (words x) (means x)) xs → (ls : List Local) (t : Ty)
        → OnFound (CallAll xs) (all_of_type means xs ls t)
    calls_all [] each ls t = tt
    calls_all (x ∷ xs) each ls t = on_both (Calls ds (words x)) (CallAll xs) (CallAll (x ∷ xs)) (means x ls (Some t))
        (all_of_type means xs ls t) _
        (each.0 ls (Some t)) (calls_all xs each.1 ls t)
        (λ y ys hy hys. both_words ds (words x) (All xs) (scopes_named y.expr) (joined (map scopes_named ys)) hy hys)

    abbrev pub CallRow : List A → List Expr × Ty → Type 0
    CallRow xs row = AreWordsOf ds (All xs) (joined (map scopes_named row.0))

    pub calls_elements : (p : Pos) (xs : List A) → Each (λ x. CallsBy ds (words x) (means x)) xs → (ls : List Local)
        (ex : Option Ty) → OnFound (CallRow xs) (elements_of means p xs ls ex)
    calls_elements p [] each ls None = tt
    calls_elements p [] each ls (Some t) = tt
    calls_elements p (x ∷ xs) each ls ex =
        on_then (Calls ds (words x)) (CallRow (x ∷ xs)) (means x ls ex) _ (each.0 ls ex)
        (λ y hy. on_then (CallAll xs) (CallRow (x ∷ xs)) (all_of_type means xs ls y.ty) _ (calls_all xs each.1 ls y.ty)
        (λ ys hys. both_words ds (words x) (All xs) (scopes_named y.expr) (joined (map scopes_named ys)) hy hys))

    pub calls_arguments : (xs : List A) → Each (λ x. CallsBy ds (words x) (means x)) xs
        → (ls : List Local) (ts : List Ty)
        → OnFound (CallAll xs) (arguments_of means xs ls ts)
    calls_arguments [] each ls ts = tt
    calls_arguments (x ∷ xs) each ls [] = tt
    calls_arguments (x ∷ xs) each ls (t ∷ ts) =
        on_both (Calls ds (words x)) (CallAll xs) (CallAll (x ∷ xs)) (means x ls (Some t))
        (arguments_of means xs ls ts) _ (each.0 ls (Some t)) (calls_arguments xs each.1 ls ts)
        (λ y ys hy hys. both_words ds (words x) (All xs) (scopes_named y.expr) (joined (map scopes_named ys)) hy hys)

  module _ (means : A → Name × Meaning) (field : List ℕ → Option (ℕ × Ty)) where
    abbrev CallValue : List Name → FieldValue → Type 0
    CallValue ws f = AreWordsOf ds ws (scopes_named f.value)

    calls_value : (x : A) → CallsBy ds (words x) ((means x).1) → (ls : List Local) → OnFound (CallValue (words x))
        (value_of field (means x) ls)
    calls_value x h ls = on_then (λ k. Unit {0}) (CallValue (words x))
        (or_fault (NameUnknown ((means x).0.pos)) (field ((means x).0.text))) _
        (on_any (or_fault (NameUnknown ((means x).0.pos)) (field ((means x).0.text))))
        (λ k i. on_then (Calls ds (words x)) (CallValue (words x)) ((means x).1 ls (Some k.1)) _ (h ls (Some k.1))
        (λ y hy. hy))

    abbrev pub CallValues : List A → List FieldValue → Type 0
    CallValues xs fs = AreWordsOf ds (All xs) (called_by_values fs)

    pub calls_values : (xs : List A) → Each (λ x. CallsBy ds (words x) ((means x).1)) xs → (ls : List Local)
        → OnFound (CallValues xs) (values_of means field xs ls)
    calls_values [] each ls = tt
    calls_values (x ∷ xs) each ls = on_both (CallValue (words x)) (CallValues xs) (CallValues (x ∷ xs))
        (value_of field (means x) ls) (values_of means field xs ls) _
        (calls_value x each.0 ls) (calls_values xs each.1 ls)
        (λ y ys hy hys. both_words ds (words x) (All xs) (scopes_named y.value) (called_by_values ys) hy hys)

  module _ (means : A → Pattern × Meaning) (ns : Names) (p : Pos) (n : ℕ) where
    abbrev CallArm : List Name → Arm × Ty → Type 0
    CallArm ws a = AreWordsOf ds ws (scopes_named a.0.body)

    calls_arm : (x : A) → CallsBy ds (words x) ((means x).1) → (ls : List Local) (ex : Option Ty)
        → OnFound (CallArm (words x)) (arm_of ns p n (means x) ls ex)
    calls_arm x h ls ex = on_then (λ q. Unit {0}) (CallArm (words x)) (pattern_of ns p n ((means x).0) ls) _
        (on_any (pattern_of ns p n ((means x).0) ls))
        (λ q i. on_then (Calls ds (words x)) (CallArm (words x)) ((means x).1 q.1 ex) _ (h q.1 ex) (λ y hy. hy))

    abbrev CallArms : List A → List Arm → Type 0
    CallArms xs arms = AreWordsOf ds (All xs) (called_by_bodies arms)

    calls_all_arms : (xs : List A) → Each (λ x. CallsBy ds (words x) ((means x).1)) xs → (ls : List Local) (t : Ty)
        → OnFound (CallArms xs) (all_arms means ns p n xs ls t)
    calls_all_arms [] each ls t = tt
    calls_all_arms (x ∷ xs) each ls t = on_both (CallArm (words x)) (CallArms xs) (CallArms (x ∷ xs))
        (arm_of ns p n (means x) ls (Some t)) (all_arms means ns p n xs ls t) _
        (calls_arm x each.0 ls (Some t)) (calls_all_arms xs each.1 ls t)
        (λ y ys hy hys. both_words ds (words x) (All xs) (scopes_named y.0.body) (called_by_bodies ys) hy hys)

    abbrev pub CallRows : List A → List Arm × Ty → Type 0
    CallRows xs row = AreWordsOf ds (All xs) (called_by_bodies row.0)

    pub calls_arms : (xs : List A) → Each (λ x. CallsBy ds (words x) ((means x).1)) xs
        → (ls : List Local) (ex : Option Ty)
        → OnFound (CallRows xs) (arms_of means ns p n xs ls ex)
    calls_arms [] each ls ex = tt
    calls_arms (x ∷ xs) each ls ex = on_then (CallArm (words x)) (CallRows (x ∷ xs)) (arm_of ns p n (means x) ls ex) _
        (calls_arm x each.0 ls ex)
        (λ y hy. on_then (CallArms xs) (CallRows (x ∷ xs)) (all_arms means ns p n xs ls y.1) _
        (calls_all_arms xs each.1 ls y.1)
        (λ ys hys. both_words ds (words x) (All xs) (scopes_named y.0.body) (called_by_bodies ys) hy hys))
