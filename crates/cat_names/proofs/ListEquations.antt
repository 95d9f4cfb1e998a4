-- The lists of parts of a form, where the parts are given one by one or all at once.
use Rattle.std.proofs.Common.{◌≡◌, ℕ, List, [], ◌∷◌, map, length, Option, Some, None, Ok, Err, refl, ap, ◌∙◌, arith}
use Rattle.std.proofs.lemmas.List.{length-map}
use Rattle.cat_pos.specs.declared.pos.Pos.{Pos}
use Rattle.cat_value.specs.declared.ty.Ty.{Ty}
use Rattle.cat_value.specs.declared.declaration.ItemDecl.{ItemDecl}
use Rattle.cat_tree.specs.declared.name.Name.{Name}
use Rattle.cat_tree.specs.declared.expression.Pattern.{Pattern}
use Rattle.cat_scope.specs.declared.expr.Expr.{Expr}
use Rattle.cat_scope.specs.declared.expr.Arm.{Arm}
use Rattle.cat_scope.specs.Names.{Names}
use Rattle.cat_names.specs.declared.typed.Typed.{Typed}
use Rattle.cat_names.specs.declared.typed.Local.{Local}
use Rattle.cat_names.specs.declared.fault.Fault.TheVariants.{TypeMismatch}
use Rattle.cat_names.specs.Found.{Found, and_then, both, or_fault}
use Rattle.cat_names.specs.Types.{enumeration_of}
use Rattle.cat_names.specs.Parts.{Meaning, all_of_type, elements_of, arguments_of, call_of, value_of, values_of, arm_of}
use Rattle.cat_names.specs.Parts.{all_arms, arms_of}
use Rattle.cat_names.specs.Compound.{structure_of_fields, scope_call_of, match_over}

counted : {A B : Type 0} (f : A → B) (xs : List A) → length (map f xs) ≡ length xs
counted f xs = grind (arith, length-map)

-- where an answer goes on in two ways that agree
pub then_same : {A B : Type 0} (found : Found A) (f g : A → Found B) → ((a : A) → f a ≡ g a)
    → and_then found f ≡ and_then found g
then_same (Ok a) f g are = are a
then_same (Err faults) f g are = refl

module _ {A B : Type 0} (part : B → Meaning) (whole : A → Meaning) (make : A → B)
    (is : (a : A) → part (make a) ≡ whole a) where
  all_along : (xs : List A) (ls : List Local) (t : Ty) → all_of_type part (map make xs) ls t ≡ all_of_type whole xs ls t
  all_along [] ls t = refl
  all_along (x ∷ xs) ls t =
      ap (λ (m : Meaning). both (m ls (Some t)) (all_of_type part (map make xs) ls t) (λ y ys. Ok (y.expr ∷ ys))) (is x)
      ∙ ap (λ rest. both (whole x ls (Some t)) rest (λ y ys. Ok (y.expr ∷ ys))) (all_along xs ls t)

  pub elements_along : (p : Pos) (xs : List A) (ls : List Local) (ex : Option Ty)
      → elements_of part p (map make xs) ls ex ≡ elements_of whole p xs ls ex
  elements_along p [] ls None = refl
  elements_along p [] ls (Some t) = refl
  elements_along p (x ∷ xs) ls ex = ap (λ (m : Meaning). and_then {B = List Expr × Ty} (m ls ex)
      (λ y. and_then {B = List Expr × Ty} (all_of_type part (map make xs) ls y.ty)
      (λ ys. Ok (y.expr ∷ ys, y.ty)))) (is x)
      ∙ then_same {B = List Expr × Ty} (whole x ls ex) _ _
      (λ y. ap (λ rest. and_then {B = List Expr × Ty} rest (λ ys. Ok (y.expr ∷ ys, y.ty))) (all_along xs ls y.ty))

  arguments_along : (xs : List A) (ls : List Local) (ts : List Ty) → arguments_of part (map make xs) ls ts
      ≡ arguments_of whole xs ls ts
  arguments_along [] ls ts = refl
  arguments_along (x ∷ xs) ls [] = refl
  arguments_along (x ∷ xs) ls (t ∷ ts) =
      ap (λ (m : Meaning). both (m ls (Some t)) (arguments_of part (map make xs) ls ts) (λ y ys. Ok (y.expr ∷ ys)))
      (is x)
      ∙ ap (λ rest. both (whole x ls (Some t)) rest (λ y ys. Ok (y.expr ∷ ys))) (arguments_along xs ls ts)

  pub call_along : (w : Name) (xs : List A) (ls : List Local) (found : Found (ℕ × ItemDecl))
      → and_then found (call_of part w (map make xs) ls) ≡ and_then found (call_of whole w xs ls)
  call_along w xs ls found = then_same found _ _ (λ f. rw (counted make xs, arguments_along xs ls f.1.params) refl)

module _ {A B : Type 0} (part : B → Name × Meaning) (whole : A → Name × Meaning) (make : A → B)
    (is : (a : A) → part (make a) ≡ whole a) where
  values_along : (field : List ℕ → Option (ℕ × Ty)) (xs : List A) (ls : List Local) → values_of part field (map make xs)
      ls ≡ values_of whole field xs ls
  values_along field [] ls = refl
  values_along field (x ∷ xs) ls = ap
      (λ (f : Name × Meaning). both (value_of field f ls) (values_of part field (map make xs) ls) (λ y ys. Ok (y ∷ ys)))
      (is x)
      ∙ ap (λ rest. both (value_of field (whole x) ls) rest (λ y ys. Ok (y ∷ ys))) (values_along field xs ls)

  pub structure_along : (ns : Names) (u : Name) (xs : List A) (ls : List Local) (found : Found ℕ)
      → and_then found (structure_of_fields part ns u (map make xs) ls) ≡ and_then found
      (structure_of_fields whole ns u xs ls)
  structure_along ns u xs ls found = then_same found _ _ (λ n. rw (values_along _ xs ls) refl)

  pub scope_call_along : (ns : Names) (p : Pos) (u : Name) (xs : List A) (w : Name) (ls : List Local) (found : Found ℕ)
      → and_then found (scope_call_of part ns p u (map make xs) w ls) ≡ and_then found
      (scope_call_of whole ns p u xs w ls)
  scope_call_along ns p u xs w ls found = then_same found _ _ (λ s. rw (values_along _ xs ls) refl)

module _ {A B : Type 0} (part : B → Pattern × Meaning) (whole : A → Pattern × Meaning) (make : A → B)
    (is : (a : A) → part (make a) ≡ whole a) where
  all_arms_along : (ns : Names) (p : Pos) (n : ℕ) (xs : List A) (ls : List Local) (t : Ty)
      → all_arms part ns p n (map make xs) ls t ≡ all_arms whole ns p n xs ls t
  all_arms_along ns p n [] ls t = refl
  all_arms_along ns p n (x ∷ xs) ls t = ap (λ (a : Pattern × Meaning). both (arm_of ns p n a ls (Some t))
      (all_arms part ns p n (map make xs) ls t) (λ y ys. Ok (y.0 ∷ ys))) (is x)
      ∙ ap (λ rest. both (arm_of ns p n (whole x) ls (Some t)) rest (λ y ys. Ok (y.0 ∷ ys)))
      (all_arms_along ns p n xs ls t)

  arms_along : (ns : Names) (p : Pos) (n : ℕ) (xs : List A) (ls : List Local) (ex : Option Ty)
      → arms_of part ns p n (map make xs) ls ex ≡ arms_of whole ns p n xs ls ex
  arms_along ns p n [] ls ex = refl
  arms_along ns p n (x ∷ xs) ls ex = ap (λ (a : Pattern × Meaning). and_then {B = List Arm × Ty} (arm_of ns p n a ls ex)
      (λ y. and_then {B = List Arm × Ty} (all_arms part ns p n (map make xs) ls y.1) (λ ys. Ok (y.0 ∷ ys, y.1)))) (is x)
      ∙ then_same {B = List Arm × Ty} (arm_of ns p n (whole x) ls ex) _ _
      (λ y. ap (λ rest. and_then {B = List Arm × Ty} rest (λ ys. Ok (y.0 ∷ ys, y.1)))
      (all_arms_along ns p n xs ls y.1))

  pub match_along : (ns : Names) (p : Pos) (xs : List A) (ls : List Local) (ex : Option Ty) (found : Found Typed)
      → and_then found (match_over part ns p (map make xs) ls ex) ≡ and_then found (match_over whole ns p xs ls ex)
  match_along ns p xs ls ex found = then_same found _ _
      (λ e. then_same (or_fault (TypeMismatch p) (enumeration_of e.ty)) _ _ (λ n. rw (arms_along ns p n xs ls ex) refl))
