-- A loop does what comes of one element after the other.
use Rattle.std.proofs.Common.{◌≡◌, ℕ, ◌+◌, Bool, true, false, List, [], ◌∷◌, ◌++◌, Result}
use Rattle.std.proofs.Common.{Ok, Err, refl, sym, ap, ◌∙◌, subst, append_assoc}
use Rattle.cat_value.specs.declared.value.Value.{Value}
use Rattle.cat_scope.specs.declared.stop.Stop.{Stop}
use Rattle.cat_scope.specs.Runs.{Run, gives, and_then, choose, either}
use Rattle.cat_scope.specs.Projections.{truth}
use Rattle.cat_scope.specs.Lists.{mapped, filtered}
use Rattle.cat_scope.proofs.Exported.{and_then_and_then, and_then_same}
use Rattle.cat_code.specs.declared.instr.Instr.{Instr}
use Rattle.cat_code.specs.declared.instr.Instr.TheVariants as instr
use Rattle.cat_code.specs.declared.code.Tables.{Tables}
use Rattle.cat_code.specs.States.{State, Goes, push}
use Rattle.cat_code.specs.Machine.{act}
use Rattle.cat_code.specs.Runs.{Whole}
use Rattle.cat_lower.specs.Laying.{Ends, Coded, one, then_code, skip, end_of, loop}
use Rattle.cat_lower.specs.Stands.{Has}
use Rattle.cat_lower.proofs.Places.{first_of, second_of, rest_of}
use Rattle.cat_lower.proofs.Comes.{Comes, Leads, acted, goes_on, alike}
use Rattle.cat_lower.proofs.Stacks.{append_none}
use Rattle.cat_lower.proofs.Doing.{here, behind}

-- what comes of an element and of all in front, one element after the other
abbrev pub folded : {X : Type 0} → (Value → X → Run X) → List Value → X → Run X
folded step [] x = gives x
folded step (v ∷ vs) x = and_then (step v x) (folded step vs)

-- a list that grows by what comes of each element
abbrev pub adding_each : (Value → Run Value) → Value → List Value → Run (List Value)
adding_each of_each v done = and_then (of_each v) (λ w. gives (done ++ w ∷ []))

-- a list that grows by the elements that give true
abbrev pub adding_some : (Value → Run Value) → Value → List Value → Run (List Value)
adding_some of_each v done = and_then (of_each v) (λ t. choose t (gives (done ++ v ∷ [])) (gives done))

pub mapped_folds : (f : Value → Run Value) (vs done : List Value) (k : List Value → Whole)
    → and_then (mapped f vs) (λ ws. k (done ++ ws)) ≡ and_then (folded (adding_each f) vs done) k
mapped_folds f [] done k = ap k (append_none done)
mapped_folds f (v ∷ vs) done k =
    and_then_and_then (f v) _ _
    ∙ and_then_same (f v) _ _ (λ w. and_then_and_then (mapped f vs) _ _
    ∙ and_then_same (mapped f vs) _ _ (λ ws. ap k (sym (append_assoc done (w ∷ []) ws)))
    ∙ mapped_folds f vs (done ++ w ∷ []) k)
    ∙ sym (and_then_and_then (adding_each f v done) _ k ∙ and_then_and_then (f v) _ _)

-- one of two by a truth value, and then the rest
choose_then : {A B : Type 0} (t : Result Bool Stop) (a b : Run A) (k : A → Run B)
    → and_then (either t a b) k ≡ either t (and_then a k) (and_then b k)
choose_then (Ok true) a b k = refl
choose_then (Ok false) a b k = refl
choose_then (Err stop) a b k = refl

either_same : {A : Type 0} (t : Result Bool Stop) (a b c d : Run A) → a ≡ c → b ≡ d → either t a b ≡ either t c d
either_same t a b c d e f = rw (e, f) refl

pub filtered_folds : (f : Value → Run Value) (vs done : List Value) (k : List Value → Whole)
    → and_then (filtered f vs) (λ ws. k (done ++ ws)) ≡ and_then (folded (adding_some f) vs done) k
filtered_folds f [] done k = ap k (append_none done)
filtered_folds f (v ∷ vs) done k =
    and_then_and_then (f v) _ _
    ∙ and_then_same (f v) _ _ (λ t. choose_then (truth t) _ _ _
    ∙ either_same (truth t) _ _ _ _
    (and_then_and_then (filtered f vs) _ _
    ∙ and_then_same (filtered f vs) _ _ (λ ws. ap k (sym (append_assoc done (v ∷ []) ws)))
    ∙ filtered_folds f vs (done ++ v ∷ []) k)
    (filtered_folds f vs done k)
    ∙ sym (choose_then (truth t) (gives (done ++ v ∷ [])) (gives done) (λ x. and_then (folded (adding_some f) vs x) k)))
    ∙ sym (and_then_and_then (adding_some f v done) _ k ∙ and_then_and_then (f v) _ _)

module _ (tables : Tables) (code : List Instr) where
  module _ {X : Type 0} (step : Value → X → Run X) (body : Coded) (locals : List Value) (s : State)
      (inside : X → List Value → State) (after : X → State)
      -- at the end of the loop, and at an element
      (ends_so : (x : X) (p t : ℕ)
      → act tables (instr.Next t) (here p locals (inside x [])) ≡ Goes [] (here t locals (after x)))
      (goes_so : (x : X) (v : Value) (vs : List Value) (p t : ℕ)
      → act tables (instr.Next t) (here p locals (inside x (v ∷ vs)))
      ≡ Goes [] (here (p + 1) locals (push v (inside x vs))))
      -- the body does a step
      (does : (x : X) (v : Value) (vs : List Value) (ends : Ends) → Has tables code ends (body ends) → (k : X → Whole)
      → ((y : X) → Comes tables code (here (end_of body ends).place locals (inside y vs)) (k y))
      → Comes tables code (here ends.place locals (push v (inside x vs))) (and_then (step v x) k)) where
    pub does_loop : (left : List Value) (x : X) (ends : Ends) → Has tables code ends (loop body ends) → (k : X → Whole)
        → ((y : X) → Comes tables code (here (end_of (loop body) ends).place locals (after y)) (k y))
        → Comes tables code (here ends.place locals (inside x left)) (and_then (folded step left x) k)
    does_loop [] x ends has k next =
        let back : Coded = one (instr.Jump ends.place) in
        let done = behind tables code [] body back (skip ends) locals after k next in
        acted tables code _ (instr.Next (skip (end_of body (skip ends))).place) _ has.instructions.0
        (subst (λ z. Leads tables code z (k x)) (sym (ends_so x _ _)) (goes_on tables code _ _ (done x)))
    does_loop (v ∷ vs) x ends has k next =
        let back : Coded = one (instr.Jump ends.place) in
        let end = (skip (end_of body (skip ends))).place in
        let inner = rest_of tables code (instr.Next end) (then_code body back) ends has in
        alike tables code _ _ _ (and_then_and_then (step v x) _ k)
        (acted tables code _ (instr.Next end) _ has.instructions.0
        (subst (λ z. Leads tables code z (and_then (step v x) (λ y. and_then (folded step vs y) k)))
        (sym (goes_so x v vs _ _))
        (goes_on tables code _ _
        (does x v vs (skip ends) (first_of tables code body back (skip ends) inner) _
        (λ y. acted tables code _ (instr.Jump ends.place) _
        (second_of tables code body back (skip ends) inner).instructions.0
        (goes_on tables code _ _ (does_loop vs y ends has k next)))))))
