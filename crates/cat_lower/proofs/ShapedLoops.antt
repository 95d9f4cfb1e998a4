-- The places of the forms of expression that go over lists.
use Rattle.std.proofs.Common.{◌≡◌, ◌≤◌, ℕ, ◌+◌, ◌-◌, nat_le, Bool, true, false, IsTrue, List, [], ◌∷◌}
use Rattle.std.proofs.Common.{◌++◌, length, take, Option, Some, None, slice_get, refl, ap, ◌∙◌, arith}
use Rattle.std.proofs.lemmas.Bool.Decides.{nat_tests}
use Rattle.cat_pos.specs.declared.pos.Pos.{Pos}
use Rattle.cat_value.specs.declared.ty.Ty.{Ty}
use Rattle.cat_value.specs.declared.ty.Ty.TheViews as ty
use Rattle.cat_value.specs.declared.value.Value.TheViews as value
use Rattle.cat_value.specs.Typing.{has_type}
use Rattle.cat_scope.specs.declared.operators.SumKind.{SumKind}
use Rattle.cat_scope.specs.Signatures.{summed_type}
use Rattle.cat_scope.specs.Lists.{zero_of, adding}
use Rattle.cat_sound.specs.LowTypes.{IsLow}
use Rattle.cat_code.specs.declared.instr.Instr.{Instr}
use Rattle.cat_code.specs.declared.instr.Instr.TheVariants as instr
use Rattle.cat_code.specs.declared.code.Constant.{Constant}
use Rattle.cat_code.specs.declared.code.Tables.{Tables}
use Rattle.cat_code.specs.OperationNumbers.{number_between}
use Rattle.cat_code.specs.Forms.{Form, Truth, Many}
use Rattle.cat_code.specs.Shapes.{Owner, Shape}
use Rattle.cat_code.specs.Leads.{leads}
use Rattle.cat_code.specs.Told.{constant_form}
use Rattle.cat_code.specs.Flow.{flow}
use Rattle.cat_code.specs.Valid.{is_empty_list, is_empty_constant}
use Rattle.cat_code.proofs.FormLaws.{same_self}
use Rattle.cat_lower.specs.Laying.{Coded, one, then_code, led, over, loop}
use Rattle.cat_lower.specs.Pieces.{constant, operator, of_local, search_for, any_turn, all_turn}
use Rattle.cat_lower.specs.Expressions.{collecting}
use Rattle.cat_lower.proofs.Stacks.{length_append}
use Rattle.cat_code.proofs.MeetingLaws.{meets_same}
use Rattle.cat_lower.proofs.Spots.{IsConstant}
use Rattle.cat_lower.proofs.Sketches.{Takes, takes_one, takes_then, takes_over, sketch_on, is_jump_false}
use Rattle.cat_lower.proofs.SketchedLoops.{takes_loop, takes_search, turns_any, turns_all, any_sizes, all_sizes}
use Rattle.cat_lower.proofs.FormLaws.{form_List, adding_result}
use Rattle.cat_lower.proofs.ShapedForms.{Deep, more, Stands, at, Gives, gives_constant, gives_truth}
use Rattle.cat_lower.proofs.ShapedForms.{constant_told, takes_between, form as form_by, zero_rounded}

-- inside a loop
abbrev pub in_loop : Form → Option Form → ℕ → Deep → Deep
in_loop t c p d = record d {
  loops = record {
    begun = p;
    element = t;
    collected = c;
    frames = length d.defaults;
    pending = length d.pending;
  } ∷ d.loops;
}

take_front : {A : Type 0} (xs ys : List A) → take (length xs) (xs ++ ys) ≡ xs
take_front [] ys = refl
take_front (x ∷ xs) ys = ap (λ l. x ∷ l) (take_front xs ys)

pub at_back : {A : Type 0} (xs ys : List A) (x : A) (k : ℕ) → k ≡ length xs → slice_get (xs ++ x ∷ ys) k ≡ Some x
at_back {A = A} xs ys x k is = ap (λ n. slice_get (xs ++ x ∷ ys) n) is ∙ by xs
  where
    by : (xs : List A) → slice_get (xs ++ x ∷ ys) (length xs) ≡ Some x
    by [] = refl
    by (y ∷ xs) = by xs

less_back : (a n : ℕ) → (a + n) - n ≡ a
less_back a n = omega arith

is_below : (a n : ℕ) → nat_le n (a + n) ≡ true
is_below a n = grind (arith, nat_tests)

pub self_below : (n : ℕ) → n ≤ n
self_below n = omega arith

module _ (tables : Tables) (code : List Instr) (Calls : Owner → Owner → Type 0) (entry : ℕ → Shape) (owner : Owner)
    (filled : List Bool) where
  abbrev G : Coded → List Form → Form → Type 0
  G a ls t = Gives tables code Calls entry owner filled a ls t

  abbrev A : List Form → Deep → Shape
  A ls d = at tables code Calls entry owner filled ls d

  abbrev T : Coded → Shape → Shape → Type 0
  T a s t = Takes tables code Calls entry a s t

  abbrev F : Ty → Form
  F t = form_by tables code Calls entry owner filled t

  -- a value becomes a local name
  pub takes_bind : (ls : List Form) (t : Form) (d : Deep) → T (one instr.Bind) (A ls (more t d)) (A (ls ++ t ∷ []) d)
  takes_bind ls t d =
      takes_one tables code Calls entry instr.Bind (A ls (more t d)) (A (ls ++ t ∷ []) d) (λ p. refl)
      (λ all p. (tt, (refl, (tt, tt))))

  -- the last local names go
  pub takes_drop : (ls ts : List Form) (n : ℕ) (d : Deep) → length ts ≡ n
      → T (one (instr.Drop n)) (A (ls ++ ts) d) (A ls d)
  takes_drop ls ts n d is =
      takes_one tables code Calls entry (instr.Drop n) (A (ls ++ ts) d) (A ls d) (λ p. by p)
      (λ all p. (tt, (refl, (tt, tt))))
    where
      long : length (ls ++ ts) ≡ length ls + n
      long = length_append ls ts ∙ ap (λ m. length ls + m) is

      by : (p : ℕ) → flow tables code (instr.Drop n) p (A (ls ++ ts) d) ≡ leads (p + 1) (A ls d)
      by p = rw (long, is_below (length ls) n, less_back (length ls) n, take_front ls ts) refl

  -- under a local name
  pub takes_under : (a : Coded) (ls : List Form) (t u : Form) (d : Deep) → Stands d.loops d.pending
      → G a (ls ++ t ∷ []) u
      → T (led instr.Bind (then_code a (one (instr.Drop 1)))) (A ls (more t d)) (A ls (more u d))
  takes_under a ls t u d stands given =
      takes_then tables code Calls entry (one instr.Bind) (then_code a (one (instr.Drop 1))) (A ls (more t d))
      (A (ls ++ t ∷ []) d) (A ls (more u d))
      (takes_bind ls t d)
      (takes_then tables code Calls entry a (one (instr.Drop 1)) (A (ls ++ t ∷ []) d) (A (ls ++ t ∷ []) (more u d))
      (A ls (more u d)) (given d stands)
      (takes_drop ls (t ∷ []) 1 (more u d) refl))

  -- a loop that collects nothing
  pub takes_iter : (body : Coded) (ls : List Form) (t : Form) (d : Deep)
      → ((p : ℕ) → T body (A ls (more t (in_loop t None p d))) (A ls (in_loop t None p d)))
      → T (led instr.Iter (loop body)) (A ls (more (Many t) d)) (A ls d)
  takes_iter body ls t d turns =
      takes_loop tables code Calls entry (λ ends. instr.Iter) (λ ends. []) body t None (A ls d)
      (λ ends has. sketch_on tables code Calls entry ends instr.Iter [] [] (A ls (more (Many t) d))
      (A ls (in_loop t None ends.place d)) refl tt
      (λ all. (tt, (refl, (tt, tt))))) (λ ends. refl) turns

  abbrev list_of : Ty → Constant
  list_of u = record { ty = ty.List u; value = value.List [] }

  -- a loop that collects values of a type
  takes_collecting : (body : Coded) (u : Ty) (ls : List Form) (t : Form) (d : Deep) → IsLow tables.decls (ty.List u)
      → IsTrue (has_type tables.decls (value.List []) (ty.List u))
      → ((p : ℕ) → T body (A ls (more t (in_loop t (Some (F u)) p d))) (A ls (in_loop t (Some (F u)) p d)))
      → T (then_code (collecting u) (loop body)) (A ls (more (Many t) d)) (A ls (more (Many (F u)) d))
  takes_collecting body u ls t d low typed turns =
      takes_loop tables code Calls entry (λ ends. instr.IterList ends.constants) (λ ends. list_of u ∷ []) body t
      (Some (F u)) (A ls d)
      (λ ends has. sketch_on tables code Calls entry ends (instr.IterList ends.constants) (list_of u ∷ []) []
      (A ls (more (Many t) d))
      (A ls (in_loop t (Some (F u)) ends.place d))
      (by ends.constants ends.place
      (constant_told tables ends.constants (list_of u) has.constants.0
      ∙ ap (λ (f : Form). Some f) (form_List tables.decls u low)))
      ((low, typed), tt) (λ all.
      (tt, (ap is_empty_constant has.constants.0 ∙ ap is_empty_list (value.outs-List []), (tt, tt)))))
      (λ ends. refl) turns
    where
      by : (k p : ℕ) → constant_form tables k ≡ Some (Many (F u))
          → flow tables code (instr.IterList k) p (A ls (more (Many t) d))
          ≡ leads (p + 1) (A ls (in_loop t (Some (F u)) p d))
      by k p is = rw is refl

  takes_collect : (ls : List Form) (t u : Form) (p : ℕ) (d : Deep)
      → T (one instr.Collect) (A ls (more u (in_loop t (Some u) p d))) (A ls (in_loop t (Some u) p d))
  takes_collect ls t u p d =
      takes_one tables code Calls entry instr.Collect (A ls (more u (in_loop t (Some u) p d)))
      (A ls (in_loop t (Some u) p d))
      (λ q. let same = same_self u in rw same refl) (λ all q. (tt, (refl, (tt, tt))))

  pub gives_map : (l e : Coded) (u : Ty) (ls : List Form) (t : Form) → IsLow tables.decls (ty.List u)
      → IsTrue (has_type tables.decls (value.List []) (ty.List u)) → G l ls (Many t) → G e (ls ++ t ∷ []) (F u)
      → G (then_code l (then_code (collecting u)
      (loop (led instr.Bind (then_code e (led instr.Collect (one (instr.Drop 1)))))))) ls (Many (F u))
  gives_map l e u ls t low typed gl ge d stands =
      takes_then tables code Calls entry l _ (A ls d) (A ls (more (Many t) d)) (A ls (more (Many (F u)) d))
      (gl d stands)
      (takes_collecting _ u ls t d low typed
      (λ p.
      let i = in_loop t (Some (F u)) p d in
      takes_then tables code Calls entry (one instr.Bind) (then_code e (led instr.Collect (one (instr.Drop 1))))
      (A ls (more t i)) (A (ls ++ t ∷ []) i) (A ls i) (takes_bind ls t i)
      (takes_then tables code Calls entry e (led instr.Collect (one (instr.Drop 1))) (A (ls ++ t ∷ []) i)
      (A (ls ++ t ∷ []) (more (F u) i)) (A ls i)
      (ge i (self_below (length d.pending)))
      (takes_then tables code Calls entry (one instr.Collect) (one (instr.Drop 1)) (A (ls ++ t ∷ []) (more (F u) i))
      (A (ls ++ t ∷ []) i) (A ls i)
      (takes_collect (ls ++ t ∷ []) t (F u) p d) (takes_drop ls (t ∷ []) 1 i refl)))))

  pub gives_filter : (l test : Coded) (u : Ty) (n : ℕ) (ls : List Form) → n ≡ length ls → IsLow tables.decls (ty.List u)
      → IsTrue (has_type tables.decls (value.List []) (ty.List u)) → G l ls (Many (F u)) → G test (ls ++ F u ∷ []) Truth
      → G (then_code l (then_code (collecting u) (loop (led instr.Bind (then_code test
      (then_code (over (λ t. instr.JumpFalse t) (led (instr.Local n) (one instr.Collect))) (one (instr.Drop 1)))))))) ls
      (Many (F u))
  gives_filter l test u n ls is low typed gl gt d stands =
      takes_then tables code Calls entry l _ (A ls d) (A ls (more (Many (F u)) d)) (A ls (more (Many (F u)) d))
      (gl d stands)
      (takes_collecting _ u ls (F u) d low typed
      (λ p.
      let i = in_loop (F u) (Some (F u)) p d in
      let kept : Coded = led (instr.Local n) (one instr.Collect) in
      let taken : Coded = over (λ t. instr.JumpFalse t) kept in
      let deeper = ls ++ F u ∷ [] in
      takes_then tables code Calls entry (one instr.Bind) (then_code test (then_code taken (one (instr.Drop 1))))
      (A ls (more (F u) i)) (A deeper i) (A ls i) (takes_bind ls (F u) i)
      (takes_then tables code Calls entry test (then_code taken (one (instr.Drop 1))) (A deeper i)
      (A deeper (more Truth i)) (A ls i)
      (gt i (self_below (length d.pending)))
      (takes_then tables code Calls entry taken (one (instr.Drop 1)) (A deeper (more Truth i)) (A deeper i) (A ls i)
      (takes_over tables code Calls entry (λ t. instr.JumpFalse t) kept (A deeper (more Truth i)) (A deeper i)
      (A deeper i) (A deeper i)
      (is_jump_false tables code Calls entry) (λ p q there. refl) (meets_same (A deeper i))
      (takes_then tables code Calls entry (one (instr.Local n)) (one instr.Collect) (A deeper i)
      (A deeper (more (F u) i)) (A deeper i)
      (takes_one tables code Calls entry (instr.Local n) (A deeper i) (A deeper (more (F u) i))
      (λ p. let there = at_back ls [] (F u) n is in rw there refl) (λ all p. (tt, (refl, (tt, tt)))))
      (takes_collect deeper (F u) (F u) p d)))
      (takes_drop ls (F u ∷ []) 1 i refl)))))

  pub gives_sum : (l : Coded) (k : SumKind) (q : Pos) (ls : List Form)
      → IsConstant tables (record { ty = summed_type k; value = zero_of k })
      → G l ls (Many (F (summed_type k)))
      → G (then_code (constant (summed_type k) (zero_of k))
      (then_code l (led instr.Iter (loop (operator (number_between (adding k)) 0 q)))))
      ls (F (summed_type k))
  gives_sum l k q ls zero gl d stands =
      let t = F (summed_type k) in
      takes_then tables code Calls entry (constant (summed_type k) (zero_of k)) _ (A ls d) (A ls (more t d))
      (A ls (more t d))
      (gives_constant tables code Calls entry owner filled (summed_type k) (zero_of k) t ls zero refl d stands)
      (takes_then tables code Calls entry l _ (A ls (more t d)) (A ls (more (Many t) (more t d))) (A ls (more t d))
      (gl (more t d) stands)
      (takes_iter (operator (number_between (adding k)) 0 q) ls t (more t d)
      (λ p. takes_between tables code Calls entry owner filled (adding k) 0 q t t t (summed_type k) ls
      (in_loop t None p d) zero_rounded
      (adding_result F k) refl)))

  pub gives_all : (l test : Coded) (t : Form) (ls : List Form) → G l ls (Many t) → G test (ls ++ t ∷ []) Truth
      → G (then_code l (led instr.Iter (search_for (all_turn (of_local test)) true))) ls Truth
  gives_all l test t ls gl gt d stands =
      takes_then tables code Calls entry l _ (A ls d) (A ls (more (Many t) d)) (A ls (more Truth d)) (gl d stands)
      (takes_search tables code Calls entry (all_turn (of_local test)) true t (A ls d)
      (all_sizes tables code Calls entry (of_local test))
      (turns_all tables code Calls entry (of_local test) t (A ls d)
      (λ p. takes_under test ls t Truth (in_loop t None p d) (self_below (length d.pending)) gt)
      (gives_truth tables code Calls entry owner filled false ls d stands))
      (gives_truth tables code Calls entry owner filled true ls d stands))

  pub gives_any : (l test : Coded) (t : Form) (ls : List Form) → G l ls (Many t) → G test (ls ++ t ∷ []) Truth
      → G (then_code l (led instr.Iter (search_for (any_turn (of_local test)) false))) ls Truth
  gives_any l test t ls gl gt d stands =
      takes_then tables code Calls entry l _ (A ls d) (A ls (more (Many t) d)) (A ls (more Truth d)) (gl d stands)
      (takes_search tables code Calls entry (any_turn (of_local test)) false t (A ls d)
      (any_sizes tables code Calls entry (of_local test))
      (turns_any tables code Calls entry (of_local test) t (A ls d)
      (λ p. takes_under test ls t Truth (in_loop t None p d) (self_below (length d.pending)) gt)
      (gives_truth tables code Calls entry owner filled true ls d stands))
      (gives_truth tables code Calls entry owner filled false ls d stands))
