-- The places of `combine` and of `contains`.
use Rattle.std.proofs.Common.{◌≡◌, ℕ, ◌+◌, Bool, true, false, List, [], ◌∷◌, ◌++◌, length, Some, None}
use Rattle.std.proofs.Common.{slice_get, refl, sym, ap, ◌∙◌, subst, append_assoc}
use Rattle.cat_pos.specs.declared.pos.Pos.{Pos}
use Rattle.cat_value.specs.declared.ty.Ty.{Ty}
use Rattle.cat_value.specs.declared.ty.Ty.TheVariants as flat
use Rattle.cat_scope.specs.declared.operators.BinaryOp.TheVariants.{Equal}
use Rattle.cat_scope.specs.Names.{IsOneOf}
use Rattle.cat_scope.specs.Signatures.{compared_types}
use Rattle.cat_code.specs.declared.instr.Instr.{Instr}
use Rattle.cat_code.specs.declared.instr.Instr.TheVariants as instr
use Rattle.cat_code.specs.declared.code.Tables.{Tables}
use Rattle.cat_code.specs.OperationNumbers.{number_between}
use Rattle.cat_code.specs.Forms.{Form, Truth, Many}
use Rattle.cat_code.specs.Shapes.{Owner, Shape}
use Rattle.cat_code.proofs.FormLaws.{form_Boolean}
use Rattle.cat_lower.specs.Laying.{Coded, one, then_code, led, loop}
use Rattle.cat_lower.specs.Pieces.{operator, search_for, any_turn}
use Rattle.cat_lower.proofs.Stacks.{length_append}
use Rattle.cat_lower.proofs.Sketches.{Takes, takes_one, takes_then}
use Rattle.cat_lower.proofs.SketchedLoops.{takes_search, turns_any, any_sizes}
use Rattle.cat_lower.proofs.FormLaws.{compared_result}
use Rattle.cat_lower.proofs.ShapedForms.{Deep, more, at, Gives, gives_truth, takes_between, zero_rounded}
use Rattle.cat_lower.proofs.ShapedForms.{form as form_by}
use Rattle.cat_lower.proofs.ShapedLoops.{in_loop, takes_bind, takes_drop, takes_iter, at_back, self_below}

module _ (tables : Tables) (code : List Instr) (Calls : Owner → Owner → Type 0) (entry : ℕ → Shape) (owner : Owner)
    (filled : List Bool) where
  abbrev G : Coded → List Form → Form → Type 0
  G a ls t = Gives tables code Calls entry owner filled a ls t

  abbrev A : List Form → Deep → Shape
  A ls d = at tables code Calls entry owner filled ls d

  abbrev T : Coded → Shape → Shape → Type 0
  T a s t = Takes tables code Calls entry a s t

  abbrev F : Ty → Form
  F t = form_by tables code Calls entry owner filled t

  takes_local : (k : ℕ) (t : Form) (ls : List Form) (d : Deep) → slice_get ls k ≡ Some t
      → T (one (instr.Local k)) (A ls d) (A ls (more t d))
  takes_local k t ls d is =
      takes_one tables code Calls entry (instr.Local k) (A ls d) (A ls (more t d)) (λ p. rw is refl)
      (λ all p. (tt, (refl, (tt, tt))))

  -- two values become local names
  takes_bind_two : (ls : List Form) (t u : Form) (d : Deep)
      → T (one instr.Bind) (A (ls ++ t ∷ []) (more u d)) (A (ls ++ t ∷ u ∷ []) d)
  takes_bind_two ls t u d =
      subst (λ (l : List Form). T (one instr.Bind) (A (ls ++ t ∷ []) (more u d)) (A l d))
      (append_assoc ls (t ∷ []) (u ∷ []))
      (takes_bind tables code Calls entry owner filled (ls ++ t ∷ []) u d)

  pub gives_combine : (l start e : Coded) (n : ℕ) (ls : List Form) (t u : Form) → n ≡ length ls → G l ls (Many t)
      → G start ls u
      → G e (ls ++ t ∷ u ∷ []) u
      → G (then_code l (then_code start
      (led instr.Bind (led instr.Bind (led (instr.Local n) (led (instr.Local (n + 1)) (led (instr.Drop 2)
      (led instr.Iter (loop (led instr.Bind (led instr.Bind (then_code e (one (instr.Drop 2)))))))))))))) ls u
  gives_combine l start e n ls t u is gl gs ge d stands =
      let L = ls ++ u ∷ Many t ∷ [] in
      let last = A ls (more u d) in
      takes_then tables code Calls entry l _ (A ls d) (A ls (more (Many t) d)) last (gl d stands)
      (takes_then tables code Calls entry start _ (A ls (more (Many t) d)) (A ls (more u (more (Many t) d))) last
      (gs (more (Many t) d) stands)
      (takes_then tables code Calls entry (one instr.Bind) _ (A ls (more u (more (Many t) d)))
      (A (ls ++ u ∷ []) (more (Many t) d)) last
      (takes_bind tables code Calls entry owner filled ls u (more (Many t) d))
      (takes_then tables code Calls entry (one instr.Bind) _ (A (ls ++ u ∷ []) (more (Many t) d)) (A L d) last
      (takes_bind_two ls u (Many t) d)
      (takes_then tables code Calls entry (one (instr.Local n)) _ (A L d) (A L (more u d)) last
      (takes_local n u L d (at_back ls (Many t ∷ []) u n is))
      (takes_then tables code Calls entry (one (instr.Local (n + 1))) _ (A L (more u d))
      (A L (more (Many t) (more u d))) last
      (takes_local (n + 1) (Many t) L (more u d)
      (ap (λ (l : List Form). slice_get l (n + 1)) (sym (append_assoc ls (u ∷ []) (Many t ∷ [])))
      ∙ at_back (ls ++ u ∷ []) [] (Many t) (n + 1) (ap (λ m. m + 1) is ∙ sym (length_append ls (u ∷ [])))))
      (takes_then tables code Calls entry (one (instr.Drop 2)) _ (A L (more (Many t) (more u d)))
      (A ls (more (Many t) (more u d))) last
      (takes_drop tables code Calls entry owner filled ls (u ∷ Many t ∷ []) 2 (more (Many t) (more u d)) refl)
      (takes_iter tables code Calls entry owner filled
      (led instr.Bind (led instr.Bind (then_code e (one (instr.Drop 2))))) ls t (more u d)
      (λ p.
      let i = in_loop t None p d in
      takes_then tables code Calls entry (one instr.Bind) (led instr.Bind (then_code e (one (instr.Drop 2))))
      (A ls (more t (more u i))) (A (ls ++ t ∷ []) (more u i)) (A ls (more u i))
      (takes_bind tables code Calls entry owner filled ls t (more u i))
      (takes_then tables code Calls entry (one instr.Bind) (then_code e (one (instr.Drop 2)))
      (A (ls ++ t ∷ []) (more u i)) (A (ls ++ t ∷ u ∷ []) i)
      (A ls (more u i)) (takes_bind_two ls t u i)
      (takes_then tables code Calls entry e (one (instr.Drop 2)) (A (ls ++ t ∷ u ∷ []) i)
      (A (ls ++ t ∷ u ∷ []) (more u i)) (A ls (more u i))
      (ge i (self_below (length d.pending)))
      (takes_drop tables code Calls entry owner filled ls (t ∷ u ∷ []) 2 (more u i) refl)))))))))))

  pub gives_contains : (l e : Coded) (n : ℕ) (q : Pos) (ls : List Form) (t : Ty) → n ≡ length ls
      → IsOneOf t compared_types
      → G l ls (Many (F t)) → G e ls (F t)
      → G (then_code l (then_code e (led instr.Bind (led instr.Iter (then_code
      (search_for (any_turn (led (instr.Local n) (operator (number_between Equal) 0 q))) false)
      (one (instr.Drop 1))))))) ls Truth
  gives_contains l e n q ls t is compared gl ge d stands =
      let u = F t in
      let L = ls ++ u ∷ [] in
      let last = A ls (more Truth d) in
      let test : Coded = led (instr.Local n) (operator (number_between Equal) 0 q) in
      let search : Coded = led instr.Iter (search_for (any_turn test) false) in
      let found : T search (A L (more (Many u) d)) (A L (more Truth d))
      = takes_search tables code Calls entry (any_turn test) false u (A L d) (any_sizes tables code Calls entry test)
      (turns_any tables code Calls entry test u (A L d)
      (λ p.
      let i = in_loop u None p d in
      takes_then tables code Calls entry (one (instr.Local n)) (operator (number_between Equal) 0 q) (A L (more u i))
      (A L (more u (more u i))) (A L (more Truth i))
      (takes_local n u L (more u i) (at_back ls [] u n is))
      (takes_between tables code Calls entry owner filled Equal 0 q u u Truth flat.Boolean L i zero_rounded
      (compared_result F compared_types t compared)
      (form_Boolean tables.decls)))
      (gives_truth tables code Calls entry owner filled true L d stands))
      (gives_truth tables code Calls entry owner filled false L d stands) in
      takes_then tables code Calls entry l _ (A ls d) (A ls (more (Many u) d)) last (gl d stands)
      (takes_then tables code Calls entry e _ (A ls (more (Many u) d)) (A ls (more u (more (Many u) d))) last
      (ge (more (Many u) d) stands)
      (takes_then tables code Calls entry (one instr.Bind) (then_code search (one (instr.Drop 1)))
      (A ls (more u (more (Many u) d))) (A L (more (Many u) d)) last
      (takes_bind tables code Calls entry owner filled ls u (more (Many u) d))
      (takes_then tables code Calls entry search (one (instr.Drop 1)) (A L (more (Many u) d))
      (A L (more Truth d)) last found
      (takes_drop tables code Calls entry owner filled ls (u ∷ []) 1 (more Truth d) refl))))
