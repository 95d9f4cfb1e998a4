-- Loops finish where they flow.
use Rattle.std.proofs.Common.{◌≡◌, ℕ, suc, ◌+◌, nat_eq, List, [], ◌∷◌, length, Option, Some, None}
use Rattle.std.proofs.Common.{refl, sym, ap, ◌∙◌, subst}
use Rattle.cat_value.specs.declared.value.Value.{Value}
use Rattle.cat_value.specs.declared.value.Value.TheViews as value
use Rattle.cat_scope.specs.Projections as read
use Rattle.cat_code.specs.declared.instr.Instr.{Instr}
use Rattle.cat_code.specs.declared.instr.Instr.TheVariants as instr
use Rattle.cat_code.specs.States.{State, Loop, on, to, push}
use Rattle.cat_code.specs.Moves as move
use Rattle.cat_code.specs.Machine.{act}
use Rattle.cat_code.specs.Forms.{Form}
use Rattle.cat_code.specs.Forms as forms
use Rattle.cat_code.specs.Shapes.{LoopShape, Shape}
use Rattle.cat_code.specs.Leads.{Flow, leads, leads_two, where_so, pushed, begins, loop_ended}
use Rattle.cat_code.specs.Leads as lead
use Rattle.cat_code.specs.Told.{collected_by, constant_form}
use Rattle.cat_code.specs.Flow.{flow}
use Rattle.cat_code_sound.proofs.ValueKinds.{IsOf, AreAll, reads_many, of_many}
use Rattle.cat_code_sound.proofs.ValueKinds as kinds
use Rattle.cat_code_sound.proofs.Fitting.{OnTop, CollectedFits, LoopFits, Setting, Fits, lefts, unbound, loops_fit}
use Rattle.cat_code_sound.proofs.Fitting.{unbound_fits, pushed_fits}
use Rattle.cat_code_sound.proofs.Stepping.{Finishes, GoesOn, Fine, fine_where, fine_one, fine_two, fine_top}
use Rattle.cat_code_sound.proofs.Stepping.{fine_elements, finish_on, finish_to, finish_push, finish_ok, finish_pop}
use Rattle.cat_code_sound.proofs.Stepping.{finish_over}
use Rattle.cat_code_sound.proofs.SoundSlots.{Sound}

module _ (here : Setting) (code : List Instr) (Good : State → Type 0) where
  -- a loop that begins at a place stands in those that are there, with any number of elements left
  abbrev pub Begins : ℕ → List LoopShape → List ℕ → Type 0
  Begins p ls turns = (l : LoopShape) → l.begun ≡ p → (n : ℕ) → here.Around (l ∷ ls) (n ∷ turns)

  begins_finishes : (i : Instr) (turns : List ℕ) (shape : Shape) (s : State) (u : Form) (v : Value) (c : Option Form)
      (m : Option (List Value)) → Fits here turns shape s → IsOf here.tables.decls (forms.Many u) v
      → CollectedFits here.tables.decls c m → Begins s.place shape.loops turns
      → Fine here Good i s.place (begins s.place u c shape) → Finishes Good (move.starts m v s)
  begins_finishes i turns shape s u v c m fits is collects begun fine =
      let vs = reads_many here.tables.decls u v is in
      let l : LoopShape = record {
        begun = s.place;
        element = u;
        collected = c;
        frames = length shape.defaults;
        pending = length shape.pending;
      } in
      let loop : Loop = record { left = vs.0; collected = m } in
      finish_ok here Good i s.place (read.elements v) vs.0
      (λ (xs : List Value). on (record s { loops = record { left = xs; collected = m } ∷ s.loops })) vs.1
      (finish_on here Good i s.place (length vs.0 ∷ turns) (record shape { loops = l ∷ shape.loops })
      (record s { loops = loop ∷ s.loops }) refl
      (loops_fit here turns shape s (length vs.0 ∷ turns) (l ∷ shape.loops) (loop ∷ s.loops)
      (unbound_fits here turns shape s fits)
      (record { left = vs.2; collected = collects }, fits.loops) (ap (λ (ns : List ℕ). length vs.0 ∷ ns) fits.turns_are)
      (begun l refl (length vs.0)))
      (fine_one here Good i s.place (s.place + 1) (record shape { loops = l ∷ shape.loops }) fine))

  pub sound_iter : (turns : List ℕ) (shape : Shape) (s : State) → Begins s.place shape.loops turns
      → Fits here turns shape s
      → Fine here Good instr.Iter s.place (flow here.tables code instr.Iter s.place shape)
      → Finishes Good (act here.tables instr.Iter s)
  sound_iter turns shape s begun fits fine =
      finish_pop here Good instr.Iter s.place turns shape s (λ t r. lead.elements_of t (λ u. begins s.place u None r))
      (λ v r. move.starts None v r) fits fine
      (λ t ts v vs is left f.
      let u =
      fine_elements here Good instr.Iter s.place t
      (λ u. begins s.place u None (record shape { operands = ts })) f in
      begins_finishes instr.Iter turns (record shape { operands = ts })
      (record s { operands = vs }) u.0 v None None left
      (subst (λ (k : Form). IsOf here.tables.decls k v) u.1 is) tt begun u.2)

  fine_collected : (i : Instr) (p : ℕ) (o : Option Form) (go : Form → Flow) → Fine here Good i p (collected_by o go)
      → (t : Form) × Fine here Good i p (lead.elements_of t go)
  fine_collected i p None go f = absurd (cc f.is)
  fine_collected i p (Some t) go f = (t, f)

  pub sound_iter_list : (k : ℕ) (turns : List ℕ) (shape : Shape) (s : State) → Begins s.place shape.loops turns
      → Fits here turns shape s
      → Fine here Good (instr.IterList k) s.place (flow here.tables code (instr.IterList k) s.place shape)
      → Finishes Good (act here.tables (instr.IterList k) s)
  sound_iter_list k turns shape s begun fits fine =
      let i : Instr = instr.IterList k in
      finish_pop here Good i s.place turns shape s
      (λ t r. lead.elements_of t (λ u. collected_by (constant_form here.tables k) (λ c. begins s.place u (Some c) r)))
      (λ v r. move.starts (Some []) v r) fits fine
      (λ t ts v vs is left f.
      let u = fine_elements here Good i s.place t
      (λ u. collected_by (constant_form here.tables k)
      (λ c. begins s.place u (Some c) (record shape { operands = ts }))) f in
      let list =
      fine_collected i s.place (constant_form here.tables k)
      (λ c. begins s.place u.0 (Some c) (record shape { operands = ts })) u.2 in
      let c =
      fine_elements here Good i s.place list.0
      (λ c. begins s.place u.0 (Some c) (record shape { operands = ts })) list.1 in
      begins_finishes i turns (record shape { operands = ts }) (record s { operands = vs }) u.0 v (Some c.0)
      (Some []) left
      (subst (λ (k : Form). IsOf here.tables.decls k v) u.1 is) kinds.no_more begun c.2)

  -- what a loop leaves behind where nothing is left in it
  ended_finishes : (t : ℕ) (turns : List ℕ) (shape : Shape) (s : State) (c : Option Form) (m : Option (List Value))
      → CollectedFits here.tables.decls c m → Fits here turns shape s → (p : ℕ)
      → GoesOn here Good (instr.Next t) p (t, loop_ended c shape) → Finishes Good (to t (move.with_collected m s))
  ended_finishes t turns shape s None None collects fits p go =
      finish_to here Good (instr.Next t) p turns shape s t refl fits go
  ended_finishes t turns shape s None (Some vs) collects fits p go = absurd collects
  ended_finishes t turns shape s (Some u) None collects fits p go = absurd collects
  ended_finishes t turns shape s (Some u) (Some vs) collects fits p go =
      finish_to here Good (instr.Next t) p turns (pushed (forms.Many u) shape) (push (value.List vs) s) t refl
      (pushed_fits here turns shape s (forms.Many u) (value.List vs) fits (of_many here.tables.decls u vs collects)) go

  -- where the loops outside are known with what is left in them, and this one with one element less
  pub next_finishes : (t n : ℕ) (ns : List ℕ) (l : LoopShape) (ls : List LoopShape) (shape : Shape) (s : State)
      → shape.loops ≡ l ∷ ls → here.Around ls ns → ((m : ℕ) → n ≡ suc m → here.Around (l ∷ ls) (m ∷ ns))
      → Fits (unbound here) (n ∷ ns) shape s
      → Fine here Good (instr.Next t) s.place (flow here.tables code (instr.Next t) s.place shape)
      → Finishes Good (act here.tables (instr.Next t) s)
  next_finishes t n ns l ls shape s in_loop outside again fits fine =
      let i : Instr = instr.Next t in
      let x = fine_top here Good i s.place shape.loops
      (λ (l : LoopShape) (ls : List LoopShape). where_so (nat_eq (l.begun + 1) s.place)
      (leads_two (s.place + 1) (pushed l.element shape) t (loop_ended l.collected (record shape { loops = ls }))))
      fine in
      let w = fine_where here Good i s.place (nat_eq (x.0.begun + 1) s.place)
      (leads_two (s.place + 1) (pushed x.0.element shape) t (loop_ended x.0.collected (record shape { loops = x.1 })))
      x.3 in
      let two = fine_two here Good i s.place (s.place + 1) (pushed x.0.element shape) t
      (loop_ended x.0.collected (record shape { loops = x.1 })) w.1 in
      let first : l ≡ x.0 = cons_first l x.0 ls x.1 (sym in_loop ∙ x.2) in
      let others : ls ≡ x.1 = cons_rest l x.0 ls x.1 (sym in_loop ∙ x.2) in
      finish_over here Good i s.place (LoopFits here.tables.decls) shape.loops x.0 x.1 s.loops here.below.loops
      (λ m ms. move.next_of m.left t m ms s) x.2 fits.loops
      (λ m ms are fit rest.
      let counts : length m.left ∷ lefts ms ≡ n ∷ ns = ap lefts (sym are) ∙ fits.turns_are in
      let left_is : length m.left ≡ n = cons_first (length m.left) n (lefts ms) ns counts in
      let rest_is : lefts ms ≡ ns = cons_rest (length m.left) n (lefts ms) ns counts in
      by x.0 x.1 x.2 m ms m.left fit.left fit.collected rest left_is rest_is
      (subst (λ (k : List LoopShape). here.Around k ns) others outside)
      (λ k e. subst (λ (y : LoopShape). here.Around (y ∷ x.1) (k ∷ ns)) first
      (subst (λ (y : List LoopShape). here.Around (l ∷ y) (k ∷ ns)) others (again k e))) two)
    where
      cons_first : {A : Type 0} (a b : A) (xs ys : List A) → a ∷ xs ≡ b ∷ ys → a ≡ b
      cons_first a b xs ys e = cc e

      cons_rest : {A : Type 0} (a b : A) (xs ys : List A) → a ∷ xs ≡ b ∷ ys → xs ≡ ys
      cons_rest a b xs ys e = cc e

      by : (x : LoopShape) (xs : List LoopShape) → shape.loops ≡ x ∷ xs
          → (m : Loop) (ms : List Loop) (left : List Value)
          → AreAll here.tables.decls x.element left
          → CollectedFits here.tables.decls x.collected m.collected
          → OnTop (LoopFits here.tables.decls) xs ms here.below.loops → length left ≡ n → lefts ms ≡ ns
          → here.Around xs ns
          → ((k : ℕ) → n ≡ suc k → here.Around (x ∷ xs) (k ∷ ns))
          → GoesOn here Good (instr.Next t) s.place (s.place + 1, pushed x.element shape)
          × GoesOn here Good (instr.Next t) s.place (t, loop_ended x.collected (record shape { loops = xs }))
          → Finishes Good (move.next_of left t m ms s)
      by x xs are m ms [] all collects rest left_is rest_is outside again two =
          ended_finishes t ns (record shape { loops = xs }) (record s { loops = ms }) x.collected m.collected collects
          (loops_fit here (n ∷ ns) shape s ns xs ms fits rest rest_is outside) s.place two.1
      by x xs are m ms (v ∷ left) (kinds.one_more first all) collects rest left_is rest_is outside again two =
          let next : Loop = record m { left = left } in
          finish_push here Good (instr.Next t) s.place (length left ∷ ns) shape
          (record s { loops = next ∷ ms }) x.element v refl
          (loops_fit here (n ∷ ns) shape s (length left ∷ ns) shape.loops (next ∷ ms) fits
          (subst (λ (k : List LoopShape). OnTop (LoopFits here.tables.decls) k (next ∷ ms) here.below.loops) (sym are)
          (record { left = all; collected = collects }, rest))
          (ap (λ (k : List ℕ). length left ∷ k) rest_is)
          (subst (λ (k : List LoopShape). here.Around k (length left ∷ ns)) (sym are)
          (again (length left) (sym left_is))))
          first two.0

  -- a loop is left
  pub sound_leave : ((l : LoopShape) (ls : List LoopShape) (n : ℕ) (ns : List ℕ) → here.Around (l ∷ ls) (n ∷ ns)
      → here.Around ls ns)
      → Sound here code Good instr.Leave
  sound_leave outside turns shape s fits fine =
      let i : Instr = instr.Leave in
      let x =
      fine_top here Good i s.place shape.loops
      (λ (l : LoopShape) (ls : List LoopShape). leads (s.place + 1) (record shape { loops = ls })) fine in
      finish_over here Good i s.place (LoopFits here.tables.decls) shape.loops x.0 x.1 s.loops here.below.loops
      (λ m ms. on (record s { loops = ms })) x.2 fits.loops
      (λ m ms are fit rest.
      finish_on here Good i s.place (lefts ms) (record shape { loops = x.1 }) (record s { loops = ms }) refl
      (loops_fit here turns shape s (lefts ms) x.1 ms (unbound_fits here turns shape s fits) rest refl
      (outside x.0 x.1 (length m.left) (lefts ms)
      (subst (λ (ls : List LoopShape). here.Around ls (lefts (m ∷ ms))) x.2
      (subst (λ (ns : List ℕ). here.Around shape.loops ns) (sym fits.turns_are ∙ ap lefts are) fits.around))))
      (fine_one here Good i s.place (s.place + 1) (record shape { loops = x.1 }) x.3))
