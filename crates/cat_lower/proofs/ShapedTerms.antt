-- The places of terms: each adds to the top default frame, and a target pushes its value.
use Rattle.std.proofs.Common.{◌≡◌, ℕ, suc, ◌+◌, nat_le, nat_lt, Bool, true, false, List, [], ◌∷◌, ◌++◌, length, map}
use Rattle.std.proofs.Common.{Option, Some, None, slice_get, refl, sym, subst, arith}
use Rattle.std.proofs.lemmas.Bool.Decides.{nat_tests}
use Rattle.cat_scope.specs.declared.expr.Expr.{Expr}
use Rattle.cat_scope.specs.Judging.{Held}
use Rattle.cat_scope.specs.Names.{AllHave}
use Rattle.cat_scope.proofs.Exported.{Each}
use Rattle.cat_sound.proofs.Exported.{all_back, all_front}
use Rattle.cat_calc.specs.declared.term.Justification.{Justification}
use Rattle.cat_calc.specs.declared.term.Justification.TheVariants as justification
use Rattle.cat_calc.specs.declared.term.DefaultTerm.{DefaultTerm}
use Rattle.cat_calc.specs.declared.term.DefaultTerm.TheViews as term
use Rattle.cat_calc.specs.Terms.{all_in, condition_in, conditions_in, consequences_in}
use Rattle.cat_calc.proofs.Exported.{conditions_Default, consequences_Consequence, consequences_Default, induction}
use Rattle.cat_code.specs.declared.instr.Instr.{Instr}
use Rattle.cat_code.specs.declared.instr.Instr.TheVariants as instr
use Rattle.cat_code.specs.declared.code.TargetEntry.{TargetEntry}
use Rattle.cat_code.specs.declared.code.Tables.{Tables}
use Rattle.cat_code.specs.Forms.{Form, Truth}
use Rattle.cat_code.specs.Shapes.{Owner, FrameShape, PendingShape, Shape, AreFewer, Meets}
use Rattle.cat_code.specs.Places.{target_form}
use Rattle.cat_code.specs.Wanted.{frames_inside}
use Rattle.cat_code.proofs.FormLaws.{same_self}
use Rattle.cat_lower.specs.Laying.{Coded, nothing, one, then_code, led, all_code, over}
use Rattle.cat_lower.specs.Terms.{TermStanding, condition_code, value_code, under, otherwise, framed, default_code}
use Rattle.cat_lower.specs.Terms.{term_code, judged_code}
use Rattle.cat_lower.proofs.AddingTerms.{each_of}
use Rattle.cat_lower.proofs.TermEquations.{code_Empty, code_Consequence, code_Default}
use Rattle.cat_code.proofs.MeetingLaws.{meets_same, fewer_same, frames_same, pending_same}
use Rattle.cat_lower.proofs.Sketches.{Takes, Leaves, IsJump, leaves_one, leaves_then, takes_one, takes_then}
use Rattle.cat_lower.proofs.Sketches.{takes_nothing, takes_less, takes_over, is_jump_false}
use Rattle.cat_lower.proofs.ShapedForms.{Deep, more, at, Gives, within_so}

module _ (tables : Tables) (code : List Instr) (Calls : Owner → Owner → Type 0) (entry : ℕ → Shape) (owner : Owner)
    (filled : List Bool) where
  abbrev G : Coded → List Form → Form → Type 0
  G a ls t = Gives tables code Calls entry owner filled a ls t

  abbrev A : List Form → Deep → Shape
  A ls d = at tables code Calls entry owner filled ls d

  abbrev T : Coded → Shape → Shape → Type 0
  T a s t = Takes tables code Calls entry a s t

  -- no operands and no loops, under these frames
  abbrev pub base : List FrameShape → List PendingShape → Deep
  base fs ps = record { operands = []; defaults = fs; loops = []; pending = ps }

  -- a frame that began at a place
  abbrev pub frame : ℕ → Form → Bool → FrameShape
  frame b h c = record { begun = b; holds = h; checked = c }

  module _ (ls : List Form) (h : Form) where
    -- with a default frame on top
    abbrev pub top : ℕ → Bool → List FrameShape → List PendingShape → Shape
    top b c fs ps = A ls (base (frame b h c ∷ fs) ps)

    -- code that leaves the top frame checked or not
    abbrev pub Steps : Coded → Bool → Bool → Type 0
    Steps a c c' = (b : ℕ) (fs : List FrameShape) (ps : List PendingShape) → T a (top b c fs ps) (top b c' fs ps)

    -- code that adds to the top frame
    abbrev pub Adds : Coded → Type 0
    Adds a = (c : Bool) → Steps a c false

    less_known : (b : ℕ) (c c' : Bool) (fs : List FrameShape) (ps : List PendingShape) → AreFewer (c' ∷ []) (c ∷ [])
        → Meets (top b c fs ps) (top b c' fs ps)
    less_known b c c' fs ps less = record {
      owner = refl;
      operands = refl;
      locals = refl;
      filled = fewer_same filled;
      defaults = (record { begun = refl; holds = refl; checked = less }, frames_same fs);
      loops = refl;
      pending = pending_same ps;
    }

    nothing_steps : (c c' : Bool) → AreFewer (c' ∷ []) (c ∷ []) → Steps nothing c c'
    nothing_steps c c' less b fs ps =
        takes_less tables code Calls entry nothing (top b c fs ps) (top b c fs ps) (top b c' fs ps)
        (less_known b c c' fs ps less)
        (takes_nothing tables code Calls entry (top b c fs ps))

    -- a definition that holds
    holds : (value : Coded) (d : ℕ) → nat_lt d (length tables.definitions) ≡ true → G value ls h
        → Adds (then_code value (one (instr.Hold d)))
    holds value d there given c b fs ps =
        takes_then tables code Calls entry value (one (instr.Hold d)) (top b c fs ps)
        (A ls (more h (base (frame b h c ∷ fs) ps))) (top b false fs ps)
        (given (base (frame b h c ∷ fs) ps) tt)
        (takes_one tables code Calls entry (instr.Hold d) (A ls (more h (base (frame b h c ∷ fs) ps)))
        (top b false fs ps)
        (λ p. let inner = inside_one fs in let same = same_self h in rw (there, inner, same) refl)
        (λ all p. (tt, (refl, (tt, tt)))))
      where
        inside_one : (fs : List FrameShape) → frames_inside 1 [] (frame b h c ∷ fs) ≡ true
        inside_one fs = long (length fs)
          where
            long : (n : ℕ) → nat_le 1 (suc n) ≡ true
            long n = grind (arith, nat_tests)

    -- the top frame is checked
    checks : (v : ℕ) (c : Bool) → nat_lt v (length tables.targets) ≡ true → Steps (one (instr.Check v)) c true
    checks v c there b fs ps =
        takes_one tables code Calls entry (instr.Check v) (top b c fs ps) (top b true fs ps)
        (λ p. let inner = long (length fs) in rw (there, inner) refl) (λ all p. (tt, (refl, (tt, tt))))
      where
        long : (n : ℕ) → nat_le 1 (suc n) ≡ true
        long n = grind (arith, nat_tests)

    steps_then : (a a' : Coded) (c c' c'' : Bool) → Steps a c c' → Steps a' c' c'' → Steps (then_code a a') c c''
    steps_then a a' c c' c'' f g b fs ps =
        takes_then tables code Calls entry a a' (top b c fs ps) (top b c' fs ps) (top b c'' fs ps) (f b fs ps)
        (g b fs ps)

    all_add : (cs : List Coded) → AllHave Adds cs → Steps (all_code cs) false false
    all_add [] h b fs ps = takes_nothing tables code Calls entry (top b false fs ps)
    all_add (a ∷ cs) h b fs ps = steps_then a (all_code cs) false false false (h.0 false) (all_add cs h.1) b fs ps

    module _ (at : TermStanding) (e : TargetEntry) (there : slice_get tables.targets at.target ≡ Some e)
        (form : target_form tables.decls e.target ≡ Some h) where
      -- what a condition gives
      abbrev pub IsCondition : Expr → Type 0
      IsCondition e = G (condition_code at e) ls Truth

      steps_under : (j : Justification) (a : Coded) (c c' : Bool) → AllHave IsCondition (condition_in j)
          → AreFewer (c' ∷ []) (c ∷ [])
          → Steps a c c' → Steps (under at j a) c c'
      steps_under justification.Never a c c' conditions less f b fs ps = nothing_steps c c' less b fs ps
      steps_under justification.Always a c c' conditions less f b fs ps = f b fs ps
      steps_under (justification.Where x) a c c' conditions less f b fs ps =
          let tested = A ls (more Truth (base (frame b h c ∷ fs) ps)) in
          takes_then tables code Calls entry (condition_code at x) (over (λ t. instr.JumpFalse t) a)
          (top b c fs ps) tested (top b c' fs ps)
          (conditions.0 (base (frame b h c ∷ fs) ps) tt)
          (takes_over tables code Calls entry (λ t. instr.JumpFalse t) a tested (top b c fs ps) (top b c fs ps)
          (top b c' fs ps)
          (is_jump_false tables code Calls entry) (λ p q is. refl) (less_known b c c' fs ps less) (f b fs ps))

      is_held : IsJump tables code Calls entry (λ t. instr.Held t)
      is_held = record { jumps = λ q. refl; rules = λ p q. refl; free = λ all p q. tt; calls = λ o q. refl }

      within_target : nat_lt at.target (length tables.targets) ≡ true
      within_target = within_so tables.targets at.target e there

      steps_over : (a : Coded) → Steps a true true → Steps (over (λ t. instr.Held t) a) true true
      steps_over a f b fs ps =
          takes_over tables code Calls entry (λ t. instr.Held t) a (top b true fs ps) (top b true fs ps)
          (top b true fs ps) (top b true fs ps)
          is_held (λ p q is. refl) (meets_same (top b true fs ps)) (f b fs ps)

      otherwise_steps : (j : Justification) (a : Coded) → AllHave IsCondition (condition_in j) → Adds a
          → Steps (otherwise at j a) true true
      otherwise_steps justification.Never a conditions adds = nothing_steps true true (refl, tt)
      otherwise_steps justification.Always a conditions adds =
          steps_over (then_code a (one (instr.Check at.target)))
          (steps_then a (one (instr.Check at.target)) true false true (adds true)
          (checks at.target false within_target))
      otherwise_steps (justification.Where x) a conditions adds =
          steps_over (under at (justification.Where x) (then_code a (one (instr.Check at.target))))
          (steps_under (justification.Where x) (then_code a (one (instr.Check at.target))) true true conditions
          (refl, tt)
          (steps_then a (one (instr.Check at.target)) true false true (adds true)
          (checks at.target false within_target)))

      -- a frame begins, over those that are there
      starts : (fs : List FrameShape) (ps : List PendingShape)
          → Leaves tables code Calls entry (one (instr.Begin at.target)) (A ls (base fs ps)) (λ p. top p false fs ps)
      starts fs ps =
          leaves_one tables code Calls entry (instr.Begin at.target) (A ls (base fs ps)) (λ p. top p false fs ps)
          (λ p. rw (there, form) refl) (λ all p. (tt, (refl, (tt, tt))))

      merges : (o b : ℕ) (c : Bool) (fs : List FrameShape) (ps : List PendingShape)
          → T (one instr.Merge) (top o true (frame b h c ∷ fs) ps) (top b false fs ps)
      merges o b c fs ps =
          takes_one tables code Calls entry instr.Merge (top o true (frame b h c ∷ fs) ps) (top b false fs ps)
          (λ p. let inner = long (length fs) in let same = same_self h in rw (inner, same) refl)
          (λ all p. (tt, (refl, (tt, tt))))
        where
          long : (n : ℕ) → nat_le 2 (suc (suc n)) ≡ true
          long n = grind (arith, nat_tests)

      framed_adds : (cs : List Coded) (j : Justification) (a : Coded) → AllHave Adds cs
          → AllHave IsCondition (condition_in j) → Adds a
          → Adds (framed at cs j a)
      framed_adds cs j a each conditions adds c b fs ps =
          let gs = frame b h c ∷ fs in
          let behind : Coded = then_code (otherwise at j a) (one instr.Merge) in
          let checked : Coded = led (instr.Check at.target) behind in
          leaves_then tables code Calls entry (one (instr.Begin at.target)) (then_code (all_code cs) checked)
          (top b c fs ps)
          (λ p. top p false gs ps) (λ p. top b false fs ps) (starts gs ps)
          (λ p. takes_then tables code Calls entry (all_code cs) checked (top p false gs ps) (top p false gs ps)
          (top b false fs ps) (all_add cs each p gs ps)
          (takes_then tables code Calls entry (one (instr.Check at.target)) behind (top p false gs ps)
          (top p true gs ps) (top b false fs ps)
          (checks at.target false within_target p gs ps)
          (takes_then tables code Calls entry (otherwise at j a) (one instr.Merge) (top p true gs ps) (top p true gs ps)
          (top b false fs ps)
          (otherwise_steps j a conditions adds p gs ps) (merges p b c fs ps))))

      default_adds : (cs : List Coded) (j : Justification) (a : Coded) → AllHave Adds cs
          → AllHave IsCondition (condition_in j) → Adds a
          → Adds (default_code at cs j a)
      default_adds [] j a each conditions adds c = steps_under j a c false conditions tt (adds c)
      default_adds (x ∷ []) justification.Never a each conditions adds c = each.0 c
      default_adds (x ∷ []) justification.Always a each conditions adds c =
          framed_adds (x ∷ []) justification.Always a each conditions adds c
      default_adds (x ∷ []) (justification.Where y) a each conditions adds c =
          framed_adds (x ∷ []) (justification.Where y) a each conditions adds c
      default_adds (x ∷ y ∷ cs) j a each conditions adds c = framed_adds (x ∷ y ∷ cs) j a each conditions adds c

      -- what a consequence gives, and where its definition stands
      pub record IsConsequence (x : Held Expr) : Type 0 where
        pub given : G (value_code at x.value) ls h
        pub numbered : nat_lt (at.here.definitions + x.number) (length tables.definitions) ≡ true

      abbrev OfTerm : DefaultTerm → Type 0
      OfTerm t =
          AllHave IsCondition (conditions_in t) → AllHave IsConsequence (consequences_in t) → Adds (term_code at t)

      adds_by : (a b : Coded) → a ≡ b → Adds b → Adds a
      adds_by a b is adds = subst (λ x. Adds x) (sym is) adds

      each_adds : (ts : List DefaultTerm) → Each OfTerm ts → Each (λ t. AllHave IsCondition (conditions_in t)) ts
          → Each (λ t. AllHave IsConsequence (consequences_in t)) ts → AllHave Adds (map (term_code at) ts)
      each_adds [] hs cs vs = tt
      each_adds (t ∷ ts) hs cs vs = (hs.0 cs.0 vs.0, each_adds ts hs.1 cs.1 vs.1)

      of_default : (ts : List DefaultTerm) (j : Justification) (t : DefaultTerm) → Each OfTerm ts → OfTerm t
          → OfTerm (term.Default ts j t)
      of_default ts j t hs f cs vs =
          let c = subst (λ (l : List Expr). AllHave IsCondition l) (conditions_Default ts j t) cs in
          let w = subst (λ (l : List (Held Expr)). AllHave IsConsequence l) (consequences_Default ts j t) vs in
          let front = all_front IsCondition (all_in (map conditions_in ts) ++ condition_in j) (conditions_in t) c in
          adds_by _ _ (code_Default at ts j t)
          (default_adds (map (term_code at) ts) j (term_code at t)
          (each_adds ts hs (each_of IsCondition conditions_in ts
          (all_front IsCondition (all_in (map conditions_in ts)) (condition_in j) front))
          (each_of IsConsequence consequences_in ts
          (all_front IsConsequence (all_in (map consequences_in ts)) (consequences_in t) w)))
          (all_back IsCondition (all_in (map conditions_in ts)) (condition_in j) front)
          (f (all_back IsCondition (all_in (map conditions_in ts) ++ condition_in j) (conditions_in t) c)
          (all_back IsConsequence (all_in (map consequences_in ts)) (consequences_in t) w)))

      pub term_adds : (t : DefaultTerm) → OfTerm t
      term_adds = induction OfTerm
          (λ cs vs. adds_by _ _ (code_Empty at) (λ c. nothing_steps c false tt))
          (λ n p x cs vs.
          let v = subst (λ (l : List (Held Expr)). AllHave IsConsequence l) (consequences_Consequence n p x) vs in
          adds_by _ _ (code_Consequence at n p x)
          (holds (value_code at x) (at.here.definitions + n) v.0.numbered v.0.given))
          of_default

      -- a term that is typed, where there is one
      abbrev pub IsTerm : Option DefaultTerm → Type 0
      IsTerm None = Unit {0}
      IsTerm (Some t) = AllHave IsCondition (conditions_in t) × AllHave IsConsequence (consequences_in t)

      pub judged_leaves : (o : Option DefaultTerm) → IsTerm o → (fs : List FrameShape) (ps : List PendingShape)
          → Leaves tables code Calls entry (judged_code at o) (A ls (base fs ps)) (λ p. top p true fs ps)
      judged_leaves None is fs ps =
          leaves_then tables code Calls entry (one (instr.Begin at.target)) (one (instr.Check at.target))
          (A ls (base fs ps))
          (λ p. top p false fs ps) (λ p. top p true fs ps) (starts fs ps)
          (λ p. checks at.target false within_target p fs ps)
      judged_leaves (Some t) is fs ps =
          let judged : Coded = then_code (term_code at t) (one (instr.Check at.target)) in
          leaves_then tables code Calls entry (one (instr.Begin at.target)) judged (A ls (base fs ps))
          (λ p. top p false fs ps) (λ p. top p true fs ps) (starts fs ps)
          (λ p. steps_then (term_code at t) (one (instr.Check at.target)) false false true (term_adds t is.0 is.1 false)
          (checks at.target false within_target) p fs ps)
