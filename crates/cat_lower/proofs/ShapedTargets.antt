-- The places of a target: its value is pushed, or passed where it has one.
use Rattle.std.proofs.Common.{◌≡◌, ℕ, zero, suc, ◌+◌, nat_le, nat_lt, Bool, true, false, List, [], ◌∷◌, length, Option}
use Rattle.std.proofs.Common.{Some, slice_get, slice_set, refl, sym, subst, arith}
use Rattle.std.proofs.lemmas.Bool.Decides.{nat_tests}
use Rattle.cat_value.specs.declared.ty.Ty.{Ty}
use Rattle.cat_calc.specs.declared.term.DefaultTerm.{DefaultTerm}
use Rattle.cat_code.specs.declared.instr.Instr.{Instr}
use Rattle.cat_code.specs.declared.instr.Instr.TheVariants as instr
use Rattle.cat_code.specs.declared.code.TargetEntry.{TargetEntry}
use Rattle.cat_code.specs.declared.code.Tables.{Tables}
use Rattle.cat_code.specs.Forms.{Form, Truth, slot_form}
use Rattle.cat_code.specs.Shapes.{Owner, FrameShape, PendingShape, Shape, AreFewer, Meets}
use Rattle.cat_code.specs.Places.{target_form}
use Rattle.cat_code.specs.Leads.{leads_two}
use Rattle.cat_code.specs.Flow.{flow}
use Rattle.cat_lower.specs.Laying.{Coded, nothing, one, entry as target_entry, then_code, over, branch}
use Rattle.cat_lower.specs.Rows.{Standing}
use Rattle.cat_lower.specs.Pieces.{truth}
use Rattle.cat_lower.specs.Terms.{TermStanding, judged_code, without_value, target_code}
use Rattle.cat_code.proofs.MeetingLaws.{meets_same, fewer_same, frames_same, pending_same}
use Rattle.cat_lower.proofs.Sketches.{Takes, IsJump, leaves_then, takes_then, takes_nothing, takes_less, takes_over}
use Rattle.cat_lower.proofs.Sketches.{takes_branch, takes_entry, sketch_step}
use Rattle.cat_lower.proofs.ShapedForms.{Deep, more, at, gives_truth, within_so}
use Rattle.cat_lower.proofs.ShapedCalls.{waiting, takes_pass}
use Rattle.cat_lower.proofs.ShapedTerms.{base, top, IsTerm, judged_leaves}

-- something more is passed
fewer_set : (q : List Bool) (n : ℕ) → AreFewer q (slice_set q n true)
fewer_set [] n = tt
fewer_set (true ∷ q) zero = (refl, fewer_same q)
fewer_set (false ∷ q) zero = fewer_same q
fewer_set (true ∷ q) (suc n) = (refl, fewer_set q n)
fewer_set (false ∷ q) (suc n) = fewer_set q n

module _ (tables : Tables) (code : List Instr) (Calls : Owner → Owner → Type 0) (entry : ℕ → Shape) (owner : Owner)
    (filled : List Bool) where
  abbrev A : List Form → Deep → Shape
  A ls d = at tables code Calls entry owner filled ls d

  abbrev T : Coded → Shape → Shape → Type 0
  T a s t = Takes tables code Calls entry a s t

  abbrev B : List FrameShape → List PendingShape → Deep
  B fs ps = base tables code Calls entry owner filled fs ps

  module _ (here : Standing) (e : TargetEntry) (type : Ty) (locals : List Ty) (ls : List Form) (h : Form)
      (o : Option DefaultTerm)
      (form : target_form tables.decls e.target ≡ Some h)
      (is : (v : ℕ) (there : slice_get tables.targets v ≡ Some e)
      → IsTerm tables code Calls entry owner filled ls h
      (record { here = here; target = v; type = type; locals = locals }) e there form o)
    where
      abbrev standing_at : ℕ → TermStanding
      standing_at v = record { here = here; target = v; type = type; locals = locals }

      is_take : IsJump tables code Calls entry (λ t. instr.Take t)
      is_take = record { jumps = λ q. refl; rules = λ p q. refl; free = λ all p q. tt; calls = λ o q. refl }

      -- the frame that began at a place was checked
      abbrev checked : ℕ → List FrameShape → List PendingShape → Shape
      checked b fs ps = top tables code Calls entry owner filled ls h b true fs ps

      take_flows : (b : ℕ) (fs : List FrameShape) (ps : List PendingShape) (p q : ℕ)
          → flow tables code (instr.Take q) p (checked b fs ps)
          ≡ leads_two (p + 1) (A ls (more h (B fs ps))) q (A ls (B fs ps))
      take_flows b fs ps p q = let inner = long (length fs) in rw inner refl
        where
          long : (n : ℕ) → nat_le 1 (suc n) ≡ true
          long n = grind (arith, nat_tests)

      -- no run goes on behind it
      no_value : (v : ℕ) (s t : Shape) → nat_lt v (length tables.targets) ≡ true → T (one (instr.NoValue v)) s t
      no_value v s t there ends has =
          sketch_step tables code Calls entry ends (instr.NoValue v) [] [] s _ [] (rw there refl) tt
          (λ all known after. tt) (λ all after. (tt, (refl, (tt, tt))))

      without_takes : (condition : Bool) (v : ℕ) (fs : List FrameShape) (ps : List PendingShape)
          → slice_get tables.targets v ≡ Some e
          → (condition ≡ true → h ≡ Truth) → T (without_value v condition) (A ls (B fs ps)) (A ls (more h (B fs ps)))
      without_takes true v fs ps there boolean =
          subst (λ (t : Form). T (truth false) (A ls (B fs ps)) (A ls (more t (B fs ps)))) (sym (boolean refl))
          (gives_truth tables code Calls entry owner filled false ls (B fs ps) tt)
      without_takes false v fs ps there boolean =
          no_value v (A ls (B fs ps)) (A ls (more h (B fs ps))) (within_so tables.targets v e there)

      pub target_takes : (condition : Bool) (fs : List FrameShape) (ps : List PendingShape)
          → (condition ≡ true → h ≡ Truth)
          → T (target_code here e type locals condition o) (A ls (B fs ps)) (A ls (more h (B fs ps)))
      target_takes condition fs ps boolean ends has =
          let v = ends.targets in
          let there = has.targets.0 in
          let d = B fs ps in
          let judged = judged_code (standing_at v) o in
          let taken : Coded = branch (λ t. instr.Take t) nothing (without_value v condition) in
          let rest : Coded = then_code judged taken in
          takes_then tables code Calls entry (target_entry e) rest (A ls d) (A ls d) (A ls (more h d))
          (takes_entry tables code Calls entry e (A ls d) (h, form))
          (leaves_then tables code Calls entry judged taken (A ls d) (λ b. checked b fs ps) (λ b. A ls (more h d))
          (judged_leaves tables code Calls entry owner filled ls h (standing_at v) e there form o (is v there) fs ps)
          (λ b. takes_branch tables code Calls entry (λ t. instr.Take t) nothing (without_value v condition)
          (checked b fs ps) (A ls (more h d)) (A ls d)
          (A ls (more h d)) is_take (λ p q at. take_flows b fs ps p q)
          (takes_nothing tables code Calls entry (A ls (more h d)))
          (without_takes condition v fs ps there boolean)))
          ends has

      -- the value of an input that may be passed
      abbrev pub context_by : ℕ → Coded
      context_by n ends =
          then_code (target_entry e)
          (then_code (judged_code (standing_at ends.targets) o) (over (λ t. instr.Take t) (one (instr.Pass n))))
          ends

      pub context_takes : (s n : ℕ) (q : List Bool) (fs : List FrameShape) (ps : List PendingShape)
          → slot_form tables.decls s n ≡ Some h
          → T (context_by n) (A ls (B fs (record { scope = s; passed = q } ∷ ps)))
          (A ls (B fs (record { scope = s; passed = q } ∷ ps)))
      context_takes s n q fs ps slot ends has =
          let v = ends.targets in
          let there = has.targets.0 in
          let qs = record { scope = s; passed = q } ∷ ps in
          let waits = B fs qs in
          let passed = waiting tables code Calls entry owner filled s (slice_set q n true) (B fs ps) in
          let judged = judged_code (standing_at v) o in
          let passes : Coded = one (instr.Pass n) in
          let taken : Coded = over (λ t. instr.Take t) passes in
          let rest : Coded = then_code judged taken in
          takes_then tables code Calls entry (target_entry e) rest (A ls waits) (A ls waits) (A ls waits)
          (takes_entry tables code Calls entry e (A ls waits) (h, form))
          (leaves_then tables code Calls entry judged taken (A ls waits) (λ b. checked b fs qs) (λ b. A ls waits)
          (judged_leaves tables code Calls entry owner filled ls h (standing_at v) e there form o (is v there) fs qs)
          (λ b. takes_over tables code Calls entry (λ t. instr.Take t) passes (checked b fs qs) (A ls (more h waits))
          (A ls waits) (A ls waits) is_take
          (λ p q at. take_flows b fs qs p q) (meets_same (A ls waits))
          (takes_less tables code Calls entry passes (A ls (more h waits)) (A ls passed) (A ls waits) (less s n q fs ps)
          (takes_pass tables code Calls entry owner filled s n h q ls (B fs ps) tt slot))))
          ends has
        where
          less : (s n : ℕ) (q : List Bool) (fs : List FrameShape) (ps : List PendingShape)
              → Meets (A ls (B fs (record { scope = s; passed = slice_set q n true } ∷ ps)))
              (A ls (B fs (record { scope = s; passed = q } ∷ ps)))
          less s n q fs ps = record {
            owner = refl;
            operands = refl;
            locals = refl;
            filled = fewer_same filled;
            defaults = frames_same fs;
            loops = refl;
            pending = (record { scope = refl; passed = fewer_set q n }, pending_same ps);
          }
