-- A run that has ended is the same after more steps, so that code gives one run alone.
use Rattle.std.proofs.Common.{◌≡◌, ℕ, zero, suc, ◌≤◌, List, Option, Some, None, refl, sym, ap, ◌∙◌}
use Rattle.std.proofs.Common.{arith, slice_get, ⊎_elim}
use Rattle.std.proofs.lemmas.Bool.{cases_lt}
use Rattle.cat_scope.specs.Runs.{Decider}
use Rattle.cat_scope.specs.Calls.{Items}
use Rattle.cat_code.specs.declared.instr.Instr.{Instr}
use Rattle.cat_code.specs.declared.code.Tables.{Tables}
use Rattle.cat_code.specs.States.{State, Next, Goes, Over, started}
use Rattle.cat_code.specs.Runs.{Whole, step, behind_log, followed, within, Gives}

-- where one has ended the other has ended with the same run
abbrev Extends : (State → Option Whole) → (State → Option Whole) → Type 0
Extends f g = (s : State) (r : Whole) → f s ≡ Some r → g s ≡ Some r

logged_more : (log : List Decider) (o p : Option Whole) (r : Whole) → ((q : Whole) → o ≡ Some q → p ≡ Some q)
    → behind_log log o ≡ Some r → behind_log log p ≡ Some r
logged_more log None p r more e = absurd (cc e)
logged_more log (Some q) p r more e = ap (behind_log log) (more q refl) ∙ e

followed_more : (f g : State → Option Whole) → Extends f g → (x : Next) (r : Whole) → followed x f ≡ Some r
    → followed x g ≡ Some r
followed_more f g more (Over end) r e = e
followed_more f g more (Goes log s) r e = logged_more log (f s) (g s) r (λ q is. more s q is) e

longer : (tables : Tables) (code : List Instr) (m n : ℕ) → m ≤ n → Extends (within tables code m) (within tables code n)
longer tables code zero n le s r e = absurd (cc e)
longer tables code (suc m) zero le s r e = absurd (omega arith)
longer tables code (suc m) (suc n) le s r e =
    followed_more (within tables code m) (within tables code n) (longer tables code m n (omega arith))
    (step tables code s) r e

same_some : {A : Type 0} (a b : A) (o : Option A) → o ≡ Some a → o ≡ Some b → a ≡ b
same_some a b o e f = let both : Some a ≡ Some b = sym e ∙ f in cc both

-- code gives one run alone for an input
pub one_run : (tables : Tables) (code : List Instr) (scope : ℕ) (input : Items) (r q : Whole)
    → Gives tables code scope input r
    → Gives tables code scope input q → r ≡ q
one_run tables code scope input r q g h =
    let entry : g.entry ≡ h.entry = same_some g.entry h.entry (slice_get tables.scopes scope) g.is_entry h.is_entry in
    let moved : within tables code g.steps (started h.entry input) ≡ Some r
    = ap (λ e. within tables code g.steps (started e input)) (sym entry) ∙ g.ends in
    ⊎_elim
    (λ lt. same_some r q (within tables code h.steps (started h.entry input))
    (longer tables code g.steps h.steps (omega arith) (started h.entry input) r moved) h.ends)
    (λ le. same_some r q (within tables code g.steps (started h.entry input)) moved
    (longer tables code h.steps g.steps le (started h.entry input) q h.ends))
    (cases_lt g.steps h.steps)
