-- What valid code has at each of its places.
use Rattle.std.proofs.Common.{◌≡◌, ◌≤◌, ℕ, zero, suc, ◌+◌, ◌-◌, nat_eq, nat_le, ◌&&◌, Bool, true}
use Rattle.std.proofs.Common.{false, not, true≢false, List, [], ◌∷◌, ◌++◌, length, Option, Some, None, slice_get, refl}
use Rattle.std.proofs.Common.{sym, ap, ◌∙◌, subst, arith, ⊎_elim}
use Rattle.std.specs.List.{list_all}
use Rattle.std.proofs.lemmas.Bool.{cases_lt, eqb-true}
use Rattle.std.proofs.lemmas.Bool.Decides.{nat_tests}
use Rattle.cat_value.specs.declared.declaration.Scope.{Scope}
use Rattle.cat_value.proofs.Exported.{list_all_at}
use Rattle.cat_sound.proofs.Results.{both, and_both}
use Rattle.cat_sound.proofs.Exported.{same_some}
use Rattle.cat_code.specs.declared.instr.Instr.{Instr}
use Rattle.cat_code.specs.declared.instr.Instr.TheVariants as instr
use Rattle.cat_code.specs.declared.code.Tables.{Tables}
use Rattle.cat_code.specs.Shapes.{Shape}
use Rattle.cat_code.specs.Shaped.{Shapes, IsMet, IsFine, AreFine, AreEntries, scope_entry}
use Rattle.cat_code.specs.Jumps.{jump_of, with_jump, jumps_in}
use Rattle.cat_code.specs.Tame.{is_forward, AreForward}
use Rattle.cat_code.specs.Valid.{has_content, are_tested, are_apart, keeps_rules, keep_rules, entries_of}

-- ---- what holds of each instruction from a place on

-- an instruction that has a shape is fine by it
pub record FineHere (tables : Tables) (code : List Instr) (shapes : Shapes) (p : ℕ) (is : List Instr) (k : ℕ)
    (shape : Shape) : Type 0 where
  pub instruction : Instr
  pub instruction_is : slice_get is k ≡ Some instruction
  pub fine : IsFine tables code shapes instruction (p + k) shape

pub fine_at : (tables : Tables) (code : List Instr) (shapes : Shapes) (p : ℕ) (is : List Instr) (ss : Shapes) (k : ℕ)
    (shape : Shape)
    → AreFine tables code shapes p is ss → slice_get ss k ≡ Some (Some shape) → FineHere tables code shapes p is k shape
fine_at tables code shapes p [] [] k shape fine there = absurd (cc there)
fine_at tables code shapes p [] (s ∷ ss) k shape fine there = absurd fine
fine_at tables code shapes p (i ∷ is) [] k shape fine there = absurd fine
fine_at tables code shapes p (i ∷ is) (None ∷ ss) zero shape fine there = absurd (cc there)
fine_at tables code shapes p (i ∷ is) (Some s ∷ ss) zero shape fine there =
    let same : s ≡ shape = cc there in
    let place : p ≡ p + 0 = omega arith in
    record {
      instruction = i;
      instruction_is = refl;
      fine = subst (λ (n : ℕ). IsFine tables code shapes i n shape) place
          (subst (λ (x : Shape). IsFine tables code shapes i p x) same fine.0);
    }
fine_at tables code shapes p (i ∷ is) (s ∷ ss) (suc k) shape fine there =
    let rest = fine_at tables code shapes (p + 1) is ss k shape fine.1 there in
    let place : (p + 1) + k ≡ p + suc k = omega arith in
    record {
      instruction = rest.instruction;
      instruction_is = rest.instruction_is;
      fine = subst (λ (n : ℕ). IsFine tables code shapes rest.instruction n shape) place rest.fine;
    }

pub rule_at : (tables : Tables) (code : List Instr) (places : List ℕ) (p : ℕ) (is : List Instr) (k : ℕ) (i : Instr)
    → keep_rules tables code places p is ≡ true → slice_get is k ≡ Some i
    → keeps_rules tables code places (p + k) i ≡ true
rule_at tables code places p [] k i keep there = absurd (cc there)
rule_at tables code places p (x ∷ is) zero i keep there =
    let same : x ≡ i = cc there in
    let place : p ≡ p + 0 = omega arith in
    let parts = both (keeps_rules tables code places p x) (keep_rules tables code places (p + 1) is) keep in
    subst (λ (n : ℕ). keeps_rules tables code places n i ≡ true) place
    (subst (λ (y : Instr). keeps_rules tables code places p y ≡ true) same parts.0)
rule_at tables code places p (x ∷ is) (suc k) i keep there =
    let place : (p + 1) + k ≡ p + suc k = omega arith in
    let parts = both (keeps_rules tables code places p x) (keep_rules tables code places (p + 1) is) keep in
    subst (λ (n : ℕ). keeps_rules tables code places n i ≡ true) place
    (rule_at tables code places (p + 1) is k i parts.1 there)

pub forward_at : (code : List Instr) (p : ℕ) (is : List Instr) (k : ℕ) (i : Instr) → AreForward code p is
    → slice_get is k ≡ Some i
    → is_forward code (p + k) i (jump_of i) ≡ true
forward_at code p [] k i forward there = absurd (cc there)
forward_at code p (x ∷ is) zero i forward there =
    let same : x ≡ i = cc there in
    let place : p ≡ p + 0 = omega arith in
    subst (λ (n : ℕ). is_forward code n i (jump_of i) ≡ true) place
    (subst (λ (y : Instr). is_forward code p y (jump_of y) ≡ true) same forward.0)
forward_at code p (x ∷ is) (suc k) i forward there =
    let place : (p + 1) + k ≡ p + suc k = omega arith in
    subst (λ (n : ℕ). is_forward code n i (jump_of i) ≡ true) place (forward_at code (p + 1) is k i forward.1 there)

-- where a scope begins its entry is met
pub record Entered (shapes : Shapes) (es : List ℕ) (k n : ℕ) (scope : Scope) : Type 0 where
  pub entry : ℕ
  pub entry_is : slice_get es k ≡ Some entry
  pub met : IsMet shapes entry (scope_entry n scope.items)

pub entry_at : (shapes : Shapes) (n : ℕ) (scopes : List Scope) (es : List ℕ) (k : ℕ) (scope : Scope)
    → AreEntries shapes n scopes es
    → slice_get scopes k ≡ Some scope → Entered shapes es k (n + k) scope
entry_at shapes n [] es k scope are there = absurd (cc there)
entry_at shapes n (x ∷ scopes) [] k scope are there = absurd are
entry_at shapes n (x ∷ scopes) (e ∷ es) zero scope are there =
    let same : x ≡ scope = cc there in
    let number : n ≡ n + 0 = omega arith in
    record {
      entry = e;
      entry_is = refl;
      met = subst (λ (m : ℕ). IsMet shapes e (scope_entry m scope.items)) number
          (subst (λ (y : Scope). IsMet shapes e (scope_entry n y.items)) same are.0);
    }
entry_at shapes n (x ∷ scopes) (e ∷ es) (suc k) scope are there =
    let rest = entry_at shapes (n + 1) scopes es k scope are.1 there in
    let number : (n + 1) + k ≡ n + suc k = omega arith in
    record {
      entry = rest.entry;
      entry_is = rest.entry_is;
      met = subst (λ (m : ℕ). IsMet shapes rest.entry (scope_entry m scope.items)) number rest.met;
    }

-- the places of scopes stand in front of those of functions
pub scope_among : (tables : Tables) (n entry : ℕ) → slice_get tables.scopes n ≡ Some entry
    → slice_get (entries_of tables) n ≡ Some entry
scope_among tables n entry is = front tables.scopes n is
  where
    front : (xs : List ℕ) (k : ℕ) → slice_get xs k ≡ Some entry → slice_get (xs ++ tables.functions) k ≡ Some entry
    front [] k is = absurd (cc is)
    front (x ∷ xs) zero is = is
    front (x ∷ xs) (suc k) is = front xs k is

pub function_among : (tables : Tables) (f entry : ℕ) → slice_get tables.functions f ≡ Some entry
    → slice_get (entries_of tables) (length tables.scopes + f) ≡ Some entry
function_among tables f entry is = behind tables.scopes
  where
    behind : (xs : List ℕ) → slice_get (xs ++ tables.functions) (length xs + f) ≡ Some entry
    behind [] = let n : 0 + f ≡ f = omega arith in ap (slice_get tables.functions) n ∙ is
    behind (x ∷ xs) =
        let n : length (x ∷ xs) + f ≡ suc (length xs + f) = omega arith in
        ap (slice_get (x ∷ (xs ++ tables.functions))) n ∙ behind xs

-- ---- the places that are jumped to or entered

all_front : (test : ℕ → Bool) (xs ys : List ℕ) → list_all test (xs ++ ys) ≡ true → list_all test xs ≡ true
all_front test [] ys all = refl
all_front test (x ∷ xs) ys all =
    let parts = both (test x) (list_all test (xs ++ ys)) all in
    and_both (test x) (list_all test xs) parts.0 (all_front test xs ys parts.1)

all_back : (test : ℕ → Bool) (xs ys : List ℕ) → list_all test (xs ++ ys) ≡ true → list_all test ys ≡ true
all_back test [] ys all = all
all_back test (x ∷ xs) ys all = all_back test xs ys (both (test x) (list_all test (xs ++ ys)) all).1

jump_tested : (test : ℕ → Bool) (is : List Instr) (k : ℕ) (i : Instr) (t : ℕ) → slice_get is k ≡ Some i
    → jump_of i ≡ Some t
    → list_all test (jumps_in is) ≡ true → test t ≡ true
jump_tested test [] k i t there jumps all = absurd (cc there)
jump_tested test (x ∷ is) zero i t there jumps all =
    let same : x ≡ i = cc there in
    let told : list_all test (with_jump (Some t) (jumps_in is)) ≡ true
    = subst (λ (o : Option ℕ). list_all test (with_jump o (jumps_in is)) ≡ true) (ap jump_of same ∙ jumps) all in
    (both (test t) (list_all test (jumps_in is)) told).0
jump_tested test (x ∷ is) (suc k) i t there jumps all = jump_tested test is k i t there jumps (rest (jump_of x) all)
  where
    rest : (o : Option ℕ) → list_all test (with_jump o (jumps_in is)) ≡ true → list_all test (jumps_in is) ≡ true
    rest None all = all
    rest (Some u) all = (both (test u) (list_all test (jumps_in is)) all).1

-- whether an instruction is `content`
abbrev pub is_content : Option Instr → Bool
is_content (Some instr.Content) = true
is_content _ = false

pub content_is : (o : Option Instr) → is_content o ≡ true → o ≡ Some instr.Content
content_is (Some instr.Content) is = refl
content_is _ is = absurd (true≢false (sym is))

-- four instructions of which the last three test a local name
pub record Tested (tables : Tables) (a b c d : Option Instr) : Type 0 where
  pub local : ℕ
  pub asked : ℕ
  pub other : ℕ
  pub first : a ≡ Some (instr.Local local)
  pub second : b ≡ Some (instr.IsCase asked)
  pub third : c ≡ Some (instr.JumpFalse other)
  pub fourth : d ≡ Some (instr.Local local)

pub tested_there : (tables : Tables) (a b c d : Option Instr) → are_tested tables a b c d ≡ true → Tested tables a b c d
tested_there tables (Some (instr.Local i)) (Some (instr.IsCase k)) (Some (instr.JumpFalse t))
    (Some (instr.Local j)) is =
    let parts = both (nat_eq i j) (has_content tables k) is in
    record {
      local = i;
      asked = k;
      other = t;
      first = refl;
      second = refl;
      third = refl;
      fourth = ap (λ (n : ℕ). Some (instr.Local n)) (sym (eqb-true i j parts.0));
    }
tested_there tables _ _ _ _ is = absurd (true≢false (sym is))

module _ (code : List Instr) where
  -- a place that is none of the last four of five instructions that end in a `content`
  abbrev pub Outer : ℕ → Type 0
  Outer q = (c : ℕ) → slice_get code c ≡ Some instr.Content → q ≤ c → c ≤ q + 3 → ⊥

module _ (tables : Tables) (code : List Instr) (entries : List ℕ)
    (keep : keep_rules tables code (jumps_in code ++ entries) 0 code ≡ true) where
  content_keeps : (c : ℕ) → slice_get code c ≡ Some instr.Content
      → keeps_rules tables code (jumps_in code ++ entries) c instr.Content ≡ true
  content_keeps c there =
      let place : 0 + c ≡ c = omega arith in
      subst (λ (n : ℕ). keeps_rules tables code (jumps_in code ++ entries) n instr.Content ≡ true) place
      (rule_at tables code (jumps_in code ++ entries) 0 code c instr.Content keep there)

  content_apart : (c : ℕ) → slice_get code c ≡ Some instr.Content → are_apart c (jumps_in code ++ entries) ≡ true
  content_apart c there =
      let parts = both (nat_le 4 c && are_apart c (jumps_in code ++ entries))
      (are_tested tables (slice_get code (c - 4)) (slice_get code (c - 3)) (slice_get code (c - 2))
      (slice_get code (c - 1))) (content_keeps c there) in
      (both (nat_le 4 c) (are_apart c (jumps_in code ++ entries)) parts.0).1

  -- the five instructions that end in a `content`
  pub content_tests : (q : ℕ) → slice_get code (q + 4) ≡ Some instr.Content
      → Tested tables (slice_get code q) (slice_get code (q + 1)) (slice_get code (q + 2)) (slice_get code (q + 3))
  content_tests q there =
      let c : ℕ = q + 4 in
      let parts = both (nat_le 4 c && are_apart c (jumps_in code ++ entries))
      (are_tested tables (slice_get code (c - 4)) (slice_get code (c - 3)) (slice_get code (c - 2))
      (slice_get code (c - 1))) (content_keeps c there) in
      let a : q + 4 - 4 ≡ q = omega arith in
      let b : q + 4 - 3 ≡ q + 1 = omega arith in
      let d : q + 4 - 2 ≡ q + 2 = omega arith in
      let e : q + 4 - 1 ≡ q + 3 = omega arith in
      tested_there tables (slice_get code q) (slice_get code (q + 1)) (slice_get code (q + 2)) (slice_get code (q + 3))
      (subst (λ (n : ℕ). are_tested tables (slice_get code q) (slice_get code (q + 1)) (slice_get code (q + 2))
      (slice_get code n) ≡ true) e
      (subst (λ (n : ℕ). are_tested tables (slice_get code q) (slice_get code (q + 1)) (slice_get code n)
      (slice_get code (q + 4 - 1)) ≡ true) d
      (subst (λ (n : ℕ). are_tested tables (slice_get code q) (slice_get code n) (slice_get code (q + 4 - 2))
      (slice_get code (q + 4 - 1)) ≡ true) b
      (subst (λ (n : ℕ). are_tested tables (slice_get code n) (slice_get code (q + 4 - 3)) (slice_get code (q + 4 - 2))
      (slice_get code (q + 4 - 1)) ≡ true) a
      parts.1))))

  contents_far : (c t : ℕ) → not (nat_le c (t + 3) && nat_le t c) ≡ true → t ≤ c → c ≤ t + 3 → ⊥
  contents_far c t far low high = true≢false (sym far ∙ near)
    where
      near : not (nat_le c (t + 3) && nat_le t c) ≡ false
      near = grind (arith, nat_tests)

  -- where a jump leads is such a place, and where a scope or a function begins
  pub outer_jump : (k : ℕ) (i : Instr) (t : ℕ) → slice_get code k ≡ Some i → jump_of i ≡ Some t → Outer code t
  outer_jump k i t there jumps c content low high =
      contents_far c t
      (jump_tested (λ t. not (nat_le c (t + 3) && nat_le t c)) code k i t there jumps
      (all_front (λ t. not (nat_le c (t + 3) && nat_le t c)) (jumps_in code) entries (content_apart c content)))
      low high

  pub outer_entry : (k t : ℕ) → slice_get entries k ≡ Some t → Outer code t
  outer_entry k t there c content low high =
      contents_far c t
      (list_all_at (λ t. not (nat_le c (t + 3) && nat_le t c)) entries k t
      (all_back (λ t. not (nat_le c (t + 3) && nat_le t c)) (jumps_in code) entries (content_apart c content)) there)
      low high

  -- the following place, where no five instructions begin
  pub outer_on : (p : ℕ) → Outer code p → is_content (slice_get code (p + 4)) ≡ false → Outer code (p + 1)
  outer_on p outer plain c there low high =
      ⊎_elim (λ less. outer c there (omega arith) (omega arith))
      (λ most.
      let same : c ≡ p + 4 = omega arith in
      let yes : is_content (slice_get code (p + 4)) ≡ true = ap is_content (ap (slice_get code) (sym same) ∙ there) in
      true≢false (sym yes ∙ plain))
      (cases_lt c (p + 4))

  -- behind five such instructions no four of five begin
  pub outer_behind : (p : ℕ) → slice_get code (p + 4) ≡ Some instr.Content → Outer code (p + 5)
  outer_behind p there c content low high = by (c - (p + 5)) (omega arith) (omega arith)
    where
      told : Tested tables (slice_get code p) (slice_get code (p + 1)) (slice_get code (p + 2)) (slice_get code (p + 3))
      told = content_tests p there

      at : (q : ℕ) → c ≡ q + 4
          → Tested tables (slice_get code q) (slice_get code (q + 1)) (slice_get code (q + 2)) (slice_get code (q + 3))
      at q is = content_tests q (ap (slice_get code) (sym is) ∙ content)

      by : (d : ℕ) → c ≡ p + 5 + d → d ≤ 3 → ⊥
      by zero is less =
          let t = at (p + 1) (omega arith) in
          let e : instr.Local t.local ≡ instr.IsCase told.asked =
          same_some (instr.Local t.local) (instr.IsCase told.asked) (sym t.first ∙ told.second) in
          cc e
      by (suc zero) is less =
          let t = at (p + 2) (omega arith) in
          let e : instr.Local t.local ≡ instr.JumpFalse told.other =
          same_some (instr.Local t.local) (instr.JumpFalse told.other) (sym t.first ∙ told.third) in
          cc e
      by (suc (suc zero)) is less =
          let t = at (p + 3) (omega arith) in
          let place : p + 3 + 1 ≡ p + 4 = omega arith in
          let e : instr.IsCase t.asked ≡ instr.Content =
          same_some (instr.IsCase t.asked) instr.Content
          (sym (ap (slice_get code) (sym place) ∙ t.second) ∙ there) in
          cc e
      by (suc (suc (suc zero))) is less =
          let t = at (p + 4) (omega arith) in
          let e : instr.Local t.local ≡ instr.Content =
          same_some (instr.Local t.local) instr.Content (sym t.first ∙ there) in
          cc e
      by (suc (suc (suc (suc d)))) is less = absurd (omega arith)
