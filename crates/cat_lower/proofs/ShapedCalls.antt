-- The places of a scope call: each input of the scope is passed.
use Rattle.std.proofs.Common.{◌≡◌, ◌≤◌, ◌<◌, ℕ, zero, suc, ◌+◌, nat_eq, nat_lt, ◌&&◌, Bool, true, false, not}
use Rattle.std.proofs.Common.{true≢false, IsTrue, List, [], ◌∷◌, length, replicate, Option, Some, None, slice_get}
use Rattle.std.proofs.Common.{slice_set, refl, sym, ap, ◌∙◌, subst, arith, if◌then◌else◌}
use Rattle.std.proofs.lemmas.Bool.{eqb-true}
use Rattle.std.proofs.lemmas.Bool.Decides.{nat_tests}
use Rattle.cat_value.specs.declared.declaration.ItemDecl.{ItemDecl}
use Rattle.cat_value.specs.declared.declaration.Scope.{Scope}
use Rattle.cat_value.specs.Inputs.{must_be_given, outputs_in}
use Rattle.cat_scope.specs.Names.{is_in, inputs_given, items_in, scope_items}
use Rattle.cat_code.specs.declared.instr.Instr.{Instr}
use Rattle.cat_code.specs.declared.instr.Instr.TheVariants as instr
use Rattle.cat_code.specs.declared.code.Tables.{Tables}
use Rattle.cat_code.specs.Forms.{Form, Truth, form_at, slot_form, items_forms, outputs_form}
use Rattle.cat_code.specs.Shapes.{Owner, LoopShape, PendingShape, Shape}
use Rattle.cat_code.specs.Wanted.{is_pending_inside, are_passed}
use Rattle.cat_code.proofs.FormLaws.{same_self}
use Rattle.cat_lower.specs.Laying.{Coded, one, then_code, led}
use Rattle.cat_lower.specs.Pieces.{pass_all, absent_code, pass_absent, truth}
use Rattle.cat_lower.proofs.Sketches.{Takes, takes_one, takes_then, takes_nothing}
use Rattle.cat_lower.proofs.ShapedForms.{Deep, more, Stands, at, Gives, gives_truth}

-- ---- which slots something was passed to

pub set_here : (q : List Bool) (n : ℕ) → n < length q → slice_get (slice_set q n true) n ≡ Some true
set_here [] n less = absurd (omega arith)
set_here (b ∷ q) zero less = refl
set_here (b ∷ q) (suc n) less = set_here q n (omega arith)

pub set_still : (q : List Bool) (n j : ℕ) → slice_get q j ≡ Some true → slice_get (slice_set q n true) j ≡ Some true
set_still [] n j is = is
set_still (b ∷ q) zero zero is = refl
set_still (b ∷ q) zero (suc j) is = is
set_still (b ∷ q) (suc n) zero is = is
set_still (b ∷ q) (suc n) (suc j) is = set_still q n j is

pub set_length : (q : List Bool) (n : ℕ) → length (slice_set q n true) ≡ length q
set_length [] n = refl
set_length (b ∷ q) zero = refl
set_length (b ∷ q) (suc n) = ap suc (set_length q n)

abbrev pub passed_by : List ℕ → List Bool → List Bool
passed_by [] q = q
passed_by (n ∷ ns) q = passed_by ns (slice_set q n true)

passed_length : (ns : List ℕ) (q : List Bool) → length (passed_by ns q) ≡ length q
passed_length [] q = refl
passed_length (n ∷ ns) q = passed_length ns (slice_set q n true) ∙ set_length q n

passed_still : (ns : List ℕ) (q : List Bool) (j : ℕ) → slice_get q j ≡ Some true
    → slice_get (passed_by ns q) j ≡ Some true
passed_still [] q j is = is
passed_still (n ∷ ns) q j is = passed_still ns (slice_set q n true) j (set_still q n j is)

passed_so : (ns : List ℕ) (q : List Bool) (j : ℕ) → is_in j ns ≡ true → j < length q
    → slice_get (passed_by ns q) j ≡ Some true
passed_so [] q j among less = absurd (true≢false (sym among))
passed_so (n ∷ ns) q j among less =
    by (nat_eq j n) refl (passed_so ns (slice_set q n true) j)
  where
    by : (b : Bool) → nat_eq j n ≡ b
        → (is_in j ns ≡ true → j < length (slice_set q n true)
        → slice_get (passed_by ns (slice_set q n true)) j ≡ Some true)
        → slice_get (passed_by ns (slice_set q n true)) j ≡ Some true
    by true e later =
        let same = eqb-true j n e in
        passed_still ns (slice_set q n true) j
        (subst (λ m. slice_get (slice_set q m true) j ≡ Some true) same (set_here q j less))
    by false e later =
        let there : is_in j ns ≡ true = rw e at among in
        later there (subst (λ m. j < m) (sym (set_length q n)) less)

abbrev pub is_wanted : ItemDecl → ℕ → List ℕ → Bool
is_wanted item n given = must_be_given item.kind && item.condition && not (is_in n given)

-- false passed where it is wanted
abbrev pub absent_by : ℕ → List ℕ → List ItemDecl → List Bool → List Bool
absent_by n given [] q = q
absent_by n given (item ∷ items) q =
    absent_by (n + 1) given items
    (if must_be_given item.kind && item.condition && not (is_in n given) then slice_set q n true else q)

absent_one : (b : Bool) (q : List Bool) (n j : ℕ) → slice_get q j ≡ Some true
    → slice_get (if b then slice_set q n true else q) j ≡ Some true
absent_one true q n j is = set_still q n j is
absent_one false q n j is = is

absent_length : (b : Bool) (q : List Bool) (n : ℕ) → length (if b then slice_set q n true else q) ≡ length q
absent_length true q n = set_length q n
absent_length false q n = refl

absent_still : (n : ℕ) (given : List ℕ) (items : List ItemDecl) (q : List Bool) (j : ℕ) → slice_get q j ≡ Some true
    → slice_get (absent_by n given items q) j ≡ Some true
absent_still n given [] q j is = is
absent_still n given (item ∷ items) q j is =
    absent_still (n + 1) given items _ j
    (absent_one (must_be_given item.kind && item.condition && not (is_in n given)) q n j is)

-- what is passed in the end, item by item
wanted_passed : (n : ℕ) (given : List ℕ) (items : List ItemDecl) (q : List Bool) → IsTrue (inputs_given n items given)
    → ((j : ℕ) → is_in j given ≡ true → j < length q → slice_get q j ≡ Some true) → n + length items ≡ length q
    → (k : ℕ) (item : ItemDecl) → slice_get items k ≡ Some item → must_be_given item.kind ≡ true
    → slice_get (absent_by n given items q) (n + k) ≡ Some true
wanted_passed n given [] q so there long k item is must = absurd (cc is)
wanted_passed n given (x ∷ items) q so there long zero item is must =
    let same : x ≡ item = cc is in
    let e : n + 0 ≡ n = omega arith in
    let must_x : must_be_given x.kind ≡ true = ap (λ (i : ItemDecl). must_be_given i.kind) same ∙ must in
    let less : n < length q = omega (arith, long) in
    ap (λ m. slice_get (absent_by n given (x ∷ items) q) m) e
    ∙ absent_still (n + 1) given items _ n (by (must_be_given x.kind) must_x x.condition (is_in n given) refl less so)
  where
    by : (m : Bool) → m ≡ true → (c : Bool) (b : Bool) → is_in n given ≡ b → n < length q
        → IsTrue ((if m && not c then b else true) && inputs_given (n + 1) items given)
        → slice_get (if m && c && not b then slice_set q n true else q) n ≡ Some true
    by true e true true among less so = there n among less
    by true e true false among less so = set_here q n less
    by true e false true among less so = there n among less
    by true e false false among less so = absurd (true≢false (sym so))
    by false e c b among less so = absurd (true≢false (sym e))
wanted_passed n given (x ∷ items) q so there long (suc k) item is must =
    let e : n + suc k ≡ (n + 1) + k = omega arith in
    let b = must_be_given x.kind && x.condition && not (is_in n given) in
    let q1 = if b then slice_set q n true else q in
    ap (λ m. slice_get (absent_by (n + 1) given items q1) m) e
    ∙ wanted_passed (n + 1) given items q1
    (last (if must_be_given x.kind && not x.condition then is_in n given else true) so)
    (λ j among less. absent_one b q n j (there j among (subst (λ m. j < m) (absent_length b q n) less)))
    (omega (arith, long, absent_length b q n)) k item is must
  where
    last : (a : Bool) → IsTrue (a && inputs_given (n + 1) items given) → IsTrue (inputs_given (n + 1) items given)
    last true so = so
    last false so = absurd (true≢false (sym so))

pub passed_each : (items : List ItemDecl) (q : List Bool) → length items ≡ length q
    → ((k : ℕ) (item : ItemDecl) → slice_get items k ≡ Some item → must_be_given item.kind ≡ true
    → slice_get q k ≡ Some true)
    → are_passed items q ≡ true
passed_each [] q long each = refl
passed_each (item ∷ items) [] long each = absurd (omega (arith, long))
passed_each (item ∷ items) (true ∷ q) long each =
    passed_each items q (omega (arith, long)) (λ k i is must. each (suc k) i is must)
passed_each (item ∷ items) (false ∷ q) long each =
    by (must_be_given item.kind) refl
    (passed_each items q (omega (arith, long)) (λ k i is must. each (suc k) i is must))
  where
    by : (b : Bool) → must_be_given item.kind ≡ b → are_passed items q ≡ true → (not b && are_passed items q) ≡ true
    by true e rest = let no : Some false ≡ Some true = each 0 item refl e in absurd (cc no)
    by false e rest = rest

pub none_passed : (items : List ItemDecl) → length (replicate (length items) false) ≡ length items
none_passed [] = refl
none_passed (item ∷ items) = ap suc (none_passed items)

absent_all_length : (n : ℕ) (given : List ℕ) (items : List ItemDecl) (q : List Bool)
    → length (absent_by n given items q) ≡ length q
absent_all_length n given [] q = refl
absent_all_length n given (item ∷ items) q =
    absent_all_length (n + 1) given items _
    ∙ absent_length (must_be_given item.kind && item.condition && not (is_in n given)) q n

zero_before : (k : ℕ) → 0 + k ≡ k
zero_before k = omega arith

-- all inputs of a scope call are passed
pub all_passed : (given : List ℕ) (items : List ItemDecl) → IsTrue (inputs_given 0 items given)
    → are_passed items (absent_by 0 given items (passed_by given (replicate (length items) false))) ≡ true
all_passed given items so =
    let q = replicate (length items) false in
    let long : length (passed_by given q) ≡ length items = passed_length given q ∙ none_passed items in
    passed_each items (absent_by 0 given items (passed_by given q))
    (sym (absent_all_length 0 given items (passed_by given q) ∙ long))
    (λ k item is must.
    ap (λ m. slice_get (absent_by 0 given items (passed_by given q)) m) (sym (zero_before k))
    ∙ wanted_passed 0 given items (passed_by given q) so
    (λ j among less. passed_so given q j among (subst (λ m. j < m) (passed_length given q) less))
    (omega (arith, long)) k item is must)

module _ (tables : Tables) (code : List Instr) (Calls : Owner → Owner → Type 0) (entry : ℕ → Shape) (owner : Owner)
    (filled : List Bool) where
  abbrev G : Coded → List Form → Form → Type 0
  G a ls t = Gives tables code Calls entry owner filled a ls t

  abbrev A : List Form → Deep → Shape
  A ls d = at tables code Calls entry owner filled ls d

  abbrev T : Coded → Shape → Shape → Type 0
  T a s t = Takes tables code Calls entry a s t

  -- with a scope that something was passed to
  abbrev pub waiting : ℕ → List Bool → Deep → Deep
  waiting s q d = record d { pending = record { scope = s; passed = q } ∷ d.pending }

  inside_so : (loops : List LoopShape) (q : PendingShape) (pending : List PendingShape) → Stands loops pending
      → is_pending_inside loops (q ∷ pending) ≡ true
  inside_so [] q pending stands = refl
  inside_so (l ∷ ls) q pending stands = lower l.pending (length pending) stands
    where
      lower : (a b : ℕ) → a ≤ b → nat_lt a (suc b) ≡ true
      lower a b less = grind (arith, nat_tests)

  pub stands_more : (loops : List LoopShape) (q : PendingShape) (pending : List PendingShape) → Stands loops pending
      → Stands loops (q ∷ pending)
  stands_more [] q pending stands = tt
  stands_more (l ∷ ls) q pending stands = omega (arith, stands)

  -- a value is passed to an item of its type
  pub takes_pass : (s n : ℕ) (t : Form) (q : List Bool) (ls : List Form) (d : Deep) → Stands d.loops d.pending
      → slot_form tables.decls s n ≡ Some t
      → T (one (instr.Pass n)) (A ls (more t (waiting s q d))) (A ls (waiting s (slice_set q n true) d))
  takes_pass s n t q ls d stands is =
      takes_one tables code Calls entry (instr.Pass n) (A ls (more t (waiting s q d)))
      (A ls (waiting s (slice_set q n true) d))
      (λ p. let inner = inside_so d.loops (record { scope = s; passed = q }) d.pending stands in
      let same = same_self t in rw (inner, is, same) refl)
      (λ all p. (tt, (refl, (tt, tt))))

  -- values that are passed to items
  abbrev pub Passes : ℕ → List (ℕ × Coded) → List Form → Type 0
  Passes s [] ls = Unit {0}
  Passes s (f ∷ fs) ls = ((t : Form) × (slot_form tables.decls s f.0 ≡ Some t) × G f.1 ls t) × Passes s fs ls

  abbrev pub numbers_in : List (ℕ × Coded) → List ℕ
  numbers_in [] = []
  numbers_in (f ∷ fs) = f.0 ∷ numbers_in fs

  takes_pass_all : (s : ℕ) (fs : List (ℕ × Coded)) (q : List Bool) (ls : List Form) (d : Deep)
      → Stands d.loops d.pending → Passes s fs ls
      → T (pass_all fs) (A ls (waiting s q d)) (A ls (waiting s (passed_by (numbers_in fs) q) d))
  takes_pass_all s [] q ls d stands h = takes_nothing tables code Calls entry (A ls (waiting s q d))
  takes_pass_all s (f ∷ fs) q ls d stands h =
      let w = waiting s q d in
      let w1 = waiting s (slice_set q f.0 true) d in
      let into = A ls (waiting s (passed_by (numbers_in fs) (slice_set q f.0 true)) d) in
      takes_then tables code Calls entry f.1 (led (instr.Pass f.0) (pass_all fs)) (A ls w) (A ls (more h.0.0 w)) into
      (h.0.2 w (stands_more d.loops (record { scope = s; passed = q }) d.pending stands))
      (takes_then tables code Calls entry (one (instr.Pass f.0)) (pass_all fs) (A ls (more h.0.0 w)) (A ls w1) into
      (takes_pass s f.0 h.0.0 q ls d stands h.0.1) (takes_pass_all s fs (slice_set q f.0 true) ls d stands h.1))

  -- false is passed to conditions
  takes_absent : (s n : ℕ) (given : List ℕ) (items : List ItemDecl) (q : List Bool) (ls : List Form) (d : Deep)
      → Stands d.loops d.pending
      → ((k : ℕ) (item : ItemDecl) → slice_get items k ≡ Some item → must_be_given item.kind ≡ true
      → item.condition ≡ true → slot_form tables.decls s (n + k) ≡ Some Truth)
      → T (pass_absent n given items) (A ls (waiting s q d)) (A ls (waiting s (absent_by n given items q) d))
  takes_absent s n given [] q ls d stands boolean = takes_nothing tables code Calls entry (A ls (waiting s q d))
  takes_absent s n given (item ∷ items) q ls d stands boolean =
      takes_then tables code Calls entry (absent_code (is_wanted item n given) n) (pass_absent (n + 1) given items)
      (A ls (waiting s q d))
      (A ls (waiting s (if is_wanted item n given then slice_set q n true else q) d))
      (A ls (waiting s (absent_by (n + 1) given items (if is_wanted item n given then slice_set q n true else q)) d))
      (by (is_wanted item n given) is_so)
      (takes_absent s (n + 1) given items (if is_wanted item n given then slice_set q n true else q) ls d stands
      (λ k i is must condition. let e : (n + 1) + k ≡ n + suc k = omega arith in
      ap (λ m. slot_form tables.decls s m) e ∙ boolean (suc k) i is must condition))
    where
      is_so : is_wanted item n given ≡ true → slot_form tables.decls s n ≡ Some Truth
      is_so e =
          let parts = two (must_be_given item.kind) item.condition (not (is_in n given)) e in
          let z : n ≡ n + 0 = omega arith in
          ap (λ m. slot_form tables.decls s m) z ∙ boolean 0 item refl parts.0 parts.1
        where
          two : (a b c : Bool) → (a && b && c) ≡ true → (a ≡ true) × (b ≡ true)
          two true true c e = (refl, refl)
          two true false c e = absurd (true≢false (sym e))
          two false b c e = absurd (true≢false (sym e))

      by : (c : Bool) → (c ≡ true → slot_form tables.decls s n ≡ Some Truth)
          → T (absent_code c n) (A ls (waiting s q d)) (A ls (waiting s (if c then slice_set q n true else q) d))
      by true form =
          let w = waiting s q d in
          takes_then tables code Calls entry (truth false) (one (instr.Pass n)) (A ls w) (A ls (more Truth w))
          (A ls (waiting s (slice_set q n true) d))
          (gives_truth tables code Calls entry owner filled false ls w
          (stands_more d.loops (record { scope = s; passed = q }) d.pending stands))
          (takes_pass s n Truth q ls d stands (form refl))
      by false form = takes_nothing tables code Calls entry (A ls (waiting s q d))

  -- a scope that may be called from here
  pub record IsReached (s : ℕ) : Type 0 where
    pub scope : Scope
    pub is : slice_get tables.decls.scopes s ≡ Some scope
    pub may : Calls owner (record { scope = s; function = None })
    pub boolean : (k : ℕ) (item : ItemDecl) → slice_get scope.items k ≡ Some item → must_be_given item.kind ≡ true
        → item.condition ≡ true
        → slot_form tables.decls s k ≡ Some Truth

  pub takes_scope : (s : ℕ) (scope : Scope) (ls : List Form) (d : Deep) → slice_get tables.decls.scopes s ≡ Some scope
      → Calls owner (record { scope = s; function = None })
      → T (one (instr.Scope s)) (A ls d) (A ls (waiting s (replicate (length scope.items) false) d))
  takes_scope s scope ls d is may =
      takes_one tables code Calls entry (instr.Scope s) (A ls d)
      (A ls (waiting s (replicate (length scope.items) false) d))
      (λ p. rw is refl) (λ all p. (tt, (refl, (tt, may))))

  pub takes_enter : (s : ℕ) (scope : Scope) (q : List Bool) (ls : List Form) (d : Deep) → Stands d.loops d.pending
      → slice_get tables.decls.scopes s ≡ Some scope → are_passed scope.items q ≡ true
      → T (one instr.Enter) (A ls (waiting s q d)) (A ls (more (outputs_form tables.decls s) d))
  takes_enter s scope q ls d stands is passed =
      takes_one tables code Calls entry instr.Enter (A ls (waiting s q d)) (A ls (more (outputs_form tables.decls s) d))
      (λ p.
      let inner = inside_so d.loops (record { scope = s; passed = q }) d.pending stands in
      let all : are_passed (scope_items tables.decls s) q ≡ true =
      ap (λ (o : Option Scope). are_passed (items_in o) q) is ∙ passed in
      rw (inner, all) refl)
      (λ all p. (tt, (refl, (tt, tt))))

  pub gives_scope_call : (s k : ℕ) (fs : List (ℕ × Coded)) (given : List ℕ) (t : Form) (ls : List Form) → IsReached s
      → numbers_in fs ≡ given → Passes s fs ls
      → IsTrue (inputs_given 0 (scope_items tables.decls s) given)
      → form_at (items_forms tables.decls (outputs_in (scope_items tables.decls s))) k ≡ Some t
      → G (led (instr.Scope s)
      (then_code (pass_all fs)
      (then_code (pass_absent 0 given (scope_items tables.decls s)) (led instr.Enter (one (instr.Field k)))))) ls t
  gives_scope_call s k fs given t ls c numbers h so output d stands =
      let items = scope_items tables.decls s in
      let same : items ≡ c.scope.items = ap items_in c.is in
      let q0 = replicate (length c.scope.items) false in
      let q1 = passed_by (numbers_in fs) q0 in
      let q2 = absent_by 0 given items q1 in
      let done : are_passed c.scope.items q2 ≡ true
      = ap (λ (ns : List ℕ). are_passed c.scope.items (absent_by 0 given items (passed_by ns q0))) numbers
      ∙ ap (λ (l : List ItemDecl). are_passed c.scope.items (absent_by 0 given l (passed_by given q0))) same
      ∙ all_passed given c.scope.items (subst (λ (l : List ItemDecl). IsTrue (inputs_given 0 l given)) same so) in
      let into = A ls (more t d) in
      takes_then tables code Calls entry (one (instr.Scope s)) _ (A ls d) (A ls (waiting s q0 d)) into
      (takes_scope s c.scope ls d c.is c.may)
      (takes_then tables code Calls entry (pass_all fs) _ (A ls (waiting s q0 d)) (A ls (waiting s q1 d)) into
      (takes_pass_all s fs q0 ls d stands h)
      (takes_then tables code Calls entry (pass_absent 0 given items) _ (A ls (waiting s q1 d))
      (A ls (waiting s q2 d)) into
      (takes_absent s 0 given items q1 ls d stands
      (λ j item is must condition.
      ap (λ m. slot_form tables.decls s m) (zero_before j)
      ∙ c.boolean j item (ap (λ (l : List ItemDecl). slice_get l j) (sym same) ∙ is) must condition))
      (takes_then tables code Calls entry (one instr.Enter) (one (instr.Field k)) (A ls (waiting s q2 d))
      (A ls (more (outputs_form tables.decls s) d)) into
      (takes_enter s c.scope q2 ls d stands c.is done)
      (takes_one tables code Calls entry (instr.Field k) (A ls (more (outputs_form tables.decls s) d)) into
      (λ p. rw output refl) (λ all p. (tt, (refl, (tt, tt))))))))
