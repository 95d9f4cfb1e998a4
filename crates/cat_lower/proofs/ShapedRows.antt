-- The places of the forms of expression that have parts in a row: lists, calls and structures.
use Rattle.std.proofs.Common.{◌≡◌, ◌≤◌, ◌<◌, ℕ, zero, suc, ◌+◌, ◌-◌, nat_eq, nat_le, ◌&&◌, Bool, true, false, IsTrue}
use Rattle.std.proofs.Common.{List, [], ◌∷◌, ◌++◌, length, map, Some, slice_get, refl, sym, ap, ◌∙◌}
use Rattle.std.proofs.Common.{subst, arith, append_assoc, true≢false}
use Rattle.std.proofs.lemmas.Bool.{eq-eqb, eqb-true}
use Rattle.std.proofs.lemmas.Bool.Decides.{nat_tests}
use Rattle.std.proofs.lemmas.Option.{slice_get_within}
use Rattle.cat_value.specs.declared.ty.Ty.{Ty}
use Rattle.cat_value.specs.declared.declaration.Field.{Field}
use Rattle.cat_scope.specs.Names.{is_in}
use Rattle.cat_code.specs.declared.instr.Instr.{Instr}
use Rattle.cat_code.specs.declared.instr.Instr.TheVariants as instr
use Rattle.cat_code.specs.declared.code.Tables.{Tables}
use Rattle.cat_code.specs.Forms.{Form, Forms, More, Many, Fields, in_row, form_at, forms_in}
use Rattle.cat_code.specs.Shapes.{Owner, Shape, Meets}
use Rattle.cat_code.specs.Places.{FunctionPlace, function_places}
use Rattle.cat_code.specs.Wanted.{all_same, are_params}
use Rattle.cat_code.specs.Leads.{Flow, leads, leads_two, popped, pushed}
use Rattle.cat_code.specs.Flow.{flow}
use Rattle.cat_lower.specs.Laying.{Coded, nothing, one, then_code, led}
use Rattle.cat_lower.specs.Pieces.{index_of, are_counted, bind_all, picked, packed, packed_by}
use Rattle.cat_lower.proofs.Stacks.{append_none, length_map}
use Rattle.cat_lower.proofs.DoingRows.{back_read}
use Rattle.cat_lower.proofs.Spots.{Arrives, met_by}
use Rattle.cat_lower.proofs.Sketches.{Takes, takes_one, takes_then, takes_nothing, sketch_step}
use Rattle.cat_lower.proofs.FormLaws.{params_are, at_forms}
use Rattle.cat_lower.proofs.ShapedForms.{Deep, more, Stands, at, Gives, form as form_by}
use Rattle.cat_lower.proofs.ShapedLoops.{takes_bind, takes_drop}

-- some more operands, the last on top
abbrev pub stacked : List Form → List Form → List Form
stacked [] ops = ops
stacked (t ∷ ts) ops = stacked ts (t ∷ ops)

abbrev pub more_all : List Form → Deep → Deep
more_all ts d = record d { operands = stacked ts d.operands }

abbrev counted : List Form → ℕ → ℕ
counted [] n = n
counted (t ∷ ts) n = counted ts (suc n)

counted_is : (ts : List Form) (n : ℕ) → counted ts n ≡ length ts + n
counted_is [] n = omega arith
counted_is (t ∷ ts) n = omega (arith, counted_is ts (suc n))

popped_over : (ts us : List Form) (n : ℕ) (s : Shape) (ops : List Form) (go : List Form → Shape → Flow)
    → popped (counted ts n) us s (stacked ts ops) go ≡ popped n (ts ++ us) s ops go
popped_over [] us n s ops go = refl
popped_over (t ∷ ts) us n s ops go = popped_over ts us (suc n) s (t ∷ ops) go

-- what was pushed is popped in its order
pub popped_all : (ts : List Form) (n : ℕ) (s : Shape) (ops : List Form) (go : List Form → Shape → Flow) → length ts ≡ n
    → popped n [] s (stacked ts ops) go ≡ go ts (record s { operands = ops })
popped_all ts n s ops go is =
    let many : n ≡ counted ts 0 = omega (arith, is, counted_is ts 0) in
    ap (λ m. popped m [] s (stacked ts ops) go) many ∙ popped_over ts [] 0 s ops go
    ∙ ap (λ (l : List Form). go l (record s { operands = ops })) (append_none ts)

stacked_back : (ts us ops : List Form) → stacked ts (us ++ ops) ≡ stacked ts us ++ ops
stacked_back [] us ops = refl
stacked_back (t ∷ ts) us ops = stacked_back ts (t ∷ us) ops

length_stacked : (ts us : List Form) → length (stacked ts us) ≡ length ts + length us
length_stacked [] us = omega arith
length_stacked (t ∷ ts) us = omega (arith, length_stacked ts (t ∷ us))

-- the j-th of some operands, counted from the last
stacked_read : (ts us : List Form) (j : ℕ) (t : Form) → slice_get ts j ≡ Some t
    → slice_get (stacked ts us) (length ts - suc j) ≡ Some t
stacked_read [] us j t is = absurd (cc is)
stacked_read (x ∷ ts) us zero t is =
    let same : x ≡ t = cc is in
    let k : length (x ∷ ts) - suc zero ≡ length ts = omega arith in
    ap (λ n. slice_get (stacked ts (x ∷ us)) n) k ∙ behind ts ∙ ap (λ (y : Form). Some y) same
  where
    under : (ts us : List Form) (n : ℕ) → slice_get (stacked ts us) (length ts + n) ≡ slice_get us n
    under [] us n = let e : length {A = Form} [] + n ≡ n = omega arith in ap (λ m. slice_get us m) e
    under (y ∷ ts) us n =
        let e : length (y ∷ ts) + n ≡ length ts + suc n = omega arith in
        ap (λ m. slice_get (stacked ts (y ∷ us)) m) e ∙ under ts (y ∷ us) (suc n)

    behind : (ts : List Form) → slice_get (stacked ts (x ∷ us)) (length ts) ≡ Some x
    behind ts = let e : length ts ≡ length ts + 0 = omega arith in
        ap (λ m. slice_get (stacked ts (x ∷ us)) m) e ∙ under ts (x ∷ us) 0
stacked_read (x ∷ ts) us (suc j) t is =
    let k : length (x ∷ ts) - suc (suc j) ≡ length ts - suc j = omega arith in
    ap (λ n. slice_get (stacked ts (x ∷ us)) n) k ∙ stacked_read ts (x ∷ us) j t is

zero_behind : (n : ℕ) → n + length {A = Form} [] ≡ n
zero_behind n = omega arith

-- values of these types belong to these numbers
abbrev pub Belong : Forms → List ℕ → List Form → Type 0
Belong all [] [] = Unit {0}
Belong all [] (t ∷ ts) = ⊥
Belong all (n ∷ ns) [] = ⊥
Belong all (n ∷ ns) (t ∷ ts) = (form_at all n ≡ Some t) × Belong all ns ts

as_many : (all : Forms) (ns : List ℕ) (ts : List Form) → Belong all ns ts → length ts ≡ length ns
as_many all [] [] h = refl
as_many all [] (t ∷ ts) h = absurd h
as_many all (n ∷ ns) [] h = absurd h
as_many all (n ∷ ns) (t ∷ ts) h = ap suc (as_many all ns ts h.1)

-- the value of a number that is there
belongs : (all : Forms) (ns : List ℕ) (ts : List Form) (k : ℕ) → Belong all ns ts → is_in k ns ≡ true
    → (t : Form) × (slice_get ts (index_of k ns) ≡ Some t) × (form_at all k ≡ Some t)
belongs all [] ts k h among = absurd (true≢false (sym among))
belongs all (n ∷ ns) [] k h among = absurd h
belongs all (n ∷ ns) (t ∷ ts) k h among = by (nat_eq k n) refl (belongs all ns ts k h.1)
  where
    by : (b : Bool) → nat_eq k n ≡ b
        → (is_in k ns ≡ true → (t : Form) × (slice_get ts (index_of k ns) ≡ Some t) × (form_at all k ≡ Some t))
        → (u : Form) × (slice_get (t ∷ ts) (index_of k (n ∷ ns)) ≡ Some u) × (form_at all k ≡ Some u)
    by true e later = (t, rw e refl, ap (form_at all) (eqb-true k n e) ∙ h.0)
    by false e later =
        let there : is_in k ns ≡ true = rw e at among in
        let found = later there in
        (found.0, rw e found.1, found.2)

-- the index of a number that is there
index_below : (ns : List ℕ) (k : ℕ) → is_in k ns ≡ true → suc (index_of k ns) ≤ length ns
index_below [] k among = absurd (true≢false (sym among))
index_below (n ∷ ns) k among = by (nat_eq k n) refl (index_below ns k)
  where
    by : (b : Bool) → nat_eq k n ≡ b → (is_in k ns ≡ true → suc (index_of k ns) ≤ length ns)
        → suc (index_of k (n ∷ ns)) ≤ length (n ∷ ns)
    by true e later = rw e (omega arith)
    by false e later = let there : is_in k ns ≡ true = rw e at among in rw e (omega (arith, later there))

module _ (tables : Tables) (code : List Instr) (Calls : Owner → Owner → Type 0) (entry : ℕ → Shape) (owner : Owner)
    (filled : List Bool) where
  abbrev G : Coded → List Form → Form → Type 0
  G a ls t = Gives tables code Calls entry owner filled a ls t

  abbrev A : List Form → Deep → Shape
  A ls d = at tables code Calls entry owner filled ls d

  abbrev T : Coded → Shape → Shape → Type 0
  T a s t = Takes tables code Calls entry a s t

  abbrev F : Ty → Form
  F t = form_by tables code Calls entry owner filled t

  -- code that pushes some values
  abbrev pub GivesAll : Coded → List Form → List Form → Type 0
  GivesAll a ls ts = (d : Deep) → Stands d.loops d.pending → T a (A ls d) (A ls (more_all ts d))

  pub all_none : (ls : List Form) → GivesAll nothing ls []
  all_none ls d stands = takes_nothing tables code Calls entry (A ls d)

  pub all_more : (a b : Coded) (ls : List Form) (t : Form) (ts : List Form) → G a ls t → GivesAll b ls ts
      → GivesAll (then_code a b) ls (t ∷ ts)
  all_more a b ls t ts ga gb d stands =
      takes_then tables code Calls entry a b (A ls d) (A ls (more t d)) (A ls (more_all ts (more t d))) (ga d stands)
      (gb (more t d) stands)

  pub gives_listed : (a : Coded) (n : ℕ) (ls : List Form) (t : Form) (ts : List Form) → length (t ∷ ts) ≡ n
      → all_same t ts ≡ true
      → GivesAll a ls (t ∷ ts) → G (then_code a (one (instr.List n))) ls (Many t)
  gives_listed a n ls t ts long same given d stands =
      takes_then tables code Calls entry a (one (instr.List n)) (A ls d) (A ls (more_all (t ∷ ts) d))
      (A ls (more (Many t) d)) (given d stands)
      (takes_one tables code Calls entry (instr.List n) (A ls (more_all (t ∷ ts) d)) (A ls (more (Many t) d))
      (λ p. popped_all (t ∷ ts) n (A ls (more_all (t ∷ ts) d)) d.operands _ long ∙ rw same refl)
      (λ all p. (tt, (subst (λ m. IsTrue (nat_le 1 m)) long (some (length ts)), (tt, tt)))))
    where
      some : (m : ℕ) → nat_le 1 (suc m) ≡ true
      some m = grind (arith, nat_tests)

  pub takes_pack : (n : ℕ) (ls ts : List Form) (d : Deep) → length ts ≡ n
      → T (one (instr.Pack n)) (A ls (more_all ts d)) (A ls (more (Fields (in_row ts)) d))
  takes_pack n ls ts d long =
      takes_one tables code Calls entry (instr.Pack n) (A ls (more_all ts d)) (A ls (more (Fields (in_row ts)) d))
      (λ p. popped_all ts n (A ls (more_all ts d)) d.operands
      (λ us s. leads (p + 1) (pushed (Fields (in_row us)) s)) long)
      (λ all p. (tt, (refl, (tt, tt))))

  -- ---- calls

  -- the entry of a function
  abbrev pub begun : ℕ → FunctionPlace → Shape
  begun f place = record {
    owner = record { scope = place.scope; function = Some f };
    operands = [];
    locals = map F place.decl.params;
    filled = filled;
    defaults = [];
    loops = [];
    pending = [];
  }

  -- a function that may be called from here
  pub record IsCallable (f : ℕ) (params : List Ty) (t : Ty) : Type 0 where
    pub place : FunctionPlace
    pub is_place : slice_get (function_places tables.decls) f ≡ Some place
    pub begin : ℕ
    pub is_entry : slice_get tables.functions f ≡ Some begin
    pub scope : place.scope ≡ owner.scope
    pub params_are : place.decl.params ≡ params
    pub ty_is : place.decl.ty ≡ t
    pub meets : Meets (begun f place) (entry f)
    pub may : Calls owner (record { scope = owner.scope; function = Some f })

  pub gives_call : (a : Coded) (f n : ℕ) (params : List Ty) (t : Ty) (ls : List Form) → IsCallable f params t
      → length params ≡ n
      → GivesAll a ls (map F params) → G (then_code a (one (instr.Call f n))) ls (F t)
  gives_call a f n params t ls c long given d stands =
      takes_then tables code Calls entry a (one (instr.Call f n)) (A ls d) (A ls (more_all (map F params) d))
      (A ls (more (F t) d)) (given d stands)
      (λ ends has. sketch_step tables code Calls entry ends (instr.Call f n) [] [] (A ls (more_all (map F params) d))
      (λ all. Arrives all (ends.place + 1) (A ls (more (F t) d)))
      ((ends.place + 1, A ls (more (F t) d)) ∷ (c.begin, begun f c.place) ∷ []) (flows ends.place) tt
      (λ all known after. (
        after.0,
        (met_by all c.begin (begun f c.place) (entry f) c.meets (known f c.begin c.is_entry), tt),
      ))
      (λ all after. (tt, (refl, (tt, c.may)))))
    where
      flows : (p : ℕ) → flow tables code (instr.Call f n) p (A ls (more_all (map F params) d))
          ≡ leads_two (p + 1) (A ls (more (F t) d)) c.begin (begun f c.place)
      flows p =
          let here = eq-eqb c.place.scope owner.scope c.scope in
          let many =
          eq-eqb n (length c.place.decl.params) (sym long ∙ ap (λ (l : List Ty). length l) (sym c.params_are)) in
          let fit : are_params F c.place.decl.params (map F params) ≡ true
          = ap (λ (l : List Ty). are_params F c.place.decl.params (map F l)) (sym c.params_are)
          ∙ params_are F c.place.decl.params in
          rw (c.is_place, c.is_entry, here, many)
          (popped_all (map F params) n (A ls (more_all (map F params) d)) d.operands _ (length_map F params ∙ long)
          ∙ rw fit (ap (λ (u : Ty). leads_two (p + 1) (A ls (more (F u) d)) c.begin (begun f c.place)) c.ty_is))

  -- ---- structures

  -- values of fields become local names, the last one first
  takes_all_bound : (st ls : List Form) (d : Deep)
      → T (bind_all (length st)) (A ls (record d { operands = st ++ d.operands })) (A (ls ++ st) d)
  takes_all_bound [] ls d =
      subst (λ (l : List Form). T nothing (A ls d) (A l d)) (sym (append_none ls))
      (takes_nothing tables code Calls entry (A ls d))
  takes_all_bound (t ∷ st) ls d =
      subst (λ (l : List Form). T (bind_all (length (t ∷ st))) (A ls (record d { operands = (t ∷ st) ++ d.operands }))
      (A l d)) (append_assoc ls (t ∷ []) st)
      (takes_then tables code Calls entry (one instr.Bind) (bind_all (length st))
      (A ls (record d { operands = t ∷ (st ++ d.operands) }))
      (A (ls ++ t ∷ []) (record d { operands = st ++ d.operands })) (A ((ls ++ t ∷ []) ++ st) d)
      (takes_bind tables code Calls entry owner filled ls t (record d { operands = st ++ d.operands }))
      (takes_all_bound st (ls ++ t ∷ []) d))

  abbrev forms_out : List Field → List Form
  forms_out fields = map (λ (f : Field). F f.ty) fields

  forms_from : (fields : List Field) → in_row (map (λ (f : Field). F f.ty) fields) ≡ forms_in F fields
  forms_from [] = refl
  forms_from (f ∷ fields) = ap (λ (ts : Forms). More (F f.ty) ts) (forms_from fields)

  -- each local name is taken by its index
  takes_picked : (L : List Form) (i : ℕ) (ns : List ℕ) (fields : List Field) (k : ℕ)
      → ((j : ℕ) (f : Field) → slice_get fields j ≡ Some f
      → slice_get L (i + (length ns - suc (index_of (k + j) ns))) ≡ Some (F f.ty))
      → GivesAll (picked i ns k (length fields)) L (map (λ (f : Field). F f.ty) fields)
  takes_picked L i ns [] k read = all_none L
  takes_picked L i ns (f ∷ fields) k read =
      all_more (one (instr.Local (i + (length ns - suc (index_of k ns))))) (picked i ns (k + 1) (length fields)) L
      (F f.ty) (map (λ (f : Field). F f.ty) fields)
      (λ d stands. takes_one tables code Calls entry (instr.Local (i + (length ns - suc (index_of k ns)))) (A L d)
      (A L (more (F f.ty) d))
      (λ p. let there = first in rw there refl) (λ all p. (tt, (refl, (tt, tt)))))
      (takes_picked L i ns fields (k + 1) (λ j g is.
      let e : (k + 1) + j ≡ k + suc j = omega arith in
      ap (λ m. slice_get L (i + (length ns - suc (index_of m ns)))) e ∙ read (suc j) g is))
    where
      first : slice_get L (i + (length ns - suc (index_of k ns))) ≡ Some (F f.ty)
      first = let e : k ≡ k + 0 = omega arith in
          ap (λ m. slice_get L (i + (length ns - suc (index_of m ns)))) e ∙ read 0 f refl

  -- numbers that are counted are those of the fields in their order
  in_order : (all : Forms) (k : ℕ) (ns : List ℕ) (ts : List Form) (fields : List Field) → are_counted k ns ≡ true
      → Belong all ns ts
      → length ns ≡ length fields
      → ((j : ℕ) (f : Field) → slice_get fields j ≡ Some f → form_at all (k + j) ≡ Some (F f.ty))
      → in_row ts ≡ forms_in F fields
  in_order all k [] [] [] so h long there = refl
  in_order all k [] [] (f ∷ fields) so h long there = absurd (omega (arith, long))
  in_order all k [] (t ∷ ts) fields so h long there = absurd h
  in_order all k (n ∷ ns) [] fields so h long there = absurd h
  in_order all k (n ∷ ns) (t ∷ ts) [] so h long there = absurd (omega (arith, long))
  in_order all k (n ∷ ns) (t ∷ ts) (f ∷ fields) so h long there =
      let parts = two (nat_eq k n) (are_counted (k + 1) ns) so in
      let e : k ≡ k + 0 = omega arith in
      let same : Some t ≡ Some (F f.ty) =
      sym h.0 ∙ ap (form_at all) (sym (eqb-true k n parts.0) ∙ e) ∙ there 0 f refl in
      let is : t ≡ F f.ty = cc same in
      ap (λ (u : Form). More u (in_row ts)) is
      ∙ ap (λ (us : Forms). More (F f.ty) us)
      (in_order all (k + 1) ns ts fields parts.1 h.1 (omega (arith, long)) (λ j g at.
      let e : (k + 1) + j ≡ k + suc j = omega arith in ap (form_at all) e ∙ there (suc j) g at))
    where
      two : (a b : Bool) → (a && b) ≡ true → (a ≡ true) × (b ≡ true)
      two true b e = (refl, e)
      two false b e = absurd (true≢false (sym e))

  -- a structure of values that are there
  pub gives_structure : (a : Coded) (i : ℕ) (ns : List ℕ) (ts : List Form) (fields : List Field) (ls : List Form)
      → i ≡ length ls
      → Belong (forms_in F fields) ns ts → length ns ≡ length fields → ((j : ℕ) → j < length fields → is_in j ns ≡ true)
      → GivesAll a ls ts → G (then_code a (packed i ns)) ls (Fields (forms_in F fields))
  gives_structure a i ns ts fields ls deep h long each given d stands =
      takes_then tables code Calls entry a (packed i ns) (A ls d) (A ls (more_all ts d))
      (A ls (more (Fields (forms_in F fields)) d)) (given d stands)
      (by (are_counted 0 ns) refl)
    where
      many : length ts ≡ length ns
      many = as_many (forms_in F fields) ns ts h

      there : (j : ℕ) (f : Field) → slice_get fields j ≡ Some f
          → slice_get (ls ++ stacked ts []) (i + (length ns - suc (index_of (0 + j) ns))) ≡ Some (F f.ty)
      there j f is =
          let z : 0 + j ≡ j = omega arith in
          let among = each j (slice_get_within fields j f is) in
          let found = belongs (forms_in F fields) ns ts j h among in
          let same : Some found.0 ≡ Some (F f.ty) = sym found.2 ∙ at_forms F fields j f is in
          ap (λ m. slice_get (ls ++ stacked ts []) (i + (length ns - suc (index_of m ns)))) z
          ∙ ap (λ m. slice_get (ls ++ stacked ts []) (i + (m - suc (index_of j ns)))) (sym many)
          ∙ back_read ls (stacked ts []) (i + (length ts - suc (index_of j ns))) (length ts - suc (index_of j ns))
          (ap (λ m. m + (length ts - suc (index_of j ns))) deep)
          ∙ stacked_read ts [] (index_of j ns) found.0 found.1 ∙ same

      by : (b : Bool) → are_counted 0 ns ≡ b
          → T (packed_by b i ns) (A ls (more_all ts d)) (A ls (more (Fields (forms_in F fields)) d))
      by true so =
          subst (λ (fs : Forms). T (one (instr.Pack (length ns))) (A ls (more_all ts d)) (A ls (more (Fields fs) d)))
          (in_order (forms_in F fields) 0 ns ts fields so h long
          (λ j f is. let z : 0 + j ≡ j = omega arith in ap (form_at (forms_in F fields)) z ∙ at_forms F fields j f is))
          (takes_pack (length ns) ls ts d many)
      by false so =
          let n = length ns in
          let counted : length (stacked ts []) ≡ n = length_stacked ts [] ∙ zero_behind (length ts) ∙ many in
          let bound : T (bind_all n) (A ls (more_all ts d)) (A (ls ++ stacked ts []) d)
          = subst (λ m. T (bind_all m) (A ls (more_all ts d)) (A (ls ++ stacked ts []) d)) counted
          (subst (λ (ops : List Form). T (bind_all (length (stacked ts []))) (A ls (record d { operands = ops }))
          (A (ls ++ stacked ts []) d))
          (sym (stacked_back ts [] d.operands)) (takes_all_bound (stacked ts []) ls d)) in
          let taken : T (picked i ns 0 n) (A (ls ++ stacked ts []) d)
          (A (ls ++ stacked ts []) (more_all (forms_out fields) d))
          = subst (λ m. T (picked i ns 0 m) (A (ls ++ stacked ts []) d)
          (A (ls ++ stacked ts []) (more_all (forms_out fields) d))) (sym long)
          (takes_picked (ls ++ stacked ts []) i ns fields 0 there d stands) in
          takes_then tables code Calls entry (bind_all n)
          (then_code (picked i ns 0 n) (led (instr.Drop n) (one (instr.Pack n))))
          (A ls (more_all ts d)) (A (ls ++ stacked ts []) d) (A ls (more (Fields (forms_in F fields)) d)) bound
          (takes_then tables code Calls entry (picked i ns 0 n) (led (instr.Drop n) (one (instr.Pack n)))
          (A (ls ++ stacked ts []) d) (A (ls ++ stacked ts []) (more_all (forms_out fields) d))
          (A ls (more (Fields (forms_in F fields)) d)) taken
          (takes_then tables code Calls entry (one (instr.Drop n)) (one (instr.Pack n))
          (A (ls ++ stacked ts []) (more_all (forms_out fields) d)) (A ls (more_all (forms_out fields) d))
          (A ls (more (Fields (forms_in F fields)) d))
          (takes_drop tables code Calls entry owner filled ls (stacked ts []) n
          (more_all (forms_out fields) d) counted)
          (subst (λ (fs : Forms). T (one (instr.Pack n)) (A ls (more_all (forms_out fields) d))
          (A ls (more (Fields fs) d))) (forms_from fields)
          (takes_pack n ls (forms_out fields) d (length_map (λ (f : Field). F f.ty) fields ∙ sym long)))))
