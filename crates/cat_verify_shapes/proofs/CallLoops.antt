-- What loops of calls keep: the types of parameters, the operands of these types, and the inputs that are passed.
use Rattle.std.proofs.Common.{◌≡◌, ◌<◌, ◌≤◌, inl, inr, ℕ, zero, suc, ◌+◌, ◌&&◌, Bool, true, false, not}
use Rattle.std.proofs.Common.{true≢false, List, [], ◌∷◌, ◌++◌, length, map, take, drop, reverse, get_or}
use Rattle.std.proofs.Common.{refl, sym, ap, ◌∙◌, arith}
use Rattle.std.proofs.lemmas.Bool.{eq-eqb, and_right}
use Rattle.std.proofs.lemmas.List.{take_more, drop_more, drop_all, map-append, reverse-append, append_assoc}
use Rattle.std.proofs.lemmas.List.{take-append-drop}
use Rattle.cat_value.specs.declared.ty.Ty.{Ty}
use Rattle.cat_value.specs.declared.declaration.ItemDecl.{ItemDecl}
use Rattle.cat_value.specs.declared.decls.Decls.{Decls}
use Rattle.cat_value.specs.Inputs.{must_be_given}
use Rattle.cat_scope.specs.Names.{AllHave}
use Rattle.cat_code.specs.Forms.{Form, form_of}
use Rattle.cat_code.specs.Wanted.{are_passed}
use Rattle.cat_verify_shapes.specs.declared.forms.Forms.{Forms}
use Rattle.cat_verify_shapes.specs.declared.shape.Shape.{Shape}
use Rattle.cat_verify_shapes.specs.inside.Senses.{Stands}
use Rattle.cat_verify_shapes.specs.inside.Taking.{Takes, TakesAll, StandFor}
use Rattle.cat_verify_shapes.proofs.ListLemmas.{head_is, empty_not}
use Rattle.cat_verify_shapes.proofs.PopLemmas.{rev_cons}

-- ---- types of parameters

pub have_at : {A : Type 0} (P : A → Type 0) (xs : List A) (i : ℕ) (d : A) → i < length xs → AllHave P xs
    → P (get_or xs i d)
have_at P [] i d within all = absurd (omega (arith, within))
have_at P (x ∷ xs) zero d within all = all.0
have_at P (x ∷ xs) (suc i) d within all = have_at P xs i d (omega (arith, within)) all.1

pub forms_more : (ds : Decls) (forms : Forms) (params : List Ty) (i : ℕ) (t : Ty) (ns more : List ℕ) (n : ℕ)
    → i < length params → t ≡ get_or params i t → StandFor ds forms ns (take i params)
    → Stands ds forms n (form_of ds t) → more ≡ ns ++ n ∷ [] → StandFor ds forms more (take (i + 1) params)
forms_more ds forms params i t ns more n within at stand stands is d h =
    ap (map d.one) is ∙ map-append d.one ns (n ∷ [])
    ∙ ap (λ (ts : List Form). ts ++ d.one n ∷ []) (stand d h)
    ∙ ap (λ (u : Form). map (form_of ds) (take i params) ++ u ∷ []) (stands d h ∙ ap (form_of ds) at)
    ∙ sym (map-append (form_of ds) (take i params) (get_or params i t ∷ []))
    ∙ ap (map (form_of ds)) (sym (take_more params i t within))

-- ---- operands of these types

none_dropped : (ns : List ℕ) (k : ℕ) → length ns ≤ k → reverse (drop k ns) ≡ []
none_dropped ns k h = ap reverse (drop_all k ns h)

pub popping_begins : (s : Shape) (ns : List ℕ) (k : ℕ) → length ns ≤ k
    → s ≡ record s { operands = reverse (drop k ns) ++ s.operands }
popping_begins s ns k h = ap (λ (l : List ℕ). record s { operands = l ++ s.operands }) (sym (none_dropped ns k h))

-- the last of those that are left
next_down : (ns : List ℕ) (k j : ℕ) → k ≡ j + 1 → k ≤ length ns → drop j ns ≡ get_or ns j 0 ∷ drop k ns
next_down ns k j e within =
    drop_more ns j 0 (omega (arith, e, within)) ∙ ap (λ (i : ℕ). get_or ns j 0 ∷ drop i ns) (sym e)

popped_down : (ns : List ℕ) (k j : ℕ) → k ≡ j + 1 → k ≤ length ns
    → reverse (drop k ns) ++ get_or ns j 0 ∷ [] ≡ reverse (drop j ns)
popped_down ns k j e within =
    sym (rev_cons (get_or ns j 0) (drop k ns)) ∙ ap reverse (sym (next_down ns k j e within))

pub popping_goes_on : (s r q : Shape) (ns : List ℕ) (k j n : ℕ) → k ≡ j + 1 → k ≤ length ns → n ≡ get_or ns j 0
    → s ≡ record r { operands = reverse (drop k ns) ++ r.operands } → Takes r q n true
    → s ≡ record q { operands = reverse (drop j ns) ++ q.operands }
popping_goes_on s r q ns k j n e within at is takes =
    is ∙ ap (λ (x : Shape). record x { operands = reverse (drop k ns) ++ x.operands }) takes
    ∙ ap (λ (m : ℕ). record q { operands = reverse (drop k ns) ++ m ∷ q.operands }) at
    ∙ ap (λ (l : List ℕ). record q { operands = l })
    (sym (append_assoc (reverse (drop k ns)) (get_or ns j 0 ∷ []) q.operands)
    ∙ ap (λ (l : List ℕ). l ++ q.operands) (popped_down ns k j e within))

behind_front : (xs ys zs : List ℕ) → xs ++ ys ≡ xs ++ zs → ys ≡ zs
behind_front [] ys zs e = e
behind_front (x ∷ xs) ys zs e = behind_front xs ys zs (ap behind e)
  where
    behind : List ℕ → List ℕ
    behind [] = []
    behind (y ∷ l) = l

-- what is taken off the top is no other type
taken_is : (r q : Shape) (n : ℕ) (below : List ℕ) → Takes r q n false → r.operands ≡ n ∷ below → ⊥
taken_is r q n below (inl none) e = empty_not n below (sym none ∙ e)
taken_is r q n below (inr (m, ms, is, other)) e =
    true≢false (sym (eq-eqb m n (head_is m n ms below (sym is ∙ e))) ∙ other)

params_split : (ns : List ℕ) (k j : ℕ) → k ≡ j + 1 → k ≤ length ns
    → reverse ns ≡ reverse (drop k ns) ++ get_or ns j 0 ∷ reverse (take j ns)
params_split ns k j e within =
    ap reverse (sym (take-append-drop j ns)) ∙ reverse-append (take j ns) (drop j ns)
    ∙ ap (λ (l : List ℕ). l ++ reverse (take j ns)) (sym (popped_down ns k j e within))
    ∙ append_assoc (reverse (drop k ns)) (get_or ns j 0 ∷ []) (reverse (take j ns))

pub popping_fails : (s r q : Shape) (ns : List ℕ) (k j n : ℕ) → k ≡ j + 1 → k ≤ length ns → n ≡ get_or ns j 0
    → s ≡ record r { operands = reverse (drop k ns) ++ r.operands } → Takes r q n false
    → TakesAll s q (reverse ns) false
popping_fails s r q ns k j n e within at is takes below whole =
    taken_is r q n (reverse (take j ns) ++ below) takes
    (behind_front (reverse (drop k ns)) r.operands (n ∷ (reverse (take j ns) ++ below))
    (sym (ap (λ (x : Shape). x.operands) is) ∙ whole
    ∙ ap (λ (l : List ℕ). l ++ below) (params_split ns k j e within)
    ∙ append_assoc (reverse (drop k ns)) (get_or ns j 0 ∷ reverse (take j ns)) below
    ∙ ap (λ (m : ℕ). reverse (drop k ns) ++ m ∷ (reverse (take j ns) ++ below)) (sym at)))

-- ---- inputs that are passed

pub too_few_passed : (items : List ItemDecl) (passed : List Bool) → length passed < length items
    → are_passed items passed ≡ false
too_few_passed [] passed h = absurd (omega (arith, h))
too_few_passed (item ∷ items) [] h = refl
too_few_passed (item ∷ items) (true ∷ passed) h = too_few_passed items passed (omega (arith, h))
too_few_passed (item ∷ items) (false ∷ passed) h =
    and_right (not (must_be_given item.kind)) (are_passed items passed)
    (too_few_passed items passed (omega (arith, h)))

passed_more : (item : ItemDecl) (items : List ItemDecl) (b : Bool) (passed : List Bool)
    → (must_be_given item.kind && not b) ≡ false
    → are_passed (item ∷ items) (b ∷ passed) ≡ are_passed items passed
passed_more item items true passed e = refl
passed_more item items false passed e = by_kind (must_be_given item.kind) e
  where
    by_kind : (g : Bool) → (g && true) ≡ false → (not g && are_passed items passed) ≡ are_passed items passed
    by_kind false e = refl
    by_kind true e = absurd (true≢false e)

dropped_both : (items : List ItemDecl) (passed : List Bool) (i : ℕ) (item : ItemDecl) (b : Bool) → i < length items
    → length items ≤ length passed → item ≡ get_or items i item → b ≡ get_or passed i b
    → are_passed (drop i items) (drop i passed)
    ≡ are_passed (item ∷ drop (i + 1) items) (b ∷ drop (i + 1) passed)
dropped_both items passed i item b within long at here =
    ap (λ (l : List ItemDecl). are_passed l (drop i passed))
    (drop_more items i item within ∙ ap (λ (x : ItemDecl). x ∷ drop (i + 1) items) (sym at))
    ∙ ap (λ (l : List Bool). are_passed (item ∷ drop (i + 1) items) l)
    (drop_more passed i b (omega (arith, within, long)) ∙ ap (λ (x : Bool). x ∷ drop (i + 1) passed) (sym here))

pub passed_goes_on : (items : List ItemDecl) (passed : List Bool) (i : ℕ) (item : ItemDecl) (b w : Bool)
    → i < length items
    → length items ≤ length passed → item ≡ get_or items i item → b ≡ get_or passed i b
    → (must_be_given item.kind && not b) ≡ false → are_passed (drop i items) (drop i passed) ≡ w
    → are_passed (drop (i + 1) items) (drop (i + 1) passed) ≡ w
passed_goes_on items passed i item b w within long at here so is =
    sym (passed_more item (drop (i + 1) items) b (drop (i + 1) passed) so)
    ∙ sym (dropped_both items passed i item b within long at here) ∙ is
