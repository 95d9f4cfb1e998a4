-- Which slots of a scope are filled, item by item in its order.
use Rattle.std.proofs.Common.{◌≡◌, ◌<◌, ℕ, zero, suc, ◌+◌, nat_eq, ◌&&◌, ◌||◌, Bool, true, false, not}
use Rattle.std.proofs.Common.{true≢false, IsTrue, List, [], ◌∷◌, ◌++◌, length, map, Some, slice_get}
use Rattle.std.proofs.Common.{slice_set, refl, sym, ap, ◌∙◌, subst, arith, if◌then◌else◌}
use Rattle.std.proofs.lemmas.Bool.{eq-eqb, eqb-true}
use Rattle.std.proofs.lemmas.Bool.Decides.{nat_tests}
use Rattle.cat_order.specs.Order.{times}
use Rattle.cat_value.specs.declared.declaration.ItemDecl.{ItemDecl}
use Rattle.cat_value.specs.Inputs.{must_be_given}
use Rattle.cat_scope.specs.Names.{AllHave, is_in, is_function}
use Rattle.cat_calc.specs.WellFormed.{StandBehind}
use Rattle.cat_code.specs.Wanted.{is_so}
use Rattle.cat_code.specs.Shapes.{AreFewer}
use Rattle.cat_lower.specs.Pieces.{index_of}

-- whether the slot of an item is filled once some items are done
abbrev pub is_filled : ℕ → ItemDecl → List ℕ → Bool
is_filled n item done = must_be_given item.kind || (is_in n done && not (is_function item))

-- the slots of items from number n on
abbrev pub filled_from : ℕ → List ItemDecl → List ℕ → List Bool
filled_from n [] done = []
filled_from n (item ∷ items) done = is_filled n item done ∷ filled_from (n + 1) items done

pub filled_first : (n : ℕ) (items : List ItemDecl)
    → filled_from n items [] ≡ map (λ (item : ItemDecl). must_be_given item.kind) items
filled_first n [] = refl
filled_first n (item ∷ items) =
    ap (λ (b : Bool). b ∷ filled_from (n + 1) items []) (by (must_be_given item.kind))
    ∙ ap (λ (l : List Bool). must_be_given item.kind ∷ l) (filled_first (n + 1) items)
  where
    by : (b : Bool) → (b || (false && not (is_function item))) ≡ b
    by true = refl
    by false = refl

pub filled_read : (n : ℕ) (items : List ItemDecl) (done : List ℕ) (k : ℕ) (item : ItemDecl)
    → slice_get items k ≡ Some item
    → is_in (n + k) done ≡ true → is_function item ≡ false → is_so (slice_get (filled_from n items done) k) ≡ true
filled_read n [] done k item is there plain = absurd (cc is)
filled_read n (x ∷ items) done zero item is there plain =
    let same : x ≡ item = cc is in
    let e : n ≡ n + 0 = omega arith in
    let among : is_in n done ≡ true = ap (λ m. is_in m done) e ∙ there in
    let no : is_function x ≡ false = ap is_function same ∙ plain in
    ap (λ (b : Bool). is_so (Some b)) (by (must_be_given x.kind) (is_in n done) (is_function x) among no)
  where
    by : (a b c : Bool) → b ≡ true → c ≡ false → (a || (b && not c)) ≡ true
    by true b c e f = refl
    by false true false e f = refl
    by false true true e f = absurd (true≢false f)
    by false false c e f = absurd (true≢false (sym e))
filled_read n (x ∷ items) done (suc k) item is there plain =
    let e : (n + 1) + k ≡ n + suc k = omega arith in
    filled_read (n + 1) items done k item is (ap (λ m. is_in m done) e ∙ there) plain

-- what is done more fills no fewer slots
pub filled_more : (n : ℕ) (items : List ItemDecl) (some more : List ℕ)
    → ((j : ℕ) → is_in j some ≡ true → is_in j more ≡ true)
    → AreFewer (filled_from n items some) (filled_from n items more)
filled_more n [] some more within = tt
filled_more n (item ∷ items) some more within =
    by (must_be_given item.kind) (is_in n some) (is_in n more) (not (is_function item)) (within n)
    (filled_more (n + 1) items some more within)
  where
    by : (a b c d : Bool) → (b ≡ true → c ≡ true)
        → AreFewer (filled_from (n + 1) items some) (filled_from (n + 1) items more)
        → AreFewer ((a || (b && d)) ∷ filled_from (n + 1) items some) ((a || (c && d)) ∷ filled_from (n + 1) items more)
    by true b c d so rest = (refl, rest)
    by false false c d so rest = rest
    by false true true true so rest = (refl, rest)
    by false true true false so rest = rest
    by false true false d so rest = absurd (true≢false (sym (so refl)))

-- only what is among those that are done counts
pub filled_alike : (n : ℕ) (items : List ItemDecl) (some more : List ℕ) → ((j : ℕ) → is_in j some ≡ is_in j more)
    → filled_from n items some ≡ filled_from n items more
filled_alike n [] some more same = refl
filled_alike n (item ∷ items) some more same =
    ap (λ (b : Bool). (must_be_given item.kind || (b && not (is_function item))) ∷ filled_from (n + 1) items some)
    (same n)
    ∙ ap (λ (l : List Bool). is_filled n item more ∷ l) (filled_alike (n + 1) items some more same)

other_number : (n m : ℕ) → (n ≡ m → ⊥) → nat_eq n m ≡ false
other_number n m other = by (nat_eq n m) refl
  where
    by : (b : Bool) → nat_eq n m ≡ b → nat_eq n m ≡ false
    by true e = absurd (other (eqb-true n m e))
    by false e = e

-- a number in front fills none of those behind
filled_past : (n m : ℕ) (items : List ItemDecl) (done : List ℕ) → m < n
    → filled_from n items (m ∷ done) ≡ filled_from n items done
filled_past n m [] done less = refl
filled_past n m (item ∷ items) done less =
    let other : nat_eq n m ≡ false = other_number n m (λ e. omega (arith, e, less)) in
    rw other (ap (λ (l : List Bool). is_filled n item done ∷ l)
    (filled_past (n + 1) m items done (omega (arith, less))))

-- a variable that is stored fills its slot
pub filled_next : (n : ℕ) (items : List ItemDecl) (done : List ℕ) (k : ℕ) (item : ItemDecl)
    → slice_get items k ≡ Some item
    → is_function item ≡ false → slice_set (filled_from n items done) k true ≡ filled_from n items ((n + k) ∷ done)
filled_next n [] done k item is plain = absurd (cc is)
filled_next n (x ∷ items) done zero item is plain =
    let same : x ≡ item = cc is in
    let no : is_function x ≡ false = ap is_function same ∙ plain in
    let here : nat_eq n (n + 0) ≡ true = eq-eqb n (n + 0) (omega arith) in
    ap (λ (b : Bool). b ∷ filled_from (n + 1) items done)
    (sym (by (must_be_given x.kind) (is_in n ((n + 0) ∷ done)) (is_function x) (rw here refl) no))
    ∙ ap (λ (l : List Bool). is_filled n x ((n + 0) ∷ done) ∷ l)
    (sym (filled_past (n + 1) (n + 0) items done (omega arith)))
  where
    by : (a b c : Bool) → b ≡ true → c ≡ false → (a || (b && not c)) ≡ true
    by true b c e f = refl
    by false true false e f = refl
    by false true true e f = absurd (true≢false f)
    by false false c e f = absurd (true≢false (sym e))
filled_next n (x ∷ items) done (suc k) item is plain =
    let other : nat_eq n (n + suc k) ≡ false = other_number n (n + suc k) (λ e. omega (arith, e)) in
    let moved : (n + 1) + k ≡ n + suc k = omega arith in
    rw other (ap (λ (l : List Bool). is_filled n x done ∷ l)
    (filled_next (n + 1) items done k item is plain ∙ ap (λ m. filled_from (n + 1) items (m ∷ done)) moved))

-- an input and a function fill none
pub filled_still : (n : ℕ) (items : List ItemDecl) (done : List ℕ) (k : ℕ) (item : ItemDecl)
    → slice_get items k ≡ Some item
    → (must_be_given item.kind || is_function item) ≡ true
    → filled_from n items done ≡ filled_from n items ((n + k) ∷ done)
filled_still n [] done k item is so = absurd (cc is)
filled_still n (x ∷ items) done zero item is so =
    let same : x ≡ item = cc is in
    let so_x : (must_be_given x.kind || is_function x) ≡ true =
    ap (λ (i : ItemDecl). must_be_given i.kind || is_function i) same ∙ so in
    ap (λ (b : Bool). b ∷ filled_from (n + 1) items done)
    (by (must_be_given x.kind) (is_in n done) (is_in n ((n + 0) ∷ done)) (is_function x) so_x)
    ∙ ap (λ (l : List Bool). is_filled n x ((n + 0) ∷ done) ∷ l)
    (sym (filled_past (n + 1) (n + 0) items done (omega arith)))
  where
    by : (a b c d : Bool) → (a || d) ≡ true → (a || (b && not d)) ≡ (a || (c && not d))
    by true b c d e = refl
    by false true true true e = refl
    by false true false true e = refl
    by false false true true e = refl
    by false false false true e = refl
    by false b c false e = absurd (true≢false (sym e))
filled_still n (x ∷ items) done (suc k) item is so =
    let other : nat_eq n (n + suc k) ≡ false = other_number n (n + suc k) (λ e. omega (arith, e)) in
    let moved : (n + 1) + k ≡ n + suc k = omega arith in
    rw other (ap (λ (l : List Bool). is_filled n x done ∷ l)
    (filled_still (n + 1) items done k item is so ∙ ap (λ m. filled_from (n + 1) items (m ∷ done)) moved))

pub filled_length : (n : ℕ) (items : List ItemDecl) (done : List ℕ) → length (filled_from n items done) ≡ length items
filled_length n [] done = refl
filled_length n (item ∷ items) done = ap suc (filled_length (n + 1) items done)

-- ---- the order of items

pub in_append : (j : ℕ) (xs ys : List ℕ) → is_in j (xs ++ ys) ≡ (is_in j xs || is_in j ys)
in_append j [] ys = refl
in_append j (x ∷ xs) ys = by (nat_eq j x) (in_append j xs ys)
  where
    by : (b : Bool) → is_in j (xs ++ ys) ≡ (is_in j xs || is_in j ys)
        → (if b then true else is_in j (xs ++ ys)) ≡ ((if b then true else is_in j xs) || is_in j ys)
    by true e = refl
    by false e = e

-- one more behind is one more in front
pub in_last : (j n : ℕ) (xs : List ℕ) → is_in j (n ∷ xs) ≡ is_in j (xs ++ n ∷ [])
in_last j n xs = by (nat_eq j n) (is_in j xs) ∙ sym (in_append j xs (n ∷ []))
  where
    by : (b c : Bool) → (if b then true else c) ≡ (c || (if b then true else false))
    by true true = refl
    by true false = refl
    by false true = refl
    by false false = refl

-- those in front of a number
abbrev pub in_front_of : ℕ → List ℕ → List ℕ
in_front_of k [] = []
in_front_of k (n ∷ ns) = if nat_eq k n then [] else n ∷ in_front_of k ns

-- what stands in front of one of a front stands in the front
pub front_within : (j k : ℕ) (front rest : List ℕ) → is_in k front ≡ true
    → is_in j (in_front_of k (front ++ rest)) ≡ true → is_in j front ≡ true
front_within j k [] rest there among = absurd (true≢false (sym there))
front_within j k (n ∷ front) rest there among = by (nat_eq k n) refl (front_within j k front rest)
  where
    inner : (b : Bool) → nat_eq k n ≡ false → nat_eq j n ≡ b
        → (is_in k front ≡ true → is_in j (in_front_of k (front ++ rest)) ≡ true → is_in j front ≡ true)
        → is_in j (n ∷ front) ≡ true
    inner true e f later = rw f refl
    inner false e f later =
        let k_there : is_in k front ≡ true = rw e at there in
        let j_among : is_in j (in_front_of k (front ++ rest)) ≡ true = rw (e, f) at among in
        rw f (later k_there j_among)

    by : (b : Bool) → nat_eq k n ≡ b
        → (is_in k front ≡ true → is_in j (in_front_of k (front ++ rest)) ≡ true → is_in j front ≡ true)
        → is_in j (n ∷ front) ≡ true
    by true e later = let none : false ≡ true = rw e at among in absurd (true≢false (sym none))
    by false e later = inner (nat_eq j n) e refl later

-- the index of one of a front is below its length
pub index_within : (k : ℕ) (front rest : List ℕ) → is_in k front ≡ true → index_of k (front ++ rest) < length front
index_within k [] rest there = absurd (true≢false (sym there))
index_within k (n ∷ front) rest there = by (nat_eq k n) refl (index_within k front rest)
  where
    by : (b : Bool) → nat_eq k n ≡ b → (is_in k front ≡ true → index_of k (front ++ rest) < length front)
        → index_of k ((n ∷ front) ++ rest) < length (n ∷ front)
    by true e later = rw e (omega arith)
    by false e later = let t : is_in k front ≡ true = rw e at there in rw e (omega (arith, later t))

-- and that of what stands behind a front isn't, where it is not there
pub index_behind : (n : ℕ) (front rest : List ℕ) → is_in n front ≡ false → index_of n (front ++ n ∷ rest) ≡ length front
index_behind n [] rest out = let same = eq-eqb n n refl in rw same refl
index_behind n (m ∷ front) rest out = by (nat_eq n m) refl (index_behind n front rest)
  where
    by : (b : Bool) → nat_eq n m ≡ b → (is_in n front ≡ false → index_of n (front ++ n ∷ rest) ≡ length front)
        → index_of n ((m ∷ front) ++ n ∷ rest) ≡ length (m ∷ front)
    by true e later = let o : true ≡ false = rw e at out in absurd (true≢false o)
    by false e later = let o : is_in n front ≡ false = rw e at out in rw e (ap suc (later o))

pub front_itself : (n : ℕ) (front rest : List ℕ) → is_in n front ≡ false → in_front_of n (front ++ n ∷ rest) ≡ front
front_itself n [] rest out = let same = eq-eqb n n refl in rw same refl
front_itself n (m ∷ front) rest out = by (nat_eq n m) refl (front_itself n front rest)
  where
    by : (b : Bool) → nat_eq n m ≡ b → (is_in n front ≡ false → in_front_of n (front ++ n ∷ rest) ≡ front)
        → in_front_of n ((m ∷ front) ++ n ∷ rest) ≡ m ∷ front
    by true e later = let o : true ≡ false = rw e at out in absurd (true≢false o)
    by false e later = let o : is_in n front ≡ false = rw e at out in rw e (ap (λ (l : List ℕ). m ∷ l) (later o))

-- ---- what stands behind what it needs

abbrev onto : List ℕ → List ℕ → List ℕ
onto [] done = done
onto (n ∷ front) done = onto front (n ∷ done)

onto_in : (j : ℕ) (front done : List ℕ) → is_in j (onto front done) ≡ true → (is_in j front || is_in j done) ≡ true
onto_in j [] done there = there
onto_in j (n ∷ front) done there = by (nat_eq j n) (is_in j front) (is_in j done) (onto_in j front (n ∷ done) there)
  where
    by : (a b c : Bool) → (b || (if a then true else c)) ≡ true → ((if a then true else b) || c) ≡ true
    by true b c e = refl
    by false b c e = e

or_none : (b : Bool) → (b || false) ≡ true → b ≡ true
or_none true e = refl
or_none false e = e

each_onto : (needs front : List ℕ) → AllHave (λ k. IsTrue (is_in k (onto front []))) needs
    → AllHave (λ k. is_in k front ≡ true) needs
each_onto [] front h = tt
each_onto (k ∷ needs) front h = (or_none (is_in k front) (onto_in k front [] h.0), each_onto needs front h.1)

behind_from : (bound : ℕ) (needs : ℕ → List ℕ) (front done : List ℕ) (n : ℕ) (rest : List ℕ)
    → StandBehind bound needs done (front ++ n ∷ rest)
    → AllHave (λ k. IsTrue (is_in k (onto front done))) (needs n)
behind_from bound needs [] done n rest h = h.1
behind_from bound needs (m ∷ front) done n rest h = behind_from bound needs front (m ∷ done) n rest h.2

-- what a number needs stands in front of it
pub behind_front : (bound : ℕ) (needs : ℕ → List ℕ) (order front : List ℕ) (n : ℕ) (rest : List ℕ)
    → StandBehind bound needs [] order
    → order ≡ front ++ n ∷ rest → AllHave (λ k. is_in k front ≡ true) (needs n)
behind_front bound needs order front n rest h split =
    each_onto (needs n) front
    (behind_from bound needs front [] n rest (subst (λ (l : List ℕ). StandBehind bound needs [] l) split h))

times_some : (n : ℕ) (xs : List ℕ) → is_in n xs ≡ true → 0 < times xs n
times_some n [] there = absurd (true≢false (sym there))
times_some n (x ∷ xs) there = grind (arith, nat_tests, times_some n xs)

times_append : (n : ℕ) (xs ys : List ℕ) → times (xs ++ ys) n ≡ times xs n + times ys n
times_append n [] ys = omega arith
times_append n (x ∷ xs) ys = let e = times_append n xs ys in omega arith

times_self : (n : ℕ) (rest : List ℕ) → 0 < times (n ∷ rest) n
times_self n rest = grind (arith, nat_tests)

-- a number that is there once isn't in front of itself
pub once_out : (n : ℕ) (front rest : List ℕ) → times (front ++ n ∷ rest) n ≡ 1 → is_in n front ≡ false
once_out n front rest one = by (is_in n front) refl
  where
    by : (b : Bool) → is_in n front ≡ b → is_in n front ≡ false
    by true e =
        let some = times_some n front e in
        let self = times_self n rest in
        let sum = times_append n front (n ∷ rest) in
        absurd (omega (arith, one, some, self, sum))
    by false e = e

-- where a number that is there stands
pub record Split (n : ℕ) (order : List ℕ) : Type 0 where
  pub front : List ℕ
  pub rest : List ℕ
  pub is : order ≡ front ++ n ∷ rest

pub split_at : (n : ℕ) (order : List ℕ) → is_in n order ≡ true → Split n order
split_at n [] there = absurd (true≢false (sym there))
split_at n (m ∷ order) there = by (nat_eq n m) refl (split_at n order)
  where
    by : (b : Bool) → nat_eq n m ≡ b → (is_in n order ≡ true → Split n order) → Split n (m ∷ order)
    by true e later = record { front = []; rest = order; is = ap (λ k. k ∷ order) (sym (eqb-true n m e)) }
    by false e later =
        let t : is_in n order ≡ true = rw e at there in
        let s = later t in
        record { front = m ∷ s.front; rest = s.rest; is = ap (λ (l : List ℕ). m ∷ l) s.is }
