-- What flows give that pop several operands at once.
use Rattle.std.proofs.Common.{◌≡◌, ◌⊎◌, inl, inr, ℕ, zero, suc, ◌&&◌, Bool, true, false}
use Rattle.std.proofs.Common.{true≢false}
use Rattle.std.proofs.Common.{List, [], ◌∷◌, ◌++◌, length, map, reverse, replicate, None, refl}
use Rattle.std.proofs.Common.{sym, ap}
use Rattle.std.proofs.Common.{◌∙◌, arith}
use Rattle.std.proofs.lemmas.Bool.{eqb-true, eq-eqb, and_parts}
use Rattle.std.proofs.lemmas.List.{append-nil, reverse-append, reverse-reverse, length-reverse}
use Rattle.cat_value.specs.declared.ty.Ty.{Ty}
use Rattle.cat_code.specs.Forms.{Form, same_form}
use Rattle.cat_code.specs.Shapes as meant
use Rattle.cat_code.specs.Wanted.{all_same, are_params}
use Rattle.cat_code.specs.Leads.{Flow, where_so, top, popped}
use Rattle.cat_verify_shapes.specs.inside.Senses.{Senses}
use Rattle.cat_verify_shapes.proofs.ListLemmas.{head_is, replicate_long}
use Rattle.cat_verify_shapes.proofs.StepLemmas.{AreApart, where_is, where_not}

pub rev_cons : (x : ℕ) (xs : List ℕ) → reverse (x ∷ xs) ≡ reverse xs ++ x ∷ []
rev_cons x xs = reverse-append (x ∷ []) xs

map_front : (f : ℕ → Form) (xs : List ℕ) (x : ℕ) (ts : List Form)
    → map f (xs ++ x ∷ []) ++ ts ≡ map f xs ++ f x ∷ ts
map_front f [] x ts = refl
map_front f (y ∷ xs) x ts = ap (λ (us : List Form). f y ∷ us) (map_front f xs x ts)

-- ---- what is popped

-- so many operands are there, in front of others
abbrev pub HasSplit : ℕ → List ℕ → Type 0
HasSplit k ops = (xs : List ℕ) × (ys : List ℕ) × (ops ≡ xs ++ ys) × (length xs ≡ k)

split_next : (k x : ℕ) (ops : List ℕ) → HasSplit k ops → HasSplit (suc k) (x ∷ ops)
split_next k x ops h = (x ∷ h.0, h.1, ap (λ (l : List ℕ). x ∷ l) h.2, ap suc h.3)

module _ (d : Senses) where
  pub popped_so : (xs ys : List ℕ) (ts : List Form) (s : meant.Shape) (go : List Form → meant.Shape → Flow)
      → popped (length xs) ts s (map d.one (xs ++ ys)) go
      ≡ go (map d.one (reverse xs) ++ ts) (record s { operands = map d.one ys })
  popped_so [] ys ts s go = refl
  popped_so (x ∷ xs) ys ts s go =
      popped_so xs ys (d.one x ∷ ts) s go
      ∙ ap (λ (us : List Form). go us (record s { operands = map d.one ys }))
      (sym (map_front d.one (reverse xs) x ts) ∙ ap (λ (l : List ℕ). map d.one l ++ ts) (sym (rev_cons x xs)))

  -- there are too few, or so many in front of others
  pub popped_or : (k : ℕ) (ops : List ℕ) (ts : List Form) (s : meant.Shape) (go : List Form → meant.Shape → Flow)
      → (popped k ts s (map d.one ops) go ≡ None) ⊎ HasSplit k ops
  popped_or zero ops ts s go = inr ([], ops, refl, refl)
  popped_or (suc k) [] ts s go = inl refl
  popped_or (suc k) (x ∷ ops) ts s go = next (popped_or k ops (d.one x ∷ ts) s go)
    where
      next : (popped k (d.one x ∷ ts) s (map d.one ops) go ≡ None) ⊎ HasSplit k ops
          → (popped k (d.one x ∷ ts) s (map d.one ops) go ≡ None) ⊎ HasSplit (suc k) (x ∷ ops)
      next (inl e) = inl e
      next (inr h) = inr (split_next k x ops h)

  pub popped_split : (k : ℕ) (ops xs ys : List ℕ) (s : meant.Shape) (go : List Form → meant.Shape → Flow)
      → ops ≡ xs ++ ys → length xs ≡ k
      → popped k [] s (map d.one ops) go ≡ go (map d.one (reverse xs)) (record s { operands = map d.one ys })
  popped_split k ops xs ys s go is long =
      ap (λ (n : ℕ). popped n [] s (map d.one ops) go) (sym long)
      ∙ ap (λ (l : List ℕ). popped (length xs) [] s (map d.one l) go) is
      ∙ popped_so xs ys [] s go
      ∙ ap (λ (ts : List Form). go ts (record s { operands = map d.one ys })) (append-nil (map d.one (reverse xs)))

-- ---- operands of one type

same_all : (n : ℕ) → (d : Senses) → AreApart d → (ms : List ℕ) → all_same (d.one n) (map d.one ms) ≡ true
    → ms ≡ replicate (length ms) n
same_all n d apart [] e = refl
same_all n d apart (m ∷ ms) e =
    let parts = and_parts (same_form (d.one m) (d.one n)) (all_same (d.one n) (map d.one ms)) e in
    ap (λ (k : ℕ). k ∷ ms) (eqb-true m n (sym (apart m n) ∙ parts.0))
    ∙ ap (λ (l : List ℕ). n ∷ l) (same_all n d apart ms parts.1)

all_alike : (n : ℕ) → (d : Senses) → AreApart d → (k : ℕ) → all_same (d.one n) (map d.one (replicate k n)) ≡ true
all_alike n d apart zero = refl
all_alike n d apart (suc k) =
    ap (λ (b : Bool). b && all_same (d.one n) (map d.one (replicate k n))) (apart n n ∙ eq-eqb n n refl)
    ∙ all_alike n d apart k

replicate_last : (k n : ℕ) → replicate k n ++ n ∷ [] ≡ replicate (suc k) n
replicate_last zero n = refl
replicate_last (suc k) n = ap (λ (l : List ℕ). n ∷ l) (replicate_last k n)

reverse_alike : (k n : ℕ) → reverse (replicate k n) ≡ replicate k n
reverse_alike zero n = refl
reverse_alike (suc k) n =
    rev_cons n (replicate k n) ∙ ap (λ (l : List ℕ). l ++ n ∷ []) (reverse_alike k n) ∙ replicate_last k n

module _ (d : Senses) (apart : AreApart d) (go : Form → meant.Shape → Flow) where
  -- where all are of one type, that type goes on
  abbrev pub of_one_type : List Form → meant.Shape → Flow
  of_one_type ts s = top ts (λ t us. where_so (all_same t us) (go t s))

  pub alike_so : (k n : ℕ) (ops : List ℕ) (s : meant.Shape) (count : ℕ) → count ≡ suc k
      → popped count [] s (map d.one (replicate count n ++ ops)) of_one_type
      ≡ go (d.one n) (record s { operands = map d.one ops })
  alike_so k n ops s count e =
      ap (λ (c : ℕ). popped c [] s (map d.one (replicate c n ++ ops)) of_one_type) e
      ∙ popped_split d (suc k) (replicate (suc k) n ++ ops) (replicate (suc k) n) ops s of_one_type refl
      (replicate_long (suc k) n)
      ∙ ap (λ (l : List ℕ). of_one_type (map d.one l) (record s { operands = map d.one ops })) (reverse_alike (suc k) n)
      ∙ where_is (all_same (d.one n) (map d.one (replicate k n))) (go (d.one n) (record s { operands = map d.one ops }))
      (all_alike n d apart k)

  no_type : (s : meant.Shape) (zs : List ℕ) → ((m : ℕ) → zs ≡ replicate (length zs) m → ⊥)
      → of_one_type (map d.one zs) s ≡ None
  no_type s [] other = refl
  no_type s (m ∷ ms) other = by_test (all_same (d.one m) (map d.one ms)) refl
    where
      by_test : (b : Bool) → all_same (d.one m) (map d.one ms) ≡ b
          → where_so (all_same (d.one m) (map d.one ms)) (go (d.one m) s) ≡ None
      by_test false e = where_not (all_same (d.one m) (map d.one ms)) (go (d.one m) s) e
      by_test true e = absurd (other m (ap (λ (l : List ℕ). m ∷ l) (same_all m d apart ms e)))

  pub alike_not : (k n : ℕ) (ops rest : List ℕ) (s : meant.Shape) (count : ℕ) → count ≡ suc k → ops ≡ n ∷ rest
      → ((below : List ℕ) → ops ≡ replicate count n ++ below → ⊥)
      → popped count [] s (map d.one ops) of_one_type ≡ None
  alike_not k n ops rest s count e is other = by_split (popped_or d count ops [] s of_one_type)
    where
      same_top : (xs ys : List ℕ) → ops ≡ xs ++ ys → length xs ≡ count → (m : ℕ) → xs ≡ replicate count m → ⊥
      same_top xs ys split long m same =
          let whole : n ∷ rest ≡ m ∷ (replicate k m ++ ys) =
          sym is ∙ split ∙ ap (λ (l : List ℕ). l ++ ys) (same ∙ ap (λ (c : ℕ). replicate c m) e) in
          absurd (other ys (split ∙ ap (λ (l : List ℕ). l ++ ys)
          (same ∙ ap (replicate count) (sym (head_is n m rest (replicate k m ++ ys) whole)))))

      of_type : (xs ys : List ℕ) → ops ≡ xs ++ ys → length xs ≡ count → (m : ℕ)
          → reverse xs ≡ replicate (length (reverse xs)) m → ⊥
      of_type xs ys split long m same =
          same_top xs ys split long m
          (sym (reverse-reverse xs) ∙ ap reverse same ∙ reverse_alike (length (reverse xs)) m
          ∙ ap (λ (c : ℕ). replicate c m) (length-reverse xs ∙ long))

      by_split : (popped count [] s (map d.one ops) of_one_type ≡ None) ⊎ HasSplit count ops
          → popped count [] s (map d.one ops) of_one_type ≡ None
      by_split (inl none) = none
      by_split (inr h) =
          popped_split d count ops h.0 h.1 s of_one_type h.2 h.3
          ∙ no_type (record s { operands = map d.one h.1 }) (reverse h.0) (of_type h.0 h.1 h.2 h.3)

-- ---- operands of the types of parameters

params_are : (d : Senses) → AreApart d → (form : Ty → Form) (ns : List ℕ) (tys : List Ty) (ms : List ℕ)
    → map d.one ns ≡ map form tys → are_params form tys (map d.one ms) ≡ true → ms ≡ ns
params_are d apart form [] [] [] stand e = refl
params_are d apart form [] [] (m ∷ ms) stand e = absurd (true≢false (sym e))
params_are d apart form [] (t ∷ tys) ms stand e = absurd (omega (arith, ap length stand))
params_are d apart form (n ∷ ns) [] ms stand e = absurd (omega (arith, ap length stand))
params_are d apart form (n ∷ ns) (t ∷ tys) [] stand e = absurd (true≢false (sym e))
params_are d apart form (n ∷ ns) (t ∷ tys) (m ∷ ms) stand e =
    let parts = and_parts (same_form (d.one m) (form t)) (are_params form tys (map d.one ms)) e in
    let one : d.one n ≡ form t = first (d.one n) (form t) (map d.one ns) (map form tys) stand in
    ap (λ (k : ℕ). k ∷ ms)
    (eqb-true m n (sym (apart m n) ∙ ap (same_form (d.one m)) one ∙ parts.0))
    ∙ ap (λ (l : List ℕ). n ∷ l)
    (params_are d apart form ns tys ms (others (d.one n) (form t) (map d.one ns) (map form tys) stand) parts.1)
  where
    first : (a b : Form) (xs ys : List Form) → a ∷ xs ≡ b ∷ ys → a ≡ b
    first a b xs ys e = ap or_a e
      where
        or_a : List Form → Form
        or_a [] = a
        or_a (x ∷ xs) = x

    others : (a b : Form) (xs ys : List Form) → a ∷ xs ≡ b ∷ ys → xs ≡ ys
    others a b xs ys e = ap behind e
      where
        behind : List Form → List Form
        behind [] = []
        behind (x ∷ xs) = xs

params_self : (form : Ty → Form) (tys : List Ty) → ((t : Form) → same_form t t ≡ true)
    → are_params form tys (map form tys) ≡ true
params_self form [] self = refl
params_self form (t ∷ tys) self =
    ap (λ (b : Bool). b && are_params form tys (map form tys)) (self (form t)) ∙ params_self form tys self

module _ (d : Senses) (apart : AreApart d) (form : Ty → Form) (ns : List ℕ) (tys : List Ty)
    (stand : map d.one ns ≡ map form tys) (self : (t : Form) → same_form t t ≡ true) (go : meant.Shape → Flow) where
  abbrev pub of_params : List Form → meant.Shape → Flow
  of_params ts s = where_so (are_params form tys ts) (go s)

  pub params_so : (ops : List ℕ) (s : meant.Shape) (count : ℕ) → length ns ≡ count
      → popped count [] s (map d.one (reverse ns ++ ops)) of_params ≡ go (record s { operands = map d.one ops })
  params_so ops s count long =
      popped_split d count (reverse ns ++ ops) (reverse ns) ops s of_params refl (length-reverse ns ∙ long)
      ∙ ap (λ (l : List ℕ). of_params (map d.one l) (record s { operands = map d.one ops })) (reverse-reverse ns)
      ∙ where_is (are_params form tys (map d.one ns)) (go (record s { operands = map d.one ops }))
      (ap (are_params form tys) stand ∙ params_self form tys self)

  pub params_not : (ops : List ℕ) (s : meant.Shape) (count : ℕ) → length ns ≡ count
      → ((below : List ℕ) → ops ≡ reverse ns ++ below → ⊥) → popped count [] s (map d.one ops) of_params ≡ None
  params_not ops s count long other = by_split (popped_or d count ops [] s of_params)
    where
      by_test : (xs ys : List ℕ) → ops ≡ xs ++ ys → (b : Bool) → are_params form tys (map d.one (reverse xs)) ≡ b
          → of_params (map d.one (reverse xs)) (record s { operands = map d.one ys }) ≡ None
      by_test xs ys split false e =
          where_not (are_params form tys (map d.one (reverse xs))) (go (record s { operands = map d.one ys })) e
      by_test xs ys split true e =
          absurd (other ys (split ∙ ap (λ (l : List ℕ). l ++ ys) (sym (reverse-reverse xs)
          ∙ ap reverse (params_are d apart form ns tys (reverse xs) stand e))))

      by_split : (popped count [] s (map d.one ops) of_params ≡ None) ⊎ HasSplit count ops
          → popped count [] s (map d.one ops) of_params ≡ None
      by_split (inl none) = none
      by_split (inr h) =
          popped_split d count ops h.0 h.1 s of_params h.2 h.3
          ∙ by_test h.0 h.1 h.2 (are_params form tys (map d.one (reverse h.0))) refl
