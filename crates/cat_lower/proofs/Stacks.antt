-- Lists on the operand stack and among the local names.
use Rattle.std.proofs.Common.{◌≡◌, ℕ, suc, ◌+◌, ◌-◌, List, [], ◌∷◌, ◌++◌, length, take, map, Some, refl, ap}
use Rattle.std.proofs.Common.{◌∙◌, arith, slice_get}
use Rattle.cat_value.specs.declared.value.Value.{Value}
use Rattle.cat_code.specs.States.{State, Next}
use Rattle.cat_code.specs.Moves.{popped}

-- values pushed one after the other
abbrev pub stacked : List Value → List Value → List Value
stacked stack [] = stack
stacked stack (v ∷ vs) = stacked (v ∷ stack) vs

pub append_none : {A : Type 0} (xs : List A) → xs ++ [] ≡ xs
append_none [] = refl
append_none (x ∷ xs) = ap (λ l. x ∷ l) (append_none xs)

popped_more : (vs ws stack : List Value) (m : ℕ) (s : State) (go : List Value → State → Next)
    → popped (length vs + m) ws s (stacked stack vs) go ≡ popped m (vs ++ ws) s stack go
popped_more [] ws stack m s go =
    let e : length {A = Value} [] + m ≡ m = omega arith in ap (λ n. popped n ws s stack go) e
popped_more (v ∷ vs) ws stack m s go =
    let e : length (v ∷ vs) + m ≡ length vs + suc m = omega arith in
    ap (λ n. popped n ws s (stacked (v ∷ stack) vs) go) e ∙ popped_more vs ws (v ∷ stack) (suc m) s go

-- as many as were pushed are popped
pub popped_all : (n : ℕ) (vs stack : List Value) (s : State) (go : List Value → State → Next) → length vs ≡ n
    → popped n [] s (stacked stack vs) go ≡ go vs (record s { operands = stack })
popped_all n vs stack s go e =
    let f : n ≡ length vs + 0 = omega arith in
    ap (λ m. popped m [] s (stacked stack vs) go) f ∙ popped_more vs [] stack 0 s go
    ∙ ap (λ l. go l (record s { operands = stack })) (append_none vs)

pub length_map : {A B : Type 0} (f : A → B) (xs : List A) → length (map f xs) ≡ length xs
length_map f [] = refl
length_map f (x ∷ xs) = let e = length_map f xs in omega arith

pub take_front : {A : Type 0} (xs ys : List A) (n : ℕ) → n ≡ length xs → take n (xs ++ ys) ≡ xs
take_front [] ys n e = ap (λ m. take m ys) e
take_front (x ∷ xs) ys n e =
    let m : n ≡ suc (length xs) = omega arith in
    ap (λ k. take k (x ∷ (xs ++ ys))) m ∙ ap (λ l. x ∷ l) (take_front xs ys (length xs) refl)

pub length_append : {A : Type 0} (xs ys : List A) → length (xs ++ ys) ≡ length xs + length ys
length_append [] ys = omega arith
length_append (x ∷ xs) ys = let e = length_append xs ys in omega arith

-- what was put behind the local names is dropped
pub dropped : {A : Type 0} (xs ys : List A) (n : ℕ) → n ≡ length ys → take (length (xs ++ ys) - n) (xs ++ ys) ≡ xs
dropped xs ys n is = let e = length_append xs ys in take_front xs ys (length (xs ++ ys) - n) (omega arith)

-- the first name behind the local names
pub read_behind : {A : Type 0} (xs : List A) (y : A) (ys : List A) (n : ℕ) → n ≡ length xs
    → slice_get (xs ++ y ∷ ys) n ≡ Some y
read_behind [] y ys n is = ap (λ m. slice_get (y ∷ ys) m) is
read_behind (x ∷ xs) y ys n is =
    let m : n ≡ suc (length xs) = omega arith in
    ap (λ k. slice_get (x ∷ (xs ++ y ∷ ys)) k) m ∙ read_behind xs y ys (length xs) refl
