-- A name is found where it is one of the names that are there.
use Rattle.std.specs.Prelude.{bytes_eq, cond, find, reverse, option_map}
use Rattle.std.specs.Option.{is_some}
use Rattle.std.specs.List.{enumerate_from, list_any}
use Rattle.std.proofs.Common.{◌≡◌, ◌||◌, ℕ, ◌+◌, Bool, true, false, List, [], ◌∷◌, ◌++◌, map, Option, Some, None, refl}
use Rattle.std.proofs.Common.{ap, ◌∙◌}
use Rattle.std.proofs.lemmas.List.{reverse-append}
use Rattle.cat_names.specs.declared.typed.Local.{Local}
use Rattle.cat_names.specs.Lists.{numbered}
use Rattle.cat_names.specs.Lookup.{first_named, innermost}
use Rattle.cat_names.specs.Unknown.{is_name}

any_numbered : {A : Type 0} (name_of : A → List ℕ) (w : List ℕ) (n : ℕ) (xs : List A)
    → list_any (λ x. bytes_eq (name_of x.1) w) (enumerate_from n xs) ≡ is_name w (map name_of xs)
any_numbered name_of w n [] = refl
any_numbered name_of w n (x ∷ xs) = ap (λ b. bytes_eq (name_of x) w || b) (any_numbered name_of w (n + 1) xs)

found_any : {A : Type 0} (test : A → Bool) (xs : List A) → is_some (find test xs) ≡ list_any test xs
found_any test [] = refl
found_any {A} test (x ∷ xs) = by (test x) (found_any test xs)
  where
    by : (b : Bool) → is_some (find test xs) ≡ list_any test xs
        → is_some (cond b (Some x) (find test xs)) ≡ (b || list_any test xs)
    by true rest = refl
    by false rest = rest

any_join : {A : Type 0} (test : A → Bool) (xs ys : List A)
    → list_any test (xs ++ ys) ≡ (list_any test xs || list_any test ys)
any_join test [] ys = refl
any_join test (x ∷ xs) ys = ap (λ b. test x || b) (any_join test xs ys) ∙ by (test x) (list_any test xs)
    (list_any test ys)
  where
    by : (a b c : Bool) → (a || (b || c)) ≡ ((a || b) || c)
    by true b c = refl
    by false b c = refl

any_reverse : {A : Type 0} (test : A → Bool) (xs : List A) → list_any test (reverse xs) ≡ list_any test xs
any_reverse test [] = refl
any_reverse test (x ∷ xs) =
    ap (list_any test) (reverse-append (x ∷ []) xs) ∙ any_join test (reverse xs) (x ∷ [])
    ∙ ap (λ b. b || (test x || false)) (any_reverse test xs) ∙ by (list_any test xs) (test x)
  where
    by : (a b : Bool) → (a || (b || false)) ≡ (b || a)
    by true true = refl
    by true false = refl
    by false true = refl
    by false false = refl

pub named_there : {A : Type 0} (name_of : A → List ℕ) (w : List ℕ) (xs : List A)
    → is_some (first_named name_of w xs) ≡ is_name w (map name_of xs)
named_there name_of w xs =
    found_any (λ x. bytes_eq (name_of x.1) w) (numbered xs) ∙ any_numbered name_of w 0 xs

mapped : {A B : Type 0} (f : A → B) (o : Option A) → is_some (option_map f o) ≡ is_some o
mapped f None = refl
mapped f (Some x) = refl

pub innermost_there : (w : List ℕ) (ls : List Local)
    → is_some (innermost w ls) ≡ is_name w (map (λ (l : Local). l.name) ls)
innermost_there w ls =
    let test = λ (x : ℕ × Local). bytes_eq x.1.name w in
    mapped (λ (l : ℕ × Local). (l.0, l.1.ty)) (find test (reverse (numbered ls)))
    ∙ found_any test (reverse (numbered ls)) ∙ any_reverse test (numbered ls)
    ∙ any_numbered (λ (l : Local). l.name) w 0 ls

pub is_name_join : (w : List ℕ) (xs ys : List (List ℕ)) → is_name w (xs ++ ys) ≡ (is_name w xs || is_name w ys)
is_name_join w [] ys = refl
is_name_join w (x ∷ xs) ys = ap (λ b. bytes_eq x w || b) (is_name_join w xs ys)
    ∙ by (bytes_eq x w) (is_name w xs) (is_name w ys)
  where
    by : (a b c : Bool) → (a || (b || c)) ≡ ((a || b) || c)
    by true b c = refl
    by false b c = refl
