-- The innermost of bound names.
use Rattle.std.proofs.Common.{◌≡◌, ◌∙◌, ℕ, zero, suc, ◌+◌, ◌<◌, true, false, bytes_eq, List, [], ◌∷◌, ◌++◌, Option}
use Rattle.std.proofs.Common.{Some}
use Rattle.std.proofs.Common.{length, take, get_or, slice_get, reverse, find, option_map, refl, sym, ap, arith}
use Rattle.std.proofs.lemmas.List.{reverse-append, take_more}
use Rattle.std.specs.List.{enumerate_from}
use Rattle.cat_value.specs.declared.ty.Ty.{Ty}
use Rattle.cat_names.specs.declared.typed.Local.{Local}
use Rattle.cat_names.specs.Lists.{numbered}
use Rattle.cat_names.specs.Lookup.{innermost}
use Rattle.cat_check_forms.specs.Taken.{at_number}

numbers_more : {A : Type 0} (n : ℕ) (xs : List A) (x : A)
    → enumerate_from n (xs ++ x ∷ []) ≡ enumerate_from n xs ++ (n + length xs, x) ∷ []
numbers_more n [] x = let same : n ≡ n + 0 = omega arith in ap (λ (k : ℕ). (k, x) ∷ []) same
numbers_more n (y ∷ xs) x =
    let same : n + 1 + length xs ≡ n + suc (length xs) = omega arith in
    ap (λ zs. (n, y) ∷ zs) (numbers_more (n + 1) xs x
    ∙ ap (λ (k : ℕ). enumerate_from (n + 1) xs ++ (k, x) ∷ []) same)

reversed : (ls : List Local) (x : Local)
    → reverse (numbered (ls ++ x ∷ [])) ≡ (length ls, x) ∷ reverse (numbered ls)
reversed ls x =
    let same : 0 + length ls ≡ length ls = omega arith in
    ap reverse (numbers_more 0 ls x) ∙ reverse-append (enumerate_from 0 ls) ((0 + length ls, x) ∷ [])
    ∙ ap (λ (k : ℕ). (k, x) ∷ reverse (enumerate_from 0 ls)) same

hit : (w : List ℕ) (ls : List Local) (x : Local) → bytes_eq x.name w ≡ true
    → innermost w (ls ++ x ∷ []) ≡ Some (length ls, x.ty)
hit w ls x is = ap (λ zs. option_map (λ l. (l.0, l.1.ty)) (find (λ l. bytes_eq l.1.name w) zs)) (reversed ls x)
    ∙ rw is refl

miss : (w : List ℕ) (ls : List Local) (x : Local) → bytes_eq x.name w ≡ false
    → innermost w (ls ++ x ∷ []) ≡ innermost w ls
miss w ls x is = ap (λ zs. option_map (λ l. (l.0, l.1.ty)) (find (λ l. bytes_eq l.1.name w) zs)) (reversed ls x)
    ∙ rw is refl

got : {A : Type 0} (xs : List A) (i : ℕ) (x : A) → i < length xs → slice_get xs i ≡ Some (get_or xs i x)
got [] i x within = absurd (omega (arith, within))
got (y ∷ xs) zero x within = refl
got (y ∷ xs) (suc i) x within = got xs i x (omega arith)

front_long : {A : Type 0} (xs : List A) (i : ℕ) → i < length xs → length (take i xs) ≡ i
front_long [] i within = absurd (omega (arith, within))
front_long (y ∷ xs) zero within = refl
front_long (y ∷ xs) (suc i) within = ap suc (front_long xs i (omega arith))

-- one name more that is the one sought
pub hit_at : (w : List ℕ) (locals : List Local) (i : ℕ) (x : Local) → i < length locals → get_or locals i x ≡ x
    → bytes_eq x.name w ≡ true → at_number (Some i) locals ≡ innermost w (take (i + 1) locals)
hit_at w locals i x within is same =
    ap (option_map (λ l. (i, l.ty))) (got locals i x within ∙ ap Some is)
    ∙ sym (ap (innermost w) (take_more locals i x within ∙ ap (λ l. take i locals ++ l ∷ []) is)
    ∙ hit w (take i locals) x same ∙ ap (λ (k : ℕ). Some (k, x.ty)) (front_long locals i within))

-- one that is not
pub miss_at : (w : List ℕ) (locals : List Local) (i : ℕ) (x : Local) (found : Option (ℕ × Ty)) → i < length locals
    → get_or locals i x ≡ x → bytes_eq x.name w ≡ false → found ≡ innermost w (take i locals)
    → found ≡ innermost w (take (i + 1) locals)
miss_at w locals i x found within is other before = before
    ∙ sym (ap (innermost w) (take_more locals i x within ∙ ap (λ l. take i locals ++ l ∷ []) is)
    ∙ miss w (take i locals) x other)
