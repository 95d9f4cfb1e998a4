-- Parts of a list, found one after another.
use Rattle.std.proofs.Common.{◌≡◌, ◌∙◌, ℕ, zero, suc, ◌+◌, ◌<◌, List, [], ◌∷◌, ◌++◌, length, drop, get_or, Ok}
use Rattle.std.proofs.Common.{Err, None, Some, refl, ap, slice_get, sym, subst}
use Rattle.std.proofs.lemmas.List.{append_assoc, append-nil, drop_more}
use Rattle.std.proofs.lemmas.Option.{get_or_from_slice_get, slice_get_within}
use Rattle.cat_value.specs.declared.ty.Ty.{Ty}
use Rattle.cat_tree.specs.declared.expression.Node.{Node}
use Rattle.cat_scope.specs.declared.expr.Expr.{Expr}
use Rattle.cat_names.specs.declared.fault.Refusal.{Refusal}
use Rattle.cat_names.specs.declared.typed.Local.{Local}
use Rattle.cat_names.specs.declared.typed.Typed.{Typed}
use Rattle.cat_names.specs.Parts.{Meaning, arguments_of}
use Rattle.cat_names.specs.Found.{Found, Tells, both}
use Rattle.cat_names.proofs.Exported.{left_tells, then_tells}
use Rattle.cat_check_exprs.specs.inside.Chains.{behind}

-- one part and the rest
abbrev pub part_and : {A B : Type 0} → (A → B) → Found A → Found (List B) → Found (List B)
part_and g part rest = both part rest (λ x xs. Ok (g x ∷ xs))

one_on : {A B : Type 0} (g : A → B) (made : List B) (x : A) (rest : Found (List B))
    → behind (made ++ g x ∷ []) rest ≡ behind made (part_and g (Ok x) rest)
one_on g made x (Ok ys) = ap Ok (append_assoc made (g x ∷ []) ys)
one_on g made x (Err fs) = refl

-- where the part is found, the rest stands behind it
pub step_on : {A B : Type 0} (g : A → B) (made : List B) (part : Found A) (x : A) (rest whole : Found (List B))
    → part ≡ Ok x → behind made (part_and g part rest) ≡ whole → behind (made ++ g x ∷ []) rest ≡ whole
step_on g made part x rest whole is before =
    one_on g made x rest ∙ ap (λ found. behind made (part_and g found rest)) (sym is) ∙ before

-- what stands in the part stands in the whole
pub exit_on : {A B : Type 0} (g : A → B) (made : List B) (part : Found A) (rest whole : Found (List B)) (e : Refusal)
    → Tells {A = A} (Err e) part → behind made (part_and g part rest) ≡ whole → Tells {A = List B} (Err e) whole
exit_on {A} {B} g made part rest whole e h before = subst (λ found. Tells {A = List B} (Err e) found) before
    (then_tells e (part_and g part rest) (λ xs. Ok (made ++ xs))
    (left_tells e part rest (λ x xs. Ok (g x ∷ xs)) h))

-- behind the last part
pub end_on : {B : Type 0} (made : List B) (whole : Found (List B)) → behind made (Ok []) ≡ whole → whole ≡ Ok made
end_on made whole before = sym before ∙ ap Ok (append-nil made)

-- what is left, one part on
pub dropped : {A : Type 0} (xs : List A) (i : ℕ) (x : A) → i < length xs → get_or xs i x ≡ x
    → drop i xs ≡ x ∷ drop (i + 1) xs
dropped xs i x within is = drop_more xs i x within ∙ ap (λ y. y ∷ drop (i + 1) xs) is

-- a list of parts, from a part on: where that part is found, the rest stands behind it
pub turn_on : {A B C : Type 0} (part : A → Found C) (g : C → B) (rest : List A → Found (List B))
    → ((a : A) (more : List A) → rest (a ∷ more) ≡ part_and g (part a) (rest more))
    → (xs : List A) (i : ℕ) (a : A) (made : List B) (whole : Found (List B)) (x : C)
    → i < length xs → get_or xs i a ≡ a → part a ≡ Ok x → behind made (rest (drop i xs)) ≡ whole
    → behind (made ++ g x ∷ []) (rest (drop (i + 1) xs)) ≡ whole
turn_on part g rest parts xs i a made whole x within is found before =
    let here = ap rest (dropped xs i a within is) ∙ parts a (drop (i + 1) xs) in
    step_on g made (part a) x (rest (drop (i + 1) xs)) whole found
    (ap (λ from. behind made from) (sym here) ∙ before)

-- and what stands in that part stands in the whole
pub turn_off : {A B C : Type 0} (part : A → Found C) (g : C → B) (rest : List A → Found (List B))
    → ((a : A) (more : List A) → rest (a ∷ more) ≡ part_and g (part a) (rest more))
    → (xs : List A) (i : ℕ) (a : A) (made : List B) (whole : Found (List B)) (e : Refusal)
    → i < length xs → get_or xs i a ≡ a → Tells {A = C} (Err e) (part a) → behind made (rest (drop i xs)) ≡ whole
    → Tells {A = List B} (Err e) whole
turn_off part g rest parts xs i a made whole e within is h before =
    let here = ap rest (dropped xs i a within is) ∙ parts a (drop (i + 1) xs) in
    exit_on g made (part a) (rest (drop (i + 1) xs)) whole e h (ap (λ from. behind made from) (sym here) ∙ before)

-- as many arguments as there are types are found
no_more : (ms : Node → Meaning) (es : List Node) (ls : List Local) → arguments_of ms es ls [] ≡ Ok []
no_more ms [] ls = refl
no_more ms (e ∷ es) ls = refl

past : {A : Type 0} (xs : List A) (i : ℕ) → slice_get xs i ≡ None → drop i xs ≡ []
past [] zero none = refl
past [] (suc i) none = refl
past (x ∷ xs) zero none = cc none
past (x ∷ xs) (suc i) none = past xs i none

-- an argument, its type and those behind them
argument_at : (ms : Node → Meaning) (es : List Node) (ts : List Ty) (i : ℕ) (e : Node) (t : Ty) (ls : List Local)
    → i < length es → get_or es i e ≡ e → slice_get ts i ≡ Some t
    → arguments_of ms (drop i es) ls (drop i ts) ≡ part_and (λ x. x.expr) (ms e ls (Some t))
    (arguments_of ms (drop (i + 1) es) ls (drop (i + 1) ts))
argument_at ms es ts i e t ls within is at =
    ap (λ from. arguments_of ms from ls (drop i ts)) (dropped es i e within is)
    ∙ ap (λ from. arguments_of ms (e ∷ drop (i + 1) es) ls from)
    (dropped ts i t (slice_get_within ts i t at) (get_or_from_slice_get ts i t t at))

pub argument_on : (ms : Node → Meaning) (es : List Node) (ts : List Ty) (i : ℕ) (e : Node) (t : Ty) (ls : List Local)
    (made : List Expr) (whole : Found (List Expr)) (x : Typed) → i < length es → get_or es i e ≡ e
    → slice_get ts i ≡ Some t → ms e ls (Some t) ≡ Ok x
    → behind made (arguments_of ms (drop i es) ls (drop i ts)) ≡ whole
    → behind (made ++ x.expr ∷ []) (arguments_of ms (drop (i + 1) es) ls (drop (i + 1) ts)) ≡ whole
argument_on ms es ts i e t ls made whole x within is at found before =
    step_on (λ x. x.expr) made (ms e ls (Some t)) x (arguments_of ms (drop (i + 1) es) ls (drop (i + 1) ts)) whole found
    (ap (λ from. behind made from) (sym (argument_at ms es ts i e t ls within is at)) ∙ before)

pub argument_off : (ms : Node → Meaning) (es : List Node) (ts : List Ty) (i : ℕ) (e : Node) (t : Ty) (ls : List Local)
    (made : List Expr) (whole : Found (List Expr)) (r : Refusal) → i < length es → get_or es i e ≡ e
    → slice_get ts i ≡ Some t → Tells {A = Typed} (Err r) (ms e ls (Some t))
    → behind made (arguments_of ms (drop i es) ls (drop i ts)) ≡ whole → Tells {A = List Expr} (Err r) whole
argument_off ms es ts i e t ls made whole r within is at h before =
    exit_on (λ x. x.expr) made (ms e ls (Some t)) (arguments_of ms (drop (i + 1) es) ls (drop (i + 1) ts)) whole r h
    (ap (λ from. behind made from) (sym (argument_at ms es ts i e t ls within is at)) ∙ before)

pub arguments_end : (ms : Node → Meaning) (es : List Node) (ts : List Ty) (i : ℕ) (ls : List Local)
    (made : List Expr) (whole : Found (List Expr)) → slice_get ts i ≡ None
    → behind made (arguments_of ms (drop i es) ls (drop i ts)) ≡ whole → whole ≡ Ok made
arguments_end ms es ts i ls made whole none before = end_on made whole
    (ap (λ from. behind made from) (sym (ap (λ from. arguments_of ms (drop i es) ls from) (past ts i none)
    ∙ no_more ms (drop i es) ls)) ∙ before)
