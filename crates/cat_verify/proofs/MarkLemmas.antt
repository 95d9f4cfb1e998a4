-- Marks that are set one by one, and the places that they tell.
use Rattle.std.proofs.Common.{◌≡◌, ◌<◌, ◌≤◌, ◌+◌, ◌-◌, ◌||◌, ◌&&◌, ℕ, zero, suc, nat_eq, nat_le, Bool, true, false, not}
use Rattle.std.proofs.Common.{List, [], ◌∷◌, ◌++◌, length, set, get_or, replicate, refl, sym, ap, ◌∙◌, arith}
use Rattle.std.proofs.Math.Logic.{⊎_elim}
use Rattle.std.proofs.lemmas.List.{length-set, get_or-set_same, get_or-set_other, length-replicate}
use Rattle.std.proofs.lemmas.Bool.{cases_eq}
use Rattle.std.proofs.lemmas.Bool.Decides.{nat_tests}
use Rattle.cat_order.specs.Order.{is_listed}
use Rattle.cat_code.specs.Valid.{are_apart}
use Rattle.cat_verify.specs.inside.Marks.{marked, is_led_into}

pub marked_both : (marks : List Bool) (ps qs : List ℕ) → marked marks (ps ++ qs) ≡ marked (marked marks ps) qs
marked_both marks [] qs = refl
marked_both marks (p ∷ ps) qs = marked_both (set marks p true) ps qs

length_marked : (marks : List Bool) (ps : List ℕ) → length (marked marks ps) ≡ length marks
length_marked marks [] = refl
length_marked marks (p ∷ ps) = length_marked (set marks p true) ps ∙ length-set marks p true

pub counted : (n : ℕ) (ps : List ℕ) (marks : List Bool) → marks ≡ marked (replicate n false) ps → length marks ≡ n
counted n ps marks are =
    ap (λ (ms : List Bool). length ms) are ∙ length_marked (replicate n false) ps ∙ length-replicate n false

-- ---- what marks tell

listed_more : (p k : ℕ) (ps : List ℕ) → is_listed (p ∷ ps) k ≡ (nat_eq p k || is_listed ps k)
listed_more p k ps = grind (arith, nat_tests)

one_set : (marks : List Bool) (p k : ℕ) → k < length marks
    → get_or (set marks p true) k false ≡ (get_or marks k false || nat_eq p k)
one_set marks p k below = ⊎_elim here other (cases_eq k p)
  where
    with_true : (b : Bool) → (b || true) ≡ true
    with_true true = refl
    with_true false = refl

    with_false : (b : Bool) → (b || false) ≡ b
    with_false true = refl
    with_false false = refl

    here : k ≡ p → get_or (set marks p true) k false ≡ (get_or marks k false || nat_eq p k)
    here same =
        let equal : nat_eq p k ≡ true = grind (arith, nat_tests, same) in
        let within : p < length marks = omega (arith, same, below) in
        ap (λ (n : ℕ). get_or (set marks p true) n false) same ∙ get_or-set_same marks p true false within
        ∙ sym (ap (λ (b : Bool). get_or marks k false || b) equal ∙ with_true (get_or marks k false))

    other : (k ≡ p → ⊥) → get_or (set marks p true) k false ≡ (get_or marks k false || nat_eq p k)
    other apart =
        let unequal : nat_eq p k ≡ false = grind (arith, nat_tests, apart) in
        get_or-set_other marks p k true false apart
        ∙ sym (ap (λ (b : Bool). get_or marks k false || b) unequal ∙ with_false (get_or marks k false))

or_both : (a b c : Bool) → ((a || b) || c) ≡ (a || (b || c))
or_both true b c = refl
or_both false b c = refl

all_set : (marks : List Bool) (ps : List ℕ) (k : ℕ) → k < length marks
    → get_or (marked marks ps) k false ≡ (get_or marks k false || is_listed ps k)
all_set marks [] k below = or_none (get_or marks k false)
  where
    or_none : (b : Bool) → b ≡ (b || false)
    or_none true = refl
    or_none false = refl
all_set marks (p ∷ ps) k below =
    let count = length-set marks p true in
    all_set (set marks p true) ps k (omega (arith, count, below))
    ∙ ap (λ (b : Bool). b || is_listed ps k) (one_set marks p k below)
    ∙ or_both (get_or marks k false) (nat_eq p k) (is_listed ps k)
    ∙ ap (λ (b : Bool). get_or marks k false || b) (sym (listed_more p k ps))

none_set : (n k : ℕ) → get_or (replicate n false) k false ≡ false
none_set zero k = refl
none_set (suc n) zero = refl
none_set (suc n) (suc k) = none_set n k

-- whether a place is one of those that were marked
pub mark_is : (n : ℕ) (ps : List ℕ) (k : ℕ) → k < n
    → get_or (marked (replicate n false) ps) k false ≡ is_listed ps k
mark_is n ps k below =
    let count = length-replicate n false in
    all_set (replicate n false) ps k (omega (arith, count, below))
    ∙ ap (λ (b : Bool). b || is_listed ps k) (none_set n k)

-- ---- the last four of five instructions

abbrev among : List ℕ → ℕ → Bool
among ps p = is_listed ps p || is_listed ps (p - 1) || is_listed ps (p - 2) || is_listed ps (p - 3)

apart_step : (p t : ℕ) (ps : List ℕ) → 4 ≤ p → are_apart p ps ≡ not (among ps p)
    → (not (nat_le p (t + 3) && nat_le t p) && are_apart p ps) ≡ not (among (t ∷ ps) p)
apart_step p t ps far rest =
    let one = listed_more t p ps in
    let two = listed_more t (p - 1) ps in
    let three = listed_more t (p - 2) ps in
    let four = listed_more t (p - 3) ps in
    grind (arith, nat_tests, one, two, three, four, rest, far)

pub apart_is : (p : ℕ) (ps : List ℕ) → 4 ≤ p → are_apart p ps ≡ not (among ps p)
apart_is p [] far = refl
apart_is p (t ∷ ps) far = apart_step p t ps far (apart_is p ps far)

four : (a b c d e f g h : Bool) → a ≡ e → b ≡ f → c ≡ g → d ≡ h → (a || b || c || d) ≡ (e || f || g || h)
four a b c d e f g h one two three last =
    ap (λ (x : Bool). x || b || c || d) one ∙ ap (λ (x : Bool). e || x || c || d) two
    ∙ ap (λ (x : Bool). e || f || x || d) three ∙ ap (λ (x : Bool). e || f || g || x) last

led_among : (n p : ℕ) (ps : List ℕ) → 4 ≤ p → p < n → is_led_into (marked (replicate n false) ps) p ≡ among ps p
led_among n p ps far below =
    four _ _ _ _ _ _ _ _ (mark_is n ps p below) (mark_is n ps (p - 1) (omega (arith, below)))
    (mark_is n ps (p - 2) (omega (arith, below))) (mark_is n ps (p - 3) (omega (arith, below)))

none_and : (a b : Bool) → false ≡ ((a && false) && b)
none_and true b = refl
none_and false b = refl

pub led_into : (n p : ℕ) (ps : List ℕ) (marks : List Bool) (rest : Bool) → marks ≡ marked (replicate n false) ps → 4 ≤ p
    → p < n → is_led_into marks p ≡ true → false ≡ (nat_le 4 p && are_apart p ps && rest)
led_into n p ps marks rest are far below led =
    let apart : are_apart p ps ≡ false =
    apart_is p ps far
    ∙ ap not (sym (led_among n p ps far below) ∙ sym (ap (λ (ms : List Bool). is_led_into ms p) are) ∙ led) in
    none_and (nat_le 4 p) rest ∙ sym (ap (λ (a : Bool). nat_le 4 p && a && rest) apart)

pub not_led : (n p : ℕ) (ps : List ℕ) (marks : List Bool) (rest : Bool) → marks ≡ marked (replicate n false) ps → 4 ≤ p
    → p < n → is_led_into marks p ≡ false → rest ≡ (nat_le 4 p && are_apart p ps && rest)
not_led n p ps marks rest are far below led =
    let apart : are_apart p ps ≡ true =
    apart_is p ps far
    ∙ ap not (sym (led_among n p ps far below) ∙ sym (ap (λ (ms : List Bool). is_led_into ms p) are) ∙ led) in
    let enough : nat_le 4 p ≡ true = grind (arith, nat_tests, far) in
    sym (ap (λ (a : Bool). a && are_apart p ps && rest) enough ∙ ap (λ (a : Bool). a && rest) apart)
