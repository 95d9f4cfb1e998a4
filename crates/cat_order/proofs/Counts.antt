-- What one item more in front changes.
use Rattle.std.proofs.Common.{◌≡◌, ◌∙◌, sym, ap, refl, ℕ, zero, suc, ◌+◌, ◌-◌, ◌<◌, ◌≤◌, cond, List, [], ◌∷◌, ◌++◌}
use Rattle.std.proofs.Common.{length, take, drop, set, get_or, arith, subst}
use Rattle.std.specs.Prelude.{◌==◌}
use Rattle.std.specs.List.{list_all}
use Rattle.std.proofs.lemmas.Bool.Decides.{nat_tests}
use Rattle.std.proofs.lemmas.List.{take_more, take-append-drop, get_or_past, get_or-set_same, get_or-set_other}
use Rattle.std.proofs.lemmas.Bool.{cases_eq, cases_lt}
use Rattle.std.proofs.Math.Logic.{⊎_elim}
use Rattle.cat_order.specs.Order.{times, is_listed}
use Rattle.cat_order.specs.inside.Steps.{missing, left_out}

pub times-append : (xs ys : List ℕ) (item : ℕ) → times (xs ++ ys) item ≡ times xs item + times ys item
times-append [] ys item = omega arith
times-append (x ∷ xs) ys item = omega (arith, times-append xs ys item)

pub times_push : (xs : List ℕ) (x item : ℕ) → times (xs ++ x ∷ []) item ≡ times xs item + cond (x == item) 1 0
times_push xs x item = omega (arith, times-append xs (x ∷ []) item)

pub times_push_same : (xs : List ℕ) (x : ℕ) → times (xs ++ x ∷ []) x ≡ times xs x + 1
times_push_same xs x = grind (arith, nat_tests, times_push xs x x)

pub times_push_other : (xs : List ℕ) (x item : ℕ) → (x ≡ item → ⊥) → times (xs ++ x ∷ []) item ≡ times xs item
times_push_other xs x item other = grind (arith, nat_tests, times_push xs x item)

pub times_at : (xs : List ℕ) (place : ℕ) → place < length xs → 0 < times xs (get_or xs place 0)
times_at [] place within = absurd (omega arith)
times_at (x ∷ xs) zero within = grind (arith, nat_tests)
times_at (x ∷ xs) (suc place) within = omega (arith, times_at xs place (omega arith))

pub times_take : (xs : List ℕ) (place item : ℕ) → place < length xs → times (take (place + 1) xs) item ≡ times
    (take place xs) item + cond (get_or xs place 0 == item) 1 0
times_take xs place item within = ap (λ (ys : List ℕ). times ys item) (take_more xs place 0 within)
    ∙ times_push (take place xs) (get_or xs place 0) item

-- a dependency counts as missing until it is listed
missing_step : (front : List ℕ) (x d : ℕ) → times front x ≡ 0 → cond (is_listed front d) 0 1 ≡ cond
    (is_listed (front ++ x ∷ []) d) 0 1 + cond (d == x) 1 0
missing_step front x d new = grind (arith, nat_tests, times_push front x d)

pub missing_more : (front ds : List ℕ) (x : ℕ) → times front x ≡ 0 → missing front ds ≡ missing (front ++ x ∷ []) ds +
    times ds x
missing_more front [] x new = refl
missing_more front (d ∷ ds) x new = omega (arith, missing_step front x d new, missing_more front ds x new)

pub missing_all : (ds : List ℕ) → missing [] ds ≡ length ds
missing_all [] = refl
missing_all (d ∷ ds) = omega (arith, missing_all ds)

-- where nothing is missing, each dependency is listed
pub listed_of_none_missing : (front ds : List ℕ) (d : ℕ) → missing front ds ≡ 0 → 0 < times ds d → 0 < times front d
listed_of_none_missing front [] d none among = absurd (omega arith)
listed_of_none_missing front (x ∷ ds) d none among = grind (arith, nat_tests, listed_of_none_missing front ds d)

pub list_all-missing : (front ds : List ℕ) → list_all (is_listed front) ds ≡ (missing front ds == 0)
list_all-missing front [] = refl
list_all-missing front (d ∷ ds) = grind (arith, nat_tests, list_all-missing front ds)

left_out_same : (front : List ℕ) (x count : ℕ) → count ≤ x → left_out (front ++ x ∷ []) count ≡ left_out front count
left_out_same front x zero above = refl
left_out_same front x (suc count) above =
    grind (arith, nat_tests, left_out_same front x count, times_push_other front x count)

-- listing an item leaves one fewer out
pub left_out_more : (front : List ℕ) (x count : ℕ) → x < count → times front x ≡ 0 → left_out front count ≡ left_out
    (front ++ x ∷ []) count + 1
left_out_more front x zero within new = absurd (omega arith)
left_out_more front x (suc count) within new =
    grind (arith, nat_tests, left_out_more front x count, left_out_same front x count, times_push front x count)

pub left_out_none : (count : ℕ) → left_out [] count ≡ count
left_out_none zero = refl
left_out_none (suc count) = omega (arith, left_out_none count)

pub listed_of_none_left : (front : List ℕ) (count item : ℕ) → left_out front count ≡ 0 → item < count
    → 0 < times front item
listed_of_none_left front zero item none within = absurd (omega arith)
listed_of_none_left front (suc count) item none within = grind (arith, nat_tests, listed_of_none_left front count item)

pub none_left_of_listed : (front : List ℕ) (count : ℕ) → ((item : ℕ) → item < count → 0 < times front item)
    → left_out front count ≡ 0
none_left_of_listed front zero listed = refl
none_left_of_listed front (suc count) listed =
    grind (arith, nat_tests, listed count, none_left_of_listed front count (λ item within. listed item (omega arith)))

pub times-take-le : (xs : List ℕ) (place item : ℕ) → times (take place xs) item ≤ times xs item
times-take-le xs place item = omega (
  arith,
  times-append (take place xs) (drop place xs) item,
  ap (λ (ys : List ℕ). times ys item) (take-append-drop place xs),
)

pub within_of_positive : (counts : List ℕ) (item : ℕ) → 0 < get_or counts item 0 → item < length counts
within_of_positive counts item positive = ⊎_elim (λ within. within)
    (λ past. absurd (omega (arith, get_or_past counts item 0 past))) (cases_lt item (length counts))

-- taking one off a count
pub count_less : (counts : List ℕ) (x item : ℕ) → x < length counts → 0 < get_or counts x 0
    → get_or (set counts x (get_or counts x 0 - 1)) item 0 + cond (x == item) 1 0 ≡ get_or counts item 0
count_less counts x item within positive = ⊎_elim
    (λ same. let here : get_or (set counts x (get_or counts x 0 - 1)) x 0 ≡ get_or counts x 0 - 1 =
    get_or-set_same counts x (get_or counts x 0 - 1) 0 within in
    subst (λ (n : ℕ). get_or (set counts x (get_or counts x 0 - 1)) n 0 + cond (x == n) 1 0 ≡ get_or counts n 0) same
    (grind (arith, nat_tests, here)))
    (λ other. let there : get_or (set counts x (get_or counts x 0 - 1)) item 0 ≡ get_or counts item 0 =
    get_or-set_other counts x item (get_or counts x 0 - 1) 0 (λ e. other (sym e)) in
    grind (arith, nat_tests, there))
    (cases_eq x item)
