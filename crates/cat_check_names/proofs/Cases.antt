-- Cases that are counted one after another.
use Rattle.std.proofs.Common.{◌≡◌, ◌∙◌, ℕ, ◌+◌, ◌<◌, Bool, true, false, not, cond, List, [], ◌∷◌, ◌++◌, length, take}
use Rattle.std.proofs.Common.{get_or, Option, Some, None, option_map, is_some, bytes_eq, refl, sym, ap, subst, arith}
use Rattle.std.proofs.Common.{rules}
use Rattle.std.proofs.Common.{true≢false, filter_map}
use Rattle.std.proofs.lemmas.List.{take_more, length-take, append-nil}
use Rattle.std.proofs.lemmas.List.Elements.{filter_map-append}
use Rattle.std.proofs.lemmas.Slice.Eq.{bytes_eq-Decides}
use Rattle.std.specs.List.{enumerate_from, cons_option}
use Rattle.std.specs.Map.{lookup}
use Rattle.std.specs.Option.{option_or, option_to_list}
use Rattle.cat_value.specs.declared.declaration.Case.{Case}
use Rattle.cat_value.specs.declared.declaration.Enumeration.{Enumeration}
use Rattle.cat_names.specs.Lookup.{cases_named, case_named, first_named}
use Rattle.cat_check_names.specs.Table.{Table, number_in, number_named, IsTableOf}
use Rattle.cat_check_names.specs.CaseTable.{CaseTable, only_after, only_of, IsWithCase}
use Rattle.cat_check_names.specs.inside.Counting.{AreCounted}
use Rattle.cat_check_names.proofs.Finding.{numbered_push}
use Rattle.cat_check_names.proofs.Tabled.{number_if, more_named, or_there}

-- what is found with one thing more, where none in front of it, or one, has its name
or_none : {A : Type 0} (found : Option A) → option_or found None ≡ found
or_none None = refl
or_none (Some a) = refl

none_found : {A : Type 0} (found : Option A) → not (is_some found) ≡ true → found ≡ None
none_found None none = refl
none_found (Some a) none = absurd (true≢false (sym none))

some_found : {A : Type 0} (found : Option A) → not (is_some found) ≡ false → is_some found ≡ true
some_found None some = absurd (true≢false some)
some_found (Some a) some = refl

one_after : (front : List (ℕ × ℕ)) (k : ℕ × ℕ) → Some (only_after (only_of (front ++ [])) k) ≡ only_of (front ++ k ∷ [])
one_after [] k = refl
one_after (a ∷ []) k = refl
one_after (a ∷ b ∷ more) k = refl

-- the number of a name among one case more
number_more : (w : List ℕ) (cases : List Case) (i : ℕ) (case : Case) → i < length cases → get_or cases i case ≡ case
    → number_named (λ k. k.name) w (take (i + 1) cases)
    ≡ option_or (number_named (λ k. k.name) w (take i cases)) (number_if (bytes_eq case.name w) i)
number_more w cases i case within is =
    let front : length (take i cases) ≡ i = search (rules, length-take) in
    ap (number_named (λ (k : Case). k.name) w) (take_more cases i case within ∙ ap (λ k. take i cases ++ k ∷ []) is)
    ∙ more_named (λ (k : Case). k.name) w (take i cases) case
    ∙ ap (λ (n : ℕ). option_or (number_named (λ (k : Case). k.name) w (take i cases))
    (number_if (bytes_eq case.name w) n)) front

-- a case whose name is there counts for nothing
pub one_again : (enumerations : List Enumeration) (n : ℕ) (cases : List Case) (i : ℕ) (case : Case) (names : Table)
    (table : CaseTable) → i < length cases → get_or cases i case ≡ case
    → IsTableOf (λ k. k.name) (take i cases) names → not (is_some (number_in names case.name)) ≡ false
    → AreCounted enumerations n (take i cases) table → AreCounted enumerations n (take (i + 1) cases) table
one_again enumerations n cases i case names table within is known again counted w =
    counted w ∙ ap (λ found. only_of (cases_named w enumerations ++ option_to_list (option_map (λ k. (n, k)) found)))
    (sym (number_more w cases i case within is ∙ same (bytes_eq case.name w) refl)) where
      before : Option ℕ
      before = number_named (λ (k : Case). k.name) w (take i cases)

      same : (b : Bool) → bytes_eq case.name w ≡ b → option_or before (number_if b i) ≡ before
      same false other = or_none before
      same true one = or_there before (Some i) (ap is_some (sym (known w))
          ∙ subst (λ (v : List ℕ). is_some (number_in names v) ≡ true) ((bytes_eq-Decides case.name w).0 one)
          (some_found (number_in names case.name) again))

-- a case of a new name is one more of that name
pub one_case_more : (enumerations : List Enumeration) (n : ℕ) (cases : List Case) (i : ℕ) (case : Case) (names : Table)
    (table new : CaseTable) → i < length cases → get_or cases i case ≡ case
    → IsTableOf (λ k. k.name) (take i cases) names → not (is_some (number_in names case.name)) ≡ true
    → IsWithCase case.name (n, i) table new
    → AreCounted enumerations n (take i cases) table → AreCounted enumerations n (take (i + 1) cases) new
one_case_more enumerations n cases i case names table new within is known fresh added counted w =
    added w ∙ by (bytes_eq case.name w) refl
    ∙ ap (λ found. only_of (cases_named w enumerations ++ option_to_list (option_map (λ k. (n, k)) found)))
    (sym (number_more w cases i case within is)) where
      before : List ℕ → Option ℕ
      before v = number_named (λ (k : Case). k.name) v (take i cases)

      under : List ℕ → Option ℕ → Option (Option (ℕ × ℕ))
      under v found = only_of (cases_named v enumerations ++ option_to_list (option_map (λ k. (n, k)) found))

      none : before case.name ≡ None
      none = sym (known case.name) ∙ none_found (number_in names case.name) fresh

      by : (b : Bool) → bytes_eq case.name w ≡ b
          → cond b (Some (only_after (lookup (bytes_eq case.name) table) (n, i))) (lookup (bytes_eq w) table)
          ≡ under w (option_or (before w) (number_if b i))
      by false other = counted w ∙ ap (under w) (sym (or_none (before w)))
      by true one =
          ap (λ found. Some (only_after found (n, i))) (counted case.name ∙ ap (under case.name) none)
          ∙ one_after (cases_named case.name enumerations) (n, i)
          ∙ sym (ap (λ found. under case.name (option_or found (Some i))) none)
          ∙ subst (λ (v : List ℕ). under case.name (option_or (before case.name) (Some i)) ≡ under v
          (option_or (before v) (Some i)))
          ((bytes_eq-Decides case.name w).0 one) refl

-- no case of an enumeration yet
pub none_yet : (enumerations : List Enumeration) (n : ℕ) (table : CaseTable)
    → ((w : List ℕ) → lookup (bytes_eq w) table ≡ only_of (cases_named w enumerations))
    → AreCounted enumerations n [] table
none_yet enumerations n table only w = only w ∙ ap only_of (sym (append-nil (cases_named w enumerations)))

numbers_of : {A : Type 0} (n : ℕ) (found : Option (ℕ × A))
    → option_map {U = ℕ × ℕ} (λ (k : ℕ). (n, k)) (option_map (λ x. x.0) found)
    ≡ option_map {U = ℕ × ℕ} (λ (x : ℕ × A). (n, x.0)) found
numbers_of n None = refl
numbers_of n (Some x) = refl

one_listed : {A B : Type 0} (f : A → Option B) (a : A) → filter_map f (a ∷ []) ≡ option_to_list (f a)
one_listed f a = by (f a) where
  by : {B : Type 0} (b : Option B) → cons_option b [] ≡ option_to_list b
  by None = refl
  by (Some b) = refl

-- all cases of an enumeration
pub all_counted : (enumerations : List Enumeration) (i : ℕ) (e : Enumeration) (table : CaseTable)
    → i < length enumerations → get_or enumerations i e ≡ e
    → AreCounted (take i enumerations) i e.cases table
    → (w : List ℕ) → lookup (bytes_eq w) table ≡ only_of (cases_named w (take (i + 1) enumerations))
all_counted enumerations i e table within is counted w =
    let front : length (take i enumerations) ≡ i = search (rules, length-take) in
    counted w ∙ ap only_of (sym (
    ap (cases_named w) (take_more enumerations i e within ∙ ap (λ k. take i enumerations ++ k ∷ []) is)
    ∙ ap (filter_map (case_named w)) (numbered_push 0 (take i enumerations) e
    ∙ ap (λ (n : ℕ). enumerate_from 0 (take i enumerations) ++ (n, e) ∷ []) (omega (arith, front)))
    ∙ filter_map-append (case_named w) (enumerate_from 0 (take i enumerations)) ((i, e) ∷ [])
    ∙ ap (λ found. cases_named w (take i enumerations) ++ found) (one_listed (case_named w) (i, e)
    ∙ ap option_to_list (sym (numbers_of i (first_named (λ k. k.name) w e.cases))))))
