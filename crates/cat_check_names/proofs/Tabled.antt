-- Tables with one name more.
use Rattle.std.proofs.Common.{◌≡◌, ◌∙◌, ℕ, ◌+◌, ◌<◌, Bool, true, false, cond, List, [], ◌∷◌, ◌++◌, length, take}
use Rattle.std.proofs.Common.{get_or, Option, Some, None, option_map, is_some, bytes_eq, refl, sym, ap, subst, arith}
use Rattle.std.proofs.Common.{rules}
use Rattle.std.proofs.Common.{true≢false, if◌then◌else◌, find}
use Rattle.std.proofs.lemmas.List.{take_more, length-take}
use Rattle.std.proofs.lemmas.List.Folds.{find-append}
use Rattle.std.proofs.lemmas.Cmp.{nat_list_eq_equiv}
use Rattle.std.proofs.lemmas.Slice.Eq.{bytes_eq-Decides}
use Rattle.std.specs.List.{enumerate_from}
use Rattle.std.specs.Map.{lookup}
use Rattle.std.specs.Option.{option_or}
use Rattle.indexmap.specs.IndexMap.{IndexMap, insert_entry}
use Rattle.indexmap.proofs.CallerLemmas.{insert_entry-new}
use Rattle.cat_check_names.specs.Table.{Table, number_in, with_name, number_named, IsTableOf}
use Rattle.cat_check_names.proofs.Finding.{numbered_push}

-- a name that is not there stands last
pub new_last : {S : Type 0} (m : IndexMap (List ℕ) ℕ S) (table entries : Table) (w v : List ℕ) (n : ℕ)
    → m.entries ≡ table → v ≡ w → is_some (lookup (bytes_eq w) m.entries) ≡ false
    → entries ≡ insert_entry bytes_eq m.entries v n → entries ≡ with_name table w n
new_last m table entries w v n view same none inserted =
    let absent : lookup (bytes_eq v) m.entries ≡ None =
    nothing (lookup (bytes_eq v) m.entries) (subst (λ (u : List ℕ). is_some (lookup (bytes_eq u) m.entries) ≡ false)
    (sym same) none) in
    inserted ∙ insert_entry-new bytes_eq m v n absent
    ∙ ap (λ (u : List ℕ). m.entries ++ (u, n) ∷ []) same
    ∙ sym (ap (λ (b : Bool). if b then m.entries else m.entries ++ (w, n) ∷ []) none)
    ∙ ap (λ (t : Table). with_name t w n) view where
      nothing : (found : Option ℕ) → is_some found ≡ false → found ≡ None
      nothing None empty = refl
      nothing (Some k) empty = absurd (true≢false empty)

-- a number where a test passes
abbrev pub number_if : Bool → ℕ → Option ℕ
number_if b n = if b then Some n else None

-- an entry at the end is found where none in front of it is
lookup_push : {V : Type 0} (w v : List ℕ) (a : V) (es : List (List ℕ × V))
    → lookup (bytes_eq w) (es ++ (v, a) ∷ []) ≡ option_or (lookup (bytes_eq w) es)
    (if bytes_eq w v then Some a else None)
lookup_push w v a [] = by (bytes_eq w v) where
  by : (b : Bool) → cond b (Some a) None ≡ (if b then Some a else None)
  by true = refl
  by false = refl
lookup_push w v a (e ∷ es) = by (bytes_eq w e.0) (lookup_push w v a es) where
  by : (b : Bool) → lookup (bytes_eq w) (es ++ (v, a) ∷ []) ≡ option_or (lookup (bytes_eq w) es)
      (if bytes_eq w v then Some a else None)
      → cond b (Some e.1) (lookup (bytes_eq w) (es ++ (v, a) ∷ []))
      ≡ option_or (cond b (Some e.1) (lookup (bytes_eq w) es)) (if bytes_eq w v then Some a else None)
  by true rest = refl
  by false rest = rest

-- what is there stays where there is one
pub or_there : {A : Type 0} (found : Option A) (other : Option A) → is_some found ≡ true → option_or found other ≡ found
or_there (Some a) other there = refl
or_there None other there = absurd (true≢false (sym there))

-- a table with one name more has it where it had none
added_in : (w v : List ℕ) (n : ℕ) (table : Table)
    → number_in (with_name table v n) w ≡ option_or (number_in table w) (number_if (bytes_eq w v) n)
added_in w v n table = by (is_some (number_in table v)) refl where
  by : (there : Bool) → is_some (number_in table v) ≡ there
      → number_in (if there then table else table ++ (v, n) ∷ []) w
      ≡ option_or (number_in table w) (number_if (bytes_eq w v) n)
  by false none = lookup_push w v n table
  by true there = same (bytes_eq w v) refl where
    same : (b : Bool) → bytes_eq w v ≡ b → number_in table w ≡ option_or (number_in table w) (number_if b n)
    same true is = sym (or_there (number_in table w) (Some n)
        (subst (λ (u : List ℕ). is_some (number_in table u) ≡ true) (sym ((bytes_eq-Decides w v).0 is)) there))
    same false is = nothing (number_in table w) where
      nothing : (found : Option ℕ) → found ≡ option_or found None
      nothing None = refl
      nothing (Some k) = refl

number_or : {A : Type 0} (found other : Option (ℕ × A))
    → option_map (λ x. x.0) (option_or found other) ≡ option_or (option_map (λ x. x.0) found)
    (option_map (λ x. x.0) other)
number_or None other = refl
number_or (Some x) other = refl

number_cond : {A : Type 0} (b : Bool) (n : ℕ) (x : A)
    → option_map {T = ℕ × A} (λ x. x.0) (cond b (Some (n, x)) None) ≡ number_if b n
number_cond true n x = refl
number_cond false n x = refl

-- one thing more has its name where none in front of it has
pub more_named : {A : Type 0} (name_of : A → List ℕ) (w : List ℕ) (xs : List A) (x : A)
    → number_named name_of w (xs ++ x ∷ [])
    ≡ option_or (number_named name_of w xs) (number_if (bytes_eq (name_of x) w) (length xs))
more_named {A} name_of w xs x =
    let test : ℕ × A → Bool = λ y. bytes_eq (name_of y.1) w in
    ap (λ es. option_map (λ y. y.0) (find test es)) (numbered_push 0 xs x
    ∙ ap (λ (n : ℕ). enumerate_from 0 xs ++ (n, x) ∷ []) (omega arith))
    ∙ ap (option_map (λ y. y.0)) (find-append test (enumerate_from 0 xs) ((length xs, x) ∷ []))
    ∙ number_or (find test (enumerate_from 0 xs)) (find test ((length xs, x) ∷ []))
    ∙ ap (option_or (number_named name_of w xs)) (number_cond (bytes_eq (name_of x) w) (length xs) x)

-- a table of some things, with the name of one more behind them
pub one_behind : {A : Type 0} (name_of : A → List ℕ) (front : List A) (x : A) (i : ℕ) (table new : Table)
    → length front ≡ i → IsTableOf name_of front table → new ≡ with_name table (name_of x) i
    → IsTableOf name_of (front ++ x ∷ []) new
one_behind name_of front x i table new long before added w =
    ap (λ (t : Table). number_in t w) added
    ∙ added_in w (name_of x) i table
    ∙ ap (λ (b : Bool). option_or (number_in table w) (number_if b i)) (nat_list_eq_equiv.symm w (name_of x))
    ∙ ap (λ found. option_or found (number_if (bytes_eq (name_of x) w) i)) (before w)
    ∙ ap (λ (n : ℕ). option_or (number_named name_of w front) (number_if (bytes_eq (name_of x) w) n)) (sym long)
    ∙ sym (more_named name_of w front x)

-- the same of the first ones of a list
pub one_more : {A : Type 0} (name_of : A → List ℕ) (xs : List A) (i : ℕ) (x : A) (table new : Table)
    → i < length xs → get_or xs i x ≡ x → IsTableOf name_of (take i xs) table → new ≡ with_name table (name_of x) i
    → IsTableOf name_of (take (i + 1) xs) new
one_more name_of xs i x table new within is before added =
    subst (λ front. IsTableOf name_of front new)
    (sym (take_more xs i x within ∙ ap (λ y. take i xs ++ y ∷ []) is))
    (one_behind name_of (take i xs) x i table new (search (rules, length-take)) before added)
