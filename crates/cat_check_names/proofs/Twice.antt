-- Names that stand twice, one after another.
use Rattle.std.proofs.Common.{◌≡◌, ◌∙◌, ℕ, zero, suc, ◌+◌, ◌<◌, ◌||◌, Bool, true, false, cond, List, [], ◌∷◌, ◌++◌}
use Rattle.std.proofs.Common.{length}
use Rattle.std.proofs.Common.{take, drop, get_or, map, filter, bytes_eq, refl, sym, ap, arith}
use Rattle.std.proofs.Math.Seq.{drop-cons}
use Rattle.std.proofs.lemmas.List.{take_more, append_assoc}
use Rattle.std.proofs.lemmas.List.Folds.{list_any-append}
use Rattle.std.specs.List.{enumerate_from, list_any}
use Rattle.cat_tree.specs.declared.name.Name.{Name}
use Rattle.cat_names.specs.declared.fault.Fault.{Fault}
use Rattle.cat_names.specs.declared.fault.Fault.TheVariants.{NameTwice}
use Rattle.cat_names.specs.Found.{fault_if}
use Rattle.cat_names.specs.Unknown.{twice}

-- the later of two equal names, among the names from number n on
abbrev pub later : List Name → ℕ → List Name → List Fault
later names n rest = map (λ w. NameTwice w.pos) (map (λ x. x.1) (filter
    (λ x. list_any (λ other. bytes_eq other.text x.1.text) (take x.0 names)) (enumerate_from n rest)))

-- one name more
later_rest : (names : List Name) (n : ℕ) (w : Name) (rest : List Name)
    → later names n (w ∷ rest)
    ≡ fault_if (list_any (λ other. bytes_eq other.text w.text) (take n names)) (NameTwice w.pos)
    ++ later names (n + 1) rest
later_rest names n w rest = by (list_any (λ other. bytes_eq other.text w.text) (take n names)) where
  more : List (ℕ × Name)
  more = filter (λ x. list_any (λ other. bytes_eq other.text x.1.text) (take x.0 names)) (enumerate_from (n + 1) rest)

  by : (b : Bool)
      → map (λ v. NameTwice v.pos) (map (λ x. x.1) (cond b ((n, w) ∷ more) more))
      ≡ fault_if b (NameTwice w.pos) ++ map (λ v. NameTwice v.pos) (map (λ x. x.1) more)
  by true = refl
  by false = refl

any_written : {A B : Type 0} (p : B → Bool) (f : A → B) (i : ℕ) (xs : List A)
    → list_any p (take i (map f xs)) ≡ list_any (λ x. p (f x)) (take i xs)
any_written p f zero xs = refl
any_written p f (suc i) [] = refl
any_written p f (suc i) (x ∷ xs) = ap (λ (b : Bool). p (f x) || b) (any_written p f i xs)

true_or : (b any : Bool) → cond b true any ≡ (any || (b || false))
true_or true true = refl
true_or true false = refl
true_or false true = refl
true_or false false = refl

-- one name more has been seen
pub seen_more : {A : Type 0} (written : A → Name) (things : List A) (i : ℕ) (x : A) (old new : List (List ℕ))
    → i < length things → get_or things i x ≡ x
    → ((w : List ℕ) → list_any (bytes_eq w) new ≡ cond (bytes_eq (written x).text w) true (list_any (bytes_eq w) old))
    → ((w : List ℕ) → list_any (bytes_eq w) old ≡ list_any (λ y. bytes_eq (written y).text w) (take i things))
    → (w : List ℕ) → list_any (bytes_eq w) new ≡ list_any (λ y. bytes_eq (written y).text w) (take (i + 1) things)
seen_more {A} written things i x old new within is added before w =
    let has : A → Bool = λ y. bytes_eq (written y).text w in
    added w ∙ ap (cond (has x) true) (before w) ∙ true_or (has x) (list_any has (take i things))
    ∙ sym (ap (list_any has) (take_more things i x within ∙ ap (λ y. take i things ++ y ∷ []) is)
    ∙ list_any-append has (take i things) (x ∷ []))

-- the faults from one thing on
step_on : {A : Type 0} (written : A → Name) (things : List A) (i : ℕ) (x : A) (old : List (List ℕ))
    → i < length things → get_or things i x ≡ x
    → ((w : List ℕ) → list_any (bytes_eq w) old ≡ list_any (λ y. bytes_eq (written y).text w) (take i things))
    → later (map written things) i (map written (drop i things))
    ≡ fault_if (list_any (bytes_eq (written x).text) old) (NameTwice (written x).pos)
    ++ later (map written things) (i + 1) (map written (drop (i + 1) things))
step_on written things i x old within is before =
    let next : suc i ≡ i + 1 = omega arith in
    ap (λ rest. later (map written things) i (map written rest))
    (drop-cons things i x within ∙ ap (λ y. y ∷ drop (suc i) things) is)
    ∙ ap (λ (k : ℕ). later (map written things) i (written x ∷ map written (drop k things))) next
    ∙ later_rest (map written things) i (written x) (map written (drop (i + 1) things))
    ∙ ap (λ (b : Bool). fault_if b (NameTwice (written x).pos)
    ++ later (map written things) (i + 1) (map written (drop (i + 1) things)))
    (any_written (λ other. bytes_eq other.text (written x).text) written i things ∙ sym (before (written x).text))

-- a name that wasn't seen adds nothing
pub fresh_name : {A : Type 0} (written : A → Name) (things : List A) (i : ℕ) (x : A) (old : List (List ℕ))
    (first faults : List Fault) → i < length things → get_or things i x ≡ x
    → ((w : List ℕ) → list_any (bytes_eq w) old ≡ list_any (λ y. bytes_eq (written y).text w) (take i things))
    → list_any (bytes_eq (written x).text) old ≡ false
    → faults ++ later (map written things) i (map written (drop i things)) ≡ first ++ twice (map written things)
    → faults ++ later (map written things) (i + 1) (map written (drop (i + 1) things))
    ≡ first ++ twice (map written things)
fresh_name written things i x old first faults within is before none made =
    let rest : List Fault = later (map written things) (i + 1) (map written (drop (i + 1) things)) in
    ap (λ fs. faults ++ fs) (sym (step_on written things i x old within is before
    ∙ ap (λ (b : Bool). fault_if b (NameTwice (written x).pos) ++ rest) none)) ∙ made

-- a name that was seen is a fault
pub seen_name : {A : Type 0} (written : A → Name) (things : List A) (i : ℕ) (x : A) (old : List (List ℕ))
    (first faults grown : List Fault) → i < length things → get_or things i x ≡ x
    → ((w : List ℕ) → list_any (bytes_eq w) old ≡ list_any (λ y. bytes_eq (written y).text w) (take i things))
    → list_any (bytes_eq (written x).text) old ≡ true
    → grown ≡ faults ++ NameTwice (written x).pos ∷ []
    → faults ++ later (map written things) i (map written (drop i things)) ≡ first ++ twice (map written things)
    → grown ++ later (map written things) (i + 1) (map written (drop (i + 1) things))
    ≡ first ++ twice (map written things)
seen_name written things i x old first faults grown within is before seen added made =
    let rest : List Fault = later (map written things) (i + 1) (map written (drop (i + 1) things)) in
    ap (λ fs. fs ++ rest) added ∙ append_assoc faults (NameTwice (written x).pos ∷ []) rest
    ∙ ap (λ fs. faults ++ fs) (sym (step_on written things i x old within is before
    ∙ ap (λ (b : Bool). fault_if b (NameTwice (written x).pos) ++ rest) seen)) ∙ made
