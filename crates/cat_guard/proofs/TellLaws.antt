-- What is found of a formula by what is found of its parts.
use Rattle.std.proofs.Common.{◌≡◌, ◌⊎◌, inl, inr, ℕ, Bool, true, false, not, List, [], ◌∷◌, ◌++◌, Option, Some, None}
use Rattle.std.proofs.Common.{refl, sym, ap, ◌∙◌, subst, true≢false}
use Rattle.cat_scope.specs.Comparing.{differ}
use Rattle.cat_scope.specs.Names.{IsOneOf}
use Rattle.cat_guard.specs.Formulas.{Formula, both, any, choice, of_one, of_two, of_three, known, asked}
use Rattle.cat_guard.specs.Formulas as formula
use Rattle.cat_guard.specs.declared.truth.Truth.{Truth}
use Rattle.cat_guard.specs.declared.truth.Truth.TheVariants as truth
use Rattle.cat_guard.specs.inside.Telling.{Tells, told, is_it}

pub in_front : {A : Type 0} (x : A) (xs ys : List A) → IsOneOf x xs → IsOneOf x (xs ++ ys)
in_front x [] ys among = elim among [ ]
in_front x (y ∷ xs) ys (inl e) = inl e
in_front x (y ∷ xs) ys (inr among) = inr (in_front x xs ys among)

pub in_back : {A : Type 0} (x : A) (xs ys : List A) → IsOneOf x ys → IsOneOf x (xs ++ ys)
in_back x [] ys among = among
in_back x (y ∷ xs) ys among = inr (in_back x xs ys among)

-- one of two lists
abbrev OneOf : {A : Type 0} → A → List A → List A → Type 0
OneOf x xs ys = (IsOneOf x xs) ⊎ (IsOneOf x ys)

pub parted : {A : Type 0} (x : A) (xs ys : List A) → IsOneOf x (xs ++ ys) → OneOf x xs ys
parted x [] ys among = inr among
parted x (y ∷ xs) ys (inl e) = inl (inl e)
parted x (y ∷ xs) ys (inr among) = by (parted x xs ys among)
  where
    by : OneOf x xs ys → OneOf x (y ∷ xs) ys
    by (inl h) = inl (inr h)
    by (inr h) = inr h

-- ---- choices

three_same : (x y z o p q : Option Bool) → x ≡ o → y ≡ p → z ≡ q → of_three choice x y z ≡ of_three choice o p q
three_same x y z o p q e f g =
    ap (λ u. of_three choice u y z) e ∙ ap (λ u. of_three choice o u z) f ∙ ap (of_three choice o p) g

neither : (z : Option Bool) → of_three choice None None z ≡ None
neither None = refl
neither (Some true) = refl
neither (Some false) = refl

not_second : (a : Bool) → of_three choice None (Some a) None ≡ None
not_second true = refl
not_second false = refl

parted_open : (a b : Bool) → (a ≡ b → ⊥) → of_three choice None (Some a) (Some b) ≡ None
parted_open true true h = absurd (h refl)
parted_open true false h = refl
parted_open false true h = refl
parted_open false false h = absurd (h refl)

first_known : (b : Bool) (z : Option Bool) → of_three choice (Some true) (Some b) z ≡ Some b
first_known true None = refl
first_known false None = refl
first_known b (Some d) = refl

first_open : (z : Option Bool) → of_three choice (Some true) None z ≡ None
first_open None = refl
first_open (Some d) = refl

second_known : (b : Bool) (y : Option Bool) → of_three choice (Some false) y (Some b) ≡ Some b
second_known true None = refl
second_known false None = refl
second_known b (Some d) = refl

second_open : (y : Option Bool) → of_three choice (Some false) y None ≡ None
second_open None = refl
second_open (Some true) = refl
second_open (Some false) = refl

module _ (answers : ℕ → Option Bool) where
  pub found_is : (f : Formula ℕ) (x : Truth) → Tells answers f x → known answers f ≡ told x
  found_is f (truth.Known b) h = h
  found_is f (truth.Open a) h = h.0

  module _ (c f g : Formula ℕ) where
    test_open : (a : ℕ) (y z : Option Bool) → Tells answers c (truth.Open a) → known answers f ≡ y
        → known answers g ≡ z → of_three choice None y z ≡ None
        → Tells answers (formula.Choice c f g) (truth.Open a)
    test_open a y z h i j e = (
      three_same (known answers c) (known answers f) (known answers g) None y z h.0 i j ∙ e,
      in_front a (asked c ++ asked f) (asked g) (in_front a (asked c) (asked f) h.1),
      h.2,
    )

    pub agreed_first : (a b : ℕ) (z : Truth) → Tells answers c (truth.Open a) → Tells answers f (truth.Open b)
        → Tells answers g z → Tells answers (formula.Choice c f g) (truth.Open a)
    agreed_first a b z h i j = test_open a None (told z) h i.0 (found_is g z j) (neither (told z))

    pub agreed_second : (a b : ℕ) (y : Bool) → Tells answers c (truth.Open a) → Tells answers f (truth.Known y)
        → Tells answers g (truth.Open b) → Tells answers (formula.Choice c f g) (truth.Open a)
    agreed_second a b y h i j = test_open a (Some y) None h i j.0 (not_second y)

    pub agreed_not : (a : ℕ) (y z : Bool) → (y ≡ z → ⊥) → Tells answers c (truth.Open a)
        → Tells answers f (truth.Known y) → Tells answers g (truth.Known z)
        → Tells answers (formula.Choice c f g) (truth.Open a)
    agreed_not a y z differ h i j = test_open a (Some y) (Some z) h i j (parted_open y z differ)

    pub chosen_first : (y z : Truth) → Tells answers c (truth.Known true) → Tells answers f y → Tells answers g z
        → Tells answers (formula.Choice c f g) y
    chosen_first (truth.Known b) z h i j =
        three_same (known answers c) (known answers f) (known answers g) (Some true) (Some b) (told z) h i
        (found_is g z j) ∙ first_known b (told z)
    chosen_first (truth.Open a) z h i j = (
      three_same (known answers c) (known answers f) (known answers g) (Some true) None (told z) h i.0
          (found_is g z j) ∙ first_open (told z),
      in_front a (asked c ++ asked f) (asked g) (in_back a (asked c) (asked f) i.1),
      i.2,
    )

    pub chosen_second : (y z : Truth) → Tells answers c (truth.Known false) → Tells answers f y → Tells answers g z
        → Tells answers (formula.Choice c f g) z
    chosen_second y (truth.Known b) h i j =
        three_same (known answers c) (known answers f) (known answers g) (Some false) (told y) (Some b) h
        (found_is f y i) j ∙ second_known b (told y)
    chosen_second y (truth.Open a) h i j = (
      three_same (known answers c) (known answers f) (known answers g) (Some false) (told y) None h (found_is f y i)
          j.0 ∙ second_open (told y),
      in_back a (asked c ++ asked f) (asked g) j.1,
      j.2,
    )

-- ---- connectives of two parts as choices

both_choice : (x y : Option Bool) → of_two both x y ≡ of_three choice x y (Some false)
both_choice None None = refl
both_choice None (Some true) = refl
both_choice None (Some false) = refl
both_choice (Some true) None = refl
both_choice (Some true) (Some b) = refl
both_choice (Some false) None = refl
both_choice (Some false) (Some b) = refl

any_choice : (x y : Option Bool) → of_two any x y ≡ of_three choice x (Some true) y
any_choice None None = refl
any_choice None (Some true) = refl
any_choice None (Some false) = refl
any_choice (Some true) None = refl
any_choice (Some true) (Some b) = refl
any_choice (Some false) None = refl
any_choice (Some false) (Some b) = refl

differ_choice : (x y : Option Bool) → of_two differ x y ≡ of_three choice x (of_one not y) y
differ_choice None None = refl
differ_choice None (Some true) = refl
differ_choice None (Some false) = refl
differ_choice (Some true) None = refl
differ_choice (Some true) (Some true) = refl
differ_choice (Some true) (Some false) = refl
differ_choice (Some false) None = refl
differ_choice (Some false) (Some true) = refl
differ_choice (Some false) (Some false) = refl

module _ (answers : ℕ → Option Bool) (f g : Formula ℕ) where
  pub both_told : (x : Truth) → Tells answers (formula.Choice f g (formula.Constant false)) x
      → Tells answers (formula.Both f g) x
  both_told (truth.Known b) h = both_choice (known answers f) (known answers g) ∙ h
  both_told (truth.Open a) h = (
    both_choice (known answers f) (known answers g) ∙ h.0,
    by (parted a (asked f ++ asked g) [] h.1),
    h.2,
  )
    where
      by : OneOf a (asked f ++ asked g) [] → IsOneOf a (asked f ++ asked g)
      by (inl among) = among
      by (inr none) = elim none [ ]

  pub either_told : (x : Truth) → Tells answers (formula.Choice f (formula.Constant true) g) x
      → Tells answers (formula.Either f g) x
  either_told (truth.Known b) h = any_choice (known answers f) (known answers g) ∙ h
  either_told (truth.Open a) h = (
    any_choice (known answers f) (known answers g) ∙ h.0,
    by (parted a (asked f ++ []) (asked g) h.1),
    h.2,
  )
    where
      front : OneOf a (asked f) [] → IsOneOf a (asked f ++ asked g)
      front (inl among) = in_front a (asked f) (asked g) among
      front (inr none) = elim none [ ]

      by : OneOf a (asked f ++ []) (asked g) → IsOneOf a (asked f ++ asked g)
      by (inl among) = front (parted a (asked f) [] among)
      by (inr among) = in_back a (asked f) (asked g) among

  pub differ_told : (x : Truth) → Tells answers (formula.Choice f (formula.Not g) g) x
      → Tells answers (formula.Differ f g) x
  differ_told (truth.Known b) h = differ_choice (known answers f) (known answers g) ∙ h
  differ_told (truth.Open a) h = (
    differ_choice (known answers f) (known answers g) ∙ h.0,
    by (parted a (asked f ++ asked g) (asked g) h.1),
    h.2,
  )
    where
      by : OneOf a (asked f ++ asked g) (asked g) → IsOneOf a (asked f ++ asked g)
      by (inl among) = among
      by (inr among) = in_back a (asked f) (asked g) among

-- ---- where the first of two parts, or the second, says it all

stops_both : (x y : Option Bool) → is_it false (x) ≡ true → of_two both x y ≡ Some false
stops_both None y is = absurd (true≢false (sym is))
stops_both (Some true) y is = absurd (true≢false (sym is))
stops_both (Some false) None is = refl
stops_both (Some false) (Some b) is = refl

stops_any : (x y : Option Bool) → is_it true (x) ≡ true → of_two any x y ≡ Some true
stops_any None y is = absurd (true≢false (sym is))
stops_any (Some false) y is = absurd (true≢false (sym is))
stops_any (Some true) None is = refl
stops_any (Some true) (Some b) is = refl

pub it_is : (so : Bool) (x : Truth) → is_it so (told x) ≡ true → x ≡ truth.Known so
it_is so (truth.Open a) is = absurd (true≢false (sym is))
it_is true (truth.Known b) is = ap truth.Known is
it_is false (truth.Known true) is = absurd (true≢false (sym is))
it_is false (truth.Known false) is = refl

module _ (answers : ℕ → Option Bool) (f g : Formula ℕ) (x : Truth) where
  pub both_stops : Tells answers f x → is_it false (told x) ≡ true → Tells answers (formula.Both f g) x
  both_stops h is =
      subst (Tells answers (formula.Both f g)) (sym (it_is false x is))
      (stops_both (known answers f) (known answers g) (ap (is_it false) (found_is answers f x h) ∙ is))

  pub either_stops : Tells answers f x → is_it true (told x) ≡ true → Tells answers (formula.Either f g) x
  either_stops h is =
      subst (Tells answers (formula.Either f g)) (sym (it_is true x is))
      (stops_any (known answers f) (known answers g) (ap (is_it true) (found_is answers f x h) ∙ is))

-- of both, what the second isn't says it all, and else it is as the first is
pub both_second : (so : Bool) (x y : Option Bool) → (is_it so y ≡ so → ⊥) → is_it so y ≡ is_it so (of_two both x y)
both_second true x (Some true) other = absurd (other refl)
both_second true None (Some false) other = refl
both_second true (Some true) (Some false) other = refl
both_second true (Some false) (Some false) other = refl
both_second true None None other = refl
both_second true (Some true) None other = refl
both_second true (Some false) None other = refl
both_second false x (Some true) other = absurd (other refl)
both_second false x None other = absurd (other refl)
both_second false None (Some false) other = refl
both_second false (Some true) (Some false) other = refl
both_second false (Some false) (Some false) other = refl

pub both_first : (so : Bool) (x y : Option Bool) → is_it so y ≡ so → is_it so x ≡ is_it so (of_two both x y)
both_first true x None is = absurd (true≢false (sym is))
both_first true x (Some false) is = absurd (true≢false (sym is))
both_first true None (Some true) is = refl
both_first true (Some true) (Some true) is = refl
both_first true (Some false) (Some true) is = refl
both_first false x (Some false) is = absurd (true≢false is)
both_first false None None is = refl
both_first false (Some true) None is = refl
both_first false (Some false) None is = refl
both_first false None (Some true) is = refl
both_first false (Some true) (Some true) is = refl
both_first false (Some false) (Some true) is = refl

-- of at least one, what the second is
pub any_second : (so : Bool) (x y : Option Bool) → is_it so y ≡ so → is_it so y ≡ is_it so (of_two any x y)
any_second true x None is = absurd (true≢false (sym is))
any_second true x (Some false) is = absurd (true≢false (sym is))
any_second true None (Some true) is = refl
any_second true (Some true) (Some true) is = refl
any_second true (Some false) (Some true) is = refl
any_second false x (Some false) is = absurd (true≢false is)
any_second false None None is = refl
any_second false (Some true) None is = refl
any_second false (Some false) None is = refl
any_second false None (Some true) is = refl
any_second false (Some true) (Some true) is = refl
any_second false (Some false) (Some true) is = refl

pub any_first : (so : Bool) (x y : Option Bool) → (is_it so y ≡ so → ⊥) → is_it so x ≡ is_it so (of_two any x y)
any_first true x (Some true) other = absurd (other refl)
any_first true None None other = refl
any_first true (Some true) None other = refl
any_first true (Some false) None other = refl
any_first true None (Some false) other = refl
any_first true (Some true) (Some false) other = refl
any_first true (Some false) (Some false) other = refl
any_first false x None other = absurd (other refl)
any_first false x (Some true) other = absurd (other refl)
any_first false None (Some false) other = refl
any_first false (Some true) (Some false) other = refl
any_first false (Some false) (Some false) other = refl

pub not_so : (so : Bool) (x : Option Bool) → is_it (not so) x ≡ is_it so (of_one not x)
not_so true None = refl
not_so false None = refl
not_so true (Some true) = refl
not_so true (Some false) = refl
not_so false (Some true) = refl
not_so false (Some false) = refl

pub known_is : (so : Bool) (x : Option Bool) → is_it so x ≡ true → x ≡ Some so
known_is so None is = absurd (true≢false (sym is))
known_is true (Some b) is = ap Some is
known_is false (Some true) is = absurd (true≢false (sym is))
known_is false (Some false) is = refl
