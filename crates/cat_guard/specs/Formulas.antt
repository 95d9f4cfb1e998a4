-- Connectives over questions: their truth values where each question has an answer, and what is known of these where
-- not every answer is known.
use Rattle.std.specs.Prelude.{◌≡◌, Bool, true, false, not, ◌&&◌, ◌||◌, List, [], ◌∷◌, ◌++◌, Option, Some, None}
use Rattle.std.specs.Prelude.{if◌then◌else◌}
use Rattle.cat_scope.specs.Comparing.{differ}

-- connectives over questions
pub data Formula (A : Type 0) : Type 0 where
  Constant : Bool → Formula A
  Atom : A → Formula A
  Not : Formula A → Formula A
  Both : Formula A → Formula A → Formula A
  Either : Formula A → Formula A → Formula A
  Differ : Formula A → Formula A → Formula A
  Choice : Formula A → Formula A → Formula A → Formula A

-- what each connective makes of truth values
abbrev pub both : Bool → Bool → Bool
both a b = a && b

-- at least one of the two
abbrev pub any : Bool → Bool → Bool
any a b = a || b

-- the second where the first is true, and otherwise the third
abbrev pub choice : Bool → Bool → Bool → Bool
choice c a b = if c then a else b

-- the truth value of a formula, where each question has an answer
abbrev pub truth : {A : Type 0} → (A → Bool) → Formula A → Bool
truth holds (Constant b) = b
truth holds (Atom a) = holds a
truth holds (Not f) = not (truth holds f)
truth holds (Both f g) = both (truth holds f) (truth holds g)
truth holds (Either f g) = any (truth holds f) (truth holds g)
truth holds (Differ f g) = differ (truth holds f) (truth holds g)
truth holds (Choice c f g) = choice (truth holds c) (truth holds f) (truth holds g)

-- what is known of both, where that is the same
abbrev pub agreed : Option Bool → Option Bool → Option Bool
agreed (Some true) (Some true) = Some true
agreed (Some false) (Some false) = Some false
agreed _ _ = None

-- what is known of a connective of one part: where the part is not known, what it gives whatever that is
abbrev pub of_one : (Bool → Bool) → Option Bool → Option Bool
of_one f (Some a) = Some (f a)
of_one f None = agreed (Some (f true)) (Some (f false))

-- of a connective of two parts
abbrev pub of_two : (Bool → Bool → Bool) → Option Bool → Option Bool → Option Bool
of_two f (Some a) y = of_one (f a) y
of_two f None y = agreed (of_one (f true) y) (of_one (f false) y)

-- of a connective of three parts
abbrev pub of_three : (Bool → Bool → Bool → Bool) → Option Bool → Option Bool → Option Bool → Option Bool
of_three f (Some c) x y = of_two (f c) x y
of_three f None x y = agreed (of_two (f true) x y) (of_two (f false) x y)

-- what is known of a formula, where some answers are known, connective by connective
abbrev pub known : {A : Type 0} → (A → Option Bool) → Formula A → Option Bool
known answers (Constant b) = Some b
known answers (Atom a) = answers a
known answers (Not f) = of_one not (known answers f)
known answers (Both f g) = of_two both (known answers f) (known answers g)
known answers (Either f g) = of_two any (known answers f) (known answers g)
known answers (Differ f g) = of_two differ (known answers f) (known answers g)
known answers (Choice c f g) = of_three choice (known answers c) (known answers f) (known answers g)

-- a truth value is the known one, where one is known
abbrev pub IsSo : Option Bool → Bool → Type 0
IsSo known b = (c : Bool) → known ≡ Some c → b ≡ c

-- what is known stays known
abbrev pub IsKept : Option Bool → Option Bool → Type 0
IsKept known more = (b : Bool) → known ≡ Some b → more ≡ Some b

-- the questions of a formula, from the left
abbrev pub asked : {A : Type 0} → Formula A → List A
asked (Constant b) = []
asked (Atom a) = a ∷ []
asked (Not f) = asked f
asked (Both f g) = asked f ++ asked g
asked (Either f g) = asked f ++ asked g
asked (Differ f g) = asked f ++ asked g
asked (Choice c f g) = asked c ++ asked f ++ asked g

-- the same formula over other names of its questions
abbrev pub renamed : {A B : Type 0} → (A → B) → Formula A → Formula B
renamed name (Constant b) = Constant b
renamed name (Atom a) = Atom (name a)
renamed name (Not f) = Not (renamed name f)
renamed name (Both f g) = Both (renamed name f) (renamed name g)
renamed name (Either f g) = Either (renamed name f) (renamed name g)
renamed name (Differ f g) = Differ (renamed name f) (renamed name g)
renamed name (Choice c f g) = Choice (renamed name c) (renamed name f) (renamed name g)
