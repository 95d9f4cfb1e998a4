-- Where the parts of a code stand.
use Rattle.std.proofs.Common.{◌≡◌, ℕ, ◌+◌, List, [], ◌∷◌, ◌++◌, length, refl, arith}
use Rattle.cat_code.specs.declared.instr.Instr.{Instr}
use Rattle.cat_code.specs.declared.code.Tables.{Tables}
use Rattle.cat_lower.specs.Stands.{HasAt, Has}
use Rattle.cat_lower.specs.Laying.{Ends, Coded, past, one, then_code, led, skip, end_of}

pub has_front : {A : Type 0} (all : List A) (n : ℕ) (xs ys : List A) → HasAt all n (xs ++ ys) → HasAt all n xs
has_front all n [] ys h = tt
has_front all n (x ∷ xs) ys h = (h.0, has_front all (n + 1) xs ys h.1)

pub has_back : {A : Type 0} (all : List A) (n : ℕ) (xs ys : List A) → HasAt all n (xs ++ ys) → HasAt all (past n xs) ys
has_back all n [] ys h = h
has_back all n (x ∷ xs) ys h = has_back all (n + 1) xs ys h.1

-- past some entries stand as many more
pub past_length : {A : Type 0} (n : ℕ) (xs : List A) → past n xs ≡ n + length xs
past_length n [] = omega arith
past_length n (x ∷ xs) = let e = past_length (n + 1) xs in omega arith

-- what stands behind two is what stands behind the second
pub past_append : {A : Type 0} (n : ℕ) (xs ys : List A) → past n (xs ++ ys) ≡ past (past n xs) ys
past_append n [] ys = refl
past_append n (x ∷ xs) ys = past_append (n + 1) xs ys

module _ (tables : Tables) (code : List Instr) where
  pub first_of : (a b : Coded) (ends : Ends) → Has tables code ends (then_code a b ends) → Has tables code ends (a ends)
  first_of a b ends h = record {
    instructions = has_front code ends.place (a ends).instructions _ h.instructions;
    constants = has_front tables.constants ends.constants (a ends).constants _ h.constants;
    positions = has_front tables.positions ends.positions (a ends).positions _ h.positions;
    targets = has_front tables.targets ends.targets (a ends).targets _ h.targets;
  }

  pub second_of : (a b : Coded) (ends : Ends) → Has tables code ends (then_code a b ends)
      → Has tables code (end_of a ends) (b (end_of a ends))
  second_of a b ends h = record {
    instructions = has_back code ends.place (a ends).instructions _ h.instructions;
    constants = has_back tables.constants ends.constants (a ends).constants _ h.constants;
    positions = has_back tables.positions ends.positions (a ends).positions _ h.positions;
    targets = has_back tables.targets ends.targets (a ends).targets _ h.targets;
  }

  pub rest_of : (i : Instr) (a : Coded) (ends : Ends) → Has tables code ends (led i a ends)
      → Has tables code (skip ends) (a (skip ends))
  rest_of i a ends h = second_of (one i) a ends h
