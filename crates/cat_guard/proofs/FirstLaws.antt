-- What holds of each element holds of the first ones.
use Rattle.std.proofs.Common.{Bool, true, false, List, [], ◌∷◌, if◌then◌else◌}
use Rattle.cat_scope.specs.Names.{AllHave}
use Rattle.cat_guard.specs.Numbering.{is_seen, firsts}

pub firsts_all : {A : Type 0} (P : A → Type 0) (same : A → A → Bool) (seen xs : List A) → AllHave P xs
    → AllHave P (firsts same seen xs)
firsts_all P same seen [] h = tt
firsts_all P same seen (x ∷ xs) h =
    by (is_seen same x seen) (firsts_all P same seen xs h.1) (firsts_all P same (x ∷ seen) xs h.1)
  where
    by : (c : Bool) → AllHave P (firsts same seen xs) → AllHave P (firsts same (x ∷ seen) xs)
        → AllHave P (if c then firsts same seen xs else x ∷ firsts same (x ∷ seen) xs)
    by true old new = old
    by false old new = (h.0, new)
