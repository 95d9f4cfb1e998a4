-- What holds of each element of a list.
use Rattle.std.proofs.Common.{List, [], ◌∷◌, ◌++◌, map}
use Rattle.cat_scope.specs.Names.{AllHave}
use Rattle.cat_scope.proofs.Exported.{all_append}

pub all_as : {A : Type 0} (P Q : A → Type 0) (xs : List A) → ((x : A) → P x → Q x) → AllHave P xs → AllHave Q xs
all_as P Q [] go h = tt
all_as P Q (x ∷ xs) go h = (go x h.0, all_as P Q xs go h.1)

pub all_mapped : {A B : Type 0} (f : A → B) (P : B → Type 0) (xs : List A) → AllHave (λ x. P (f x)) xs
    → AllHave P (map f xs)
all_mapped f P [] h = tt
all_mapped f P (x ∷ xs) h = (h.0, all_mapped f P xs h.1)

pub all_so : {A : Type 0} (P : A → Type 0) (xs : List A) → ((x : A) → P x) → AllHave P xs
all_so P [] go = tt
all_so P (x ∷ xs) go = (go x, all_so P xs go)
