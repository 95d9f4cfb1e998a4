-- What stands in a part stands in the whole.
use Rattle.std.proofs.Common.{◌≡◌, Bool, false, List, [], ◌∷◌, Ok, Err, refl}
use Rattle.std.specs.Prelude.{flat_map}
use Rattle.cat_scope.specs.Names.{IsOneOf}
use Rattle.cat_names.specs.declared.fault.Fault.{Fault}
use Rattle.cat_names.specs.declared.fault.Refusal.{Refusal}
use Rattle.cat_names.specs.declared.fault.Refusal.TheVariants.{Memory, Refused}
use Rattle.cat_names.specs.Found.{Found, and_then, both, where_none, fault_if, Stands, Tells}
use Rattle.cat_names.proofs.ListLaws.{behind, in_front}

-- where no test passes, there is no fault
pub no_fault : {A : Type 0} (test : A → Bool) (fault : A → Fault) (xs : List A) → ((x : A) → test x ≡ false)
    → flat_map (λ x. fault_if (test x) (fault x)) xs ≡ []
no_fault test fault [] none = refl
no_fault test fault (x ∷ xs) none = rw (none x) (no_fault test fault xs none)

-- of a part on which the rest hangs
pub then_stands : {A B : Type 0} (f : Fault) (found : Found A) (go : A → Found B) → Stands f found
    → Stands f (and_then found go)
then_stands f (Ok a) go h = elim h [ ]
then_stands f (Err faults) go h = h

-- of the first of two parts, and of the second
pub left_stands : {A B C : Type 0} (f : Fault) (a : Found A) (b : Found B) (go : A → B → Found C) → Stands f a
    → Stands f (both a b go)
left_stands f (Ok a) b go h = elim h [ ]
left_stands f (Err faults) (Ok b) go h = h
left_stands f (Err faults) (Err more) go h = in_front f faults more h

pub right_stands : {A B C : Type 0} (f : Fault) (a : Found A) (b : Found B) (go : A → B → Found C) → Stands f b
    → Stands f (both a b go)
right_stands f (Ok a) (Ok b) go h = elim h [ ]
right_stands f (Err faults) (Ok b) go h = elim h [ ]
right_stands f (Ok a) (Err more) go h = h
right_stands f (Err faults) (Err more) go h = behind f faults more h

-- of faults beside what is found, and of what is found
pub beside_stands : {A : Type 0} (f : Fault) (faults : List Fault) (found : Found A) → IsOneOf f faults
    → Stands f (where_none faults found)
beside_stands f [] found h = elim h [ ]
beside_stands f (g ∷ more) (Ok a) h = h
beside_stands f (g ∷ more) (Err faults) h = in_front f (g ∷ more) faults h

pub found_stands : {A : Type 0} (f : Fault) (faults : List Fault) (found : Found A) → Stands f found
    → Stands f (where_none faults found)
found_stands f [] found h = h
found_stands f (g ∷ more) (Ok a) h = elim h [ ]
found_stands f (g ∷ more) (Err faults) h = behind f (g ∷ more) faults h

-- the same for a reply that is handed on
pub then_tells : {A B : Type 0} (e : Refusal) (found : Found A) (go : A → Found B) → Tells {A = A} (Err e) found
    → Tells {A = B} (Err e) (and_then found go)
then_tells Memory found go h = tt
then_tells (Refused f) found go h = then_stands f found go h

pub left_tells : {A B C : Type 0} (e : Refusal) (a : Found A) (b : Found B) (go : A → B → Found C)
    → Tells {A = A} (Err e) a → Tells {A = C} (Err e) (both a b go)
left_tells Memory a b go h = tt
left_tells (Refused f) a b go h = left_stands f a b go h

pub right_tells : {A B C : Type 0} (e : Refusal) (a : Found A) (b : Found B) (go : A → B → Found C)
    → Tells {A = B} (Err e) b → Tells {A = C} (Err e) (both a b go)
right_tells Memory a b go h = tt
right_tells (Refused f) a b go h = right_stands f a b go h
