-- What holds where there is an answer, and faults among which no unknown name is.
use Rattle.std.specs.Option.{is_some}
use Rattle.std.proofs.Common.{◌≡◌, ◌⊎◌, not, Bool, true, false, List, [], ◌∷◌, ◌++◌, map, Option, Some, None, Ok, Err}
use Rattle.std.proofs.Common.{refl, inl, inr}
use Rattle.cat_pos.specs.declared.pos.Pos.{Pos}
use Rattle.cat_tree.specs.declared.name.Name.{Name}
use Rattle.cat_scope.specs.Names.{IsOneOf}
use Rattle.cat_names.specs.declared.fault.Fault.{Fault}
use Rattle.cat_names.specs.declared.fault.Fault.TheVariants.{NameTwice, NameUnknown}
use Rattle.cat_names.specs.Found.{Found, and_then, both, or_fault, fault_if}
use Rattle.cat_names.specs.Unknown.{unless}
use Rattle.cat_names.proofs.OnlyLaws.{split}

-- ---- answers

abbrev pub Answers : {A : Type 0} → Found A → Type 0
Answers (Ok a) = Unit {0}
Answers (Err faults) = ⊥

-- what holds where there is an answer
pub record Where (F : Type 0) {A : Type 0} (found : Found A) : Type 0 where
  pub holds : Answers found → F

pub where_ok : (F : Type 0) {A : Type 0} (found : Found A) → F → Where F found
where_ok F found f = record { holds = λ h. f }

pub where_no : (F : Type 0) {A : Type 0} (faults : List Fault) → Where F {A = A} (Err faults)
where_no F faults = record { holds = λ h. absurd h }

-- by what holds of the first part
pub where_then : (F G : Type 0) {A B : Type 0} (found : Found A) (go : A → Found B) → Where G found → (G → F)
    → Where F (and_then found go)
where_then F G (Ok a) go h more = record { holds = λ i. more (h.holds tt) }
where_then F G (Err faults) go h more = where_no F faults

-- by what holds of it and of what follows
pub where_next : (F G : Type 0) {A B : Type 0} (found : Found A) (go : A → Found B) → Where G found
    → (G → (a : A) → Where F (go a)) → Where F (and_then found go)
where_next F G (Ok a) go h next = next (h.holds tt) a
where_next F G (Err faults) go h next = where_no F faults

pub where_both : (F G H : Type 0) {A B C : Type 0} (x : Found A) (y : Found B) (go : A → B → Found C) → Where G x
    → Where H y → (G → H → F) → Where F (both x y go)
where_both F G H (Ok a) (Ok b) go h i more = record { holds = λ j. more (h.holds tt) (i.holds tt) }
where_both F G H (Ok a) (Err faults) go h i more = where_no F faults
where_both F G H (Err faults) (Ok b) go h i more = where_no F faults
where_both F G H (Err faults) (Err others) go h i more = where_no F (faults ++ others)

pub where_both_next : (F G H : Type 0) {A B C : Type 0} (x : Found A) (y : Found B) (go : A → B → Found C) → Where G x
    → Where H y → (G → H → (a : A) (b : B) → Where F (go a b)) → Where F (both x y go)
where_both_next F G H (Ok a) (Ok b) go h i next = next (h.holds tt) (i.holds tt) a b
where_both_next F G H (Ok a) (Err faults) go h i next = where_no F faults
where_both_next F G H (Err faults) (Ok b) go h i next = where_no F faults
where_both_next F G H (Err faults) (Err others) go h i next = where_no F (faults ++ others)

pub where_or : (F : Type 0) {A B : Type 0} (fault : Fault) (o : Option A) (go : A → Found B)
    → (is_some o ≡ true → (a : A) → Where F (go a)) → Where F (and_then (or_fault fault o) go)
where_or F fault (Some a) go next = next refl a
where_or F fault None go next = where_no F (fault ∷ [])

pub where_some : {A : Type 0} (fault : Fault) (o : Option A) → Where (is_some o ≡ true) (or_fault fault o)
where_some fault (Some a) = where_ok _ (Ok a) refl
where_some fault None = where_no _ (fault ∷ [])

pub where_any : {A : Type 0} (found : Found A) → Where (Unit {0}) found
where_any (Ok a) = record { holds = λ h. tt }
where_any (Err faults) = where_no _ faults

pub where_map : (F G : Type 0) {A : Type 0} (found : Found A) → Where G found → (G → F) → Where F found
where_map F G found h more = record { holds = λ i. more (h.holds i) }

-- ---- faults without an unknown name

pub record Free (faults : List Fault) : Type 0 where
  pub free : (p : Pos) → IsOneOf (NameUnknown p) faults → ⊥

pub free_none : Free []
free_none = record { free = λ p h. absurd h }

pub free_join : (xs ys : List Fault) → Free xs → Free ys → Free (xs ++ ys)
free_join xs ys h i = record { free = λ p j. by p (split (NameUnknown p) xs ys j) }
  where
    by : (p : Pos) → IsOneOf (NameUnknown p) xs ⊎ IsOneOf (NameUnknown p) ys → ⊥
    by p (inl j) = h.free p j
    by p (inr j) = i.free p j

pub free_if : (b : Bool) (fault : Fault) → b ≡ false → Free (fault_if b fault)
free_if true fault h = cc h
free_if false fault h = free_none

pub not_true : (b : Bool) → b ≡ true → not b ≡ false
not_true true h = refl
not_true false h = cc h

pub free_unless : (b : Bool) (w : Name) → b ≡ true → Free (unless b w)
free_unless b w h = free_if (not b) (NameUnknown w.pos) (not_true b h)

pub free_later : (ws : List Name) → Free (map (λ w. NameTwice w.pos) ws)
free_later [] = free_none
free_later (w ∷ ws) = record { free = λ p h. by p h (free_later ws) }
  where
    by : (p : Pos) → (NameUnknown p ≡ NameTwice w.pos) ⊎ IsOneOf (NameUnknown p) (map (λ v. NameTwice v.pos) ws)
        → Free (map (λ v. NameTwice v.pos) ws) → ⊥
    by p (inl is) rest = cc is
    by p (inr h) rest = rest.free p h
