-- Targets of a table and their atoms.
use Rattle.std.proofs.Common.{◌≡◌, ℕ, zero, suc, ◌<◌, IsTrue, List, []}
use Rattle.std.proofs.Common.{◌∷◌, ◌++◌, length, Option, Some, None, slice_get, refl, sym, subst, arith}
use Rattle.std.proofs.Common.{◌⊎◌, inl, inr, nat_lt}
use Rattle.std.specs.Prelude.{IfSome}
use Rattle.std.specs.List.{list_all}
use Rattle.std.proofs.lemmas.Bool.Decides.{nat_tests}
use Rattle.cat_value.proofs.Exported.{found}
use Rattle.cat_scope.specs.Names.{IsOneOf, AllHave}
use Rattle.cat_guard.specs.declared.table.Term.{Term}
use Rattle.cat_guard.specs.declared.table.Atom.{Atom}
use Rattle.cat_guard.specs.declared.table.TableTarget.{TableTarget}
use Rattle.cat_guard.specs.declared.guard.GuardDef.{GuardDef}
use Rattle.cat_guard.specs.Formulas.{asked}
use Rattle.cat_guard.specs.GuardFormulas.{formula_of}
use Rattle.cat_guard.specs.Soundness.{are_below, def_is_sound, target_is_sound, is_sound}
use Rattle.cat_guard.proofs.Exported.{both_true, targets_sound, sound_parts}
use Rattle.cat_guard.specs.Judgements.{asked_in, atoms_in}

pub atom_at : (atoms : List Atom) (a : ℕ) → a < length atoms → (atom : Atom) × (slice_get atoms a ≡ Some atom)
atom_at atoms a within = found atoms a within

-- a target that is there
pub if_some : {A : Type 0} {P Q : A → Type 0} (o : Option A) → IfSome o P → ((t : A) → o ≡ Some t → P t → Q t)
    → IfSome o Q
if_some None p go = tt
if_some (Some t) p go = go t refl p

pub target_at : (P : TableTarget → Type 0) (targets : List TableTarget) (n : ℕ) → n < length targets
    → IfSome (slice_get targets n) P → (t : TableTarget) × (slice_get targets n ≡ Some t) × P t
target_at P targets n within p =
    let one = found targets n within in (one.0, one.1, subst (λ o. IfSome o P) one.1 p)

pub all_at : {A : Type 0} (P : A → Type 0) (xs : List A) (n : ℕ) (x : A) → AllHave P xs → slice_get xs n ≡ Some x → P x
all_at P [] n x all is = absurd (cc)
all_at P (y ∷ ys) zero x all is = let same : y ≡ x = cc in subst P same all.0
all_at P (y ∷ ys) (suc n) x all is = all_at P ys n x all.1 is

-- the atoms of a target are atoms of the table
one_below : (bound : ℕ) (a : ℕ) (ns : List ℕ) → IsTrue (are_below bound ns) → IsOneOf a ns → a < bound
one_below bound a [] all among = absurd (among)
one_below bound a (n ∷ ns) all (inl same) =
    let two = both_true (nat_lt n bound) (are_below bound ns) all in
    subst (λ (k : ℕ). k < bound) (sym same) (grind (arith, nat_tests, two.0))
one_below bound a (n ∷ ns) all (inr among) =
    one_below bound a ns (both_true (nat_lt n bound) (are_below bound ns) all).1 among

pub one_of_two : {A : Type 0} (a : A) (xs ys : List A) → IsOneOf a (xs ++ ys) → IsOneOf a xs ⊎ IsOneOf a ys
one_of_two a [] ys among = inr among
one_of_two a (x ∷ xs) ys (inl same) = inl (inl same)
one_of_two a (x ∷ xs) ys (inr among) = by (one_of_two a xs ys among)
  where
    by : IsOneOf a xs ⊎ IsOneOf a ys → IsOneOf a (x ∷ xs) ⊎ IsOneOf a ys
    by (inl here) = inl (inr here)
    by (inr there) = inr there

pub def_below : (atoms : ℕ) (a : ℕ) (defs : List GuardDef) → IsTrue (list_all (def_is_sound atoms) defs)
    → IsOneOf a (asked_in defs) → a < atoms
def_below atoms a [] all among = absurd (among)
def_below atoms a (d ∷ defs) all among =
    by (one_of_two a (asked (formula_of d.guard)) (asked_in defs) among) (def_below atoms a defs two.1)
  where
    two : IsTrue (def_is_sound atoms d) × IsTrue (list_all (def_is_sound atoms) defs)
    two = both_true (def_is_sound atoms d) (list_all (def_is_sound atoms) defs) all

    by : IsOneOf a (asked (formula_of d.guard)) ⊎ IsOneOf a (asked_in defs) → (IsOneOf a (asked_in defs) → a < atoms)
        → a < atoms
    by (inl here) rest = one_below atoms a (asked (formula_of d.guard)) two.0 here
    by (inr there) rest = rest there

pub asked_below : (terms : List Term) (atoms : List Atom) (targets : List TableTarget)
    → IsTrue (is_sound terms atoms targets) → (n : ℕ) (t : TableTarget) → slice_get targets n ≡ Some t → (a : ℕ)
    → IsOneOf a (atoms_in t) → a < length atoms
asked_below terms atoms targets sound n t is a among =
    let of = all_at (λ t. IsTrue (target_is_sound (length atoms) t)) targets n t
    (targets_sound terms atoms targets sound) is in
    def_below (length atoms) a t.defs (sound_parts (length atoms) t of).0 among

pub some_target : {P : TableTarget → Type 0} (o : Option TableTarget) → ((t : TableTarget) → P t) → IfSome o P
some_target None all = tt
some_target (Some t) all = all t
