-- The atoms of a target are atoms of its table.
use Rattle.std.proofs.Common.{◌≡◌, ℕ, ◌<◌, nat_eq, nat_lt, Bool, true, false, ◌||◌, IsTrue, List, [], ◌∷◌, length}
use Rattle.std.proofs.Common.{refl, sym, ◌∙◌, arith, true≢false}
use Rattle.std.specs.List.{list_any, list_all}
use Rattle.std.proofs.lemmas.List.Folds.{list_any-append}
use Rattle.std.proofs.lemmas.Bool.Decides.{nat_tests}
use Rattle.cat_scope.specs.Names.{AllHave}
use Rattle.cat_guard.specs.declared.guard.GuardDef.{GuardDef}
use Rattle.cat_guard.specs.declared.table.Table.{Table}
use Rattle.cat_guard.specs.declared.table.TableTarget.{TableTarget}
use Rattle.cat_guard.specs.Formulas.{asked}
use Rattle.cat_guard.specs.GuardFormulas.{formula_of}
use Rattle.cat_guard.specs.Soundness.{def_is_sound, target_is_sound, is_sound}
use Rattle.cat_guard.proofs.Exported.{both_true, all_true, all_more, sound_parts}
use Rattle.cat_guard.specs.Judgements.{asked_in}
use Rattle.cat_cert.specs.Certified.{is_atom_of}

among_below : (a n : ℕ) (xs : List ℕ) → list_any (nat_eq a) xs ≡ true → list_all (λ m. nat_lt m n) xs ≡ true → a < n
among_below a n [] any all = absurd (true≢false (sym any))
among_below a n (x ∷ xs) any all =
    let two = both_true (nat_lt x n) (list_all (λ m. nat_lt m n) xs) all in
    by (nat_eq a x) refl any two.0 (λ h. among_below a n xs h two.1)
  where
    by : (b : Bool) → nat_eq a x ≡ b → (b || list_any (nat_eq a) xs) ≡ true → nat_lt x n ≡ true
        → (list_any (nat_eq a) xs ≡ true → a < n) → a < n
    by true same any here rest = grind (arith, nat_tests, same, here)
    by false same any here rest = rest any

one_of : (b d : Bool) (R : Type 0) → (b || d) ≡ true → (b ≡ true → R) → (d ≡ true → R) → R
one_of true d R any one other = one refl
one_of false d R any one other = other any

asked_below : (a n : ℕ) (defs : List GuardDef) → list_all (def_is_sound n) defs ≡ true
    → list_any (nat_eq a) (asked_in defs) ≡ true → a < n
asked_below a n [] sound any = absurd (true≢false (sym any))
asked_below a n (d ∷ defs) sound any =
    let two = both_true (def_is_sound n d) (list_all (def_is_sound n) defs) sound in
    let own = asked (formula_of d.guard) in
    one_of (list_any (nat_eq a) own) (list_any (nat_eq a) (asked_in defs)) (a < n)
    (sym (list_any-append (nat_eq a) own (asked_in defs)) ∙ any)
    (λ h. among_below a n own h two.0) (λ h. asked_below a n defs two.1 h)

-- each atom of a target is one of the first, of that number
abbrev pub AtomsBelow : ℕ → TableTarget → Type 0
AtomsBelow n t = (a : ℕ) → IsTrue (is_atom_of t a) → a < n

pub atoms_below : (table : Table) → AllHave (AtomsBelow (length table.atoms)) table.targets
unfolding is_sound
atoms_below table =
    let n = length table.atoms in
    let all = both_true _ (list_all (target_is_sound n) table.targets) table.sound in
    all_more (λ t. IsTrue (target_is_sound n t)) (AtomsBelow n) table.targets
    (all_true (target_is_sound n) table.targets all.1)
    (λ t sound a is. asked_below a n t.defs (sound_parts n t sound).0 is)
