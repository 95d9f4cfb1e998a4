-- Atoms as sets, and that they are numbered.
use Rattle.std.proofs.Common.{◌≡◌, ℕ, zero, suc, ◌+◌, ◌^◌, ◌<◌, ◌≤◌, Bool, true, false, ◌||◌, List, [], ◌∷◌, ◌++◌}
use Rattle.std.proofs.Common.{length, take, get_or, map, refl, sym, ap, ◌∙◌, arith, cond}
use Rattle.std.specs.Prelude.{nat_eq, nat_lt, All}
use Rattle.std.specs.List.{list_any, list_all}
use Rattle.std.specs.Ordering.{nat_cmp, is_eq}
use Rattle.std.proofs.lemmas.List.{take_more}
use Rattle.std.proofs.lemmas.List.Folds.{list_any-append}
use Rattle.std.proofs.lemmas.Bool.{and_parts}
use Rattle.std.proofs.lemmas.Bool.Decides.{nat_tests}
use Rattle.cat_guard.specs.declared.guard.GuardDef.{GuardDef}
use Rattle.cat_guard.specs.declared.table.Table.{Table}
use Rattle.cat_guard.specs.declared.table.TableTarget.{TableTarget}
use Rattle.cat_guard.specs.Formulas.{asked}
use Rattle.cat_guard.specs.GuardFormulas.{formula_of}
use Rattle.cat_guard.specs.Soundness.{are_below, def_is_sound, group_is_sound, target_is_sound}
use Rattle.cat_guard.specs.Soundness.{is_sound, above}
use Rattle.cat_guard.specs.Judgements.{asked_in}
use Rattle.cat_scope.specs.Chains.{is_within, longest_chain}
use Rattle.cat_cert.specs.Lines.{Due, TargetDue, dues_of}
use Rattle.cat_cert.proofs.LeadLemmas.{IsLowTarget, AreLow}

-- ---- sets

set_or : (n a : ℕ) (there old new : Bool) → nat_eq a n ≡ there → is_eq (nat_cmp n a) ≡ there
    → new ≡ cond (is_eq (nat_cmp n a)) true old → new ≡ (old || there)
set_or n a true true new one two is = is ∙ ap (λ (b : Bool). cond b true true) two
set_or n a true false new one two is = is ∙ ap (λ (b : Bool). cond b true false) two
set_or n a false true new one two is = is ∙ ap (λ (b : Bool). cond b true true) two
set_or n a false false new one two is = is ∙ ap (λ (b : Bool). cond b true false) two

pub set_more : (numbers : List ℕ) (i a : ℕ) (old new : Bool) → i < length numbers
    → new ≡ cond (is_eq (nat_cmp (get_or numbers i 0) a)) true old → old ≡ list_any (nat_eq a) (take i numbers)
    → new ≡ list_any (nat_eq a) (take (i + 1) numbers)
set_more numbers i a old new within is known =
    let n = get_or numbers i 0 in
    let same : is_eq (nat_cmp n a) ≡ nat_eq a n = grind (arith, nat_tests) in
    let one : list_any (nat_eq a) (n ∷ []) ≡ nat_eq a n = or_none (nat_eq a n) in
    set_or n a (nat_eq a n) old new refl same is
    ∙ ap (λ (b : Bool). b || nat_eq a n) known
    ∙ ap (λ (b : Bool). list_any (nat_eq a) (take i numbers) || b) (sym one)
    ∙ sym (list_any-append (nat_eq a) (take i numbers) (n ∷ []))
    ∙ ap (list_any (nat_eq a)) (sym (take_more numbers i 0 within))
  where
    or_none : (b : Bool) → (b || false) ≡ b
    or_none true = refl
    or_none false = refl

-- ---- numbers that fit

below_all : (bound a : ℕ) (ns : List ℕ) → are_below bound ns ≡ true → list_any (nat_eq a) ns ≡ true → a < bound
below_all bound a [] low is = absurd (cc)
below_all bound a (n ∷ ns) low is =
    let parts = and_parts (nat_lt n bound) (are_below bound ns) low in
    by (nat_eq a n) refl is parts.0 (λ there. below_all bound a ns parts.1 there)
  where
    by : (same : Bool) → nat_eq a n ≡ same → (same || list_any (nat_eq a) ns) ≡ true → nat_lt n bound ≡ true
        → (list_any (nat_eq a) ns ≡ true → a < bound) → a < bound
    by true same is one more = grind (arith, nat_tests)
    by false same is one more = more is

any_parts : (a : ℕ) (xs ys : List ℕ) → (P : Type 0) → list_any (nat_eq a) (xs ++ ys) ≡ true
    → (list_any (nat_eq a) xs ≡ true → P) → (list_any (nat_eq a) ys ≡ true → P) → P
any_parts a [] ys P is left right = right is
any_parts a (x ∷ xs) ys P is left right = by (nat_eq a x) refl is left (any_parts a xs ys P)
  where
    by : (same : Bool) → nat_eq a x ≡ same → (same || list_any (nat_eq a) (xs ++ ys)) ≡ true
        → ((nat_eq a x || list_any (nat_eq a) xs) ≡ true → P)
        → (list_any (nat_eq a) (xs ++ ys) ≡ true → (list_any (nat_eq a) xs ≡ true → P)
        → (list_any (nat_eq a) ys ≡ true → P) → P) → P
    by true same is left more = left (rw same refl)
    by false same is left more = more is (λ there. left (rw (same, there) refl)) right

defs_low : (bound a : ℕ) (defs : List GuardDef) → list_all (def_is_sound bound) defs ≡ true
    → list_any (nat_eq a) (asked_in defs) ≡ true → a < bound
defs_low bound a [] sound is = absurd (cc)
defs_low bound a (d ∷ ds) sound is =
    let parts = and_parts (def_is_sound bound d) (list_all (def_is_sound bound) ds) sound in
    any_parts a (asked (formula_of d.guard)) (asked_in ds) (a < bound) is
    (below_all bound a (asked (formula_of d.guard)) parts.0) (defs_low bound a ds parts.1)

target_low : (bound : ℕ) (t : TableTarget) → bound ≤ 2 ^ 64 → target_is_sound bound t ≡ true → IsLowTarget t
target_low bound t most sound a is =
    let groups = list_all (group_is_sound (length t.defs) (length t.groups)) t.groups in
    let roots = are_below (length t.groups) t.roots in
    let chains = is_within (above t.groups) longest_chain (length t.groups) in
    let first = and_parts _ _ sound in
    let second = and_parts _ _ first.0 in
    let third = and_parts (list_all (def_is_sound bound) t.defs) groups second.0 in
    omega (arith, defs_low bound a t.defs third.0 is, most)

targets_low : (bound : ℕ) (targets : List TableTarget) (more : List Due) → bound ≤ 2 ^ 64
    → list_all (target_is_sound bound) targets ≡ true → AreLow more → AreLow (map TargetDue targets ++ more)
targets_low bound [] more most sound low = low
targets_low bound (t ∷ targets) more most sound low =
    let parts = and_parts (target_is_sound bound t) (list_all (target_is_sound bound) targets) sound in
    (target_low bound t most parts.0, targets_low bound targets more most parts.1 low)

table_sound : (table : Table) → list_all (target_is_sound (length table.atoms)) table.targets ≡ true
unfolding is_sound
table_sound table =
    let sound : is_sound table.terms table.atoms table.targets ≡ true = table.sound in
    (and_parts _ _ sound).1

-- the atoms of tables are numbered below 2 ^ 64, where as many as that are in each
pub tables_low : (tables : List Table) → All (λ (table : Table). length table.atoms ≤ 2 ^ 64) tables
    → AreLow (dues_of tables)
tables_low [] all = tt
tables_low (table ∷ tables) all =
    targets_low (length table.atoms) table.targets (dues_of tables) (all zero table (omega arith)) (table_sound table)
    (tables_low tables (λ k d within. all (suc k) d (omega (arith, within))))
