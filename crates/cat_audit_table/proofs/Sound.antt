-- The numbers in a table name what they should.
use Rattle.std.proofs.Common.{◌≡◌, ℕ, suc, ◌+◌, ◌<◌, ◌≤◌, nat_eq, nat_lt, Bool, true, false}
use Rattle.std.proofs.Common.{◌&&◌, List, []}
use Rattle.std.proofs.Common.{◌∷◌, ◌++◌, map, length, Option, Some, None, refl, sym, ap, ◌∙◌, subst, arith}
use Rattle.std.proofs.Common.{true≢false, if◌then◌else◌}
use Rattle.std.proofs.lemmas.Bool.Decides.{nat_tests}
use Rattle.std.proofs.lemmas.List.{length-map}
use Rattle.std.specs.List.{list_all}
use Rattle.cat_value.specs.declared.decls.Decls.{Decls}
use Rattle.cat_value.specs.declared.declaration.ItemDecl.{ItemDecl}
use Rattle.cat_value.specs.declared.outcome.Target.{Target}
use Rattle.cat_region.specs.declared.dim.Dim.{Dim}
use Rattle.cat_region.specs.declared.dim.Dim.TheVariants as dim
use Rattle.cat_region.specs.Points.{is_cut}
use Rattle.cat_scope.specs.declared.defs.Def.{Def}
use Rattle.cat_scope.specs.Names.{AllHave}
use Rattle.cat_scope.specs.Groups.{Numbered, Group, groups_of, group_numbers, roots_of, excepts, excepting, pairs_from}
use Rattle.cat_scope.specs.Groups.{paired, target_of, is_none}
use Rattle.cat_scope.specs.SameTree.{same_tree}
use Rattle.cat_scope.specs.Targets.{defs_from}
use Rattle.cat_scope.specs.Forests.{forest_groups, forest_of_groups, forest_of, is_low, are_low}
use Rattle.cat_scope.specs.Forests as forests
use Rattle.cat_scope.specs.Chains.{longest_chain, are_within}
use Rattle.cat_sound.proofs.Exported.{groups-all, all_front, all_back}
use Rattle.cat_guard.specs.declared.table.Term.{Term}
use Rattle.cat_guard.specs.declared.guard.GuardGroup.{GuardGroup}
use Rattle.cat_guard.specs.Formulas.{Formula, asked, renamed}
use Rattle.cat_guard.specs.Formulas as formula
use Rattle.cat_guard.specs.Questions.{Question}
use Rattle.cat_guard.specs.Numbering.{is_seen, firsts}
use Rattle.cat_guard.specs.Terms.{same_dim, same_term, same_question, term_of, terms_of, atom_of, atoms_of}
use Rattle.cat_guard.specs.Terms.{atom_number}
use Rattle.cat_guard.specs.Tables.{def_formula, defs_questions, questions_of, guard_def, place_of}
use Rattle.cat_guard.specs.Tables.{guard_groups, target_of as table_target}
use Rattle.cat_guard.specs.Soundness.{are_below, is_cut_of, atom_is_sound, def_is_sound, group_is_sound, above}
use Rattle.cat_guard.specs.Soundness.{target_is_sound, term_is_sound, is_sound}
use Rattle.cat_guard.proofs.Exported.{formula_of_guard_tree, firsts_all}
use Rattle.cat_audit_table.proofs.Firsts.{all_seen}
use Rattle.cat_audit_table.proofs.TermNumbers.{term_self}
use Rattle.cat_audit_table.proofs.AtomNumbers.{question_self}
use Rattle.cat_audit_table.proofs.Numbers.{all_each, all_both, all_pass, found, number_below}
use Rattle.cat_audit_table.proofs.Fit.{IsFit}
use Rattle.cat_audit_table.proofs.GroupCounts.{forest_length}
use Rattle.cat_scope.proofs.Exported.{map_append}
use Rattle.cat_region.proofs.Exported.{lt_is, and-parts, and-both}

-- ---- terms and atoms

same_dim_is : (c d : Dim) → same_dim c d ≡ true → c ≡ d
same_dim_is dim.Whole dim.Whole h = refl
same_dim_is dim.Money dim.Money h = refl
same_dim_is dim.Day dim.Day h = refl
same_dim_is dim.Decimal dim.Decimal h = refl
same_dim_is dim.Truth dim.Truth h = refl
same_dim_is (dim.Cases n) (dim.Cases m) h = ap dim.Cases (same_number n m h)
  where
    same_number : (n m : ℕ) → nat_eq n m ≡ true → n ≡ m
    same_number n m h = grind (arith, nat_tests)
same_dim_is _ _ h = absurd (true≢false (sym h))

module _ (items : List ItemDecl) (qs : List Question) (fit : AllHave IsFit qs) where
  terms_sound : list_all term_is_sound (terms_of items qs) ≡ true
  terms_sound = all_pass (term_of items) term_is_sound (firsts same_term [] qs)
      (all_each (firsts same_term [] qs) (λ q f. f.dim) (firsts_all IsFit same_term [] qs fit))

  -- the term of a question is there, and has its dimension
  atom_sound : (q : Question) → IsFit q → is_seen same_term q (firsts same_term [] qs) ≡ true
      → atom_is_sound (terms_of items qs) (atom_of qs q) ≡ true
  atom_sound q f seen =
      let v = found same_term (term_of items) q (firsts same_term [] qs) seen in
      let one : v.value.dim ≡ q.dim =
      same_dim_is v.value.dim q.dim
      (and-parts (same_tree v.value.standing q.standing v.value.expr q.expr) (same_dim v.value.dim q.dim) v.is).1 in
      ap (λ (o : Option Term). is_cut_of o (atom_of qs q)) v.there ∙ ap (λ (d : Dim). is_cut d q.cut) one ∙ f.cut

  atoms_sound : list_all (atom_is_sound (terms_of items qs)) (atoms_of qs) ≡ true
  atoms_sound = all_pass (atom_of qs) (atom_is_sound (terms_of items qs)) (firsts same_question [] qs)
      (all_both (firsts same_question [] qs) atom_sound (firsts_all IsFit same_question [] qs fit)
      (firsts_all (λ q. is_seen same_term q (firsts same_term [] qs) ≡ true) same_question [] qs
      (all_seen same_term term_self qs)))

-- ---- guards

asked_two : {A B : Type 0} (name : A → B) (xs ys : List A) (us vs : List B) → us ≡ map name xs → vs ≡ map name ys
    → us ++ vs ≡ map name (xs ++ ys)
asked_two name xs ys us vs e f =
    ap (λ zs. zs ++ vs) e ∙ ap (λ zs. map name xs ++ zs) f ∙ sym (map_append name xs ys)

asked_renamed : {A B : Type 0} (name : A → B) (f : Formula A) → asked (renamed name f) ≡ map name (asked f)
asked_renamed name (formula.Constant b) = refl
asked_renamed name (formula.Atom a) = refl
asked_renamed name (formula.Not f) = asked_renamed name f
asked_renamed name (formula.Both f g) =
    asked_two name (asked f) (asked g) _ _ (asked_renamed name f) (asked_renamed name g)
asked_renamed name (formula.Either f g) =
    asked_two name (asked f) (asked g) _ _ (asked_renamed name f) (asked_renamed name g)
asked_renamed name (formula.Differ f g) =
    asked_two name (asked f) (asked g) _ _ (asked_renamed name f) (asked_renamed name g)
asked_renamed name (formula.Choice c f g) =
    asked_two name (asked c ++ asked f) (asked g) _ _
    (asked_two name (asked c) (asked f) _ _ (asked_renamed name c) (asked_renamed name f)) (asked_renamed name g)

-- a question is among the atoms of some
abbrev HasAtom : List Question → Question → Type 0
HasAtom qs q = is_seen same_question q (firsts same_question [] qs) ≡ true

module _ (ds : Decls) (qs : List Question) where
  guard_sound : (d : Numbered) → AllHave (HasAtom qs) (asked (def_formula ds d.1))
      → def_is_sound (length (atoms_of qs)) (guard_def ds qs d) ≡ true
  guard_sound d has =
      ap (λ (f : Formula ℕ). are_below (length (atoms_of qs)) (asked f))
      (formula_of_guard_tree (renamed (atom_number qs) (def_formula ds d.1)))
      ∙ ap (are_below (length (atoms_of qs))) (asked_renamed (atom_number qs) (def_formula ds d.1))
      ∙ all_pass (atom_number qs) (λ n. nat_lt n (length (atoms_of qs))) (asked (def_formula ds d.1))
      (all_each (asked (def_formula ds d.1)) below has)
    where
      below : (q : Question) → HasAtom qs q → nat_lt (atom_number qs q) (length (atoms_of qs)) ≡ true
      below q seen = lt_is (atom_number qs q) (length (atoms_of qs))
          (subst (λ (n : ℕ). atom_number qs q < n) (sym (length-map (firsts same_question [] qs) (atom_of qs)))
          (number_below same_question q (firsts same_question [] qs) seen))

  guards_sound : (all : List Numbered) → AllHave (HasAtom qs) (defs_questions ds all)
      → list_all (def_is_sound (length (atoms_of qs))) (map (guard_def ds qs) all) ≡ true
  guards_sound [] has = refl
  guards_sound (d ∷ all) has =
      and-both (def_is_sound (length (atoms_of qs)) (guard_def ds qs d))
      (list_all (def_is_sound (length (atoms_of qs))) (map (guard_def ds qs) all))
      (guard_sound d (all_front (HasAtom qs) (asked (def_formula ds d.1)) (defs_questions ds all) has))
      (guards_sound all (all_back (HasAtom qs) (asked (def_formula ds d.1)) (defs_questions ds all) has))

-- ---- groups

abbrev IsPlaced : List Numbered → Numbered → Type 0
IsPlaced all d = nat_lt (place_of d.0 all) (length all) ≡ true

all_placed : (all : List Numbered) → AllHave (IsPlaced all) all
all_placed [] = tt
all_placed (d ∷ all) = (
  here d.0 (place_of d.0 all) (length all),
  all_each all (λ e h. next (nat_eq d.0 e.0) (place_of e.0 all) (length all) h) (all_placed all),
)
  where
    here : (n k m : ℕ) → nat_lt (if nat_eq n n then 0 else 1 + k) (suc m) ≡ true
    here n k m = ap (λ (b : Bool). nat_lt (if b then 0 else 1 + k) (suc m)) (same n) ∙ zero_less m
      where
        same : (n : ℕ) → nat_eq n n ≡ true
        same n = grind (arith, nat_tests)

        zero_less : (m : ℕ) → nat_lt 0 (suc m) ≡ true
        zero_less m = grind (arith, nat_tests)

    next : (b : Bool) (k m : ℕ) → nat_lt k m ≡ true → nat_lt (if b then 0 else 1 + k) (suc m) ≡ true
    next true k m h = grind (arith, nat_tests)
    next false k m h = grind (arith, nat_tests)

-- numbers of groups from n on are below the end
pairs_below : (all : List Group) (n : ℕ) (gs : List Group) (bound : ℕ) → n + length gs ≤ bound
    → AllHave (λ p. nat_lt p.0 bound ≡ true) (pairs_from all n gs)
pairs_below all n [] bound h = tt
pairs_below all n (g ∷ gs) bound h =
    by (target_of all g.except) (pairs_below all (n + 1) gs bound (omega (arith, h)))
  where
    first : n + suc (length gs) ≤ bound → nat_lt n bound ≡ true
    first h = grind (arith, nat_tests)

    by : (o : Option ℕ) → AllHave (λ p. nat_lt p.0 bound ≡ true) (pairs_from all (n + 1) gs)
        → AllHave (λ p. nat_lt p.0 bound ≡ true) (paired n o (pairs_from all (n + 1) gs))
    by None rest = rest
    by (Some k) rest = (first h, rest)

excepting_below : (pairs : List (ℕ × ℕ)) (n bound : ℕ) → AllHave (λ p. nat_lt p.0 bound ≡ true) pairs
    → are_below bound (excepting pairs n) ≡ true
excepting_below [] n bound h = refl
excepting_below (pair ∷ pairs) n bound h = by (nat_eq pair.1 n) (excepting_below pairs n bound h.1)
  where
    by : (b : Bool) → are_below bound (excepting pairs n) ≡ true
        → are_below bound (if b then pair.0 ∷ excepting pairs n else excepting pairs n) ≡ true
    by true rest = and-both (nat_lt pair.0 bound) (are_below bound (excepting pairs n)) h.0 rest
    by false rest = rest

roots_below : (test : Group → Bool) (n : ℕ) (gs : List Group) (bound : ℕ) → n + length gs ≤ bound
    → are_below bound (group_numbers test n gs) ≡ true
roots_below test n [] bound h = refl
roots_below test n (g ∷ gs) bound h = by (test g) (roots_below test (n + 1) gs bound (omega (arith, h)))
  where
    first : n + suc (length gs) ≤ bound → nat_lt n bound ≡ true
    first h = grind (arith, nat_tests)

    by : (b : Bool) → are_below bound (group_numbers test (n + 1) gs) ≡ true
        → are_below bound (if b then n ∷ group_numbers test (n + 1) gs else group_numbers test (n + 1) gs) ≡ true
    by true rest = and-both (nat_lt n bound) (are_below bound (group_numbers test (n + 1) gs)) (first h) rest
    by false rest = rest

groups_length : (all : List Numbered) (pairs : List (ℕ × ℕ)) (n : ℕ) (gs : List Group)
    → length (guard_groups all pairs n gs) ≡ length gs
groups_length all pairs n [] = refl
groups_length all pairs n (g ∷ gs) = omega (arith, groups_length all pairs (n + 1) gs)

above_same : (all : List Numbered) (pairs : List (ℕ × ℕ)) (n : ℕ) (gs : List Group)
    → above (guard_groups all pairs n gs) ≡ forests.above (forest_groups pairs n gs)
above_same all pairs n [] = refl
above_same all pairs n (g ∷ gs) = ap (λ (ns : List (List ℕ)). excepting pairs n ∷ ns) (above_same all pairs (n + 1) gs)

groups_sound : (all : List Numbered) (defs : ℕ) → defs ≡ length all → (pairs : List (ℕ × ℕ)) (bound : ℕ)
    → AllHave (λ p. nat_lt p.0 bound ≡ true) pairs → (n : ℕ) (gs : List Group)
    → AllHave (λ g. AllHave (IsPlaced all) g.defs) gs
    → list_all (group_is_sound defs bound) (guard_groups all pairs n gs) ≡ true
groups_sound all defs same pairs bound below n [] placed = refl
groups_sound all defs same pairs bound below n (g ∷ gs) placed =
    and-both
    (are_below defs (map (λ d. place_of d.0 all) g.defs) && are_below bound (excepting pairs n))
    (list_all (group_is_sound defs bound) (guard_groups all pairs (n + 1) gs))
    (and-both (are_below defs (map (λ d. place_of d.0 all) g.defs)) (are_below bound (excepting pairs n))
    (all_pass (λ (d : Numbered). place_of d.0 all) (λ k. nat_lt k defs) g.defs
    (all_each g.defs (λ d h. ap (nat_lt (place_of d.0 all)) same ∙ h) placed.0))
    (excepting_below pairs n bound below))
    (groups_sound all defs same pairs bound below (n + 1) gs placed.1)

-- ---- targets

module _ (ds : Decls) (items : List ItemDecl) (defs : List Def) (qs : List Question) where
  target_sound : (t : Target) → AllHave (HasAtom qs) (defs_questions ds (defs_from t 0 defs))
      → is_low (record { target = t; groups = forest_of_groups (groups_of (defs_from t 0 defs)) }) ≡ true
      → target_is_sound (length (atoms_of qs)) (table_target ds items defs qs t) ≡ true
  target_sound t has low =
      and-both (guards && inner && below)
      (are_within (above groups) longest_chain (length groups))
      (and-both (guards && inner) below
      (and-both guards inner (guards_sound ds qs all has)
      (groups_sound all (length (map (guard_def ds qs) all)) (length-map all (guard_def ds qs)) pairs (length groups)
      (pairs_below gs 0 gs (length groups) (omega (arith, groups_length all pairs 0 gs))) 0 gs
      (groups-all (IsPlaced all) all [] all (all_placed all))))
      (roots_below (λ g. is_none g.except) 0 gs (length groups) (omega (arith, groups_length all pairs 0 gs))))
      (ap (λ (ns : List (List ℕ)). are_within ns longest_chain (length groups)) (above_same all pairs 0 gs)
      ∙ ap (are_within (forests.above (forest_groups pairs 0 gs)) longest_chain)
      (groups_length all pairs 0 gs ∙ sym (forest_length pairs 0 gs)) ∙ low)
    where
      all : List Numbered
      all = defs_from t 0 defs

      gs : List Group
      gs = groups_of all

      pairs : List (ℕ × ℕ)
      pairs = excepts gs

      groups : List GuardGroup
      groups = guard_groups all pairs 0 gs

      guards : Bool
      guards = list_all (def_is_sound (length (atoms_of qs))) (map (guard_def ds qs) all)

      inner : Bool
      inner = list_all (group_is_sound (length (map (guard_def ds qs) all)) (length groups)) groups

      below : Bool
      below = are_below (length groups) (roots_of gs)

  low_first : (t : Target) (ts : List Target) → are_low (forest_of defs (t ∷ ts)) ≡ true
      → (is_low (record { target = t; groups = forest_of_groups (groups_of (defs_from t 0 defs)) }) ≡ true)
      × (are_low (forest_of defs ts) ≡ true)
  unfolding are_low
  low_first t ts h =
      and-parts (is_low (record { target = t; groups = forest_of_groups (groups_of (defs_from t 0 defs)) }))
      (are_low (forest_of defs ts)) h

  targets_sound : (ts : List Target) → AllHave (HasAtom qs) (questions_of ds defs ts)
      → are_low (forest_of defs ts) ≡ true
      → list_all (target_is_sound (length (atoms_of qs))) (map (table_target ds items defs qs) ts) ≡ true
  targets_sound [] has low = refl
  targets_sound (t ∷ ts) has low =
      and-both (target_is_sound (length (atoms_of qs)) (table_target ds items defs qs t))
      (list_all (target_is_sound (length (atoms_of qs))) (map (table_target ds items defs qs) ts))
      (target_sound t (all_front (HasAtom qs) (defs_questions ds (defs_from t 0 defs)) (questions_of ds defs ts) has)
      (low_first t ts low).0)
      (targets_sound ts (all_back (HasAtom qs) (defs_questions ds (defs_from t 0 defs)) (questions_of ds defs ts) has)
      (low_first t ts low).1)

-- the table of some targets is sound, where their questions fit and their forest is low
pub table_sound : (ds : Decls) (items : List ItemDecl) (defs : List Def) (ts : List Target)
    → AllHave IsFit (questions_of ds defs ts) → are_low (forest_of defs ts) ≡ true
    → is_sound (terms_of items (questions_of ds defs ts)) (atoms_of (questions_of ds defs ts))
    (map (table_target ds items defs (questions_of ds defs ts)) ts) ≡ true
unfolding is_sound
table_sound ds items defs ts fit low =
    let qs = questions_of ds defs ts in
    and-both
    (list_all term_is_sound (terms_of items qs) && list_all (atom_is_sound (terms_of items qs)) (atoms_of qs))
    (list_all (target_is_sound (length (atoms_of qs))) (map (table_target ds items defs qs) ts))
    (and-both (list_all term_is_sound (terms_of items qs))
    (list_all (atom_is_sound (terms_of items qs)) (atoms_of qs)) (terms_sound items qs fit)
    (atoms_sound items qs fit))
    (targets_sound ds items defs qs ts (all_seen same_question question_self qs) low)
