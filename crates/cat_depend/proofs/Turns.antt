-- One turn of a loop over the order of scopes.
use Rattle.std.proofs.Common.{◌≡◌, ◌<◌, ◌≤◌, ◌+◌, ◌-◌, ℕ, zero, suc, Bool, true, IfSome, List, [], ◌∷◌}
use Rattle.std.proofs.Common.{◌++◌, All, take, drop, drop-cons, length, get_or, Some, slice_get, refl, sym, ap, ◌∙◌}
use Rattle.std.proofs.Common.{subst, arith, append_assoc, add-one}
use Rattle.std.specs.Prelude.{filter}
use Rattle.std.proofs.lemmas.List.{take-append-drop}
use Rattle.cat_order.specs.Order.{dependencies_of}
use Rattle.cat_scope.specs.declared.defs.Body.{Body}
use Rattle.cat_scope.specs.declared.programs.Program.{Program}
use Rattle.cat_scope.specs.Names.{is_in}
use Rattle.cat_scope.specs.WellFormed.{IsWellFormed}
use Rattle.cat_depend.specs.Reached.{calls_in}
use Rattle.cat_depend.specs.inside.Marks.{is_marked, marked}
use Rattle.cat_depend.proofs.Marking.{IsUnderWay, need_below, spread_on}
use Rattle.cat_depend.proofs.Members.{all_have, all_of_have, in_back, in_here}
use Rattle.cat_depend.proofs.Orderly.{IsOrderly, called_as, counted, orderly}

-- the element at an index, between what stands in front and behind
here : (ns : List ℕ) (k : ℕ) → k < length ns → ns ≡ take k ns ++ get_or ns k 0 ∷ drop (suc k) ns
here ns k within = sym (take-append-drop k ns) ∙ ap (λ (rest : List ℕ). take k ns ++ rest) (drop-cons ns k 0 within)

pub stands_in : (ns : List ℕ) (k : ℕ) → k < length ns → is_in (get_or ns k 0) ns ≡ true
stands_in ns k within = subst (λ (ms : List ℕ). is_in (get_or ns k 0) ms ≡ true) (sym (here ns k within))
    (in_back (get_or ns k 0) (take k ns) (get_or ns k 0 ∷ drop (suc k) ns) (in_here (get_or ns k 0) (drop (suc k) ns)))

module _ (program : Program) (formed : ∥ IsWellFormed program.decls program.bodies program.scope_order ∥₁) where
  is : IsOrderly (calls_in program) program.scope_order
  is = orderly program.decls program.bodies program.scope_order formed

  same_count : length (calls_in program) ≡ length program.bodies
  same_count = counted program.decls program.bodies program.scope_order formed

  pub listed_below : (k : ℕ) → k < length program.scope_order
      → get_or program.scope_order k 0 < length program.bodies
  listed_below k within =
      let below = is.below (get_or program.scope_order k 0) (stands_in program.scope_order k within) in
      omega (arith, below, same_count)

  body_there : (bodies : List Body) (k : ℕ) → k < length bodies → (body : Body) × (slice_get bodies k ≡ Some body)
  body_there [] k within = absurd (omega arith)
  body_there (b ∷ bodies) zero within = (b, refl)
  body_there (b ∷ bodies) (suc k) within = body_there bodies k (omega (arith, within))

  calls_as : (n : ℕ) (called : List ℕ) → n < length program.bodies
      → IfSome (slice_get program.bodies n) (λ body. called ≡ body.calls) → (m : ℕ)
      → is_in m called ≡ is_in m (dependencies_of (calls_in program) n)
  calls_as n called within told m =
      let b = body_there program.bodies n within in
      let same : called ≡ b.0.calls = subst (λ o. IfSome o (λ (body : Body). called ≡ body.calls)) b.1 told in
      ap (is_in m) same ∙ called_as program.decls program.bodies program.scope_order formed n b.0 b.1 m

  module _ (from at : ℕ) (some : 0 < at) (within : at ≤ length program.scope_order) (marks : List Bool)
      (way : IsUnderWay (calls_in program) from (drop at program.scope_order) marks) where
    abbrev k : ℕ
    k = at - 1

    abbrev n : ℕ
    n = get_or program.scope_order k 0

    k_within : k < length program.scope_order
    k_within = omega (arith, some, within)

    abbrev front : List ℕ
    front = take k program.scope_order

    abbrev back : List ℕ
    back = drop (suc k) program.scope_order

    way_here : IsUnderWay (calls_in program) from back marks
    way_here = subst (λ (m : ℕ). IsUnderWay (calls_in program) from (drop m program.scope_order) marks)
        (let e : at ≡ suc k = omega (arith, some) in e) way

    pub below_marks : n < length marks
    below_marks = let below = listed_below k k_within in omega (arith, below, same_count, way.counted)

    pub below_bodies : n < length program.bodies
    below_bodies = listed_below k k_within

    module _ (called : List ℕ) (told : IfSome (slice_get program.bodies n) (λ body. called ≡ body.calls)) where
      pub all_within : All (λ m. m < length marks) called
      all_within = all_of_have (λ m. m < length marks) called (all_have (λ m. m < length marks) called
          (λ m h. need_below (calls_in program) program.scope_order is from front back n
          (here program.scope_order k k_within) marks way_here m (sym (calls_as n called below_bodies told m) ∙ h)))

      pub marked_on : is_marked marks n ≡ true
          → IsUnderWay (calls_in program) from (drop k program.scope_order) (marked marks called)
      marked_on there = subst (λ (rest : List ℕ). IsUnderWay (calls_in program) from rest (marked marks called))
          (sym (drop-cons program.scope_order k 0 k_within))
          (spread_on (calls_in program) program.scope_order is from front back n
          (here program.scope_order k k_within) marks way_here there called (calls_as n called below_bodies told))

-- one number more that is kept
pub kept_next : (p : ℕ → Bool) (made ns : List ℕ) (i : ℕ) → i < length ns
    → made ++ filter p (drop i ns) ≡ filter p ns → p (get_or ns i 0) ≡ true
    → (made ++ get_or ns i 0 ∷ []) ++ filter p (drop (i + 1) ns) ≡ filter p ns
kept_next p made ns i within made_is passes =
    append_assoc made (get_or ns i 0 ∷ []) (filter p (drop (i + 1) ns))
    ∙ ap (λ (rest : List ℕ). made ++ rest) (sym first) ∙ made_is
  where
    first : filter p (drop i ns) ≡ get_or ns i 0 ∷ filter p (drop (i + 1) ns)
    first = rw (drop-cons ns i 0 within, passes, add-one) refl
