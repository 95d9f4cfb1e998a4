-- The least number of a derived term, where the narrowings are met from the last one on.
use Rattle.std.proofs.Common.{◌≡◌, ℕ, ◌-◌, Bool, true, false, if◌then◌else◌, List, [], ◌∷◌, ◌++◌, length, take}
use Rattle.std.proofs.Common.{Option, Some, None, slice_get, refl, sym, ap, ◌∙◌, arith}
use Rattle.std.proofs.lemmas.List.{append-nil}
use Rattle.cat_region.specs.declared.cut.Cut.{Cut}
use Rattle.cat_region.specs.declared.narrowing.Narrowing.{Narrowing}
use Rattle.cat_region.specs.Regions.{narrowed_to, last_narrowing}
use Rattle.cat_region.proofs.Exported.{narrowings-undone, ends}
use Rattle.cat_guard.specs.declared.table.Term.{Term}
use Rattle.cat_audit.specs.Findings.{is_derived, at_most, least, derived_in}
use Rattle.cat_audit.specs.inside.Least.{lesser, lesser_of}

-- ---- the least of some numbers

least_more : (xs : List ℕ) (m : ℕ) → least (xs ++ m ∷ []) ≡ lesser (least xs) m
least_more [] m = refl
least_more (x ∷ xs) m = ap (λ o. Some (at_most x o)) (least_more xs m) ∙ by (least xs)
  where
    by : (o : Option ℕ) → Some (at_most x (lesser o m)) ≡ lesser (Some (at_most x o)) m
    by None = refl
    by (Some y) = ap Some (omega arith)

swapped : (b o : Option ℕ) (m : ℕ) → lesser_of (lesser b m) o ≡ lesser_of b (lesser o m)
swapped None None m = refl
swapped None (Some y) m = ap Some (omega arith)
swapped (Some x) None m = refl
swapped (Some x) (Some y) m = ap Some (omega arith)

-- ---- the last narrowing

derived_more : (terms : List Term) (ns : List Narrowing) (n : Narrowing)
    → derived_in terms (ns ++ n ∷ []) ≡ derived_in terms ns ++ derived_in terms (n ∷ [])
derived_more terms [] n = refl
derived_more terms (m ∷ ns) n =
    ap (λ ds. if is_derived (slice_get terms m.dim) then m.dim ∷ ds else ds) (derived_more terms ns n)
    ∙ by (is_derived (slice_get terms m.dim))
  where
    by : (b : Bool)
        → (if b then m.dim ∷ (derived_in terms ns ++ derived_in terms (n ∷ []))
        else derived_in terms ns ++ derived_in terms (n ∷ []))
        ≡ (if b then m.dim ∷ derived_in terms ns else derived_in terms ns) ++ derived_in terms (n ∷ [])
    by true = refl
    by false = refl

pub none_left : (ns : List Narrowing) → last_narrowing ns ≡ None → ns ≡ []
none_left [] is = refl
none_left (n ∷ []) is = absurd (cc)
none_left (n ∷ m ∷ ns) is = let more = none_left (m ∷ ns) is in absurd (cc)

-- the last narrowing is taken off
module _ (terms : List Term) (ns after : List Narrowing) (last : ℕ × Cut × Bool) (is : last_narrowing ns ≡ Some last)
    (less : after ≡ take (length ns - 1) ns) where
  split : ns ≡ after ++ narrowed_to last.0 last.1 last.2 ∷ []
  split =
      let e = ends ns last is in
      e.is ∙ ap (λ ms. ms ++ narrowed_to last.0 last.1 last.2 ∷ [])
      (sym (less ∙ ap (λ ms. take (length ms - 1) ms) e.is
      ∙ narrowings-undone e.before (narrowed_to last.0 last.1 last.2)))

  parts : derived_in terms ns
      ≡ derived_in terms after ++ (if is_derived (slice_get terms last.0) then last.0 ∷ [] else [])
  parts = ap (derived_in terms) split ∙ derived_more terms after (narrowed_to last.0 last.1 last.2)

  pub one_derived : (b : Option ℕ) → is_derived (slice_get terms last.0) ≡ true
      → lesser_of (lesser b last.0) (least (derived_in terms after)) ≡ lesser_of b (least (derived_in terms ns))
  one_derived b derived =
      swapped b (least (derived_in terms after)) last.0
      ∙ ap (lesser_of b) (sym (ap least (parts
      ∙ ap (λ d. derived_in terms after ++ (if d then last.0 ∷ [] else [])) derived)
      ∙ least_more (derived_in terms after) last.0))

  pub none_derived : (b : Option ℕ) → is_derived (slice_get terms last.0) ≡ false
      → lesser_of b (least (derived_in terms after)) ≡ lesser_of b (least (derived_in terms ns))
  none_derived b given =
      ap (λ ds. lesser_of b (least ds))
      (sym (parts ∙ ap (λ d. derived_in terms after ++ (if d then last.0 ∷ [] else [])) given
      ∙ append-nil (derived_in terms after)))
