-- Shapes that fit code bound those that are found: where these are stuck, none fit.
use Rattle.std.proofs.Common.{◌≡◌, ℕ, List, [], ◌∷◌, Some, None, slice_get, refl, sym}
use Rattle.std.proofs.Common.{ap}
use Rattle.std.proofs.Common.{◌∙◌, subst}
use Rattle.cat_scope.specs.Names.{AllHave}
use Rattle.cat_code.specs.declared.instr.Instr.{Instr}
use Rattle.cat_code.specs.declared.code.Tables.{Tables}
use Rattle.cat_code.specs.Shapes.{Shape, Meets}
use Rattle.cat_code.specs.Shaped.{Shapes, IsMet, IsFine, IsShapedBy}
use Rattle.cat_code.specs.Leads.{Flow}
use Rattle.cat_code.specs.Flow.{flow}
use Rattle.cat_verify_shapes.proofs.ListLemmas.{none_some, some_is}
use Rattle.cat_verify_shapes.proofs.MeetingLemmas.{meets_then}
use Rattle.cat_verify_shapes.proofs.LessKnown.{AllNext, FlowMeets}
use Rattle.cat_verify_shapes.proofs.CommonLemmas.{Alike, alike_of, common_of, common_greatest}
use Rattle.cat_verify_shapes.proofs.FineLemmas.{fine_there}
use Rattle.cat_verify_shapes.proofs.LessKnownFlow.{less_known}

module _ (tables : Tables) (code : List Instr) (fit : Shapes) where
  -- some shape of a place is met by a shape that leads there
  abbrev pub IsBound : ℕ × Shape → Type 0
  IsBound next = IsMet fit next.0 next.1

  all_bound : (xs ys : List (ℕ × Shape)) → AllNext xs ys → AllHave IsBound ys → AllHave IsBound xs
  all_bound [] ys h met = tt
  all_bound (x ∷ xs) [] h met = absurd h
  all_bound (x ∷ xs) (y ∷ ys) h met = (
    record {
      shape = met.0.shape;
      is = ap (slice_get fit) h.0 ∙ met.0.is;
      meets = meets_then x.1 y.1 met.0.shape h.1 met.0.meets;
    },
    all_bound xs ys h.2 met.1,
  )

  goes : (f : Flow) (to : List (ℕ × Shape)) → FlowMeets f (Some to) → AllHave IsBound to
      → (more : List (ℕ × Shape)) × (f ≡ Some more) × AllHave IsBound more
  goes None to h met = absurd h
  goes (Some more) to h met = (more, refl, all_bound more to h met)

  -- a shape that meets one that fits goes on, and leads to places whose shapes it meets
  pub goes_on : IsShapedBy tables code fit → (p : ℕ) (i : Instr) (s : Shape) → slice_get code p ≡ Some i
      → IsMet fit p s
      → (more : List (ℕ × Shape)) × (flow tables code i p s ≡ Some more) × AllHave IsBound more
  goes_on shaped p i s is met =
      goes (flow tables code i p s) fine.to
      (subst (FlowMeets (flow tables code i p s)) fine.flows (less_known tables code i p s met.shape met.meets))
      fine.met
    where
      fine : IsFine tables code fit i p met.shape
      fine = fine_there tables code fit shaped p i met.shape is met.is

  -- where one is stuck, these don't fit
  pub stuck_refutes : IsShapedBy tables code fit → (p : ℕ) (i : Instr) (s : Shape) → slice_get code p ≡ Some i
      → IsMet fit p s → flow tables code i p s ≡ None → ⊥
  stuck_refutes shaped p i s is met stuck =
      let go = goes_on shaped p i s is met in
      absurd (none_some go.0 (sym stuck ∙ go.1))

  -- two that lead to one place are alike, and what they have in common meets its shape
  pub both_bound : (p : ℕ) (s t : Shape) → IsMet fit p s → IsMet fit p t → Alike s t × IsMet fit p (common_of s t)
  both_bound p s t one other = (
    alike_of s t one.shape one.meets same,
    record { shape = one.shape; is = one.is; meets = common_greatest s t one.shape one.meets same },
  )
    where
      same : Meets t one.shape
      same =
          subst (Meets t) (some_is other.shape one.shape
          (some_is (Some other.shape) (Some one.shape) (sym other.is ∙ one.is))) other.meets
