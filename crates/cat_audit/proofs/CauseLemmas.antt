-- Why a target has a line that a bad leaf gives it.
use Rattle.std.proofs.Common.{◌≡◌, inl, inr, ℕ, Bool, true, false, if◌then◌else◌, List, [], ◌∷◌, Option, Some}
use Rattle.std.proofs.Common.{None, refl, sym, ap, ◌∙◌, subst}
use Rattle.cat_pos.specs.declared.pos.Pos.{Pos}
use Rattle.cat_value.specs.declared.outcome.Outcome.{Outcome}
use Rattle.cat_value.specs.declared.outcome.Outcome.TheVariants as outcome
use Rattle.cat_value.specs.Inputs.{IsWellTyped}
use Rattle.cat_region.specs.declared.dim.Dim.{Dim}
use Rattle.cat_region.specs.Chosen.{point_at}
use Rattle.cat_region.specs.Regions.{Constraints, Valuation, IsRegion, IsInhabited, IsValuation, Admits}
use Rattle.cat_scope.specs.declared.programs.Program.{Program}
use Rattle.cat_scope.specs.Names.{AllHave, IsOneOf}
use Rattle.cat_scope.specs.Outcomes.{scope_outcome}
use Rattle.cat_guard.specs.declared.table.Table.{Table}
use Rattle.cat_guard.specs.declared.table.TableTarget.{TableTarget}
use Rattle.cat_guard.specs.declared.tree.TreeNode.{TreeNode}
use Rattle.cat_guard.specs.Valuations.{dims_of}
use Rattle.cat_audit_sound.specs.PointInputs.{input_at}
use Rattle.cat_audit_sound.specs.Failing.{IsOfFreeTerms}
use Rattle.cat_audit.specs.declared.finding.Finding.{Finding}
use Rattle.cat_audit.specs.declared.finding.Finding.TheVariants as finding
use Rattle.cat_audit.specs.declared.finding.Line.TheVariants as line
use Rattle.cat_audit.specs.Causes.{IsShown, HasCause}
use Rattle.cat_audit.specs.Findings.{undecided_at, finding_from, finding_in, shown_input}
use Rattle.cat_audit.specs.Lines.{bad_in, findings, found_before, is_found, is_masked, is_hanging, first_so, or_next}
use Rattle.cat_audit.specs.Lines.{counting}
use Rattle.cat_audit.proofs.FindingLemmas.{is_free}
use Rattle.cat_audit.proofs.SearchedLemmas.{IsBadRegion}

-- ---- the finding that counts is one of them

first_one : (test : Finding → Bool) (fs : List Finding) (f : Finding) → first_so test fs ≡ Some f → IsOneOf f fs
first_one test [] f is = absurd (cc)
first_one test (g ∷ gs) f is = by (test g) is (first_one test gs f)
  where
    by : (b : Bool) → (if b then Some g else first_so test gs) ≡ Some f → (first_so test gs ≡ Some f → IsOneOf f gs)
        → IsOneOf f (g ∷ gs)
    by true h rest = inl (let same : f ≡ g = cc in same)
    by false h rest = inr (rest h)

next_one : (fs : List Finding) (f : Finding) (o p : Option Finding) → (o ≡ Some f → IsOneOf f fs)
    → (p ≡ Some f → IsOneOf f fs) → or_next o p ≡ Some f → IsOneOf f fs
next_one fs f None p one other is = other is
next_one fs f (Some g) p one other is = one is

counting_one : (fs : List Finding) (f : Finding) → counting fs ≡ Some f → IsOneOf f fs
counting_one fs f is =
    next_one fs f (first_so is_found fs) (or_next (first_so is_masked fs) (first_so is_hanging fs))
    (first_one is_found fs f)
    (next_one fs f (first_so is_masked fs) (first_so is_hanging fs) (first_one is_masked fs f)
    (first_one is_hanging fs f)) is

-- ---- each finding is that of a region

record IsSaid (program : Program) (table : Table) (t : TableTarget) (regions : List Constraints) (f : Finding) : Type 0
  where
    pub region : Constraints
    pub among : IsOneOf region regions
    pub bad : IsBadRegion table t region
    pub says : finding_in program table t region ≡ Some f

said : (program : Program) (table : Table) (t : TableTarget) (regions : List Constraints)
    → AllHave (IsBadRegion table t) regions → (f : Finding) → IsOneOf f (findings program table t regions)
    → IsSaid program table t regions f
said program table t [] bad f among = absurd (among)
said program table t (r ∷ rs) bad f among =
    by (finding_in program table t r) refl among (said program table t rs bad.1 f)
  where
    further : IsSaid program table t rs f → IsSaid program table t (r ∷ rs) f
    further s = record { region = s.region; among = inr s.among; bad = s.bad; says = s.says }

    by : (o : Option Finding) → finding_in program table t r ≡ o
        → IsOneOf f (found_before o (findings program table t rs))
        → (IsOneOf f (findings program table t rs) → IsSaid program table t rs f) → IsSaid program table t (r ∷ rs) f
    by None e h rest = further (rest h)
    by (Some g) e (inl same) rest =
        record { region = r; among = inl refl; bad = bad.0; says = e ∙ ap Some (sym same) }
    by (Some g) e (inr h) rest = further (rest h)

-- ---- the cause

module _ (program : Program) (table : Table) (t : TableTarget) (budget : ℕ) (nodes : List TreeNode)
    (typed : (v : Valuation) → IsValuation (dims_of table.terms) v
    → IsWellTyped program.decls table.scope (input_at program.decls table v))
    (admitted : (region : Constraints) → IsRegion region → IsInhabited region → Admits region (point_at region)) where
  module _ (region : Constraints) (among : IsOneOf region (bad_in table t nodes)) (bad : IsBadRegion table t region)
    where
      shown : (o : Outcome) → scope_outcome program table.scope (shown_input program table region) ≡ Some o
          → IsShown program table t nodes region (shown_input program table region) o
      shown o comes =
          let admits = admitted region bad.leaf.region_is bad.leaf.inhabited in
          record {
            leaf = among;
            bad = bad.bad;
            admits = admits;
            input_is = refl;
            typed = typed (point_at region)
                (subst (λ (ds : List Dim). IsValuation ds (point_at region)) bad.leaf.dims admits.valuation);
            comes_to = comes;
          }

      free : undecided_at table.terms t region ≡ None → (t.function ≡ false) × IsOfFreeTerms table.terms region
      free none = is_free table.terms t region bad.leaf.region_is bad.leaf.dims none

      by_outcome : (at : Option Pos) (o : Option Outcome) (f : Finding) → undecided_at table.terms t region ≡ at
          → scope_outcome program table.scope (shown_input program table region) ≡ o
          → finding_from at (shown_input program table region) o ≡ Some f
          → HasCause program table t budget nodes (line.Bad f)
      by_outcome at None f hangs comes is = absurd (cc)
      by_outcome at (Some (outcome.Conflict target positions)) f hangs comes is =
          let same : finding.Found (outcome.Conflict target positions) (shown_input program table region) ≡ f = cc in
          subst (λ g. HasCause program table t budget nodes (line.Bad g)) same
          (refl, (region, shown (outcome.Conflict target positions) comes, tt))
      by_outcome at (Some (outcome.NoValue target pos)) f hangs comes is =
          let same : finding.Found (outcome.NoValue target pos) (shown_input program table region) ≡ f = cc in
          subst (λ g. HasCause program table t budget nodes (line.Bad g)) same
          (refl, (region, shown (outcome.NoValue target pos) comes, tt))
      by_outcome None (Some (outcome.Fault kind pos)) f hangs comes is =
          let same : finding.Masked kind pos (shown_input program table region) ≡ f = cc in
          let alone = free hangs in
          subst (λ g. HasCause program table t budget nodes (line.Bad g)) same
          (alone.0, (region, shown (outcome.Fault kind pos) comes, alone.1))
      by_outcome (Some at) (Some (outcome.Fault kind pos)) f hangs comes is =
          let same : finding.Derived at (shown_input program table region) (outcome.Fault kind pos) ≡ f = cc in
          subst (λ g. HasCause program table t budget nodes (line.Bad g)) same
          (refl, (region, shown (outcome.Fault kind pos) comes, hangs))
      by_outcome None (Some (outcome.Value outputs)) f hangs comes is = absurd (cc)
      by_outcome (Some at) (Some (outcome.Value outputs)) f hangs comes is =
          let same : finding.Derived at (shown_input program table region) (outcome.Value outputs) ≡ f = cc in
          subst (λ g. HasCause program table t budget nodes (line.Bad g)) same
          (refl, (region, shown (outcome.Value outputs) comes, hangs))

  pub cause_of : AllHave (IsBadRegion table t) (bad_in table t nodes) → (f : Finding)
      → counting (findings program table t (bad_in table t nodes)) ≡ Some f
      → HasCause program table t budget nodes (line.Bad f)
  cause_of bad f is =
      let s = said program table t (bad_in table t nodes) bad f
      (counting_one (findings program table t (bad_in table t nodes)) f is) in
      by_outcome s.region s.among s.bad (undecided_at table.terms t s.region)
      (scope_outcome program table.scope (shown_input program table s.region)) f refl refl s.says
