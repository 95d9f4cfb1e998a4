-- Findings of one target, of which one counts.
use Rattle.std.proofs.Common.{◌≡◌, [], ◌∷◌, Some, None, refl}
use Rattle.cat_pos.specs.Position.{pos_of}
use Rattle.cat_pos.specs.declared.pos.Pos.{Pos}
use Rattle.cat_value.specs.declared.outcome.FaultKind.TheVariants.{Overflow, DivisionByZero}
use Rattle.cat_value.specs.declared.outcome.Outcome.TheVariants as outcome
use Rattle.cat_value.specs.declared.outcome.Target.{Target}
use Rattle.cat_audit.specs.declared.finding.Finding.{Finding}
use Rattle.cat_audit.specs.declared.finding.Finding.TheVariants as finding
use Rattle.cat_audit.specs.Findings.{least, finding_of}
use Rattle.cat_audit.specs.Lines.{counting}

abbrev here : Pos
here = pos_of 0 4 10

abbrev there : Pos
there = pos_of 0 7 3

abbrev rate : Target
rate = record { scope = 0; item = 1; inner = None }

-- a fault says that a gap may be hidden, or that nothing is known of a function
a_fault_masks : finding_of None [] (outcome.Fault Overflow here) ≡ Some (finding.Masked Overflow here [])
a_fault_masks = refl

nothing_is_known : finding_of (Some there) [] (outcome.Value [])
    ≡ Some (finding.Derived there [] (outcome.Value []))
nothing_is_known = refl

a_gap_is_found : finding_of (Some there) [] (outcome.NoValue rate here)
    ≡ Some (finding.Found (outcome.NoValue rate here) [])
a_gap_is_found = refl

abbrev unknown : Finding
unknown = finding.Derived there [] (outcome.Value [])

abbrev hidden : Finding
hidden = finding.Masked Overflow here []

abbrev later : Finding
later = finding.Masked DivisionByZero there []

abbrev gap : Finding
gap = finding.Found (outcome.NoValue rate here) []

a_gap_counts : counting (unknown ∷ hidden ∷ gap ∷ later ∷ []) ≡ Some gap
a_gap_counts = refl

the_first_fault_counts : counting (unknown ∷ hidden ∷ later ∷ []) ≡ Some hidden
the_first_fault_counts = refl

nothing_else : counting (unknown ∷ []) ≡ Some unknown
nothing_else = refl

the_least : least (4 ∷ 2 ∷ 7 ∷ []) ≡ Some 2
the_least = refl
