-- Names of what is too high, one after another.
use Rattle.std.proofs.Common.{ℕ, ◌&&◌, List, map, drop}
use Rattle.std.specs.Prelude.{flat_map}
use Rattle.std.specs.List.{enumerate_from}
use Rattle.cat_value.specs.declared.ty.Ty.{Ty}
use Rattle.cat_tree.specs.declared.name.Name.{Name}
use Rattle.cat_names.specs.declared.fault.Fault.{Fault}
use Rattle.cat_names.specs.declared.fault.Fault.TheVariants.{TooMany}
use Rattle.cat_names.specs.Found.{fault_if}
use Rattle.cat_names.specs.Declarations.{Declared}
use Rattle.cat_names.specs.Heights.{is_high, has_low_parts}
use Rattle.cat_declare.specs.declared.written.Declaration.{Declaration}

-- the faults of some names that are numbered from a number on
abbrev pub high_from : Declared → (ℕ → Ty) → ℕ → List Name → List Fault
high_from ds of_number n names =
    flat_map (λ w. fault_if (is_high ds (of_number w.0) && has_low_parts ds (of_number w.0)) (TooMany w.1.pos))
    (enumerate_from n names)

-- the names of declarations from a number on
abbrev pub names_from : {T : Type 0} → List (Declaration T) → ℕ → List Name
names_from xs n = map (λ d. d.name.now) (drop n xs)
