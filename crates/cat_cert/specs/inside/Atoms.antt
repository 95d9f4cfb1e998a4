-- Sets of atoms.
use Rattle.std.specs.Prelude.{◌≡◌, ℕ}
use Rattle.std.specs.Ordering.{nat_cmp}
use Rattle.std.specs.BTreeSet.{BTreeSet, contains}
use Rattle.cat_guard.specs.declared.table.TableTarget.{TableTarget}
use Rattle.cat_cert.specs.Certified.{is_atom_of}

-- a set has the atoms of a target
abbrev pub HasAtoms : BTreeSet ℕ → TableTarget → Type 0
HasAtoms set t = (a : ℕ) → contains nat_cmp set a ≡ is_atom_of t a
