-- What holds of every table.
use Rattle.std.specs.Prelude.{ℕ, nat_lt, Bool, false, ◌&&◌, List, length, map, Option, Some, None, slice_get}
use Rattle.std.specs.List.{list_all}
use Rattle.cat_region.specs.Points.{is_cut}
use Rattle.cat_region.specs.Regions.{is_dim}
use Rattle.cat_scope.specs.Chains.{longest_chain, are_within}
use Rattle.cat_guard.specs.declared.guard.GuardDef.{GuardDef}
use Rattle.cat_guard.specs.declared.guard.GuardGroup.{GuardGroup}
use Rattle.cat_guard.specs.declared.table.Term.{Term}
use Rattle.cat_guard.specs.declared.table.Atom.{Atom}
use Rattle.cat_guard.specs.declared.table.TableTarget.{TableTarget}
use Rattle.cat_guard.specs.Formulas.{asked}
use Rattle.cat_guard.specs.GuardFormulas.{formula_of}

-- each number is below a bound
abbrev pub are_below : ℕ → List ℕ → Bool
are_below bound ns = list_all (λ n. nat_lt n bound) ns

-- a cut of the kind of a term's dimension, where there is such a term
abbrev pub is_cut_of : Option Term → Atom → Bool
is_cut_of None atom = false
is_cut_of (Some term) atom = is_cut term.dim atom.cut

-- an atom names a term of the kind of its cut
abbrev pub atom_is_sound : List Term → Atom → Bool
atom_is_sound terms atom = is_cut_of (slice_get terms atom.term) atom

-- the guard of a definition names atoms
abbrev pub def_is_sound : ℕ → GuardDef → Bool
def_is_sound atoms def = are_below atoms (asked (formula_of def.guard))

-- a group names definitions and groups of its target
abbrev pub group_is_sound : ℕ → ℕ → GuardGroup → Bool
group_is_sound defs groups g = are_below defs g.defs && are_below groups g.excepted_by

-- for each group, those that except it
abbrev pub above : List GuardGroup → List (List ℕ)
above groups = map (λ g. g.excepted_by) groups

-- the numbers in a target name what they should, and no chain of its groups is too long
abbrev pub target_is_sound : ℕ → TableTarget → Bool
target_is_sound atoms t = list_all (def_is_sound atoms) t.defs
    && list_all (group_is_sound (length t.defs) (length t.groups)) t.groups
    && are_below (length t.groups) t.roots
    && are_within (above t.groups) longest_chain (length t.groups)

-- the dimensions of terms
abbrev pub term_is_sound : Term → Bool
term_is_sound term = is_dim term.dim

-- the numbers in a table name what they should, and no chain of groups is too long
unfoldable pub is_sound : List Term → List Atom → List TableTarget → Bool
is_sound terms atoms targets = list_all term_is_sound terms && list_all (atom_is_sound terms) atoms
    && list_all (target_is_sound (length atoms)) targets
