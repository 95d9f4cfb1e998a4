-- The terms of definitions, of groups and of targets.
use Rattle.std.specs.Prelude.{◌≡◌, ◌<◌, true, ℕ, zero, suc, List, [], length, map, Option, Some, None, slice_get}
use Rattle.cat_scope.specs.declared.expr.Expr.{Expr}
use Rattle.cat_scope.specs.Groups.{Numbered, Group, roots_of, excepts, excepting, exceptions_of}
use Rattle.cat_scope.specs.Chains.{is_within, longest_chain}
use Rattle.cat_calc.specs.declared.term.Justification.{Justification}
use Rattle.cat_calc.specs.declared.term.Justification.TheVariants as justification
use Rattle.cat_calc.specs.declared.term.DefaultTerm.{DefaultTerm}
use Rattle.cat_calc.specs.declared.term.DefaultTerm.TheVariants as leaf
use Rattle.cat_calc.specs.declared.term.DefaultTerm.TheViews as term

-- what a definition stands under
abbrev pub justification_of : Option Expr → Justification
justification_of None = justification.Always
justification_of (Some e) = justification.Where e

-- a definition: its consequence, where its condition holds
abbrev pub definition_term : Numbered → DefaultTerm
definition_term d =
    term.Default [] (justification_of d.1.condition) (leaf.Consequence d.0 d.1.pos d.1.consequence)

-- what holds where one of some terms does, and nothing else
abbrev pub one_of : List DefaultTerm → DefaultTerm
one_of terms = term.Default terms justification.Never leaf.Empty

-- the definitions of a group, of which one may hold
abbrev pub own_term : Option Group → DefaultTerm
own_term None = leaf.Empty
own_term (Some group) = one_of (map definition_term group.defs)

-- a group that begins chains of at most `room` groups: the groups that except it and, where none of them holds, its own
-- definitions
unfoldable pub group_term : List Group → ℕ → ℕ → DefaultTerm
group_term groups zero g = leaf.Empty
group_term groups (suc room) g =
    term.Default (map (group_term groups room) (excepting (excepts groups) g)) justification.Always
    (own_term (slice_get groups g))

-- a target: its roots, of which one may hold
abbrev pub target_term : List Group → DefaultTerm
target_term groups = one_of (map (group_term groups longest_chain) (roots_of groups))

-- no chain of the groups of a target is too long
abbrev pub HasLowGroups : List Group → Type 0
HasLowGroups groups = (g : ℕ) → g < length groups → is_within (exceptions_of groups) longest_chain g ≡ true
