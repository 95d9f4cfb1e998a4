-- Worked examples of forests: which groups there are, which except which, and for which targets.
use Rattle.std.proofs.Common.{◌≡◌, ℕ, List, [], ◌∷◌, Some, None, refl}
use Rattle.cat_value.specs.declared.outcome.Target.{Target}
use Rattle.cat_value.specs.declared.declaration.Kind.TheVariants as kind
use Rattle.cat_scope.specs.declared.defs.Except.TheVariants as except
use Rattle.cat_scope.specs.declared.defs.Def.{Def}
use Rattle.cat_scope.specs.declared.forest.ForestGroup.{ForestGroup}
use Rattle.cat_scope.specs.Groups.{groups_of}
use Rattle.cat_scope.specs.Targets.{defs_from}
use Rattle.cat_scope.specs.Forests.{forest_of_groups, called_targets}
use Rattle.cat_scope.proofs.Samples.{at, a, item, whole, variable, n_in, x_out, def, x, chain, forked}

abbrev groups : List Def → List ForestGroup
groups defs = forest_of_groups (groups_of (defs_from x 0 defs))

abbrev group : List ℕ → List ℕ → ForestGroup
group defs excepted_by = record { defs = defs; excepted_by = excepted_by }

an_exception_of_an_exception : groups chain ≡ group (0 ∷ []) (1 ∷ []) ∷ group (1 ∷ []) (2 ∷ []) ∷ group (2 ∷ []) [] ∷ []
an_exception_of_an_exception = refl

two_exceptions_of_one_group : groups forked ≡ group (0 ∷ []) (1 ∷ 2 ∷ []) ∷ group (1 ∷ []) [] ∷ group (2 ∷ []) [] ∷ []
two_exceptions_of_one_group = refl

-- a definition of another variable, two definitions with one label, and a bare exception between them
abbrev scattered : List Def
scattered =
    def (variable 0 0) None except.No None (whole 0) (at 6 3) ∷
    def x (Some (a (at 7 9))) except.No None (whole 1) (at 7 11) ∷
    def x None (except.OnlyRoot (at 8 3)) None (whole 2) (at 8 13) ∷
    def x (Some (a (at 9 9))) except.No None (whole 3) (at 9 11) ∷ []

a_label_makes_one_group : groups scattered ≡ group (1 ∷ 3 ∷ []) (1 ∷ []) ∷ group (2 ∷ []) [] ∷ []
a_label_makes_one_group = refl

-- where there are two roots, a bare exception excepts neither
abbrev two_roots : List Def
two_roots =
    def x (Some (a (at 6 9))) except.No None (whole 1) (at 6 11) ∷
    def x None except.No None (whole 2) (at 7 3) ∷
    def x None (except.OnlyRoot (at 8 3)) None (whole 3) (at 8 13) ∷ []

a_bare_exception_of_two_roots : groups two_roots ≡ group (0 ∷ []) [] ∷ group (1 ∷ []) [] ∷ group (2 ∷ []) [] ∷ []
a_bare_exception_of_two_roots = refl

-- of a scope with an input, an output and a context that item 2 of scope 1 calls
abbrev inner : ℕ → Target
inner n = record { scope = 1; item = 2; inner = Some n }

inputs_and_contexts_are_targets : called_targets 1 2 0 (n_in ∷ x_out ∷ item kind.Context (at 5 11) ∷ []) ≡ inner 0 ∷
    inner 2 ∷ []
inputs_and_contexts_are_targets = refl
