-- Answers that lead to regions which hang on what a run computes.
use Rattle.std.specs.Prelude.{Bool, true, false, ◌&&◌, List, [], ◌∷◌, Option, None, Some, slice_get}
use Rattle.std.specs.List.{list_all}
use Rattle.cat_guard.specs.declared.table.Atom.{Atom}
use Rattle.cat_guard.specs.declared.table.Term.{Term}
use Rattle.cat_guard.specs.declared.table.Table.{Table}
use Rattle.cat_search.specs.declared.way.Answer.{Answer}
use Rattle.cat_audit.specs.Findings.{is_derived}

-- there is an atom, and it is one of a derived term
abbrev pub is_of_derived : List Term → Option Atom → Bool
is_of_derived terms None = false
is_of_derived terms (Some atom) = is_derived (slice_get terms atom.term)

-- an answer is to an atom of a derived term
abbrev pub asks_derived : Table → Answer → Bool
asks_derived table n = is_of_derived table.terms (slice_get table.atoms n.atom)

-- each one is
abbrev pub are_derived : Table → List Answer → Bool
are_derived table answers = list_all (asks_derived table) answers

-- there are answers
abbrev pub are_some : List Answer → Bool
are_some [] = false
are_some (n ∷ answers) = true

-- answers lead to a region that hangs on what a run computes, and on nothing else
abbrev pub hang_alone : Table → List Answer → Bool
hang_alone table answers = are_some answers && are_derived table answers
