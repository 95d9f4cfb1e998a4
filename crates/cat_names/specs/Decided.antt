-- What is decided of a tree: it has a program, or a fault stands against it.
use Rattle.std.specs.Prelude.{◌⊎◌, ℕ, List}
use Rattle.cat_value.specs.declared.decls.Decls.{Decls}
use Rattle.cat_tree.specs.declared.program.Tree.{Tree}
use Rattle.cat_scope.specs.declared.defs.Body.{Body}
use Rattle.cat_names.specs.declared.fault.Fault.{Fault}
use Rattle.cat_names.specs.Accepted.{IsProgramOf, IsRefused}

-- a tree has a program
pub record HasProgram (tree : Tree) : Type 0 where
  pub decls : Decls
  pub bodies : List Body
  pub scope_order : List ℕ
  pub program : IsProgramOf tree decls bodies scope_order

-- a fault stands against a tree
pub record HasFault (tree : Tree) : Type 0 where
  pub fault : Fault
  pub refused : IsRefused tree fault

-- one of both
abbrev pub IsDecided : Tree → Type 0
IsDecided tree = HasProgram tree ⊎ HasFault tree
