-- What holds of the trees that have an outline.
use Rattle.std.specs.Prelude.{◌≡◌, ℕ}
use Rattle.cat_value.specs.declared.decls.Decls.{Decls}
use Rattle.cat_tree.specs.declared.program.Tree.{Tree}
use Rattle.cat_check.specs.declared.outline.Outline.{Outline}
use Rattle.cat_check.specs.Outlined.{outline_of}
use Rattle.cat_check.specs.inside.Calls.{IsCall}

-- in a tree with this outline a scope calls another
abbrev pub IsCallIn : Outline → Decls → ℕ → ℕ → Type 0
IsCallIn outline ds caller called = (tree : Tree) × (outline ≡ outline_of tree) × IsCall tree ds caller called
