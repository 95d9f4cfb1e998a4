-- Definitions of a target for the examples, written out with their positions in their sources.
use Rattle.std.proofs.Common.{ℕ, zero, suc, pos, List, [], ◌∷◌, Option, None, Some}
use Rattle.cat_pos.specs.Position.{pos_of}
use Rattle.cat_pos.specs.declared.pos.Pos.{Pos}
use Rattle.cat_value.specs.declared.outcome.Target.{Target}
use Rattle.cat_scope.specs.declared.expr.Expr.TheVariants as leaf
use Rattle.cat_scope.specs.declared.expr.Literal.TheVariants as literal
use Rattle.cat_scope.specs.declared.defs.Label.{Label}
use Rattle.cat_scope.specs.declared.defs.Except.{Except}
use Rattle.cat_scope.specs.declared.defs.Except.TheVariants as except
use Rattle.cat_scope.specs.declared.defs.Def.{Def}
use Rattle.cat_scope.specs.Groups.{Group, groups_of}
use Rattle.cat_scope.specs.Targets.{defs_from}

abbrev pub at : ℕ → ℕ → Pos
at l c = pos_of 0 l c

abbrev pub x : Target
x = record { scope = 0; item = 1; inner = None }

-- a label of one letter
abbrev pub label : ℕ → Pos → Label
label letter p = record { text = letter ∷ []; pos = p }

-- a definition of x by 0
abbrev pub def : Option Label → Except → Def
def l e =
    record {
      target = x;
      label = l;
      except = e;
      condition = None;
      consequence = leaf.Literal (at 0 0) (literal.Integer (pos 0));
      params = 0;
      pos = at 0 0;
    }

-- the groups of x
abbrev pub groups : List Def → List Group
groups defs = groups_of (defs_from x 0 defs)

-- `label a definition x`, in that line
abbrev pub plain : ℕ → ℕ → Def
plain letter line = def (Some (label letter (at line 9))) except.No

-- `label a exception b definition x`
abbrev pub exception_to : ℕ → ℕ → ℕ → Def
exception_to letter other line =
    def (Some (label letter (at line 9))) (except.Named (at line 11) (label other (at line 21)))

-- `exception a definition x`
abbrev pub alone_to : ℕ → ℕ → Def
alone_to other line = def None (except.Named (at line 3) (label other (at line 13)))

-- `exception definition x`
abbrev pub bare : ℕ → Def
bare line = def None (except.OnlyRoot (at line 3))

-- so many more definitions, each an exception to the one before
abbrev pub chain_from : ℕ → ℕ → List Def
chain_from zero before = []
chain_from (suc n) before = exception_to (suc before) before (suc before) ∷ chain_from n (suc before)

-- a chain of a group and so many more, in line 0 and those that follow
abbrev pub chain_of : ℕ → List Def
chain_of more = plain 0 0 ∷ chain_from more 0
