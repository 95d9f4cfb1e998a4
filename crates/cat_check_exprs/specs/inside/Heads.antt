-- Definitions without their conditions and consequences.
use Rattle.std.specs.Prelude.{length, Option}
use Rattle.cat_pos.specs.declared.pos.Pos.{Pos}
use Rattle.cat_tree.specs.declared.program.Lead.{Lead}
use Rattle.cat_scope.specs.declared.expr.Expr.{Expr}
use Rattle.cat_scope.specs.declared.defs.Def.{Def}
use Rattle.cat_names.specs.Aims.{Aim}
use Rattle.cat_names.specs.Definitions.{label_of, except_of}
use Rattle.cat_check_exprs.specs.declared.heads.Head.{Head}

-- what a definition is for, and what stands in front of it
abbrev pub head_of : Lead → Pos → Aim → Head
head_of l p aim = record {
  target = aim.target;
  label = label_of l.label;
  except = except_of l.exception;
  params = length aim.params;
  pos = p;
}

-- the definition with a condition, where there is one, and a consequence
abbrev pub defined : Head → Option Expr → Expr → Def
defined h c e = record {
  target = h.target;
  label = h.label;
  except = h.except;
  condition = c;
  consequence = e;
  params = h.params;
  pos = h.pos;
}
