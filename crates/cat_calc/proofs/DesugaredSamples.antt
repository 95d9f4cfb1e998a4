-- Worked examples of the terms of targets: each is written out.
use Rattle.std.proofs.Common.{◌≡◌, ℕ, ◌+◌, pos, List, [], ◌∷◌, None, Some, refl}
use Rattle.cat_pos.specs.Position.{pos_of}
use Rattle.cat_pos.specs.declared.pos.Pos.{Pos}
use Rattle.cat_value.specs.declared.outcome.Target.{Target}
use Rattle.cat_scope.specs.declared.expr.Expr.{Expr}
use Rattle.cat_scope.specs.declared.expr.Expr.TheVariants as leaf
use Rattle.cat_scope.specs.declared.expr.Literal.TheVariants as literal
use Rattle.cat_scope.specs.declared.defs.Def.{Def}
use Rattle.cat_scope.specs.declared.defs.Except.TheVariants as except
use Rattle.cat_calc.specs.declared.term.Justification.TheVariants.{Never, Always, Where}
use Rattle.cat_calc.specs.declared.term.DefaultTerm.{DefaultTerm}
use Rattle.cat_calc.specs.declared.term.DefaultTerm.TheVariants as leaf_term
use Rattle.cat_calc.specs.declared.term.DefaultTerm.TheViews as term
use Rattle.cat_calc.specs.inside.Terms.{group_term}
use Rattle.cat_calc.specs.inside.Items.{term_at}

abbrev at : ℕ → Pos
at l = pos_of 0 l 3

abbrev whole : ℕ → Expr
whole n = leaf.Literal (at 0) (literal.Integer (pos n))

abbrev flag : Expr
flag = leaf.Item (at 0) 0

abbrev x : Target
x = record { scope = 0; item = 1; inner = None }

-- the base case: 1
abbrev base : Def
base = record {
  target = x;
  label = None;
  except = except.No;
  condition = None;
  consequence = whole 1;
  params = 0;
  pos = at 6;
}

-- an exception to it: under a condition n
abbrev exception : ℕ → Def
exception n = record {
  target = x;
  label = None;
  except = except.OnlyRoot (at (n + 5));
  condition = Some flag;
  consequence = whole n;
  params = 0;
  pos = at (n + 5);
}

-- a definition that always holds, and one under the condition
abbrev always : ℕ → ℕ → DefaultTerm
always number n = term.Default [] Always (leaf_term.Consequence number (at (n + 5)) (whole n))

abbrev under : ℕ → ℕ → DefaultTerm
under number n = term.Default [] (Where flag) (leaf_term.Consequence number (at (n + 5)) (whole n))

-- of which one may hold
abbrev listed : List DefaultTerm → DefaultTerm
listed terms = term.Default terms Never leaf_term.Empty

-- a group with the groups that except it
abbrev group : List DefaultTerm → List DefaultTerm → DefaultTerm
group exceptions own = term.Default exceptions Always (listed own)

two_exceptions_stand_above_the_base : term_at (base ∷ exception 2 ∷ exception 3 ∷ []) 1 None
    ≡ listed (group (group [] (under 1 2 ∷ []) ∷ group [] (under 2 3 ∷ []) ∷ []) (always 0 1 ∷ []) ∷ [])
unfolding group_term
two_exceptions_stand_above_the_base = refl

two_base_cases_stand_side_by_side : term_at (base ∷ base ∷ []) 1 None
    ≡ listed (group [] (always 0 1 ∷ always 1 1 ∷ []) ∷ [])
unfolding group_term
two_base_cases_stand_side_by_side = refl

nothing_holds_without_definitions : term_at (base ∷ []) 0 None ≡ listed []
unfolding group_term
nothing_holds_without_definitions = refl
