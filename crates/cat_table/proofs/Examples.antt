-- Worked examples: the parts of a table of two bands, `income < $10,000` and `income >= $10,000`, and of other targets.
use Rattle.std.proofs.Common.{◌≡◌, pos, true, false, IsTrue, List, [], ◌∷◌, codes, None, Some, Ok, Err, refl}
use Rattle.std.specs.Fmt.{digits}
use Rattle.cat_num.specs.Text.{money_bytes}
use Rattle.cat_pos.specs.Position.{pos_of}
use Rattle.cat_order.specs.Computed.{order_of}
use Rattle.cat_value.specs.declared.ty.Ty.TheVariants as flat
use Rattle.cat_value.specs.declared.decls.Decls.{Decls}
use Rattle.cat_value.specs.declared.declaration.ItemDecl.{ItemDecl}
use Rattle.cat_value.specs.declared.declaration.Kind.TheVariants.{Input, Output}
use Rattle.cat_value.specs.Declarations.{are_sound}
use Rattle.cat_value.specs.Dependencies.{are_ordered}
use Rattle.cat_region.specs.declared.cut.Cut.TheVariants as cut
use Rattle.cat_region.specs.declared.cut.Threshold.TheVariants as threshold
use Rattle.cat_region.specs.declared.dim.Dim.TheVariants as dim
use Rattle.cat_region.specs.Regions.{Constraints}
use Rattle.cat_scope.specs.declared.expr.Expr.TheVariants as leaf
use Rattle.cat_scope.specs.declared.stop.Stop.TheVariants as stops
use Rattle.cat_guard.specs.declared.guard.Guard.TheVariants as flat_guard
use Rattle.cat_guard.specs.declared.guard.Guard.TheViews as guard
use Rattle.cat_guard.specs.declared.table.Atom.{Atom}
use Rattle.cat_guard.specs.declared.table.Term.{Term}
use Rattle.cat_guard.specs.declared.table.TableTarget.{TableTarget}
use Rattle.cat_guard.specs.Trees.{with_answer}
use Rattle.cat_guard.specs.Trees as tree
use Rattle.cat_guard.specs.Verdicts as verdict
use Rattle.cat_table.specs.Conditions.{Naming, way_text}
use Rattle.cat_table.specs.Results.{decided_text, verdict_text}
use Rattle.cat_table.specs.Rows.{answered, row, rows_from}

nothing_is_sound : IsTrue (are_sound [] [] [])
unfolding are_sound are_ordered order_of
nothing_is_sound = refl

abbrev decls : Decls
decls = record { structures = []; enumerations = []; scopes = []; sound = nothing_is_sound }

abbrev income : ItemDecl
income = record {
  name = codes "income";
  pos = pos_of 0 3 9;
  kind = Input;
  ty = flat.Money;
  condition = false;
  params = [];
}

abbrev rate : ItemDecl
rate = record {
  name = codes "rate";
  pos = pos_of 0 4 10;
  kind = Output;
  ty = flat.Integer;
  condition = false;
  params = [];
}

abbrev names : Naming
names = record { decls = decls; items = income ∷ rate ∷ []; files = codes "a.md" ∷ [] }

-- `income`, which is free, and `is_due`, which is computed
abbrev terms : List Term
terms =
    record {
      expr = leaf.Item (pos_of 0 6 34) 0;
      function = 1;
      params = 0;
      path = Some (record { item = 0; fields = [] });
      dim = dim.Money;
      pos = pos_of 0 6 34;
    }
    ∷ record {
      expr = leaf.Item (pos_of 0 8 34) 1;
      function = 1;
      params = 0;
      path = None;
      dim = dim.Truth;
      pos = pos_of 0 8 34;
    } ∷ []

abbrev atoms : List Atom
atoms =
    record { term = 0; cut = cut.Below (threshold.Money (pos 1_000_000)) }
    ∷ record { term = 1; cut = cut.IsTrue }
    ∷ []

-- two definitions, of which the first holds below the limit and the second from it on
abbrev target : TableTarget
target = record {
  target = record { scope = 0; item = 1; inner = None };
  name = codes "rate";
  function = false;
  may_be_empty = false;
  pos = pos_of 0 4 10;
  defs =
      record { number = 0; guard = flat_guard.Atom 0; pos = pos_of 0 6 3 }
      ∷ record { number = 1; guard = guard.Not (flat_guard.Atom 0); pos = pos_of 0 7 3 } ∷ [];
  groups =
      record { defs = 0 ∷ []; excepted_by = [] } ∷ record { defs = 1 ∷ []; excepted_by = [] } ∷ [];
  roots = 0 ∷ 1 ∷ [];
}

-- ---- regions

below_the_limit : way_text names terms atoms (answered 0 true ∷ []) ≡ codes "income < 10000.00"
unfolding money_bytes digits
below_the_limit = refl

from_the_limit_on : way_text names terms atoms (answered 0 false ∷ []) ≡ codes "income >= 10000.00"
unfolding money_bytes digits
from_the_limit_on = refl

two_answers : way_text names terms atoms (answered 0 true ∷ answered 1 false ∷ [])
    ≡ codes "income < 10000.00 and not term at a.md:8:34"
unfolding money_bytes digits
two_answers = refl

no_answers : way_text names terms atoms [] ≡ codes "always"
no_answers = refl

-- ---- what decides

the_first_holds : verdict_text names target (verdict.Holds 0) ≡ codes "definition at a.md:6:3"
unfolding digits
the_first_holds = refl

none_holds : verdict_text names target verdict.Empty ≡ codes "no value"
none_holds = refl

two_hold : verdict_text names target verdict.Conflict ≡ codes "conflict"
two_hold = refl

-- by the truth values of guards
the_second_decides : decided_text names target (Ok (Some (record { number = 1; pos = pos_of 0 7 3; value = tt })))
    ≡ codes "definition at a.md:7:3"
unfolding digits
the_second_decides = refl

none_decides : decided_text names target (Ok None) ≡ codes "no value"
none_decides = refl

two_decide : decided_text names target (Err (stops.Conflict target.target [])) ≡ codes "conflict"
two_decide = refl

-- ---- rows

-- a split whose false side is left unexplored: a leaf that is shown, and a rest that isn't
its_rows : (atom : Atom) (region : Constraints)
    → rows_from (atom ∷ []) [] region (tree.Split 0 tree.Leaf tree.Rest)
    ≡ row (answered 0 true ∷ []) (with_answer region (Some atom) true) true
    ∷ row (answered 0 false ∷ []) (with_answer region (Some atom) false) false ∷ []
its_rows atom region = refl
