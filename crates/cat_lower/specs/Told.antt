-- Where expressions, terms and scopes stand, in the words of the code.
use Rattle.std.specs.Prelude.{List}
use Rattle.cat_value.specs.declared.ty.Ty.{Ty}
use Rattle.cat_lower.specs.declared.scene.LoweringScene.{LoweringScene}
use Rattle.cat_lower.specs.declared.terms.TypedTarget.{TypedTarget}
use Rattle.cat_lower.specs.declared.items.NumberedScope.{NumberedScope}
use Rattle.cat_lower.specs.Rows.{Standing}
use Rattle.cat_lower.specs.Terms.{TermStanding}
use Rattle.cat_lower.specs.Scopes.{ScopeStanding}

-- where an expression stands, as the code is told by it
abbrev pub standing_at : LoweringScene → Standing
standing_at here = record {
  names = record { decls = here.decls.now; items = here.items.now };
  rounding = here.rounding;
  functions = here.functions;
  definitions = here.definitions;
}

-- where a term stands
abbrev pub term_standing : LoweringScene → TypedTarget → List Ty → TermStanding
term_standing here aim locals = record {
  here = standing_at here;
  target = aim.target;
  type = aim.ty.now;
  locals = locals;
}

-- a scope that is lowered
abbrev pub scope_standing : LoweringScene → NumberedScope → ScopeStanding
scope_standing here scope = record {
  number = scope.number;
  here = standing_at here;
  scope = scope.terms.now;
}
