-- The reader of expressions, by precedence climbing.
use Rattle.std.specs.Prelude.{if◌then◌else◌, ℕ, zero, suc, false, None}
use Rattle.cat_parse_expr.specs.declared.behind.Behind.{Behind}
use Rattle.cat_parse_expr.specs.declared.measured.Measured.{Measured}
use Rattle.cat_parse_expr.specs.declared.opening.Opening.{Opening}
use Rattle.cat_parse_expr.specs.declared.opening.Opening.TheVariants as opening
use Rattle.cat_parse_expr.specs.Reader.{Fails, Reader, ◌⨟◌, nothing}
use Rattle.cat_parse_expr.specs.Openings.{opening_at, stands}
use Rattle.cat_parse_expr.specs.Parts.{Lower, as_many}
use Rattle.cat_parse_expr.specs.Literals as literals
use Rattle.cat_parse_expr.specs.Cases as cased
use Rattle.cat_parse_expr.specs.Brackets as brackets
use Rattle.cat_parse_expr.specs.Prefixes as prefixes
use Rattle.cat_parse_expr.specs.Forms as forms
use Rattle.cat_parse_expr.specs.Steps.{goes_on, nothing_at, step}

module _ (ex : Lower) (room : ℕ) where
  -- the form by its first word
  abbrev pub opened_by : Behind → (k : ℕ) → Opening → Reader Measured
  opened_by b k opening.Literal = literals.a_literal
  opened_by b k opening.Name = cased.name ex room k
  opened_by b k opening.Case = cased.case ex room b k
  opened_by b k opening.Parens = brackets.parens ex room
  opened_by b k opening.List = brackets.list ex room
  opened_by b k opening.ScopeCall = brackets.scope_call ex room
  opened_by b k (opening.Prefixed o) = prefixes.prefixed ex room b o
  opened_by b k opening.Sum = prefixes.sum ex room b
  opened_by b k opening.If = forms.choice ex room b
  opened_by b k opening.Match = forms.matched ex room b
  opened_by b k (opening.Each e) = forms.over_each ex room b e
  opened_by b k opening.Combine = forms.combined ex room b
  opened_by b k opening.Nothing = nothing

  -- what stands in front of all operators
  abbrev pub primary : Behind → (k : ℕ) → Reader Measured
  primary b k ts = if stands k (opening_at ts) then opened_by b k (opening_at ts) ts else Fails ts false None

  -- an operand, and the operators behind it
  abbrev pub climb : Behind → (k : ℕ) → Reader Measured
  climb b k = primary b k ⨟ as_many (goes_on b k) (step ex room b)

-- the longest expression up to a height that stands at a level, before what may follow it
unfoldable pub operand : (room : ℕ) → Lower
operand zero b k = nothing_at k
operand (suc room) b k = climb (operand room) room b k
