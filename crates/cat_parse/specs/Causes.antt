-- Why a list of tokens is no program, and where.
use Rattle.std.specs.Prelude.{ℕ, suc, ◌≤◌, ◌<◌, List, length, take, ⊤}
use Rattle.cat_lex.specs.declared.token.Token.{Token}
use Rattle.cat_tree.specs.Limits.{most_height}
use Rattle.cat_tree.specs.declared.program.Tree.{Tree}
use Rattle.cat_tree.specs.Programs.{highest_in, SpellsProgram, BeginsProgram}
use Rattle.cat_parse_expr.specs.declared.refusal.ParseRefusal.{ParseRefusal}
use Rattle.cat_parse_expr.specs.declared.refusal.ParseRefusal.TheVariants.{Unexpected, TooDeep, Memory}

-- The tokens spell no program; those before the index begin one, and with the token there, if one is there, they begin
-- none.
pub record IsUnexpected (tokens : List Token) (at : ℕ) : Type 0 where
  pub within : at ≤ length tokens
  pub begins : BeginsProgram (take at tokens)
  pub ends : at < length tokens → BeginsProgram (take (suc at) tokens) → ⊥
  pub none : (t : Tree) → SpellsProgram t tokens → ⊥

-- The tokens up to and with that at the index begin a program, and none whose expressions have heights of at most 256.
pub record IsTooDeep (tokens : List Token) (at : ℕ) : Type 0 where
  pub within : at < length tokens
  pub begins : BeginsProgram (take (suc at) tokens)
  pub none_low : (b : BeginsProgram (take (suc at) tokens)) → highest_in b.tree ≤ most_height → ⊥

-- why no program was read
abbrev pub HasProgramCause : List Token → ParseRefusal → Type 0
HasProgramCause tokens (Unexpected at) = IsUnexpected tokens at
HasProgramCause tokens (TooDeep at) = IsTooDeep tokens at
HasProgramCause tokens Memory = ⊤
