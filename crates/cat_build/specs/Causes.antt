-- What stands at a position where a source is refused: one line a code. Each says that no earlier phase has a fault.
use Rattle.std.specs.Prelude.{◌≡◌, ◌<◌, ◌⊎◌, ℕ, List, [], ◌∷◌, length, slice_get, Option, Some, None}
use Rattle.cat_pos.specs.Position.{pos_of}
use Rattle.cat_pos.specs.declared.pos.Pos.{Pos}
use Rattle.cat_pos.specs.declared.pos.Piece.{Piece}
use Rattle.cat_lex.specs.declared.token.Token.{Token}
use Rattle.cat_lex.specs.Positions.{position_after}
use Rattle.cat_lex.specs.Lexes.{Lexes, BeginsNoToken, PassesBound, FailsAt}
use Rattle.cat_tree.specs.declared.program.Tree.{Tree}
use Rattle.cat_parse.specs.Causes.{IsUnexpected, IsTooDeep}
use Rattle.cat_scope.specs.declared.programs.Program.{Program}
use Rattle.cat_scope.specs.Groups.{Group}
use Rattle.cat_names.specs.declared.fault.Fault.{Fault}
use Rattle.cat_names.specs.declared.fault.Fault.TheVariants as fault
use Rattle.cat_names.specs.Accepted.{IsRefused}
use Rattle.cat_except.specs.declared.refusal.ExceptRefusal.{ExceptRefusal}
use Rattle.cat_except.specs.declared.refusal.ExceptRefusal.TheVariants as exception
use Rattle.cat_except.specs.Causes as exceptions
use Rattle.cat_except.specs.Causes.{AreResolved, HaveNoCycle}
use Rattle.cat_except.specs.Faults.{groups_in, unknown_labels, split_labels}
use Rattle.cat_build.specs.declared.code.FaultCode.{FaultCode}
use Rattle.cat_build.specs.declared.code.FaultCode.TheVariants as code
use Rattle.cat_build.specs.declared.code.BuildRefusal.{BuildRefusal}
use Rattle.cat_build.specs.declared.code.BuildRefusal.TheVariants.{Refused, Memory}
use Rattle.cat_build.specs.Accepted.{IsTreeOf, IsProgramIn}

-- ---- tokens

-- the position behind the last piece; where there is none, the first position of all
abbrev pub end_of : List Piece → Pos
end_of [] = pos_of 0 1 1
end_of (piece ∷ []) = position_after piece.pos piece.text
end_of (piece ∷ next ∷ more) = end_of (next ∷ more)

-- the position of a token, or of the end of the pieces where there is none of that number
abbrev pub token_position : List Piece → Option Token → Pos
token_position pieces (Some token) = token.pos
token_position pieces None = end_of pieces

-- the pieces are tokens, and this stands at the one at that position, or at their end
pub record StandsAtToken (Stands : List Token → ℕ → Type 0) (pieces : List Piece) (p : Pos) : Type 0 where
  pub tokens : List Token
  pub at : ℕ
  pub lexed : Lexes pieces tokens
  pub stands : Stands tokens at
  pub position : p ≡ token_position pieces (slice_get tokens at)

-- ---- trees and exceptions

-- a fault stands against the tree that the pieces are
pub record IsRefusedTree (pieces : List Piece) (found : Fault) : Type 0 where
  pub tree : Tree
  pub spelled : IsTreeOf pieces tree
  pub refused : IsRefused tree found

-- no fault of an earlier kind than this one's stands against exceptions. The kinds are, in this order: labels unknown,
-- labels split, bare exceptions without one root, cycles, and chains that are too long
abbrev pub HasNoEarlier : ExceptRefusal → List (List Group) → Type 0
HasNoEarlier (exception.LabelUnknown p) targets = Unit {0}
HasNoEarlier (exception.LabelSplit p) targets = unknown_labels targets ≡ []
HasNoEarlier (exception.ExceptionAmbiguous p) targets = (unknown_labels targets ≡ []) × (split_labels targets ≡ [])
HasNoEarlier (exception.ExceptionCycle p) targets = AreResolved targets
HasNoEarlier (exception.TooMany p) targets = AreResolved targets × HaveNoCycle targets
HasNoEarlier exception.Memory targets = Unit {0}

-- a fault stands against the exceptions of a scope, and none of an earlier kind against those of any scope
pub record IsRefusedForest (pieces : List Piece) (refusal : ExceptRefusal) : Type 0 where
  pub program : Program
  pub scope : ℕ
  pub program_is : IsProgramIn pieces program
  pub within : scope < length program.bodies
  pub refused : exceptions.HasCause (groups_in program scope) refusal
  pub first : (other : ℕ) → other < length program.bodies → HasNoEarlier refusal (groups_in program other)

-- ---- codes

-- what stands at a position of some pieces
abbrev pub StandsAt : List Piece → FaultCode → Pos → Type 0
StandsAt pieces code.NoToken p = FailsAt pieces p BeginsNoToken
StandsAt pieces code.LiteralRange p = FailsAt pieces p PassesBound
StandsAt pieces code.Unexpected p = StandsAtToken IsUnexpected pieces p
StandsAt pieces code.TooDeep p = StandsAtToken IsTooDeep pieces p
StandsAt pieces code.NameTwice p = IsRefusedTree pieces (fault.NameTwice p)
StandsAt pieces code.NameUnknown p = IsRefusedTree pieces (fault.NameUnknown p)
StandsAt pieces code.TypeMismatch p = IsRefusedTree pieces (fault.TypeMismatch p)
StandsAt pieces code.MatchCases p = IsRefusedTree pieces (fault.MatchCases p)
StandsAt pieces code.LabelUnknown p = IsRefusedForest pieces (exception.LabelUnknown p)
StandsAt pieces code.LabelSplit p = IsRefusedForest pieces (exception.LabelSplit p)
StandsAt pieces code.ExceptionAmbiguous p = IsRefusedForest pieces (exception.ExceptionAmbiguous p)
StandsAt pieces code.ExceptionCycle p = IsRefusedForest pieces (exception.ExceptionCycle p)
StandsAt pieces code.VariableCycle p = IsRefusedTree pieces (fault.VariableCycle p)
StandsAt pieces code.ScopeCycle p = IsRefusedTree pieces (fault.ScopeCycle p)
StandsAt pieces code.TypeCycle p = IsRefusedTree pieces (fault.TypeCycle p)
StandsAt pieces code.Misplaced p = IsRefusedTree pieces (fault.Misplaced p)
StandsAt pieces code.TooMany p =
    IsRefusedTree pieces (fault.TooMany p) ⊎ IsRefusedForest pieces (exception.TooMany p)

-- why pieces are not built
abbrev pub HasCause : List Piece → BuildRefusal → Type 0
HasCause pieces (Refused one p) = StandsAt pieces one p
HasCause pieces Memory = Unit {0}
