-- From pieces to a program: where they end, and what stands where they are refused.
use Rattle.std.proofs.Common.{◌≡◌, ◌∙◌, ◌≤◌, ◌<◌, ◌-◌, suc, List, [], ◌∷◌, Some, sym, ap, arith, inl}
use Rattle.std.specs.Prelude.{length, slice_get}
use Rattle.cat_pos.specs.declared.limits.TheConstants.{ENTRIES_BOUND}
use Rattle.cat_pos.specs.declared.pos.Piece.{Piece}
use Rattle.cat_lex.specs.Positions.{position_after}
use Rattle.cat_tree.specs.declared.program.Tree.{Tree}
use Rattle.cat_scope.specs.declared.defs.Body.{Body}
use Rattle.cat_scope.specs.Names.{AllHave}
use Rattle.cat_names.specs.declared.fault.Fault.{Fault}
use Rattle.cat_names.specs.declared.fault.Fault.TheVariants as fault
use Rattle.cat_names.specs.Limits.{most_definitions}
use Rattle.cat_names.specs.Accepted.{IsRefused}
use Rattle.cat_build.specs.Accepted.{IsTreeOf}
use Rattle.cat_build.specs.Causes.{HasCause, IsRefusedTree, end_of}
use Rattle.cat_build.specs.Codes.{refusal_of}

-- the end of the pieces is that of the last one
pub end_is : (pieces : List Piece) (piece : Piece) → Some piece ≡ slice_get pieces (length pieces - 1)
    → end_of pieces ≡ position_after piece.pos piece.text
end_is [] piece is = cc is
end_is (p ∷ []) piece is =
    let same : piece ≡ p = cc is in ap (λ (one : Piece). position_after one.pos one.text) (sym same)
end_is (p ∷ q ∷ more) piece is =
    let last : length (p ∷ q ∷ more) - 1 ≡ suc (length (q ∷ more) - 1) = omega arith in
    end_is (q ∷ more) piece (is ∙ ap (λ n. slice_get (p ∷ q ∷ more) n) last)

pub few_all : (bodies : List Body) → AllHave (λ body. length body.defs ≤ most_definitions) bodies
    → AllHave (λ body. length body.defs < ENTRIES_BOUND) bodies
few_all [] all = tt
few_all (body ∷ bodies) all = (omega (arith, all.0), few_all bodies all.1)

tree_refused : (pieces : List Piece) (tree : Tree) (found : Fault) → IsTreeOf pieces tree → IsRefused tree found
    → IsRefusedTree pieces found
tree_refused pieces tree found spelled refused = record { tree = tree; spelled = spelled; refused = refused }

-- what stands against the tree stands in the pieces
pub tree_cause : (pieces : List Piece) (tree : Tree) → IsTreeOf pieces tree → (found : Fault) → IsRefused tree found
    → HasCause pieces (refusal_of found)
tree_cause pieces tree spelled (fault.NameTwice p) refused =
    tree_refused pieces tree (fault.NameTwice p) spelled refused
tree_cause pieces tree spelled (fault.NameUnknown p) refused =
    tree_refused pieces tree (fault.NameUnknown p) spelled refused
tree_cause pieces tree spelled (fault.TypeMismatch p) refused =
    tree_refused pieces tree (fault.TypeMismatch p) spelled refused
tree_cause pieces tree spelled (fault.MatchCases p) refused =
    tree_refused pieces tree (fault.MatchCases p) spelled refused
tree_cause pieces tree spelled (fault.VariableCycle p) refused =
    tree_refused pieces tree (fault.VariableCycle p) spelled refused
tree_cause pieces tree spelled (fault.ScopeCycle p) refused =
    tree_refused pieces tree (fault.ScopeCycle p) spelled refused
tree_cause pieces tree spelled (fault.TypeCycle p) refused =
    tree_refused pieces tree (fault.TypeCycle p) spelled refused
tree_cause pieces tree spelled (fault.Misplaced p) refused =
    tree_refused pieces tree (fault.Misplaced p) spelled refused
tree_cause pieces tree spelled (fault.TooMany p) refused =
    inl (tree_refused pieces tree (fault.TooMany p) spelled refused)
