-- What pieces are is decided: whether they are a tree, and whether that has a program.
use Rattle.std.proofs.Common.{◌≡◌, ◌∙◌, true, false, List, [], ◌∷◌, ◌++◌, sym, ap, subst, inl, inr, append_assoc}
use Rattle.cat_pos.specs.declared.pos.Piece.{Piece}
use Rattle.cat_lex.specs.declared.token.Token.{Token}
use Rattle.cat_lex.specs.Lexes.{Lexes}
use Rattle.cat_lex.proofs.Sequences.{once}
use Rattle.cat_tree.specs.declared.expression.Node.{Node}
use Rattle.cat_tree.specs.declared.program.Tree.{Tree}
use Rattle.cat_tree.specs.Programs.{SpellsProgram}
use Rattle.cat_parse_expr.specs.Reader.{Parsed, Reader, Fails, Reads}
use Rattle.cat_parse.specs.Exactly.{ReadsExpressions, Exactly}
use Rattle.cat_parse.specs.Programs.{program}
use Rattle.cat_parse.specs.Expression.{expression}
use Rattle.cat_weave.specs.Causes.{AreReadableTogether}
use Rattle.cat_names.specs.Accepted.{IsParsed, IsRefused}
use Rattle.cat_names.specs.Decided.{HasProgram, IsDecided}
use Rattle.cat_build.specs.Accepted.{IsTreeOf}
use Rattle.cat_build.proofs.Counted.{parsed}
use Rattle.cat_build.proofs.Exported.{IsOneTree, IsOneProgram, HaveNoProgram}
use Rattle.cat_laws.proofs.Rooms.{Decided}
use Rattle.cat_laws.proofs.Lexed.{AreLexed, lexed_decided}

-- ---- the laws on which this rests

abbrev pub AreReadExactly : Type 0
AreReadExactly = (ex : Reader Node) → ReadsExpressions ex → (tokens : List Token) → Exactly tokens (program ex tokens)

abbrev pub AreTreesDecided : Type 0
AreTreesDecided = (tree : Tree) → IsParsed tree → IsDecided tree

pub record Laws : Type 0 where
  pub exactly : AreReadExactly
  pub rightly : ReadsExpressions expression
  pub one_tree : IsOneTree
  pub decided : AreTreesDecided
  pub no_program : HaveNoProgram
  pub one_program : IsOneProgram

-- ---- trees

-- the pieces are a tree
pub record HasTree (pieces : List Piece) : Type 0 where
  pub tree : Tree
  pub spelled : IsTreeOf pieces tree

-- the tokens of another tree of the pieces are these
spelled_by : (pieces : List Piece) (tokens : List Token) → Lexes pieces tokens → (has : HasTree pieces)
    → SpellsProgram has.tree tokens
spelled_by pieces tokens lexed has =
    subst (λ (ts : List Token). SpellsProgram has.tree ts)
    (once pieces has.spelled.tokens tokens has.spelled.lexed lexed) has.spelled.spelled.spells

by_parse : (pieces : List Piece) (tokens : List Token) → Lexes pieces tokens → (o : Parsed Tree) → Exactly tokens o
    → Decided (HasTree pieces)
by_parse pieces tokens lexed (Reads t left) is =
    inl (record { tree = t; spelled = record { tokens = tokens; lexed = lexed; spelled = is.0 } })
by_parse pieces tokens lexed (Fails left false whole) is =
    inr (λ has. is.1.none has.tree (spelled_by pieces tokens lexed has))
by_parse pieces tokens lexed (Fails left true whole) is =
    let high = is.1 in
    let parts : tokens ≡ (is.0 ++ high.next ∷ []) ++ high.after =
    high.text ∙ (ap (λ (ts : List Token). is.0 ++ ts) high.at ∙ sym (append_assoc is.0 (high.next ∷ []) high.after)) in
    inr (λ has. high.too_high (record {
      tree = has.tree;
      rest = high.after;
      spells = subst (λ (ts : List Token). SpellsProgram has.tree ts) parts (spelled_by pieces tokens lexed has);
    }) has.spelled.spelled.low)

-- the pieces are a tree that has a program
pub record HasMeaning (pieces : List Piece) : Type 0 where
  pub tree : Tree
  pub spelled : IsTreeOf pieces tree
  pub program : HasProgram tree

module _ (laws : Laws) (pieces : List Piece) where
  by_tokens : Decided (AreLexed pieces) → Decided (HasTree pieces)
  by_tokens (inl are) =
      by_parse pieces are.tokens are.lexed (program expression are.tokens)
      (laws.exactly expression laws.rightly are.tokens)
  by_tokens (inr none) = inr (λ has. none (record { tokens = has.spelled.tokens; lexed = has.spelled.lexed }))

  pub tree_decided : Decided (HasTree pieces)
  tree_decided = by_tokens (lexed_decided pieces)

  pub tree_is : (tree other : Tree) → IsTreeOf pieces tree → IsTreeOf pieces other → tree ≡ other
  tree_is tree other is also =
      laws.one_tree tree other is.tokens is.spelled.spells
      (spelled_by pieces is.tokens is.lexed (record { tree = other; spelled = also }))

  -- ---- programs

  by_decision : (has : HasTree pieces) → IsDecided has.tree → Decided (HasMeaning pieces)
  by_decision has (inl program) = inl (record { tree = has.tree; spelled = has.spelled; program = program })
  by_decision has (inr fault) =
      inr (λ m. let same = tree_is m.tree has.tree m.spelled has.spelled in
      laws.no_program m.tree m.program.decls m.program.bodies m.program.scope_order fault.fault m.program.program
      (subst (λ (t : Tree). IsRefused t fault.fault) (sym same) fault.refused))

  by_tree : AreReadableTogether pieces → Decided (HasTree pieces) → Decided (HasMeaning pieces)
  by_tree readable (inl has) =
      by_decision has (laws.decided has.tree (parsed pieces has.tree readable has.spelled))
  by_tree readable (inr none) = inr (λ m. none (record { tree = m.tree; spelled = m.spelled }))

  pub meaning_decided : AreReadableTogether pieces → Decided (HasMeaning pieces)
  meaning_decided readable = by_tree readable tree_decided
