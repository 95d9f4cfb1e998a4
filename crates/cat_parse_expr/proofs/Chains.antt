-- An expression as what stands in front of all its operators, and the steps behind that.
use Rattle.std.proofs.Common.{suc, max, List, [], ◌∷◌, ◌++◌, refl, sym, ap, subst, ◌∙◌, append_assoc}
use Rattle.std.proofs.lemmas.List.{append-nil}
use Rattle.cat_lex.specs.declared.words.DoubleKeyword.TheVariants as pair
use Rattle.cat_lex.specs.declared.symbol.Symbol.TheVariants as symbol
use Rattle.cat_tree.specs.declared.expression.Node.TheViews as node
use Rattle.cat_parse_expr.proofs.Common.{Pos, Token, Name, CaseName, Operator, Phrase, Parts, End, AreSpelled}
use Rattle.cat_parse_expr.proofs.Common.{IsSpelling, ◌▹◌, first, pair_at, sign, lower, part, case_parts, operator_kind}
use Rattle.cat_parse_expr.proofs.Common.{operator_level, phrase, all, phrase_Binary, phrase_Field, phrase_Test}
use Rattle.cat_parse_expr.proofs.Common.{Measured, closed, ending}
use Rattle.cat_parse_expr.proofs.Joining.{spelled_split}
use Rattle.cat_parse_expr.proofs.Lists as lists

-- what goes on behind a whole expression
pub data Step : Type 0 where
  Operates : Operator → Pos → Measured → Step
  Selects : Name → Step
  TestsFor : Pos → CaseName → Step

-- an expression with one step more
abbrev pub put : Measured → Step → Measured
put a (Operates o p e) =
    ending (operator_level o) (max a.height e.height) e.strength e.in_match (node.Binary o p a.node e.node)
put a (Selects w) = closed 9 a.height (node.Field a.node w)
put a (TestsFor p c) = closed 4 a.height (node.Test a.node p c)

-- with all of these
abbrev pub put_all : Measured → List Step → Measured
put_all = lists.put_all put

-- how a step is spelled
abbrev pub step_parts : Step → Parts
step_parts (Operates o p e) = first (operator_kind o) p ▹ part (suc (operator_level o)) (phrase e.node) ▹ End
step_parts (Selects w) = sign symbol.Dot ▹ lower w ▹ End
step_parts (TestsFor p c) = pair_at pair.WithPattern p ▹ case_parts c End

-- one step more is spelled behind the expression
step_spelled : (a : Measured) (s : Step) (u v : List Token) → IsSpelling (phrase a.node) u → AreSpelled (step_parts s) v
    → IsSpelling (phrase (put a s).node) (u ++ v)
step_spelled a (Operates o p e) u v x y =
    subst (λ (f : Phrase). IsSpelling f (u ++ v)) (sym (phrase_Binary o p a.node e.node)) (u, v, refl, x, y)
step_spelled a (Selects w) u v x y =
    subst (λ (f : Phrase). IsSpelling f (u ++ v)) (sym (phrase_Field a.node w)) (u, v, refl, x, y)
step_spelled a (TestsFor p c) u v x y =
    subst (λ (f : Phrase). IsSpelling f (u ++ v)) (sym (phrase_Test a.node p c)) (u, v, refl, x, y)

-- all steps are
pub steps_spelled : (a : Measured) (ss : List Step) (u v : List Token) → IsSpelling (phrase a.node) u
    → AreSpelled (all step_parts ss) v → IsSpelling (phrase (put_all a ss).node) (u ++ v)
steps_spelled a [] u v x y =
    subst (IsSpelling (phrase a.node)) (sym (append-nil u) ∙ ap (λ (w : List Token). u ++ w) (sym y)) x
steps_spelled a (s ∷ more) u v x y =
    let t = spelled_split (step_parts s) (all step_parts more) v y in
    subst (IsSpelling (phrase (put_all (put a s) more).node))
    (append_assoc u t.first t.second ∙ ap (λ (w : List Token). u ++ w) (sym t.text))
    (steps_spelled (put a s) more (u ++ t.first) t.second (step_spelled a s u t.first x t.one) t.two)
