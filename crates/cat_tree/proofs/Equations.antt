-- The equation of `phrase` at each form.
use Rattle.std.proofs.Common.{◌≡◌, suc, List, [], ◌∷◌, map, refl, ap, ◌∙◌, rules}
use Rattle.cat_pos.specs.declared.pos.Pos.{Pos}
use Rattle.cat_lex.specs.declared.words.Keyword.TheVariants as key
use Rattle.cat_lex.specs.declared.words.DoubleKeyword.TheVariants as pair
use Rattle.cat_lex.specs.declared.symbol.Symbol.TheVariants as symbol
use Rattle.cat_tree.specs.Accumulation.{accumulation}
use Rattle.cat_tree.specs.declared.name.Name.{Name}
use Rattle.cat_tree.specs.declared.name.CaseName.{CaseName}
use Rattle.cat_tree.specs.declared.name.Type as types
use Rattle.cat_tree.specs.declared.expression.SurfaceLiteral.{SurfaceLiteral}
use Rattle.cat_tree.specs.declared.expression.Prefix.{Prefix}
use Rattle.cat_tree.specs.declared.expression.Operator.{Operator}
use Rattle.cat_tree.specs.declared.expression.Each.{Each}
use Rattle.cat_tree.specs.declared.expression.Pattern.{Pattern}
use Rattle.cat_tree.specs.declared.expression.Node.{Node}
use Rattle.cat_tree.specs.declared.expression.Node.TheVariants as leaf
use Rattle.cat_tree.specs.declared.expression.Node.TheViews as node
use Rattle.cat_tree.specs.declared.expression.Node.TheFolds.{fold-SurfaceArm, fold-SurfaceField}
use Rattle.cat_tree.specs.declared.expression.Node.TheFolds.{fold_out-Node, fold_out-SurfaceArm}
use Rattle.cat_tree.specs.declared.expression.Node.TheFolds.{fold_out-SurfaceField}
use Rattle.cat_tree.specs.declared.expression.SurfaceField.{SurfaceField}
use Rattle.cat_tree.specs.declared.expression.SurfaceArm.{SurfaceArm}
use Rattle.cat_tree.specs.Phrase.{Phrase, Row, End}
use Rattle.cat_tree.specs.Wording.{◌▹◌, first, key_at, pair_at, symbol_at, «word», words, sign, lower, upper, part}
use Rattle.cat_tree.specs.Wording.{left, of_level, form, if_some, match_of}
use Rattle.cat_tree.specs.Literals.{literal_parts, literal_rank, case_parts, type_parts}
use Rattle.cat_tree.specs.Operators.{prefix_parts, prefix_level, operator_kind, operator_level, left_level}
use Rattle.cat_tree.specs.Rows.{fields, arms, elements, each_parts}
use Rattle.cat_tree.specs.Grammar.{phrase, phrase_step, field_step, arm_step}

abbrev pub field_row : SurfaceField → Name × Phrase
field_row f = (f.name, phrase f.value)

abbrev pub arm_row : SurfaceArm → Pattern × Phrase
arm_row a = (a.pattern, phrase a.body)

abbrev field : SurfaceField → Name × Phrase
field = fold-SurfaceField Phrase (Pattern × Phrase) (Name × Phrase) phrase_step arm_step field_step

abbrev arm : SurfaceArm → Pattern × Phrase
arm = fold-SurfaceArm Phrase (Pattern × Phrase) (Name × Phrase) phrase_step arm_step field_step

field_is : (f : SurfaceField) → field f ≡ field_row f
unfolding phrase
field_is f = search (
  rules,
  node.the_lemmas,
  fold_out-SurfaceField Phrase (Pattern × Phrase) (Name × Phrase) phrase_step
      arm_step field_step,
)

arm_is : (a : SurfaceArm) → arm a ≡ arm_row a
unfolding phrase
arm_is a = search (
  rules,
  node.the_lemmas,
  fold_out-SurfaceArm Phrase (Pattern × Phrase) (Name × Phrase) phrase_step arm_step
      field_step,
)

fields_are : (fs : List SurfaceField) → map field fs ≡ map field_row fs
fields_are [] = refl
fields_are (f ∷ fs) = ap (λ (x : Name × Phrase). x ∷ map field fs) (field_is f)
    ∙ ap (λ (xs : List (Name × Phrase)). field_row f ∷ xs) (fields_are fs)

arms_are : (xs : List SurfaceArm) → map arm xs ≡ map arm_row xs
arms_are [] = refl
arms_are (a ∷ more) = ap (λ (x : Pattern × Phrase). x ∷ map arm more) (arm_is a)
    ∙ ap (λ (ys : List (Pattern × Phrase)). arm_row a ∷ ys) (arms_are more)

pub phrase_Literal : (l : SurfaceLiteral) (p : Pos) → phrase (leaf.Literal l p)
    ≡ Row (literal_rank l) (literal_parts l p)
unfolding phrase
phrase_Literal l p = search (
  rules,
  node.the_lemmas,
  fold_out-Node Phrase (Pattern × Phrase) (Name × Phrase) phrase_step
      arm_step field_step,
)

pub phrase_Name : (w : Name) → phrase (leaf.Name w) ≡ Row (of_level 9) (lower w ▹ End)
unfolding phrase
phrase_Name w = search (
  rules,
  node.the_lemmas,
  fold_out-Node Phrase (Pattern × Phrase) (Name × Phrase) phrase_step
      arm_step field_step,
)

pub phrase_Case : (c : CaseName) → phrase (leaf.Case c) ≡ Row (of_level 9) (case_parts c End)
unfolding phrase
phrase_Case c = search (
  rules,
  node.the_lemmas,
  fold_out-Node Phrase (Pattern × Phrase) (Name × Phrase) phrase_step
      arm_step field_step,
)

pub phrase_Parens : (p : Pos) (e : Node) → phrase (node.Parens p e) ≡ Row (of_level 9)
    (symbol_at symbol.LeftParen p ▹ part 0 (phrase e) ▹ sign symbol.RightParen ▹ End)
unfolding phrase
phrase_Parens p e = search (
  rules,
  node.the_lemmas,
  fold_out-Node Phrase (Pattern × Phrase) (Name × Phrase) phrase_step
      arm_step field_step,
)

pub phrase_Field : (e : Node) (w : Name) → phrase (node.Field e w) ≡ Row (of_level 9)
    (left 9 (phrase e) ▹ sign symbol.Dot ▹ lower w ▹ End)
unfolding phrase
phrase_Field e w = search (
  rules,
  node.the_lemmas,
  fold_out-Node Phrase (Pattern × Phrase) (Name × Phrase) phrase_step
      arm_step field_step,
)

pub phrase_Prefixed : (o : Prefix) (p : Pos) (e : Node) → phrase (node.Prefixed o p e) ≡ Row (of_level (prefix_level o))
    (prefix_parts o p (part (prefix_level o) (phrase e) ▹ End))
unfolding phrase
phrase_Prefixed o p e = search (
  rules,
  node.the_lemmas,
  fold_out-Node Phrase (Pattern × Phrase) (Name × Phrase)
      phrase_step arm_step field_step,
)

pub phrase_Sum : (p : Pos) (t : types.Type) (e : Node) → phrase (node.Sum p t e) ≡ Row (of_level 8)
    (key_at key.Sum p ▹ type_parts t («word» key.Of ▹ part 8 (phrase e) ▹ End))
unfolding phrase
phrase_Sum p t e = search (
  rules,
  node.the_lemmas,
  fold_out-Node Phrase (Pattern × Phrase) (Name × Phrase) phrase_step
      arm_step field_step,
)

pub phrase_Content : (c : CaseName) (e : Node) → phrase (node.Content c e) ≡ Row (of_level 8)
    (case_parts c («word» key.Content ▹ part 8 (phrase e) ▹ End))
unfolding phrase
phrase_Content c e = search (
  rules,
  node.the_lemmas,
  fold_out-Node Phrase (Pattern × Phrase) (Name × Phrase) phrase_step
      arm_step field_step,
)

pub phrase_Call : (f : Name) (args : List Node) → phrase (node.Call f args) ≡ Row (if_some 8 (map phrase args))
    (lower f ▹ «word» key.Of ▹ elements 9 symbol.Comma (map phrase args) End)
unfolding phrase
phrase_Call f args = search (
  rules,
  node.the_lemmas,
  fold_out-Node Phrase (Pattern × Phrase) (Name × Phrase) phrase_step
      arm_step field_step,
)

pub phrase_Binary : (o : Operator) (p : Pos) (a b : Node) → phrase (node.Binary o p a b) ≡ Row
    (of_level (operator_level o)) (left (left_level o) (phrase a) ▹ first (operator_kind o) p ▹ part
    (suc (operator_level o)) (phrase b) ▹ End)
unfolding phrase
phrase_Binary o p a b = search (
  rules,
  node.the_lemmas,
  fold_out-Node Phrase (Pattern × Phrase) (Name × Phrase)
      phrase_step arm_step field_step,
)

pub phrase_Test : (e : Node) (p : Pos) (c : CaseName) → phrase (node.Test e p c) ≡ Row (of_level 4)
    (left 5 (phrase e) ▹ pair_at pair.WithPattern p ▹ case_parts c End)
unfolding phrase
phrase_Test e p c = search (
  rules,
  node.the_lemmas,
  fold_out-Node Phrase (Pattern × Phrase) (Name × Phrase) phrase_step
      arm_step field_step,
)

pub phrase_List : (p : Pos) (es : List Node) → phrase (node.List p es) ≡ Row (of_level 9)
    (symbol_at symbol.LeftBracket p ▹ elements 0 symbol.Semicolon (map phrase es) (sign symbol.RightBracket ▹ End))
unfolding phrase
phrase_List p es = search (
  rules,
  node.the_lemmas,
  fold_out-Node Phrase (Pattern × Phrase) (Name × Phrase) phrase_step
      arm_step field_step,
)

folded_Structure : (u : Name) (fs : List SurfaceField) → phrase (node.Structure u fs) ≡ Row (if_some 9 (map field fs))
    (upper u ▹ sign symbol.LeftBrace ▹ fields (map field fs) (sign symbol.RightBrace ▹ End))
unfolding phrase
folded_Structure u fs = search (
  rules,
  node.the_lemmas,
  fold_out-Node Phrase (Pattern × Phrase) (Name × Phrase)
      phrase_step arm_step field_step,
)

pub phrase_Structure : (u : Name) (fs : List SurfaceField) → phrase (node.Structure u fs) ≡ Row
    (if_some 9 (map field_row fs)) (upper u ▹ sign symbol.LeftBrace ▹ fields (map field_row fs)
    (sign symbol.RightBrace ▹ End))
phrase_Structure u fs = folded_Structure u fs
    ∙ ap (λ (xs : List (Name × Phrase)). Row (if_some 9 (xs))
    (upper u ▹ sign symbol.LeftBrace ▹ fields (xs) (sign symbol.RightBrace ▹ End))) (fields_are fs)

folded_ScopeCall : (p : Pos) (u : Name) (fs : List SurfaceField) (w : Name) → phrase (node.ScopeCall p u fs w) ≡ Row
    (of_level 9) (pair_at pair.OutputOf p ▹ upper u ▹ «word» key.With ▹ sign symbol.LeftBrace ▹ fields (map field fs)
    (sign symbol.RightBrace ▹ sign symbol.Dot ▹ lower w ▹ End))
unfolding phrase
folded_ScopeCall p u fs w = search (
  rules,
  node.the_lemmas,
  fold_out-Node Phrase (Pattern × Phrase) (Name × Phrase)
      phrase_step arm_step field_step,
)

pub phrase_ScopeCall : (p : Pos) (u : Name) (fs : List SurfaceField) (w : Name) → phrase (node.ScopeCall p u fs w) ≡ Row
    (of_level 9) (pair_at pair.OutputOf p ▹ upper u ▹ «word» key.With ▹ sign symbol.LeftBrace ▹ fields
    (map field_row fs)
    (sign symbol.RightBrace ▹ sign symbol.Dot ▹ lower w ▹ End))
phrase_ScopeCall p u fs w = folded_ScopeCall p u fs w
    ∙ ap (λ (xs : List (Name × Phrase)). Row (of_level 9) (pair_at pair.OutputOf p ▹ upper u ▹ «word» key.With ▹ sign
    symbol.LeftBrace ▹ fields (xs) (sign symbol.RightBrace ▹ sign symbol.Dot ▹ lower w ▹ End))) (fields_are fs)

pub phrase_If : (p : Pos) (c t e : Node) → phrase (node.If p c t e) ≡ Row form
    (key_at key.If p ▹ part 0 (phrase c) ▹ «word» key.Then ▹ part 0 (phrase t) ▹ «word» key.Else ▹ part 0 (phrase e) ▹
    End)
unfolding phrase
phrase_If p c t e = search (
  rules,
  node.the_lemmas,
  fold_out-Node Phrase (Pattern × Phrase) (Name × Phrase) phrase_step
      arm_step field_step,
)

folded_Match : (p : Pos) (e : Node) (more : List SurfaceArm) → phrase (node.Match p e more)
    ≡ Row (match_of (map arm more))
    (key_at key.Match p ▹ part 0 (phrase e) ▹ words pair.WithPattern ▹ arms (map arm more))
unfolding phrase
folded_Match p e more = search (
  rules,
  node.the_lemmas,
  fold_out-Node Phrase (Pattern × Phrase) (Name × Phrase)
      phrase_step arm_step field_step,
)

pub phrase_Match : (p : Pos) (e : Node) (more : List SurfaceArm) → phrase (node.Match p e more) ≡ Row
    (match_of (map arm_row more)) (key_at key.Match p ▹ part 0 (phrase e) ▹ words pair.WithPattern ▹ arms
    (map arm_row more))
phrase_Match p e more = folded_Match p e more
    ∙ ap (λ (xs : List (Pattern × Phrase)). Row (match_of (xs))
    (key_at key.Match p ▹ part 0 (phrase e) ▹ words pair.WithPattern ▹ arms (xs))) (arms_are more)

pub phrase_Each : (k : Each) (p : Pos) (w : Name) (l e : Node) → phrase (node.Each k p w l e) ≡ Row form
    (each_parts k p w (phrase l) (phrase e))
unfolding phrase
phrase_Each k p w l e = search (
  rules,
  node.the_lemmas,
  fold_out-Node Phrase (Pattern × Phrase) (Name × Phrase)
      phrase_step arm_step field_step,
)

pub phrase_Combine : (p : Pos) (w : Name) (l : Node) (acc : Name) (s e : Node)
    → phrase (node.Combine (accumulation p w acc) l s e)
    ≡ Row form (pair_at pair.CombineAll p ▹ lower w ▹ «word» key.Among ▹ part 0 (phrase l) ▹ «word» key.In ▹ lower acc ▹
    «word» key.Initially ▹ part 0 (phrase s) ▹ «word» key.With ▹ part 0 (phrase e) ▹ End)
unfolding phrase
phrase_Combine p w l acc s e = search (
  rules,
  node.the_lemmas,
  fold_out-Node Phrase (Pattern × Phrase) (Name × Phrase)
      phrase_step arm_step field_step,
)

pub ruleset phrases = (
  phrase_Literal,
  phrase_Name,
  phrase_Case,
  phrase_Parens,
  phrase_Field,
  phrase_Prefixed,
  phrase_Sum,
  phrase_Content,
  phrase_Call,
  phrase_Binary,
  phrase_Test,
  phrase_List,
  phrase_Structure,
  phrase_ScopeCall,
  phrase_If,
  phrase_Match,
  phrase_Each,
  phrase_Combine,
)
