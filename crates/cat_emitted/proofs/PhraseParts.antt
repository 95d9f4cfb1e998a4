-- What phrases of expressions have of files, their parts have: one lemma a kind of row.
use Rattle.std.proofs.Common.{ℕ, zero, suc, List, [], ◌∷◌, map, Some, None}
use Rattle.cat_pos.specs.declared.pos.Pos.{Pos}
use Rattle.cat_pos.specs.Position.{pos_file}
use Rattle.cat_lex.specs.declared.symbol.Symbol.{Symbol}
use Rattle.cat_lex.specs.declared.words.Keyword.TheVariants as key
use Rattle.cat_tree.specs.declared.name.Name.{Name}
use Rattle.cat_tree.specs.declared.name.CaseName.{CaseName}
use Rattle.cat_tree.specs.declared.name.CaseName.TheVariants.{Bare, Qualified}
use Rattle.cat_tree.specs.declared.name.Type as types
use Rattle.cat_tree.specs.declared.expression.Each.{Each as Kind}
use Rattle.cat_tree.specs.declared.expression.Each.TheVariants as each
use Rattle.cat_tree.specs.declared.expression.Prefix.{Prefix}
use Rattle.cat_tree.specs.declared.expression.Prefix.TheVariants as prefix
use Rattle.cat_tree.specs.declared.expression.Pattern.{Pattern}
use Rattle.cat_tree.specs.declared.expression.Pattern.TheVariants as pattern
use Rattle.cat_tree.specs.declared.expression.Node.{Node}
use Rattle.cat_tree.specs.declared.expression.SurfaceField.{SurfaceField}
use Rattle.cat_tree.specs.declared.expression.SurfaceArm.{SurfaceArm}
use Rattle.cat_tree.specs.Phrase.{Phrase, Parts}
use Rattle.cat_tree.specs.Wording.{◌▹◌, «word», lower}
use Rattle.cat_tree.specs.Literals.{case_parts, lists_of, type_parts}
use Rattle.cat_tree.specs.Operators.{prefix_parts}
use Rattle.cat_tree.specs.Rows.{fields, arms, elements, each_parts, pattern_parts}
use Rattle.cat_tree.specs.Grammar.{phrase}
use Rattle.cat_tree.proofs.Exported.{arm_row, field_row}
use Rattle.cat_scope.proofs.Exported.{Each}
use Rattle.cat_emitted.proofs.TreePositions.{HasFiles, HaveFiles}

module _ (Q : ℕ → Type 0) where
  pub case_rest : (c : CaseName) (rest : Parts) → HaveFiles Q (case_parts c rest) → HaveFiles Q rest
  case_rest (Bare c) rest h = h.1
  case_rest (Qualified e c) rest h = h.1.1

  pub prefix_files : (o : Prefix) (p : Pos) (rest : Parts) → HaveFiles Q (prefix_parts o p rest)
      → Q (pos_file p) × HaveFiles Q rest
  prefix_files prefix.Not p rest h = h
  prefix_files prefix.Negate p rest h = h
  prefix_files prefix.IntegerOf p rest h = h
  prefix_files prefix.DecimalOf p rest h = h
  prefix_files prefix.MoneyOf p rest h = h
  prefix_files prefix.RoundOf p rest h = h
  prefix_files prefix.GetYear p rest h = h
  prefix_files prefix.GetMonth p rest h = h
  prefix_files prefix.GetDay p rest h = h
  prefix_files prefix.NumberOf p rest h = h

  lists_rest : (n : ℕ) (rest : Parts) → HaveFiles Q (lists_of n rest) → HaveFiles Q rest
  lists_rest zero rest h = h
  lists_rest (suc n) rest h = lists_rest n rest h

  pub type_rest : (t : types.Type) (rest : Parts) → HaveFiles Q (type_parts t rest) → HaveFiles Q rest
  type_rest t rest h = (lists_rest t.lists _ h).1

  pattern_rest : (q : Pattern) (rest : Parts) → HaveFiles Q (pattern_parts q rest) → HaveFiles Q rest
  pattern_rest pattern.Anything rest h = h
  pattern_rest (pattern.Case c None) rest h = case_rest c rest h
  pattern_rest (pattern.Case c (Some w)) rest h = (case_rest c («word» key.Of ▹ lower w ▹ rest) h).1

  pub elements_files : (k : ℕ) (s : Symbol) (es : List Node) (rest : Parts)
      → HaveFiles Q (elements k s (map phrase es) rest)
      → Each (λ e. HasFiles Q (phrase e)) es × HaveFiles Q rest
  elements_files k s [] rest h = (tt, h)
  elements_files k s (e ∷ []) rest h = ((h.0, tt), h.1)
  elements_files k s (e ∷ f ∷ more) rest h =
      let later = elements_files k s (f ∷ more) rest h.1 in ((h.0, later.0), later.1)

  pub fields_files : (fs : List SurfaceField) (rest : Parts) → HaveFiles Q (fields (map field_row fs) rest)
      → Each (λ f. HasFiles Q (phrase f.value)) fs × HaveFiles Q rest
  fields_files [] rest h = (tt, h)
  fields_files (f ∷ fs) rest h = let later = fields_files fs rest h.1.1 in ((h.1.0, later.0), later.1)

  pub arms_files : (more : List SurfaceArm) → HaveFiles Q (arms (map arm_row more))
      → Each (λ a. HasFiles Q (phrase a.body)) more
  arms_files [] h = tt
  arms_files (a ∷ []) h = ((pattern_rest a.pattern _ h).0, tt)
  arms_files (a ∷ b ∷ more) h =
      let rest = pattern_rest a.pattern _ h in (rest.0, arms_files (b ∷ more) rest.1)

  pub each_files : (k : Kind) (p : Pos) (w : Name) (l e : Phrase) → HaveFiles Q (each_parts k p w l e)
      → HasFiles Q l × HasFiles Q e
  each_files each.ForAll p w l e h = (h.1.1.0, h.1.1.1.0)
  each_files each.Exists p w l e h = (h.1.1.0, h.1.1.1.0)
  each_files each.MapEach p w l e h = (h.1.1.0, h.1.1.1.0)
  each_files each.ListOf p w l e h = (h.1.1.0, h.1.1.1.0)
