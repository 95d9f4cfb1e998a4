-- What holds of each token of a tree holds of the names that it declares: they are spelled as names are.
use Rattle.std.proofs.Common.{List, [], ◌∷◌, subst}
use Rattle.cat_lex.specs.declared.token.Token.{Token}
use Rattle.cat_lex.specs.declared.token.TokenKind.TheVariants as kind
use Rattle.cat_tree.specs.declared.name.Name.{Name}
use Rattle.cat_tree.specs.declared.program.FieldItem.{FieldItem}
use Rattle.cat_tree.specs.declared.program.CaseItem.{CaseItem}
use Rattle.cat_tree.specs.declared.program.Variable.{Variable}
use Rattle.cat_tree.specs.declared.program.Variable.TheVariants as variable
use Rattle.cat_tree.specs.declared.program.Item.{Item}
use Rattle.cat_tree.specs.declared.program.Item.TheVariants as item
use Rattle.cat_tree.specs.declared.program.Tree.{Tree}
use Rattle.cat_tree.specs.Phrase.{Parts, End, Word, Part, At, Anywhere, AreSpelled}
use Rattle.cat_tree.specs.Joined.{◌▸◌, all}
use Rattle.cat_tree.specs.Declarations.{field_parts, case_parts, kind_parts, variable_parts, variable_type_parts}
use Rattle.cat_tree.specs.Declarations.{params_parts}
use Rattle.cat_tree.specs.Wording.{◌▹◌, lower}
use Rattle.cat_tree.specs.Programs.{item_parts, program_parts, SpellsProgram}
use Rattle.cat_scope.specs.Names.{AllHave}
use Rattle.cat_names.specs.DeclarationFaults.{variable_name}
use Rattle.cat_emitted.proofs.ListFacts.{all_right}
use Rattle.cat_emitted.proofs.TokenNames.{IsNamedFairly, AreNamedFairly}

-- ---- the words of a row

-- a name as a token
abbrev pub lower_token : Name → Token
lower_token w = record { kind = kind.Lower w.text; pos = w.pos }

abbrev pub upper_token : Name → Token
upper_token w = record { kind = kind.Upper w.text; pos = w.pos }

-- what holds of each token holds of each name that is declared
module _ (P : Token → Type 0) where
  -- it holds of the tokens that a row keeps
  abbrev Keeps : Parts → Type 0
  Keeps End = Unit {0}
  Keeps (Word (At k at) ps) = P (record { kind = k; pos = at }) × Keeps ps
  Keeps (Word (Anywhere k) ps) = Keeps ps
  Keeps (Part s e ps) = Keeps ps

  keeps_all : (ps : Parts) (tokens : List Token) → AreSpelled ps tokens → AllHave P tokens → Keeps ps
  keeps_all End tokens are every = tt
  keeps_all (Word (At k at) ps) tokens are every =
      let own = subst (AllHave P) are.2 every in (subst P are.3 own.0, keeps_all ps are.1 are.4 own.1)
  keeps_all (Word (Anywhere k) ps) tokens are every =
      keeps_all ps are.1 are.4 (subst (AllHave P) are.2 every).1
  keeps_all (Part s e ps) tokens are every =
      keeps_all ps are.1 are.4 (all_right P are.0 are.1 (subst (AllHave P) are.2 every))

  keeps_front : (ps qs : Parts) → Keeps (ps ▸ qs) → Keeps ps
  keeps_front End qs h = tt
  keeps_front (Word (At k at) ps) qs h = (h.0, keeps_front ps qs h.1)
  keeps_front (Word (Anywhere k) ps) qs h = keeps_front ps qs h
  keeps_front (Part s e ps) qs h = keeps_front ps qs h

  keeps_back : (ps qs : Parts) → Keeps (ps ▸ qs) → Keeps qs
  keeps_back End qs h = h
  keeps_back (Word (At k at) ps) qs h = keeps_back ps qs h.1
  keeps_back (Word (Anywhere k) ps) qs h = keeps_back ps qs h
  keeps_back (Part s e ps) qs h = keeps_back ps qs h

  -- ---- declarations

  fields_kept : (fields : List FieldItem) → Keeps (all field_parts fields)
      → AllHave (λ f. P (lower_token f.name)) fields
  fields_kept [] h = tt
  fields_kept (f ∷ more) h = (
    (keeps_front (field_parts f) (all field_parts more) h).0,
    fields_kept more (keeps_back (field_parts f) (all field_parts more) h),
  )

  cases_kept : (cases : List CaseItem) → Keeps (all case_parts cases) → AllHave (λ c. P (upper_token c.name)) cases
  cases_kept [] h = tt
  cases_kept (c ∷ more) h = (
    (keeps_front (case_parts c) (all case_parts more) h).0,
    cases_kept more (keeps_back (case_parts c) (all case_parts more) h),
  )

  variable_kept : (v : Variable) → Keeps (variable_parts v) → P (lower_token (variable_name v))
  variable_kept (variable.Own k p w t params) h =
      (keeps_back (kind_parts k p) (lower w ▹ variable_type_parts t ▸ params_parts params) h).0
  variable_kept (variable.Called w u) h = h.0

  variables_kept : (variables : List Variable) → Keeps (all variable_parts variables)
      → AllHave (λ v. P (lower_token (variable_name v))) variables
  variables_kept [] h = tt
  variables_kept (v ∷ more) h = (
    variable_kept v (keeps_front (variable_parts v) (all variable_parts more) h),
    variables_kept more (keeps_back (variable_parts v) (all variable_parts more) h),
  )

  -- it holds of the names of a declaration
  abbrev pub IsKeptItem : Item → Type 0
  IsKeptItem (item.Structure p u fields) = P (upper_token u) × AllHave (λ f. P (lower_token f.name)) fields
  IsKeptItem (item.Enumeration p u cases) = P (upper_token u) × AllHave (λ c. P (upper_token c.name)) cases
  IsKeptItem (item.Scope p u variables) =
      P (upper_token u) × AllHave (λ v. P (lower_token (variable_name v))) variables
  IsKeptItem (item.Block b) = Unit {0}

  item_kept : (i : Item) → Keeps (item_parts i) → IsKeptItem i
  item_kept (item.Structure p u fields) h = (h.1.0, fields_kept fields h.1.1)
  item_kept (item.Enumeration p u cases) h = (h.1.0, cases_kept cases h.1.1)
  item_kept (item.Scope p u variables) h = (h.1.0, variables_kept variables h.1.1)
  item_kept (item.Block b) h = tt

  items_kept : (items : List Item) → Keeps (all item_parts items) → AllHave IsKeptItem items
  items_kept [] h = tt
  items_kept (i ∷ more) h = (
    item_kept i (keeps_front (item_parts i) (all item_parts more) h),
    items_kept more (keeps_back (item_parts i) (all item_parts more) h),
  )

  pub tree_kept : (tree : Tree) (tokens : List Token) → SpellsProgram tree tokens → AllHave P tokens
      → AllHave IsKeptItem tree.items
  tree_kept tree tokens spelled every =
      items_kept tree.items (keeps_all (program_parts tree) tokens spelled.words every)

-- ---- names

-- what is declared has names that are spelled as names are
abbrev pub IsFairItem : Item → Type 0
IsFairItem i = IsKeptItem (λ t. IsNamedFairly t.kind) i

pub tree_fair : (tree : Tree) (tokens : List Token) → SpellsProgram tree tokens → AreNamedFairly tokens
    → AllHave IsFairItem tree.items
tree_fair = tree_kept (λ t. IsNamedFairly t.kind)
