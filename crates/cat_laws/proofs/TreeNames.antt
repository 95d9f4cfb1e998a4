-- The names that stand in trees.
use Rattle.std.proofs.Common.{IsTrue, List, [], ◌∷◌, subst}
use Rattle.cat_scope.specs.Names.{AllHave}
use Rattle.cat_lex.specs.declared.token.Token.{Token}
use Rattle.cat_tree.specs.declared.name.Name.{Name}
use Rattle.cat_tree.specs.declared.program.Item.{Item}
use Rattle.cat_tree.specs.declared.program.Item.TheVariants as item
use Rattle.cat_tree.specs.declared.program.Tree.{Tree}
use Rattle.cat_tree.specs.declared.program.Variable.{Variable}
use Rattle.cat_tree.specs.declared.program.Variable.TheVariants as variable
use Rattle.cat_tree.specs.Phrase.{Terminal, At, Anywhere, Parts, End, Word, Part, IsAt, AreSpelled}
use Rattle.cat_tree.specs.Wording.{◌▹◌, lower}
use Rattle.cat_tree.specs.Joined.{◌▸◌, all}
use Rattle.cat_tree.specs.Declarations.{kind_parts, params_parts, variable_parts, variable_type_parts}
use Rattle.cat_tree.specs.Programs.{SpellsProgram, item_parts}
use Rattle.cat_names.specs.Written.{scopes_in}
use Rattle.cat_laws.specs.Unbroken.{is_unbroken}
use Rattle.cat_laws.proofs.TokenNames.{IsUnbrokenKind, IsUnbrokenToken, all_behind}

-- ---- rows

abbrev IsUnbrokenTerminal : Terminal → Type 0
IsUnbrokenTerminal (At k pos) = IsUnbrokenKind k
IsUnbrokenTerminal (Anywhere k) = IsUnbrokenKind k

-- the words of a row, without those of its parts
abbrev HaveUnbroken : Parts → Type 0
HaveUnbroken End = Unit {0}
HaveUnbroken (Word m ps) = IsUnbrokenTerminal m × HaveUnbroken ps
HaveUnbroken (Part s e ps) = HaveUnbroken ps

of_terminal : (m : Terminal) (t : Token) → IsAt m t → IsUnbrokenToken t → IsUnbrokenTerminal m
of_terminal (At k pos) t at h = subst IsUnbrokenToken at h
of_terminal (Anywhere k) t at h = subst IsUnbrokenKind at h

of_row : (ps : Parts) (tokens : List Token) → AreSpelled ps tokens → AllHave IsUnbrokenToken tokens → HaveUnbroken ps
of_row End tokens are h = tt
of_row (Word m ps) tokens are h =
    let these = subst (AllHave IsUnbrokenToken) are.2 h in
    (of_terminal m are.0 are.3 these.0, of_row ps are.1 are.4 these.1)
of_row (Part s e ps) tokens are h =
    of_row ps are.1 are.4 (all_behind IsUnbrokenToken are.0 are.1 (subst (AllHave IsUnbrokenToken) are.2 h))

in_front : (ps qs : Parts) → HaveUnbroken (ps ▸ qs) → HaveUnbroken ps
in_front End qs h = tt
in_front (Word m ps) qs h = (h.0, in_front ps qs h.1)
in_front (Part s e ps) qs h = in_front ps qs h

in_back : (ps qs : Parts) → HaveUnbroken (ps ▸ qs) → HaveUnbroken qs
in_back End qs h = h
in_back (Word m ps) qs h = in_back ps qs h.1
in_back (Part s e ps) qs h = in_back ps qs h

of_all : {A : Type 0} (row : A → Parts) (xs : List A) → HaveUnbroken (all row xs)
    → AllHave (λ x. HaveUnbroken (row x)) xs
of_all row [] h = tt
of_all row (x ∷ xs) h = (in_front (row x) (all row xs) h, of_all row xs (in_back (row x) (all row xs) h))

-- ---- scopes and their variables

-- the name of a variable
abbrev pub name_of : Variable → Name
name_of (variable.Own k p w t params) = w
name_of (variable.Called w u) = w

abbrev pub IsUnbrokenVariable : Variable → Type 0
IsUnbrokenVariable v = IsTrue (is_unbroken (name_of v).text)

abbrev pub IsUnbrokenScope : Name × List Variable → Type 0
IsUnbrokenScope s = IsTrue (is_unbroken s.0.text) × AllHave IsUnbrokenVariable s.1

of_variable : (v : Variable) → HaveUnbroken (variable_parts v) → IsUnbrokenVariable v
of_variable (variable.Own k p w t params) h =
    (in_back (kind_parts k p) (lower w ▹ variable_type_parts t ▸ params_parts params) h).0
of_variable (variable.Called w u) h = h.0

of_variables : (vs : List Variable) → AllHave (λ v. HaveUnbroken (variable_parts v)) vs → AllHave IsUnbrokenVariable vs
of_variables [] h = tt
of_variables (v ∷ vs) h = (of_variable v h.0, of_variables vs h.1)

of_items : (items : List Item) → AllHave (λ i. HaveUnbroken (item_parts i)) items
    → AllHave IsUnbrokenScope (scopes_in items)
of_items [] h = tt
of_items (item.Structure p u fields ∷ more) h = of_items more h.1
of_items (item.Enumeration p u cases ∷ more) h = of_items more h.1
of_items (item.Scope p u variables ∷ more) h = (
  (h.0.1.1.0, of_variables variables (of_all variable_parts variables h.0.1.1.1.1)),
  of_items more h.1,
)
of_items (item.Block b ∷ more) h = of_items more h.1

-- the scopes of a tree whose tokens have such names
pub of_tree : (tree : Tree) (tokens : List Token) → SpellsProgram tree tokens → AllHave IsUnbrokenToken tokens
    → AllHave IsUnbrokenScope (scopes_in tree.items)
of_tree tree tokens spells h =
    of_items tree.items (of_all item_parts tree.items (of_row (all item_parts tree.items) tokens spells.words h))
