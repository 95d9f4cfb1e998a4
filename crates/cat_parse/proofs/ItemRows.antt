-- The reader of declarations and scope blocks is right, where that of expressions is.
use Rattle.std.proofs.Common.{◌≡◌, ℕ, Bool, true, false, List, [], ◌∷◌, ◌++◌, refl, sym, ap, subst, ◌∙◌, inl, inr, ◌⊎◌}
use Rattle.cat_lex.specs.declared.token.TokenKind.TheVariants as kind
use Rattle.cat_lex.specs.declared.words.Keyword.TheVariants as key
use Rattle.cat_lex.specs.declared.symbol.Symbol.TheVariants as symbol
use Rattle.cat_tree.specs.declared.program.Variable.TheVariants as variable
use Rattle.cat_tree.specs.declared.program.Item.TheVariants as item
use Rattle.cat_parse_expr.specs.declared.cue.Cue.TheVariants as cue
use Rattle.cat_parse.proofs.Common.{Pos, Token, TokenKind, Keyword, Name, Node, FieldItem, CaseItem, Input, InputOutput}
use Rattle.cat_parse.proofs.Common.{Output, Internal, Context, ContextOutput, Variable, Block, Item, Parts, Word, At}
use Rattle.cat_parse.proofs.Common.{Anywhere, AreSpelled, ◌▸◌, all, field_parts, case_parts, variable_parts}
use Rattle.cat_parse.proofs.Common.{block_parts, item_parts, is_filled, condition_parts, use_parts, Reader, ◌⨟◌, pure}
use Rattle.cat_parse.proofs.Common.{heads, cue_self, many, some, IsRightTo, is_word, is_content, field, a_case}
use Rattle.cat_parse.proofs.Common.{a_variable, is_item, named, is_variable, is_dashes, Declared, Structures}
use Rattle.cat_parse.proofs.Common.{Enumerations, Scopes, declared, item_of, declaration, an_item, ReadsExpressionsTo}
use Rattle.cat_parse.proofs.Choices.{Opens, made_right, choice_right, opens_word}
use Rattle.cat_parse.proofs.Leaves.{word_right, word_at_right, upper_right}
use Rattle.cat_parse.proofs.Last.{last_right}
use Rattle.cat_parse.proofs.Lists.{AllFit, many_right}
use Rattle.cat_parse.proofs.Listed.{any_word, SomeFit, some_right}
use Rattle.cat_parse.proofs.Declarations.{Any, field_right, case_right}
use Rattle.cat_parse.proofs.Variables.{behind_variable, variable_right}
use Rattle.cat_parse.proofs.Leads.{any_list}
use Rattle.cat_parse.proofs.BlockRows.{head_at, block_right}

-- ---- what is declared

item_no_data : (k : TokenKind) → is_item k ≡ true → is_word key.Data k ≡ false
item_no_data (kind.Word key.Declaration) e = refl
item_no_data (kind.Word key.Scope) e = refl
item_no_data _ e = absurd cc

fields_right : (limit bound : ℕ) → IsRightTo limit bound is_item (SomeFit Any) (all field_parts)
    (some (is_word key.Data) field)
fields_right limit bound =
    some_right limit is_item any_word (is_word key.Data) Any field_parts field
    (opens_word refl) item_no_data (λ k e. refl) (λ k e. refl)
    (λ b. field_right limit b any_word) bound

-- what may follow a case
abbrev pub behind_case : TokenKind → Bool
behind_case (kind.Symbol s) = true
behind_case (kind.Word key.Declaration) = true
behind_case (kind.Word key.Scope) = true
behind_case _ = false

pub case_no_content : (k : TokenKind) → behind_case k ≡ true → is_content k ≡ false
case_no_content (kind.Symbol s) e = refl
case_no_content (kind.Word key.Declaration) e = refl
case_no_content (kind.Word key.Scope) e = refl
case_no_content _ e = absurd cc

item_no_dashes : (k : TokenKind) → is_item k ≡ true → is_dashes k ≡ false
item_no_dashes (kind.Word key.Declaration) e = refl
item_no_dashes (kind.Word key.Scope) e = refl
item_no_dashes _ e = absurd cc

dashes_case : (k : TokenKind) → is_dashes k ≡ true → behind_case k ≡ true
dashes_case (kind.Symbol s) e = refl
dashes_case _ e = absurd cc

item_case : (k : TokenKind) → is_item k ≡ true → behind_case k ≡ true
item_case (kind.Word key.Declaration) e = refl
item_case (kind.Word key.Scope) e = refl
item_case _ e = absurd cc

cases_right : (limit bound : ℕ) → IsRightTo limit bound is_item (SomeFit Any) (all case_parts) (some is_dashes a_case)
cases_right limit bound =
    some_right limit is_item behind_case is_dashes Any case_parts a_case
    (opens_word (cue_self (cue.Sign symbol.MinusMinus))) item_no_dashes dashes_case item_case
    (λ b. case_right limit b behind_case case_no_content) bound

pub variable_opens : Opens is_variable Any variable_parts
variable_opens = record { at = λ y w v f s. by y w v s }
  where
    by : (y : Variable) (w v : List Token) → AreSpelled (variable_parts y) w → heads is_variable (w ++ v) ≡ true
    by (variable.Called n u) w v s =
        ap (λ (x : List Token). heads is_variable (x ++ v)) s.2 ∙ ap (λ (t : Token). is_variable t.kind) s.3
    by (variable.Own Input p n t ps) w v s =
        ap (λ (x : List Token). heads is_variable (x ++ v)) s.2 ∙ ap (λ (t : Token). is_variable t.kind) s.3
    by (variable.Own InputOutput p n t ps) w v s =
        ap (λ (x : List Token). heads is_variable (x ++ v)) s.2 ∙ ap (λ (t : Token). is_variable t.kind) s.3
    by (variable.Own Output p n t ps) w v s =
        ap (λ (x : List Token). heads is_variable (x ++ v)) s.2 ∙ ap (λ (t : Token). is_variable t.kind) s.3
    by (variable.Own Internal p n t ps) w v s =
        ap (λ (x : List Token). heads is_variable (x ++ v)) s.2 ∙ ap (λ (t : Token). is_variable t.kind) s.3
    by (variable.Own Context p n t ps) w v s =
        ap (λ (x : List Token). heads is_variable (x ++ v)) s.2 ∙ ap (λ (t : Token). is_variable t.kind) s.3
    by (variable.Own ContextOutput p n t ps) w v s =
        ap (λ (x : List Token). heads is_variable (x ++ v)) s.2 ∙ ap (λ (t : Token). is_variable t.kind) s.3

item_no_variable : (k : TokenKind) → is_item k ≡ true → is_variable k ≡ false
item_no_variable (kind.Word key.Declaration) e = refl
item_no_variable (kind.Word key.Scope) e = refl
item_no_variable _ e = absurd cc

variable_behind : (k : TokenKind) → is_variable k ≡ true → behind_variable k ≡ true
variable_behind (kind.Symbol s) e = absurd cc
variable_behind (kind.Pair d) e = absurd cc
variable_behind _ e = refl

item_variable : (k : TokenKind) → is_item k ≡ true → behind_variable k ≡ true
item_variable (kind.Symbol s) e = absurd cc
item_variable (kind.Pair d) e = absurd cc
item_variable _ e = refl

variables_right : (limit bound : ℕ) → IsRightTo limit bound is_item (AllFit Any) (all variable_parts)
    (many is_variable a_variable)
variables_right limit bound =
    many_right limit is_item behind_variable is_variable Any variable_parts a_variable variable_opens
    item_no_variable variable_behind item_variable (variable_right limit) bound

-- ---- a declaration

abbrev named_row : {A : Type 0} → Keyword → (A → Parts) → Name × A → Parts
named_row k row x =
    Word (Anywhere (kind.Word k))
    (Word (At (kind.Upper x.0.text) x.0.pos) (Word (Anywhere (kind.Symbol symbol.Colon)) (row x.1)))

named_right : {A : Type 0} (limit bound : ℕ) (out : TokenKind → Bool) (k : Keyword) (fits : A → Type 0)
    (row : A → Parts)
    (r : Reader A) → IsRightTo limit bound out fits row r → IsRightTo limit bound out (λ x. fits x.1) (named_row k row)
    (named k r)
named_right {A = A} limit bound out k fits row r right =
    word_right (cue.Word k) λ p.
    upper_right (λ x. x.0) λ u.
    word_right (cue.Sign symbol.Colon) λ q.
    last_right (λ x. x.1) row right (record {
      to = λ x f. (f, refl);
      from = λ x f. f.0;
      back = λ x. refl;
      only = λ x f. ap (λ (n : Name). (n, x.1)) f.1;
    })

abbrev IsStructure : Declared → Type 0
IsStructure d = (x : Name × List FieldItem) × SomeFit Any x.1 × (d ≡ Structures x)

abbrev IsEnumeration : Declared → Type 0
IsEnumeration d = (x : Name × List CaseItem) × SomeFit Any x.1 × (d ≡ Enumerations x)

abbrev IsScope : Declared → Type 0
IsScope d = (x : Name × List Variable) × AllFit Any x.1 × (d ≡ Scopes x)

abbrev NoStructure : Declared → Type 0
NoStructure d = IsEnumeration d ⊎ IsScope d

abbrev IsDeclared : Declared → Type 0
IsDeclared d = IsStructure d ⊎ NoStructure d

abbrev declared_row : Declared → Parts
declared_row (Structures x) = named_row key.Structure (all field_parts) x
declared_row (Enumerations x) = named_row key.Enumeration (all case_parts) x
declared_row (Scopes x) = named_row key.Scope (all variable_parts) x

structure_head : (test : TokenKind → Bool) (d : Declared) (w v : List Token) → IsStructure d
    → AreSpelled (declared_row d) w → heads test (w ++ v) ≡ test (kind.Word key.Structure)
structure_head test d w v f s =
    let t =
    subst (λ (z : Declared). AreSpelled (declared_row z) w) f.2 s in ap (λ (x : List Token). heads test (x ++ v)) t.2
    ∙ ap test t.3

enumeration_head : (test : TokenKind → Bool) (d : Declared) (w v : List Token) → IsEnumeration d
    → AreSpelled (declared_row d) w → heads test (w ++ v) ≡ test (kind.Word key.Enumeration)
enumeration_head test d w v f s =
    let t =
    subst (λ (z : Declared). AreSpelled (declared_row z) w) f.2 s in ap (λ (x : List Token). heads test (x ++ v)) t.2
    ∙ ap test t.3

scope_head : (test : TokenKind → Bool) (d : Declared) (w v : List Token) → IsScope d → AreSpelled (declared_row d) w
    → heads test (w ++ v) ≡ test (kind.Word key.Scope)
scope_head test d w v f s =
    let t =
    subst (λ (z : Declared). AreSpelled (declared_row z) w) f.2 s in ap (λ (x : List Token). heads test (x ++ v)) t.2
    ∙ ap test t.3

abbrev structures : Reader Declared
structures = named key.Structure (some (is_word key.Data) field) ⨟ λ x. pure (Structures x)

abbrev enumerations : Reader Declared
enumerations = named key.Enumeration (some is_dashes a_case) ⨟ λ x. pure (Enumerations x)

abbrev scopes : Reader Declared
scopes = named key.Scope (many is_variable a_variable) ⨟ λ x. pure (Scopes x)

declared_right : (limit bound : ℕ) → IsRightTo limit bound is_item IsDeclared declared_row declared
declared_right limit bound =
    choice_right IsStructure NoStructure (record {
      either = λ d f. f;
      from_yes = λ d f. inl f;
      from_no = λ d f. inr f;
      on = λ d w v f s o. structure_head (is_word key.Structure) d w v f s;
      off = λ d w v f s o. off d w v f s;
    }) (made_right (λ x. SomeFit Any x.1) (named_row key.Structure (all field_parts)) (λ x. refl)
    (named_right limit bound is_item key.Structure (SomeFit Any) (all field_parts) (some (is_word key.Data) field)
    (fields_right limit bound))) (choice_right IsEnumeration IsScope (record {
      either = λ d f. f;
      from_yes = λ d f. inl f;
      from_no = λ d f. inr f;
      on = λ d w v f s o. enumeration_head (is_word key.Enumeration) d w v f s;
      off = λ d w v f s o. scope_head (is_word key.Enumeration) d w v f s;
    }) (made_right (λ x. SomeFit Any x.1) (named_row key.Enumeration (all case_parts)) (λ x. refl)
    (named_right limit bound is_item key.Enumeration (SomeFit Any) (all case_parts) (some is_dashes a_case)
    (cases_right limit bound)))
    (made_right (λ x. AllFit Any x.1) (named_row key.Scope (all variable_parts)) (λ x. refl)
    (named_right limit bound is_item key.Scope (AllFit Any) (all variable_parts) (many is_variable a_variable)
    (variables_right limit bound))))
  where
    off : (d : Declared) (w v : List Token) → NoStructure d → AreSpelled (declared_row d) w
        → heads (is_word key.Structure) (w ++ v) ≡ false
    off d w v (inl f) s = enumeration_head (is_word key.Structure) d w v f s
    off d w v (inr f) s = scope_head (is_word key.Structure) d w v f s

abbrev declaration_row : Pos × Declared → Parts
declaration_row x = Word (At (kind.Word key.Declaration) x.0) (declared_row x.1)

declaration_right : (limit bound : ℕ) → IsRightTo limit bound is_item (λ x. IsDeclared x.1) declaration_row declaration
declaration_right limit bound =
    word_at_right (cue.Word key.Declaration) λ p.
    last_right (λ x. x.1) declared_row (declared_right limit bound) (record {
      to = λ x f. (f, refl);
      from = λ x f. f.0;
      back = λ x. refl;
      only = λ x f. ap (λ (q : Pos). (q, x.1)) f.1;
    })

-- ---- an item

abbrev pub Filled : Item → Type 0
Filled i = is_filled i ≡ true

abbrev IsDeclaration : Item → Type 0
IsDeclaration i = (x : Pos × Declared) × IsDeclared x.1 × (i ≡ item_of x)

abbrev IsBlock : Item → Type 0
IsBlock i = (b : Block) × Any b × (i ≡ item.Block b)

item_rows : (x : Pos × Declared) → item_parts (item_of x) ≡ declaration_row x
item_rows (p, Structures x) = refl
item_rows (p, Enumerations x) = refl
item_rows (p, Scopes x) = refl

filled_declared : (d : Declared) (p : Pos) → IsDeclared d → Filled (item_of (p, d))
filled_declared d p (inl f) = subst (λ (z : Declared). Filled (item_of (p, z))) (sym f.2) (by f.0 f.1)
  where
    by : (x : Name × List FieldItem) → SomeFit Any x.1 → Filled (item.Structure p x.0 x.1)
    by x g = subst (λ (fs : List FieldItem). Filled (item.Structure p x.0 fs)) (sym g.2) refl
filled_declared d p (inr (inl f)) = subst (λ (z : Declared). Filled (item_of (p, z))) (sym f.2) (by f.0 f.1)
  where
    by : (x : Name × List CaseItem) → SomeFit Any x.1 → Filled (item.Enumeration p x.0 x.1)
    by x g = subst (λ (fs : List CaseItem). Filled (item.Enumeration p x.0 fs)) (sym g.2) refl
filled_declared d p (inr (inr f)) = subst (λ (z : Declared). Filled (item_of (p, z))) (sym f.2) refl

either_item : (i : Item) → Filled i → IsDeclaration i ⊎ IsBlock i
either_item (item.Structure p u []) f = let e : false ≡ true = f in absurd cc
either_item (item.Structure p u (x ∷ xs)) f =
    inl ((p, Structures (u, x ∷ xs)), inl ((u, x ∷ xs), ((x, xs), (tt, any_list xs), refl), refl), refl)
either_item (item.Enumeration p u []) f = let e : false ≡ true = f in absurd cc
either_item (item.Enumeration p u (x ∷ xs)) f =
    inl ((p, Enumerations (u, x ∷ xs)), inr (inl ((u, x ∷ xs), ((x, xs), (tt, any_list xs), refl), refl)), refl)
either_item (item.Scope p u xs) f = inl ((p, Scopes (u, xs)), inr (inr ((u, xs), any_list xs, refl)), refl)
either_item (item.Block b) f = inr (b, tt, refl)

declaration_head : (test : TokenKind → Bool) (i : Item) (w v : List Token) → IsDeclaration i
    → AreSpelled (item_parts i) w → heads test (w ++ v) ≡ test (kind.Word key.Declaration)
declaration_head test i w v f s =
    head_at test (kind.Word key.Declaration) f.0.0 (declared_row f.0.1) w v
    (subst (λ (ps : Parts). AreSpelled ps w) (ap item_parts f.2 ∙ item_rows f.0) s)

block_head : (test : TokenKind → Bool) (i : Item) (w v : List Token) → IsBlock i → AreSpelled (item_parts i) w
    → heads test (w ++ v) ≡ test (kind.Word key.Scope)
block_head test i w v f s =
    head_at test (kind.Word key.Scope) f.0.pos
    (Word (At (kind.Upper f.0.name.text) f.0.name.pos)
    (condition_parts f.0.condition ▸ Word (Anywhere (kind.Symbol symbol.Colon)) (all use_parts f.0.uses))) w v
    (subst (λ (z : Item). AreSpelled (item_parts z) w) f.2 s)

pub item_opens : Opens is_item Filled item_parts
item_opens = record { at = λ i w v f s. by i w v (either_item i f) s }
  where
    by : (i : Item) (w v : List Token) → IsDeclaration i ⊎ IsBlock i → AreSpelled (item_parts i) w
        → heads is_item (w ++ v) ≡ true
    by i w v (inl f) s = declaration_head is_item i w v f s
    by i w v (inr f) s = block_head is_item i w v f s

pub item_right : (limit : ℕ) (ex : Reader Node) → ReadsExpressionsTo limit ex → (bound : ℕ)
    → IsRightTo limit bound is_item Filled item_parts (an_item ex)
item_right limit ex right bound =
    choice_right IsDeclaration IsBlock (record {
      either = λ i f. either_item i f;
      from_yes = λ i f. subst Filled (sym f.2) (filled_declared f.0.1 f.0.0 f.1);
      from_no = λ i f. subst Filled (sym f.2) refl;
      on = λ i w v f s o. declaration_head (is_word key.Declaration) i w v f s;
      off = λ i w v f s o. block_head (is_word key.Declaration) i w v f s;
    }) (made_right (λ x. IsDeclared x.1) declaration_row item_rows (declaration_right limit bound))
    (made_right Any block_parts (λ b. refl) (block_right limit ex right bound))
