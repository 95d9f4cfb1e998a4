-- Worked examples: each form of a program with its tokens, and trees that no tokens spell.
use Rattle.std.proofs.Common.{◌≡◌, false, true, List, [], ◌∷◌, Some, None, refl, rules}
use Rattle.cat_pos.specs.declared.pos.Pos.{Pos}
use Rattle.cat_lex.specs.declared.token.Token.{Token}
use Rattle.cat_lex.specs.declared.words.Keyword.TheVariants as key
use Rattle.cat_lex.specs.declared.words.DoubleKeyword.TheVariants as pair
use Rattle.cat_lex.specs.declared.symbol.Symbol.TheVariants as symbol
use Rattle.cat_tree.specs.declared.name.Name.{Name}
use Rattle.cat_tree.specs.declared.name.Base.TheVariants as base
use Rattle.cat_tree.specs.declared.expression.Operator.TheVariants as op
use Rattle.cat_tree.specs.declared.expression.Node.TheViews as node
use Rattle.cat_tree.specs.declared.program.VariableKind.TheVariants as kinds
use Rattle.cat_tree.specs.declared.program.Exception.TheVariants as exception
use Rattle.cat_tree.specs.declared.program.Lead.{Lead}
use Rattle.cat_tree.specs.declared.program.TargetName.{TargetName}
use Rattle.cat_tree.specs.declared.program.Fulfilled.TheVariants as fulfilled
use Rattle.cat_tree.specs.declared.program.Use.{Use}
use Rattle.cat_tree.specs.declared.program.Use.TheVariants as uses
use Rattle.cat_tree.specs.declared.program.Variable.{Variable}
use Rattle.cat_tree.specs.declared.program.Variable.TheVariants as variable
use Rattle.cat_tree.specs.declared.program.Item.{Item}
use Rattle.cat_tree.specs.declared.program.Item.TheVariants as item
use Rattle.cat_tree.specs.declared.program.Tree.{Tree}
use Rattle.cat_tree.specs.Programs.{SpellsProgram, highest_in}
use Rattle.cat_tree.proofs.Along.{spells_program}
use Rattle.cat_tree.proofs.Equations.{phrases}
use Rattle.cat_tree.proofs.Samples.{name, type, «word», words, sign, local}

abbrev program : Item → Tree
program i = record { items = i ∷ [] }

abbrev scope_of : Pos → Name → Variable → Tree
scope_of p s v = program (item.Scope p s (v ∷ []))

abbrev block_of : Pos → Name → Use → Tree
block_of p s u = program (item.Block (record { pos = p; name = s; condition = None; uses = u ∷ [] }))

-- no tokens at all
nothing_is_a_program : SpellsProgram (record { items = [] }) []
nothing_is_a_program = spells_program _ _ refl (search rules) (search rules)

-- declaration structure U : data a content list of money
fields_have_types : (u a : Name) (p p1 p2 p3 p4 p5 p6 : Pos)
    → SpellsProgram
    (program (item.Structure p u (record { name = a; ty = record { lists = 1; base = base.Money; pos = p6 } } ∷ [])))
    («word» key.Declaration p ∷ «word» key.Structure p1 ∷ type u ∷ sign symbol.Colon p2 ∷ «word» key.Data p3 ∷ name a ∷
    «word» key.Content p4
    ∷ words pair.ListOf p5 ∷ «word» key.Money p6 ∷ [])
fields_have_types u a p p1 p2 p3 p4 p5 p6 = spells_program _ _ refl (search rules) (search rules)

-- declaration enumeration U : -- A -- B content boolean
cases_may_have_content : (u a b : Name) (p p1 p2 p3 p4 p5 p6 : Pos)
    → SpellsProgram (program (item.Enumeration p u (record { name = a; content = None }
    ∷ record { name = b; content = Some (record { lists = 0; base = base.Boolean; pos = p6 }) } ∷ [])))
    («word» key.Declaration p ∷ «word» key.Enumeration p1 ∷ type u ∷ sign symbol.Colon p2 ∷ sign symbol.MinusMinus p3 ∷
    type a
    ∷ sign symbol.MinusMinus p4 ∷ type b ∷ «word» key.Content p5 ∷ «word» key.Boolean p6 ∷ [])
cases_may_have_content u a b p p1 p2 p3 p4 p5 p6 = spells_program _ _ refl (search rules) (search rules)

-- declaration scope S : input output a content date
a_kind_may_be_two_words : (s a : Name) (p p1 p2 p3 p4 p5 p6 : Pos)
    → SpellsProgram
    (scope_of p s (variable.Own kinds.InputOutput p3 a (Some (record { lists = 0; base = base.Date; pos = p6 })) []))
    («word» key.Declaration p ∷ «word» key.Scope p1 ∷ type s ∷ sign symbol.Colon p2 ∷ «word» key.Input p3 ∷ «word»
    key.Output p4 ∷ name a
    ∷ «word» key.Content p5 ∷ «word» key.Date p6 ∷ [])
a_kind_may_be_two_words s a p p1 p2 p3 p4 p5 p6 = spells_program _ _ refl (search rules) (search rules)

-- declaration scope S : internal a condition depends on b content integer , c content T
parameters_have_types : (s a b c t : Name) (p p1 p2 p3 p4 p5 p6 p7 p8 p9 : Pos)
    → SpellsProgram
    (scope_of p s
    (variable.Own kinds.Internal p3 a None
    (record { name = b; ty = record { lists = 0; base = base.Integer; pos = p7 } }
    ∷ record { name = c; ty = record { lists = 0; base = base.Named t.text; pos = t.pos } } ∷ [])))
    («word» key.Declaration p ∷ «word» key.Scope p1 ∷ type s ∷ sign symbol.Colon p2 ∷ «word» key.Internal p3 ∷ name a ∷
    «word» key.Condition p4
    ∷ words pair.DependsOn p5 ∷ name b ∷ «word» key.Content p6 ∷ «word» key.Integer p7 ∷ sign symbol.Comma p8 ∷ name c ∷
    «word» key.Content p9 ∷ type t ∷ [])
parameters_have_types s a b c t p p1 p2 p3 p4 p5 p6 p7 p8 p9 = spells_program _ _ refl (search rules) (search rules)

-- declaration scope S : a scope T
a_variable_may_call_a_scope : (s a t : Name) (p p1 p2 p3 : Pos)
    → SpellsProgram (scope_of p s (variable.Called a t))
    («word» key.Declaration p ∷ «word» key.Scope p1 ∷ type s ∷ sign symbol.Colon p2 ∷ name a ∷ «word» key.Scope p3 ∷
    type t ∷ [])
a_variable_may_call_a_scope s a t p p1 p2 p3 = spells_program _ _ refl (search rules) (search rules)

-- scope S under condition a : assertion b
a_block_may_have_a_condition : (s a b : Name) (p p1 p2 p3 : Pos)
    → SpellsProgram
    (program (item.Block
    (record { pos = p; name = s; condition = Some (local a); uses = uses.Assertion p3 (local b) ∷ [] })))
    («word» key.Scope p ∷ type s ∷ words pair.UnderCondition p1 ∷ name a ∷ sign symbol.Colon p2 ∷ «word» key.Assertion
    p3 ∷ name b ∷ [])
a_block_may_have_a_condition s a b p p1 p2 p3 =
    spells_program _ _ refl (search (rules, phrases)) (search (rules, phrases))

-- scope S : label l exception m definition x . y of a , b under condition c consequence equals d
a_definition_has_all_its_parts : (s l m x y a b c d : Name) (p p1 p2 p3 p4 p5 p6 p7 p8 p9 q : Pos)
    → SpellsProgram
    (block_of p s
    (uses.Definition (record { label = Some (record { pos = p2; name = l }); exception = exception.Labelled p3 m }) p4
    (record { name = x; inner = Some y; params = a ∷ b ∷ [] }) (Some (local c)) (local d)))
    («word» key.Scope p ∷ type s ∷ sign symbol.Colon p1 ∷ «word» key.Label p2 ∷ name l ∷ «word» key.Exception p3 ∷ name
    m ∷ «word» key.Definition p4
    ∷ name x ∷ sign symbol.Dot p5 ∷ name y ∷ «word» key.Of p6 ∷ name a ∷ sign symbol.Comma p7 ∷ name b ∷ words
    pair.UnderCondition p8 ∷ name c
    ∷ «word» key.Consequence p9 ∷ «word» key.Equals q ∷ name d ∷ [])
a_definition_has_all_its_parts s l m x y a b c d p p1 p2 p3 p4 p5 p6 p7 p8 p9 q =
    spells_program _ _ refl (search (rules, phrases)) (search (rules, phrases))

-- scope S : exception definition x equals a
an_exception_may_be_bare : (s x a : Name) (p p1 p2 p3 p4 : Pos)
    → SpellsProgram (block_of p s (uses.Definition (record { label = None; exception = exception.OnlyRoot p2 }) p3
    (record { name = x; inner = None; params = [] }) None (local a)))
    («word» key.Scope p ∷ type s ∷ sign symbol.Colon p1 ∷ «word» key.Exception p2 ∷ «word» key.Definition p3 ∷ name x ∷
    «word» key.Equals p4 ∷ name a ∷ [])
an_exception_may_be_bare s x a p p1 p2 p3 p4 =
    spells_program _ _ refl (search (rules, phrases)) (search (rules, phrases))

-- scope S : rule x not fulfilled
a_rule_may_be_not_fulfilled : (s x : Name) (p p1 p2 p3 p4 : Pos)
    → SpellsProgram
    (block_of p s (uses.Rule (record { label = None; exception = exception.No }) p2
    (record { name = x; inner = None; params = [] }) None fulfilled.No))
    («word» key.Scope p ∷ type s ∷ sign symbol.Colon p1 ∷ «word» key.Rule p2 ∷ name x ∷ «word» key.Not p3 ∷ «word»
    key.Fulfilled p4 ∷ [])
a_rule_may_be_not_fulfilled s x p p1 p2 p3 p4 =
    spells_program _ _ refl (search (rules, phrases)) (search (rules, phrases))

-- scope S : date round increasing
dates_are_rounded : (s : Name) (p p1 p2 p3 : Pos)
    → SpellsProgram (block_of p s (uses.DateRound p2 true)) («word» key.Scope p ∷ type s ∷ sign symbol.Colon p1 ∷ words
    pair.DateRound p2 ∷ «word» key.Increasing p3 ∷ [])
dates_are_rounded s p p1 p2 p3 = spells_program _ _ refl (search rules) (search rules)

-- scope S : assertion a + b
the_highest_expression_counts : (s a b : Name) (p p1 q : Pos)
    → highest_in (block_of p s (uses.Assertion p1 (node.Binary op.Plus q (local a) (local b)))) ≡ 2
the_highest_expression_counts s a b p p1 q = search (rules, phrases)

-- ---- forms in other shapes

abbrev no_lead : Lead
no_lead = record { label = None; exception = exception.No }

abbrev alone : Name → TargetName
alone x = record { name = x; inner = None; params = [] }

-- declaration scope S : input a content money
an_input_is_one_word : (s a : Name) (p p1 p2 p3 p4 p5 : Pos)
    → SpellsProgram
    (scope_of p s (variable.Own kinds.Input p3 a (Some (record { lists = 0; base = base.Money; pos = p5 })) []))
    («word» key.Declaration p ∷ «word» key.Scope p1 ∷ type s ∷ sign symbol.Colon p2 ∷ «word» key.Input p3 ∷ name a
    ∷ «word» key.Content p4 ∷ «word» key.Money p5 ∷ [])
an_input_is_one_word s a p p1 p2 p3 p4 p5 = spells_program _ _ refl (search rules) (search rules)

-- declaration scope S : output a condition
an_output_is_one_word : (s a : Name) (p p1 p2 p3 p4 : Pos)
    → SpellsProgram (scope_of p s (variable.Own kinds.Output p3 a None []))
    («word» key.Declaration p ∷ «word» key.Scope p1 ∷ type s ∷ sign symbol.Colon p2 ∷ «word» key.Output p3 ∷ name a ∷
    «word» key.Condition p4 ∷ [])
an_output_is_one_word s a p p1 p2 p3 p4 = spells_program _ _ refl (search rules) (search rules)

-- declaration scope S : context a condition
a_context_is_one_word : (s a : Name) (p p1 p2 p3 p4 : Pos)
    → SpellsProgram (scope_of p s (variable.Own kinds.Context p3 a None []))
    («word» key.Declaration p ∷ «word» key.Scope p1 ∷ type s ∷ sign symbol.Colon p2 ∷ «word» key.Context p3 ∷ name a ∷
    «word» key.Condition p4 ∷ [])
a_context_is_one_word s a p p1 p2 p3 p4 = spells_program _ _ refl (search rules) (search rules)

-- declaration scope S : context output a condition
a_context_may_be_an_output : (s a : Name) (p p1 p2 p3 p4 p5 : Pos)
    → SpellsProgram (scope_of p s (variable.Own kinds.ContextOutput p3 a None []))
    («word» key.Declaration p ∷ «word» key.Scope p1 ∷ type s ∷ sign symbol.Colon p2 ∷ «word» key.Context p3 ∷ «word»
    key.Output p4 ∷ name a
    ∷ «word» key.Condition p5 ∷ [])
a_context_may_be_an_output s a p p1 p2 p3 p4 p5 = spells_program _ _ refl (search rules) (search rules)

-- declaration scope S : internal a content list of list of duration
a_type_may_be_a_list_of_lists : (s a : Name) (p p1 p2 p3 p4 p5 p6 p7 : Pos)
    → SpellsProgram
    (scope_of p s (variable.Own kinds.Internal p3 a (Some (record { lists = 2; base = base.Duration; pos = p7 })) []))
    («word» key.Declaration p ∷ «word» key.Scope p1 ∷ type s ∷ sign symbol.Colon p2 ∷ «word» key.Internal p3 ∷ name a ∷
    «word» key.Content p4
    ∷ words pair.ListOf p5 ∷ words pair.ListOf p6 ∷ «word» key.Duration p7 ∷ [])
a_type_may_be_a_list_of_lists s a p p1 p2 p3 p4 p5 p6 p7 = spells_program _ _ refl (search rules) (search rules)

-- declaration scope S :
a_scope_may_be_empty : (s : Name) (p p1 p2 : Pos) → SpellsProgram (program (item.Scope p s []))
    («word» key.Declaration p ∷ «word» key.Scope p1 ∷ type s ∷ sign symbol.Colon p2 ∷ [])
a_scope_may_be_empty s p p1 p2 = spells_program _ _ refl (search rules) (search rules)

-- declaration scope S : input a condition b scope T
variables_follow_each_other : (s a b t : Name) (p p1 p2 p3 p4 p5 : Pos)
    → SpellsProgram (program (item.Scope p s (variable.Own kinds.Input p3 a None [] ∷ variable.Called b t ∷ [])))
    («word» key.Declaration p ∷ «word» key.Scope p1 ∷ type s ∷ sign symbol.Colon p2 ∷ «word» key.Input p3 ∷ name a ∷
    «word» key.Condition p4
    ∷ name b ∷ «word» key.Scope p5 ∷ type t ∷ [])
variables_follow_each_other s a b t p p1 p2 p3 p4 p5 = spells_program _ _ refl (search rules) (search rules)

-- scope S :
a_block_may_be_empty : (s : Name) (p p1 : Pos)
    → SpellsProgram (program (item.Block (record { pos = p; name = s; condition = None; uses = [] })))
    («word» key.Scope p ∷ type s ∷ sign symbol.Colon p1 ∷ [])
a_block_may_be_empty s p p1 = spells_program _ _ refl (search rules) (search rules)

-- scope S : rule x fulfilled
a_rule_may_be_fulfilled : (s x : Name) (p p1 p2 p3 : Pos)
    → SpellsProgram (block_of p s (uses.Rule no_lead p2 (alone x) None fulfilled.Yes))
    («word» key.Scope p ∷ type s ∷ sign symbol.Colon p1 ∷ «word» key.Rule p2 ∷ name x ∷ «word» key.Fulfilled p3 ∷ [])
a_rule_may_be_fulfilled s x p p1 p2 p3 = spells_program _ _ refl (search (rules, phrases)) (search (rules, phrases))

-- scope S : rule x of a under condition c consequence fulfilled
a_rule_has_parameters_and_a_condition : (s x a c : Name) (p p1 p2 p3 p4 p5 p6 : Pos)
    → SpellsProgram
    (block_of p s (uses.Rule no_lead p2 (record { name = x; inner = None; params = a ∷ [] }) (Some (local c))
    fulfilled.Yes))
    («word» key.Scope p ∷ type s ∷ sign symbol.Colon p1 ∷ «word» key.Rule p2 ∷ name x ∷ «word» key.Of p3 ∷ name a
    ∷ words pair.UnderCondition p4 ∷ name c ∷ «word» key.Consequence p5 ∷ «word» key.Fulfilled p6 ∷ [])
a_rule_has_parameters_and_a_condition s x a c p p1 p2 p3 p4 p5 p6 =
    spells_program _ _ refl (search (rules, phrases)) (search (rules, phrases))

-- scope S : label l definition x equals a
a_label_may_stand_alone : (s l x a : Name) (p p1 p2 p3 p4 : Pos)
    → SpellsProgram
    (block_of p s (uses.Definition (record { label = Some (record { pos = p2; name = l }); exception = exception.No })
    p3 (alone x) None (local a)))
    («word» key.Scope p ∷ type s ∷ sign symbol.Colon p1 ∷ «word» key.Label p2 ∷ name l ∷ «word» key.Definition p3 ∷ name
    x ∷ «word» key.Equals p4
    ∷ name a ∷ [])
a_label_may_stand_alone s l x a p p1 p2 p3 p4 =
    spells_program _ _ refl (search (rules, phrases)) (search (rules, phrases))

-- scope S : date round decreasing assertion a
uses_follow_each_other : (s a : Name) (p p1 p2 p3 p4 : Pos)
    → SpellsProgram
    (program (item.Block
    (record {
      pos = p;
      name = s;
      condition = None;
      uses = uses.DateRound p2 false ∷ uses.Assertion p4 (local a) ∷ [];
    })))
    («word» key.Scope p ∷ type s ∷ sign symbol.Colon p1 ∷ words pair.DateRound p2 ∷ «word» key.Decreasing p3 ∷ «word»
    key.Assertion p4 ∷ name a ∷ [])
uses_follow_each_other s a p p1 p2 p3 p4 = spells_program _ _ refl (search (rules, phrases)) (search (rules, phrases))

-- declaration scope S : scope S :
items_follow_each_other : (s : Name) (p p1 p2 p3 p4 : Pos)
    → SpellsProgram
    (record {
      items = item.Scope p s [] ∷ item.Block (record { pos = p3; name = s; condition = None; uses = [] }) ∷ [];
    })
    («word» key.Declaration p ∷ «word» key.Scope p1 ∷ type s ∷ sign symbol.Colon p2 ∷ «word» key.Scope p3 ∷ type s ∷
    sign symbol.Colon p4 ∷ [])
items_follow_each_other s p p1 p2 p3 p4 = spells_program _ _ refl (search rules) (search rules)

-- ---- trees that no tokens spell

a_structure_has_a_field : (u : Name) (p : Pos) (ts : List Token) → SpellsProgram (program (item.Structure p u [])) ts
    → ⊥
a_structure_has_a_field u p ts h = let l : false ≡ true = h.filled in absurd cc

an_enumeration_has_a_case : (u : Name) (p : Pos) (ts : List Token) → SpellsProgram (program (item.Enumeration p u []))
    ts → ⊥
an_enumeration_has_a_case u p ts h = let l : false ≡ true = h.filled in absurd cc
