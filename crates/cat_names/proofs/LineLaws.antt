-- What a source says of a scope is typed, and has its declaration once.
use Rattle.std.proofs.Common.{◌≡◌, ◌<◌, ◌≤◌, ℕ, suc, ◌+◌, nat_eq, Bool, true, false, IsTrue, List, [], ◌∷◌, ◌++◌}
use Rattle.std.proofs.Common.{length, map, Option, Some, None, Ok, Err, slice_get, refl, sym, ap, ◌∙◌, arith}
use Rattle.cat_value.specs.declared.ty.Ty.TheVariants as flat_ty
use Rattle.cat_value.specs.declared.decls.Decls.{Decls}
use Rattle.cat_value.specs.Laws.{AreSound}
use Rattle.std.specs.Prelude.{cond}
use Rattle.cat_pos.specs.declared.pos.Pos.{Pos}
use Rattle.cat_tree.specs.declared.name.Name.{Name}
use Rattle.cat_tree.specs.declared.program.Variable.{Variable}
use Rattle.cat_tree.specs.declared.expression.Node.{Node}
use Rattle.cat_tree.specs.declared.program.Use.{Use}
use Rattle.cat_tree.specs.declared.program.Use.TheVariants as uses
use Rattle.cat_tree.specs.declared.program.Block.{Block}
use Rattle.cat_tree.specs.declared.program.Item.{Item}
use Rattle.cat_tree.specs.declared.program.Item.TheVariants as item
use Rattle.cat_scope.specs.Names.{Names, AllHave}
use Rattle.cat_scope.specs.Expected.{defs_placed, assertions_placed, parts_placed, lists_placed}
use Rattle.cat_scope.specs.HasType.{HasType}
use Rattle.cat_scope.specs.WellFormed.{DefTyped, AssertionTyped, PartTyped, IsWhole}
use Rattle.cat_scope.proofs.Exported.{all_append}
use Rattle.cat_names.specs.declared.typed.Typed.{Typed}
use Rattle.cat_names.specs.Found.{Found}
use Rattle.cat_names.specs.Written.{names_of, scopes_in}
use Rattle.cat_names.specs.Definitions.{condition_meant, definition_meant, rule_meant, assertion_meant}
use Rattle.cat_names.specs.Lines.{Line, Declaration, Condition, Definition, Assertion, use_lines, all_lines}
use Rattle.cat_names.specs.Lines.{condition_lines, block_lines, is_scope_name, items_about, item_lines, lines_found}
use Rattle.cat_names.specs.Bodies.{defs_in, assertions_in, source_part}
use Rattle.cat_names.specs.Naming.{names_in_scope}
use Rattle.cat_names.specs.TypedMeanings.{OnFound}
use Rattle.cat_names.proofs.OnFound.{on_then, on_both}
use Rattle.cat_names.proofs.OperationLaws.{both_true}
use Rattle.cat_names.proofs.DefinitionLaws.{AreConditions, AreBoolean, condition_stands, DefStands, definition_stands}
use Rattle.cat_names.proofs.DefinitionLaws.{rule_stands, AssertionStands, assertion_stands}

-- how often a source declares the scope
abbrev pub declarations_in : List Line → ℕ
declarations_in [] = 0
declarations_in (Declaration ∷ lines) = suc (declarations_in lines)
declarations_in (Condition e ∷ lines) = declarations_in lines
declarations_in (Definition d ∷ lines) = declarations_in lines
declarations_in (Assertion a ∷ lines) = declarations_in lines

declarations_join : (xs ys : List Line) → declarations_in (xs ++ ys) ≡ declarations_in xs + declarations_in ys
declarations_join [] ys = omega arith
declarations_join (Declaration ∷ xs) ys = omega (arith, declarations_join xs ys)
declarations_join (Condition e ∷ xs) ys = declarations_join xs ys
declarations_join (Definition d ∷ xs) ys = declarations_join xs ys
declarations_join (Assertion a ∷ xs) ys = declarations_join xs ys

-- lines part into declarations, definitions and assertions
pub are_whole : (lines : List Line)
    → IsWhole (map source_part lines) (declarations_in lines) (length (defs_in lines)) (length (assertions_in lines))
are_whole [] = (refl, refl, refl)
are_whole (Declaration ∷ lines) = are_whole lines
are_whole (Condition e ∷ lines) = are_whole lines
are_whole (Definition d ∷ lines) = are_whole lines
are_whole (Assertion a ∷ lines) = are_whole lines

module _ (ds : Decls) (sound : AreSound ds) (conditions : AreConditions ds) (scope : ℕ) where
  abbrev ns : Names
  ns = names_in_scope ds scope

  -- a line that is typed
  abbrev pub LineStands : Line → Type 0
  LineStands Declaration = Unit {0}
  LineStands (Condition e) = (HasType ns [] e flat_ty.Boolean) × IsTrue (lists_placed e false)
  LineStands (Definition d) = DefStands ds sound conditions scope d
  LineStands (Assertion a) = AssertionStands ds sound conditions scope a

  -- lines that are typed, none of which declares the scope
  record InBlock (lines : List Line) : Type 0 where
    stand : AllHave LineStands lines
    none : declarations_in lines ≡ 0

  use_stands : (block : Option Node) (u : Use) → OnFound InBlock (use_lines ns scope block u)
  use_stands block (uses.Definition l p t c e) = on_then (DefStands ds sound conditions scope) InBlock
      (definition_meant ns scope block l p t c e) _ (definition_stands ds sound conditions scope block l p t c e)
      (λ d hd. record { stand = (hd, tt); none = refl })
  use_stands block (uses.Rule l p t c f) = on_then (DefStands ds sound conditions scope) InBlock
      (rule_meant ns scope block l p t c f) _ (rule_stands ds sound conditions scope block l p t c f)
      (λ d hd. record { stand = (hd, tt); none = refl })
  use_stands block (uses.Assertion p e) = on_then (AssertionStands ds sound conditions scope) InBlock
      (assertion_meant ns p e) _ (assertion_stands ds sound conditions scope p e)
      (λ a ha. record { stand = (ha, tt); none = refl })
  use_stands block (uses.DateRound p up) = record { stand = tt; none = refl }

  in_block_join : (xs ys : List Line) → InBlock xs → InBlock ys → InBlock (xs ++ ys)
  in_block_join xs ys h i = record {
    stand = all_append LineStands xs ys h.stand i.stand;
    none = declarations_join xs ys ∙ omega (arith, h.none, i.none);
  }

  uses_stand : (block : Option Node) (us : List Use) → OnFound InBlock (all_lines (use_lines ns scope block) us)
  uses_stand block [] = record { stand = tt; none = refl }
  uses_stand block (u ∷ us) =
      on_both InBlock InBlock InBlock (use_lines ns scope block u) (all_lines (use_lines ns scope block) us) _
      (use_stands block u) (uses_stand block us) (λ xs ys h i. in_block_join xs ys h i)

  condition_in : (c : Option Typed) → AreBoolean ds sound conditions scope [] c → InBlock (condition_lines c)
  condition_in None h = record { stand = tt; none = refl }
  condition_in (Some x) h = record { stand = ((h.typed, h.placed), tt); none = refl }

  block_stands : (b : Block) → OnFound InBlock (block_lines ns scope b)
  block_stands b = on_both (AreBoolean ds sound conditions scope []) InBlock InBlock (condition_meant ns b.condition [])
      (all_lines (use_lines ns scope b.condition) b.uses) _
      (condition_stands ds sound conditions scope b.condition [] tt) (uses_stand b.condition b.uses)
      (λ c lines hc h. in_block_join (condition_lines c) lines (condition_in c hc) h)

  -- lines that are typed, in which the scope of this number is declared where it is one of so many from m on
  pub record InSource (m count : ℕ) (lines : List Line) : Type 0 where
    pub stand : AllHave LineStands lines
    pub before : scope < m → declarations_in lines ≡ 0
    pub declared : m ≤ scope → scope < m + count → declarations_in lines ≡ 1

  own_stands : (m count : ℕ) (lines : List Line) → InSource (m + 1) count lines → nat_eq m scope ≡ true
      → InSource m (suc count) (Declaration ∷ lines)
  own_stands m count lines h e = let same : m ≡ scope = grind (arith, e) in record {
    stand = (tt, h.stand);
    before = λ less. absurd (omega (arith, less, same));
    declared =
        λ low high. omega (arith, h.before (omega (arith, same)));
  }

  other_stands : (m count : ℕ) (lines : List Line) → InSource (m + 1) count lines → nat_eq m scope ≡ false
      → InSource m (suc count) lines
  other_stands m count lines h e = let other : ¬ (m ≡ scope) =
      λ is. absurd (grind (arith, e, is)) in record {
        stand = h.stand;
        before = λ less. h.before (omega (arith, less));
        declared = λ low high. h.declared (grind (arith, low, other)) (omega (arith, high));
      }

  -- the names of scopes, numbered from m on, name the scope of that number where theirs is its
  abbrev pub AreNumbered : ℕ → List Name → Type 0
  AreNumbered m names =
      (k : ℕ) (w : Name) → slice_get names k ≡ Some w → is_scope_name ds scope w ≡ nat_eq (m + k) scope

  numbered_on : (m : ℕ) (u : Name) (names : List Name) → AreNumbered m (u ∷ names) → AreNumbered (m + 1) names
  numbered_on m u names are k w h =
      let same : m + suc k ≡ m + 1 + k = omega arith in
      are (suc k) w h ∙ ap (λ i. nat_eq i scope) same

  first_numbered : (m : ℕ) (u : Name) (names : List Name) → AreNumbered m (u ∷ names)
      → nat_eq m scope ≡ is_scope_name ds scope u
  first_numbered m u names are =
      let same : m ≡ m + 0 = omega arith in ap (λ i. nat_eq i scope) same ∙ sym (are 0 u refl)

  -- lines of an item in front of others
  with_own : (m count : ℕ) (found : Found (List Line)) → OnFound (InSource (m + 1) count) found → (is : Bool)
      → nat_eq m scope ≡ is → (p : Pos) (u : Name) (variables : List Variable) (more : List Item)
      → all_lines (item_lines ns scope) more ≡ found
      → OnFound (InSource m (suc count))
      (all_lines (item_lines ns scope) (cond is (item.Scope p u variables ∷ more) more))
  with_own m count (Ok lines) h true e p u variables more is = rw is (own_stands m count lines h e)
  with_own m count (Ok lines) h false e p u variables more is = rw is (other_stands m count lines h e)
  with_own m count (Err faults) h true e p u variables more is = rw is tt
  with_own m count (Err faults) h false e p u variables more is = rw is tt

  with_block : (m count : ℕ) (b : Block) (is : Bool) (more : List Item)
      → OnFound (InSource m count) (all_lines (item_lines ns scope) more)
      → OnFound (InSource m count) (all_lines (item_lines ns scope) (cond is (item.Block b ∷ more) more))
  with_block m count b true more h = on_both InBlock (InSource m count) (InSource m count) (block_lines ns scope b)
      (all_lines (item_lines ns scope) more) _ (block_stands b) h
      (λ lines rest i j. record {
        stand = all_append LineStands lines rest i.stand j.stand;
        before = λ less. declarations_join lines rest ∙ omega (arith, i.none, j.before less);
        declared = λ low high. declarations_join lines rest ∙ omega (arith, i.none, j.declared low high);
      })
  with_block m count b false more h = h

  pub lines_stand : (m : ℕ) (items : List Item) → AreNumbered m (names_of (scopes_in items))
      → OnFound (InSource m (length (scopes_in items))) (lines_found ns scope items)
  lines_stand m [] are =
      record { stand = tt; before = λ less. refl; declared = λ low high. absurd (omega (arith, low, high)) }
  lines_stand m (item.Scope p u variables ∷ more) are =
      with_own m (length (scopes_in more)) (lines_found ns scope more)
      (lines_stand (m + 1) more (numbered_on m u (names_of (scopes_in more)) are)) (is_scope_name ds scope u)
      (first_numbered m u (names_of (scopes_in more)) are) p u variables (items_about ds scope more) refl
  lines_stand m (item.Block b ∷ more) are =
      with_block m (length (scopes_in more)) b (is_scope_name ds scope b.name) (items_about ds scope more)
      (lines_stand m more are)
  lines_stand m (item.Structure p u fields ∷ more) are = lines_stand m more are
  lines_stand m (item.Enumeration p u cases ∷ more) are = lines_stand m more are

  -- what bodies keep of lines
  pub defs_typed : (lines : List Line) → AllHave LineStands lines → AllHave (DefTyped ns scope) (defs_in lines)
  defs_typed [] all = tt
  defs_typed (Declaration ∷ lines) all = defs_typed lines all.1
  defs_typed (Condition e ∷ lines) all = defs_typed lines all.1
  defs_typed (Definition d ∷ lines) all = (all.0.typed, defs_typed lines all.1)
  defs_typed (Assertion a ∷ lines) all = defs_typed lines all.1

  pub assertions_typed : (lines : List Line) → AllHave LineStands lines → AllHave (AssertionTyped ns)
      (assertions_in lines)
  assertions_typed [] all = tt
  assertions_typed (Declaration ∷ lines) all = assertions_typed lines all.1
  assertions_typed (Condition e ∷ lines) all = assertions_typed lines all.1
  assertions_typed (Definition d ∷ lines) all = assertions_typed lines all.1
  assertions_typed (Assertion a ∷ lines) all = (all.0.typed, assertions_typed lines all.1)

  pub parts_typed : (lines : List Line) → AllHave LineStands lines → AllHave (PartTyped ns) (map source_part lines)
  parts_typed [] all = tt
  parts_typed (Declaration ∷ lines) all = (tt, parts_typed lines all.1)
  parts_typed (Condition e ∷ lines) all = (all.0.0, parts_typed lines all.1)
  parts_typed (Definition d ∷ lines) all = (tt, parts_typed lines all.1)
  parts_typed (Assertion a ∷ lines) all = (tt, parts_typed lines all.1)

  pub parts_are_placed : (lines : List Line) → AllHave LineStands lines → IsTrue (parts_placed (map source_part lines))
  parts_are_placed [] all = refl
  parts_are_placed (Declaration ∷ lines) all = parts_are_placed lines all.1
  parts_are_placed (Condition e ∷ lines) all = both_true _ _ all.0.1 (parts_are_placed lines all.1)
  parts_are_placed (Definition d ∷ lines) all = parts_are_placed lines all.1
  parts_are_placed (Assertion a ∷ lines) all = parts_are_placed lines all.1

  pub defs_are_placed : (lines : List Line) → AllHave LineStands lines → IsTrue (defs_placed (defs_in lines))
  defs_are_placed [] all = refl
  defs_are_placed (Declaration ∷ lines) all = defs_are_placed lines all.1
  defs_are_placed (Condition e ∷ lines) all = defs_are_placed lines all.1
  defs_are_placed (Definition d ∷ lines) all = both_true _ _ all.0.placed (defs_are_placed lines all.1)
  defs_are_placed (Assertion a ∷ lines) all = defs_are_placed lines all.1

  pub assertions_are_placed : (lines : List Line) → AllHave LineStands lines
      → IsTrue (assertions_placed (assertions_in lines))
  assertions_are_placed [] all = refl
  assertions_are_placed (Declaration ∷ lines) all = assertions_are_placed lines all.1
  assertions_are_placed (Condition e ∷ lines) all = assertions_are_placed lines all.1
  assertions_are_placed (Definition d ∷ lines) all = assertions_are_placed lines all.1
  assertions_are_placed (Assertion a ∷ lines) all = both_true _ _ all.0.placed (assertions_are_placed lines all.1)
