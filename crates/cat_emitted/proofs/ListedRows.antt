-- The rows of code with spelled declarations may stand in lines.
use Rattle.std.proofs.Common.{◌≡◌, ◌≤◌, ◌+◌, ◌^◌, ℕ, Bool, true, false, IsTrue, List, [], ◌∷◌, ◌++◌, map}
use Rattle.std.proofs.Common.{length, Option}
use Rattle.std.proofs.Common.{Some, None, slice_get, refl, sym, subst, arith, decimal}
use Rattle.std.specs.Prelude.{codes, flat_map, if◌then◌else◌}
use Rattle.std.specs.List.{AllByRecursion}
use Rattle.cat_scope.specs.Names.{AllHave}
use Rattle.cat_scope.proofs.Exported.{all_append}
use Rattle.cat_value.specs.declared.ty.Ty.{Ty}
use Rattle.cat_value.specs.declared.declaration.Structure.{Structure}
use Rattle.cat_value.specs.declared.declaration.Case.{Case}
use Rattle.cat_value.specs.declared.declaration.Enumeration.{Enumeration}
use Rattle.cat_value.specs.declared.declaration.Kind.{Kind}
use Rattle.cat_value.specs.declared.declaration.Kind.TheVariants as kind
use Rattle.cat_value.specs.declared.declaration.ItemDecl.{ItemDecl}
use Rattle.cat_value.specs.declared.declaration.Scope.{Scope}
use Rattle.cat_value.specs.declared.decls.Decls.{Decls}
use Rattle.cat_code.specs.declared.instr.Instr.{Instr}
use Rattle.cat_code.specs.declared.code.Tables.{Tables}
use Rattle.cat_listing.specs.Texts.{type_text}
use Rattle.cat_listing.specs.DeclarationLines.{what_text, variable_text, params_text}
use Rattle.cat_image.specs.declared.row.Row.{Row}
use Rattle.cat_image.specs.declared.row.Row.TheVariants as row
use Rattle.cat_image.specs.Words.{Text, IsSmall, pos_text, kind_text}
use Rattle.cat_image.specs.InstructionWords.{IsSmallInstr, instr_text}
use Rattle.cat_image.specs.Rows.{row_text, IsRow, IsContent, content_text, behind_blank, structure_rows}
use Rattle.cat_image.specs.Rows.{enumeration_rows}
use Rattle.cat_image.specs.Rows.{scope_rows, instruction_rows}
use Rattle.cat_image.specs.Listed.{is_line, structure_words, enumeration_words, field_words, case_words}
use Rattle.cat_image.specs.Listed.{item_words, kind_words, scopes_words, pos_words}
use Rattle.cat_image.specs.Listed.{content_words}
use Rattle.cat_verify_tables.proofs.Exported.{one_there, map_have}
use Rattle.cat_emitted.specs.Spelled.{AreSpelledDecls, IsTypeWord, IsSpelledScope}
use Rattle.cat_emitted.specs.Emitted.{IsOfFiles, AreOfFiles}
use Rattle.cat_emitted.proofs.ListFacts.{all_at}
use Rattle.cat_emitted.proofs.WordFacts.{line_append, type_line, part_line, type_name, part_name}
use Rattle.cat_emitted.proofs.LineFacts.{plain_line, small_line, blank_line, pos_line, kind_line}
use Rattle.cat_emitted.proofs.InstructionFacts.{instr_line}
use Rattle.cat_emitted.proofs.WhatFacts as what
use Rattle.cat_emitted.proofs.TypeFacts as types
use Rattle.cat_emitted.proofs.ItemFacts as items
use Rattle.cat_emitted.proofs.PlaceFacts.{small_pos}

-- a row whose words are right, and whose text is a line
pub record MayStand (r : Row) : Type 0 where
  pub row : IsRow r
  pub line : is_line (row_text r) ≡ true

-- a word in front of a line
front_line : (front text : Text) → is_line front ≡ true → is_line text ≡ true → is_line (front ++ text) ≡ true
front_line = line_append

-- what stands for each of some entries
flat_stand : {A : Type 0} (rows : A → List Row) (xs : List A) → AllHave (λ x. AllHave MayStand (rows x)) xs
    → AllHave MayStand (flat_map rows xs)
flat_stand rows [] all = tt
flat_stand rows (x ∷ xs) all = all_append MayStand (rows x) (flat_map rows xs) all.0 (flat_stand rows xs all.1)

-- ---- single rows

pub file_stands : (name : Text) → IsTrue (is_line name) → MayStand (row.File name)
file_stands name line =
    record { row = tt; line = front_line (codes "file ") name (plain_line (codes "file ") refl) line }

pub instruction_stands : (n : ℕ) (i : Instr) → IsSmall n → IsSmallInstr i → MayStand (row.Instruction n i)
instruction_stands n i few small = record {
  row = (few, small);
  line = line_append (decimal n) (behind_blank (instr_text i)) (small_line n few)
      (blank_line (instr_text i) (instr_line i small));
}

pub instructions_stand : (n : ℕ) (is : List Instr) → n + length is ≤ 2 ^ 32 → AllByRecursion IsSmallInstr is
    → AllHave MayStand (instruction_rows n is)
instructions_stand n [] few small = tt
instructions_stand n (i ∷ is) few small =
    (instruction_stands n i (omega (arith, few)) small.0, instructions_stand (n + 1) is (omega (arith, few)) small.1)

pub function_stands : (entry : ℕ) → IsSmall entry → MayStand (row.Function entry)
function_stands entry small = record {
  row = small;
  line = front_line (codes "function ") (decimal entry) (plain_line (codes "function ") refl) (small_line entry small);
}

module _ (code : Tables) (files : List Text) (spelled : AreSpelledDecls code.decls)
    (one_entry_each : length code.scopes ≡ length code.decls.scopes) (placed : AreOfFiles files code) where
  abbrev ds : Decls
  ds = code.decls

  -- ---- structures and enumerations

  structure_stands : (n : ℕ) (s : Structure) → slice_get ds.structures n ≡ Some s
      → AllHave MayStand (structure_rows (structure_words ds s))
  structure_stands n s at =
      let word = all_at _ ds.structures n s spelled.structures at in (
        record {
          row = type_name s.name word.name;
          line = front_line (codes "structure ") s.name (plain_line (codes "structure ") refl)
              (type_line s.name word.name);
        },
        map_have MayStand row.Field (map (field_words ds) s.fields)
            (map_have (λ f. MayStand (row.Field f)) (field_words ds) s.fields
            (items.all_from (λ f. MayStand (row.Field (field_words ds f))) s.fields (λ k f own.
            let name = all_at _ s.fields k f word.fields own in
            let declared = types.field_declared code files spelled n s f at (one_there s.fields k f own) in
            record {
              row = (part_name f.name name, what.type_is ds spelled f.ty declared);
              line = front_line (codes "field ") _ (plain_line (codes "field ") refl)
                  (line_append f.name _ (part_line f.name name)
                  (blank_line (type_text ds f.ty) (what.type_lined ds spelled f.ty declared)));
            }))),
      )

  content_stands : (n k : ℕ) (e : Enumeration) (c : Case) → slice_get ds.enumerations n ≡ Some e
      → slice_get e.cases k ≡ Some c → IsContent (content_words ds c.content)
      × (is_line (content_text (content_words ds c.content)) ≡ true)
  content_stands n k e c at own = by c.content refl
    where
      by : (o : Option Ty) → c.content ≡ o
          → IsContent (content_words ds o) × (is_line (content_text (content_words ds o)) ≡ true)
      by None is = (tt, plain_line [] refl)
      by (Some t) is =
          let declared = types.case_declared code files spelled n e c t at (one_there e.cases k c own) is in
          (what.type_is ds spelled t declared, blank_line (type_text ds t) (what.type_lined ds spelled t declared))

  enumeration_stands : (n : ℕ) (e : Enumeration) → slice_get ds.enumerations n ≡ Some e
      → AllHave MayStand (enumeration_rows (enumeration_words ds e))
  enumeration_stands n e at =
      let word = all_at _ ds.enumerations n e spelled.enumerations at in (
        record {
          row = type_name e.name word.name;
          line = front_line (codes "enumeration ") e.name (plain_line (codes "enumeration ") refl)
              (type_line e.name word.name);
        },
        map_have MayStand row.Case (map (case_words ds) e.cases)
            (map_have (λ c. MayStand (row.Case c)) (case_words ds) e.cases
            (items.all_from (λ c. MayStand (row.Case (case_words ds c))) e.cases (λ k c own.
            let name = all_at _ e.cases k c word.cases own in
            let content = content_stands n k e c at own in
            record {
              row = (type_name c.name name, content.0);
              line = front_line (codes "case ") _ (plain_line (codes "case ") refl)
                  (line_append c.name _ (type_line c.name name) content.1);
            }))),
      )

  pub structures_stand : AllHave MayStand (flat_map structure_rows (map (structure_words ds) ds.structures))
  structures_stand = flat_stand structure_rows (map (structure_words ds) ds.structures)
      (map_have (λ s. AllHave MayStand (structure_rows s)) (structure_words ds) ds.structures
      (items.all_from (λ s. AllHave MayStand (structure_rows (structure_words ds s))) ds.structures structure_stands))

  pub enumerations_stand : AllHave MayStand (flat_map enumeration_rows (map (enumeration_words ds) ds.enumerations))
  enumerations_stand = flat_stand enumeration_rows (map (enumeration_words ds) ds.enumerations)
      (map_have (λ e. AllHave MayStand (enumeration_rows e)) (enumeration_words ds) ds.enumerations
      (items.all_from (λ e. AllHave MayStand (enumeration_rows (enumeration_words ds e))) ds.enumerations
      enumeration_stands))

  -- ---- scopes

  abbrev IsFairItem : ItemDecl → Type 0
  IsFairItem item = items.IsFairItem code files spelled one_entry_each item

  what_lined : (item : ItemDecl) → IsFairItem item → is_line (what_text ds item item.kind) ≡ true
  what_lined item fair = by item.kind refl
    where
      declared : AllHave (λ t. what.IsDeclared ds spelled t) item.params
      declared = items.all_from (λ t. what.IsDeclared ds spelled t) item.params fair.is_item.params_declared

      variable : (c : Bool) → is_line (if c then codes "condition" else type_text ds item.ty) ≡ true
      variable true = plain_line (codes "condition") refl
      variable false = what.type_lined ds spelled item.ty fair.is_item.declared

      defined : is_line (variable_text ds item ++ params_text ds item.params) ≡ true
      defined = subst (λ (x : Text). is_line (variable_text ds item ++ x) ≡ true)
          (sym (what.params_same ds spelled item.params))
          (line_append (variable_text ds item) _ (variable item.condition)
          (what.behind_lined ds spelled item.params declared))

      by : (k : Kind) → item.kind ≡ k → is_line (what_text ds item k) ≡ true
      by (kind.Called n) is = items.called_line code files spelled one_entry_each item fair n is
      by kind.Input is = defined
      by kind.Output is = defined
      by kind.Internal is = defined
      by kind.Context is = defined
      by kind.InputOutput is = defined
      by kind.ContextOutput is = defined

  item_stands : (item : ItemDecl) → IsFairItem item → IsOfFiles files item.pos
      → MayStand (row.Item (item_words ds item))
  item_stands item fair there =
      let name = fair.spelled_item.name in
      let small = small_pos files item.pos there in
      record {
        row = (part_name item.name name, small, items.what_right code files spelled one_entry_each item fair);
        line = front_line (codes "item ") _ (plain_line (codes "item ") refl)
            (line_append item.name _ (part_line item.name name)
            (blank_line _ (line_append (kind_text (kind_words item.kind)) _ (kind_line (kind_words item.kind))
            (blank_line _ (line_append (pos_text (pos_words item.pos)) _ (pos_line (pos_words item.pos) small)
            (blank_line (what_text ds item item.kind) (what_lined item fair)))))));
      }

  scope_items_stand : (n : ℕ) (s : Scope) → slice_get ds.scopes n ≡ Some s
      → AllHave MayStand (map row.Item (map (item_words ds) s.items))
  scope_items_stand n s at =
      let places = all_at (λ (r : Scope). AllHave (λ i. IsOfFiles files i.pos) r.items) ds.scopes n s placed.items at in
      map_have MayStand row.Item (map (item_words ds) s.items)
      (map_have (λ i. MayStand (row.Item i)) (item_words ds) s.items
      (items.all_from (λ i. MayStand (row.Item (item_words ds i))) s.items (λ k i own.
      item_stands i (items.item_fair code files spelled one_entry_each n k s i at own)
      (all_at (λ (i : ItemDecl). IsOfFiles files i.pos) s.items k i places own))))

  scopes_stand_from : (ss : List Scope) (entries : List ℕ)
      → AllHave (λ (s : Scope). IsTypeWord s.name × AllHave MayStand (map row.Item (map (item_words ds) s.items))) ss
      → AllHave IsSmall entries → AllHave MayStand (flat_map scope_rows (scopes_words ds ss entries))
  scopes_stand_from [] entries all small = tt
  scopes_stand_from (s ∷ ss) [] all small = tt
  scopes_stand_from (s ∷ ss) (e ∷ es) all small =
      let rest = flat_map scope_rows (scopes_words ds ss es) in (
        record {
          row = (type_name s.name all.0.0, small.0);
          line = front_line (codes "scope ") _ (plain_line (codes "scope ") refl)
              (line_append s.name _ (type_line s.name all.0.0) (blank_line (decimal e) (small_line e small.0)));
        },
        all_append MayStand (map row.Item (map (item_words ds) s.items)) rest all.0.1
            (scopes_stand_from ss es all.1 small.1),
      )

  pub scopes_stand : AllHave IsSmall code.scopes
      → AllHave MayStand (flat_map scope_rows (scopes_words ds ds.scopes code.scopes))
  scopes_stand small = scopes_stand_from ds.scopes code.scopes
      (items.all_from _ ds.scopes (λ n s at. (
        (all_at IsSpelledScope ds.scopes n s spelled.scopes at).name,
        scope_items_stand n s at,
      ))) small

  -- ---- the rest

  pub position_stands : (word : Text) (p : _) → is_line word ≡ true → IsOfFiles files p
      → is_line (word ++ pos_text (pos_words p)) ≡ true
  position_stands word p line there =
      line_append word (pos_text (pos_words p)) line (pos_line (pos_words p) (small_pos files p there))

  pub definitions_stand : AllHave MayStand (map row.Definition (map pos_words code.definitions))
  definitions_stand = map_have MayStand row.Definition (map pos_words code.definitions)
      (map_have (λ p. MayStand (row.Definition p)) pos_words code.definitions
      (items.all_from (λ p. MayStand (row.Definition (pos_words p))) code.definitions (λ k p own.
      let there = all_at (IsOfFiles files) code.definitions k p placed.definitions own in
      record {
        row = small_pos files p there;
        line = position_stands (codes "definition ") p (plain_line (codes "definition ") refl) there;
      })))

  pub positions_stand : AllHave MayStand (map row.Position (map pos_words code.positions))
  positions_stand = map_have MayStand row.Position (map pos_words code.positions)
      (map_have (λ p. MayStand (row.Position p)) pos_words code.positions
      (items.all_from (λ p. MayStand (row.Position (pos_words p))) code.positions (λ k p own.
      let there = all_at (IsOfFiles files) code.positions k p placed.positions own in
      record {
        row = small_pos files p there;
        line = position_stands (codes "position ") p (plain_line (codes "position ") refl) there;
      })))
