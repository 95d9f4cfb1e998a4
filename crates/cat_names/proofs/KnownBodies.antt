-- Where no name of a tree is at fault, what stands as unknown in what it says of its scopes needs a type.
use Rattle.std.specs.Prelude.{flat_map, nat_eq, length, bytes_eq, not, option_to_list}
use Rattle.std.specs.Option.{is_some}
use Rattle.std.proofs.Common.{◌≡◌, ℕ, zero, suc, Bool, true, false, List, [], ◌∷◌, ◌++◌, map, Option, Some, None}
use Rattle.std.proofs.Common.{Ok, Err, slice_get, refl, sym, ap, ◌∙◌, subst, arith, inl, if◌then◌else◌}
use Rattle.std.proofs.lemmas.List.{append-nil}
use Rattle.std.proofs.lemmas.Slice.Eq.{bytes_eq-Decides}
use Rattle.cat_pos.specs.declared.pos.Pos.{Pos}
use Rattle.cat_value.specs.declared.ty.Ty.{Ty}
use Rattle.cat_value.specs.declared.ty.Ty.TheVariants as flat_ty
use Rattle.cat_value.specs.declared.declaration.Structure.{Structure}
use Rattle.cat_value.specs.declared.declaration.Enumeration.{Enumeration}
use Rattle.cat_value.specs.declared.declaration.ItemDecl.{ItemDecl}
use Rattle.cat_value.specs.declared.declaration.Scope.{Scope}
use Rattle.cat_value.specs.declared.decls.Decls.{Decls}
use Rattle.cat_value.specs.Inputs.{may_be_given}
use Rattle.cat_tree.specs.declared.name.Name.{Name}
use Rattle.cat_tree.specs.declared.expression.Node.{Node}
use Rattle.cat_tree.specs.declared.program.Variable.{Variable}
use Rattle.cat_tree.specs.declared.program.Variable.TheVariants as variable
use Rattle.cat_tree.specs.declared.program.TargetName.{TargetName}
use Rattle.cat_tree.specs.declared.program.Use.{Use}
use Rattle.cat_tree.specs.declared.program.Use.TheVariants as uses
use Rattle.cat_tree.specs.declared.program.Block.{Block}
use Rattle.cat_tree.specs.declared.program.Item.{Item}
use Rattle.cat_tree.specs.declared.program.Item.TheVariants as item
use Rattle.cat_tree.specs.declared.program.Tree.{Tree}
use Rattle.cat_scope.specs.Names.{Names, IsOneOf, AllHave, scope_items}
use Rattle.cat_scope.specs.Naming.{is_defined}
use Rattle.cat_names.proofs.ListLaws.{behind, in_front}
use Rattle.cat_names.specs.declared.fault.Fault.TheVariants.{NameUnknown, TypeMismatch, Misplaced}
use Rattle.cat_names.specs.declared.typed.Local.{Local}
use Rattle.cat_names.specs.Found.{Found, and_then, where_true, or_fault, each_found}
use Rattle.cat_names.specs.Types.{structure_of}
use Rattle.cat_names.specs.Forms.{field_named}
use Rattle.cat_names.specs.Lookup.{TypeNames, item_named, scope_called, type_found, first_named}
use Rattle.cat_names.specs.Written.{texts, names_of, structures_in, enumerations_in, scopes_in, types_in}
use Rattle.cat_names.specs.Written.{scope_names_in}
use Rattle.cat_names.specs.Aims.{Aim, own_aim, inner_aim, part_fault, called_aim, aim_at, aim_of}
use Rattle.cat_names.specs.Meaning.{meant}
use Rattle.cat_names.specs.Definitions.{boolean_of, condition_meant, nameless_params, named_params, whole_condition}
use Rattle.cat_names.specs.Definitions.{definition_meant, rule_meant, assertion_meant}
use Rattle.cat_names.specs.Lines.{use_lines, all_lines, block_lines}
use Rattle.cat_names.specs.Unknown.{Known, is_name, unless}
use Rattle.cat_names.specs.DeclarationFaults.{variable_name}
use Rattle.cat_names.specs.Declarations.{field_declared, structure_declared, case_declared, enumeration_declared}
use Rattle.cat_names.specs.Declarations.{variable_type, variable_item, called_item_of, item_declared, scope_declared}
use Rattle.cat_names.specs.Accepted.{parts_of}
use Rattle.cat_names.specs.NameFaults.{variables_of, unknown_in_condition, target_faults, use_faults, block_faults}
use Rattle.cat_names.specs.TypedNames.{typed_names, condition_typed_names, target_typed_names, use_typed_names}
use Rattle.cat_names.specs.TypedNames.{item_typed_names}
use Rattle.cat_names.specs.TypedMeanings.{OnFound}
use Rattle.cat_names.proofs.OnFound.{on_then, on_where, on_any}
use Rattle.cat_names.proofs.OkParts.{then_ok, both_ok, nothing_in, nothing_behind}
use Rattle.cat_names.proofs.DistinctNames.{Apart}
use Rattle.cat_names.proofs.DeclaredMade.{DeclaredParts}
use Rattle.cat_names.proofs.ReachLaws.{named_there}
use Rattle.cat_names.proofs.OnlyLaws.{Only, only_ok, only_other, only_at, only_then, only_both, only_where}
use Rattle.cat_names.proofs.OnlyLaws.{only_where_at, only_or_at, only_expected, only_more}
use Rattle.cat_names.proofs.KnownNames.{Agrees, Covers, names_of_locals, known_name, each_is_fine}

-- what follows from an answer that has a property
only_next : (ps : List Pos) {A B : Type 0} (P : A → Type 0) (found : Found A) (go : A → Found B) → Only ps found
    → OnFound P found → ((a : A) → P a → Only ps (go a)) → Only ps (and_then found go)
only_next ps P (Ok a) go h i next = next a i
only_next ps P (Err faults) go h i next = record { only = λ p j. h.only p j }

no_texts : (ls : List Local) → Covers [] ls
no_texts ls t h = cc h

-- parameters cover their names
params_named : (ws : List Name) (ts : List Ty) → length ws ≡ length ts → names_of_locals (named_params ws ts) ≡ texts ws
params_named [] [] are = refl
params_named [] (t ∷ ts) are = absurd (omega (arith, are))
params_named (w ∷ ws) [] are = absurd (omega (arith, are))
params_named (w ∷ ws) (t ∷ ts) are = ap (λ us. w.text ∷ us) (params_named ws ts (omega (arith, are)))

params_cover : (ws : List Name) (ts : List Ty) → length ws ≡ length ts → Covers (texts ws) (named_params ws ts)
params_cover ws ts are t h = ap (is_name t) (params_named ws ts are) ∙ h

module _ (ns : Names) (known : Known) (agree : Agrees ns known) (scope : ℕ) where
  -- ---- targets

  item_known : (w : Name) → unless (is_name w.text known.items) w ≡ []
      → is_some (item_named w.text ns.items) ≡ true
  item_known w h = named_there (λ (i : ItemDecl). i.name) w.text ns.items
      ∙ ap (is_name w.text) (sym agree.items) ∙ known_name (is_name w.text known.items) w h

  own_only : (ps : List Pos) (p : Pos) (o : Option (ℕ × ItemDecl)) → is_some o ≡ true → Only ps (own_aim scope p o)
  own_only ps p None h = cc h
  own_only ps p (Some i) h = only_where ps (is_defined i.1) (Misplaced p) _ (λ q e. cc e) (only_ok ps _)

  part_only : (ps : List Pos) (p : Pos) (y : Name) (o : Option ℕ) → IsOneOf y.pos ps
      → Only ps {A = Aim} (Err (part_fault ns.decls p y o ∷ []))
  part_only ps p y None there = only_at ps y.pos there
  part_only ps p y (Some n) there = by (is_some (field_named ns.decls n y.text))
    where
      by : (b : Bool) → Only ps {A = Aim} (Err ((if b then Misplaced p else NameUnknown y.pos) ∷ []))
      by true = only_other ps (Misplaced p) (λ q e. cc e)
      by false = only_at ps y.pos there

  called_only : (ps : List Pos) (p : Pos) (y : Name) (o : Option (ℕ × ItemDecl)) → IsOneOf y.pos ps
      → is_some o ≡ true → Only ps (called_aim ns scope p y o)
  called_only ps p y None there h = cc h
  called_only ps p y (Some i) there h = by (scope_called i.1.kind)
    where
      inner : (called : ℕ) → Only ps (and_then
          (or_fault (NameUnknown y.pos) (item_named y.text (scope_items ns.decls called))) (λ k.
          where_true (not (is_some (scope_called k.1.kind))) (NameUnknown y.pos) (inner_aim scope p i.0 k)))
      inner called = only_or_at ps y.pos (item_named y.text (scope_items ns.decls called)) _ there (λ k.
          only_where_at ps (not (is_some (scope_called k.1.kind))) y.pos (inner_aim scope p i.0 k) there
          (only_where ps (may_be_given k.1.kind) (Misplaced p) _ (λ q e. cc e) (only_ok ps _)))

      by : (called : Option ℕ) → Only ps (and_then
          (or_fault (part_fault ns.decls p y (structure_of i.1.ty)) called) (λ c.
          and_then (or_fault (NameUnknown y.pos) (item_named y.text (scope_items ns.decls c))) (λ k.
          where_true (not (is_some (scope_called k.1.kind))) (NameUnknown y.pos) (inner_aim scope p i.0 k))))
      by None = part_only ps p y (structure_of i.1.ty) there
      by (Some c) = inner c

  at_only : (ps : List Pos) (w : Name) (y : Option Name)
      → ((q : Pos) → IsOneOf q (map (λ v. v.pos) (option_to_list y)) → IsOneOf q ps)
      → is_some (item_named w.text ns.items) ≡ true → Only ps (aim_at ns scope w y)
  at_only ps w None more h = own_only ps w.pos (item_named w.text ns.items) h
  at_only ps w (Some y) more h = called_only ps w.pos y (item_named w.text ns.items) (more y.pos (inl refl)) h

  aim_only : (ps : List Pos) (t : TargetName) → ((q : Pos) → IsOneOf q (target_typed_names t) → IsOneOf q ps)
      → target_faults known t ≡ [] → Only ps (aim_of ns scope t)
  aim_only ps t more h = only_then ps (aim_at ns scope t.name t.inner) _
      (at_only ps t.name t.inner more
      (item_known t.name (nothing_in (unless (is_name t.name.text known.items) t.name) _ h)))
      (λ aim. only_where ps _ (TypeMismatch t.name.pos) (Ok aim) (λ q e. cc e) (only_ok ps aim))

  -- an aim has as many parameters as are named
  aim_counted : (t : TargetName) → OnFound (λ aim. length t.params ≡ length aim.params) (aim_of ns scope t)
  aim_counted t = on_then (λ aim. Unit {0}) (λ (aim : Aim). length t.params ≡ length aim.params)
      (aim_at ns scope t.name t.inner) _ (on_any (aim_at ns scope t.name t.inner)) (λ aim i.
      on_where (λ (a : Aim). length t.params ≡ length a.params) (nat_eq (length t.params) (length aim.params)) _
      (Ok aim)
      (λ e. grind (arith, e)))

  -- ---- conditions

  condition_only : (ps : List Pos) (c : Option Node) (front : List (List ℕ)) (ls : List Local) → Covers front ls
      → unknown_in_condition known c front ≡ []
      → ((q : Pos) → IsOneOf q (condition_typed_names c) → IsOneOf q ps) → Only ps (condition_meant ns c ls)
  condition_only ps None front ls covers h more = only_ok ps None
  condition_only ps (Some e) front ls covers h more =
      only_then ps (boolean_of ns e ls) _ (only_expected ps (Some flat_ty.Boolean) (meant ns e ls None)
      (only_more (typed_names e) ps (meant ns e ls None) (λ q i. more q (in_front q (typed_names e) [] i))
      (each_is_fine ns known agree e front ls covers h None))) (λ x. only_ok ps _)

  whole_only : (ps : List Pos) (block c : Option Node) (params : List Name) (types : List Ty)
      → length params ≡ length types → unknown_in_condition known block [] ≡ []
      → unknown_in_condition known c (texts params) ≡ []
      → ((q : Pos) → IsOneOf q (condition_typed_names block) → IsOneOf q ps)
      → ((q : Pos) → IsOneOf q (condition_typed_names c) → IsOneOf q ps)
      → Only ps (whole_condition ns block c params types)
  whole_only ps block c params types many h i more_block more =
      only_both ps (condition_meant ns block (nameless_params types))
      (condition_meant ns c (named_params params types)) _
      (condition_only ps block [] (nameless_params types) (no_texts (nameless_params types)) h more_block)
      (condition_only ps c (texts params) (named_params params types) (params_cover params types many) i more)
      (λ b own. only_ok ps _)

  -- ---- lines

  use_only : (ps : List Pos) (block : Option Node) (u : Use) → unknown_in_condition known block [] ≡ []
      → use_faults known u ≡ [] → ((q : Pos) → IsOneOf q (condition_typed_names block) → IsOneOf q ps)
      → ((q : Pos) → IsOneOf q (use_typed_names u) → IsOneOf q ps) → Only ps (use_lines ns scope block u)
  use_only ps block (uses.Definition l p t c e) hb h more_block more =
      let at = target_typed_names t in let of_c = condition_typed_names c in let front = at ++ of_c in
      let target = target_faults known t in
      let two = target ++ unknown_in_condition known c (texts t.params) in
      only_then ps (definition_meant ns scope block l p t c e) _
      (only_next ps (λ (aim : Aim). length t.params ≡ length aim.params) (aim_of ns scope t) _
      (aim_only ps t (λ q i. more q (in_front q front (typed_names e) (in_front q at of_c i)))
      (nothing_in target _ (nothing_in two _ h))) (aim_counted t) (λ aim many.
      only_both ps (whole_condition ns block c t.params aim.params)
      (meant ns e (named_params t.params aim.params) (Some aim.ty)) _
      (whole_only ps block c t.params aim.params many hb (nothing_behind target _ (nothing_in two _ h)) more_block
      (λ q i. more q (in_front q front (typed_names e) (behind q at of_c i))))
      (only_more (typed_names e) ps (meant ns e (named_params t.params aim.params) (Some aim.ty))
      (λ q i. more q (behind q front (typed_names e) i))
      (each_is_fine ns known agree e (texts t.params) (named_params t.params aim.params)
      (params_cover t.params aim.params many) (nothing_behind two _ h) (Some aim.ty)))
      (λ k x. only_ok ps _))) (λ d. only_ok ps _)
  use_only ps block (uses.Rule l p t c f) hb h more_block more =
      let at = target_typed_names t in let of_c = condition_typed_names c in
      let target = target_faults known t in
      only_then ps (rule_meant ns scope block l p t c f) _
      (only_next ps (λ (aim : Aim). length t.params ≡ length aim.params) (aim_of ns scope t) _
      (aim_only ps t (λ q i. more q (in_front q at of_c i)) (nothing_in target _ h)) (aim_counted t) (λ aim many.
      only_both ps (where_true aim.condition (Misplaced p) (Ok aim)) (whole_condition ns block c t.params aim.params) _
      (only_where ps aim.condition (Misplaced p) (Ok aim) (λ q e. cc e) (only_ok ps aim))
      (whole_only ps block c t.params aim.params many hb (nothing_behind target _ h) more_block
      (λ q i. more q (behind q at of_c i)))
      (λ own k. only_ok ps _))) (λ d. only_ok ps _)
  use_only ps block (uses.Assertion p e) hb h more_block more =
      only_then ps (assertion_meant ns p e) _ (only_then ps (boolean_of ns e []) _
      (only_expected ps (Some flat_ty.Boolean) (meant ns e [] None)
      (only_more (typed_names e) ps (meant ns e [] None) more
      (each_is_fine ns known agree e [] [] (no_texts []) h None))) (λ x. only_ok ps _)) (λ a. only_ok ps _)
  use_only ps block (uses.DateRound p up) hb h more_block more = only_ok ps []

  uses_only : (ps : List Pos) (block : Option Node) (us : List Use) → unknown_in_condition known block [] ≡ []
      → flat_map (use_faults known) us ≡ [] → ((q : Pos) → IsOneOf q (condition_typed_names block) → IsOneOf q ps)
      → ((q : Pos) → IsOneOf q (flat_map use_typed_names us) → IsOneOf q ps)
      → Only ps (all_lines (use_lines ns scope block) us)
  uses_only ps block [] hb h more_block more = only_ok ps []
  uses_only ps block (u ∷ us) hb h more_block more =
      let rest = flat_map use_typed_names us in
      only_both ps (use_lines ns scope block u) (all_lines (use_lines ns scope block) us) _
      (use_only ps block u hb (nothing_in (use_faults known u) _ h) more_block
      (λ q i. more q (in_front q (use_typed_names u) rest i)))
      (uses_only ps block us hb (nothing_behind (use_faults known u) _ h) more_block
      (λ q i. more q (behind q (use_typed_names u) rest i))) (λ xs ys. only_ok ps _)

  pub block_only : (b : Block) → block_faults known b ≡ [] → Only (item_typed_names (item.Block b))
      (block_lines ns scope b)
  block_only b h =
      let front = unknown_in_condition known b.condition [] in let of_c = condition_typed_names b.condition in
      let rest = flat_map use_typed_names b.uses in let ps = of_c ++ rest in
      only_both ps (condition_meant ns b.condition []) (all_lines (use_lines ns scope b.condition) b.uses) _
      (condition_only ps b.condition [] [] (no_texts []) (nothing_in front _ h) (λ q i. in_front q of_c rest i))
      (uses_only ps b.condition b.uses (nothing_in front _ h) (nothing_behind front _ h)
      (λ q i. in_front q of_c rest i) (λ q i. behind q of_c rest i)) (λ x lines. only_ok ps _)

-- ---- the scope of a block

-- the names of what is declared
pub record AreNamed (items : List Item) (ds : Decls) : Type 0 where
  pub structures : map (λ (s : Structure). s.name) ds.structures ≡ texts (names_of (structures_in items))
  pub enumerations : map (λ (e : Enumeration). e.name) ds.enumerations ≡ texts (names_of (enumerations_in items))
  pub scopes : map (λ (s : Scope). s.name) ds.scopes ≡ texts (names_of (scopes_in items))

each_named : {A B : Type 0} (f : Name × A → Found B) (name_of : B → List ℕ)
    → ((x : Name × A) (y : B) → f x ≡ Ok y → name_of y ≡ x.0.text) → (xs : List (Name × A)) (ys : List B)
    → each_found f xs ≡ Ok ys → map name_of ys ≡ texts (names_of xs)
each_named f name_of named [] ys h = let is : [] ≡ ys = cc h in ap (map name_of) (sym is)
each_named f name_of named (x ∷ xs) ys h =
    let found = both_ok (f x) (each_found f xs) (λ y rest. Ok (y ∷ rest)) ys h in
    let is : found.0 ∷ found.1 ≡ ys = cc found.4 in
    ap (map name_of) (sym is)
    ∙ ap (λ t. t ∷ map name_of found.1) (named x found.0 found.2)
    ∙ ap (λ ts. x.0.text ∷ ts) (each_named f name_of named xs found.1 found.3)

pub all_named : (tree : Tree) (ds : Decls) → DeclaredParts tree.items (parts_of ds) → AreNamed tree.items ds
all_named tree ds parts =
    let items = tree.items in let names = types_in items in record {
      structures = each_named (structure_declared names) (λ (s : Structure). s.name) (λ x y h.
          let made = then_ok (each_found (field_declared names) x.1) _ y h in
          let is : record { name = x.0.text; fields = made.0 } ≡ y = cc made.2 in
          ap (λ (s : Structure). s.name) (sym is)) (structures_in items) ds.structures parts.structures;
      enumerations = each_named (enumeration_declared names) (λ (e : Enumeration). e.name) (λ x y h.
          let made = then_ok (each_found (case_declared names) x.1) _ y h in
          let is : record { name = x.0.text; cases = made.0 } ≡ y = cc made.2 in
          ap (λ (e : Enumeration). e.name) (sym is)) (enumerations_in items) ds.enumerations parts.enumerations;
      scopes = each_named (scope_declared names (scope_names_in items)) (λ (s : Scope). s.name) (λ x y h.
          let made = then_ok (each_found (item_declared names (scope_names_in items)) x.1) _ y h in
          let is : record { name = x.0.text; items = made.0 } ≡ y = cc made.2 in
          ap (λ (s : Scope). s.name) (sym is)) (scopes_in items) ds.scopes parts.scopes;
    }

-- the items of a scope have the names of its variables
pub item_name : (names : TypeNames) (scopes : List (List ℕ)) (v : Variable) (i : ItemDecl)
    → item_declared names scopes v ≡ Ok i → i.name ≡ (variable_name v).text
item_name names scopes (variable.Own k p w t params) i h =
    let found = both_ok (variable_type names t) (each_found (λ f. type_found names f.ty) params) _ i h in
    let is : variable_item k w t found.0 found.1 ≡ i = cc found.4 in ap (λ (x : ItemDecl). x.name) (sym is)
item_name names scopes (variable.Called w u) i h =
    let found = then_ok (or_fault (NameUnknown u.pos) (first_named (λ name. name) u.text scopes)) _ i h in
    let is : called_item_of w found.0.0 ≡ i = cc found.2 in ap (λ (x : ItemDecl). x.name) (sym is)

pub items_named : (names : TypeNames) (scopes : List (List ℕ)) (vs : List Variable) (is : List ItemDecl)
    → each_found (item_declared names scopes) vs ≡ Ok is
    → map (λ (i : ItemDecl). i.name) is ≡ texts (map variable_name vs)
items_named names scopes [] is h = let same : [] ≡ is = cc h in ap (map (λ (i : ItemDecl). i.name)) (sym same)
items_named names scopes (v ∷ vs) is h =
    let found = both_ok (item_declared names scopes v) (each_found (item_declared names scopes) vs)
    (λ y rest. Ok (y ∷ rest)) is h in
    let same : found.0 ∷ found.1 ≡ is = cc found.4 in
    ap (map (λ (i : ItemDecl). i.name)) (sym same)
    ∙ ap (λ t. t ∷ map (λ (i : ItemDecl). i.name) found.1) (item_name names scopes v found.0 found.2)
    ∙ ap (λ ts. (variable_name v).text ∷ ts) (items_named names scopes vs found.1 found.3)

-- where names are apart, a name has the variables of one scope alone
no_variables : (w : List ℕ) (xs : List (Name × List Variable))
    → AllHave (λ t. bytes_eq w t ≡ false) (texts (names_of xs)) → flat_map (variables_of w) xs ≡ []
no_variables w [] all = refl
no_variables w (x ∷ xs) all = ap (λ vs. vs ++ flat_map (variables_of w) xs) (by (bytes_eq x.0.text w) refl)
    ∙ no_variables w xs all.1
  where
    by : (b : Bool) → bytes_eq x.0.text w ≡ b → (if b then x.1 else []) ≡ []
    by true e = let same : x.0.text ≡ w = (bytes_eq-Decides x.0.text w).0 e in
        let equal : bytes_eq w x.0.text ≡ true = (bytes_eq-Decides w x.0.text).1 (sym same) in cc (equal, all.0)
    by false e = refl

pub variables_are : (w : List ℕ) (xs : List (Name × List Variable)) (k : ℕ) (x : Name × List Variable)
    → Apart (texts (names_of xs)) → slice_get xs k ≡ Some x → x.0.text ≡ w → flat_map (variables_of w) xs ≡ x.1
variables_are w [] k x apart h is = cc h
variables_are w (y ∷ ys) zero x apart h is =
    let same : y ≡ x = cc h in
    let here : y.0.text ≡ w = ap (λ (z : Name × List Variable). z.0.text) same ∙ is in
    let equal : bytes_eq y.0.text w ≡ true = (bytes_eq-Decides y.0.text w).1 here in
    let rest = no_variables w ys (subst (λ t. AllHave (λ u. bytes_eq t u ≡ false)
    (texts (names_of ys))) here apart.0) in
    ap (λ b. (if b then y.1 else []) ++ flat_map (variables_of w) ys) equal
    ∙ ap (λ vs. y.1 ++ vs) rest ∙ append-nil y.1 ∙ ap (λ (z : Name × List Variable). z.1) same
variables_are w (y ∷ ys) (suc k) x apart h is =
    let other : bytes_eq y.0.text w ≡ false = subst (λ t. bytes_eq y.0.text t ≡ false) is
    (named_at (λ t. bytes_eq y.0.text t ≡ false) ys k x apart.0 h) in
    ap (λ b. (if b then y.1 else []) ++ flat_map (variables_of w) ys) other ∙ variables_are w ys k x apart.1 h is
  where
    named_at : (P : List ℕ → Type 0) (zs : List (Name × List Variable)) (j : ℕ) (z : Name × List Variable)
        → AllHave P (texts (names_of zs)) → slice_get zs j ≡ Some z → P z.0.text
    named_at P [] j z all e = cc e
    named_at P (v ∷ zs) zero z all e = let same : v ≡ z = cc e in
        subst (λ (u : Name × List Variable). P u.0.text) same all.0
    named_at P (v ∷ zs) (suc j) z all e = named_at P zs j z all.1 e
