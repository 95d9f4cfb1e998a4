-- What a spelled tree says of its scopes stands in the files of its tokens: definitions, assertions and operations.
use Rattle.std.specs.Prelude.{filter}
use Rattle.std.proofs.Common.{◌≡◌, ℕ, Bool, true, false, List, [], ◌∷◌, map, Option, Some, None, Ok, Err, refl, IfSome}
use Rattle.cat_pos.specs.declared.pos.Pos.{Pos}
use Rattle.cat_pos.specs.Position.{pos_file}
use Rattle.cat_value.specs.declared.ty.Ty.{Ty}
use Rattle.cat_value.specs.declared.ty.Ty.TheVariants as flat_ty
use Rattle.cat_value.specs.declared.declaration.Scope.{Scope}
use Rattle.cat_value.specs.declared.decls.Decls.{Decls}
use Rattle.cat_tree.specs.declared.name.Name.{Name}
use Rattle.cat_tree.specs.declared.expression.Node.{Node}
use Rattle.cat_tree.specs.declared.program.Lead.{Lead}
use Rattle.cat_tree.specs.declared.program.TargetName.{TargetName}
use Rattle.cat_tree.specs.declared.program.Fulfilled.{Fulfilled}
use Rattle.cat_tree.specs.declared.program.Use.{Use}
use Rattle.cat_tree.specs.declared.program.Use.TheVariants as uses
use Rattle.cat_tree.specs.declared.program.Block.{Block}
use Rattle.cat_tree.specs.declared.program.Item.{Item}
use Rattle.cat_tree.specs.declared.program.Item.TheVariants as item
use Rattle.cat_tree.specs.declared.program.Tree.{Tree}
use Rattle.cat_tree.specs.Grammar.{phrase}
use Rattle.cat_tree.specs.Programs.{condition_parts, item_parts, block_parts, program_parts}
use Rattle.cat_tree.specs.Uses.{lead_parts, target_parts, use_condition_parts, use_parts}
use Rattle.cat_scope.specs.declared.expr.Expr.{Expr}
use Rattle.cat_scope.specs.declared.expr.Expr.TheViews as expr
use Rattle.cat_scope.specs.declared.expr.Literal.TheVariants as literal
use Rattle.cat_scope.specs.declared.defs.Body.{Body}
use Rattle.cat_scope.specs.Names.{Names, AllHave}
use Rattle.cat_scope.proofs.Exported.{names_by_level, all_append}
use Rattle.cat_names.specs.declared.typed.Typed.{Typed}
use Rattle.cat_names.specs.declared.typed.Local.{Local}
use Rattle.cat_names.specs.declared.fault.Fault.{Fault}
use Rattle.cat_names.specs.Found.{Found, each_found, where_none}
use Rattle.cat_names.specs.Meaning.{meant}
use Rattle.cat_names.specs.Accepted.{unordered}
use Rattle.cat_names.specs.Aims.{aim_of}
use Rattle.cat_names.specs.Definitions.{boolean_of, condition_meant, conjunction, nameless_params, named_params}
use Rattle.cat_names.specs.Definitions.{whole_condition, definition_meant, rule_meant, assertion_meant, is_fulfilled}
use Rattle.cat_names.specs.Lines.{Line, Declaration, Condition, Definition, Assertion, use_lines, all_lines}
use Rattle.cat_names.specs.Lines.{condition_lines, block_lines, is_about, items_about, item_lines, lines_found}
use Rattle.cat_names.specs.Lists.{numbered}
use Rattle.cat_names.specs.Bodies.{UnorderedBody, defs_in, assertions_in, body_found, bodies_meant}
use Rattle.cat_names.specs.TypedMeanings.{OnFound}
use Rattle.cat_lower.specs.Files.{own_file, files_in, DefFits, AssertionFits, BodyFits}
use Rattle.cat_verify_tables.proofs.Exported.{all_mapped}
use Rattle.cat_emitted.proofs.FoundLemmas.{on_then, on_both, on_any}
use Rattle.cat_emitted.proofs.FoundLemmas.{on_ok}
use Rattle.cat_emitted.proofs.TreePositions.{HasFiles, HaveFiles, files_front, files_back, files_all}
use Rattle.cat_emitted.proofs.MeantFiles as fits
use Rattle.cat_emitted.proofs.NodePositions.{meant_files}

-- ---- lists

on_all : {A B : Type 0} (P : B → Type 0) (f : A → Found B) (xs : List A) → ((x : A) → OnFound P (f x))
    → OnFound (AllHave P) (each_found f xs)
on_all P f [] each = tt
on_all P f (x ∷ xs) each =
    on_both P (AllHave P) (AllHave P) (f x) (each_found f xs) _ (each x) (on_all P f xs each) (λ y ys h i. (h, i))

filtered : {A : Type 0} (P : A → Type 0) (test : A → Bool) (xs : List A) → AllHave P xs → AllHave P (filter test xs)
filtered P test [] h = tt
filtered P test (x ∷ xs) h = by (filtered P test xs h.1) (test x) refl
  where
    by : AllHave P (filter test xs) → (b : Bool) → test x ≡ b → AllHave P (filter test (x ∷ xs))
    by more true e = rw e (h.0, more)
    by more false e = rw e more

-- ---- what stands in files

module _ (Q : ℕ → Type 0) where
  abbrev LineFits : Line → Type 0
  LineFits Declaration = Unit {0}
  LineFits (Condition e) = Unit {0}
  LineFits (Definition d) = DefFits Q d
  LineFits (Assertion a) = AssertionFits Q a

  abbrev LinesFit : List Line → Type 0
  LinesFit lines = AllHave LineFits lines

  defs_fit : (lines : List Line) → LinesFit lines → AllHave (DefFits Q) (defs_in lines)
  defs_fit [] h = tt
  defs_fit (Declaration ∷ lines) h = defs_fit lines h.1
  defs_fit (Condition e ∷ lines) h = defs_fit lines h.1
  defs_fit (Definition d ∷ lines) h = (h.0, defs_fit lines h.1)
  defs_fit (Assertion a ∷ lines) h = defs_fit lines h.1

  assertions_fit : (lines : List Line) → LinesFit lines → AllHave (AssertionFits Q) (assertions_in lines)
  assertions_fit [] h = tt
  assertions_fit (Declaration ∷ lines) h = assertions_fit lines h.1
  assertions_fit (Condition e ∷ lines) h = assertions_fit lines h.1
  assertions_fit (Definition d ∷ lines) h = assertions_fit lines h.1
  assertions_fit (Assertion a ∷ lines) h = (h.0, assertions_fit lines h.1)

  -- ---- conditions

  -- a condition as it is written, and what it means, where there is one
  abbrev IsHeld : Option Node → Type 0
  IsHeld None = Unit {0}
  IsHeld (Some e) = HasFiles Q (phrase e)

  abbrev ConditionFits : Option Typed → Type 0
  ConditionFits None = Unit {0}
  ConditionFits (Some x) = fits.Fits Q x

  block_held : (c : Option Node) → HaveFiles Q (condition_parts c) → IsHeld c
  block_held None h = tt
  block_held (Some e) h = h.0

  use_held : (c : Option Node) → HaveFiles Q (use_condition_parts c) → IsHeld c
  use_held None h = tt
  use_held (Some e) h = h.0

  module _ (ns : Names) (scope : ℕ) where
    boolean_fits : (e : Node) (ls : List Local) → HasFiles Q (phrase e) → OnFound (fits.Fits Q) (boolean_of ns e ls)
    boolean_fits e ls h =
        fits.fits_expected Q (Some flat_ty.Boolean) (meant ns e ls None) (meant_files Q ns e h ls None)

    condition_fits : (c : Option Node) (ls : List Local) → IsHeld c → OnFound ConditionFits (condition_meant ns c ls)
    condition_fits None ls h = tt
    condition_fits (Some e) ls h =
        on_then (fits.Fits Q) ConditionFits (boolean_of ns e ls) _ (boolean_fits e ls h) (λ x hx. hx)

    abbrev WholeFits : Option Expr → Type 0
    WholeFits o = IfSome o (λ e. AllHave Q (files_in e))

    conjunction_fits : (b c : Option Typed) → ConditionFits b → ConditionFits c → WholeFits (conjunction b c)
    conjunction_fits None None h i = tt
    conjunction_fits (Some b) None h i = h
    conjunction_fits None (Some c) h i = i
    conjunction_fits (Some b) (Some c) h i =
        rw (names_by_level own_file (expr.And b.first b.expr c.expr), expr.outs-And b.first b.expr c.expr)
        (all_append Q (files_in b.expr) (files_in c.expr) h i)

    whole_fits : (block c : Option Node) (params : List Name) (types : List Ty) → IsHeld block → IsHeld c
        → OnFound WholeFits (whole_condition ns block c params types)
    whole_fits block c params types h i = on_both ConditionFits ConditionFits WholeFits
        (condition_meant ns block (nameless_params types)) (condition_meant ns c (named_params params types)) _
        (condition_fits block (nameless_params types) h) (condition_fits c (named_params params types) i)
        (λ b own hb ho. conjunction_fits b own hb ho)

    -- ---- lines

    definition_fits : (block : Option Node) (l : Lead) (p : Pos) (t : TargetName) (c : Option Node) (e : Node)
        → IsHeld block → Q (pos_file p) → IsHeld c → HasFiles Q (phrase e)
        → OnFound (DefFits Q) (definition_meant ns scope block l p t c e)
    definition_fits block l p t c e hb hp hc he =
        on_then (λ aim. Unit {0}) (DefFits Q) (aim_of ns scope t) _ (on_any (aim_of ns scope t)) (λ aim i.
        on_both WholeFits (fits.Fits Q) (DefFits Q) (whole_condition ns block c t.params aim.params)
        (meant ns e (named_params t.params aim.params) (Some aim.ty)) _
        (whole_fits block c t.params aim.params hb hc)
        (meant_files Q ns e he (named_params t.params aim.params) (Some aim.ty))
        (λ k x hk hx. record { place = hp; condition = hk; consequence = hx }))

    rule_fits : (block : Option Node) (l : Lead) (p : Pos) (t : TargetName) (c : Option Node) (f : Fulfilled)
        → IsHeld block → Q (pos_file p) → IsHeld c → OnFound (DefFits Q) (rule_meant ns scope block l p t c f)
    rule_fits block l p t c f hb hp hc =
        on_then (λ aim. Unit {0}) (DefFits Q) (aim_of ns scope t) _ (on_any (aim_of ns scope t)) (λ aim i.
        on_both (λ own. Unit {0}) WholeFits (DefFits Q) _ (whole_condition ns block c t.params aim.params) _ (on_any _)
        (whole_fits block c t.params aim.params hb hc)
        (λ own k j hk. record {
          place = hp;
          condition = hk;
          consequence = fits.fits_literal Q p (literal.Boolean (is_fulfilled f));
        }))

    use_fits : (block : Option Node) (u : Use) → IsHeld block → HaveFiles Q (use_parts u)
        → OnFound LinesFit (use_lines ns scope block u)
    use_fits block (uses.Definition l p t c e) hb h =
        let own = files_back Q (lead_parts l) _ h in
        let behind = files_back Q (target_parts t) _ own.1 in
        let condition = use_held c (files_front Q (use_condition_parts c) _ behind) in
        let value = files_back Q (use_condition_parts c) _ behind in
        on_then (DefFits Q) LinesFit (definition_meant ns scope block l p t c e) _
        (definition_fits block l p t c e hb own.0 condition value.0) (λ d hd. (hd, tt))
    use_fits block (uses.Rule l p t c f) hb h =
        let own = files_back Q (lead_parts l) _ h in
        let behind = files_back Q (target_parts t) _ own.1 in
        let condition = use_held c (files_front Q (use_condition_parts c) _ behind) in
        on_then (DefFits Q) LinesFit (rule_meant ns scope block l p t c f) _
        (rule_fits block l p t c f hb own.0 condition) (λ d hd. (hd, tt))
    use_fits block (uses.Assertion p e) hb h =
        on_then (AssertionFits Q) LinesFit (assertion_meant ns p e) _
        (on_then (fits.Fits Q) (AssertionFits Q) (boolean_of ns e []) _ (boolean_fits e [] h.1.0)
        (λ x hx. record { place = h.0; condition = hx })) (λ a ha. (ha, tt))
    use_fits block (uses.DateRound p up) hb h = tt

    uses_fit : (block : Option Node) (us : List Use) → IsHeld block → AllHave (λ u. HaveFiles Q (use_parts u)) us
        → OnFound LinesFit (all_lines (use_lines ns scope block) us)
    uses_fit block [] hb h = tt
    uses_fit block (u ∷ us) hb h =
        on_both LinesFit LinesFit LinesFit (use_lines ns scope block u) (all_lines (use_lines ns scope block) us) _
        (use_fits block u hb h.0) (uses_fit block us hb h.1) (λ xs ys hx hy. all_append LineFits xs ys hx hy)

    condition_line : (c : Option Typed) → LinesFit (condition_lines c)
    condition_line None = tt
    condition_line (Some x) = (tt, tt)

    block_fits : (b : Block) → HaveFiles Q (block_parts b) → OnFound LinesFit (block_lines ns scope b)
    block_fits b h =
        let condition = block_held b.condition (files_front Q (condition_parts b.condition) _ h.1.1) in
        let rest = files_back Q (condition_parts b.condition) _ h.1.1 in
        on_both ConditionFits LinesFit LinesFit (condition_meant ns b.condition [])
        (all_lines (use_lines ns scope b.condition) b.uses) _ (condition_fits b.condition [] condition)
        (uses_fit b.condition b.uses condition (files_all Q use_parts b.uses rest))
        (λ c lines hc hl. all_append LineFits (condition_lines c) lines (condition_line c) hl)

    item_fits : (i : Item) → HaveFiles Q (item_parts i) → OnFound LinesFit (item_lines ns scope i)
    item_fits (item.Structure p u fields) h = tt
    item_fits (item.Enumeration p u cases) h = tt
    item_fits (item.Scope p u variables) h = (tt, tt)
    item_fits (item.Block b) h = block_fits b h

    items_fit : (items : List Item) → AllHave (λ i. HaveFiles Q (item_parts i)) items
        → OnFound LinesFit (all_lines (item_lines ns scope) items)
    items_fit [] h = tt
    items_fit (i ∷ items) h =
        on_both LinesFit LinesFit LinesFit (item_lines ns scope i) (all_lines (item_lines ns scope) items) _
        (item_fits i h.0) (items_fit items h.1) (λ xs ys hx hy. all_append LineFits xs ys hx hy)

  -- ---- bodies

  pub record UnorderedFits (b : UnorderedBody) : Type 0 where
    pub defs : AllHave (DefFits Q) b.defs
    pub assertions : AllHave (AssertionFits Q) b.assertions

  where_fits : {A : Type 0} (P : A → Type 0) (faults : List Fault) (found : Found A) → OnFound P found
      → OnFound P (where_none faults found)
  where_fits P [] found h = h
  where_fits P (f ∷ fs) (Ok a) h = tt
  where_fits P (f ∷ fs) (Err more) h = tt

  body_fits : (ds : Decls) (items : List Item) → AllHave (λ i. HaveFiles Q (item_parts i)) items → (s : ℕ × Scope)
      → OnFound UnorderedFits (body_found ds items s)
  body_fits ds items h s =
      let ns : Names = record { decls = ds; items = s.1.items } in
      where_fits UnorderedFits _ _
      (on_then LinesFit UnorderedFits (lines_found ns s.0 items) _
      (items_fit ns s.0 (items_about ds s.0 items)
      (filtered (λ i. HaveFiles Q (item_parts i)) (is_about ds s.0) items h))
      (λ lines hl. record { defs = defs_fit lines hl; assertions = assertions_fit lines hl }))

  pub bodies_fit : (tree : Tree) (ds : Decls) (bodies : List Body) → HaveFiles Q (program_parts tree)
      → bodies_meant ds tree ≡ Ok (map unordered bodies) → AllHave (BodyFits Q) bodies
  bodies_fit tree ds bodies h meant =
      all_ordered bodies (all_mapped UnorderedFits unordered bodies
      (on_ok (AllHave UnorderedFits) (bodies_meant ds tree) (map unordered bodies) meant
      (on_all UnorderedFits (body_found ds tree.items) (numbered ds.scopes)
      (body_fits ds tree.items (files_all Q item_parts tree.items h)))))
    where
      all_ordered : (bs : List Body) → AllHave (λ b. UnorderedFits (unordered b)) bs → AllHave (BodyFits Q) bs
      all_ordered [] h = tt
      all_ordered (b ∷ bs) h =
          (record { defs = h.0.defs; assertions = h.0.assertions }, all_ordered bs h.1)
