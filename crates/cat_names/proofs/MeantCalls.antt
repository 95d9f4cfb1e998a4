-- Each scope that a tree says a scope calls is one that its items call, or one that a word of its blocks names.
use Rattle.std.specs.Prelude.{flat_map}
use Rattle.std.proofs.Common.{◌≡◌, ◌⊎◌, ℕ, List, [], ◌∷◌, ◌++◌, map, Option, Some, None, Ok, refl, ap, subst, inl, inr}
use Rattle.std.proofs.Common.{if◌then◌else◌, Bool, true, false}
use Rattle.std.proofs.lemmas.List.{append_assoc}
use Rattle.cat_pos.specs.declared.pos.Pos.{Pos}
use Rattle.cat_value.specs.declared.ty.Ty.{Ty}
use Rattle.cat_value.specs.declared.ty.Ty.TheVariants as flat_ty
use Rattle.cat_value.specs.declared.declaration.Kind.{Kind}
use Rattle.cat_value.specs.declared.declaration.Kind.TheVariants as kind
use Rattle.cat_value.specs.declared.declaration.ItemDecl.{ItemDecl}
use Rattle.cat_value.specs.declared.declaration.Scope.{Scope}
use Rattle.cat_value.specs.declared.decls.Decls.{Decls}
use Rattle.cat_tree.specs.declared.name.Name.{Name}
use Rattle.cat_tree.specs.declared.expression.Node.{Node}
use Rattle.cat_tree.specs.declared.program.Lead.{Lead}
use Rattle.cat_tree.specs.declared.program.TargetName.{TargetName}
use Rattle.cat_tree.specs.declared.program.Fulfilled.{Fulfilled}
use Rattle.cat_tree.specs.declared.program.Use.{Use}
use Rattle.cat_tree.specs.declared.program.Use.TheVariants as uses
use Rattle.cat_tree.specs.declared.program.Block.{Block}
use Rattle.cat_tree.specs.declared.program.Item.{Item}
use Rattle.cat_tree.specs.declared.program.Item.TheVariants as item
use Rattle.cat_scope.specs.declared.expr.Expr.TheVariants as leaf
use Rattle.cat_scope.specs.declared.expr.Expr.TheViews as expr
use Rattle.cat_scope.specs.declared.expr.Literal.TheVariants as literal
use Rattle.cat_scope.specs.declared.defs.Def.{Def}
use Rattle.cat_scope.specs.declared.defs.Assertion as asserted
use Rattle.cat_scope.specs.Names.{Names, AllHave, IsOneOf, is_in}
use Rattle.cat_scope.specs.Mentions.{own_scope, scopes_named}
use Rattle.cat_scope.specs.Orders.{in_condition, in_def, called_by_kind, called_by_items, called_in, once}
use Rattle.cat_scope.proofs.Exported.{names_by_level}
use Rattle.cat_names.proofs.ListLaws.{behind, each_of, in_front}
use Rattle.cat_scope.proofs.Exported.{all_append}
use Rattle.cat_names.specs.declared.typed.Typed.{Typed}
use Rattle.cat_names.specs.declared.typed.Local.{Local}
use Rattle.cat_names.specs.Meaning.{meant}
use Rattle.cat_names.specs.Aims.{aim_of}
use Rattle.cat_names.specs.Definitions.{boolean_of, condition_meant, conjunction, nameless_params, named_params}
use Rattle.cat_names.specs.Definitions.{whole_condition, definition_meant, rule_meant, assertion_meant, is_fulfilled}
use Rattle.cat_names.specs.Lines.{Line, Declaration, Condition, Definition, Assertion, use_lines, all_lines}
use Rattle.cat_names.specs.Lines.{condition_lines, block_lines, items_about, item_lines, lines_found}
use Rattle.cat_names.specs.Bodies.{UnorderedBody, outward_function, contradictions, rounds_in, rounding_of, defs_in}
use Rattle.cat_names.specs.Bodies.{assertions_in, source_part, body_of, body_found}
use Rattle.cat_names.specs.ScopeWords.{scope_words, condition_words, use_words, item_words, words_in, IsWordOf}
use Rattle.cat_names.specs.ScopeWords.{AreWordsOf}
use Rattle.cat_names.specs.TypedMeanings.{OnFound}
use Rattle.cat_names.proofs.OnFound.{on_then, on_both, on_any}
use Rattle.cat_names.proofs.OkParts.{then_ok, none_ok, on_ok}
use Rattle.cat_names.proofs.CalledWords.{more_words, left_words, right_words, both_words, Calls, calls_fitting}
use Rattle.cat_names.proofs.CalledLaws.{each_call_is_written}

-- a scope that an item calls, or that one of these words names
abbrev pub IsCalledBy : Decls → List ItemDecl → List Name → ℕ → Type 0
IsCalledBy ds items ws n = ((i : ItemDecl) × IsOneOf i items × (i.kind ≡ kind.Called n)) ⊎ IsWordOf ds ws n

module _ (ns : Names) (scope : ℕ) where
  abbrev By : List Name → List ℕ → Type 0
  By ws scopes = AreWordsOf ns.decls ws scopes

  -- ---- conditions

  boolean_calls : (e : Node) (ls : List Local) → OnFound (Calls ns.decls (scope_words e)) (boolean_of ns e ls)
  boolean_calls e ls = calls_fitting ns.decls (scope_words e) (Some flat_ty.Boolean) (meant ns e ls None)
      (each_call_is_written ns e ls None)

  -- a condition, where there is one
  abbrev ConditionBy : List Name → Option Typed → Type 0
  ConditionBy ws None = Unit {0}
  ConditionBy ws (Some x) = Calls ns.decls ws x

  condition_calls : (c : Option Node) (ls : List Local) → OnFound (ConditionBy (condition_words c))
      (condition_meant ns c ls)
  condition_calls None ls = tt
  condition_calls (Some e) ls = on_then (Calls ns.decls (scope_words e)) (ConditionBy (scope_words e))
      (boolean_of ns e ls) _ (boolean_calls e ls) (λ x h. h)

  conjunction_calls : (ws vs : List Name) (b c : Option Typed) → ConditionBy ws b → ConditionBy vs c
      → By (ws ++ vs) (in_condition scopes_named (conjunction b c))
  conjunction_calls ws vs None None h i = tt
  conjunction_calls ws vs (Some b) None h i = left_words ns.decls ws vs (scopes_named b.expr) h
  conjunction_calls ws vs None (Some c) h i = right_words ns.decls ws vs (scopes_named c.expr) i
  conjunction_calls ws vs (Some b) (Some c) h i = rw (
    names_by_level own_scope (expr.And b.first b.expr c.expr),
    expr.outs-And b.first b.expr c.expr,
  ) (both_words ns.decls ws vs (scopes_named b.expr) (scopes_named c.expr) h i)

  whole_calls : (block c : Option Node) (params : List Name) (types : List Ty)
      → OnFound (λ e. By (condition_words block ++ condition_words c) (in_condition scopes_named e))
      (whole_condition ns block c params types)
  whole_calls block c params types = on_both (ConditionBy (condition_words block)) (ConditionBy (condition_words c))
      (λ e. By (condition_words block ++ condition_words c) (in_condition scopes_named e))
      (condition_meant ns block (nameless_params types)) (condition_meant ns c (named_params params types)) _
      (condition_calls block (nameless_params types)) (condition_calls c (named_params params types))
      (λ b own h i. conjunction_calls (condition_words block) (condition_words c) b own h i)

  -- ---- lines

  -- a line whose scopes are named by these words
  abbrev LineBy : List Name → Line → Type 0
  LineBy ws Declaration = Unit {0}
  LineBy ws (Condition e) = By ws (scopes_named e)
  LineBy ws (Definition d) = By ws (in_def scopes_named d)
  LineBy ws (Assertion a) = By ws (scopes_named a.condition)

  line_more : (ws vs : List Name) → ((w : Name) → IsOneOf w ws → IsOneOf w vs) → (line : Line) → LineBy ws line
      → LineBy vs line
  line_more ws vs more Declaration h = tt
  line_more ws vs more (Condition e) h = more_words ns.decls ws vs more (scopes_named e) h
  line_more ws vs more (Definition d) h = more_words ns.decls ws vs more (in_def scopes_named d) h
  line_more ws vs more (Assertion a) h = more_words ns.decls ws vs more (scopes_named a.condition) h

  abbrev LinesBy : List Name → List Line → Type 0
  LinesBy ws lines = AllHave (LineBy ws) lines

  lines_more : (ws vs : List Name) → ((w : Name) → IsOneOf w ws → IsOneOf w vs) → (lines : List Line) → LinesBy ws lines
      → LinesBy vs lines
  lines_more ws vs more [] h = tt
  lines_more ws vs more (line ∷ lines) h = (line_more ws vs more line h.0, lines_more ws vs more lines h.1)

  both_lines : (ws vs : List Name) (xs ys : List Line) → LinesBy ws xs → LinesBy vs ys → LinesBy (ws ++ vs) (xs ++ ys)
  both_lines ws vs xs ys h i = all_append (LineBy (ws ++ vs)) xs ys
      (lines_more ws (ws ++ vs) (λ w. in_front w ws vs) xs h) (lines_more vs (ws ++ vs) (λ w. behind w ws vs) ys i)

  definition_calls : (block : Option Node) (l : Lead) (p : Pos) (t : TargetName) (c : Option Node) (e : Node)
      → OnFound (λ d. By (condition_words block ++ condition_words c ++ scope_words e) (in_def scopes_named d))
      (definition_meant ns scope block l p t c e)
  definition_calls block l p t c e =
      let front = condition_words block ++ condition_words c in
      on_then (λ aim. Unit {0}) (λ (d : Def). By (front ++ scope_words e) (in_def scopes_named d)) (aim_of ns scope t) _
      (on_any (aim_of ns scope t)) (λ aim i.
      on_both (λ k. By front (in_condition scopes_named k)) (Calls ns.decls (scope_words e))
      (λ (d : Def). By (front ++ scope_words e) (in_def scopes_named d))
      (whole_condition ns block c t.params aim.params)
      (meant ns e (named_params t.params aim.params) (Some aim.ty)) _
      (whole_calls block c t.params aim.params)
      (each_call_is_written ns e (named_params t.params aim.params) (Some aim.ty))
      (λ k x h g. both_words ns.decls front (scope_words e) (in_condition scopes_named k) (scopes_named x.expr) h g))

  rule_calls : (block : Option Node) (l : Lead) (p : Pos) (t : TargetName) (c : Option Node) (f : Fulfilled)
      → OnFound (λ d. By (condition_words block ++ condition_words c) (in_def scopes_named d))
      (rule_meant ns scope block l p t c f)
  rule_calls block l p t c f =
      let front = condition_words block ++ condition_words c in
      on_then (λ aim. Unit {0}) (λ (d : Def). By front (in_def scopes_named d)) (aim_of ns scope t) _
      (on_any (aim_of ns scope t)) (λ aim i.
      on_both (λ own. Unit {0}) (λ k. By front (in_condition scopes_named k))
      (λ (d : Def). By front (in_def scopes_named d)) _ (whole_condition ns block c t.params aim.params) _
      (on_any _) (whole_calls block c t.params aim.params)
      (λ own k j h. all_append (IsWordOf ns.decls front) (in_condition scopes_named k)
      (scopes_named (leaf.Literal p (literal.Boolean (is_fulfilled f)))) h
      (rw (
        names_by_level own_scope (leaf.Literal p (literal.Boolean (is_fulfilled f))),
        expr.outs-Literal p (literal.Boolean (is_fulfilled f)),
      ) tt)))

  use_calls : (block : Option Node) (u : Use) → OnFound (LinesBy (condition_words block ++ use_words u))
      (use_lines ns scope block u)
  use_calls block (uses.Definition l p t c e) =
      on_then (λ d. By (condition_words block ++ condition_words c ++ scope_words e) (in_def scopes_named d))
      (LinesBy (condition_words block ++ (condition_words c ++ scope_words e)))
      (definition_meant ns scope block l p t c e)
      _ (definition_calls block l p t c e)
      (λ d h. (
        subst (λ ws. By ws (in_def scopes_named d))
            (append_assoc (condition_words block) (condition_words c) (scope_words e)) h,
        tt,
      ))
  use_calls block (uses.Rule l p t c f) =
      on_then (λ d. By (condition_words block ++ condition_words c) (in_def scopes_named d))
      (LinesBy (condition_words block ++ condition_words c)) (rule_meant ns scope block l p t c f) _
      (rule_calls block l p t c f) (λ d h. (h, tt))
  use_calls block (uses.Assertion p e) =
      on_then (λ (a : asserted.Assertion). By (scope_words e) (scopes_named a.condition))
      (LinesBy (condition_words block ++ scope_words e)) (assertion_meant ns p e) _
      (on_then (Calls ns.decls (scope_words e)) (λ (a : asserted.Assertion). By (scope_words e)
      (scopes_named a.condition))
      (boolean_of ns e []) _ (boolean_calls e []) (λ x h. h))
      (λ a h. (right_words ns.decls (condition_words block) (scope_words e) (scopes_named a.condition) h, tt))
  use_calls block (uses.DateRound p up) = tt

  -- a word of a condition or of one use, or of the condition or of the others
  here : (front here rest : List Name) (w : Name) → IsOneOf w (front ++ here) → IsOneOf w (front ++ (here ++ rest))
  here front here_ rest w h = subst (IsOneOf w) (append_assoc front here_ rest) (in_front w (front ++ here_) rest h)

  there : (front here rest : List Name) (w : Name) → IsOneOf w (front ++ rest) → IsOneOf w (front ++ (here ++ rest))
  there [] here_ rest w h = behind w here_ rest h
  there (x ∷ front) here_ rest w (inl is) = inl is
  there (x ∷ front) here_ rest w (inr h) = inr (there front here_ rest w h)

  uses_calls : (block : Option Node) (us : List Use) → OnFound
      (LinesBy (condition_words block ++ flat_map use_words us))
      (all_lines (use_lines ns scope block) us)
  uses_calls block [] = tt
  uses_calls block (u ∷ us) =
      let front = condition_words block in let rest = flat_map use_words us in
      let all = front ++ (use_words u ++ rest) in
      on_both (LinesBy (front ++ use_words u)) (LinesBy (front ++ rest)) (LinesBy all) (use_lines ns scope block u)
      (all_lines (use_lines ns scope block) us) _ (use_calls block u) (uses_calls block us)
      (λ xs ys h i. all_append (LineBy all) xs ys
      (lines_more (front ++ use_words u) all (here front (use_words u) rest) xs h)
      (lines_more (front ++ rest) all (there front (use_words u) rest) ys i))

  condition_by : (ws : List Name) (c : Option Typed) → ConditionBy ws c → LinesBy ws (condition_lines c)
  condition_by ws None h = tt
  condition_by ws (Some x) h = (h, tt)

  block_calls : (b : Block) → OnFound (LinesBy (condition_words b.condition ++ flat_map use_words b.uses))
      (block_lines ns scope b)
  block_calls b =
      let front = condition_words b.condition in let all = front ++ flat_map use_words b.uses in
      on_both (ConditionBy front) (LinesBy all) (LinesBy all) (condition_meant ns b.condition [])
      (all_lines (use_lines ns scope b.condition) b.uses) _ (condition_calls b.condition [])
      (uses_calls b.condition b.uses)
      (λ c lines h i. all_append (LineBy all) (condition_lines c) lines
      (lines_more front all (λ w. in_front w front (flat_map use_words b.uses)) (condition_lines c)
      (condition_by front c h)) i)

  item_calls : (i : Item) → OnFound (LinesBy (item_words i)) (item_lines ns scope i)
  item_calls (item.Structure p u fields) = tt
  item_calls (item.Enumeration p u cases) = tt
  item_calls (item.Scope p u variables) = (tt, tt)
  item_calls (item.Block b) = block_calls b

  items_calls : (items : List Item) → OnFound (LinesBy (flat_map item_words items))
      (all_lines (item_lines ns scope) items)
  items_calls [] = tt
  items_calls (i ∷ items) =
      on_both (LinesBy (item_words i)) (LinesBy (flat_map item_words items))
      (LinesBy (item_words i ++ flat_map item_words items)) (item_lines ns scope i)
      (all_lines (item_lines ns scope) items)
      _ (item_calls i) (items_calls items)
      (λ xs ys h g. both_lines (item_words i) (flat_map item_words items) xs ys h g)

  -- ---- calls

  kind_called : (k : Kind) → AllHave (λ n. k ≡ kind.Called n) (called_by_kind k)
  kind_called (kind.Called n) = (refl, tt)
  kind_called kind.Input = tt
  kind_called kind.InputOutput = tt
  kind_called kind.Output = tt
  kind_called kind.Internal = tt
  kind_called kind.Context = tt
  kind_called kind.ContextOutput = tt

  by_items : (all : List ItemDecl) (ws : List Name) (items : List ItemDecl)
      → ((i : ItemDecl) → IsOneOf i items → IsOneOf i all) → AllHave (IsCalledBy ns.decls all ws)
      (called_by_items items)
  by_items all ws [] among = tt
  by_items all ws (i ∷ items) among =
      all_append (IsCalledBy ns.decls all ws) (called_by_kind i.kind) (called_by_items items)
      (each_of (λ n. i.kind ≡ kind.Called n) (IsCalledBy ns.decls all ws) (λ n is. inl (i, among i (inl refl), is))
      (called_by_kind i.kind) (kind_called i.kind))
      (by_items all ws items (λ j h. among j (inr h)))

  by_words : (all : List ItemDecl) (ws : List Name) (ms : List ℕ) → By ws ms → AllHave (IsCalledBy ns.decls all ws) ms
  by_words all ws ms h = each_of (IsWordOf ns.decls ws) (IsCalledBy ns.decls all ws) (λ n is. inr is) ms h

  lines_called : (all : List ItemDecl) (ws : List Name) (lines : List Line) → LinesBy ws lines
      → AllHave (IsCalledBy ns.decls all ws) (called_in all (map source_part lines) (defs_in lines)
      (assertions_in lines))
  lines_called all ws [] h = tt
  lines_called all ws (Declaration ∷ lines) h = all_append (IsCalledBy ns.decls all ws) (called_by_items all) _
      (by_items all ws all (λ i is. is)) (lines_called all ws lines h.1)
  lines_called all ws (Condition e ∷ lines) h = all_append (IsCalledBy ns.decls all ws) (scopes_named e) _
      (by_words all ws (scopes_named e) h.0) (lines_called all ws lines h.1)
  lines_called all ws (Definition d ∷ lines) h = all_append (IsCalledBy ns.decls all ws) (in_def scopes_named d) _
      (by_words all ws (in_def scopes_named d) h.0) (lines_called all ws lines h.1)
  lines_called all ws (Assertion a ∷ lines) h = all_append (IsCalledBy ns.decls all ws) (scopes_named a.condition) _
      (by_words all ws (scopes_named a.condition) h.0) (lines_called all ws lines h.1)

  once_all : (P : ℕ → Type 0) (seen ms : List ℕ) → AllHave P ms → AllHave P (once seen ms)
  once_all P seen [] h = tt
  once_all P seen (m ∷ ms) h = by (is_in m seen) (once_all P seen ms h.1) (once_all P (m ∷ seen) ms h.1)
    where
      by : (b : Bool) → AllHave P (once seen ms) → AllHave P (once (m ∷ seen) ms)
          → AllHave P (if b then once seen ms else m ∷ once (m ∷ seen) ms)
      by true some more = some
      by false some more = (h.0, more)

-- each scope that a body calls is called by an item, or named by a word of its blocks
pub calls_sourced : (ds : Decls) (items : List Item) (n : ℕ) (s : Scope) (b : UnorderedBody)
    → body_found ds items (n, s) ≡ Ok b
    → AllHave (IsCalledBy ds s.items (words_in ds n items)) b.calls
calls_sourced ds items n s b h =
    let ns : Names = record { decls = ds; items = s.items } in
    let ws = words_in ds n items in
    let parts = none_ok (flat_map outward_function s.items ++ contradictions (rounds_in ds n items)) _ b h in
    let found = then_ok (lines_found ns n items)
    (λ lines. Ok (body_of s.items (rounding_of (rounds_in ds n items)) lines)) b parts.1 in
    let lines = found.0 in
    let is : body_of s.items (rounding_of (rounds_in ds n items)) lines ≡ b = cc found.2 in
    let by_lines = on_ok (LinesBy ns n ws) (lines_found ns n items) lines found.1
    (items_calls ns n (items_about ds n items)) in
    subst (AllHave (IsCalledBy ds s.items ws)) (ap (λ (x : UnorderedBody). x.calls) is)
    (once_all ns n (IsCalledBy ds s.items ws) [] _ (lines_called ns n s.items ws lines by_lines))
