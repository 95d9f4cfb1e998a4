-- A scope has no more definitions than its tree has in all, and those are counted.
use Rattle.std.proofs.Common.{◌≡◌, ◌≤◌, ◌+◌, ℕ, Bool, true, false, List, [], ◌∷◌, refl, sym, ap, subst, arith}
use Rattle.std.proofs.lemmas.List.{length-append}
use Rattle.std.specs.Prelude.{◌++◌, length, map, filter, flat_map, Option, Some, None, Ok}
use Rattle.std.specs.Prelude.{if◌then◌else◌}
use Rattle.cat_pos.specs.declared.pos.Pos.{Pos}
use Rattle.cat_value.specs.declared.decls.Decls.{Decls}
use Rattle.cat_value.specs.declared.declaration.Scope.{Scope}
use Rattle.cat_tree.specs.declared.expression.Node.{Node}
use Rattle.cat_tree.specs.declared.program.Use.{Use}
use Rattle.cat_tree.specs.declared.program.Use.TheVariants as uses
use Rattle.cat_tree.specs.declared.program.Item.{Item}
use Rattle.cat_tree.specs.declared.program.Item.TheVariants as item
use Rattle.cat_tree.specs.declared.program.Tree.{Tree}
use Rattle.cat_scope.specs.declared.defs.Body.{Body}
use Rattle.cat_scope.specs.Names.{Names, AllHave}
use Rattle.cat_names.specs.Limits.{most_definitions}
use Rattle.cat_names.specs.declared.typed.Typed.{Typed}
use Rattle.cat_names.specs.Found.{Found, and_then, each_found}
use Rattle.cat_names.specs.Lists.{numbered}
use Rattle.cat_names.specs.Lines.{Line, Declaration, Condition, Definition, Assertion, use_lines, all_lines}
use Rattle.cat_names.specs.Lines.{condition_lines, is_about, item_lines, lines_found}
use Rattle.cat_names.specs.Definitions.{condition_meant, definition_meant, rule_meant, assertion_meant}
use Rattle.cat_names.specs.Bodies.{UnorderedBody, outward_function, contradictions, rounds_in, rounding_of, defs_in}
use Rattle.cat_names.specs.Bodies.{body_of, body_found}
use Rattle.cat_names.specs.DeclarationFaults.{declared_name}
use Rattle.cat_names.specs.Declarations.{declared_of}
use Rattle.cat_names.specs.NameFaults.{definition_position, definition_positions, item_faults}
use Rattle.cat_names.specs.Unknown.{twice}
use Rattle.cat_names.specs.Found.{faults_of}
use Rattle.cat_names.specs.Accepted.{IsMeant, unordered}
use Rattle.cat_names.proofs.DeclaredCounts.{none_past}
use Rattle.cat_names.proofs.OkParts.{then_ok, both_ok, none_ok, nothing_behind}

-- ---- what is found

each_has : {A B : Type 0} (f : A → Found B) (Has : B → Type 0) → ((x : A) (y : B) → f x ≡ Ok y → Has y)
    → (xs : List A) (ys : List B) → each_found f xs ≡ Ok ys → AllHave Has ys
each_has f Has one [] ys h = let is : [] ≡ ys = cc h in subst (AllHave Has) is tt
each_has f Has one (x ∷ xs) ys h =
    let found = both_ok (f x) (each_found f xs) (λ y more. Ok (y ∷ more)) ys h in
    let is : found.0 ∷ found.1 ≡ ys = cc found.4 in
    subst (AllHave Has) is (one x found.0 found.2, each_has f Has one xs found.1 found.3)

-- ---- lines

-- some lines have no more definitions than there are positions
abbrev Few : List Line → List Pos → Type 0
Few lines positions = length (defs_in lines) ≤ length positions

defs_behind : (lines more : List Line) → length (defs_in (lines ++ more))
    ≡ length (defs_in lines) + length (defs_in more)
defs_behind [] more = omega arith
defs_behind (Declaration ∷ lines) more = defs_behind lines more
defs_behind (Condition e ∷ lines) more = defs_behind lines more
defs_behind (Definition d ∷ lines) more = omega (arith, defs_behind lines more)
defs_behind (Assertion a ∷ lines) more = defs_behind lines more

all_few : {A : Type 0} (f : A → Found (List Line)) (count : A → List Pos)
    → ((x : A) (lines : List Line) → f x ≡ Ok lines → Few lines (count x))
    → (xs : List A) (lines : List Line) → all_lines f xs ≡ Ok lines → Few lines (flat_map count xs)
all_few f count one [] lines h = let is : [] ≡ lines = cc h in subst (λ ls. Few ls []) is (omega arith)
all_few f count one (x ∷ xs) lines h =
    let found = both_ok (f x) (all_lines f xs) (λ here more. Ok (here ++ more)) lines h in
    let is : found.0 ++ found.1 ≡ lines = cc found.4 in
    let here = one x found.0 found.2 in
    let others = all_few f count one xs found.1 found.3 in
    subst (λ ls. Few ls (flat_map count (x ∷ xs))) is
    (omega (arith, here, others, defs_behind found.0 found.1, length-append (count x) (flat_map count xs)))

use_few : (ns : Names) (scope : ℕ) (block : Option Node) (u : Use) (lines : List Line)
    → use_lines ns scope block u ≡ Ok lines → Few lines (definition_position u)
use_few ns scope block (uses.Definition l p t c e) lines h =
    let found = then_ok (definition_meant ns scope block l p t c e) _ lines h in
    let is : Definition found.0 ∷ [] ≡ lines = cc found.2 in
    subst (λ ls. Few ls (p ∷ [])) is (omega arith)
use_few ns scope block (uses.Rule l p t c f) lines h =
    let found = then_ok (rule_meant ns scope block l p t c f) _ lines h in
    let is : Definition found.0 ∷ [] ≡ lines = cc found.2 in
    subst (λ ls. Few ls (p ∷ [])) is (omega arith)
use_few ns scope block (uses.Assertion p e) lines h =
    let found = then_ok (assertion_meant ns p e) _ lines h in
    let is : Assertion found.0 ∷ [] ≡ lines = cc found.2 in
    subst (λ ls. Few ls []) is (omega arith)
use_few ns scope block (uses.DateRound p up) lines h =
    let is : [] ≡ lines = cc h in subst (λ ls. Few ls []) is (omega arith)

behind_condition : (x : Option Typed) (lines : List Line) → defs_in (condition_lines x ++ lines) ≡ defs_in lines
behind_condition None lines = refl
behind_condition (Some x) lines = refl

item_few : (ns : Names) (scope : ℕ) (i : Item) (lines : List Line) → item_lines ns scope i ≡ Ok lines
    → Few lines (definition_positions i)
item_few ns scope (item.Block b) lines h =
    let found = both_ok (condition_meant ns b.condition []) (all_lines (use_lines ns scope b.condition) b.uses) _
    lines h in
    let is : condition_lines found.0 ++ found.1 ≡ lines = cc found.4 in
    let few = all_few (use_lines ns scope b.condition) definition_position (use_few ns scope b.condition) b.uses
    found.1 found.3 in
    subst (λ ls. Few ls (flat_map definition_position b.uses)) is
    (subst (λ ds. length ds ≤ length (flat_map definition_position b.uses))
    (sym (behind_condition found.0 found.1)) few)
item_few ns scope (item.Scope p u variables) lines h =
    let is : Declaration ∷ [] ≡ lines = cc h in subst (λ ls. Few ls []) is (omega arith)
item_few ns scope (item.Structure p u fields) lines h =
    let is : [] ≡ lines = cc h in subst (λ ls. Few ls []) is (omega arith)
item_few ns scope (item.Enumeration p u cases) lines h =
    let is : [] ≡ lines = cc h in subst (λ ls. Few ls []) is (omega arith)

-- ---- bodies

-- what is left of a list counts no more
filtered_few : {A : Type 0} (test : A → Bool) (count : A → List Pos) (xs : List A)
    → length (flat_map count (filter test xs)) ≤ length (flat_map count xs)
filtered_few test count [] = omega arith
filtered_few test count (x ∷ xs) = by (test x) (filtered_few test count xs)
  where
    by : (b : Bool) → length (flat_map count (filter test xs)) ≤ length (flat_map count xs)
        → length (flat_map count (if b then x ∷ filter test xs else filter test xs))
        ≤ length (flat_map count (x ∷ xs))
    by true few =
        let kept = length-append (count x) (flat_map count (filter test xs)) in
        omega (arith, few, kept, length-append (count x) (flat_map count xs))
    by false few = omega (arith, few, length-append (count x) (flat_map count xs))

body_few : (ds : Decls) (items : List Item) (scope : ℕ × Scope) (u : UnorderedBody)
    → body_found ds items scope ≡ Ok u → length u.defs ≤ length (flat_map definition_positions items)
body_few ds items scope u h =
    let ns : Names = record { decls = ds; items = scope.1.items } in
    let rounds = rounds_in ds scope.0 items in
    let made : List Line → Found UnorderedBody = λ lines. Ok (body_of scope.1.items (rounding_of rounds) lines) in
    let inner = (none_ok (flat_map outward_function scope.1.items ++ contradictions rounds)
    (and_then (lines_found ns scope.0 items) made) u h).1 in
    let found = then_ok (lines_found ns scope.0 items) made u inner in
    let is : body_of scope.1.items (rounding_of rounds) found.0 ≡ u = cc found.2 in
    let few = all_few (item_lines ns scope.0) definition_positions (item_few ns scope.0)
    (filter (is_about ds scope.0) items) found.0 found.1 in
    let defs : length (defs_in found.0) ≡ length u.defs = ap (λ (b : UnorderedBody). length b.defs) is in
    omega (arith, few, defs, filtered_few (is_about ds scope.0) definition_positions items)

-- ---- counts

unordered_few : (most : ℕ) (bodies : List Body) → AllHave (λ u. length u.defs ≤ most) (map unordered bodies)
    → most ≤ most_definitions → AllHave (λ body. length body.defs ≤ most_definitions) bodies
unordered_few most [] all within = tt
unordered_few most (body ∷ bodies) all within =
    (omega (arith, all.0, within), unordered_few most bodies all.1 within)

-- a scope has no more definitions than a tree may have
pub few_definitions : (tree : Tree) (decls : Decls) (bodies : List Body) → IsMeant tree decls bodies
    → AllHave (λ body. length body.defs ≤ most_definitions) bodies
few_definitions tree decls bodies meant =
    let counted = none_past most_definitions (flat_map definition_positions tree.items)
    (nothing_behind (twice (flat_map declared_name tree.items) ++ faults_of (declared_of tree.items)
    ++ flat_map (item_faults tree.items) tree.items) _ meant.named.names) in
    let all = each_has (body_found decls tree.items)
    (λ u. length u.defs ≤ length (flat_map definition_positions tree.items)) (body_few decls tree.items)
    (numbered decls.scopes) (map unordered bodies) meant.meant in
    unordered_few (length (flat_map definition_positions tree.items)) bodies all (omega (arith, counted))
