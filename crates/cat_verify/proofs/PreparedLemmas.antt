-- Tables that are told are prepared: an image has few lines.
use Rattle.std.proofs.Common.{◌≡◌, ◌≤◌, ◌+◌, ℕ, List, [], ◌∷◌}
use Rattle.std.proofs.Common.{◌++◌, length, map, refl, sym, ap, ◌∙◌, subst, arith}
use Rattle.std.proofs.lemmas.List.{length-append, length-map}
use Rattle.std.specs.List.{flat_map}
use Rattle.cat_pos.specs.Limits.{most_input_bytes}
use Rattle.cat_order.specs.Order.{IsOrder}
use Rattle.cat_value.specs.declared.declaration.Scope.{Scope}
use Rattle.cat_value.specs.Dependencies.{type_dependencies}
use Rattle.cat_value.specs.declared.decls.Decls.{Decls}
use Rattle.cat_code.specs.declared.instr.Instr.{Instr}
use Rattle.cat_code.specs.declared.code.Tables.{Tables}
use Rattle.cat_code.specs.Places.{function_places}
use Rattle.cat_image.specs.declared.row.Row.{Row}
use Rattle.cat_image.specs.declared.row.Row.TheVariants as row
use Rattle.cat_image.specs.declared.tables.ImageScope.{ImageScope}
use Rattle.cat_image.specs.declared.tables.ImageTables.{ImageTables}
use Rattle.cat_image.specs.declared.image.Image.{Image}
use Rattle.cat_image.specs.Listed.{scopes_words}
use Rattle.cat_image.specs.Rows.{structure_rows, enumeration_rows, scope_rows, instruction_rows, joined, rows_of}
use Rattle.cat_verify_tables.specs.declared.tables.Told.{Told}
use Rattle.cat_verify_tables.specs.declared.places.FunctionPlace.{FunctionPlace}
use Rattle.cat_verify_tables.specs.TableWords.{numbered, IsTold}
use Rattle.cat_verify.specs.inside.GoodNumbers.{HasGoodNumbers}
use Rattle.cat_verify.specs.inside.Orderly.{IsOrderly}
use Rattle.cat_verify.specs.inside.Verifying.{IsPrepared}

-- ---- an image has few lines

scopes_counted : (ds : Decls) (ss : List Scope) (es : List ℕ) → length es ≡ length ss
    → length (scopes_words ds ss es) ≡ length es
scopes_counted ds [] [] same = refl
scopes_counted ds [] (e ∷ es) same = absurd (omega (arith, same))
scopes_counted ds (s ∷ ss) [] same = refl
scopes_counted ds (s ∷ ss) (e ∷ es) same =
    let rest : length (scopes_words ds ss es) ≡ length es = scopes_counted ds ss es (omega (arith, same)) in
    omega (arith, rest)

scope_counted : (ss : List ImageScope) → length ss ≤ length (flat_map scope_rows ss)
scope_counted [] = omega arith
scope_counted (s ∷ ss) =
    let rest : length ss ≤ length (flat_map scope_rows ss) = scope_counted ss in
    omega (arith, rest, length-append (scope_rows s) (flat_map scope_rows ss))

instructions_counted : (n : ℕ) (is : List Instr) → length (instruction_rows n is) ≡ length is
instructions_counted n [] = refl
instructions_counted n (i ∷ is) =
    let rest : length (instruction_rows (n + 1) is) ≡ length is = instructions_counted (n + 1) is in omega (arith, rest)

all_counted : (a b c d e f g h i j : List Row) → length d + length g + length j
    ≤ length (joined (a ∷ b ∷ c ∷ d ∷ e ∷ f ∷ g ∷ h ∷ i ∷ j ∷ []))
all_counted a b c d e f g h i j = omega (
  arith,
  length-append a (b ++ (c ++ (d ++ (e ++ (f ++ (g ++ (h ++ (i ++ (j ++ []))))))))),
  length-append b (c ++ (d ++ (e ++ (f ++ (g ++ (h ++ (i ++ (j ++ [])))))))),
  length-append c (d ++ (e ++ (f ++ (g ++ (h ++ (i ++ (j ++ []))))))),
  length-append d (e ++ (f ++ (g ++ (h ++ (i ++ (j ++ [])))))),
  length-append e (f ++ (g ++ (h ++ (i ++ (j ++ []))))),
  length-append f (g ++ (h ++ (i ++ (j ++ [])))),
  length-append g (h ++ (i ++ (j ++ []))),
  length-append h (i ++ (j ++ [])),
  length-append i (j ++ []),
  length-append j [],
)

-- how many scopes, functions and instructions an image has
pub few_rows : (image : ImageTables) (code : List Instr) (told : Told) → IsTold image told
    → length (rows_of image code) ≤ most_input_bytes
    → length told.tables.scopes + length told.tables.functions + length code ≤ most_input_bytes
few_rows image code told is few =
    let words : length image.scopes ≡ length told.tables.scopes = ap length is.tables.scopes
    ∙ scopes_counted told.tables.decls told.tables.decls.scopes told.tables.scopes is.tables.one_entry_each in
    let scopes = scope_counted image.scopes in
    let functions : length (map row.Function image.functions) ≡ length told.tables.functions =
    length-map image.functions row.Function ∙ ap length is.tables.functions in
    let instructions = instructions_counted 0 code in
    let whole = all_counted (map row.File image.files) (flat_map structure_rows image.structures)
    (flat_map enumeration_rows image.enumerations) (flat_map scope_rows image.scopes)
    (map row.Target image.targets) (map row.Definition image.definitions) (map row.Function image.functions)
    (map row.Position image.positions) (map row.Constant image.constants) (instruction_rows 0 code) in
    omega (arith, words, scopes, functions, instructions, whole, few)

pub prepared : (image : Image) (told : Told) (code : List Instr) (functions : List FunctionPlace) (types : List ℕ)
    → IsTold image.tables told → length (rows_of image.tables image.instructions) ≤ most_input_bytes
    → code ≡ image.instructions → functions ≡ told.functions → types ≡ told.order
    → IsPrepared told.tables code functions types
prepared image told code functions types is few same declared order =
    let counted = few_rows image.tables image.instructions told is few in
    let size : length code ≡ length image.instructions = ap length same in
    record {
      few = omega (arith, counted, size);
      counted = omega (arith, counted);
      declared = declared ∙ is.functions;
      enough = is.enough;
      order = subst (IsOrder (type_dependencies told.tables.decls.structures told.tables.decls.enumerations))
          (sym order) is.order;
      cases = is.tables.cases;
      scopes = is.tables.one_entry_each;
      targets = is.targets;
      constants = is.constants;
    }

pub orderly : (tables : Tables) (code : List Instr) (functions : List FunctionPlace) (types : List ℕ)
    → IsPrepared tables code functions types → length tables.functions ≤ length functions
    → HasGoodNumbers tables code → IsOrderly tables code functions
orderly tables code functions types is most good =
    let declared : length functions ≡ length (function_places tables.decls) =
    ap length is.declared ∙ length-map (function_places tables.decls) numbered in
    let enough = is.enough in
    record {
      few = is.few;
      counted = is.counted;
      declared = is.declared;
      one_each = omega (arith, most, declared, enough);
      good = good;
    }
