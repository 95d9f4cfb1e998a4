-- What a tree says of a scope, and of all, from what its parts say.
use Rattle.std.proofs.Common.{◌≡◌, ◌∙◌, ℕ, ◌+◌, ◌<◌, List, [], ◌∷◌, ◌++◌, Some, Ok, Err, length, drop, get_or, refl, ap}
use Rattle.std.proofs.Common.{slice_get, sym, subst, map}
use Rattle.std.specs.List.{enumerate_from}
use Rattle.std.proofs.lemmas.List.{append_assoc}
use Rattle.cat_date.specs.declared.rounding.Rounding.{Rounding}
use Rattle.cat_value.specs.declared.declaration.ItemDecl.{ItemDecl}
use Rattle.cat_value.specs.declared.declaration.Scope.{Scope}
use Rattle.cat_value.specs.declared.decls.Decls.{Decls}
use Rattle.cat_tree.specs.declared.program.Item.{Item}
use Rattle.cat_scope.specs.declared.defs.Body.{Body}
use Rattle.cat_scope.specs.Names.{IsOneOf, items_in}
use Rattle.cat_scope.specs.Orders.{called_in, once}
use Rattle.cat_names.specs.declared.fault.Fault.{Fault}
use Rattle.cat_names.specs.declared.fault.Refusal.{Refusal}
use Rattle.cat_names.specs.declared.fault.Refusal.TheVariants.{Memory, Refused}
use Rattle.cat_names.specs.Accepted.{unordered}
use Rattle.cat_names.specs.Bodies.{UnorderedBody, body_of}
use Rattle.cat_names.specs.Found.{Found, Stands, Tells, and_then, both, each_found, where_none}
use Rattle.cat_names.specs.Lines.{Line, all_lines, item_lines, items_about, lines_found}
use Rattle.cat_names.specs.Naming.{names_in_scope}
use Rattle.cat_names.proofs.Exported.{behind, beside_stands, found_stands, in_front, left_tells, then_tells}
use Rattle.cat_check_exprs.specs.declared.said.Said.{Said}
use Rattle.cat_check_exprs.specs.Saying as saying
use Rattle.cat_check_exprs.proofs.Exported.{gather_off, gather_on}
use Rattle.cat_check.proofs.Picked.{dropped}

-- ---- one scope

none_there : {A : Type 0} (faults : List Fault) (x y : A) → where_none faults (Ok x) ≡ Ok y → faults ≡ []
none_there [] x y h = refl
none_there (f ∷ faults) x y h = cc h

same_there : {A : Type 0} (faults : List Fault) (x y : A) → where_none faults (Ok x) ≡ Ok y → x ≡ y
same_there [] x y h = cc h
same_there (f ∷ faults) x y h = cc h

one_there : {A : Type 0} (f : Fault) (faults : List Fault) (x : A) → Stands {A = A} f (where_none faults (Ok x))
    → IsOneOf f faults
one_there f [] x h = h
one_there f (g ∷ faults) x h = h

pub outward_exit : {A : Type 0} (e : Refusal) (outward rounds : List Fault) (found : Found A)
    → Tells {A = Unit {0}} (Err e) (where_none outward (Ok tt))
    → Tells {A = A} (Err e) (where_none (outward ++ rounds) found)
outward_exit Memory outward rounds found h = tt
outward_exit (Refused f) outward rounds found h =
    beside_stands f (outward ++ rounds) found (in_front f outward rounds (one_there f outward tt h))

pub rounds_exit : {A : Type 0} (e : Refusal) (outward rounds : List Fault) (r : Rounding) (found : Found A)
    → Tells {A = Rounding} (Err e) (where_none rounds (Ok r))
    → Tells {A = A} (Err e) (where_none (outward ++ rounds) found)
rounds_exit Memory outward rounds r found h = tt
rounds_exit (Refused f) outward rounds r found h =
    beside_stands f (outward ++ rounds) found (behind f outward rounds (one_there f rounds r h))

pub lines_exit : {A : Type 0} (e : Refusal) (faults : List Fault) (lines : Found (List Line))
    (go : List Line → Found A) → Tells {A = Said} (Err e) (saying.behind saying.nothing_said lines)
    → Tells {A = A} (Err e) (where_none faults (and_then lines go))
lines_exit Memory faults lines go h = tt
lines_exit (Refused f) faults (Ok lines) go h = elim h [ ]
lines_exit (Refused f) faults (Err fs) go h = found_stands f faults (Err fs) h

-- a body of what was said
abbrev pub said_body : List ItemDecl → Rounding → Said → UnorderedBody
said_body items r said = record {
  defs = said.defs;
  assertions = said.assertions;
  source = said.source;
  rounding = r;
  calls = once [] (called_in items said.source said.defs said.assertions);
}

lines_body : (items : List ItemDecl) (r : Rounding) (lines : Found (List Line)) (said : Said)
    → saying.behind saying.nothing_said lines ≡ Ok said
    → and_then lines (λ found. Ok (body_of items r found)) ≡ Ok (said_body items r said)
lines_body items r (Ok lines) said h = let is : saying.with_lines saying.nothing_said lines ≡ said = cc h in
    ap (λ (now : Said). Ok (said_body items r now)) is
lines_body items r (Err fs) said h = cc h

-- where all functions are internal, none is told
none_outward : (outward : List Fault) → Tells {A = Unit {0}} (Ok tt) (where_none outward (Ok tt)) → outward ≡ []
none_outward [] h = refl
none_outward (f ∷ faults) h = cc h

pub all_found : (items : List ItemDecl) (outward rounds : List Fault) (of r : Rounding) (lines : Found (List Line))
    (said : Said) → Tells {A = Unit {0}} (Ok tt) (where_none outward (Ok tt)) → where_none rounds (Ok of) ≡ Ok r
    → saying.behind saying.nothing_said lines ≡ Ok said
    → where_none (outward ++ rounds) (and_then lines (λ found. Ok (body_of items of found)))
    ≡ Ok (said_body items r said)
all_found items outward rounds of r lines said inward agree found =
    let none : outward ++ rounds ≡ [] = ap (λ fs. fs ++ rounds) (none_outward outward inward)
    ∙ none_there rounds of r agree in
    ap (λ faults. where_none faults (and_then lines (λ found. Ok (body_of items of found)))) none
    ∙ ap (λ way. and_then lines (λ found. Ok (body_of items way found))) (same_there rounds of r agree)
    ∙ lines_body items r lines said found

-- ---- items one after another

-- what one says stands behind what was said before it
pub said_on : (f : Item → Found (List Line)) (x : Item) (rest : List Item) (said mid : Said) (whole : Found Said)
    → saying.behind said (f x) ≡ Ok mid → saying.behind said (all_lines f (x ∷ rest)) ≡ whole
    → saying.behind mid (all_lines f rest) ≡ whole
said_on f x rest said mid whole says before = gather_on said mid (f x) (all_lines f rest) says ∙ before

pub said_off : (f : Item → Found (List Line)) (x : Item) (rest : List Item) (said : Said) (whole : Found Said)
    (e : Refusal) → Tells {A = Said} (Err e) (saying.behind said (f x))
    → saying.behind said (all_lines f (x ∷ rest)) ≡ whole → Tells {A = Said} (Err e) whole
said_off f x rest said whole e h before =
    subst (λ found. Tells {A = Said} (Err e) found) before (gather_off said (f x) (all_lines f rest) e h)

-- the lines that are said of a scope, which is declared so
pub lines_are : (ds : Decls) (n : ℕ) (s : Scope) (items picked : List Item) → slice_get ds.scopes n ≡ Some s
    → picked ≡ items_about ds n items
    → all_lines (item_lines (names_in_scope ds n) n) picked
    ≡ lines_found (record { decls = ds; items = s.items }) n items
lines_are ds n s items picked declared about =
    ap (all_lines (item_lines (names_in_scope ds n) n)) about
    ∙ ap (λ own. all_lines (item_lines (record { decls = ds; items = items_in own }) n) (items_about ds n items))
    declared

-- ---- all scopes

-- what is found, behind what is made
abbrev pub front : {A : Type 0} → List A → Found (List A) → Found (List A)
front made found = and_then found (λ xs. Ok (made ++ xs))

-- what a thing gives with its number, and those behind it
each_at : {A B : Type 0} (f : ℕ × A → Found B) (xs : List A) (i : ℕ) (x : A) → i < length xs → get_or xs i x ≡ x
    → each_found f (enumerate_from i (drop i xs))
    ≡ both (f (i, x)) (each_found f (enumerate_from (i + 1) (drop (i + 1) xs))) (λ y ys. Ok (y ∷ ys))
each_at f xs i x within is = ap (λ from. each_found f (enumerate_from i from)) (dropped xs i x within is)

one_on : {A : Type 0} (made : List A) (x : A) (rest : Found (List A))
    → front (made ++ x ∷ []) rest ≡ front made (both (Ok x) rest (λ y ys. Ok (y ∷ ys)))
one_on made x (Ok ys) = ap Ok (append_assoc made (x ∷ []) ys)
one_on made x (Err fs) = refl

pub each_on : {A B : Type 0} (f : ℕ × A → Found B) (xs : List A) (i : ℕ) (x : A) (y : B) (made : List B)
    (whole : Found (List B)) → i < length xs → get_or xs i x ≡ x → f (i, x) ≡ Ok y
    → front made (each_found f (enumerate_from i (drop i xs))) ≡ whole
    → front (made ++ y ∷ []) (each_found f (enumerate_from (i + 1) (drop (i + 1) xs))) ≡ whole
each_on f xs i x y made whole within is found before =
    let rest = each_found f (enumerate_from (i + 1) (drop (i + 1) xs)) in
    one_on made y rest ∙ ap (λ part. front made (both part rest (λ y ys. Ok (y ∷ ys)))) (sym found)
    ∙ ap (front made) (sym (each_at f xs i x within is)) ∙ before

pub each_off : {A B : Type 0} (f : ℕ × A → Found B) (xs : List A) (i : ℕ) (x : A) (made : List B)
    (whole : Found (List B)) (e : Refusal) → i < length xs → get_or xs i x ≡ x → Tells {A = B} (Err e) (f (i, x))
    → front made (each_found f (enumerate_from i (drop i xs))) ≡ whole → Tells {A = List B} (Err e) whole
each_off {A} {B} f xs i x made whole e within is h before =
    let rest = each_found f (enumerate_from (i + 1) (drop (i + 1) xs)) in
    subst (λ found. Tells {A = List B} (Err e) found)
    (ap (front made) (sym (each_at f xs i x within is)) ∙ before)
    (then_tells e (both (f (i, x)) rest (λ y ys. Ok (y ∷ ys))) (λ xs. Ok (made ++ xs))
    (left_tells e (f (i, x)) rest (λ y ys. Ok (y ∷ ys)) h))

-- one body more
pub unordered_more : (bodies : List Body) (body : Body)
    → map unordered bodies ++ unordered body ∷ [] ≡ map unordered (bodies ++ body ∷ [])
unordered_more [] body = refl
unordered_more (b ∷ bodies) body = ap (λ more. unordered b ∷ more) (unordered_more bodies body)
