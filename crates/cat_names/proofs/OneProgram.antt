-- A tree has at most one program.
use Rattle.std.proofs.Common.{◌≡◌, ◌∙◌, ℕ, List, [], ◌∷◌, refl, ap, subst}
use Rattle.std.specs.Prelude.{map}
use Rattle.cat_order.specs.Order.{IsOrder}
use Rattle.cat_value.specs.declared.decls.Decls.{Decls}
use Rattle.cat_value.specs.declared.declaration.Scope.{Scope}
use Rattle.cat_tree.specs.declared.program.Tree.{Tree}
use Rattle.cat_scope.specs.declared.defs.Body.{Body}
use Rattle.cat_scope.specs.Orders.{item_dependencies, scope_dependencies}
use Rattle.cat_names.specs.Declarations.{declared_of}
use Rattle.cat_names.specs.Bodies.{UnorderedBody, bodies_meant}
use Rattle.cat_names.specs.Accepted.{parts_of, unordered, AreOrdered, IsProgramOf}
use Rattle.cat_names.proofs.DecidedLaws.{with_order}
use Rattle.cat_names.proofs.RefusedLaws.{ok_same, decls_same}

-- the law of orders on which this rests
abbrev IsOne : Type 0
IsOne = (deps : List (List ℕ)) (one : List ℕ) (other : List ℕ) → IsOrder deps one → IsOrder deps other → one ≡ other

body_same : (b m : Body) → unordered b ≡ unordered m → b.order ≡ m.order → b ≡ m
body_same b m same order =
    ap (λ (listed : List ℕ). with_order listed (unordered b)) order
    ∙ ap (λ (u : UnorderedBody). with_order m.order u) same

bodies_same : IsOne → (scopes : List Scope) (bodies more : List Body) → AreOrdered scopes bodies
    → AreOrdered scopes more → map unordered bodies ≡ map unordered more → bodies ≡ more
bodies_same one [] [] [] ordered others alike = refl
bodies_same one [] [] (m ∷ more) ordered others alike = absurd others
bodies_same one [] (b ∷ bodies) more ordered others alike = absurd ordered
bodies_same one (s ∷ scopes) [] more ordered others alike = absurd ordered
bodies_same one (s ∷ scopes) (b ∷ bodies) [] ordered others alike = absurd others
bodies_same one (s ∷ scopes) (b ∷ bodies) (m ∷ more) ordered others alike =
    let first : unordered b ≡ unordered m = cc alike in
    let rest : map unordered bodies ≡ map unordered more = cc alike in
    let deps = ap (λ (u : UnorderedBody). item_dependencies s.items u.defs) first in
    let here : IsOrder (item_dependencies s.items m.defs) b.order =
    subst (λ ds. IsOrder ds b.order) deps ordered.0 in
    let order = one (item_dependencies s.items m.defs) b.order m.order here others.0 in
    ap (λ (x : Body). x ∷ bodies) (body_same b m first order)
    ∙ ap (λ (xs : List Body). m ∷ xs) (bodies_same one scopes bodies more ordered.2 others.2 rest)

-- its declarations, its bodies and the order of its scopes are one thing each
pub one_program : IsOne → (tree : Tree) (ds other : Decls) (bodies more : List Body) (listed order : List ℕ)
    → IsProgramOf tree ds bodies listed → IsProgramOf tree other more order
    → (ds ≡ other) × (bodies ≡ more) × (listed ≡ order)
one_program one tree ds other bodies more listed order is also =
    let decls : ds ≡ other = decls_same ds other (ok_same (declared_of tree.items) (parts_of ds) (parts_of other)
    is.meant.named.declared also.meant.named.declared) in
    let here : IsProgramOf tree other bodies listed =
    subst (λ (d : Decls). IsProgramOf tree d bodies listed) decls is in
    let alike = ok_same (bodies_meant other tree) (map unordered bodies) (map unordered more)
    here.meant.meant also.meant.meant in
    let same = bodies_same one other.scopes bodies more here.items also.items alike in
    let deps = ap (λ (bs : List Body). scope_dependencies other.scopes bs) same in
    let listed_is : IsOrder (scope_dependencies other.scopes more) listed =
    subst (λ d. IsOrder d listed) deps here.order in
    (decls, same, one (scope_dependencies other.scopes more) listed order listed_is also.order)
