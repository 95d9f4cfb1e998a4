use Rattle.std.proofs.Common.{◌≡◌, ◌<◌, ℕ, List, length, get_or, slice_get, sym, subst, rules}
use Rattle.std.specs.Prelude.{All, IfSome}
use Rattle.cat_scope.specs.Names.{IsOneOf}
use Rattle.cat_guard.specs.Judgements.{atoms_in}
use Rattle.cat_search.specs.Searched.{IsSplit}
use Rattle.cat_search.proofs.TargetLemmas.{if_some, target_at, asked_below}
use Rattle.cat_search.proofs.choice.split_atom.Goals as goal

pub at-requires : goal.at-requires
at-requires c =
    let table = c.args.table.now in
    let one = target_at (λ t. IsSplit table.atoms t c.args.region.now c.args.named) table.targets c.args.target
    c.requires.target c.requires.named in
    asked_below table.terms table.atoms table.targets (search rules) c.args.target one.0 one.1 c.args.named one.2.asked

pub bound-low-requires-clause-order : goal.bound-low-requires-clause-order
bound-low-requires-clause-order c k d within =
    let table = c.args.table.now in
    let one = target_at (λ t. All (λ (a : ℕ). IsOneOf a (atoms_in t)) c.args.order.now) table.targets c.args.target
    c.requires.target c.requires.order in
    asked_below table.terms table.atoms table.targets (search rules) c.args.target one.0 one.1 _ (one.2 k d within)

pub bound-high-requires-clause-order : goal.bound-high-requires-clause-order
bound-high-requires-clause-order c k d within =
    let table = c.args.table.now in
    let one = target_at (λ t. All (λ (a : ℕ). IsOneOf a (atoms_in t)) c.args.order.now) table.targets c.args.target
    c.requires.target c.requires.order in
    asked_below table.terms table.atoms table.targets (search rules) c.args.target one.0 one.1 _ (one.2 k d within)

-- an element of the order
among : (order xs : List ℕ) (i x : ℕ) → All (λ (a : ℕ). IsOneOf a xs) order → i < length order
    → ((d : ℕ) → x ≡ get_or order i d) → IsOneOf x xs
among order xs i x all within is = subst (λ (a : ℕ). IsOneOf a xs) (sym (is x)) (all i x within)

pub is_undecided-requires-clause-number : goal.is_undecided-requires-clause-number
is_undecided-requires-clause-number c =
    let table = c.args.table.now in
    let one = target_at (λ t. All (λ (a : ℕ). IsOneOf a (atoms_in t)) c.args.order.now) table.targets c.args.target
    c.requires.target c.requires.order in
    let at = c.in-Some.ensures.lookup.3 in
    asked_below table.terms table.atoms table.targets (search rules) c.args.target one.0 one.1 c.in-Some.field-0.now
    (among c.args.order.now (atoms_in one.0) _ c.in-Some.field-0.now one.2 at.0 at.1)

pub returns-then-is_undecided : goal.returns-then-is_undecided
returns-then-is_undecided c =
    let table = c.args.table.now in
    let at = c.in-Some.ensures.lookup.3 in
    if_some (slice_get table.targets c.args.target) c.requires.named (λ t is named. record {
      unknown = named.unknown;
      asked = among c.args.order.now (atoms_in t) _ c.in-Some.field-0.now
          (subst (λ o. IfSome o (λ t. All (λ (a : ℕ). IsOneOf a (atoms_in t)) c.args.order.now)) is c.requires.order)
          at.0 at.1;
      undecided = c.is_undecided.ensures c.if-is_undecided.true;
    })
