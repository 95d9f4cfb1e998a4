use Rattle.std.proofs.Common.{◌≡◌, ◌∙◌, ℕ, List, subst, sym, ap}
use Rattle.std.specs.Prelude.{All, IfSome}
use Rattle.std.proofs.lemmas.List.Sorted.{All-permutation}
use Rattle.cat_scope.specs.Names.{IsOneOf}
use Rattle.cat_guard.specs.Judgements.{asked_in, atoms_in}
use Rattle.cat_search.proofs.AskedLemmas.{among_itself}
use Rattle.cat_search.proofs.asked.atoms_in_order.Goals as goal

pub returns : goal.returns
returns c =
    let t = c.at-target.result.now in
    let P : ℕ → Type 0 = λ a. IsOneOf a (atoms_in t) in
    let made : c.into_vec-order.result.items ≡ atoms_in t =
    c.into_vec-order.ensures ∙ c.in_ok-asked_atoms.ensures ∙ ap asked_in c.as_slice.ensures in
    let all : All P c.into_vec-order.result.items =
    subst (λ (xs : List ℕ). All P xs) (sym made) (among_itself (atoms_in t)) in
    let sorted = All-permutation P c.into_vec-order.result.items c.sort_by_key.new.self.items
    c.in_ok-sort_by_key.ensures.permutation all in
    subst (λ o. IfSome o (λ t. All (λ (a : ℕ). IsOneOf a (atoms_in t)) c.from_vec.result)) (sym c.at-target.ensures)
    (subst (λ (xs : List ℕ). All P xs) (sym c.from_vec.ensures) sorted)
