use Rattle.std.proofs.Common.{rules, ◌≡◌, ◌∙◌, ℕ, List, Some, None, slice_get, sym, ap}
use Rattle.std.specs.Option.{option_copied}
use Rattle.cat_lower.specs.Starts.{output_numbers}
use Rattle.cat_lower.proofs.StartLemmas.{numbers_there, output_read}
use Rattle.cat_lower.proofs.outputs.output_of.Goals as goal

pub returns-in_err-outputs : goal.returns-in_err-outputs
returns-in_err-outputs c =
    let here = c.args.here.now in
    let s = c.args.scope in
    let scope = c.in_ok-declared.declared.now in
    let there : slice_get here.decls.now.scopes s ≡ Some scope = search rules in
    let none : slice_get here.outputs.now s ≡ None = search rules in
    let numbers : slice_get here.outputs.now s ≡ Some (output_numbers 0 scope.items) =
    ap (λ (l : List (List ℕ)). slice_get l s) c.tables_are_made.ensures.outputs
    ∙ numbers_there here.decls.now.scopes s scope there in
    let clash : None ≡ Some (output_numbers 0 scope.items) = sym none ∙ numbers in
    absurd (cc clash)

pub returns-in_err-item : goal.returns-in_err-item
returns-in_err-item c =
    let here = c.args.here.now in
    let s = c.args.scope in
    let k = c.args.number in
    let scope = c.in_ok-declared.declared.now in
    let listed : List ℕ = c.in_ok-outputs.outputs.now in
    let there : slice_get here.decls.now.scopes s ≡ Some scope = search rules in
    let read : slice_get here.outputs.now s ≡ Some listed = search rules in
    let numbers : slice_get here.outputs.now s ≡ Some (output_numbers 0 scope.items) =
    ap (λ (l : List (List ℕ)). slice_get l s) c.tables_are_made.ensures.outputs
    ∙ numbers_there here.decls.now.scopes s scope there in
    let both : Some listed ≡ Some (output_numbers 0 scope.items) = sym read ∙ numbers in
    let same : listed ≡ output_numbers 0 scope.items = cc both in
    let none : slice_get listed k ≡ None = search rules in
    let gone : option_copied c.from_residual-in_err-item.result ≡ None = search rules in
    gone ∙ output_read here.decls.now s k scope None there (ap (λ (l : List ℕ). slice_get l k) (sym same) ∙ none)

pub returns : goal.returns
returns c =
    let here = c.args.here.now in
    let s = c.args.scope in
    let k = c.args.number in
    let scope = c.in_ok-declared.declared.now in
    let listed : List ℕ = c.in_ok-outputs.outputs.now in
    let item = c.in_ok-item.item.now in
    let there : slice_get here.decls.now.scopes s ≡ Some scope = search rules in
    let read : slice_get here.outputs.now s ≡ Some listed = search rules in
    let numbers : slice_get here.outputs.now s ≡ Some (output_numbers 0 scope.items) =
    ap (λ (l : List (List ℕ)). slice_get l s) c.tables_are_made.ensures.outputs
    ∙ numbers_there here.decls.now.scopes s scope there in
    let both : Some listed ≡ Some (output_numbers 0 scope.items) = sym read ∙ numbers in
    let same : listed ≡ output_numbers 0 scope.items = cc both in
    let some : slice_get listed k ≡ Some item = search rules in
    c.get-4.ensures.value ∙ output_read here.decls.now s k scope (Some item) there
    (ap (λ (l : List ℕ). slice_get l k) (sym same) ∙ some)
