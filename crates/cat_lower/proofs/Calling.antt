-- What a scope call passes may be given.
use Rattle.std.proofs.Common.{◌≡◌, ℕ, suc, ◌+◌, Bool, true, false, true≢false, ◌&&◌, not, List, [], ◌∷◌}
use Rattle.std.proofs.Common.{Option, Some, None, refl, sym, ap, ◌∙◌, slice_get, if◌then◌else◌, arith}
use Rattle.cat_value.specs.declared.value.Value.{Value}
use Rattle.cat_value.specs.declared.value.Value.TheVariants as flat
use Rattle.cat_value.specs.declared.declaration.Kind.{Kind}
use Rattle.cat_value.specs.declared.declaration.Kind.TheVariants as kind
use Rattle.cat_value.specs.declared.declaration.ItemDecl.{ItemDecl}
use Rattle.cat_value.specs.Inputs.{must_be_given, may_be_given}
use Rattle.cat_scope.specs.Composed.{value_given}
use Rattle.cat_scope.specs.Names.{is_in, inputs_given}
use Rattle.cat_scope.specs.Calls.{call_entry, call_input}
use Rattle.cat_lower.proofs.Slots.{numbers, IsGivable, AreGivable, given_so, none_so}
use Rattle.cat_lower.proofs.TypesAgree.{both_so}

pub must_may : (k : Kind) → must_be_given k ≡ true → may_be_given k ≡ true
must_may kind.Input is = refl
must_may kind.InputOutput is = refl
must_may kind.Context is = refl
must_may kind.ContextOutput is = refl
must_may _ is = is

entry_givable : (item : ItemDecl) (o : Option Value) (given : Bool)
    → ((v : Value) → o ≡ Some v → may_be_given item.kind ≡ true)
    → (o ≡ None → given ≡ false) → (if must_be_given item.kind && not item.condition then given else true) ≡ true
    → IsGivable item (call_entry item o)
entry_givable item (Some v) given may none must = may v refl
entry_givable item None given may none must = by (must_be_given item.kind) refl item.condition refl
  where
    by : (b : Bool) → must_be_given item.kind ≡ b → (c : Bool) → item.condition ≡ c
        → IsGivable item (if must_be_given item.kind && item.condition then Some (flat.Boolean false) else None)
    by true is true condition = rw (is, condition) (must_may item.kind is)
    by true is false condition = let there : given ≡ true = rw (is, condition) at must in
        absurd (true≢false (sym there ∙ none refl))
    by false is c condition = rw is is

-- fields whose numbers are those of inputs and contexts, where each input that is no condition is among them
pub given_are_givable : (fs : List (ℕ × Value)) (items : List ItemDecl) (n : ℕ)
    → ((k : ℕ) (item : ItemDecl) → slice_get items k ≡ Some item → is_in (n + k) (numbers fs) ≡ true
    → may_be_given item.kind ≡ true)
    → inputs_given n items (numbers fs) ≡ true → AreGivable items (call_input n fs items)
given_are_givable fs [] n may must = tt
given_are_givable fs (item ∷ items) n may must =
    let here : n + 0 ≡ n = omega arith in
    let parts = both_so (if must_be_given item.kind && not item.condition then is_in n (numbers fs) else true)
    (inputs_given (n + 1) items (numbers fs)) must in (
      entry_givable item (value_given n fs) (is_in n (numbers fs))
          (λ v is. may 0 item refl (ap (λ m. is_in m (numbers fs)) here ∙ given_so n fs v is)) (none_so n fs) parts.0,
      given_are_givable fs items (n + 1) (λ k other there among.
          let moved : n + suc k ≡ (n + 1) + k = omega arith in
          may (suc k) other there (ap (λ m. is_in m (numbers fs)) moved ∙ among)) parts.1,
    )
