-- What the targets of a scope are: its variables that need not be given, and the inputs and contexts of called scopes.
use Rattle.std.proofs.Common.{◌≡◌, ℕ, suc, ◌+◌, Bool, true, false, IsTrue, List, [], ◌∷◌, Option, Some, None}
use Rattle.std.proofs.Common.{slice_get, refl, ap, subst, arith, if◌then◌else◌}
use Rattle.cat_value.specs.declared.decls.Decls.{Decls}
use Rattle.cat_value.specs.declared.declaration.Kind.{Kind}
use Rattle.cat_value.specs.declared.declaration.Kind.TheVariants as kind
use Rattle.cat_value.specs.declared.declaration.ItemDecl.{ItemDecl}
use Rattle.cat_value.specs.declared.outcome.Target.{Target}
use Rattle.cat_value.specs.Inputs.{must_be_given, may_be_given}
use Rattle.cat_scope.specs.Names.{AllHave, is_called, scope_items}
use Rattle.cat_scope.proofs.Exported.{all_append}
use Rattle.cat_scope.specs.Forests.{called_targets, targets_at, item_targets, targets_of}

module _ (ds : Decls) (scope : ℕ) (items : List ItemDecl) (P : Target → Type 0) where
  -- a variable at an item
  abbrev Own : ℕ → Type 0
  Own item =
      (decl : ItemDecl) → slice_get items item ≡ Some decl → is_called decl.kind ≡ false
      → must_be_given decl.kind ≡ false → P (record { scope = scope; item = item; inner = None })

  -- an input or a context of a called scope at an item
  abbrev Inner : ℕ → Type 0
  Inner item =
      (decl : ItemDecl) (s j : ℕ) (i : ItemDecl) → slice_get items item ≡ Some decl → decl.kind ≡ kind.Called s
      → slice_get (scope_items ds s) j ≡ Some i → IsTrue (may_be_given i.kind)
      → P (record { scope = scope; item = item; inner = Some j })

  module _ (item : ℕ) (own : Own item) (inner : Inner item) where
    called_all : (n : ℕ) (decls : List ItemDecl)
        → ((j : ℕ) (i : ItemDecl) → slice_get decls j ≡ Some i → IsTrue (may_be_given i.kind)
        → P (record { scope = scope; item = item; inner = Some (n + j) }))
        → AllHave P (called_targets scope item n decls)
    called_all n [] each = tt
    called_all n (decl ∷ decls) each = by (may_be_given decl.kind) refl
        (called_all (n + 1) decls (λ j i is may.
        subst (λ (m : ℕ). P (record { scope = scope; item = item; inner = Some m })) (omega arith)
        (each (suc j) i is may)))
      where
        by : (b : Bool) → may_be_given decl.kind ≡ b → AllHave P (called_targets scope item (n + 1) decls)
            → AllHave P (if b then record { scope = scope; item = item; inner = Some n }
            ∷ called_targets scope item (n + 1) decls else called_targets scope item (n + 1) decls)
        by true e rest = (
          subst (λ (m : ℕ). P (record { scope = scope; item = item; inner = Some m })) (omega arith)
              (each 0 decl refl e),
          rest,
        )
        by false e rest = rest

    at_kind : (decl : ItemDecl) → slice_get items item ≡ Some decl → (k : Kind) → decl.kind ≡ k
        → AllHave P (targets_at ds scope item k)
    at_kind decl at kind.Input e = tt
    at_kind decl at kind.InputOutput e = tt
    at_kind decl at kind.Context e = (own decl at (ap is_called e) (ap must_be_given e), tt)
    at_kind decl at kind.ContextOutput e = (own decl at (ap is_called e) (ap must_be_given e), tt)
    at_kind decl at kind.Internal e = (own decl at (ap is_called e) (ap must_be_given e), tt)
    at_kind decl at kind.Output e = (own decl at (ap is_called e) (ap must_be_given e), tt)
    at_kind decl at (kind.Called s) e =
        called_all 0 (scope_items ds s) (λ j i is may.
        subst (λ (m : ℕ). P (record { scope = scope; item = item; inner = Some m })) (omega arith)
        (inner decl s j i at e is may))

    item_all : (o : Option ItemDecl) → slice_get items item ≡ o → AllHave P (item_targets ds scope item o)
    item_all None e = tt
    item_all (Some decl) e = at_kind decl e decl.kind refl

  -- what holds of both at each item of an order holds of the targets of a scope
  pub targets_have : (order : List ℕ)
      → ((index item : ℕ) → slice_get order index ≡ Some item → Own item)
      → ((index item : ℕ) → slice_get order index ≡ Some item → Inner item)
      → AllHave P (targets_of ds scope items order)
  targets_have [] own inner = tt
  targets_have (item ∷ order) own inner =
      all_append P (item_targets ds scope item (slice_get items item)) (targets_of ds scope items order)
      (item_all item (own 0 item refl) (inner 0 item refl) (slice_get items item) refl)
      (targets_have order (λ index k at. own (suc index) k at) (λ index k at. inner (suc index) k at))
