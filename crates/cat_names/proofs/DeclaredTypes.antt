-- Which types are declared: those of items, outputs, fields and contents.
use Rattle.std.proofs.Common.{◌≡◌, ℕ, zero, suc, ◌<◌, nat_lt, Bool, true, false, IsTrue, List, [], ◌∷◌, length, Option}
use Rattle.std.proofs.Common.{Some, None, slice_get, if◌then◌else◌, refl, subst, arith}
use Rattle.std.proofs.lemmas.Bool.Decides.{nat_tests}
use Rattle.cat_value.specs.declared.ty.Ty.{Ty}
use Rattle.cat_value.specs.declared.ty.Ty.TheVariants as flat_ty
use Rattle.cat_value.specs.declared.ty.Ty.TheViews as ty
use Rattle.cat_value.specs.declared.declaration.Field.{Field}
use Rattle.cat_value.specs.declared.declaration.Structure.{Structure}
use Rattle.cat_value.specs.declared.declaration.Case.{Case}
use Rattle.cat_value.specs.declared.declaration.Enumeration.{Enumeration}
use Rattle.cat_value.specs.declared.declaration.ItemDecl.{ItemDecl}
use Rattle.cat_value.specs.declared.declaration.Scope.{Scope}
use Rattle.cat_value.specs.declared.decls.Decls.{Decls}
use Rattle.cat_value.specs.Typing.{is_type}
use Rattle.cat_value.specs.Entries.{fields_in, content_in, case_in, content_of}
use Rattle.cat_value.specs.Laws.{AreSound}
use Rattle.cat_value.proofs.Exported.{is_declared_List, is_declared_Enumeration, within}
use Rattle.cat_scope.specs.Names.{items_in, scope_items}
use Rattle.cat_value.specs.Inputs.{is_output, outputs_in}
use Rattle.cat_scope.specs.Fitting.{field_at, type_in, field_type}

lt_true : (a b : ℕ) → a < b → IsTrue (nat_lt a b)
lt_true a b h = grind (arith, nat_tests)

some_same : {A : Type 0} (a b : A) → Some a ≡ Some b → a ≡ b
some_same a b h = cc h

-- what holds of each item holds of each output
outputs_have : (P : ItemDecl → Type 0) (items : List ItemDecl)
    → ((k : ℕ) (i : ItemDecl) → slice_get items k ≡ Some i → P i)
    → (k : ℕ) (o : ItemDecl) → slice_get (outputs_in items) k ≡ Some o → P o
outputs_have P [] each k o h = cc h
outputs_have P (x ∷ xs) each k o h = by (is_output x.kind) h
    (outputs_have P xs (λ m i e. each (suc m) i e)) (each 0 x refl) k
  where
    at : (rest : (k : ℕ) (o : ItemDecl) → slice_get (outputs_in xs) k ≡ Some o → P o) → P x
        → (m : ℕ) → slice_get (x ∷ outputs_in xs) m ≡ Some o → P o
    at rest first zero e = subst P (some_same x o e) first
    at rest first (suc m) e = rest m o e

    by : (b : Bool) → slice_get (if b then x ∷ outputs_in xs else outputs_in xs) k ≡ Some o
        → ((k : ℕ) (o : ItemDecl) → slice_get (outputs_in xs) k ≡ Some o → P o) → P x → ℕ → P o
    by true e rest first m = at rest first k e
    by false e rest first m = rest k o e

module _ (ds : Decls) (sound : AreSound ds) where
  -- an item of a scope, and its parameters
  pub item_declared : (scope k : ℕ) (i : ItemDecl) → slice_get (scope_items ds scope) k ≡ Some i
      → IsTrue (is_type ds i.ty)
  item_declared scope k i h = by (slice_get ds.scopes scope) refl h
    where
      by : (o : Option Scope) → slice_get ds.scopes scope ≡ o → slice_get (items_in o) k ≡ Some i
          → IsTrue (is_type ds i.ty)
      by None e g = cc g
      by (Some s) e g = (sound.items scope k s i e g).declared

  pub param_declared : (scope k : ℕ) (i : ItemDecl) → slice_get (scope_items ds scope) k ≡ Some i
      → (n : ℕ) (t : Ty) → slice_get i.params n ≡ Some t → IsTrue (is_type ds t)
  param_declared scope k i h = by (slice_get ds.scopes scope) refl h
    where
      by : (o : Option Scope) → slice_get ds.scopes scope ≡ o → slice_get (items_in o) k ≡ Some i
          → (n : ℕ) (t : Ty) → slice_get i.params n ≡ Some t → IsTrue (is_type ds t)
      by None e g n t p = cc g
      by (Some s) e g n t p = (sound.items scope k s i e g).params_declared n t p

  pub output_declared : (scope k : ℕ) (o : ItemDecl) → slice_get (outputs_in (scope_items ds scope)) k ≡ Some o
      → IsTrue (is_type ds o.ty)
  output_declared scope = outputs_have (λ i. IsTrue (is_type ds i.ty)) (scope_items ds scope) (item_declared scope)

  -- a field of a structure
  pub field_declared : (n k : ℕ) (t : Ty) → field_type ds n k ≡ Some t → IsTrue (is_type ds t)
  field_declared n k t h = by (slice_get ds.structures n) refl h
    where
      at : (s : Structure) → slice_get ds.structures n ≡ Some s → (f : Option Field) → slice_get s.fields k ≡ f
          → type_in f ≡ Some t → IsTrue (is_type ds t)
      at s e None g p = cc p
      at s e (Some f) g p = let is : f.ty ≡ t = cc p in
          subst (λ u. IsTrue (is_type ds u)) is ((sound.structures n s e).declared k f g)

      by : (o : Option Structure) → slice_get ds.structures n ≡ o → type_in (field_at (fields_in o) k) ≡ Some t
          → IsTrue (is_type ds t)
      by None e g = cc g
      by (Some s) e g = at s e (slice_get s.fields k) refl g

  -- the content of a case, and its enumeration
  pub content_declared : (n k : ℕ) (t : Ty) → content_of ds n k ≡ Some (Some t) → IsTrue (is_type ds t)
  content_declared n k t h = by (slice_get ds.enumerations n) refl h
    where
      at : (d : Enumeration) → slice_get ds.enumerations n ≡ Some d → (c : Option Case) → slice_get d.cases k ≡ c
          → content_in c ≡ Some (Some t) → IsTrue (is_type ds t)
      at d e None g p = cc p
      at d e (Some c) g p = (sound.enumerations n d e).declared k c t g (some_same c.content (Some t) p)

      by : (o : Option Enumeration) → slice_get ds.enumerations n ≡ o → case_in k o ≡ Some (Some t)
          → IsTrue (is_type ds t)
      by None e g = cc g
      by (Some d) e g = at d e (slice_get d.cases k) refl g

pub enumeration_declared : (ds : Decls) (n k : ℕ) (content : Option Ty) → content_of ds n k ≡ Some content
    → IsTrue (is_type ds (flat_ty.Enumeration n))
enumeration_declared ds n k content h = rw (is_declared_Enumeration ds.structures ds.enumerations n)
    (by (slice_get ds.enumerations n) refl h)
  where
    by : (o : Option Enumeration) → slice_get ds.enumerations n ≡ o → case_in k o ≡ Some content
        → IsTrue (nat_lt n (length ds.enumerations))
    by None e g = cc g
    by (Some d) e g = lt_true n (length ds.enumerations) (within ds.enumerations n d e)

pub element_declared : (ds : Decls) (t : Ty) → IsTrue (is_type ds (ty.List t)) → IsTrue (is_type ds t)
element_declared ds t h = rw (is_declared_List ds.structures ds.enumerations t) at h

pub list_declared : (ds : Decls) (t : Ty) → IsTrue (is_type ds t) → IsTrue (is_type ds (ty.List t))
list_declared ds t h = rw (is_declared_List ds.structures ds.enumerations t) h
