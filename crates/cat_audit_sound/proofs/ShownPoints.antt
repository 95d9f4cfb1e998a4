-- In the input of a region each free term evaluates to the region's point.
use Rattle.std.proofs.Common.{◌≡◌, ℕ, zero, suc, ◌+◌, ◌<◌, ◌≤◌, true, IsTrue, List, [], ◌∷◌, map}
use Rattle.std.proofs.Common.{Option, Some, Ok, slice_get, refl, sym, ap, ◌∙◌, subst, arith, true≢false, length}
use Rattle.std.proofs.Math.Logic.{∥∥₁_elim}
use Rattle.std.proofs.Props.{props}
use Rattle.cat_value.specs.declared.decls.Decls.{Decls}
use Rattle.cat_value.specs.declared.declaration.ItemDecl.{ItemDecl}
use Rattle.cat_value.specs.declared.declaration.Scope.{Scope}
use Rattle.cat_value.specs.declared.outcome.Target.{Target}
use Rattle.cat_value.specs.declared.ty.Ty.{Ty}
use Rattle.cat_value.specs.declared.ty.Ty.TheVariants as flat_ty
use Rattle.cat_value.specs.declared.ty.Ty.TheViews as ty
use Rattle.cat_value.specs.declared.ty.Ty.TheViews.{out-Ty}
use Rattle.cat_value.specs.declared.value.Value.{Value}
use Rattle.cat_value.specs.Declarations.{highest}
use Rattle.cat_value.specs.Heights.{height_to}
use Rattle.cat_value.proofs.Exported.{height_positive}
use Rattle.cat_region.specs.declared.dim.Dim.{Dim}
use Rattle.cat_region.specs.declared.point.Point.{Point}
use Rattle.cat_region.specs.Chosen.{point_at}
use Rattle.cat_region.specs.Points.{is_point}
use Rattle.cat_region.specs.Regions.{Constraints, IsRegion, IsInhabited, IsValuation, is_point_of}
use Rattle.cat_region.proofs.Exported.{Admits-point_at, and-both}
use Rattle.cat_scope.specs.declared.expr.Expr.{Expr}
use Rattle.cat_scope.specs.declared.defs.Def.{Def}
use Rattle.cat_scope.specs.declared.defs.Body.{Body}
use Rattle.cat_scope.specs.Eval.{Env, eval}
use Rattle.cat_scope.specs.Names.{Names, AllHave, items_in, scope_items}
use Rattle.cat_scope.specs.Forests.{targets_of}
use Rattle.cat_scope.specs.SameTree.{same_tree}
use Rattle.cat_scope.specs.WellFormed.{DefTyped, IsWellFormed}
use Rattle.cat_sound.proofs.Exported.{test_whole}
use Rattle.cat_guard.specs.declared.table.InputPath.{InputPath}
use Rattle.cat_guard.specs.declared.table.Term.{Term}
use Rattle.cat_guard.specs.declared.table.Table.{Table}
use Rattle.cat_guard.specs.Numbering.{firsts}
use Rattle.cat_guard.specs.PointValues.{dim_of, dim_in, point_of}
use Rattle.cat_guard.specs.Questions.{Question}
use Rattle.cat_guard.specs.Tables.{questions_of, IsTableOf}
use Rattle.cat_guard.specs.Terms.{path_of, same_term, same_dim, term_of, terms_of}
use Rattle.cat_guard.specs.Valuations.{dims_of}
use Rattle.cat_guard.proofs.Exported.{dim_self, firsts_all}
use Rattle.cat_audit_sound.proofs.AtomAnswers.{IsOfDef, targets_all}
use Rattle.cat_audit_sound.proofs.Numbered.{all_at}
use Rattle.cat_audit_sound.proofs.AuditLaws.{body_is}
use Rattle.cat_audit_sound.specs.PointInputs.{part_to, point_from, with_point, or_default, given_from}
use Rattle.cat_audit_sound.specs.PointInputs.{input_at}
use Rattle.cat_audit_sound.proofs.PartEquations.{part_other}
use Rattle.cat_audit_sound.specs.Shown.{AreGiven, IsFree, IsSeenAs}
use Rattle.cat_audit_sound.proofs.PointedValues.{same_some, none_some, pointed, first_point}
use Rattle.cat_audit_sound.proofs.FreeValues.{reads}
use Rattle.cat_audit_sound.proofs.TermsApart.{are_one, apart}

-- what stands at a number of the images of a list
image_at : {A B : Type 0} (f : A → B) (xs : List A) (i : ℕ) (b : B) → slice_get (map f xs) i ≡ Some b
    → (a : A) × ((slice_get xs i ≡ Some a) × (f a ≡ b))
image_at f [] i b at = none_some b at
image_at f (x ∷ xs) zero b at = (x, (refl, same_some (f x) b at))
image_at f (x ∷ xs) (suc i) b at = image_at f xs i b at

point_of_dim : (terms : List Term) (i : ℕ) (term : Term) (x : Point) → slice_get terms i ≡ Some term
    → IsTrue (is_point_of (slice_get (dims_of terms) i) x) → IsTrue (is_point term.dim x)
point_of_dim [] i term x at h = none_some term at
point_of_dim (t ∷ ts) zero term x at h =
    subst (λ (u : Term). IsTrue (is_point u.dim x)) (same_some t term at) h
point_of_dim (t ∷ ts) (suc i) term x at h = point_of_dim ts i term x at h

dims_below : (terms : List Term) (i : ℕ) (term : Term) → slice_get terms i ≡ Some term → i < length (dims_of terms)
dims_below [] i term at = none_some term at
dims_below (t ∷ ts) zero term at = omega arith
dims_below (t ∷ ts) (suc i) term at = let below = dims_below ts i term at in omega (arith, below)

-- a part with the point of a type's dimension
seen_part : (ds : Decls) (points : InputPath → Option Point) (k : ℕ) (p : InputPath) (t : Ty) (d : Dim) (x : Point)
    → height_to ds.structures ds.enumerations k t ≤ k → dim_of ds t ≡ Some d → points p ≡ Some x
    → IsTrue (is_point d x)
    → (v : Value) × ((part_to ds points k p t ≡ v) × (point_of v ≡ Some x))
seen_part ds points k p t d x low has at is =
    let found = pointed ds (out-Ty t) d x has is in
    let positive = height_positive ds.structures ds.enumerations k t in (
      found.0,
      (
        part_other ds points p k t (omega (arith, positive, low)) no_structure
            ∙ ap (with_point ds t) at ∙ ap (or_default ds t) found.1,
        found.2,
      ),
    )
  where
    no_structure : (n : ℕ) → t ≡ flat_ty.Structure n → ⊥
    no_structure n e = none_some d (sym (ap (λ (u : Ty). dim_of ds u) e ∙ ap (dim_in ds) (ty.outs-Structure n)) ∙ has)

module _ (ds : Decls) (scope : ℕ) (items : List ItemDecl) (defs : List Def)
    (typed : AllHave (DefTyped (record { decls = ds; items = items }) scope) defs)
    (low : (i : ℕ) (decl : ItemDecl) → slice_get items i ≡ Some decl
    → height_to ds.structures ds.enumerations highest decl.ty ≤ highest)
    (targets : List Target) where
  abbrev names : Names
  names = record { decls = ds; items = items }

  abbrev qs : List Question
  qs = questions_of ds defs targets

  abbrev terms : List Term
  terms = terms_of items qs

  abbrev Asked : Question → Type 0
  Asked q = IsOfDef names scope defs typed targets q

  asked : (i : ℕ) (q : Question) → slice_get (firsts same_term [] qs) i ≡ Some q → Asked q
  asked i q at = all_at Asked (firsts same_term [] qs) i q
      (firsts_all Asked same_term [] qs (targets_all names scope defs typed targets targets)) at

  -- no two terms have one path
  one_term : (i j : ℕ) (a b : Question) (p : InputPath) → i < j → slice_get (firsts same_term [] qs) i ≡ Some a
      → slice_get (firsts same_term [] qs) j ≡ Some b → path_of items a.expr ≡ Some p → path_of items b.expr ≡ Some p
      → ⊥
  one_term i j a b p below at also path path2 =
      let x = asked i a at in
      let y = asked j b also in
      let one = are_one ds items a.standing b.standing x.def_typed.params y.def_typed.params a.expr b.expr p
      x.asked_of.ty y.asked_of.ty path path2 x.asked_of.typed y.asked_of.typed in
      let dims : a.dim ≡ b.dim = same_some a.dim b.dim
      (sym x.asked_of.dim_is ∙ ap (dim_of ds) one.types ∙ y.asked_of.dim_is) in
      let same : same_term a b ≡ true =
      and-both (same_tree a.standing b.standing a.expr b.expr) (same_dim a.dim b.dim)
      (test_whole a.standing b.standing one.trees)
      (ap (same_dim a.dim) (sym dims) ∙ dim_self a.dim) in
      true≢false (sym same ∙ apart same_term [] qs i j a b below at also)

  module _ (region : Constraints) (is_region : IsRegion region) (dims : region.dims ≡ dims_of terms)
      (some : IsInhabited region) (env : Env) (arguments : List Value)
      (given : AreGiven env (given_from ds (point_from (point_at region) 0 terms) 0 items)) where
    pub shows : (i : ℕ) (term : Term) (p : InputPath) → slice_get terms i ≡ Some term → term.path ≡ Some p
        → IsSeenAs (eval env term.expr arguments).end (point_at region i)
    shows i term p at free =
        let image = image_at (term_of items) (firsts same_term [] qs) i term at in
        let q = image.0 in
        let path : path_of items q.expr ≡ Some p = ap (λ (t : Term). t.path) image.1.1 ∙ free in
        let x = asked i q image.1.0 in
        let read = reads ds (point_from (point_at region) 0 terms) items env arguments x.def_typed.params given low
        q.expr x.asked_of.ty p path x.asked_of.typed in
        let point : point_from (point_at region) 0 terms p ≡ Some (point_at region i) =
        first_point (point_at region) 0 terms i term p at free
        (λ j u below there has. let other = image_at (term_of items) (firsts same_term [] qs) j u there in
        one_term j i other.0 q p below other.1.0 image.1.0 (ap (λ (t : Term). t.path) other.1.1 ∙ has) path)
        ∙ ap (λ (n : ℕ). Some (point_at region n)) (zero_plus i) in
        let valuation : IsValuation region.dims (point_at region) =
        (Admits-point_at region is_region some).valuation in
        let within : IsTrue (is_point_of (slice_get (dims_of terms) i) (point_at region i)) =
        subst (λ (ds : List Dim). IsValuation ds (point_at region)) dims valuation i (dims_below terms i term at) in
        let is : IsTrue (is_point q.dim (point_at region i)) =
        subst (λ (d : Dim). IsTrue (is_point d (point_at region i))) (sym (ap (λ (t : Term). t.dim) image.1.1))
        (point_of_dim terms i term (point_at region i) at within) in
        let seen = seen_part ds (point_from (point_at region) 0 terms) read.k p x.asked_of.ty q.dim (point_at region i)
        read.low_enough x.asked_of.dim_is point is in
        subst (λ (e : Expr). IsSeenAs (eval env e arguments).end (point_at region i))
        (ap (λ (t : Term). t.expr) image.1.1) (seen.0, read.is ∙ ap Ok seen.1.0, seen.1.1)
      where
        zero_plus : (i : ℕ) → 0 + i ≡ i
        zero_plus i = omega arith

-- the same in a scope of a program, by its table
pub scope_shows : (ds : Decls) (bodies : List Body) (order : List ℕ) (scope : ℕ) (table : Table) (region : Constraints)
    (env : Env) (arguments : List Value) (i : ℕ) (term : Term) → ∥ IsWellFormed ds bodies order ∥₁
    → ((n k : ℕ) (s : Scope) (item : ItemDecl) → slice_get ds.scopes n ≡ Some s → slice_get s.items k ≡ Some item
    → height_to ds.structures ds.enumerations highest item.ty ≤ highest)
    → ((decl : Scope) × (body : Body) × (slice_get ds.scopes scope ≡ Some decl)
    × (slice_get bodies scope ≡ Some body) × IsTableOf ds scope decl body table)
    → IsRegion region → region.dims ≡ dims_of table.terms → IsInhabited region
    → AreGiven env (input_at ds table (point_at region)) → slice_get table.terms i ≡ Some term → IsFree term
    → ∥ IsSeenAs (eval env term.expr arguments).end (point_at region i) ∥₁
scope_shows ds bodies order scope table region env arguments i term formed low scoped is_region dims some given at
    free =
    let decl = scoped.0 in
    let body = scoped.1 in
    let is = scoped.4 in
    let targets = targets_of ds scope decl.items body.order in
    let terms : table.terms ≡ terms_of decl.items (questions_of ds body.defs targets) = is.terms_are in
    let items : scope_items ds table.scope ≡ decl.items = ap (scope_items ds) is.scope_is ∙ ap items_in scoped.2 in
    let input : input_at ds table (point_at region)
    ≡ given_from ds (point_from (point_at region) 0 (terms_of decl.items (questions_of ds body.defs targets))) 0
    decl.items =
    ap (λ (ts : List Term). given_from ds (point_from (point_at region) 0 ts) 0 (scope_items ds table.scope)) terms
    ∙ ap (given_from ds (point_from (point_at region) 0 (terms_of decl.items (questions_of ds body.defs targets))) 0)
    items in
    ∥∥₁_elim formed (hlevel props) (λ well.
    (∣ shows ds scope decl.items body.defs (body_is ds bodies order well scope decl body scoped.2 scoped.3).defs
    (λ k item there. low scope k decl item scoped.2 there) targets region is_region (dims ∙ ap dims_of terms) some env
    arguments (subst (AreGiven env) input given) i term free.0
    (ap (λ (ts : List Term). slice_get ts i) (sym terms) ∙ at) free.1 ∣₁))
