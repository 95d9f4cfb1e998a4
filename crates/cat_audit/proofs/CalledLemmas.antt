-- The lines of called scopes, and what hangs on them.
use Rattle.std.proofs.Common.{◌≡◌, ℕ, Bool, true, false, List, [], ◌∷◌, ◌++◌, Option}
use Rattle.std.proofs.Common.{Some, slice_get, refl, sym, ap, ◌∙◌, subst, arith, if◌then◌else◌}
use Rattle.std.proofs.Math.Bool.{Bool-set}
use Rattle.std.proofs.Math.Logic.{∥∥₁_elim}
use Rattle.cat_order.specs.Order.{dependencies_of}
use Rattle.cat_value.specs.declared.declaration.Kind.{Kind}
use Rattle.cat_value.specs.declared.declaration.Kind.TheVariants as kind
use Rattle.cat_value.specs.declared.declaration.ItemDecl.{ItemDecl}
use Rattle.cat_value.specs.declared.declaration.Scope.{Scope}
use Rattle.cat_scope.specs.declared.defs.Assertion.{Assertion}
use Rattle.cat_scope.specs.declared.defs.Body.{Body}
use Rattle.cat_scope.specs.declared.defs.Def.{Def}
use Rattle.cat_scope.specs.declared.defs.SourcePart.{SourcePart}
use Rattle.cat_scope.specs.declared.defs.SourcePart.TheVariants as part
use Rattle.cat_scope.specs.declared.programs.Program.{Program}
use Rattle.cat_scope.specs.Mentions.{scopes_named}
use Rattle.cat_scope.specs.Names.{AllHave, items_in, is_in}
use Rattle.cat_scope.specs.Orders.{called_by_items, called_by_kind, called_in, calls_in, in_def, once}
use Rattle.cat_scope.specs.Orders.{scope_dependencies}
use Rattle.cat_scope.specs.WellFormed.{IsWellFormed}
use Rattle.cat_audit_sound.proofs.Exported.{body_is}
use Rattle.cat_sound.proofs.Exported.{all_back, all_front, called-all, in_at, scopes-at}
use Rattle.cat_sound.proofs.OrderFacts.{all_once}
use Rattle.cat_depend.proofs.Exported.{all_have}
use Rattle.cat_audit.specs.declared.report.Verdict.{Verdict}
use Rattle.cat_audit.specs.declared.report.Verdict.TheVariants as verdict
use Rattle.cat_audit.specs.declared.report.CalledLine.{CalledLine}
use Rattle.cat_audit.specs.Called.{called_line, called_lines, in_scope_calls, item_line, item_lines, scope_lines}
use Rattle.cat_audit.specs.Called.{scope_name}
use Rattle.cat_scope.proofs.Exported.{all_append}

-- ---- lists

pub append_none : {A : Type 0} (xs ys : List A) → xs ++ ys ≡ [] → (xs ≡ []) × (ys ≡ [])
append_none [] ys e = (refl, e)
append_none (x ∷ xs) ys e = absurd (cc)

pub all_as : (P Q : ℕ → Type 0) (ns : List ℕ) → ((n : ℕ) → P n → Q n) → AllHave P ns → AllHave Q ns
all_as P Q [] go h = tt
all_as P Q (n ∷ ns) go h = (go n h.0, all_as P Q ns go h.1)

once_all : (P : ℕ → Type 0) (seen ns : List ℕ) → AllHave P ns → AllHave P (once seen ns)
once_all P seen [] h = tt
once_all P seen (n ∷ ns) h = by (is_in n seen) (once_all P seen ns h.1) (once_all P (n ∷ seen) ns h.1)
  where
    by : (b : Bool) → AllHave P (once seen ns) → AllHave P (once (n ∷ seen) ns)
        → AllHave P (if b then once seen ns else n ∷ once (n ∷ seen) ns)
    by true one other = one
    by false one other = (h.0, other)

-- ---- what a source calls: what its items do, and its scope calls

module _ (P : ℕ → Type 0) (items : List ItemDecl) where
  pub calls_all : (source : List SourcePart) (defs : List Def) (assertions : List Assertion)
      → AllHave P (called_by_items items) → AllHave P (called_in [] source defs assertions)
      → AllHave P (called_in items source defs assertions)
  calls_all [] defs assertions h g = tt
  calls_all (part.Declaration ∷ source) defs assertions h g =
      all_append P (called_by_items items) (called_in items source defs assertions) h
      (calls_all source defs assertions h g)
  calls_all (part.Condition e ∷ source) defs assertions h g =
      all_append P (scopes_named e) (called_in items source defs assertions)
      (all_front P (scopes_named e) (called_in [] source defs assertions) g)
      (calls_all source defs assertions h (all_back P (scopes_named e) (called_in [] source defs assertions) g))
  calls_all (part.Definition ∷ source) [] assertions h g = calls_all source [] assertions h g
  calls_all (part.Definition ∷ source) (d ∷ defs) assertions h g =
      all_append P (in_def scopes_named d) (called_in items source defs assertions)
      (all_front P (in_def scopes_named d) (called_in [] source defs assertions) g)
      (calls_all source defs assertions h
      (all_back P (in_def scopes_named d) (called_in [] source defs assertions) g))
  calls_all (part.Assertion ∷ source) defs [] h g = calls_all source defs [] h g
  calls_all (part.Assertion ∷ source) defs (a ∷ assertions) h g =
      all_append P (scopes_named a.condition) (called_in items source defs assertions)
      (all_front P (scopes_named a.condition) (called_in [] source defs assertions) g)
      (calls_all source defs assertions h
      (all_back P (scopes_named a.condition) (called_in [] source defs assertions) g))

  pub calls_less : (source : List SourcePart) (defs : List Def) (assertions : List Assertion)
      → AllHave P (called_in items source defs assertions) → AllHave P (called_in [] source defs assertions)
  calls_less [] defs assertions g = tt
  calls_less (part.Declaration ∷ source) defs assertions g =
      calls_less source defs assertions (all_back P (called_by_items items) (called_in items source defs assertions) g)
  calls_less (part.Condition e ∷ source) defs assertions g =
      all_append P (scopes_named e) (called_in [] source defs assertions)
      (all_front P (scopes_named e) (called_in items source defs assertions) g)
      (calls_less source defs assertions (all_back P (scopes_named e) (called_in items source defs assertions) g))
  calls_less (part.Definition ∷ source) [] assertions g = calls_less source [] assertions g
  calls_less (part.Definition ∷ source) (d ∷ defs) assertions g =
      all_append P (in_def scopes_named d) (called_in [] source defs assertions)
      (all_front P (in_def scopes_named d) (called_in items source defs assertions) g)
      (calls_less source defs assertions
      (all_back P (in_def scopes_named d) (called_in items source defs assertions) g))
  calls_less (part.Assertion ∷ source) defs [] g = calls_less source defs [] g
  calls_less (part.Assertion ∷ source) defs (a ∷ assertions) g =
      all_append P (scopes_named a.condition) (called_in [] source defs assertions)
      (all_front P (scopes_named a.condition) (called_in items source defs assertions) g)
      (calls_less source defs assertions
      (all_back P (scopes_named a.condition) (called_in items source defs assertions) g))

-- ---- lines that aren't there

none_called : (name : List ℕ) (n : ℕ) (v : Verdict) → called_line name n v ≡ [] → v ≡ verdict.Complete
none_called name n verdict.Complete e = refl
none_called name n verdict.Found e = absurd (cc)
none_called name n verdict.Masked e = absurd (cc)
none_called name n verdict.Undecided e = absurd (cc)

module _ (f : ℕ → Verdict) where
  abbrev pub IsComplete : ℕ → Type 0
  IsComplete n = f n ≡ verdict.Complete

  kind_none : (name : List ℕ) (k : Kind) → item_line f name k ≡ [] → AllHave IsComplete (called_by_kind k)
  kind_none name (kind.Called s) e = (none_called name s (f s) e, tt)
  kind_none name _ e = tt

  items_none : (items : List ItemDecl) → item_lines f items ≡ [] → AllHave IsComplete (called_by_items items)
  items_none [] e = tt
  items_none (item ∷ items) e =
      let both = append_none (item_line f item.name item.kind) (item_lines f items) e in
      all_append IsComplete (called_by_kind item.kind) (called_by_items items)
      (kind_none item.name item.kind both.0) (items_none items both.1)

  scopes_none : (scopes : List Scope) (ns : List ℕ) → scope_lines f scopes ns ≡ [] → AllHave IsComplete ns
  scopes_none scopes [] e = tt
  scopes_none scopes (n ∷ ns) e =
      let both = append_none (called_line (scope_name (slice_get scopes n)) n (f n)) (scope_lines f scopes ns) e in
      (none_called (scope_name (slice_get scopes n)) n (f n) both.0, scopes_none scopes ns both.1)

-- ---- of a program

module _ (program : Program) (k : ℕ) (decl : Scope) (body : Body) (at : slice_get program.decls.scopes k ≡ Some decl)
    (there : slice_get program.bodies k ≡ Some body) where
  abbrev deps : List (List ℕ)
  deps = scope_dependencies program.decls.scopes program.bodies

  these : dependencies_of deps k ≡ once [] (calls_in decl.items body)
  these = scopes-at program.decls.scopes program.bodies k decl body at there

  pub lines_are : (f : ℕ → Verdict) → called_lines program f k
      ≡ item_lines f decl.items ++ scope_lines f program.decls.scopes (in_scope_calls (Some body))
  lines_are f = ap (λ (s : Option Scope). item_lines f (items_in s)
      ++ scope_lines f program.decls.scopes (in_scope_calls (slice_get program.bodies k))) at
      ∙ ap (λ (b : Option Body). item_lines f decl.items
      ++ scope_lines f program.decls.scopes (in_scope_calls b)) there

  -- where no line is there, each called scope is complete
  pub all_complete : (f : ℕ → Verdict) → called_lines program f k ≡ []
      → AllHave (IsComplete f) (dependencies_of deps k)
  all_complete f e =
      let both = append_none (item_lines f decl.items)
      (scope_lines f program.decls.scopes (in_scope_calls (Some body))) (sym (lines_are f) ∙ e) in
      subst (AllHave (IsComplete f)) (sym these)
      (once_all (IsComplete f) [] (calls_in decl.items body)
      (calls_all (IsComplete f) decl.items body.source body.defs body.assertions
      (items_none f decl.items both.0)
      (all_once (IsComplete f) [] (called_in [] body.source body.defs body.assertions) tt
      (scopes_none f program.decls.scopes (in_scope_calls (Some body)) both.1))))

  -- ---- the lines hang on the called scopes alone

  abbrev IsDep : ℕ → Type 0
  IsDep m = is_in m (dependencies_of deps k) ≡ true

  all_calls : AllHave IsDep (calls_in decl.items body)
  all_calls = all_once IsDep [] (calls_in decl.items body) tt
      (subst (λ (ns : List ℕ). AllHave IsDep ns) these (all_have IsDep (dependencies_of deps k) (λ n h. h)))

  scope_calls_deps : AllHave IsDep (in_scope_calls (Some body))
  scope_calls_deps = once_all IsDep [] (called_in [] body.source body.defs body.assertions)
      (calls_less IsDep decl.items body.source body.defs body.assertions all_calls)

  items_deps : ∥ IsWellFormed program.decls program.bodies program.scope_order ∥₁ → (m : ℕ)
      → is_in m (called_by_items decl.items) ≡ true → IsDep m
  items_deps formed m h = ∥∥₁_elim formed (Bool-set (is_in m (dependencies_of deps k)) true)
      (λ f. in_at IsDep (called_by_items decl.items) m (by_items f) h)
    where
      by_items : IsWellFormed program.decls program.bodies program.scope_order
          → AllHave IsDep (called_by_items decl.items)
      by_items f =
          let b = body_is program.decls program.bodies program.scope_order f k decl body at there in
          (called-all IsDep decl.items body.source 1 body.defs body.assertions b.source all_calls).by_items
          (omega arith)

  module _ (f g : ℕ → Verdict) where
    abbrev Agree : ℕ → Type 0
    Agree m = f m ≡ g m

    kind_same : (name : List ℕ) (t : Kind) → AllHave Agree (called_by_kind t) → item_line f name t ≡ item_line g name t
    kind_same name (kind.Called s) h = ap (called_line name s) h.0
    kind_same name _ h = refl

    items_same : (items : List ItemDecl) → AllHave Agree (called_by_items items)
        → item_lines f items ≡ item_lines g items
    items_same [] h = refl
    items_same (item ∷ items) h =
        ap (λ (ls : List CalledLine). ls ++ item_lines f items)
        (kind_same item.name item.kind (all_front Agree (called_by_kind item.kind) (called_by_items items) h))
        ∙ ap (λ (ls : List CalledLine). item_line g item.name item.kind ++ ls)
        (items_same items (all_back Agree (called_by_kind item.kind) (called_by_items items) h))

    scopes_same : (ns : List ℕ) → AllHave Agree ns
        → scope_lines f program.decls.scopes ns ≡ scope_lines g program.decls.scopes ns
    scopes_same [] h = refl
    scopes_same (n ∷ ns) h =
        ap (λ (v : Verdict). called_line (scope_name (slice_get program.decls.scopes n)) n v
        ++ scope_lines f program.decls.scopes ns) h.0
        ∙ ap (λ (ls : List CalledLine).
        called_line (scope_name (slice_get program.decls.scopes n)) n (g n) ++ ls) (scopes_same ns h.1)

    pub lines_same : ∥ IsWellFormed program.decls program.bodies program.scope_order ∥₁
        → ((m : ℕ) → IsDep m → f m ≡ g m) → called_lines program f k ≡ called_lines program g k
    lines_same formed same = lines_are f
        ∙ ap (λ (ls : List CalledLine). ls ++ scope_lines f program.decls.scopes (in_scope_calls (Some body)))
        (items_same decl.items (all_have Agree (called_by_items decl.items)
        (λ m h. same m (items_deps formed m h))))
        ∙ ap (λ (ls : List CalledLine). item_lines g decl.items ++ ls)
        (scopes_same (in_scope_calls (Some body))
        (all_as IsDep Agree (in_scope_calls (Some body)) same scope_calls_deps))
        ∙ sym (lines_are g)
