-- What a path evaluates to, where an input is given: the part of the input at the path.
use Rattle.std.proofs.Common.{◌≡◌, ℕ, zero, suc, ◌+◌, ◌-◌, ◌≤◌, Bool, true, false, List, [], ◌∷◌}
use Rattle.std.proofs.Common.{Option, Some, None, Ok, slice_get, refl, sym, ap, ◌∙◌, subst, arith}
use Rattle.std.proofs.Common.{if◌then◌else◌}
use Rattle.cat_pos.specs.declared.pos.Pos.{Pos}
use Rattle.cat_value.specs.declared.decls.Decls.{Decls}
use Rattle.cat_value.specs.declared.declaration.Field.{Field as FieldDecl}
use Rattle.cat_value.specs.declared.declaration.ItemDecl.{ItemDecl}
use Rattle.cat_value.specs.declared.declaration.Structure.{Structure}
use Rattle.cat_value.specs.declared.ty.Ty.{Ty}
use Rattle.cat_value.specs.declared.ty.Ty.TheVariants as flat_ty
use Rattle.cat_value.specs.declared.value.Value.{Value}
use Rattle.cat_value.specs.declared.value.Value.TheViews as value
use Rattle.cat_value.specs.Declarations.{highest}
use Rattle.cat_value.specs.Entries.{fields_in}
use Rattle.cat_value.specs.Heights.{height_to, highest_field}
use Rattle.cat_value.specs.Inputs.{must_be_given}
use Rattle.cat_value.proofs.Exported.{height_positive, fields_lower}
use Rattle.cat_scope.specs.declared.expr.Expr.{Expr}
use Rattle.cat_scope.specs.declared.expr.Expr.TheOpen.{Expr-F}
use Rattle.cat_scope.specs.declared.expr.Expr.TheFolds.{fold_out-Expr, map-Expr, fold-Arm, fold-FieldValue}
use Rattle.cat_scope.specs.declared.expr.Expr.TheViews.{out-Expr}
use Rattle.cat_scope.specs.declared.expr.Arm.{Arm}
use Rattle.cat_scope.specs.declared.expr.FieldValue.{FieldValue}
use Rattle.cat_scope.specs.Composed.{Meaning, part}
use Rattle.cat_scope.specs.Eval.{Env, eval, meaning_of}
use Rattle.cat_scope.specs.Fitting.{field_type, field_at, type_in}
use Rattle.cat_scope.specs.HasType.{HasType}
use Rattle.cat_scope.specs.Names.{Names, AllHave, is_plain}
use Rattle.cat_scope.specs.Naming.{IsItem}
use Rattle.cat_scope.specs.Projections.{parts_in}
use Rattle.cat_scope.specs.Replies.{Reply, on_one, known, evaluated}
use Rattle.cat_scope.specs.Runs.{Run, plain, behind, giving}
use Rattle.cat_scope.proofs.Exported.{Field, Branch, field, branch, levels}
use Rattle.cat_sound.specs.Parts.{PartsTyped}
use Rattle.cat_sound.proofs.Exported.{by_parts, parts_of, parts_typed}
use Rattle.cat_guard.specs.declared.table.InputPath.{InputPath}
use Rattle.cat_guard.specs.Terms.{path_of, path_in, input_path, field_path}
use Rattle.cat_region.specs.declared.point.Point.{Point}
use Rattle.cat_audit_sound.specs.PointInputs.{part_to, variable, field_of, fields_from, given_for, given_from}
use Rattle.cat_audit_sound.proofs.PartEquations.{part_Structure}
use Rattle.cat_audit_sound.specs.Shown.{AreGiven}
use Rattle.cat_audit_sound.proofs.PointedValues.{same_some, none_some}

abbrev pub Form : Type 0
Form = Expr-F Expr Arm FieldValue

-- ---- paths by their forms

-- an expression that is a path: an input variable, or a field of another path
pub data PathForm (items : List ItemDecl) : Expr → InputPath → Type 0 where
  an_item : {e : Expr} {p : InputPath} (q : Pos) (i : ℕ) (decl : ItemDecl) → out-Expr e ≡ Expr-F.Item q i
      → slice_get items i ≡ Some decl → must_be_given decl.kind ≡ true → variable i ≡ p → PathForm items e p
  a_field : {e : Expr} {p : InputPath} (q : Pos) (a : Expr) (k : ℕ) (inner : InputPath)
      → out-Expr e ≡ Expr-F.Field q a k
      → path_of items a ≡ Some inner → field_of inner k ≡ p → PathForm items e p

module _ (items : List ItemDecl) where
  abbrev opened_path : Form → Expr-F (Option InputPath) (Unit {0}) (Unit {0})
  opened_path y = map-Expr Expr Arm FieldValue (Option InputPath) (Unit {0}) (Unit {0}) (path_of items)
      (fold-Arm (Option InputPath) (Unit {0}) (Unit {0}) (path_in items) (λ a. tt) (λ f. tt))
      (fold-FieldValue (Option InputPath) (Unit {0}) (Unit {0}) (path_in items) (λ a. tt) (λ f. tt)) y

  path_level : (e : Expr) → path_of items e ≡ path_in items (opened_path (out-Expr e))
  unfolding path_of
  path_level e = fold_out-Expr (Option InputPath) (Unit {0}) (Unit {0}) (path_in items) (λ a. tt) (λ f. tt) e

  pub path_form : (e : Expr) (p : InputPath) → path_of items e ≡ Some p → PathForm items e p
  path_form e p at = by (out-Expr e) refl (sym (path_level e) ∙ at)
    where
      given : (q : Pos) (i : ℕ) → out-Expr e ≡ Expr-F.Item q i → (o : Option ItemDecl) → slice_get items i ≡ o
          → input_path i o ≡ Some p → PathForm items e p
      given q i is None there h = none_some p h
      given q i is (Some decl) there h = must (must_be_given decl.kind) refl h
        where
          must : (b : Bool) → must_be_given decl.kind ≡ b
              → (if b then Some (record { item = i; fields = [] }) else None) ≡ Some p → PathForm items e p
          must true given h = an_item q i decl is there given (same_some (variable i) p h)
          must false given h = none_some p h

      inside : (q : Pos) (a : Expr) (k : ℕ) → out-Expr e ≡ Expr-F.Field q a k → (o : Option InputPath)
          → path_of items a ≡ o → field_path k o ≡ Some p → PathForm items e p
      inside q a k is None there h = none_some p h
      inside q a k is (Some inner) there h = a_field q a k inner is there (same_some (field_of inner k) p h)

      by : (y : Form) → out-Expr e ≡ y → path_in items (opened_path y) ≡ Some p → PathForm items e p
      by (Expr-F.Item q i) is h = given q i is (slice_get items i) refl h
      by (Expr-F.Field q a k) is h = inside q a k is (path_of items a) refl h
      by _ is h = none_some p h

-- ---- parts of lists

pub field_there : (ds : Decls) (n k : ℕ) (t : Ty) → field_type ds n k ≡ Some t
    → (s : Structure) × ((f : FieldDecl) × ((slice_get ds.structures n ≡ Some s) × ((slice_get s.fields k ≡ Some f)
    × (f.ty ≡ t))))
field_there ds n k t h = by (slice_get ds.structures n) refl h
  where
    at : (s : Structure) → slice_get ds.structures n ≡ Some s → (o : Option FieldDecl) → slice_get s.fields k ≡ o
        → type_in o ≡ Some t
        → (s : Structure) × ((f : FieldDecl) × ((slice_get ds.structures n ≡ Some s)
        × ((slice_get s.fields k ≡ Some f) × (f.ty ≡ t))))
    at s is None there h = none_some t h
    at s is (Some f) there h = (s, (f, (is, (there, same_some f.ty t h))))

    by : (o : Option Structure) → slice_get ds.structures n ≡ o → type_in (field_at (fields_in o) k) ≡ Some t
        → (s : Structure) × ((f : FieldDecl) × ((slice_get ds.structures n ≡ Some s)
        × ((slice_get s.fields k ≡ Some f) × (f.ty ≡ t))))
    by None is h = none_some t h
    by (Some s) is h = at s is (slice_get s.fields k) refl h

given_get : (ds : Decls) (points : InputPath → Option Point) (n : ℕ) (items : List ItemDecl) (i m : ℕ) (decl : ItemDecl)
    → slice_get items i ≡ Some decl → m ≡ n + i
    → slice_get (given_from ds points n items) i ≡ Some (given_for ds points m decl)
given_get ds points n [] i m decl at is = none_some decl at
given_get ds points n (d ∷ items) zero m decl at is =
    let same : n ≡ m = omega (arith, is) in
    ap (λ (x : ItemDecl). Some (given_for ds points n x)) (same_some d decl at)
    ∙ ap (λ (x : ℕ). Some (given_for ds points x decl)) same
given_get ds points n (d ∷ items) (suc i) m decl at is =
    given_get ds points (n + 1) items i m decl at (omega (arith, is))

fields_get : (read : InputPath → Ty → Value) (p : InputPath) (k : ℕ) (fs : List FieldDecl) (i m : ℕ) (f : FieldDecl)
    → slice_get fs i ≡ Some f → m ≡ k + i
    → slice_get (fields_from read p k fs) i ≡ Some (read (field_of p m) f.ty)
fields_get read p k [] i m f at is = none_some f at
fields_get read p k (g ∷ fs) zero m f at is =
    let same : k ≡ m = omega (arith, is) in
    ap (λ (x : FieldDecl). Some (read (field_of p k) x.ty)) (same_some g f at)
    ∙ ap (λ (x : ℕ). Some (read (field_of p x) f.ty)) same
fields_get read p k (g ∷ fs) (suc i) m f at is = fields_get read p (k + 1) fs i m f at (omega (arith, is))

field_lower : (height : Ty → ℕ) (fs : List FieldDecl) (bound i : ℕ) (f : FieldDecl) → highest_field height fs ≤ bound
    → slice_get fs i ≡ Some f → height f.ty ≤ bound
field_lower height [] bound i f h at = none_some f at
field_lower height (g ∷ fs) bound zero f h at =
    let same : height g.ty ≡ height f.ty = ap (λ (x : FieldDecl). height x.ty) (same_some g f at) in
    omega (arith, h, same)
field_lower height (g ∷ fs) bound (suc i) f h at = field_lower height fs bound i f (omega (arith, h)) at

-- ---- evaluations

eval_at : (env : Env) (e : Expr) (y : Form) → out-Expr e ≡ y → (ls : List Value)
    → eval env e ls ≡ meaning_of env (map-Expr Expr Arm FieldValue Meaning Branch Field (eval env) (branch env)
    (field env) y) ls
eval_at env e y is ls = ap (λ (m : Meaning). m ls) (levels env e ∙ ap (λ (x : Form). meaning_of env
    (map-Expr Expr Arm FieldValue Meaning Branch Field (eval env) (branch env) (field env) x)) is)

giving_end : (run : Run Value) (next : Value → Reply) (v : Value) → run.end ≡ Ok v → (giving run next).end ≡ next v
giving_end run next v e = ap (λ (r : Reply). (behind run.log r (λ a. plain (next a))).end) e

part_is : (k : ℕ) (vs : List Value) (w : Value) → slice_get vs k ≡ Some w → part k (value.Structure vs) ≡ Ok w
part_is k vs w at =
    ap (λ y. on_one (parts_in y) (λ us. known (slice_get us k))) (value.outs-Structure vs) ∙ ap known at

module _ (ds : Decls) (points : InputPath → Option Point) (items : List ItemDecl) (env : Env) (arguments : List Value)
    (ps : List Ty) (given : AreGiven env (given_from ds points 0 items))
    (low : (i : ℕ) (decl : ItemDecl) → slice_get items i ≡ Some decl
    → height_to ds.structures ds.enumerations highest decl.ty ≤ highest) where
  abbrev names : Names
  names = record { decls = ds; items = items }

  -- an expression evaluates to the part of the input at a path, which is of a type that is low enough
  pub record Reads (e : Expr) (p : InputPath) (t : Ty) : Type 0 where
    pub k : ℕ
    pub is : (eval env e arguments).end ≡ Ok (part_to ds points k p t)
    pub low_enough : height_to ds.structures ds.enumerations k t ≤ k

  abbrev IsRead : Expr → Type 0
  IsRead e = (t : Ty) (p : InputPath) → path_of items e ≡ Some p → HasType names ps e t → Reads e p t

  item_reads : (e : Expr) (q : Pos) (i : ℕ) (decl : ItemDecl) (t : Ty) → out-Expr e ≡ Expr-F.Item q i
      → slice_get items i ≡ Some decl → must_be_given decl.kind ≡ true → decl.ty ≡ t → Reads e (variable i) t
  item_reads e q i decl t is there must same = subst (Reads e (variable i)) same (record {
    k = highest;
    is = ap (λ (r : Run Value). r.end) (eval_at env e (Expr-F.Item q i) is arguments) ∙ ap evaluated
        (given i (part_to ds points highest (variable i) decl.ty)
        (given_get ds points 0 items i i decl there (omega arith)
        ∙ ap (λ b. Some (if b then Some (part_to ds points highest (variable i) decl.ty) else None)) must));
    low_enough = low i decl there;
  })

  field_reads : (e a : Expr) (q : Pos) (k n : ℕ) (inner : InputPath) (t : Ty) → out-Expr e ≡ Expr-F.Field q a k
      → field_type ds n k ≡ Some t → Reads a inner (flat_ty.Structure n) → Reads e (field_of inner k) t
  field_reads e a q k n inner t is has part_reads =
      let found = field_there ds n k t has in
      let s = found.0 in
      let f = found.1.0 in
      let j = part_reads.k in
      let positive = height_positive ds.structures ds.enumerations j (flat_ty.Structure n) in
      let structure = part_Structure ds points inner j n s (omega (arith, positive, part_reads.low_enough))
      found.1.1.0 in
      subst (Reads e (field_of inner k)) found.1.1.1.1 (record {
        k = j - 1;
        is = ap (λ (r : Run Value). r.end) (eval_at env e (Expr-F.Field q a k) is arguments)
            ∙ giving_end (eval env a arguments) (part k)
            (value.Structure (fields_from (part_to ds points (j - 1)) inner 0 s.fields))
            (part_reads.is ∙ ap Ok structure)
            ∙ part_is k (fields_from (part_to ds points (j - 1)) inner 0 s.fields)
            (part_to ds points (j - 1) (field_of inner k) f.ty)
            (fields_get (part_to ds points (j - 1)) inner 0 s.fields k k f found.1.1.1.0 (omega arith));
        low_enough = field_lower (height_to ds.structures ds.enumerations (j - 1)) s.fields (j - 1) k f
            (fields_lower ds.structures ds.enumerations j n s part_reads.low_enough found.1.1.0) found.1.1.1.0;
      })

  pub reads : (e : Expr) → IsRead e
  reads = by_parts IsRead (λ e y is inner t p at typed.
      by e y is inner t p typed (path_form items e p at))
    where
      same_form : (e : Expr) (y z : Form) → out-Expr e ≡ y → out-Expr e ≡ z → y ≡ z
      same_form e y z is also = sym is ∙ also

      by : (e : Expr) (y : Form) → out-Expr e ≡ y → AllHave IsRead (parts_of y) → (t : Ty) (p : InputPath)
          → HasType names ps e t → PathForm items e p → Reads e p t
      by e y is inner t p typed (an_item q i decl form there must at) =
          let own : IsItem is_plain items i t =
          subst (λ (x : Form). PartsTyped names ps x t) form (parts_typed names ps e t typed) in
          let one : decl ≡ own.0 = same_some decl own.0 (sym there ∙ own.1) in
          subst (λ (x : InputPath). Reads e x t) at
          (item_reads e q i decl t form there must (ap (λ (d : ItemDecl). d.ty) one ∙ sym own.3))
      by e y is inner t p typed (a_field q a k path form there at) =
          let own : PartsTyped names ps (Expr-F.Field q a k) t =
          subst (λ (x : Form). PartsTyped names ps x t) form (parts_typed names ps e t typed) in
          let parts : AllHave IsRead (parts_of (Expr-F.Field q a k)) =
          subst (λ (x : Form). AllHave IsRead (parts_of x)) (same_form e y (Expr-F.Field q a k) is form) inner in
          subst (λ (x : InputPath). Reads e x t) at
          (field_reads e a q k own.0 path t form own.2 (parts.0 (flat_ty.Structure own.0) path there own.1))
