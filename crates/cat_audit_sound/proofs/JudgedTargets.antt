-- In a run that ends in a value each target that isn't given is judged to what covers it, in the values of its index.
use Rattle.std.proofs.Common.{◌≡◌, ℕ, zero, suc, ◌+◌, Bool, true, false, ◌||◌, not, IsTrue, List, [], ◌∷◌, Option}
use Rattle.std.proofs.Common.{Some, None, Ok, slice_get, refl, sym, ap, ◌∙◌, subst, arith, true≢false}
use Rattle.std.proofs.Common.{if◌then◌else◌}
use Rattle.cat_pos.specs.declared.pos.Pos.{Pos}
use Rattle.cat_value.specs.declared.ty.Ty.{Ty}
use Rattle.cat_value.specs.declared.value.Value.{Value}
use Rattle.cat_value.specs.declared.outcome.Target.{Target}
use Rattle.cat_value.specs.declared.declaration.Kind.{Kind}
use Rattle.cat_value.specs.declared.declaration.Kind.TheVariants as kind
use Rattle.cat_value.specs.declared.declaration.ItemDecl.{ItemDecl}
use Rattle.cat_value.specs.Inputs.{must_be_given, may_be_given}
use Rattle.cat_scope.specs.Replies.{on_one}
use Rattle.cat_scope.specs.Runs.{gives, giving}
use Rattle.cat_scope.specs.Names.{is_called}
use Rattle.cat_scope.specs.Judging.{Held, Judged, decided}
use Rattle.cat_scope.specs.Targets.{absent, value_or}
use Rattle.cat_scope.specs.Calls.{Items, Scoped, variable, variable_of_called, items_of, judging_of, variable_value}
use Rattle.cat_scope.specs.Calls.{call}
use Rattle.cat_scope.specs.ItemValues.{passed, passed_input, inner_judging, called_value, defined_value, ungiven_value}
use Rattle.cat_sound.proofs.Exported.{first_ok, same_some}
use Rattle.cat_guard.specs.TableJudging.{IsCovered}
use Rattle.cat_audit_sound.proofs.RunValues.{as_ok, same_ok}

-- what a logged judging comes to is what the judging comes to
decided_ok : (target : Target) (judging : Judged Value) (found : Option (Held Value))
    → (decided target judging).end ≡ as_ok found → judging.end ≡ as_ok found
decided_ok target judging found h =
    let one = first_ok judging _ found h in one.1 ∙ ap as_ok (same_ok one.0 found one.2)

value_covers : (target : Target) (pos : Pos) (condition : Bool) (found : Option (Held Value)) (v : Value)
    → value_or (absent target pos condition) found ≡ as_ok v → IsCovered {A = Value} condition (Ok found)
value_covers target pos condition (Some held) v h = tt
value_covers target pos true None v h = refl
value_covers target pos false None v h = absurd (cc)

-- a variable
pub variable_covered : (scoped : Scoped) (before : List ℕ) (values : Items) (item : ℕ) (decl : ItemDecl)
    (value : Option Value) → decl.params ≡ [] → is_called decl.kind ≡ false
    → (ungiven_value scoped before values item decl decl.kind).end ≡ as_ok value
    → IsCovered decl.condition (judging_of scoped (call scoped values before) values [] (variable scoped item)).end
variable_covered scoped before values item decl value none free h =
    of_defined decl.params none (by decl.kind free h)
  where
    Judging : Judged Value
    Judging = judging_of scoped (call scoped values before) values [] (variable scoped item)

    of_defined : (ps : List Ty) → ps ≡ [] → (defined_value scoped before values item decl ps).end ≡ as_ok value
        → IsCovered decl.condition Judging.end
    of_defined [] e h =
        let one = first_ok (variable_value (variable scoped item) (Some decl) (decided (variable scoped item) Judging))
        _ value h in
        let two = first_ok (decided (variable scoped item) Judging) _ one.0 one.1 in
        subst (IsCovered decl.condition) (sym (decided_ok (variable scoped item) Judging two.0 two.1))
        (value_covers (variable scoped item) decl.pos decl.condition two.0 one.0 two.2)
    of_defined (t ∷ ts) e h = absurd (cc)

    by : (k : Kind) → is_called k ≡ false → (ungiven_value scoped before values item decl k).end ≡ as_ok value
        → (defined_value scoped before values item decl decl.params).end ≡ as_ok value
    by (kind.Called s) free h = absurd (true≢false free)
    by kind.Input free h = h
    by kind.InputOutput free h = h
    by kind.Context free h = h
    by kind.ContextOutput free h = h
    by kind.Internal free h = h
    by kind.Output free h = h

-- an input or a context of a called scope
passed_covers : (target : Target) (pos : Pos) (decl : ItemDecl) (found : Option (Held Value)) (o : Option Value)
    → passed target pos decl found ≡ as_ok o
    → IsCovered {A = Value} (decl.condition || not (must_be_given decl.kind)) (Ok found)
passed_covers target pos decl (Some held) o h = tt
passed_covers target pos decl None o h = by decl.condition (must_be_given decl.kind) h
  where
    by : (c m : Bool) → (if m then on_one (absent target pos c) (λ v. Ok (Some v)) else Ok None) ≡ as_ok o
        → IsTrue (c || not m)
    by true m h = refl
    by false false h = refl
    by false true h = absurd (cc)

passed_at : (judged_at : ℕ → Judged Value) (target_at : ℕ → Target) (pos : Pos) (n : ℕ) (decls : List ItemDecl)
    (input : Items) (j : ℕ) (i : ItemDecl) → slice_get decls j ≡ Some i → IsTrue (may_be_given i.kind)
    → (passed_input judged_at target_at pos n decls).end ≡ as_ok input
    → IsCovered (i.condition || not (must_be_given i.kind)) (judged_at (n + j)).end
passed_at judged_at target_at pos n [] input j i is may h = absurd (cc)
passed_at judged_at target_at pos n (decl ∷ decls) input zero i is may h =
    let same : decl ≡ i = same_some decl i is in
    let one = first_ok (if may_be_given decl.kind then giving (decided (target_at n) (judged_at n))
    (passed (target_at n) pos decl) else gives None) _ input h in
    subst (λ (x : ItemDecl). IsCovered (x.condition || not (must_be_given x.kind)) (judged_at (n + 0)).end) same
    (subst (λ (m : ℕ). IsCovered (decl.condition || not (must_be_given decl.kind)) (judged_at m).end) (omega arith)
    (by (may_be_given decl.kind) (subst (λ (x : ItemDecl). IsTrue (may_be_given x.kind)) (sym same) may) one.0 one.1))
  where
    by : (b : Bool) → IsTrue b → (o : Option Value)
        → (if b then giving (decided (target_at n) (judged_at n)) (passed (target_at n) pos decl) else gives None).end
        ≡ as_ok o → IsCovered (decl.condition || not (must_be_given decl.kind)) (judged_at n).end
    by true given o h =
        let two = first_ok (decided (target_at n) (judged_at n)) _ o h in
        subst (IsCovered (decl.condition || not (must_be_given decl.kind)))
        (sym (decided_ok (target_at n) (judged_at n) two.0 two.1)) (passed_covers (target_at n) pos decl two.0 o two.2)
    by false given o h = absurd (true≢false (sym given))
passed_at judged_at target_at pos n (decl ∷ decls) input (suc j) i is may h =
    let one = first_ok (if may_be_given decl.kind then giving (decided (target_at n) (judged_at n))
    (passed (target_at n) pos decl) else gives None) _ input h in
    let two = first_ok (passed_input judged_at target_at pos (n + 1) decls) _ input one.2 in
    subst (λ (m : ℕ). IsCovered (i.condition || not (must_be_given i.kind)) (judged_at m).end) (omega arith)
    (passed_at judged_at target_at pos (n + 1) decls two.0 j i is may two.1)

pub inner_covered : (scoped : Scoped) (before : List ℕ) (values : Items) (item : ℕ) (decl : ItemDecl)
    (value : Option Value) (s j : ℕ) (i : ItemDecl) → decl.kind ≡ kind.Called s
    → slice_get (items_of scoped s) j ≡ Some i → IsTrue (may_be_given i.kind)
    → (ungiven_value scoped before values item decl decl.kind).end ≡ as_ok value
    → IsCovered (i.condition || not (must_be_given i.kind))
    (judging_of scoped (call scoped values before) values [] (variable_of_called scoped item j)).end
inner_covered scoped before values item decl value s j i is there may h =
    let called = subst (λ (k : Kind). (ungiven_value scoped before values item decl k).end ≡ as_ok value) is h in
    let one = first_ok (called_value scoped before values item decl s) _ value called in
    let two = first_ok (passed_input (inner_judging scoped before values item) (variable_of_called scoped item)
    decl.pos 0 (items_of scoped s)) _ one.0 one.1 in
    subst (λ (m : ℕ). IsCovered (i.condition || not (must_be_given i.kind))
    (inner_judging scoped before values item m).end) (omega arith)
    (passed_at (inner_judging scoped before values item) (variable_of_called scoped item) decl.pos 0
    (items_of scoped s) two.0 j i there may two.1)
