-- What a target comes to rests on its own definitions, and a condition always has a value of its own.
use Rattle.std.proofs.Common.{◌≡◌, ℕ, ◌+◌, Bool, true, false, List, [], ◌∷◌, ◌++◌, Option, None, Some, slice_get}
use Rattle.std.proofs.Common.{not, IsTrue, nat_eq, refl, arith, Result, Ok, Err, sym, ap, ◌∙◌, if◌then◌else◌}
use Rattle.std.proofs.Common.{true≢false}
use Rattle.std.proofs.lemmas.Bool.Decides.{nat_tests}
use Rattle.cat_pos.specs.declared.pos.Pos.{Pos}
use Rattle.cat_value.specs.declared.value.Value.{Value}
use Rattle.cat_value.specs.declared.outcome.Target.{Target}
use Rattle.cat_scope.specs.declared.stop.Stop.{Stop}
use Rattle.cat_scope.specs.declared.stop.Stop.TheVariants.{NoValue}
use Rattle.cat_scope.specs.declared.expr.Expr.{Expr}
use Rattle.cat_scope.specs.declared.defs.Def.{Def}
use Rattle.cat_scope.specs.Replies.{on_one}
use Rattle.cat_scope.specs.Runs.{Decider, Run, plain, gives, behind}
use Rattle.cat_scope.specs.Groups.{groups_of}
use Rattle.cat_scope.specs.Judging.{Held, Judged, held_position, decided}
use Rattle.cat_scope.specs.Targets.{same_target, defs_from, judge_groups, judge_target, absent, value_or}
use Rattle.cat_value.specs.declared.declaration.ItemDecl.{ItemDecl}
use Rattle.cat_value.specs.declared.declaration.Kind.{Kind}
use Rattle.cat_value.specs.declared.declaration.Kind.TheVariants as kind
use Rattle.cat_value.specs.declared.ty.Ty.{Ty}
use Rattle.cat_value.specs.Inputs.{must_be_given}
use Rattle.cat_scope.specs.Calls.{Items, Scoped, variable, judging_of, variable_value, call}
use Rattle.cat_sound.proofs.Results.{both}
use Rattle.cat_scope.specs.ItemValues.{passed, defined_value, ungiven_value, item_value}
use Rattle.cat_scope.specs.Names.{is_called, is_plain, has_none}

passed_over : (target : Target) (n : ℕ) (d : Def) (ds : List Def) → same_target d.target target ≡ false
    → defs_from target n (d ∷ ds) ≡ defs_from target (n + 1) ds
passed_over target n d ds other =
    ap (λ same. if same then (n, d) ∷ defs_from target (n + 1) ds else defs_from target (n + 1) ds) other

same_defs : (target : Target) (n : ℕ) (front : List Def) (d e : Def) (back : List Def) → same_target d.target target
    ≡ false → same_target e.target target ≡ false
    → defs_from target n (front ++ d ∷ back) ≡ defs_from target n (front ++ e ∷ back)
same_defs target n [] d e back other another =
    passed_over target n d back other ∙ sym (passed_over target n e back another)
same_defs target n (f ∷ front) d e back other another =
    ap (λ rest. if same_target f.target target then (n, f) ∷ rest else rest)
    (same_defs target (n + 1) front d e back other another)

pub own_definitions_alone : (value : Expr → Run Value) (target : Target) (front : List Def) (d e : Def)
    (back : List Def)
    → same_target d.target target ≡ false → same_target e.target target ≡ false
    → judge_target value target (front ++ d ∷ back) ≡ judge_target value target (front ++ e ∷ back)
unfolding judge_target
own_definitions_alone value target front d e back other another =
    ap (λ defs. judge_groups value target (groups_of defs)) (same_defs target 0 front d e back other another)

abbrev pub is_ok : {A : Type 0} → Result A Stop → Bool
is_ok (Ok a) = true
is_ok (Err stop) = false

-- a condition has a value, whatever is found
false_or-ok : (target : Target) (pos : Pos) (condition : Bool) (found : Option (Held Value)) → condition ≡ true
    → is_ok (value_or (absent target pos condition) found) ≡ true
false_or-ok target pos condition (Some h) is = refl
false_or-ok target pos true None is = refl
false_or-ok target pos false None is = absurd (true≢false (sym is))

-- the same stop in place of another value
abbrev pub as_stop : {A B : Type 0} → Stop → Result B Stop → Result A Stop
as_stop s (Ok b) = Err s
as_stop s (Err t) = Err t

-- a log in front doesn't change the end
behind-stops : {A B : Type 0} (log : List Decider) (r : Result A Stop) (next : A → Run B) (s : Stop)
    → ((a : A) → is_ok (next a).end ≡ true) → (behind log r next).end ≡ Err s → r ≡ Err s
behind-stops log (Ok a) next s ok is = absurd (true≢false (sym (ok a) ∙ ap is_ok is))
behind-stops log (Err t) next s ok is = ap (as_stop s) is

value-stops : (target : Target) (decl : ItemDecl) (judging : Judged Value) (s : Stop) → decl.condition ≡ true
    → (variable_value target (Some decl) judging).end ≡ Err s → judging.end ≡ Err s
value-stops target decl judging s condition is =
    behind-stops judging.log judging.end (λ found. plain (value_or (absent target decl.pos decl.condition) found)) s
    (λ found. false_or-ok target decl.pos decl.condition found condition) is

condition-stops : (scoped : Scoped) (before : List ℕ) (values : Items) (item : ℕ) (decl : ItemDecl) (other : Target)
    (there : Pos) → decl.condition ≡ true
    → (defined_value scoped before values item decl []).end ≡ Err (NoValue other there)
    → (judging_of scoped (call scoped values before) values [] (variable scoped item)).end ≡ Err (NoValue other there)
condition-stops scoped before values item decl other there condition is =
    behind-stops judging.log judging.end
    (λ found. record {
      log = record { target = variable scoped item; by = held_position found } ∷ [];
      end =
          Ok found;
    })
    (NoValue other there) (λ found. refl)
    (value-stops (variable scoped item) decl (decided (variable scoped item) judging) (NoValue other there) condition
    (behind-stops value.log value.end (λ v. gives (Some v)) (NoValue other there) (λ v. refl) is))
  where
    judging : Judged Value
    judging = judging_of scoped (call scoped values before) values [] (variable scoped item)

    value : Run Value
    value = variable_value (variable scoped item) (Some decl) (decided (variable scoped item) judging)

-- of a variable that is no function and has no given value
pub variable-stops : (scoped : Scoped) (before : List ℕ) (values : Items) (item : ℕ) (decl : ItemDecl) (other : Target)
    (there : Pos) → IsTrue (is_plain decl) → decl.condition ≡ true
    → (item_value scoped before values item None (Some decl)).end ≡ Err (NoValue other there)
    → (judging_of scoped (call scoped values before) values [] (variable scoped item)).end ≡ Err (NoValue other there)
variable-stops scoped before values item decl other there plain condition is =
    let two = both (not (is_called decl.kind)) (has_none decl.params) plain in
    condition-stops scoped before values item decl other there condition
    (by_params decl.params two.1 (by_kind decl.kind two.0 is))
  where
    by_params : (ps : List Ty) → IsTrue (has_none ps)
        → (defined_value scoped before values item decl ps).end ≡ Err (NoValue other there)
        → (defined_value scoped before values item decl []).end ≡ Err (NoValue other there)
    by_params [] none stops = stops
    by_params (t ∷ ts) none stops = absurd (true≢false (sym none))

    by_kind : (k : Kind) → IsTrue (not (is_called k))
        → (ungiven_value scoped before values item decl k).end ≡ Err (NoValue other there)
        → (defined_value scoped before values item decl decl.params).end ≡ Err (NoValue other there)
    by_kind (kind.Called called) free stops = absurd (true≢false (sym free))
    by_kind _ free stops = stops

pub input-has : (target : Target) (pos : Pos) (decl : ItemDecl) (found : Option (Held Value)) (other : Target)
    (there : Pos) → decl.condition ≡ true → ¬ (passed target pos decl found ≡ Err (NoValue other there))
input-has target pos decl (Some h) other there condition is = true≢false (ap is_ok is)
input-has target pos decl None other there condition is = by (must_be_given decl.kind) decl.condition condition is
  where
    by : (b c : Bool) → c ≡ true → (if b then on_one (absent target pos c) (λ v. Ok (Some v)) else Ok None) ≡ Err
        (NoValue other there) → ⊥
    by true true e g = true≢false (ap is_ok g)
    by true false e g = true≢false (sym e)
    by false c e g = true≢false (ap is_ok g)

same_itself : (n : ℕ) → nat_eq n n ≡ true
same_itself n = grind (arith, nat_tests)

pub function-stops : (scoped : Scoped) (values : Items) (before : List ℕ) (function : ℕ) (arguments : List Value)
    (decl : ItemDecl) (other : Target) (there : Pos)
    → slice_get scoped.items function ≡ Some decl → decl.condition ≡ true
    → (call scoped values (function ∷ before) function arguments).end ≡ Err (NoValue other there)
    → (judging_of scoped (call scoped values before) values arguments (variable scoped function)).end ≡ Err
    (NoValue other there)
function-stops scoped values before function arguments decl other there at condition is =
    value-stops (variable scoped function) decl judging (NoValue other there) condition
    (sym (ap (λ b. (if b then variable_value (variable scoped function) (slice_get scoped.items function) judging else
    call scoped values before function arguments).end) (same_itself function)
    ∙ ap (λ o. (variable_value (variable scoped function) o judging).end) at) ∙ is)
  where
    judging : Judged Value
    judging = judging_of scoped (call scoped values before) values arguments (variable scoped function)

-- the ways in which a condition goes on
pub ruleset conditions_go_on = (variable-stops, input-has, function-stops)
