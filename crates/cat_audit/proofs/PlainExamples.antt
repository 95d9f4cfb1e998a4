-- Worked examples: a plain scope that has all that the law asks, and scopes that aren't plain.
use Rattle.std.proofs.Common.{◌≡◌, ◌&&◌, ◌≤◌, ℕ, pos, Bool, true, false, IsTrue, List, [], ◌∷◌, map, Option, None, Some}
use Rattle.std.proofs.Common.{refl, sym, ap, ◌∙◌, subst, rules, true≢false, arith}
use Rattle.cat_value.specs.declared.declaration.ItemDecl.{ItemDecl}
use Rattle.cat_value.specs.declared.declaration.Kind.TheVariants as kind
use Rattle.cat_value.specs.declared.outcome.Outcome.TheVariants as outcome
use Rattle.cat_value.specs.declared.ty.Ty.TheVariants as flat_ty
use Rattle.cat_value.specs.declared.value.Value.{Value}
use Rattle.cat_value.specs.declared.value.Value.TheVariants as flat
use Rattle.cat_value.specs.declared.value.Value.TheViews as value
use Rattle.cat_value.specs.Inputs.{are_given_for, is_input_of}
use Rattle.cat_value.specs.Typing.{has_type}
use Rattle.cat_value.proofs.Exported.{boolean_value}
use Rattle.cat_scope.specs.Calls.{Items}
use Rattle.cat_scope.specs.Outcomes.{scope_outcome}
use Rattle.cat_scope.specs.Running.{run_of}
use Rattle.cat_scope.specs.Targets.{judge_target}
use Rattle.cat_scope.proofs.Exported.{equations}
use Rattle.cat_region.specs.declared.cut.Cut.TheVariants as cut
use Rattle.cat_region.specs.declared.dim.Dim.TheVariants as dim
use Rattle.cat_scope.specs.declared.defs.Assertion.{Assertion}
use Rattle.cat_scope.specs.declared.defs.Body.{Body}
use Rattle.cat_scope.specs.declared.defs.Def.{Def}
use Rattle.cat_scope.specs.declared.defs.Except.TheVariants as except
use Rattle.cat_scope.specs.declared.defs.SourcePart.{SourcePart}
use Rattle.cat_scope.specs.declared.defs.SourcePart.TheVariants as part
use Rattle.cat_scope.specs.declared.expr.Expr.TheVariants as leaf
use Rattle.cat_scope.specs.Forests.{targets_of}
use Rattle.cat_date.specs.declared.rounding.Rounding.TheVariants.{Refuse}
use Rattle.cat_value.specs.declared.declaration.Scope.{Scope}
use Rattle.cat_value.specs.declared.outcome.Target.{Target}
use Rattle.cat_scope.specs.declared.expr.Arm.{Arm}
use Rattle.cat_scope.specs.declared.expr.Expr.{Expr}
use Rattle.cat_scope.specs.declared.expr.Expr.TheFolds.{fold_out-Expr, map-Expr}
use Rattle.cat_scope.specs.declared.expr.Expr.TheOpen.{Expr-F}
use Rattle.cat_scope.specs.declared.expr.Expr.TheViews.{out-Expr}
use Rattle.cat_scope.specs.declared.expr.Expr.TheViews as expr
use Rattle.cat_scope.specs.declared.expr.FieldValue.{FieldValue}
use Rattle.cat_scope.specs.declared.operators.UnaryOp.TheVariants.{Not}
use Rattle.cat_scope.specs.Names.{AllHave}
use Rattle.cat_scope.specs.Same.{Standing}
use Rattle.cat_scope.specs.Same as same
use Rattle.cat_scope.specs.SameTree.{same_tree}
use Rattle.cat_scope.proofs.Exported.{namings}
use Rattle.cat_scope.proofs.Samples.{at, def, n, scope_of, truth_item, x}
use Rattle.cat_sound.proofs.Exported.{same_some, test_whole}
use Rattle.cat_guard.specs.declared.table.Atom.{Atom}
use Rattle.cat_guard.specs.declared.table.InputPath.{InputPath}
use Rattle.cat_guard.specs.declared.table.Table.{Table}
use Rattle.cat_guard.specs.declared.table.TableTarget.{TableTarget}
use Rattle.cat_guard.specs.declared.table.Term.{Term}
use Rattle.cat_guard.specs.Formulas.{Formula, asked}
use Rattle.cat_guard.specs.Formulas as formula
use Rattle.cat_guard.specs.Questions.{Question, guard_of}
use Rattle.cat_guard.specs.Tables.{IsTableOf, def_formula, questions_of, standing_of, target_of}
use Rattle.cat_guard.specs.Terms.{atoms_of, path_in, path_of, term_of, terms_of}
use Rattle.cat_guard.proofs.Exported.{formulas, guard_at}
use Rattle.cat_audit_sound.specs.Shown.{IsFree}
use Rattle.cat_search.specs.Cells.{cells}
use Rattle.cat_audit.specs.Called.{in_scope_calls}
use Rattle.cat_audit.specs.Plain.{IsPlain, IsPlainBody}
use Rattle.cat_audit.specs.Decided.{EndsInNoFault, HasCellsWithin, IsNoFault}
use Rattle.cat_audit.proofs.Sample.{decls, defs, items, not_n, one, program, the_body, two}

-- ---- how it ends

where_true : scope_outcome program 0 (Some (flat.Boolean true) ∷ None ∷ [])
    ≡ Some (outcome.Value (flat.Integer (pos 1) ∷ []))
unfolding run_of judge_target
where_true = search (rules, equations, value.the_lemmas)

where_false : scope_outcome program 0 (Some (flat.Boolean false) ∷ None ∷ [])
    ≡ Some (outcome.Value (flat.Integer (pos 2) ∷ []))
unfolding run_of judge_target
where_false = search (rules, equations, value.the_lemmas)

each_truth : (b : Bool) → IsNoFault (scope_outcome program 0 (Some (flat.Boolean b) ∷ None ∷ []))
each_truth true = subst IsNoFault (sym where_true) tt
each_truth false = subst IsNoFault (sym where_false) tt

first : (a b : Bool) → IsTrue (a && b) → IsTrue a
first true b h = refl
first false b h = absurd (true≢false (sym h))

second : (a b : Bool) → IsTrue (a && b) → IsTrue b
second true b h = h
second false b h = absurd (true≢false (sym h))

-- a well-typed input has a boolean and nothing else
each_input : (input : Items) → are_given_for decls items input ≡ true → IsNoFault (scope_outcome program 0 input)
each_input [] h = absurd (true≢false (sym h))
each_input (None ∷ input) h = absurd (true≢false (sym h))
each_input (Some v ∷ []) h = absurd (true≢false (sym (second (has_type decls v flat_ty.Boolean) false h)))
each_input (Some v ∷ Some w ∷ input) h =
    absurd (true≢false (sym (second (has_type decls v flat_ty.Boolean) false h)))
each_input (Some v ∷ None ∷ w ∷ input) h =
    absurd (true≢false (sym (second (has_type decls v flat_ty.Boolean) false h)))
each_input (Some v ∷ None ∷ []) h =
    let is = boolean_value decls v (first (has_type decls v flat_ty.Boolean) true h) in
    subst (λ (w : Value). IsNoFault (scope_outcome program 0 (Some w ∷ None ∷ []))) (sym is.1) (each_truth is.0)

pub it_ends_in_no_fault : EndsInNoFault program 0
unfolding is_input_of
it_ends_in_no_fault input typed = each_input input typed

-- ---- it is plain

abbrev g : Standing
g = standing_of one

-- whether n is true
abbrev asks : Question
asks = record { standing = g; expr = n; dim = dim.Truth; cut = cut.IsTrue }

n_guard : guard_of decls g n ≡ formula.Atom asks
n_guard = guard_at decls g n (Expr-F.Item (at 0 0) 0) (expr.outs-Item (at 0 0) 0)

one_guard : def_formula decls one ≡ formula.Atom asks
one_guard = n_guard

two_guard : def_formula decls two ≡ formula.Not (formula.Atom asks)
two_guard = guard_at decls g not_n (Expr-F.Unary (at 0 0) Not n) (expr.outs-Unary (at 0 0) Not n)
    ∙ ap formula.Not n_guard

path_level : (e : Expr) → path_of items e
    ≡ path_in items (map-Expr Expr Arm FieldValue (Option InputPath) (Unit {0}) (Unit {0})
    (path_of items) (λ a. tt) (λ f. tt) (out-Expr e))
unfolding path_of
path_level e = fold_out-Expr (Option InputPath) (Unit {0}) (Unit {0}) (path_in items) (λ a. tt) (λ f. tt) e

n_path : path_of items n ≡ Some (record { item = 0; fields = [] })
n_path = rw (path_level n, expr.outs-Item (at 0 0) 0) refl

n_free : IsFree (term_of items asks)
n_free = (record { item = 0; fields = [] }, n_path)

pub it_is_plain : IsPlain program 0
it_is_plain = (
  scope_of items,
  the_body,
  refl,
  refl,
  record {
    free = (
      subst (λ (f : Formula Question). AllHave (λ q. IsFree (term_of items q)) (asked f)) (sym one_guard) (n_free, tt),
      (
        subst (λ (f : Formula Question). AllHave (λ q. IsFree (term_of items q)) (asked f)) (sym two_guard)
            (n_free, tt),
        tt,
      ),
    );
    no_called_scope = (refl, (refl, tt));
    no_scope_call = search (rules, namings);
    no_function = (refl, (refl, tt));
  },
)

-- ---- its cells

same_n : same_tree g g n n ≡ true
same_n = test_whole g g same.item

abbrev targets : List Target
targets = targets_of decls 0 items (0 ∷ 1 ∷ [])

abbrev questions : List Question
questions = questions_of decls defs targets

-- one for each truth value of n
two_cells : cells (terms_of items questions) (atoms_of questions) (target_of decls items defs questions x) ≡ 2
two_cells = search (rules, one_guard, two_guard, same_n, formulas)

x_cells : cells (terms_of items questions) (atoms_of questions) (target_of decls items defs questions x) ≤ 2
x_cells = subst (λ (k : ℕ). k ≤ 2) (sym two_cells) (omega arith)

by_table : (table : Table) → IsTableOf decls 0 (scope_of items) the_body table
    → AllHave (λ (t : TableTarget). cells table.terms table.atoms t ≤ 2) table.targets
by_table table is =
    subst (AllHave (λ (t : TableTarget). cells table.terms table.atoms t ≤ 2)) (sym is.targets_are)
    (subst (λ (terms : List Term). AllHave (λ (t : TableTarget). cells terms table.atoms t ≤ 2)
    (map (target_of decls items defs questions) targets)) (sym is.terms_are)
    (subst (λ (atoms : List Atom). AllHave (λ (t : TableTarget). cells (terms_of items questions) atoms t ≤ 2)
    (map (target_of decls items defs questions) targets)) (sym is.atoms_are) (x_cells, tt)))

pub its_cells : HasCellsWithin program 0 2
its_cells table tabled =
    let one : tabled.0 ≡ scope_of items = same_some tabled.0 (scope_of items) (sym tabled.2) in
    let two : tabled.1 ≡ the_body = same_some tabled.1 the_body (sym tabled.3) in
    by_table table (subst (λ (d : Scope). IsTableOf decls 0 d the_body table) one
    (subst (λ (b : Body). IsTableOf decls 0 tabled.0 b table) two tabled.4))

-- ---- what isn't plain

-- an output is derived, and so is a context
an_output_is_derived : path_of items (leaf.Item (at 0 0) 1) ≡ None
an_output_is_derived = rw (path_level (leaf.Item (at 0 0) 1), expr.outs-Item (at 0 0) 1) refl

-- a call of T, with nothing given
abbrev called : Expr
called = expr.ScopeCall (at 0 0) 1 [] 0

-- in a consequence, in an assertion, and in the condition of a block that defines nothing
abbrev saying : List Def → List Assertion → List SourcePart → Body
saying ds assertions source = record {
  defs = ds;
  assertions = assertions;
  source = source;
  rounding = Refuse;
  order = 0 ∷ 1 ∷ [];
  calls = 1 ∷ [];
}

in_a_consequence : in_scope_calls (Some (saying (def x None except.No None called (at 6 3) ∷ []) []
    (part.Declaration ∷ part.Definition ∷ []))) ≡ 1 ∷ []
in_a_consequence = search (rules, namings)

in_an_assertion : in_scope_calls (Some (saying [] (record { condition = called; keyword = at 6 3 } ∷ [])
    (part.Declaration ∷ part.Assertion ∷ []))) ≡ 1 ∷ []
in_an_assertion = search (rules, namings)

in_a_block : in_scope_calls (Some (saying [] [] (part.Declaration ∷ part.Condition called ∷ []))) ≡ 1 ∷ []
in_a_block = search (rules, namings)

-- a function variable that has no definition
abbrev f_of : ItemDecl
f_of = record {
  name = [];
  pos = at 5 12;
  kind = kind.Internal;
  ty = flat_ty.Integer;
  condition = false;
  params = flat_ty.Integer ∷ [];
}

with_a_function : IsPlainBody decls (f_of ∷ items) the_body → ⊥
with_a_function plain = true≢false plain.no_function.0

-- a called scope that is given nothing
with_a_called_scope : IsPlainBody decls (truth_item (kind.Called 1) (at 5 3) ∷ items) the_body → ⊥
with_a_called_scope plain = true≢false plain.no_called_scope.0
