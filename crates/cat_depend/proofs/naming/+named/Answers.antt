use Rattle.std.proofs.Common.{◌≡◌, ◌++◌, [], refl, ap, ◌∙◌, rules}
use Rattle.std.proofs.Math.Logic.{⊎_elim}
use Rattle.cat_depend.specs.inside.Wanted.{named, function_in, scope_in, in_each, in_fields, in_arms}
use Rattle.cat_depend.proofs.Named.{names_Literal, names_Local, names_Binary, names_Or, names_ForAll}
use Rattle.cat_depend.proofs.Named.{names_Exists, names_Map, names_Filter, names_Contains, names_If, names_Combine}
use Rattle.cat_depend.proofs.Named.{names, behind}
use Rattle.cat_depend.proofs.naming.+named.Goals as goal

pub add_named-returns-in-Literal : goal.add_named-returns-in-Literal
add_named-returns-in-Literal t c =
    let w = c.args.wanted in
    let none : named c.args.wanted c.args.e.now ≡ [] = ⊎_elim
    (λ h. ap (named w) h.2 ∙ names_Literal w h.0 h.1) (λ h. ap (named w) h.2 ∙ names_Local w h.0 h.1) c.in-Literal.is in
    rw none (search rules)

pub add_named-returns-in-Literal-2 : goal.add_named-returns-in-Literal-2
add_named-returns-in-Literal-2 t c =
    let w = c.args.wanted in
    let none : named c.args.wanted c.args.e.now ≡ [] = ⊎_elim
    (λ h. ap (named w) h.2 ∙ names_Literal w h.0 h.1) (λ h. ap (named w) h.2 ∙ names_Local w h.0 h.1) c.in-Literal.is in
    rw none (search rules)

pub add_named-returns-in_ok-add_arms-in-Match : goal.add_named-returns-in_ok-add_arms-in-Match
add_named-returns-in_ok-add_arms-in-Match t c =
    behind c.args.numbers.now (named c.args.wanted c.in-Match.matched) (in_arms c.args.wanted c.in-Match.arms)
    c.add_named-in-Match.new.numbers c.add_arms.new.numbers (named c.args.wanted c.args.e.now) (search rules) (search rules)
    (search (rules, names))

pub add_named-returns-in_ok-add_each-in-Call : goal.add_named-returns-in_ok-add_each-in-Call
add_named-returns-in_ok-add_each-in-Call t c =
    behind c.args.numbers.now (function_in c.args.wanted c.in-Call.function) (in_each c.args.wanted c.in-Call.args)
    c.add_function.new.numbers c.add_each-in-Call.new.numbers (named c.args.wanted c.args.e.now) (search rules)
    (search rules)
    (search (rules, names))

pub add_named-returns-in_ok-add_fields-in-ScopeCall : goal.add_named-returns-in_ok-add_fields-in-ScopeCall
add_named-returns-in_ok-add_fields-in-ScopeCall t c =
    behind c.args.numbers.now (scope_in c.args.wanted c.in-ScopeCall.scope)
    (in_fields c.args.wanted c.in-ScopeCall.fields)
    c.add_scope.new.numbers c.add_fields-in-ScopeCall.new.numbers (named c.args.wanted c.args.e.now) (search rules)
    (search rules)
    (search (rules, names))

pub add_named-returns-in_ok-add_named-in-Binary-2 : goal.add_named-returns-in_ok-add_named-in-Binary-2
add_named-returns-in_ok-add_named-in-Binary-2 t c =
    let w = c.args.wanted in
    let a = c.in-Binary.first in
    let b = c.in-Binary.second in
    let all : named c.args.wanted c.args.e.now ≡ named c.args.wanted c.in-Binary.first ++ named c.args.wanted
    c.in-Binary.second =
    ⊎_elim (λ h. ap (named w) h.3 ∙ names_Binary w h.0 h.1 h.2 a b)
    (⊎_elim (λ h. ap (named w) h.1 ∙ names_Or w h.0 a b)
    (⊎_elim (λ h. ap (named w) h.1 ∙ names_ForAll w h.0 a b)
    (⊎_elim (λ h. ap (named w) h.1 ∙ names_Exists w h.0 a b)
    (⊎_elim (λ h. ap (named w) h.1 ∙ names_Map w h.0 a b)
    (⊎_elim (λ h. ap (named w) h.1 ∙ names_Filter w h.0 a b)
    (λ h. ap (named w) h.2 ∙ names_Contains w h.0 h.1 a b)))))) c.in-Binary.is in
    behind c.args.numbers.now (named c.args.wanted c.in-Binary.first) (named c.args.wanted c.in-Binary.second)
    c.add_named-in-Binary.new.numbers c.add_named-in-Binary-2.new.numbers (named c.args.wanted c.args.e.now)
    (search rules) (search rules) all

pub add_named-returns-in_ok-add_named-in-And-2 : goal.add_named-returns-in_ok-add_named-in-And-2
add_named-returns-in_ok-add_named-in-And-2 t c =
    behind c.args.numbers.now (named c.args.wanted c.in-And.first) (named c.args.wanted c.in-And.second)
    c.add_named.new.numbers c.add_named-in-And.new.numbers (named c.args.wanted c.args.e.now)
    (search rules) (search rules) (search (rules, names))

pub add_named-returns-in_ok-add_named-in-If-3 : goal.add_named-returns-in_ok-add_named-in-If-3
add_named-returns-in_ok-add_named-in-If-3 t c =
    let w = c.args.wanted in
    let first = c.in-If.first in
    let second = c.in-If.second in
    let third = c.in-If.third in
    let all : named c.args.wanted c.args.e.now ≡ named c.args.wanted c.in-If.first
    ++ named c.args.wanted c.in-If.second ++ named c.args.wanted c.in-If.third =
    ⊎_elim (λ h. ap (named w) h.1 ∙ names_If w h.0 first second third)
    (λ h. ap (named w) h.1 ∙ names_Combine w h.0 first second third) c.in-If.is in
    let two : c.add_named-in-If-2.new.numbers ≡ c.args.numbers.now
    ++ (named c.args.wanted c.in-If.first ++ named c.args.wanted c.in-If.second) =
    behind c.args.numbers.now (named c.args.wanted c.in-If.first) (named c.args.wanted c.in-If.second)
    c.add_named-in-If.new.numbers c.add_named-in-If-2.new.numbers _ (search rules) (search rules) refl in
    behind c.args.numbers.now (named c.args.wanted c.in-If.first ++ named c.args.wanted c.in-If.second)
    (named c.args.wanted c.in-If.third)
    c.add_named-in-If-2.new.numbers c.add_named-in-If-3.new.numbers (named c.args.wanted c.args.e.now)
    two (search rules) all
