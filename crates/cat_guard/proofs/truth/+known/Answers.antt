use Rattle.std.proofs.Common.{refl, sym, subst, ◌∙◌, true, false}
use Rattle.cat_guard.specs.Formulas as formula
use Rattle.cat_guard.specs.GuardFormulas.{formula_of}
use Rattle.cat_guard.specs.Judged.{answers_in}
use Rattle.cat_guard.specs.declared.truth.Truth.TheVariants as truth
use Rattle.cat_guard.specs.inside.Telling.{Tells}
use Rattle.cat_guard.proofs.GuardLaws.{found_Constant, found_Atom, found_Not, found_Both, found_Either, found_Differ}
use Rattle.cat_guard.proofs.GuardLaws.{found_Choice, stops_Both, stops_Either}
use Rattle.cat_guard.proofs.TellLaws.{both_stops, either_stops}
use Rattle.cat_guard.proofs.truth.+known.Goals as goal

pub returns-in-Constant : goal.returns-in-Constant
returns-in-Constant t c =
    found_Constant (answers_in c.args.atoms.now c.args.region.now) c.args.guard.now (truth.Known c.in-Constant.value)
    c.in-Constant.value c.in-Constant.is refl

pub returns-in-Atom : goal.returns-in-Atom
returns-in-Atom t c =
    found_Atom (answers_in c.args.atoms.now c.args.region.now) c.args.guard.now c.answer.result c.in-Atom.number
    c.in-Atom.is c.answer.ensures

pub returns-in-Not : goal.returns-in-Not
returns-in-Not t c =
    let answers = answers_in c.args.atoms.now c.args.region.now in
    found_Not answers c.args.guard.now c.negation.result c.in-Not.of c.in-Not.is
    (c.negation.ensures answers (formula_of c.in-Not.of)
    (subst (λ g. Tells answers (formula_of g) c.known.result) c.get.ensures c.known.ensures))

pub returns-then-is_false : goal.returns-then-is_false
returns-then-is_false t c =
    let answers = answers_in c.args.atoms.now c.args.region.now in
    stops_Both answers c.args.guard.now c.known-left.result c.in-Both.left c.in-Both.right c.in-Both.is
    (both_stops answers (formula_of c.in-Both.left) (formula_of c.in-Both.right) c.known-left.result
    (subst (λ g. Tells answers (formula_of g) c.known-left.result) c.get-in-Both.ensures c.known-left.ensures)
    (sym c.is_told-is_false.ensures ∙ c.if-is_false.true))

pub returns-else-is_false : goal.returns-else-is_false
returns-else-is_false t c =
    let answers = answers_in c.args.atoms.now c.args.region.now in
    found_Both answers c.args.guard.now c.choice.result c.in-Both.left c.in-Both.right c.in-Both.is
    (c.choice.ensures answers (formula_of c.in-Both.left) (formula_of c.in-Both.right) (formula.Constant false)
    (subst (λ g. Tells answers (formula_of g) c.known-left.result) c.get-in-Both.ensures c.known-left.ensures)
    (subst (λ g. Tells answers (formula_of g) c.known-right.result) c.get-in-Both-2.ensures c.known-right.ensures) refl)

pub returns-then-is_true : goal.returns-then-is_true
returns-then-is_true t c =
    let answers = answers_in c.args.atoms.now c.args.region.now in
    stops_Either answers c.args.guard.now c.known-left-in-Either.result c.in-Either.left c.in-Either.right
    c.in-Either.is
    (either_stops answers (formula_of c.in-Either.left) (formula_of c.in-Either.right) c.known-left-in-Either.result
    (subst (λ g. Tells answers (formula_of g) c.known-left-in-Either.result) c.get-in-Either.ensures
    c.known-left-in-Either.ensures)
    (sym c.is_told-is_true.ensures ∙ c.if-is_true.true))

pub returns-else-is_true : goal.returns-else-is_true
returns-else-is_true t c =
    let answers = answers_in c.args.atoms.now c.args.region.now in
    found_Either answers c.args.guard.now c.choice-in-Either.result c.in-Either.left c.in-Either.right c.in-Either.is
    (c.choice-in-Either.ensures answers (formula_of c.in-Either.left) (formula.Constant true)
    (formula_of c.in-Either.right)
    (subst (λ g. Tells answers (formula_of g) c.known-left-in-Either.result) c.get-in-Either.ensures
    c.known-left-in-Either.ensures) refl
    (subst (λ g. Tells answers (formula_of g) c.known-right-in-Either.result) c.get-in-Either-2.ensures
    c.known-right-in-Either.ensures))

pub returns-in-Differ : goal.returns-in-Differ
returns-in-Differ t c =
    let answers = answers_in c.args.atoms.now c.args.region.now in
    let right : Tells answers (formula_of c.in-Differ.right) c.known-right-in-Differ.result =
    subst (λ g. Tells answers (formula_of g) c.known-right-in-Differ.result) c.get-in-Differ-2.ensures
    c.known-right-in-Differ.ensures in
    found_Differ answers c.args.guard.now c.choice-in-Differ.result c.in-Differ.left c.in-Differ.right c.in-Differ.is
    (c.choice-in-Differ.ensures answers (formula_of c.in-Differ.left) (formula.Not (formula_of c.in-Differ.right))
    (formula_of c.in-Differ.right)
    (subst (λ g. Tells answers (formula_of g) c.known-left-in-Differ.result) c.get-in-Differ.ensures
    c.known-left-in-Differ.ensures)
    (c.negation-in-Differ.ensures answers (formula_of c.in-Differ.right) right) right)

pub returns-in-Choice : goal.returns-in-Choice
returns-in-Choice t c =
    let answers = answers_in c.args.atoms.now c.args.region.now in
    found_Choice answers c.args.guard.now c.choice-in-Choice.result c.in-Choice.test c.in-Choice.first
    c.in-Choice.second c.in-Choice.is
    (c.choice-in-Choice.ensures answers (formula_of c.in-Choice.test) (formula_of c.in-Choice.first)
    (formula_of c.in-Choice.second)
    (subst (λ g. Tells answers (formula_of g) c.known-test.result) c.get-in-Choice.ensures c.known-test.ensures)
    (subst (λ g. Tells answers (formula_of g) c.known-first.result) c.get-in-Choice-2.ensures c.known-first.ensures)
    (subst (λ g. Tells answers (formula_of g) c.known-second.result) c.get-in-Choice-3.ensures c.known-second.ensures))
