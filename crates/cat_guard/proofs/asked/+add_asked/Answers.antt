use Rattle.std.proofs.Common.{◌∙◌, ◌++◌, ap, sym}
use Rattle.std.proofs.lemmas.List.{append-nil}
use Rattle.cat_guard.proofs.AskedLemmas.{asked_by, asked_Constant, asked_Atom, asked_Not, asked_Both, asked_Either}
use Rattle.cat_guard.proofs.AskedLemmas.{asked_Differ, asked_Choice, adds, adds_two, adds_three}
use Rattle.cat_guard.proofs.ResultLemmas.{on_ok}
use Rattle.cat_guard.proofs.asked.+add_asked.Goals as goal

pub returns-in-Constant : goal.returns-in-Constant
returns-in-Constant t c =
    sym (append-nil c.args.atoms.now)
    ∙ ap (λ xs. c.args.atoms.now ++ xs) (sym (asked_Constant c.args.guard.now c.in-Constant.field-0 c.in-Constant.is))

pub returns-in-Atom : goal.returns-in-Atom
returns-in-Atom t c =
    on_ok c.push.result c.push.ensures.ok
    (λ same. same ∙ ap (λ xs. c.args.atoms.now ++ xs) (sym (asked_Atom c.args.guard.now c.in-Atom.number c.in-Atom.is)))

pub returns-in-Not : goal.returns-in-Not
returns-in-Not t c =
    on_ok c.add_asked.result c.add_asked.ensures (λ same.
    adds c.args.atoms.now c.add_asked.new.atoms c.get.result.now c.in-Not.of c.get.ensures same
    ∙ ap (λ xs. c.args.atoms.now ++ xs) (sym (asked_Not c.args.guard.now c.in-Not.of c.in-Not.is)))

pub returns-in_ok-add_asked-in-Both : goal.returns-in_ok-add_asked-in-Both
returns-in_ok-add_asked-in-Both t c =
    let left = c.in-Both.left in
    let right = c.in-Both.right in
    on_ok c.add_asked-in-Both-2.result c.add_asked-in-Both-2.ensures (λ same.
    adds_two c.args.atoms.now c.add_asked-in-Both.new.atoms c.add_asked-in-Both-2.new.atoms (asked_by left)
    (asked_by right) (asked_by c.args.guard.now)
    (adds c.args.atoms.now c.add_asked-in-Both.new.atoms c.get-in-Both.result.now left c.get-in-Both.ensures
    c.in_ok-add_asked-in-Both.ensures)
    (adds c.add_asked-in-Both.new.atoms c.add_asked-in-Both-2.new.atoms c.get-in-Both-2.result.now right
    c.get-in-Both-2.ensures same)
    (asked_Both c.args.guard.now left right c.in-Both.is))

pub returns-in_ok-add_asked-in-Either : goal.returns-in_ok-add_asked-in-Either
returns-in_ok-add_asked-in-Either t c =
    let left = c.in-Either.left in
    let right = c.in-Either.right in
    on_ok c.add_asked-in-Either-2.result c.add_asked-in-Either-2.ensures (λ same.
    adds_two c.args.atoms.now c.add_asked-in-Either.new.atoms c.add_asked-in-Either-2.new.atoms (asked_by left)
    (asked_by right) (asked_by c.args.guard.now)
    (adds c.args.atoms.now c.add_asked-in-Either.new.atoms c.get-in-Either.result.now left c.get-in-Either.ensures
    c.in_ok-add_asked-in-Either.ensures)
    (adds c.add_asked-in-Either.new.atoms c.add_asked-in-Either-2.new.atoms c.get-in-Either-2.result.now right
    c.get-in-Either-2.ensures same)
    (asked_Either c.args.guard.now left right c.in-Either.is))

pub returns-in_ok-add_asked-in-Differ : goal.returns-in_ok-add_asked-in-Differ
returns-in_ok-add_asked-in-Differ t c =
    let left = c.in-Differ.left in
    let right = c.in-Differ.right in
    on_ok c.add_asked-in-Differ-2.result c.add_asked-in-Differ-2.ensures (λ same.
    adds_two c.args.atoms.now c.add_asked-in-Differ.new.atoms c.add_asked-in-Differ-2.new.atoms (asked_by left)
    (asked_by right) (asked_by c.args.guard.now)
    (adds c.args.atoms.now c.add_asked-in-Differ.new.atoms c.get-in-Differ.result.now left c.get-in-Differ.ensures
    c.in_ok-add_asked-in-Differ.ensures)
    (adds c.add_asked-in-Differ.new.atoms c.add_asked-in-Differ-2.new.atoms c.get-in-Differ-2.result.now right
    c.get-in-Differ-2.ensures same)
    (asked_Differ c.args.guard.now left right c.in-Differ.is))

pub returns-in_ok-add_asked-in-Choice-2 : goal.returns-in_ok-add_asked-in-Choice-2
returns-in_ok-add_asked-in-Choice-2 t c =
    let test = c.in-Choice.test in
    let first = c.in-Choice.first in
    let second = c.in-Choice.second in
    on_ok c.add_asked-in-Choice-3.result c.add_asked-in-Choice-3.ensures (λ same.
    adds_three c.args.atoms.now c.add_asked-in-Choice.new.atoms c.add_asked-in-Choice-2.new.atoms
    c.add_asked-in-Choice-3.new.atoms (asked_by test) (asked_by first) (asked_by second) (asked_by c.args.guard.now)
    (adds c.args.atoms.now c.add_asked-in-Choice.new.atoms c.get-in-Choice.result.now test c.get-in-Choice.ensures
    c.in_ok-add_asked-in-Choice.ensures)
    (adds c.add_asked-in-Choice.new.atoms c.add_asked-in-Choice-2.new.atoms c.get-in-Choice-2.result.now first
    c.get-in-Choice-2.ensures c.in_ok-add_asked-in-Choice-2.ensures)
    (adds c.add_asked-in-Choice-2.new.atoms c.add_asked-in-Choice-3.new.atoms c.get-in-Choice-3.result.now second
    c.get-in-Choice-3.ensures same)
    (asked_Choice c.args.guard.now test first second c.in-Choice.is))
