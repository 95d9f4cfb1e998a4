use Rattle.std.proofs.Common.{◌≡◌, refl, sym, ap, ◌∙◌, true, false, not, true≢false}
use Rattle.std.specs.Prelude.{Bool, Option, ℕ}
use Rattle.std.proofs.Math.Bool.{beq}
use Rattle.cat_guard.specs.Formulas.{known}
use Rattle.cat_guard.specs.GuardFormulas.{formula_of}
use Rattle.cat_guard.specs.Judged.{answers_in}
use Rattle.cat_guard.specs.declared.guard.Guard.{Guard}
use Rattle.cat_guard.specs.inside.Telling.{is_it}
use Rattle.cat_guard.proofs.GuardLaws.{so_Not, so_Both_second, so_Both_first, so_Either_second, so_Either_first}
use Rattle.cat_guard.proofs.TellLaws.{found_is}
use Rattle.cat_guard.proofs.truth.+so.Goals as goal

is_same : (a b : Bool) → beq a b ≡ true → a ≡ b
is_same true true h = refl
is_same true false h = absurd (true≢false (sym h))
is_same false true h = absurd (true≢false (sym h))
is_same false false h = refl

isnt_same : (a b : Bool) → beq a b ≡ false → a ≡ b → ⊥
isnt_same true true h e = true≢false h
isnt_same true false h e = true≢false e
isnt_same false true h e = true≢false (sym e)
isnt_same false false h e = true≢false h

when_not : (b : Bool) → not b ≡ true → b ≡ false
when_not true h = absurd (true≢false (sym h))
when_not false h = refl

unless_not : (b : Bool) → not b ≡ false → b ≡ true
unless_not true h = refl
unless_not false h = absurd (true≢false h)

-- of the part that a box holds
boxed : (answers : ℕ → Option Bool) (so b : Bool) (g f : Guard) → g ≡ f → b ≡ is_it so (known answers (formula_of g))
    → b ≡ is_it so (known answers (formula_of f))
boxed answers so b g f same is = is ∙ ap (λ w. is_it so (known answers (formula_of w))) same

pub returns-in-Not : goal.returns-in-Not
returns-in-Not t c =
    let answers = answers_in c.args.atoms.now c.args.region.now in
    boxed answers (not c.args.so) c.is_so.result c.get.result.now c.in-Not.of c.get.ensures c.is_so.ensures
    ∙ so_Not answers c.args.so c.args.guard.now c.in-Not.of c.in-Not.is

pub returns-then-second-so : goal.returns-then-second-so
returns-then-second-so t c =
    let answers = answers_in c.args.atoms.now c.args.region.now in
    let second = boxed answers c.args.so c.is_so-second.result c.get-in-Both.result.now c.in-Both.right
    c.get-in-Both.ensures c.is_so-second.ensures in
    second
    ∙ so_Both_second answers c.args.so c.args.guard.now c.in-Both.left c.in-Both.right c.in-Both.is
    (λ same. isnt_same c.is_so-second.result c.args.so
    (when_not (beq c.is_so-second.result c.args.so) c.if-second-so.true) (second ∙ same))

pub returns-else-second-so : goal.returns-else-second-so
returns-else-second-so t c =
    let answers = answers_in c.args.atoms.now c.args.region.now in
    let second = boxed answers c.args.so c.is_so-second.result c.get-in-Both.result.now c.in-Both.right
    c.get-in-Both.ensures c.is_so-second.ensures in
    boxed answers c.args.so c.is_so-in-Both.result c.get-in-Both-2.result.now c.in-Both.left c.get-in-Both-2.ensures
    c.is_so-in-Both.ensures
    ∙ so_Both_first answers c.args.so c.args.guard.now c.in-Both.left c.in-Both.right c.in-Both.is
    (sym second
    ∙ is_same c.is_so-second.result c.args.so
    (unless_not (beq c.is_so-second.result c.args.so) c.if-second-so.false))

pub returns-then-other-so : goal.returns-then-other-so
returns-then-other-so t c =
    let answers = answers_in c.args.atoms.now c.args.region.now in
    let second = boxed answers c.args.so c.is_so-other.result c.get-in-Either.result.now c.in-Either.right
    c.get-in-Either.ensures c.is_so-other.ensures in
    second
    ∙ so_Either_second answers c.args.so c.args.guard.now c.in-Either.left c.in-Either.right c.in-Either.is
    (sym second ∙ is_same c.is_so-other.result c.args.so c.if-other-so.true)

pub returns-else-other-so : goal.returns-else-other-so
returns-else-other-so t c =
    let answers = answers_in c.args.atoms.now c.args.region.now in
    let second = boxed answers c.args.so c.is_so-other.result c.get-in-Either.result.now c.in-Either.right
    c.get-in-Either.ensures c.is_so-other.ensures in
    boxed answers c.args.so c.is_so-in-Either.result c.get-in-Either-2.result.now c.in-Either.left
    c.get-in-Either-2.ensures c.is_so-in-Either.ensures
    ∙ so_Either_first answers c.args.so c.args.guard.now c.in-Either.left c.in-Either.right c.in-Either.is
    (λ same. isnt_same c.is_so-other.result c.args.so c.if-other-so.false (second ∙ same))

pub returns-in_default : goal.returns-in_default
returns-in_default t c =
    let answers = answers_in c.args.atoms.now c.args.region.now in
    c.is_told.ensures ∙ ap (is_it c.args.so) (sym (found_is answers (formula_of c.args.guard.now) c.known.result
    c.known.ensures))
