use Rattle.std.proofs.Common.{◌≡◌, sym, arith, rules}
use Rattle.std.specs.Fmt.{decimal}
use Rattle.cat_app.proofs.Numbered.{named, unnamed}
use Rattle.cat_app.proofs.number.bands_in.Goals as goal

pub returns-in_default-clause-named : goal.returns-in_default-clause-named
returns-in_default-clause-named c = sym (unnamed c.args.text.now c.parse.result c.parse.ensures.value.0
    (λ n ok some within is. search rules))

pub returns-then-bands-eq0-clause-named : goal.returns-then-bands-eq0-clause-named
returns-then-bands-eq0-clause-named c = sym (unnamed c.args.text.now c.parse.result c.parse.ensures.value.0
    (λ n ok some within is.
    let same : n ≡ c.in-Ok.bands = cc (ok, c.in-Ok.is) in
    grind (arith, same, some, within)))

pub returns-then-eq-clause-named : goal.returns-then-eq-clause-named
returns-then-eq-clause-named c =
    let written : c.args.text.now ≡ decimal c.in-Ok.bands = search rules in
    sym (named c.args.text.now c.in-Ok.bands (omega (arith, c.if-bands-eq0.false))
    (omega (arith, c.if-bands-gt-MOST_BANDS.false)) written)

pub returns-clause-named : goal.returns-clause-named
returns-clause-named c = sym (unnamed c.args.text.now c.parse.result c.parse.ensures.value.0 (λ n ok some within is.
    let same : n ≡ c.in-Ok.bands = cc (ok, c.in-Ok.is) in
    search rules))
