use Rattle.std.proofs.Common.{◌≡◌, ◌∙◌}
use Rattle.cat_num.specs.Text.{decimal_places}
use Rattle.cat_num.proofs.Places.{position-powers, places_low, places_divide}
use Rattle.cat_num.proofs.text.places_of.Goals as goal

pub returns : goal.returns
returns c =
    let value : c.first_divided.result ≡ decimal_places c.args.den =
    c.first_divided.ensures ∙ position-powers c.args.den in
    record { value = value; low = places_low c.args.den _ value; divides = places_divide c.args.den _ value }
