use Rattle.std.proofs.Common.{◌≡◌, ◌++◌, drop, string_bytes}
use Rattle.cat_listing.specs.Texts.{lines_of}
use Rattle.cat_listing.specs.Listing.{place_line}
use Rattle.cat_listing.proofs.whole.push_places.Given as goal

abbrev pub invariant-loop-pos : goal.invariant-loop-pos
invariant-loop-pos l =
    string_bytes l.text ++ lines_of (place_line l.name) (drop l.pos-index l.positions)
    ≡ string_bytes l.initial.text ++ lines_of (place_line l.name) l.positions
