use Rattle.std.proofs.Common.{◌≡◌, ◌∙◌, ◌≤◌, ◌<◌, ℕ, List, length, take, ap, arith, length-take}
use Rattle.std.specs.Prelude.{Option, Some, None, IfSome}
use Rattle.std.specs.Option.{option_map}
use Rattle.std.proofs.lemmas.List.{take_all}
use Rattle.cat_io.proofs.disk_shelf.read_to_limit.Goals as goal

-- bytes that stop short of a cut are all that there were
all_of : (told : Option (List ℕ)) (most : ℕ) (bytes : List ℕ) → IfSome (option_map (take most) told) (λ xs. bytes ≡ xs)
    →
    length bytes < most → IfSome told (λ content. bytes ≡ content)
all_of None most bytes cut short = tt
all_of (Some content) most bytes cut short =
    let fits : length content ≤ most = omega (arith, length-take most content, ap (λ (xs : List ℕ). length xs) cut) in
    cut ∙ take_all most content fits

pub returns-in-Ok-2-clause-bytes : goal.returns-in-Ok-2-clause-bytes
returns-in-Ok-2-clause-bytes g c =
    let cut = rw (c.take-reader.ensures.inner, c.requires) at c.in-Ok.ensures.bytes in
    all_of _ c.take-reader.result.limit c.read_to_end.new.buf.items cut (omega arith)
