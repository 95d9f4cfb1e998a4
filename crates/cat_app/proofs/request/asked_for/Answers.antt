use Rattle.std.proofs.Common.{rules, ◌≡◌, ◌∙◌, ℕ, Bool, true, false, List, Option, option_map, sym, ap}
use Rattle.std.specs.Prelude.{bytes_eq, codes, if◌then◌else◌}
use Rattle.cat_words.specs.Asked.{Asked, asked_of as words_of}
use Rattle.cat_app.specs.Words.{OfBands, OfListing, OfScope, ask_by, bands_by, listing_by, request_by}
use Rattle.cat_app.proofs.request.asked_for.Goals as goal

-- words whose mode is that of a run of listed code ask for one
ask_exec : (cases : Option (List ℕ)) (asked : Asked) → bytes_eq asked.mode (codes "drill") ≡ false
    → bytes_eq asked.mode (codes "exec") ≡ true → ask_by cases asked ≡ option_map OfListing (listing_by asked)
ask_exec cases asked other exec =
    ap (λ (b : Bool). if b then option_map OfBands (bands_by asked) else
    (if bytes_eq asked.mode (codes "exec") then option_map OfListing (listing_by asked)
    else option_map OfScope (request_by cases asked))) other
    ∙ ap (λ (b : Bool). if b then option_map OfListing (listing_by asked)
    else option_map OfScope (request_by cases asked)) exec

pub returns-then-eq-2-clause-asked : goal.returns-then-eq-2-clause-asked
returns-then-eq-2-clause-asked c = λ cases.
    c.listing_for.ensures.asked cases
    ∙ sym (ask_exec cases (words_of c.args.line) (search rules) (search rules))
