-- The lines of the files from a number on.
use Rattle.std.proofs.Common.{◌≡◌, ◌∙◌, ◌+◌, ◌<◌, ◌≤◌, ℕ, List, [], ◌∷◌, ◌++◌, drop, length, Some, sym, ap, slice_get}
use Rattle.std.proofs.Common.{get_or}
use Rattle.std.proofs.lemmas.List.{append_assoc, drop_more, drop_all}
use Rattle.std.proofs.lemmas.Option.{slice_get-get_or}
use Rattle.cat_listing.specs.Texts.{Text, lines_of}
use Rattle.cat_listing.specs.Listing.{file_line}

next_file : (names : List Text) (n : ℕ) (name : Text) → n < length names → Some name ≡ slice_get names n
    → lines_of file_line (drop n names) ≡ file_line name ++ lines_of file_line (drop (n + 1) names)
next_file names n name below is =
    let there : Some name ≡ Some (get_or names n name) = is ∙ slice_get-get_or names n name below in
    let same : name ≡ get_or names n name = cc there in
    ap (λ (ns : List Text). lines_of file_line ns)
    (drop_more names n name below ∙ ap (λ (t : Text). t ∷ drop (n + 1) names) (sym same))

pub no_file : (names : List Text) (n : ℕ) → length names ≤ n → lines_of file_line (drop n names) ≡ []
no_file names n past = ap (λ (ns : List Text). lines_of file_line ns) (drop_all n names past)

-- the line of a file more
pub one_more : (names : List Text) (n : ℕ) (name front more all : Text) → n < length names
    → Some name ≡ slice_get names n → more ≡ front ++ file_line name
    → front ++ lines_of file_line (drop n names) ≡ all → more ++ lines_of file_line (drop (n + 1) names) ≡ all
one_more names n name front more all below is grown so_far =
    let rest : Text = lines_of file_line (drop (n + 1) names) in
    ap (λ (t : Text). t ++ rest) grown ∙ (append_assoc front (file_line name) rest
    ∙ (ap (λ (t : Text). front ++ t) (sym (next_file names n name below is)) ∙ so_far))
