-- Which headings stand over definitions, and what a trace says of them.
use Rattle.std.proofs.Common.{◌≡◌, ℕ, List, [], ◌∷◌, Some, None, refl}
use Rattle.std.specs.Prelude.{codes}
use Rattle.std.specs.Fmt.{digits}
use Rattle.cat_pos.specs.declared.pos.Piece.{Piece}
use Rattle.cat_pos.specs.Position.{pos_of}
use Rattle.cat_weave.specs.declared.segment.Heading.{Heading}
use Rattle.cat_trace.specs.Over.{headings_before, piece_from, placed_at}
use Rattle.cat_trace.specs.Traces.{by_text, decided_line}

-- a heading with so many pieces in front of it
abbrev heading : ℕ → List ℕ → Heading
heading pieces text = record { pieces = pieces; level = 1; text = text; pos = pos_of 0 1 1 }

-- a piece that begins in a line of a file
abbrev piece : ℕ → ℕ → Piece
piece file line = record { text = []; pos = pos_of file line 1 }

a_heading_stands_over_the_piece_behind_it :
    (placed_at (heading 0 (codes "Article 1") ∷ []) (piece 0 3 ∷ []) (pos_of 0 7 3)).headings ≡ 1
unfolding piece_from headings_before
a_heading_stands_over_the_piece_behind_it = refl

nothing_stands_over_a_piece_in_front_of_all_headings :
    (placed_at (heading 1 (codes "Article 1") ∷ []) (piece 0 3 ∷ []) (pos_of 0 7 3)).headings ≡ 0
unfolding piece_from headings_before
nothing_stands_over_a_piece_in_front_of_all_headings = refl

-- a main file with a title, a file that it includes, which ends with a heading, and more of the main file
abbrev headings : List Heading
headings = heading 0 (codes "Title") ∷ heading 2 (codes "Article 2") ∷ []

abbrev pieces : List Piece
pieces = piece 0 3 ∷ piece 1 2 ∷ piece 0 14 ∷ []

an_included_definition_stands_under_the_title : (placed_at headings pieces (pos_of 1 3 3)).headings ≡ 1
unfolding piece_from headings_before
an_included_definition_stands_under_the_title = refl

what_follows_an_include_stands_under_its_last_heading : (placed_at headings pieces (pos_of 0 15 3)).headings ≡ 2
unfolding piece_from headings_before
what_follows_an_include_stands_under_its_last_heading = refl

a_definition_is_told_with_its_heading :
    decided_line (codes "S.x") (by_text (codes "a.md" ∷ []) headings (Some (placed_at headings pieces (pos_of 0 7 3))))
    ≡ codes "S.x by a.md:7:3 under Title\n"
unfolding decided_line piece_from headings_before digits
a_definition_is_told_with_its_heading = refl

a_definition_without_a_heading_is_told_alone :
    decided_line (codes "S.x") (by_text (codes "a.md" ∷ []) [] (Some (placed_at [] pieces (pos_of 0 6 3))))
    ≡ codes "S.x by a.md:6:3\n"
unfolding decided_line piece_from headings_before digits
a_definition_without_a_heading_is_told_alone = refl

what_is_empty_is_decided_by_none : decided_line (codes "S.x") (by_text [] [] None) ≡ codes "S.x by none\n"
unfolding decided_line
what_is_empty_is_decided_by_none = refl
