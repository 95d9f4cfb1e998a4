-- Positions in files aren't lost.
use Rattle.std.proofs.Common.{List, inl, inr, arith}
use Rattle.cat_pos.specs.declared.pos.Pos.{Pos}
use Rattle.cat_code.specs.declared.code.Tables.{Tables}
use Rattle.cat_image.specs.Words.{Text, IsSmallPos}
use Rattle.cat_image.specs.Listed.{words_of, pos_words}
use Rattle.cat_verify_tables.specs.WrongParts.{IsLost}
use Rattle.cat_emitted.specs.Emitted.{IsOfFiles}

pub not_lost : (code : Tables) (files : List Text) (p : Pos) → IsOfFiles files p
    → IsLost (words_of code files) (pos_words p) → ⊥
not_lost code files p placed (inl far) = let there = placed.there in omega (arith, there, far)
not_lost code files p placed (inr (inl far)) = omega (arith, far)
not_lost code files p placed (inr (inr far)) = let place = placed.place in omega (arith, place, far)

pub small_pos : (files : List Text) (p : Pos) → IsOfFiles files p → IsSmallPos (pos_words p)
small_pos files p placed =
    let place = placed.place in (omega arith, placed.line, omega (arith, place))
