-- The lines of a trace: what decided each judging that ended, and under which heading that stands.
use Rattle.std.specs.Prelude.{ℕ, List, [], ◌∷◌, ◌++◌, Option, Some, None, codes, option_map}
use Rattle.cat_value.specs.declared.decls.Decls.{Decls}
use Rattle.cat_weave.specs.declared.segment.Heading.{Heading}
use Rattle.cat_weave.specs.declared.source.Source.{Source}
use Rattle.cat_scope.specs.Runs.{Decider}
use Rattle.cat_answer.specs.Answer.{position_text, target_text}
use Rattle.cat_trace.specs.declared.placing.Placed.{Placed}
use Rattle.cat_trace.specs.Over.{last_of_first, placed_at}

-- a text
abbrev pub Text : Type 0
Text = List ℕ

-- the heading over a definition, where one stands in front of it
abbrev pub under_text : Option Heading → Text
under_text None = []
under_text (Some heading) = codes " under " ++ heading.text

-- what decided: a definition at its position with the heading over it, or none
abbrev pub by_text : List Text → List Heading → Option Placed → Text
by_text names headings None = codes "none"
by_text names headings (Some p) = position_text names p.pos ++ under_text (last_of_first p.headings headings)

-- what is decided, and by what
unfoldable pub decided_line : Text → Text → Text
decided_line place by = place ++ (codes " by " ++ (by ++ codes "\n"))

-- `S.x by FILE:LINE:COLUMN under HEADING`
abbrev pub decider_line : Decls → Source → Decider → Text
decider_line ds source d =
    decided_line (target_text ds d.target)
    (by_text source.files source.headings (option_map (placed_at source.headings source.pieces) d.by))

-- the lines of some deciders, in their order
abbrev pub trace_text : Decls → Source → List Decider → Text
trace_text ds source [] = []
trace_text ds source (d ∷ deciders) = decider_line ds source d ++ trace_text ds source deciders
