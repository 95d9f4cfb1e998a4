-- The lines of a log are those of its deciders.
use Rattle.std.proofs.Common.{◌≡◌, ◌∙◌, ℕ, List, [], ◌∷◌, ◌++◌, map, Option, Some, None, option_map, slice_get, refl}
use Rattle.std.proofs.Common.{sym, ap, String, Global, string_bytes}
use Rattle.std.specs.Prelude.{Result, Ok, Err, IfOk}
use Rattle.std.proofs.lemmas.List.{append_assoc, append-nil}
use Rattle.std.proofs.lemmas.Option.{slice_get-map}
use Rattle.cat_value.specs.declared.decls.Decls.{Decls}
use Rattle.cat_pos.specs.declared.pos.Piece.{Piece}
use Rattle.cat_weave.specs.declared.segment.Heading.{Heading}
use Rattle.cat_weave.specs.declared.source.Source.{Source}
use Rattle.cat_scope.specs.Runs.{Decider}
use Rattle.cat_code.specs.declared.code.TargetEntry.{TargetEntry}
use Rattle.cat_code.specs.declared.code.Tables.{Tables}
use Rattle.cat_answer.specs.Answer.{target_text}
use Rattle.cat_machine.specs.declared.log.LogEntry.{LogEntry}
use Rattle.cat_trace.specs.declared.placing.Placed.{Placed}
use Rattle.cat_trace.specs.Over.{placed_at}
use Rattle.cat_machine.specs.States.{decided, decider_of, position_by}
use Rattle.cat_trace.specs.Traces.{Text, by_text, decided_line, decider_line, trace_text}
use Rattle.cat_trace.specs.inside.Entries.{entry_line, log_text, place_of}

trace_text-append : (ds : Decls) (source : Source) (xs ys : List Decider)
    → trace_text ds source (xs ++ ys) ≡ trace_text ds source xs ++ trace_text ds source ys
trace_text-append ds source [] ys = refl
trace_text-append ds source (x ∷ xs) ys =
    ap (λ (t : Text). decider_line ds source x ++ t) (trace_text-append ds source xs ys)
    ∙ sym (append_assoc (decider_line ds source x) (trace_text ds source xs) (trace_text ds source ys))

module _ (tables : Tables) (source : Source) where
  -- where the definitions of the tables stand
  abbrev places : List Placed
  places = map (placed_at source.headings source.pieces) tables.definitions

  place_by : (by : Option ℕ)
      → place_of places by ≡ option_map (placed_at source.headings source.pieces) (position_by tables by)
  place_by None = refl
  place_by (Some d) = slice_get-map (placed_at source.headings source.pieces) tables.definitions d

  line_of : (entry : Option TargetEntry) (by : Option ℕ)
      → entry_line tables source.files source.headings (place_of places by) entry
      ≡ trace_text tables.decls source (decider_of tables entry by)
  line_of None by = refl
  line_of (Some entry) by =
      ap (λ (p : Option Placed). decided_line (target_text tables.decls entry.target)
      (by_text source.files source.headings p)) (place_by by)
      ∙ sym (append-nil (decider_line tables.decls source
      (record { target = entry.target; by = position_by tables by })))

  pub log_text-decided : (log : List LogEntry)
      → log_text tables source.files source.headings places log ≡ trace_text tables.decls source (decided tables log)
  log_text-decided [] = refl
  log_text-decided (l ∷ ls) =
      let one : List Decider = decider_of tables (slice_get tables.targets l.target) l.definition in
      ap (λ (t : Text). t ++ log_text tables source.files source.headings places ls)
      (line_of (slice_get tables.targets l.target) l.definition)
      ∙ (ap (λ (t : Text). trace_text tables.decls source one ++ t) (log_text-decided ls)
      ∙ sym (trace_text-append tables.decls source one (decided tables ls)))

-- and so where they were found
pub told : {E : Type 0} (r : Result (String Global) E) (tables : Tables) (files : List Text) (pieces : List Piece)
    (headings : List Heading) (found : List Placed) (log : List LogEntry)
    → IfOk r (λ text. string_bytes text ≡ log_text tables files headings found log)
    → found ≡ map (placed_at headings pieces) tables.definitions
    → IfOk r (λ text. string_bytes text ≡ trace_text tables.decls
    (record { files = files; pieces = pieces; headings = headings }) (decided tables log))
told (Ok text) tables files pieces headings found log writes is =
    writes ∙ (ap (λ (ps : List Placed). log_text tables files headings ps log) is
    ∙ log_text-decided tables (record { files = files; pieces = pieces; headings = headings }) log)
told (Err e) tables files pieces headings found log writes is = tt
