-- A trace, written out: S runs T, whose code stands in a file that is included, and x has a base with an exception.
use Rattle.std.proofs.Common.{◌≡◌, ℕ, IsTrue, List, [], ◌∷◌, ◌++◌, true, false, Option, Some, None, refl, rules}
use Rattle.std.specs.Prelude.{codes}
use Rattle.std.specs.Fmt.{digits}
use Rattle.cat_order.specs.Computed.{order_of}
use Rattle.cat_pos.specs.declared.pos.Piece.{Piece}
use Rattle.cat_pos.specs.Position.{pos_of}
use Rattle.cat_value.specs.declared.declaration.ItemDecl.{ItemDecl}
use Rattle.cat_value.specs.declared.declaration.Kind.{Kind}
use Rattle.cat_value.specs.declared.declaration.Kind.TheVariants as kind
use Rattle.cat_value.specs.declared.declaration.Scope.{Scope}
use Rattle.cat_value.specs.declared.decls.Decls.{Decls}
use Rattle.cat_value.specs.declared.ty.Ty.{Ty}
use Rattle.cat_value.specs.declared.ty.Ty.TheVariants as flat
use Rattle.cat_value.specs.declared.ty.Ty.TheViews as ty
use Rattle.cat_value.specs.Declarations.{are_sound, is_sound}
use Rattle.cat_value.specs.Dependencies.{are_ordered}
use Rattle.cat_value.specs.Heights.{height_to}
use Rattle.cat_value.proofs.Exported.{declared}
use Rattle.cat_weave.specs.declared.segment.Heading.{Heading}
use Rattle.cat_weave.specs.declared.source.Source.{Source}
use Rattle.cat_code.specs.declared.code.TargetEntry.{TargetEntry}
use Rattle.cat_code.specs.declared.code.Tables.{Tables}
use Rattle.cat_machine.specs.declared.log.LogEntry.{LogEntry}
use Rattle.cat_machine.specs.States.{decided}
use Rattle.cat_trace.specs.Over.{headings_before, piece_from}
use Rattle.cat_trace.specs.Traces.{decided_line, trace_text}

-- ---- what is declared

abbrev item : List ℕ → Kind → Ty → ItemDecl
item name k t = record { name = name; pos = pos_of 0 1 1; kind = k; ty = t; condition = false; params = [] }

abbrev number : List ℕ → Kind → ItemDecl
number name k = item name k flat.Integer

abbrev scopes : List Scope
scopes = record {
  name = codes "T";
  items = number (codes "a") kind.Input ∷ number (codes "c") kind.Context ∷ number (codes "b") kind.Output ∷ [];
} ∷ record {
  name = codes "S";
  items = number (codes "n") kind.Input ∷ item (codes "t") (kind.Called 0) flat.Boolean
      ∷ number (codes "x") kind.Output ∷ [];
} ∷ []

boolean_is_sound : is_sound [] [] flat.Boolean ≡ true
unfolding height_to
boolean_is_sound = search (rules, ty.the_lemmas, declared)

integer_is_sound : is_sound [] [] flat.Integer ≡ true
unfolding height_to
integer_is_sound = search (rules, ty.the_lemmas, declared)

scopes_are_sound : IsTrue (are_sound [] [] scopes)
unfolding are_sound are_ordered order_of
scopes_are_sound = search (rules, ty.the_lemmas, boolean_is_sound, integer_is_sound)

abbrev decls : Decls
decls = record { structures = []; enumerations = []; scopes = scopes; sound = scopes_are_sound }

-- ---- the sources

abbrev piece : ℕ → ℕ → Piece
piece file line = record { text = []; pos = pos_of file line 1 }

abbrev heading : ℕ → List ℕ → Heading
heading pieces text = record { pieces = pieces; level = 1; text = text; pos = pos_of 0 1 1 }

-- a.md with a title includes b.md, which ends with the heading of an article, and goes on
abbrev source : Source
source = record {
  files = codes "a.md" ∷ codes "b.md" ∷ [];
  pieces = piece 0 3 ∷ piece 1 2 ∷ piece 0 14 ∷ [];
  headings = heading 0 (codes "Title") ∷ heading 2 (codes "Article 2") ∷ [];
}

-- ---- the tables of the code

-- item k of scope s, or item i of the scope that it calls
abbrev target : ℕ → ℕ → Option ℕ → TargetEntry
target s k i = record { target = record { scope = s; item = k; inner = i }; pos = pos_of 0 1 1 }

-- `t.a`, `t.c`, `c`, `b` and `x`; and the definitions of `t.a`, of `b`, the base of `x` and its exception
abbrev tables : Tables
tables = record {
  decls = decls;
  cases = [];
  scopes = [];
  targets = target 1 1 (Some 0) ∷ target 1 1 (Some 1) ∷ target 0 1 None ∷ target 0 2 None ∷ target 1 2 None ∷ [];
  definitions = pos_of 0 15 3 ∷ pos_of 1 3 3 ∷ pos_of 0 16 14 ∷ pos_of 0 17 18 ∷ [];
  functions = [];
  positions = [];
  constants = [];
}

abbrev entry : ℕ → Option ℕ → LogEntry
entry target definition = record { target = target; definition = definition }

-- what is decided before `x`
abbrev before : List LogEntry
before = entry 0 (Some 0) ∷ entry 1 None ∷ entry 2 None ∷ entry 3 (Some 1) ∷ []

-- a log is told in its order, and so the lines of a called scope stand between those of its caller
a_base_is_told_where_it_held :
    trace_text decls source (decided tables (before ++ entry 4 (Some 2) ∷ []))
    ≡ codes "S.t.a by a.md:15:3 under Article 2\n"
    ++ (codes "S.t.c by none\n"
    ++ (codes "T.c by none\n"
    ++ (codes "T.b by b.md:3:3 under Title\n" ++ codes "S.x by a.md:16:14 under Article 2\n")))
unfolding decided_line piece_from headings_before digits
a_base_is_told_where_it_held = refl

an_exception_is_told_where_it_held :
    trace_text decls source (decided tables (entry 4 (Some 3) ∷ [])) ≡ codes "S.x by a.md:17:18 under Article 2\n"
unfolding decided_line piece_from headings_before digits
an_exception_is_told_where_it_held = refl

what_stops_before_all_has_no_lines : trace_text decls source (decided tables []) ≡ []
what_stops_before_all_has_no_lines = refl
