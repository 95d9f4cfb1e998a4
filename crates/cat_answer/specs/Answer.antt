-- The line that tells an outcome. Where a number names no entry, its name is empty.
use Rattle.std.specs.Prelude.{ℕ, List, [], ◌∷◌, ◌++◌, slice_get, Option, Some, None}
use Rattle.std.specs.Prelude.{codes, decimal, option_map, unwrap_or}
use Rattle.serde_json.specs.Data.{Data, Members, no_members, object, put}
use Rattle.serde_json.specs.Written.{compact_text}
use Rattle.cat_pos.specs.Position.{pos_file, pos_column}
use Rattle.cat_pos.specs.declared.pos.Pos.{Pos}
use Rattle.cat_value.specs.declared.value.Value.{Value}
use Rattle.cat_value.specs.declared.declaration.Kind.{Kind}
use Rattle.cat_value.specs.declared.declaration.Kind.TheVariants.{Called}
use Rattle.cat_value.specs.declared.declaration.ItemDecl.{ItemDecl}
use Rattle.cat_value.specs.declared.declaration.Scope.{Scope}
use Rattle.cat_value.specs.declared.decls.Decls.{Decls}
use Rattle.cat_value.specs.Inputs.{outputs_in}
use Rattle.cat_value.specs.declared.outcome.Target.{Target}
use Rattle.cat_value.specs.declared.outcome.FaultKind.{FaultKind}
use Rattle.cat_value.specs.declared.outcome.FaultKind.TheVariants as fault
use Rattle.cat_value.specs.declared.outcome.Outcome.{Outcome}
use Rattle.cat_value.specs.declared.outcome.Outcome.TheVariants as outcome
use Rattle.cat_json.specs.InputsRead.{items_of}
use Rattle.cat_answer.specs.Writes.{data_of}

-- a member for each output and its value, besides some others
abbrev pub outputs_data : Decls → List ItemDecl → List Value → Members → Members
outputs_data ds [] vs others = others
outputs_data ds (i ∷ is) [] others = others
outputs_data ds (i ∷ is) (v ∷ vs) others = outputs_data ds is vs (put i.name (data_of ds v i.ty) others)

-- the object of the outputs of a scope that has these items
abbrev pub outputs_object : Decls → List ItemDecl → List Value → Data
outputs_object ds is vs = object (outputs_data ds (outputs_in is) vs no_members)

-- a text, or nothing where there is none
abbrev pub text_or_nothing : Option (List ℕ) → List ℕ
text_or_nothing text = unwrap_or text []

-- item k of the scope that an item calls
abbrev pub called_item : Decls → Kind → ℕ → Option ItemDecl
called_item ds (Called n) k = slice_get (items_of (slice_get ds.scopes n)) k
called_item ds kind k = None

-- `x`, or `t.x` for an item of a called scope
abbrev pub item_text : Decls → ItemDecl → Option ℕ → List ℕ
item_text ds i None = i.name
item_text ds i (Some k) =
    i.name ++ (codes "." ++ text_or_nothing (option_map (λ (inner : ItemDecl). inner.name) (called_item ds i.kind k)))

-- `S.x` or `S.t.x`, in the scope S
abbrev pub scope_text : Decls → Scope → Target → List ℕ
scope_text ds s target =
    s.name ++ (codes "." ++ text_or_nothing (option_map (λ i. item_text ds i target.inner)
    (slice_get s.items target.item)))

-- `S.x` or `S.t.x`
abbrev pub target_text : Decls → Target → List ℕ
target_text ds target = text_or_nothing (option_map (λ s. scope_text ds s target) (slice_get ds.scopes target.scope))

-- the text `name:line:column`, of a position in a file of that name
abbrev pub named_position : List ℕ → Pos → List ℕ
named_position name pos = name ++ (codes ":" ++ (decimal pos.line ++ (codes ":" ++ decimal (pos_column pos))))

-- the same, where files have these names
abbrev pub position_text : List (List ℕ) → Pos → List ℕ
position_text names pos = named_position (text_or_nothing (slice_get names (pos_file pos))) pos

-- the positions, each after a blank
abbrev pub positions_text : List (List ℕ) → List Pos → List ℕ
positions_text names [] = []
positions_text names (pos ∷ more) = codes " " ++ (position_text names pos ++ positions_text names more)

-- the name of a kind of faults
abbrev pub fault_text : FaultKind → List ℕ
fault_text fault.Overflow = codes "Overflow"
fault_text fault.DivisionByZero = codes "DivisionByZero"
fault_text fault.AmbiguousDate = codes "AmbiguousDate"
fault_text fault.Uncomparable = codes "Uncomparable"
fault_text fault.AssertionFailed = codes "AssertionFailed"

-- the line of an outcome of a scope, without its line feed: the object of the outputs, or why there is none
abbrev pub answer_of : Decls → ℕ → List (List ℕ) → Outcome → List ℕ
answer_of ds scope names (outcome.Value vs) =
    compact_text (outputs_object ds (items_of (slice_get ds.scopes scope)) vs)
answer_of ds scope names (outcome.Conflict target positions) =
    codes "conflict " ++ (target_text ds target ++ (codes " at" ++ positions_text names positions))
answer_of ds scope names (outcome.NoValue target pos) =
    codes "no value " ++ (target_text ds target ++ (codes " at " ++ position_text names pos))
answer_of ds scope names (outcome.Fault kind pos) =
    codes "fault " ++ (fault_text kind ++ (codes " at " ++ position_text names pos))
