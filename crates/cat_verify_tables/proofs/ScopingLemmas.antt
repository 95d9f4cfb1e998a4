-- What variables are by their kinds.
use Rattle.std.proofs.Common.{◌≡◌, false, true≢false}
use Rattle.cat_pos.specs.declared.pos.Pos.{Pos}
use Rattle.cat_scope.specs.Names.{is_called}
use Rattle.cat_value.specs.declared.declaration.Kind.{Kind}
use Rattle.cat_value.specs.declared.declaration.Kind.TheVariants as kind
use Rattle.cat_value.specs.declared.declaration.ItemDecl.{ItemDecl}
use Rattle.cat_image.specs.Listed.{kind_words}
use Rattle.cat_image.specs.Words.{Text}
use Rattle.cat_verify_tables.specs.declared.holding.Held.{Held}
use Rattle.cat_verify_tables.specs.declared.scoping.Known.{Known}
use Rattle.cat_verify_tables.specs.inside.ItemWords.{IsHeldOf, HoldsNothing, IsWhatOf, IsWrongWhat}

-- a variable that holds what a text tells
abbrev pub holding : Text → Pos → Kind → Held → ItemDecl
holding name pos k held = record {
  name = name;
  pos = pos;
  kind = k;
  ty = held.ty;
  condition = held.condition;
  params = held.params;
}

pub what_variable : (known : Known) (what name : Text) (pos : Pos) (held : Held) (k : Kind) → is_called k ≡ false
    → IsHeldOf known.types what held → IsWhatOf known what (holding name pos k held) k
what_variable known what name pos held (kind.Called scope) variable told = absurd (true≢false variable)
what_variable known what name pos held kind.Input variable told = told
what_variable known what name pos held kind.Output variable told = told
what_variable known what name pos held kind.Internal variable told = told
what_variable known what name pos held kind.Context variable told = told
what_variable known what name pos held kind.InputOutput variable told = told
what_variable known what name pos held kind.ContextOutput variable told = told

pub wrong_variable : (known : Known) (what : Text) (k : Kind) → is_called k ≡ false → HoldsNothing known.types what
    → IsWrongWhat known what (kind_words k)
wrong_variable known what (kind.Called scope) variable none = absurd (true≢false variable)
wrong_variable known what kind.Input variable none = none
wrong_variable known what kind.Output variable none = none
wrong_variable known what kind.Internal variable none = none
wrong_variable known what kind.Context variable none = none
wrong_variable known what kind.InputOutput variable none = none
wrong_variable known what kind.ContextOutput variable none = none
