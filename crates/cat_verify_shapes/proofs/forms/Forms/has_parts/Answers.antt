use Rattle.std.proofs.Common.{sym, subst}
use Rattle.cat_verify_shapes.specs.inside.Growing.{HasKind}
use Rattle.cat_verify_shapes.proofs.GrowLemmas.{kind_Many, kind_Fields, kind_More}
use Rattle.cat_verify_shapes.proofs.KeyLemmas.{kind_other}
use Rattle.cat_verify_shapes.proofs.forms.Forms.has_parts.Goals as goal

pub returns-in-Many : goal.returns-in-Many
returns-in-Many c so =
    subst (HasKind c.args.self.now) (sym c.in-Many.is)
    (kind_Many c.args.self.now c.in-Many.element (c.is_number.ensures so))

pub returns-in-Fields : goal.returns-in-Fields
returns-in-Fields c so =
    subst (HasKind c.args.self.now) (sym c.in-Fields.is)
    (kind_Fields c.args.self.now c.in-Fields.row (c.is_number-in-Fields.ensures so))

pub returns-then-is_number : goal.returns-then-is_number
returns-then-is_number c so =
    subst (HasKind c.args.self.now) (sym c.in-More.is)
    (kind_More c.args.self.now c.in-More.first c.in-More.others (c.is_number-in-More.ensures c.if-is_number.true)
    (c.is_number-then-is_number.ensures so))

pub returns-in_default : goal.returns-in_default
returns-in_default c so =
    kind_other c.args.self.now c.args.form c.in_default.not-Many c.in_default.not-Fields c.in_default.not-More
