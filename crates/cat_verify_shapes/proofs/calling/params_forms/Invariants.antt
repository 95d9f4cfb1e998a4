use Rattle.std.proofs.Common.{◌≡◌, map, take}
use Rattle.cat_code.specs.Forms.{form_of}
use Rattle.cat_verify_shapes.specs.inside.Senses.{Senses, AreSenses}
use Rattle.cat_verify_shapes.proofs.calling.params_forms.Given as goal

abbrev pub invariant-loop-ty : goal.invariant-loop-ty
invariant-loop-ty l = (d : Senses) → AreSenses l.decls l.forms d
    → map d.one l.numbers ≡ map (form_of l.decls) (take l.ty-index l.params)
