use Rattle.std.proofs.Common.{◌≡◌, ◌∙◌, ◌++◌, Bool, OnOk, ap, subst, sym}
use Rattle.std.proofs.lemmas.Simd.{map-map}
use Rattle.cat_names.specs.DeclarationFaults.{variable_name}
use Rattle.cat_names.specs.Unknown.{is_name, unless}
use Rattle.cat_check_names.proofs.Knowing.{known_name}
use Rattle.cat_check_names.proofs.leaves.add_item_name.Goals as goal

pub returns : goal.returns
returns c =
    subst (λ (b : Bool). OnOk c.add_unless.result
    (c.add_unless.new.faults ≡ c.args.faults.now ++ unless b c.args.name.now))
    (c.has.ensures
    ∙ known_name (λ v. (variable_name v).text) c.args.here.now.variables.now c.args.here.now.items.now
    c.args.name.now.text c.requires.items
    ∙ ap (is_name c.args.name.now.text)
    (sym (map-map (λ w. w.text) variable_name c.args.here.now.variables.now))) c.add_unless.ensures
