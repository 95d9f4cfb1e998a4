use Rattle.std.proofs.Common.{◌∙◌, ap}
use Rattle.cat_check_names.specs.Table.{number_named}
use Rattle.cat_check_names.proofs.Rows.{names_alone}
use Rattle.cat_check_names.proofs.building.types_of.Goals as goal

pub returns : goal.returns
returns c = record {
  structures = names_alone (λ s. s.name) c.args.decls.now.structures c.in_ok-structures.structures
      (λ w. c.in_ok-structures.ensures w ∙ ap (number_named (λ s. s.name) w) c.as_slice.ensures);
  enumerations = names_alone (λ e. e.name) c.args.decls.now.enumerations c.in_ok-enumerations.enumerations
      (λ w. c.in_ok-enumerations.ensures w ∙ ap (number_named (λ e. e.name) w) c.as_slice-2.ensures);
}
