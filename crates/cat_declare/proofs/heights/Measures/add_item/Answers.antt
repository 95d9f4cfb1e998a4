use Rattle.std.proofs.Common.{◌≡◌, ◌∙◌, ◌++◌, OnOk, subst, sym, ap}
use Rattle.std.specs.Prelude.{flat_map, option_to_list}
use Rattle.std.proofs.lemmas.List.Folds.{flat_map-map}
use Rattle.cat_tree.specs.declared.program.FieldItem.{FieldItem}
use Rattle.cat_tree.specs.declared.program.CaseItem.{CaseItem}
use Rattle.cat_names.specs.Heights.{high_list, types_written, variable_types}
use Rattle.cat_declare.specs.inside.Measuring.{measured, types_measured}
use Rattle.cat_declare.proofs.OneMore.{flat_flat}
use Rattle.cat_declare.proofs.heights.Measures.add_item.Goals as goal

pub returns-in-Structure : goal.returns-in-Structure
returns-in-Structure c =
    let high = high_list (measured c.args.self.now) (types_measured c.args.self.now) in
    subst (λ fs. OnOk c.add_fields.result (c.add_fields.new.faults ≡ c.args.faults.now ++ fs))
    (ap (flat_map (λ (f : FieldItem). high f.ty)) c.as_slice.ensures
    ∙ sym (flat_map-map high (λ (f : FieldItem). f.ty) c.in-Structure.fields)
    ∙ sym (ap (λ i. flat_map high (types_written i)) c.in-Structure.is)) c.add_fields.ensures

pub returns-in-Enumeration : goal.returns-in-Enumeration
returns-in-Enumeration c =
    let high = high_list (measured c.args.self.now) (types_measured c.args.self.now) in
    subst (λ fs. OnOk c.add_cases.result (c.add_cases.new.faults ≡ c.args.faults.now ++ fs))
    (ap (flat_map (λ (k : CaseItem). flat_map high (option_to_list k.content))) c.as_slice-in-Enumeration.ensures
    ∙ sym (flat_flat high (λ (k : CaseItem). option_to_list k.content) c.in-Enumeration.cases)
    ∙ sym (ap (λ i. flat_map high (types_written i)) c.in-Enumeration.is)) c.add_cases.ensures

pub returns-in-Scope : goal.returns-in-Scope
returns-in-Scope c =
    let high = high_list (measured c.args.self.now) (types_measured c.args.self.now) in
    subst (λ fs. OnOk c.add_variables.result (c.add_variables.new.faults ≡ c.args.faults.now ++ fs))
    (ap (flat_map (λ v. flat_map high (variable_types v))) c.as_slice-in-Scope.ensures
    ∙ sym (flat_flat high variable_types c.in-Scope.variables)
    ∙ sym (ap (λ i. flat_map high (types_written i)) c.in-Scope.is)) c.add_variables.ensures
