use Rattle.std.proofs.Common.{◌≡◌, ◌∙◌, ◌++◌, map, OnOk, subst, sym, ap}
use Rattle.std.specs.Prelude.{flat_map, option_to_list}
use Rattle.std.proofs.lemmas.Grind.{flat_map-append}
use Rattle.std.proofs.lemmas.List.{append_assoc}
use Rattle.std.proofs.lemmas.List.Folds.{flat_map-map}
use Rattle.cat_tree.specs.declared.program.FieldItem.{FieldItem}
use Rattle.cat_names.specs.Heights.{high_list, variable_types}
use Rattle.cat_declare.specs.inside.Measuring.{measured, types_measured}
use Rattle.cat_declare.proofs.heights.Measures.add_variable.Goals as goal

pub returns-in_ok-add_content-in-Own : goal.returns-in_ok-add_content-in-Own
returns-in_ok-add_content-in-Own c =
    let high = high_list (measured c.args.self.now) (types_measured c.args.self.now) in
    let own = option_to_list c.in-Own.ty in let params = c.in-Own.params in
    subst (λ fs. OnOk c.add_fields.result (c.add_fields.new.faults ≡ fs))
    (ap (λ fs. c.add_content.new.faults ++ fs)
    (ap (flat_map (λ (f : FieldItem). high f.ty)) c.as_slice.ensures
    ∙ sym (flat_map-map high (λ (f : FieldItem). f.ty) params))
    ∙ ap (λ fs. fs ++ flat_map high (map (λ f. f.ty) params)) c.in_ok-add_content-in-Own.ensures
    ∙ append_assoc c.args.faults.now (flat_map high own) (flat_map high (map (λ f. f.ty) params))
    ∙ ap (λ fs. c.args.faults.now ++ fs) (sym (flat_map-append high own (map (λ f. f.ty) params))
    ∙ sym (ap (λ v. flat_map high (variable_types v)) c.in-Own.is))) c.add_fields.ensures
