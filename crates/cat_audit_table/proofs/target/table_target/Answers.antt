use Rattle.std.proofs.Common.{◌≡◌, ◌∙◌, ◌<◌, ℕ, List, All, length, map, sym, ap, subst, arith}
use Rattle.cat_scope.specs.declared.forest.ForestGroup.{ForestGroup}
use Rattle.cat_scope.specs.Groups.{Numbered, groups_of, excepts}
use Rattle.cat_scope.specs.Targets.{defs_from}
use Rattle.cat_scope.specs.Forests.{definition_numbers, forest_of_groups}
use Rattle.cat_except.specs.inside.Grouping.{defs_at}
use Rattle.cat_except.proofs.Exported.{target_defs, target_numbers, few_numbers}
use Rattle.cat_sound.specs.Roots.{root_numbers}
use Rattle.cat_sound.proofs.Exported.{roots_are}
use Rattle.cat_audit_table.specs.inside.Placed.{Ascend, group_by_places}
use Rattle.cat_audit_table.specs.inside.Added.{AddsDefs}
use Rattle.cat_audit_table.proofs.Placing.{numbers_ascend, groups_placed}
use Rattle.cat_audit_table.proofs.GroupCounts.{few_groups}
use Rattle.cat_audit_table.proofs.Steps.{target_added}
use Rattle.cat_audit_table.proofs.target.table_target.Goals as goal

pub guard_defs-requires : goal.guard_defs-requires
guard_defs-requires c =
    subst (λ (ns : List ℕ). All (λ n. n < length c.args.scene.now.defs.now) ns)
    (sym (c.numbers-numbers.ensures ∙ c.requires.parted.1 c.args.forest.now.target))
    (target_numbers c.args.forest.now.target c.args.scene.now.defs.now)

pub roots-requires : goal.roots-requires
roots-requires c =
    omega (
      arith,
      ap (λ (gs : List ForestGroup). length gs) (c.as_slice-groups.ensures ∙ c.requires.forest),
      few_groups c.args.scene.now.defs.now c.args.forest.now.target,
      c.requires.few,
    )

pub guard_groups-requires-clause-few : goal.guard_groups-requires-clause-few
guard_groups-requires-clause-few c =
    omega (
      arith,
      ap (λ (ns : List ℕ). length ns) (c.numbers-numbers.ensures ∙ c.requires.parted.1 c.args.forest.now.target),
      few_numbers c.args.forest.now.target c.args.scene.now.defs.now,
      c.requires.few,
    )

pub guard_groups-requires-clause-ascend : goal.guard_groups-requires-clause-ascend
guard_groups-requires-clause-ascend c =
    subst Ascend (sym (c.numbers-numbers.ensures ∙ c.requires.parted.1 c.args.forest.now.target))
    (numbers_ascend c.args.forest.now.target c.args.scene.now.defs.now)

pub returns : goal.returns
returns c =
    let target = c.args.forest.now.target in
    let defs = c.args.scene.now.defs.now in
    let all : List Numbered = defs_from target 0 defs in
    let numbers : c.numbers-numbers.result.now ≡ definition_numbers all =
    c.numbers-numbers.ensures ∙ c.requires.parted.1 target in
    let groups : c.as_slice-groups.result.now ≡ forest_of_groups (groups_of all) =
    c.as_slice-groups.ensures ∙ c.requires.forest in
    target_added c.args.scene.now target c.args.numbering.now c.guard_defs.new.numbering c.in_ok-name.name
    c.is_function.result c.may_be_empty.result c.item_pos.result c.in_ok-defs.defs c.in_ok-groups.groups
    c.in_ok-roots.roots c.in_ok-name.ensures c.is_function.ensures c.may_be_empty.ensures c.item_pos.ensures
    (subst (λ (ds : List Numbered). AddsDefs c.args.scene.now ds c.args.numbering.now c.guard_defs.new.numbering
    c.in_ok-defs.defs) (ap (defs_at defs) numbers ∙ target_defs target defs) c.in_ok-defs.ensures)
    (c.in_ok-groups.ensures
    ∙ ap (λ (ns : List ℕ). map (group_by_places ns) c.as_slice-groups.result.now) numbers
    ∙ ap (map (group_by_places (definition_numbers all))) groups
    ∙ groups_placed all (excepts (groups_of all)) 0 (groups_of all))
    (c.in_ok-roots.ensures ∙ ap (root_numbers defs 0) groups ∙ roots_are defs target)
