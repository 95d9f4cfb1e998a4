use Rattle.std.proofs.Common.{◌∙◌, ap, sym, List}
use Rattle.std.specs.List.{position}
use Rattle.cat_scope.specs.Groups.{target_of}
use Rattle.cat_except.specs.declared.group_key.GroupKey.{GroupKey}
use Rattle.cat_except.specs.inside.Keys.{is_labelled}
use Rattle.cat_except.specs.inside.Grouping.{groups_at}
use Rattle.cat_except.proofs.Grouped.{label_found}
use Rattle.cat_except.proofs.groups.Groups.target_of.Goals as goal

pub returns-in-Some : goal.returns-in-Some
returns-in-Some c defs groups =
    c.in-Some.ensures.index
    ∙ ap (λ (ks : List GroupKey). position (is_labelled c.in-Named.label.text) ks) groups.keys_are
    ∙ label_found c.in-Named.label.text (groups_at defs c.args.self.now.lists.items) groups.apart
    ∙ ap (target_of (groups_at defs c.args.self.now.lists.items)) (sym c.in-Named.is)

pub returns-in-None : goal.returns-in-None
returns-in-None c defs groups =
    c.in-None.ensures.index
    ∙ ap (λ (ks : List GroupKey). position (is_labelled c.in-Named.label.text) ks) groups.keys_are
    ∙ label_found c.in-Named.label.text (groups_at defs c.args.self.now.lists.items) groups.apart
    ∙ ap (target_of (groups_at defs c.args.self.now.lists.items)) (sym c.in-Named.is)
