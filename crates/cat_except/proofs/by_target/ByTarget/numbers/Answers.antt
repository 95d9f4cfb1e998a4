use Rattle.std.proofs.Common.{rules, sym, ◌∙◌, ◌≡◌, [], get_or}
use Rattle.std.proofs.lemmas.List.{get_or_default}
use Rattle.cat_except.proofs.TargetKeys.{list_at_found, list_at_none}
use Rattle.cat_except.proofs.by_target.ByTarget.numbers.Goals as goal

pub returns-in-Some : goal.returns-in-Some
returns-in-Some c =
    let read : c.index.result.now ≡ get_or c.args.self.now.lists.items c.in-Some.index [] =
    search (rules, get_or_default) in
    c.as_slice.ensures ∙ read
    ∙ sym (list_at_found c.args.target c.args.self.now.keys.keys c.args.self.now.lists.items c.in-Some.index c.requires
    (sym c.in-Some.ensures.index))

pub returns-in-None : goal.returns-in-None
returns-in-None c =
    sym (list_at_none c.args.target c.args.self.now.keys.keys c.args.self.now.lists.items c.requires
    (sym c.in-None.ensures.index))
