use Rattle.std.proofs.Common.{◌≡◌, ◌∙◌, ◌++◌, Bool, OnOk, ap, subst}
use Rattle.cat_names.specs.Unknown.{is_name, unless}
use Rattle.cat_names.specs.Written.{scope_names_in}
use Rattle.cat_check_names.proofs.Knowing.{known_name, ids}
use Rattle.cat_check_names.proofs.leaves.add_scope_name.Goals as goal

pub returns : goal.returns
returns c =
    subst (λ (b : Bool). OnOk c.add_unless.result
    (c.add_unless.new.faults ≡ c.args.faults.now ++ unless b c.args.name.now))
    (c.has.ensures
    ∙ known_name (λ name. name) (scope_names_in c.args.here.now.tree.now.items) c.args.here.now.scopes.now
    c.args.name.now.text c.requires.scopes
    ∙ ap (is_name c.args.name.now.text) (ids (scope_names_in c.args.here.now.tree.now.items))) c.add_unless.ensures
