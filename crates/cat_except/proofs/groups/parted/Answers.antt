use Rattle.std.proofs.Common.{rules, sym, ap, ◌∙◌, length, List, get_or, ℕ, ◌≡◌, refl}
use Rattle.std.proofs.lemmas.List.{get_or_default}
use Rattle.std.proofs.lemmas.Option.{slice_get_read}
use Rattle.cat_scope.specs.Groups.{Labelled, Base, Alone}
use Rattle.cat_except.specs.contracts.group_key.GroupKeyPartialEq.TheImpl as key_eq
use Rattle.cat_except.specs.declared.group_key.GroupKey.{GroupKey}
use Rattle.cat_except.proofs.Grouped.{IsSameKey, one_number_more, as_many_keys}
use Rattle.cat_except.proofs.groups.parted.Goals as goal

same_keys : IsSameKey key_eq.ghosts.eq
same_keys (Labelled l) (Labelled m) = refl
same_keys (Labelled l) Base = refl
same_keys (Labelled l) (Alone n) = refl
same_keys Base (Labelled m) = refl
same_keys Base Base = refl
same_keys Base (Alone n) = refl
same_keys (Alone n) (Labelled m) = refl
same_keys (Alone n) Base = refl
same_keys (Alone n) (Alone m) = refl

pub list_under-requires : goal.list_under-requires
list_under-requires c =
    as_many_keys c.args.defs.now c.loop-number.lists.items
    ∙ sym (ap (λ (ks : List GroupKey). length ks) c.loop-number.invariant.keys_are)

pub loop-number-preserved : goal.loop-number-preserved
loop-number-preserved c =
    let n : ℕ = get_or c.args.numbers.now c.loop-number.number-index 0 in
    let at : get_or c.args.numbers.now c.loop-number.number-index n ≡ n = search (rules, get_or_default) in
    one_number_more key_eq.ghosts.eq same_keys c.args.defs.now c.args.numbers.now c.loop-number.number-index n
    c.index-defs-number.result c.in_ok-key.key c.loop-number.keys.keys c.list_under.new.keys.keys
    c.loop-number.lists.items c.list_under.new.lists.items c.loop-number-test.true at
    (c.requires c.loop-number.number-index 0 c.loop-number-test.true)
    (slice_get_read c.args.defs.now (length c.args.defs.now) n c.index-defs-number.result refl
    (c.requires c.loop-number.number-index 0 c.loop-number-test.true) c.index-defs-number.is) c.in_ok-key.ensures
    c.in_ok-list_under.ensures.keys c.in_ok-list_under.ensures.lists c.loop-number.invariant
