use Rattle.std.proofs.Common.{◌∙◌, slice_get, sym, subst, rules}
use Rattle.cat_guard.specs.Judged.{answers_in}
use Rattle.cat_guard.specs.Levels.{AreLiveTo}
use Rattle.cat_guard.specs.Live.{IsLiveOf}
use Rattle.std.specs.Prelude.{true, IfSome}
use Rattle.cat_guard.proofs.Exported.{on_ok, both_some}
use Rattle.cat_search.specs.Searched.{IsSplit}
use Rattle.cat_search.specs.inside.Underway.{IsUnderway}
use Rattle.cat_search.proofs.TargetLemmas.{if_some, target_at, asked_below, atom_at}
use Rattle.cat_search.proofs.UnderwayLemmas.{inhabited_here, room_within, split_room}
use Rattle.cat_search.proofs.searching.Searching.to_leaf.Goals as goal

pub split-requires-clause-atom : goal.split-requires-clause-atom
split-requires-clause-atom c =
    let table = c.args.table.now in
    let one = target_at (λ t. IsSplit table.atoms t c.loop-live.self.region c.in-Split.atom) table.targets c.args.target
    c.requires.target c.in-Split.ensures in
    asked_below table.terms table.atoms table.targets (search rules) c.args.target one.0 one.1 c.in-Split.atom
    one.2.asked

pub split-requires-clause-dims : goal.split-requires-clause-dims
split-requires-clause-dims c =
    let table = c.args.table.now in
    let one = target_at (λ t. IsUnderway table.terms table.atoms t true c.loop-live.self) table.targets c.args.target
    c.requires.target c.loop-live.invariant.underway in
    one.2.at.dims

pub leaf-requires : goal.leaf-requires
leaf-requires c =
    let table = c.args.table.now in
    let one = target_at (λ t. IsUnderway table.terms table.atoms t true c.loop-live.self) table.targets c.args.target
    c.requires.target c.loop-live.invariant.underway in
    room_within table.terms table.atoms one.0 true c.loop-live.self one.2

pub split-requires-clause-room : goal.split-requires-clause-room
split-requires-clause-room c =
    let table = c.args.table.now in
    let one = target_at (λ t. IsUnderway table.terms table.atoms t true c.loop-live.self) table.targets c.args.target
    c.requires.target c.loop-live.invariant.underway in
    let is = subst (λ o. IfSome o (λ t. IsSplit table.atoms t c.loop-live.self.region c.in-Split.atom)) one.1
    c.in-Split.ensures in
    let found = atom_at table.atoms c.in-Split.atom (split-requires-clause-atom c) in
    split_room table.terms table.atoms one.0 table.targets (search rules) c.loop-live.self c.in-Split.atom found.0
    found.1 one.2 is

pub loop-live-preserved : goal.loop-live-preserved
loop-live-preserved c =
    let table = c.args.table.now in
    let target = slice_get table.targets c.args.target in
    let here = both_some (λ t. IsLiveOf t (answers_in table.atoms c.loop-live.self.region) c.in_ok-live.live)
    (λ t. AreLiveTo table.atoms t c.loop-live.self.region c.loop-live.levels) target c.in_ok-live.ensures
    c.loop-live.invariant.live in
    record {
      underway = if_some target (both_some
          (λ t. IsUnderway table.terms table.atoms t true c.loop-live.self)
          (λ t. IsSplit table.atoms t c.loop-live.self.region c.in-Split.atom) target c.loop-live.invariant.underway
          c.in-Split.ensures) (λ t is both.
          c.in_ok-split-in-Split.ensures.underway t both.0 both.1);
      live = if_some target here (λ t is all.
          c.in_ok-split-in-Split.ensures.live t c.keep.new.self
          (c.in_ok-keep-in-Split.ensures table.atoms t all.0 all.1));
      leaves = c.in_ok-split-in-Split.ensures.leaves ∙ c.loop-live.invariant.leaves;
      rests = c.in_ok-split-in-Split.ensures.rests ∙ c.loop-live.invariant.rests;
    }

pub returns-in-Leaf-clause-live : goal.returns-in-Leaf-clause-live
returns-in-Leaf-clause-live c =
    let table = c.args.table.now in
    on_ok c.leaf.result c.leaf.ensures.region (λ same.
    subst (λ region. IfSome (slice_get table.targets c.args.target) (λ t. AreLiveTo table.atoms t region
    c.loop-live.levels)) (sym same) c.loop-live.invariant.live)

pub live_in-requires-clause-dims : goal.live_in-requires-clause-dims
live_in-requires-clause-dims c =
    let table = c.args.table.now in
    let one = target_at (λ t. IsUnderway table.terms table.atoms t true c.loop-live.self) table.targets c.args.target
    c.requires.target c.loop-live.invariant.underway in
    one.2.at.dims

pub live_in-requires-clause-some : goal.live_in-requires-clause-some
live_in-requires-clause-some c =
    let table = c.args.table.now in
    let one = target_at (λ t. IsUnderway table.terms table.atoms t true c.loop-live.self) table.targets c.args.target
    c.requires.target c.loop-live.invariant.underway in
    inhabited_here table.terms table.atoms table.targets (search rules) one.0 true c.loop-live.self one.2
