use Rattle.std.proofs.Common.{rules, ◌≡◌, ◌∷◌, [], ◌++◌, ◌≤◌, List, ℕ, Some, take, length, slice_get, refl, sym}
use Rattle.std.proofs.Common.{subst, arith}
use Rattle.std.proofs.lemmas.List.{take_all}
use Rattle.std.proofs.lemmas.Option.{slice_get_read}
use Rattle.cat_guard.specs.declared.guard.GuardDef.{GuardDef}
use Rattle.cat_dead_report.proofs.PlaceLemmas.{Key, IsPlacing, placed_first, placed_more, placed_all}
use Rattle.cat_dead_report.proofs.WritingLemmas.{take_next}
use Rattle.cat_dead_report.proofs.places.numbered_places.Goals as goal

pub loop-definition-init : goal.loop-definition-init
loop-definition-init c =
    let keys : c.new-places.result.keys ≡ [] = search rules in
    let numbers : c.new-numbers.result ≡ [] = search rules in
    subst (λ (ks : List Key). IsPlacing [] ks c.new-numbers.result) (sym keys)
    (subst (λ (ns : List ℕ). IsPlacing [] [] ns) (sym numbers) placed_first)

pub loop-definition-preserved : goal.loop-definition-preserved
loop-definition-preserved c =
    let l = c.loop-definition in
    let defs = c.args.definitions.now in
    let i = l.definition-index in
    let d = c.definition-item.result in
    let at : slice_get defs i ≡ Some d =
    slice_get_read defs (length defs) i d refl c.loop-definition-test.true c.definition-item.is in
    let keys : List Key = c.insert_full.new.self.keys in
    let n : ℕ = c.in_ok-number.number in
    subst (λ (ds : List GuardDef). IsPlacing ds keys c.push.new.self) (sym (take_next defs i d at))
    (subst (λ (ns : List ℕ). IsPlacing (take i defs ++ d ∷ []) keys ns) (sym c.in_ok-push.ensures.ok)
    (placed_more (take i defs) l.places.keys keys l.numbers l.invariant d n c.in_ok-number.ensures.keys
    c.in_ok-number.ensures.index))

pub returns : goal.returns
returns c =
    let l = c.loop-definition in
    let defs = c.args.definitions.now in
    let past : length defs ≤ l.definition-index = omega (arith, c.loop-definition-test.false) in
    placed_all defs l.places.keys l.numbers c.len.result c.len.ensures.len
    (subst (λ (ds : List GuardDef). IsPlacing ds l.places.keys l.numbers) (take_all l.definition-index defs past)
    l.invariant)
