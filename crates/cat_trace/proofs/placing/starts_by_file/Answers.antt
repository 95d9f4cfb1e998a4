use Rattle.std.proofs.Common.{◌≡◌, ◌<◌, ◌≤◌, ◌+◌, ◌∙◌, ℕ, List, rules, arith, length, take, set, sym, ap, subst}
use Rattle.std.proofs.lemmas.List.{get_or_default, take_all}
use Rattle.cat_pos.specs.Position.{pos_file}
use Rattle.cat_pos.specs.declared.pos.Piece.{Piece}
use Rattle.cat_trace.specs.declared.starts.Start.{Start}
use Rattle.cat_trace.specs.Over.{headings_before}
use Rattle.cat_trace.specs.inside.Starts.{AreStarts, Puts, starts_in}
use Rattle.cat_trace.proofs.PlacingLemmas.{counted_first, counted_next, none_yet, one_more, start_of, start_with}
use Rattle.cat_trace.proofs.placing.starts_by_file.Goals as goal

pub loop-n-init : goal.loop-n-init
loop-n-init c = record {
  within = omega arith;
  counted = counted_first c.args.headings.now;
  starts = none_yet c.args.headings.now c.in_ok-starts.starts.items c.in_ok-starts.ensures;
}

pub loop-n-preserved : goal.loop-n-preserved
loop-n-preserved c =
    let hs = c.args.headings.now in
    let ps = c.args.pieces.now in
    let p : Piece = c.index-pieces-n.result in
    let n : ℕ = c.loop-n.n in
    let lists : List (List Start) = c.loop-n.starts.items in
    let new : List Start = c.put_start.new.starts in
    let are : AreStarts hs (take n ps) lists = c.loop-n.invariant.starts in
    let file_is : c.file.result ≡ pos_file p.pos = c.file.ensures.value in
    let before : c.headings_before-before.result ≡ headings_before hs n = c.headings_before-before.ensures.before in
    let below : c.file.result < length lists = omega (arith, c.file.ensures.few, are.files) in
    let old : c.index_mut.result.now ≡ starts_in lists c.file.result = search (rules, get_or_default) in
    let put : Puts (start_of hs n p) (starts_in lists (pos_file p.pos)) new =
    subst (λ (k : ℕ). Puts (start_with p k) (starts_in lists (pos_file p.pos)) new) before
    (subst (λ (xs : List Start). Puts (start_with p c.headings_before-before.result) xs new)
    (old ∙ ap (λ (f : ℕ). starts_in lists f) file_is) c.in_ok-put_start.ensures.put) in record {
      within = c.headings_before-before.ensures.within;
      counted = counted_next n c.headings_before-before.result hs before;
      starts = subst (λ (f : ℕ). AreStarts hs (take (n + 1) ps) (set lists f new)) (sym file_is)
          (one_more hs ps n p lists new p c.loop-n-test.true c.index-pieces-n.is are
          (subst (λ (f : ℕ). f < length lists) file_is below) c.in_ok-put_start.ensures.ascend put);
    }

pub returns : goal.returns
returns c =
    let past : length c.args.pieces.now ≤ c.loop-n.n = search (rules, arith) in
    subst (λ (ps : List Piece). AreStarts c.args.headings.now ps c.loop-n.starts.items)
    (take_all c.loop-n.n c.args.pieces.now past) c.loop-n.invariant.starts
