use Rattle.std.proofs.Common.{◌∙◌, ◌++◌, ◌∷◌, [], List, sym, ap}
use Rattle.std.proofs.lemmas.List.{append_assoc, map-append}
use Rattle.std.specs.Vec.Iter.{into_iter_items}
use Rattle.cat_dead_report.specs.declared.found.Known.{Known}
use Rattle.cat_dead_report.specs.declared.line.DeadLine.{DeadLine}
use Rattle.cat_dead_report.specs.inside.Tries.{last_line}
use Rattle.cat_dead_report.proofs.target.last_lines.Goals as goal

pub loop-place-preserved : goal.loop-place-preserved
loop-place-preserved c =
    let l = c.loop-place in
    let one = c.in-Some.place in
    record {
      made = c.in_ok-push.ensures.ok
          ∙ ap (λ (line : DeadLine). l.lines ++ line ∷ []) c.last_line.ensures
          ∙ ap (λ (lines : List DeadLine). lines ++ last_line c.args.whole one.line ∷ []) l.invariant.made
          ∙ sym (map-append (λ (k : Known). last_line c.args.whole k.line) l.yielded (one ∷ []));
      rest = append_assoc l.yielded (one ∷ []) (into_iter_items c.next.new.self)
          ∙ ap (λ (ks : List Known). l.yielded ++ ks) (sym c.in-Some.ensures.steps.0) ∙ l.invariant.rest;
    }
