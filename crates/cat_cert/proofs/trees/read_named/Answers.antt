use Rattle.std.proofs.Common.{◌∙◌, inr, sym, ap, arith, ℕ}
use Rattle.std.proofs.lemmas.Result.{err_from_is_err_and}
use Rattle.cat_cert.specs.declared.certificate.Version.TheVariants as version
use Rattle.cat_cert.specs.inside.LineForms.{list_begun}
use Rattle.cat_cert.specs.inside.States.{Growing, AtList, with_head}
use Rattle.cat_cert.proofs.EndingLemmas.{no_line, part_goes, part_bad, main_listed, name_listed, stops_before}
use Rattle.cat_cert.proofs.trees.read_named.Goals as goal

pub returns-in_default-list_begun-clause-read : goal.returns-in_default-list_begun-clause-read
returns-in_default-list_begun-clause-read c = λ t dues trees has.
    let l = c.loop-line in
    let p : Growing = record {
      target = t;
      dues = dues;
      trees = trees;
      names = l.names;
      named = l.named;
      heads = l.heads;
    } in
    inr (l.invariant.read t dues trees has
    ∙ part_bad p c.args.bytes.now l.place c.next_line.new.place c.in-Some.line.now c.in-Some.ensures.next
    (ap (λ (n : ℕ). list_begun n c.in-Some.line.now) (sym c.len.ensures) ∙ sym c.in_default-list_begun.ensures))

pub returns-in_err-nodes-clause-read : goal.returns-in_err-nodes-clause-read
returns-in_err-nodes-clause-read c = λ t dues trees has.
    let l = c.loop-line in
    let p : Growing = record {
      target = t;
      dues = dues;
      trees = trees;
      names = l.names;
      named = l.named;
      heads = l.heads;
    } in
    let main = c.in-Some-list_begun.main in
    let begun = with_head p c.next_line.new.place.line in
    let r = err_from_is_err_and c.from_residual-in_err-nodes.result c.from_residual-in_err-nodes.ensures.1 in
    rw (r.1, r.2) (stops_before _ _ _
    (l.invariant.read t dues trees has
    ∙ part_goes p c.args.bytes.now l.place c.next_line.new.place c.in-Some.line.now c.in-Some.ensures.next main
    (ap (λ (n : ℕ). list_begun n c.in-Some.line.now) (sym c.len.ensures) ∙ sym c.in-Some-list_begun.ensures))
    (c.in_err-nodes.ensures.read version.Two main begun has c.as_slice.ensures))

pub returns-then-main-clause-read : goal.returns-then-main-clause-read
returns-then-main-clause-read c = λ t dues trees has.
    let l = c.loop-line in
    let p : Growing = record {
      target = t;
      dues = dues;
      trees = trees;
      names = l.names;
      named = l.named;
      heads = l.heads;
    } in
    let main = c.in-Some-list_begun.main in
    let begun = with_head p c.next_line.new.place.line in
    l.invariant.read t dues trees has
    ∙ part_goes p c.args.bytes.now l.place c.next_line.new.place c.in-Some.line.now c.in-Some.ensures.next main
    (ap (λ (n : ℕ). list_begun n c.in-Some.line.now) (sym c.len.ensures) ∙ sym c.in-Some-list_begun.ensures)
    ∙ c.in_ok-nodes.ensures.read version.Two main begun has c.as_slice.ensures
    ∙ main_listed t dues trees l.names l.named l.heads c.push.new.self c.next_line.new.place.line
    c.in_ok-push.ensures.ok c.in_ok-nodes.field-0.nodes c.in_ok-nodes.field-0.count c.args.bytes.now
    c.read_nodes.new.place main c.if-main.true

pub loop-line-smaller : goal.loop-line-smaller
loop-line-smaller c =
    let one = c.in-Some.ensures.later in
    let more = c.in_ok-nodes.ensures.later in
    let most = c.in-Some.ensures.within in
    let within = c.in_ok-nodes.ensures.within in
    omega (arith, one, more, most, within)

pub loop-line-preserved : goal.loop-line-preserved
loop-line-preserved c =
    let l = c.loop-line in
    record {
      within = c.in_ok-nodes.ensures.within;
      read = λ t dues trees has.
          let p : Growing = record {
            target = t;
            dues = dues;
            trees = trees;
            names = l.names;
            named = l.named;
            heads = l.heads;
          } in
          let main = c.in-Some-list_begun.main in
          let begun = with_head p c.next_line.new.place.line in
          l.invariant.read t dues trees has
          ∙ part_goes p c.args.bytes.now l.place c.next_line.new.place c.in-Some.line.now c.in-Some.ensures.next main
          (ap (λ (n : ℕ). list_begun n c.in-Some.line.now) (sym c.len.ensures) ∙ sym c.in-Some-list_begun.ensures)
          ∙ c.in_ok-nodes.ensures.read version.Two main begun has c.as_slice.ensures
          ∙ name_listed t dues trees l.names l.named l.heads c.push.new.self c.next_line.new.place.line
          c.in_ok-push.ensures.ok c.in_ok-nodes.field-0.nodes c.in_ok-nodes.field-0.count c.args.bytes.now
          c.read_nodes.new.place main c.if-main.false c.push-in-Some.new.self c.push-in-Some-2.new.self
          c.in_ok-push-2.ensures.ok c.in_ok-push-3.ensures.ok;
    }

pub returns-clause-read : goal.returns-clause-read
returns-clause-read c = λ t dues trees has.
    let l = c.loop-line in
    let p : Growing = record {
      target = t;
      dues = dues;
      trees = trees;
      names = l.names;
      named = l.named;
      heads = l.heads;
    } in
    inr (l.invariant.read t dues trees has
    ∙ no_line (AtList p) c.args.bytes.now l.place c.next_line.new.place c.in_default.ensures.next)
