use Rattle.std.proofs.Common.{◌∙◌, Some, ap, sym, cond, is_some, true, false}
use Rattle.std.specs.Str.{bytes_eq}
use Rattle.indexmap.specs.IndexMap.{get}
use Rattle.cat_audit_sound.proofs.PointTableLemmas.{added, there_already}
use Rattle.cat_audit_sound.proofs.points.add_point.Goals as goal

pub returns-then-contains_key : goal.returns-then-contains_key
returns-then-contains_key c other =
    there_already c.args.path.now c.args.point c.args.points.now
    (ap (λ key. is_some (get bytes_eq c.args.points.now key)) (sym c.in_ok-key.ensures)
    ∙ sym c.contains_key.ensures ∙ c.if-contains_key.true) other

pub returns : goal.returns
returns c other =
    added c.args.path.now c.args.point c.args.points.now c.insert.new.self
    (ap (λ key. is_some (get bytes_eq c.args.points.now key)) (sym c.in_ok-key.ensures)
    ∙ sym c.contains_key.ensures ∙ c.if-contains_key.false)
    (λ q. c.in_ok-insert.ensures.updates.0 q
    ∙ ap (λ key. cond (bytes_eq key q) (Some c.args.point) (get bytes_eq c.args.points.now q)) c.in_ok-key.ensures)
    other
