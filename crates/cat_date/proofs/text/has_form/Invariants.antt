use Rattle.std.proofs.Common.{◌≡◌, drop, bytes_eq}
use Rattle.cat_date.specs.Text.{form_of}
use Rattle.cat_date.proofs.text.has_form.Given as goal

-- the rest decides
abbrev pub invariant-loop-i : goal.invariant-loop-i
invariant-loop-i l = bytes_eq (form_of (drop l.i l.text)) (drop l.i l.form) ≡ bytes_eq (form_of l.text) l.form
