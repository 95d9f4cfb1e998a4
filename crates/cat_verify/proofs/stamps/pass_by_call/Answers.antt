use Rattle.std.proofs.Common.{rules, ◌≡◌, ◌∙◌, Some, slice_get, length, refl, sym, ap}
use Rattle.std.proofs.lemmas.List.{append-nil}
use Rattle.std.proofs.lemmas.Option.{slice_get_read, slice_get_past}
use Rattle.cat_code.specs.declared.instr.Instr.TheVariants as instr
use Rattle.cat_verify.specs.declared.stamps.Arrival.{Arrival}
use Rattle.cat_verify.proofs.stamps.pass_by_call.Goals as goal

pub returns-in_default-get : goal.returns-in_default-get
returns-in_default-get c =
    let call : c.args.instr ≡ instr.Call c.in-Call.function c.in-Call.field-1 = search rules in
    let none = slice_get_past c.args.calls.now c.in-Call.function c.in_default-get.ensures.lookup.3 in
    rw (call, none) (sym (append-nil c.args.waiting.now))

pub returns : goal.returns
returns c =
    let call : c.args.instr ≡ instr.Call c.in-Call.function c.in-Call.field-1 = search rules in
    let same : c.in-Some.field-0.now ≡ c.in-Some.entry = search rules in
    let some : slice_get c.args.calls.now c.in-Call.function ≡ Some c.in-Some.entry =
    slice_get_read c.args.calls.now (length c.args.calls.now) c.in-Call.function c.in-Some.field-0.now refl
    c.in-Some.ensures.lookup.3.0 c.in-Some.ensures.lookup.1 ∙ ap (λ (x : Arrival). Some x) same in
    rw (call, some) (search rules)
