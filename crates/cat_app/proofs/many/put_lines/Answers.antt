use Rattle.std.proofs.Common.{◌≡◌, ◌∙◌, ◌++◌, [], ◌∷◌, List, ℕ, length, ap, arith, refl, subst, sym}
use Rattle.std.specs.Prelude.{string_bytes}
use Rattle.std.proofs.lemmas.List.{append-nil, append_assoc}
use Rattle.std.specs.Vec.Iter.{into_iter_items, into_iter_len}
use Rattle.cat_io.specs.Gathered.{Adds}
use Rattle.cat_app.specs.Many.{ReadInput}
use Rattle.cat_app.specs.inside.Reading.{GathersLines}
use Rattle.cat_app.proofs.ManyLemmas.{all_ended, ended_early, is_read_next, next_failed, not_begun, nothing_gathered}
use Rattle.cat_app.proofs.ManyLemmas.{one_more_added}
use Rattle.cat_app.proofs.many.put_lines.Goals as goal

no_items : {A : Type 0} (xs : List A) (n : ℕ) → n ≡ length xs → n ≡ 0 → xs ≡ []
no_items [] n is none = refl
no_items (x ∷ xs) n is none = absurd (omega (arith, is, none))

pub loop-read-init : goal.loop-read-init
loop-read-init g c = (
  subst (λ (bytes : List ℕ). GathersLines c.args.many.built.program c.args.many.scope c.args.many.source.files [] bytes
      (g.K.Sink.state c.args.sink.now) (g.K.Sink.state c.args.sink.now)) (sym c.new-gathered.ensures)
      (nothing_gathered c.args.many.built.program c.args.many.built.code c.requires.built.code c.args.many.scope
      c.args.many.source.files (g.K.Sink.state c.args.sink.now)),
  c.into_iter-read-iterator.ensures.into_iter_gives.0 ∙ c.into_vec-read-items.ensures,
  c.in-Ok.ensures,
)

pub reply_on-requires-clause-read : goal.reply_on-requires-clause-read
reply_on-requires-clause-read g c =
    let l = c.loop-read in
    is_read_next c.args.many.built.program.decls c.args.many.scope c.requires.read.0 c.args.many.inputs l.yielded
    (into_iter_items c.next.new.self) c.in-Some.read c.requires.read.1
    (ap (λ (rs : List ReadInput). l.yielded ++ rs) (sym c.in-Some.ensures.steps.0) ∙ l.invariant.1)

pub loop-read-preserved : goal.loop-read-preserved
loop-read-preserved g c =
    let l = c.loop-read in
    let bytes : c.as_bytes.result.now ≡ string_bytes c.in-Ok-reply_on.reply.text = cc (c.as_bytes.ensures.value) in (
      one_more_added c.args.many.built.program c.args.many.built.code c.requires.built.code c.args.many.scope
          c.args.many.source.files l.yielded c.in-Some.read (string_bytes c.in-Ok-reply_on.reply.text) l.gathered
          c.add.new.self (g.K.Sink.state c.args.sink.now) (g.K.Sink.state l.sink) (g.K.Sink.state c.add.new.sink)
          c.add.result l.invariant.0 c.in-Ok-reply_on.ensures.line c.if-is_err.ensures.value
          (subst (λ (b : List ℕ). Adds b l.gathered c.add.new.self (g.K.Sink.state l.sink)
          (g.K.Sink.state c.add.new.sink) c.add.result) bytes c.add.ensures),
      append_assoc l.yielded (c.in-Some.read ∷ []) (into_iter_items c.next.new.self)
          ∙ ap (λ (rs : List ReadInput). l.yielded ++ rs) (sym c.in-Some.ensures.steps.0) ∙ l.invariant.1,
      c.reply_on.ensures.clean ∙ l.invariant.2,
    )

pub returns-in_default-reply_on : goal.returns-in_default-reply_on
returns-in_default-reply_on g c =
    let l = c.loop-read in
    ended_early c.args.many.built.program c.args.many.built.code c.requires.built.code c.args.many.scope
    c.args.many.source.files c.requires.read.0 c.args.many.inputs c.requires.read.1 (g.K.Sink.state c.args.sink.now)
    l.yielded (into_iter_items l.read-iterator) l.gathered (g.K.Sink.state l.sink) (g.K.Sink.state c.put_rest.new.sink)
    c.put_rest.result l.invariant.1 l.invariant.0 c.put_rest.ensures

pub returns-in_default : goal.returns-in_default
returns-in_default g c =
    not_begun c.args.many.built.program c.args.many.built.code c.requires.built.code c.args.many.scope
    c.args.many.source.files c.requires.read.0 c.args.many.inputs c.requires.read.1 (g.K.Sink.state c.args.sink.now)

pub returns-then-is_err : goal.returns-then-is_err
returns-then-is_err g c =
    let l = c.loop-read in
    let bytes : c.as_bytes.result.now ≡ string_bytes c.in-Ok-reply_on.reply.text = cc (c.as_bytes.ensures.value) in
    next_failed c.args.many.built.program c.args.many.built.code c.requires.built.code c.args.many.scope
    c.args.many.source.files c.requires.read.0 c.args.many.inputs c.requires.read.1 (g.K.Sink.state c.args.sink.now)
    l.yielded (into_iter_items c.next.new.self) c.in-Some.read (string_bytes c.in-Ok-reply_on.reply.text) l.gathered
    c.add.new.self (g.K.Sink.state l.sink) (g.K.Sink.state c.add.new.sink) c.add.result
    (ap (λ (rs : List ReadInput). l.yielded ++ rs) (sym c.in-Some.ensures.steps.0) ∙ l.invariant.1)
    l.invariant.0 c.in-Ok-reply_on.ensures.line c.if-is_err.ensures.value
    (subst (λ (b : List ℕ). Adds b l.gathered c.add.new.self (g.K.Sink.state l.sink)
    (g.K.Sink.state c.add.new.sink) c.add.result) bytes c.add.ensures)

pub returns : goal.returns
returns g c =
    let l = c.loop-read in
    let none : into_iter_items l.read-iterator ≡ [] =
    no_items (into_iter_items l.read-iterator) (into_iter_len l.read-iterator) l.read-iterator.rest.ok.0
    c.in-None.ensures.steps.0 in
    all_ended c.args.many.built.program c.args.many.built.code c.requires.built.code c.args.many.scope
    c.args.many.source.files c.requires.read.0 c.args.many.inputs c.requires.read.1 (g.K.Sink.state c.args.sink.now)
    l.yielded l.gathered (g.K.Sink.state l.sink) (g.K.Sink.state c.put_rest-2.new.sink) c.put_rest-2.result
    (sym (append-nil l.yielded) ∙ ap (λ (rs : List ReadInput). l.yielded ++ rs) (sym none) ∙ l.invariant.1)
    l.invariant.0 c.put_rest-2.ensures
