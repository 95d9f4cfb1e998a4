use Rattle.std.proofs.Common.{◌≡◌, codes, ap, ap₂, ◌∙◌}
use Rattle.std.proofs.lemmas.Result.{IfOk-weaker}
use Rattle.clap.specs.Words.{app_of, new_app, with_rule}
use Rattle.clap.specs.Simple.{app_of_fields}
use Rattle.cat_words.specs.TheCommand.{bare, the_command}
use Rattle.cat_words.proofs.command.command.Goals as goal

pub returns : goal.returns
unfolding the_command
returns c =
    let empty : app_of c.no_binary_name.result ≡ bare (new_app (codes "catala")) =
    ap app_of_fields c.no_binary_name.ensures ∙ ap bare c.new.ensures.app in
    let mode = c.in_ok-arg.ensures.shape c.required.ensures.local ∙ ap₂ with_rule empty c.required.ensures.rule in
    let scope = c.in_ok-arg-2.ensures.shape c.required-2.ensures.local
    ∙ ap₂ with_rule mode c.required-2.ensures.rule in
    let file = c.in_ok-arg-3.ensures.shape c.required-3.ensures.local
    ∙ ap₂ with_rule scope c.required-3.ensures.rule in
    let extra = c.in_ok-arg-4.ensures.shape c.new-2.ensures.optional.1
    ∙ ap₂ with_rule file c.new-2.ensures.rule in
    IfOk-weaker c.arg-5.result _ _
    (λ m h. h.shape c.cases.ensures.local ∙ ap₂ with_rule extra c.cases.ensures.rule) c.arg-5.ensures
