use Rattle.std.proofs.Common.{◌≡◌, ◌∙◌, ◌∷◌, [], ap, ◌++◌, string_bytes}
use Rattle.cat_cert.specs.Lines.{named_lines}
use Rattle.cat_cert.specs.Texts.{text_of}
use Rattle.cat_cert.proofs.TextLemmas.{name_written}
use Rattle.cat_cert.proofs.writing.push_names.Goals as goal

pub loop-name-preserved : goal.loop-name-preserved
loop-name-preserved c =
    let l = c.loop-name in
    let grown : string_bytes c.push_name.new.text
    ≡ string_bytes l.text ++ text_of (named_lines l.name (c.at.result.now ∷ [])) =
    c.in_ok-push_name.ensures ∙ ap (λ nodes. string_bytes l.text ++ text_of (named_lines l.name (nodes ∷ [])))
    c.as_slice.ensures in
    name_written c.args.names.now l.name c.at.result.now
    (string_bytes c.args.text.now ++ text_of (named_lines 0 c.args.names.now)) (string_bytes l.text)
    (string_bytes c.push_name.new.text) c.at.ensures grown l.invariant
