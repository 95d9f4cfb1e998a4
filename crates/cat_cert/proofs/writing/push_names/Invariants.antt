use Rattle.std.proofs.Common.{◌≡◌, ◌++◌, drop, string_bytes}
use Rattle.cat_cert.specs.Lines.{named_lines}
use Rattle.cat_cert.specs.Texts.{text_of}
use Rattle.cat_cert.proofs.writing.push_names.Given as goal

abbrev pub invariant-loop-name : goal.invariant-loop-name
invariant-loop-name l =
    string_bytes l.text ++ text_of (named_lines l.name (drop l.name l.names))
    ≡ string_bytes l.initial.text ++ text_of (named_lines 0 l.names)
