use Rattle.std.proofs.Common.{◌≡◌, ◌+◌, ◌++◌, drop, length, string_bytes}
use Rattle.cat_cert.specs.Lines.{dues_of, due_lines, targets_of}
use Rattle.cat_cert.specs.Texts.{text_of, certificate_text}
use Rattle.cat_cert.proofs.writing.certificate_text.Given as goal

abbrev pub invariant-loop-table : goal.invariant-loop-table
invariant-loop-table l = record {
  left : l.at + length (targets_of (drop l.table-index l.tables)) ≡ length l.trees;
  made : string_bytes l.text
      ++ text_of (due_lines l.version (dues_of (drop l.table-index l.tables)) (drop l.at l.trees))
      ≡ certificate_text l.version l.tables l.trees;
}
