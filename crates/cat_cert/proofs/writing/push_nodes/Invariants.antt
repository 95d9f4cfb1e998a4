use Rattle.std.proofs.Common.{◌≡◌, ◌++◌, map, drop, string_bytes}
use Rattle.cat_cert.specs.Lines.{node_line}
use Rattle.cat_cert.specs.Texts.{text_of}
use Rattle.cat_cert.proofs.writing.push_nodes.Given as goal

abbrev pub invariant-loop-node : goal.invariant-loop-node
invariant-loop-node l =
    string_bytes l.text ++ text_of (map node_line (drop l.node-index l.nodes))
    ≡ string_bytes l.initial.text ++ text_of (map node_line l.nodes)
