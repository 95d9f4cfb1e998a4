use Rattle.std.proofs.Common.{◌≡◌, ◌++◌, drop, map, string_bytes}
use Rattle.cat_cert.specs.Lines.{node_line}
use Rattle.cat_cert.specs.Texts.{text_of}
use Rattle.cat_dead_report.specs.DeadReports.{cited_node}
use Rattle.cat_dead_report.proofs.certificate.push_nodes.Given as goal

abbrev pub invariant-loop-node : goal.invariant-loop-node
invariant-loop-node l = string_bytes l.text ++ text_of (map node_line (map cited_node (drop l.node-index l.nodes)))
    ≡ string_bytes l.fn.text ++ text_of (map node_line (map cited_node l.nodes))
