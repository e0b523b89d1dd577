-- `put_diagram_wire` meets its contract: the head, the entries of the listed nodes, and the top.
use Rattle.std.proofs.Common.{◌≡◌, [], refl, ◌∙◌, arith}
use Rattle.nodes.specs.Nodes.{listing}
use Rattle.stage_writer.specs.Inner.Listed.{nodes_of}
use Rattle.stage_writer.proofs.Entries.{entries_bytes_lem, listed_nodes, wire_bytes_lem, diagram_stored}
use Rattle.stage_writer.proofs.diagrams.put_diagram_wire.Goals as goal

-- there is room for the head and for the entries
pub put_bytes-entries_at-requires : goal.put_bytes-entries_at-requires
put_bytes-entries_at-requires c =
    let a = c.args in
    let nodes = c.nodes-nodes.ensures.0 ∙ c.of_table-listing.ensures in
    omega (arith, wire_bytes_lem a.n a.t a.j c.nodes-nodes.result.now nodes)

pub put_entries-top_at-requires : goal.put_entries-top_at-requires
put_entries-top_at-requires c =
    let a = c.args in
    let ks = c.nodes-nodes.result.now in
    let nodes : nodes_of ks ≡ listing a.n a.t [] = c.nodes-nodes.ensures.0 ∙ c.of_table-listing.ensures in (
      c.nodes-nodes.ensures.1,
      c.requires.0,
      listed_nodes a.n a.t ks c.requires.1 nodes,
      omega (arith, c.put_bytes-entries_at.ensures.past, wire_bytes_lem a.n a.t a.j ks nodes),
    )

pub put_bytes-requires : goal.put_bytes-requires
put_bytes-requires c =
    let a = c.args in
    let ks = c.nodes-nodes.result.now in
    let nodes : nodes_of ks ≡ listing a.n a.t [] = c.nodes-nodes.ensures.0 ∙ c.of_table-listing.ensures in
    omega (
      arith,
      c.put_entries-top_at.ensures.past,
      c.put_bytes-entries_at.ensures.past,
      wire_bytes_lem a.n a.t a.j ks nodes,
      entries_bytes_lem a.n ks,
    )

pub returns : goal.returns
returns c =
    let a = c.args in
    let ks = c.nodes-nodes.result.now in
    let nodes : nodes_of ks ≡ listing a.n a.t [] = c.nodes-nodes.ensures.0 ∙ c.of_table-listing.ensures in
    diagram_stored a.n a.t a.j ks _ _ nodes refl c.put_bytes-entries_at.ensures c.put_entries-top_at.ensures c.number_of-top.ensures c.put_bytes.ensures
