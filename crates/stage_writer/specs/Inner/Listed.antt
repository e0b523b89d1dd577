-- Listed nodes as they lie in an array.
use Rattle.std.specs.Prelude.{ℕ, suc, ◌^◌, ◌<◌, List, map, reverse, take}
use Rattle.nodes.specs.Nodes.{Node, node}
use Rattle.stage_writer.specs.declared.listed.Node.{Node as NodeKept}
use Rattle.stage_writer.specs.declared.listed.Listing.TheInside.{Inside}

-- a node as it is kept
abbrev pub as_node : NodeKept → Node
as_node k = node k.after k.table

-- what stands past the end of an array of nodes
abbrev pub no_node : NodeKept
no_node = record { after = 0; table = 0 }

-- nodes in their order, told the latest first
abbrev pub nodes_of : List NodeKept → List Node
nodes_of ks = map as_node (reverse ks)

abbrev pub listed_in : Inside → List Node
listed_in x = nodes_of (take x.count x.nodes)

-- a node of a table of n inputs
pub record NodeOf (n : ℕ) (k : NodeKept) : Type 0 where
  pub inside : k.after < n
  pub bound : k.table < 2 ^ (2 ^ suc k.after)
