-- Laws of listed nodes as they lie in an array.
use Rattle.std.proofs.Common.{◌≡◌, ℕ, ◌+◌, ◌<◌, Bool, true, false, cond, not, ◌||◌, eqb, List, [], ◌∷◌, ◌++◌, map, reverse, length, get_or, take, refl, ap, ◌∙◌, arith, add-one}
use mathlib.Core.List.{reverse-append}
use lib.Seq.{take-suc}
use borrow.Author.Tests.{ne_eqb}
use Rattle.std.proofs.lemmas.List.{length-map, length-reverse}
use Rattle.nodes.specs.Nodes.{Node, same, has}
use Rattle.diagram.specs.Written.{node_number}
use Rattle.stage_writer.specs.Inner.Listed.{as_node, no_node, nodes_of}
use Rattle.stage_writer.specs.declared.listed.Node.{Node as NodeKept}

pub nodes_length : (ks : List NodeKept) → length (nodes_of ks) ≡ length ks
nodes_length ks = length-map (reverse ks) as_node ∙ length-reverse ks

-- one more stands first
nodes_push : (ks : List NodeKept) (k : NodeKept) → nodes_of (ks ++ k ∷ []) ≡ as_node k ∷ nodes_of ks
nodes_push ks k = ap (map as_node) (reverse-append ks (k ∷ []))

pub nodes_more : (ks : List NodeKept) (i : ℕ) → i < length ks → nodes_of (take (i + 1) ks) ≡ as_node (get_or ks i no_node) ∷ nodes_of (take i ks)
nodes_more ks i h = rw (add-one i, take-suc ks i no_node h) (nodes_push (take i ks) (get_or ks i no_node))

-- a node is listed if it has a number
pub has_number : (ks : List Node) (k : Node) → has ks k ≡ not (eqb (node_number ks k) 0)
unfolding has node_number
has_number [] k = refl
has_number (x ∷ xs) k = by (same k x) (has_number xs k)
  where
    by : (b : Bool) → has xs k ≡ not (eqb (node_number xs k) 0) → (b || has xs k) ≡ not (eqb (cond b (length xs + 2) (node_number xs k)) 0)
    by true e = let d : length xs + 2 ≡ 0 → ⊥ = λ q. absurd (omega arith) in simp (ne_eqb _ _ d)
    by false e = e
