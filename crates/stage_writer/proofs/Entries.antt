-- Laws of writing a diagram: an entry for each listed node, and the whole wire.
use Prim.Native.Nat.{ℕ, zero, suc, ◌+◌, ◌-◌, ◌*◌, ◌^◌, ◌<◌, ◌≤◌}
use mathlib.Core.Path.{◌≡◌, ap, ◌∙◌}
use mathlib.Core.Logic.{⊎_elim}
use mathlib.Core.List.{List, [], ◌∷◌, ◌++◌}
use native.Mathlib.Omega.{arith}
use native.Mathlib.Numerals.{add-one}
use lib.ListN.{length, get_or, take}
use lib.Seq.{take_all}
use Rattle.base.specs.Inner.Put.{Put}
use Rattle.base.proofs.Stores.{put_then}
use Rattle.base.proofs.Tests.{below_suc}
use Rattle.table.specs.Cells.{low, high}
use Rattle.nodes.specs.Nodes.{Node, listing}
use Rattle.diagram.specs.Bytes.{entry_bytes, entries_bytes, diagram_wire_bytes}
use Rattle.diagram.specs.Written.{number_of, entry_of, entries_of, reduced_diagram}
use Rattle.diagram.proofs.Reading.{entries_bytes_length, wire_length}
use Rattle.diagram.proofs.Reduced.{Closed, listing_closed, InRange, listing_in, entries_length}
use Rattle.stage_writer.specs.Inner.Listed.{as_node, no_node, nodes_of, NodeOf}
use Rattle.stage_writer.specs.declared.listed.Node.{Node as NodeKept}
use Rattle.stage_writer.proofs.Nodes.{nodes_length, nodes_more}

pub entries_bytes_lem : (n : ℕ) (ks : List NodeKept) → length (entries_bytes (entries_of n (nodes_of ks))) ≡ 3 * length ks
entries_bytes_lem n ks =
    omega (arith, entries_bytes_length (entries_of n (nodes_of ks)), entries_length n (nodes_of ks), nodes_length ks)

-- one entry more
pub entries_step : (n : ℕ) (ks : List NodeKept) (k : ℕ) → k < length ks
    → entries_bytes (entries_of n (nodes_of (take (k + 1) ks)))
    ≡ entries_bytes (entries_of n (nodes_of (take k ks))) ++ entry_bytes (entry_of n (nodes_of (take k ks)) (as_node (get_or ks k no_node)))
unfolding entries_of entries_bytes
entries_step n ks k h = rw (nodes_more ks k h)

-- the entry of a node by the numbers of its halves
pub entry_of_node : (n : ℕ) (before : List Node) (k : NodeKept) (lo hi z o : ℕ) → lo ≡ low k.after k.table → hi ≡ high k.after k.table
    → z ≡ number_of before k.after lo → o ≡ number_of before k.after hi
    → ◌≡◌ {A = List ℕ} ((n - k.after) ∷ z ∷ o ∷ []) (entry_bytes (entry_of n before (as_node k)))
entry_of_node n before k lo hi z o el eh p q = rw (p, q, el, eh)

-- what is listed of a table of n inputs are nodes of such a table
nodes_closed : (n : ℕ) (ks : List NodeKept) (j i : ℕ) → i < j → j ≤ length ks → Closed n (nodes_of (take j ks)) → InRange (nodes_of (take j ks))
    → NodeOf n (get_or ks i no_node)
unfolding Closed InRange
nodes_closed n ks zero i l h c r = absurd (omega arith)
nodes_closed n ks (suc j) i l h c r =
    let step : nodes_of (take (suc j) ks) ≡ as_node (get_or ks j no_node) ∷ nodes_of (take j ks) = rw (← add-one j) (nodes_more ks j (omega arith)) in
    let closed = rw step at c in
    let ranged = rw step at r in
    ⊎_elim
    (λ (e : i ≡ j). rw e (record { inside = closed.0.inside; bound = ranged.0 }))
    (λ b. nodes_closed n ks j i b (omega arith) closed.1 ranged.1)
    (below_suc l)

pub listed_nodes : (n t : ℕ) (ks : List NodeKept) → t < 2 ^ (2 ^ n) → nodes_of ks ≡ listing n t [] → (i : ℕ) → i < length ks → NodeOf n (get_or ks i no_node)
listed_nodes n t ks l e i h =
    let all : nodes_of (take (length ks) ks) ≡ listing n t [] = rw (take_all (length ks) ks (omega arith)) e in
    nodes_closed n ks (length ks) i h (omega arith) (rw all (listing_closed n t)) (rw all (listing_in n t l))

-- how long the wire is
pub wire_bytes_lem : (n t j : ℕ) (ks : List NodeKept) → nodes_of ks ≡ listing n t [] → length (diagram_wire_bytes j (reduced_diagram n t)) ≡ 4 + 3 * length ks
unfolding reduced_diagram
wire_bytes_lem n t j ks e =
    wire_length j (reduced_diagram n t) ∙ rw (← e) (ap (λ k. 4 + 3 * k) (entries_length n (nodes_of ks) ∙ nodes_length ks))

-- what the calls that write a wire leave
pub diagram_stored : {l b1 b2 b3 : List ℕ} {at first past next : ℕ} (n t j : ℕ) (ks : List NodeKept) (count top : ℕ) → nodes_of ks ≡ listing n t [] → count ≡ length ks
    → Put l at (0x26 ∷ j ∷ count ∷ []) b1 first → Put b1 first (entries_bytes (entries_of n (nodes_of ks))) b2 past
    → top ≡ number_of (nodes_of ks) n t → Put b2 past (top ∷ []) b3 next → Put l at (diagram_wire_bytes j (reduced_diagram n t)) b3 next
unfolding diagram_wire_bytes reduced_diagram
diagram_stored n t j ks count top e f p q i s =
    let c : length (entries_of n (nodes_of ks)) ≡ count = omega (arith, entries_length n (nodes_of ks), nodes_length ks, f) in
    rw (← e, c, ← i) (put_then p (put_then q s))
