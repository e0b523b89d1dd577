-- Diagrams are a form: their wires are read as they are written, and nodes are fair to them. Their stages' lengths.
use Prim.Native.Nat.{ℕ, ◌+◌, ◌*◌, ◌^◌, ◌<◌, ◌≤◌}
use mathlib.Core.Path.{◌≡◌, refl, sym}
use mathlib.Core.List.{List, []}
use native.Mathlib.Omega.{arith}
use lib.ListN.{length, take}
use Rattle.sheet.specs.Limits.{max_inputs, max_shared_inputs, max_wires}
use Rattle.table.specs.Cells.{wires, total}
use Rattle.table.specs.Drawing.{got, drawn_table}
use Rattle.table.specs.Inner.Drawing.{FairCount}
use Rattle.table.proofs.Bits.{of_bits_lt, bit_of_bits}
use Rattle.nodes.specs.Nodes.{listing, nodes}
use Rattle.stage.specs.Bytes.{sheet_frame, selector_bytes}
use Rattle.stage.specs.Written.{stage_of}
use Rattle.stage.specs.Inner.Laws.{FormLaws}
use Rattle.stage.proofs.Lengths.{sheet_length, sheet_length_most}
use Rattle.stage.proofs.Prefix.{none_longer as sheet_none_longer, front_tells as sheet_front}
use Rattle.diagram.specs.Diagram.{Diagram, most_entries, follow_diagram}
use Rattle.diagram.specs.Bytes.{diagram_frame, most_nodes, longest_shared}
use Rattle.diagram.specs.Written.{reduced_diagram}
use Rattle.diagram.specs.Diagrams.{diagram_form, diagram_drawing, read_diagrams}
use Rattle.diagram.proofs.Entries.{diagram_drives}
use Rattle.diagram.proofs.Least.{least_diagram}
use Rattle.diagram.proofs.Reduced.{listing_few, reduced_formed, reduced_means, reduced_cells, entries_length}
use Rattle.diagram.proofs.Reading.{wire_length, wire_told, wire_back, wire_more}

-- nodes are fair to diagrams, also of more inputs than a sheet of theirs has: none of a function has fewer cells, and the one that is written has as many
unfoldable pub diagram_counts : (n : ℕ) → n ≤ max_inputs → FairCount diagram_drawing n (nodes n)
unfolding drawn_table
diagram_counts n small =
    record {
      drives = diagram_drives n;
      least = λ d w.
          let f : ℕ → ℕ = λ p. follow_diagram n p d in
          least_diagram n d w (drawn_table diagram_drawing n d) (of_bits_lt f (2 ^ n) (λ p _. diagram_drives n d w p))
          (λ p l. sym (bit_of_bits f (2 ^ n) (λ p _. diagram_drives n d w p) p l));
      reduced = reduced_diagram n;
      reduced_formed = λ t l. reduced_formed n t l small;
      reduced_follow = λ t p l b. reduced_means n t l p b;
      reduced_cells = reduced_cells n;
    }

unfoldable pub diagram_laws : FormLaws diagram_form
unfolding diagram_counts
diagram_laws =
    record {
      frame = diagram_frame;
      selectors = λ d. length d.entries;
      wire_length = wire_length;
      wire_most = most_entries;
      few = λ n d _ w. w.few;
      told = wire_told;
      back = wire_back;
      more = λ n m j at bytes q _ l. wire_more n m j at bytes q (omega arith);
      fair = λ n s. diagram_counts n (omega arith);
      reduces = λ n _. refl;
    }

-- the length of the longest stage sheet of diagrams
abbrev pub longest_diagrams : ℕ
longest_diagrams = sheet_frame + diagram_frame * max_wires + selector_bytes * max_wires * most_entries

-- no sheet that is accepted is longer, and reading looks at no byte past the one that would follow
pub none_longer : (bytes : List ℕ) (n m : ℕ) (stage : List Diagram) → read_diagrams bytes ≡ got n m stage → length bytes ≤ longest_diagrams
unfolding diagram_laws
none_longer bytes n m stage e = sheet_none_longer diagram_form diagram_laws bytes n m stage e

pub front_tells : (s : List ℕ) (k : ℕ) → longest_diagrams < k → read_diagrams (take k s) ≡ read_diagrams s
unfolding diagram_laws
front_tells s k h = sheet_front diagram_form diagram_laws s k h

-- the length of a stage that is written, by its wires and entries, one for each node that is listed; and its bound
pub stage_length : (n m : ℕ) (tables : List ℕ) → m ≤ length tables
    → length (stage_of diagram_form n m tables) ≡ sheet_frame + diagram_frame * m + selector_bytes * total (λ t. length (listing n t [])) m (wires tables)
unfolding diagram_laws reduced_diagram
stage_length n m tables h = sheet_length diagram_form diagram_laws n (λ t. length (listing n t [])) (λ t. entries_length n (listing n t [])) m tables h

pub stage_length_most : (n m : ℕ) (tables : List ℕ) → m ≤ length tables → n ≤ max_shared_inputs → m ≤ max_wires
    → length (stage_of diagram_form n m tables) ≤ longest_shared
unfolding diagram_laws reduced_diagram
stage_length_most n m tables h a b =
    omega (
      arith,
      sheet_length_most diagram_form diagram_laws n (λ t. length (listing n t [])) (λ t. entries_length n (listing n t [])) m tables h most_nodes
          (λ t. listing_few n t a),
    )
