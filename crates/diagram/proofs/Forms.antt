-- Laws of both forms.
use Prim.Native.Nat.{ℕ, ◌<◌, ◌≤◌}
use mathlib.Core.Path.{◌≡◌, refl}
use mathlib.Core.List.{List}
use native.Mathlib.Omega.{arith}
use lib.ListN.{length, take}
use Rattle.sheet.specs.Limits.{max_inputs, max_wires}
use Rattle.nodes.specs.declared.BoardKind.{BoardKind}
use Rattle.nodes.specs.declared.BoardKind.TheVariants.{Tree, Sharing}
use Rattle.table.specs.Inner.Drawing.{FairCount}
use Rattle.nodes.specs.Counts.{count_of, most_inputs}
use Rattle.stage.specs.Read.{read_sheet}
use Rattle.stage.specs.Written.{stage_of}
use Rattle.stage.specs.RoundTrip.{RoundTrip}
use Rattle.stage.specs.Inner.Laws.{FormLaws}
use Rattle.stage.proofs.RoundTrip.{round_trip}
use Rattle.stage.proofs.TreeForm.{tree_laws, front_tells as trees_front, stage_length_most as trees_most}
use Rattle.diagram.specs.Bytes.{longest_written}
use Rattle.diagram.specs.Forms.{form_of, drawing_of}
use Rattle.diagram.proofs.DiagramForm.{diagram_counts, diagram_laws, longest_diagrams, front_tells as diagrams_front, stage_length_most as diagrams_most}

pub form_laws : (kind : BoardKind) → FormLaws (form_of kind)
form_laws Tree = tree_laws
form_laws Sharing = diagram_laws

-- a form's sheets have as many inputs as the board's tables
pub form_most : (kind : BoardKind) → (form_of kind).most ≡ most_inputs kind
form_most Tree = refl
form_most Sharing = refl

-- the count of a board is fair to its drawings, also of more inputs than its sheets have, and the drawing that is written has as many cells
unfoldable pub form_fair : (kind : BoardKind) (n : ℕ) → n ≤ max_inputs → FairCount (drawing_of kind) n (count_of kind n)
form_fair Tree n small = tree_laws.fair n small
form_fair Sharing n small = diagram_counts n small

pub form_reduces : (kind : BoardKind) (n : ℕ) (small : n ≤ max_inputs) → (form_fair kind n small).reduced ≡ (form_of kind).reduced n
unfolding form_fair diagram_counts
form_reduces Tree n small = tree_laws.reduces n small
form_reduces Sharing n small = refl

-- on either board reading undoes writing
pub form_round_trip : (kind : BoardKind) → RoundTrip (form_of kind)
form_round_trip kind = round_trip (form_of kind) (form_laws kind)

-- no stage sheet that is accepted, of either board, has more bytes than the longest of diagrams, so reading looks no further than one byte past it
pub form_front : (kind : BoardKind) (bytes : List ℕ) (k : ℕ) → longest_diagrams < k → read_sheet (form_of kind) (take k bytes) ≡ read_sheet (form_of kind) bytes
form_front Tree bytes k l = trees_front bytes k (omega arith)
form_front Sharing bytes k l = diagrams_front bytes k l

-- no stage that is written on a board, of as many inputs as it has, is longer than the longest that is written on either
pub form_length_most : (kind : BoardKind) (n m : ℕ) (tables : List ℕ) → m ≤ length tables → n ≤ most_inputs kind → m ≤ max_wires
    → length (stage_of (form_of kind) n m tables) ≤ longest_written
form_length_most Tree n m tables h a b = trees_most n m tables h a b
form_length_most Sharing n m tables h a b = omega (arith, diagrams_most n m tables h a b)
