-- The promise of demand 3 for a sheet whose relation was formed: what any quote promises, with the rivals of the sheet as the stages wanted.
use Prim.Native.Nat.{ℕ}
use mathlib.Core.Path.{◌≡◌, sym, ap, ◌∙◌}
use mathlib.Core.Logic.{◌↔◌}
use mathlib.Core.List.{List}
use native.Mathlib.Omega.{arith}
use lib.ListN.{length}
use Rattle.base.specs.declared.Refusal.{Refusal}
use Rattle.base.specs.Cases.{refused_outcome, accepted_case}
use Rattle.base.specs.Refusals.{empty, too_wide}
use Rattle.nodes.specs.declared.BoardKind.{BoardKind}
use Rattle.nodes.specs.Counts.{most_inputs}
use Rattle.relation.specs.declared.Relation.{Relation}
use Rattle.relation.specs.Families.{Family}
use Rattle.relation.specs.Handed.{relation_of, check_of}
use Rattle.sheet.specs.declared.Command.{Command}
use Rattle.sheet.specs.Commands.{inputs_of, wires_of}
use Rattle.sheet.specs.Judged.{holds}
use Rattle.sheet.specs.Limits.{max_patterns}
use Rattle.reader.specs.Reading.{reading_of}
use Rattle.diagram.specs.Forms.{drawing_of}
use Rattle.unit.specs.Rival.{Rival}
use Rattle.quote.specs.Quote.{searched, buffer_searched}
use Rattle.quote.specs.Cases.{QuoteReply}
use Rattle.quote.specs.Inner.Refused.{refused_quote}
use Rattle.quote.specs.AnyQuote.{inputs_in, wires_in, PromisedOf}
use Rattle.quote.specs.Promised.{NoRival, Promised}
use Rattle.quote.proofs.Told.{NumberTold}
use Rattle.quote.proofs.OneSheet.{read_is, packed}
use Rattle.quote.proofs.AnySearched.{any_refused_promise, Tells, any_searched_promise, searched_number}

-- what every quote promises, with what the number tells
with_number : (kind : BoardKind) (sheet : List ℕ) (budget : ℕ) {r : QuoteReply} {b : List ℕ}
    → PromisedOf (drawing_of kind) (inputs_in sheet) (wires_in sheet) (Rival (drawing_of kind) sheet) (NoRival (drawing_of kind) sheet) budget r b
    → NumberTold kind sheet r.mark.number → Promised (drawing_of kind) (most_inputs kind) sheet budget r b
with_number kind sheet budget p told = packed (drawing_of kind) sheet (most_inputs kind) budget _ _ p told.by_trees told.wide

-- a refused quote
pub refused_promise : (kind : BoardKind) (sheet : List ℕ) (budget : ℕ) (buffer : List ℕ) (f : Refusal) → NumberTold kind sheet f.number
    → Promised (drawing_of kind) (most_inputs kind) sheet budget (refused_quote f) buffer
refused_promise kind sheet budget buffer f told =
    with_number kind sheet budget
    (any_refused_promise (drawing_of kind) (inputs_in sheet) (wires_in sheet) (Rival (drawing_of kind) sheet) (NoRival (drawing_of kind) sheet) budget buffer refused_outcome f (omega arith) told.ten)
    told

-- a relation that was searched, with the sizes of the sheet
module _ (kind : BoardKind) (sheet : List ℕ) (cs : List Command) (held : reading_of sheet ≡ holds cs) (r : Relation) (en : r.n ≡ inputs_of cs) (em : r.m ≡ wires_of cs)
    (long : length r.sets ≡ max_patterns) (passes : check_of (most_inputs kind) r ≡ accepted_case)
    (told : (k : ℕ) → (k ≡ empty → ⊥) → (k ≡ too_wide → ⊥) → NumberTold kind sheet k)
    (rivals : (x : List (drawing_of kind).Shape) → Rival (drawing_of kind) sheet x ↔ Family (drawing_of kind) r.n r.m (relation_of r) x) (budget : ℕ) where
  tells : Tells kind (inputs_in sheet) (wires_in sheet) (Rival (drawing_of kind) sheet) r
  tells =
      record {
        inputs = en ∙ sym (ap inputs_of (read_is sheet cs held));
        wires = em ∙ sym (ap wires_of (read_is sheet cs held));
        long = long;
        passes = passes;
        families = rivals;
      }

  pub searched_promise : (buffer : List ℕ) → Promised (drawing_of kind) (most_inputs kind) sheet budget (searched kind r budget (length buffer)) (buffer_searched kind r budget buffer)
  searched_promise buffer =
      let k = searched_number kind (inputs_in sheet) (wires_in sheet) (Rival (drawing_of kind) sheet) (NoRival (drawing_of kind) sheet) r tells (λ h. h.none) budget (length buffer) in
      with_number kind sheet budget
      (any_searched_promise kind (inputs_in sheet) (wires_in sheet) (Rival (drawing_of kind) sheet) (NoRival (drawing_of kind) sheet) r tells (λ h. h.none) budget buffer)
      (told (searched kind r budget (length buffer)).mark.number k.0 k.1)
