-- Demand 3, whole: the promise holds of every quote.
use Prim.Native.Nat.{ℕ, ◌^◌, ◌<◌, ◌≤◌}
use mathlib.Core.Path.{◌≡◌, refl}
use mathlib.Core.Logic.{⊎_elim}
use mathlib.Core.List.{List}
use lib.Dec.{ltb, ltb→lt, nltb→le}
use lib.ListN.{length}
use Rattle.base.specs.declared.Refusal.{Refusal}
use Rattle.base.specs.Refusals.{refusal_at, empty, too_wide}
use Rattle.base.proofs.Tests.{decide}
use Rattle.base.proofs.Tabulate.{tabulate_length}
use Rattle.nodes.specs.declared.BoardKind.{BoardKind}
use Rattle.nodes.specs.Counts.{count_of, most_inputs}
use Rattle.sheet.specs.declared.Command.{Command}
use Rattle.sheet.specs.Commands.{inputs_of}
use Rattle.sheet.specs.Limits.{max_inputs, max_patterns}
use Rattle.sheet.specs.Judged.{Reading, holds, refused}
use Rattle.reader.specs.Reading.{reading_of}
use Rattle.reader.proofs.Sound.{sound}
use Rattle.diagram.specs.Forms.{drawing_of}
use Rattle.diagram.proofs.Forms.{form_fair}
use Rattle.unit.specs.Formed.{relation_in, turned_away, formed_of}
use Rattle.unit.proofs.Forming.{formed_refused, formed_empty, formed_whole}
use Rattle.unit.proofs.Told.{empty_in, passes_whole}
use Rattle.unit.proofs.Rivals.{rival_told}
use Rattle.quote.specs.Quote.{searched, quoted_of, buffer_searched, buffer_quoted}
use Rattle.quote.specs.Promised.{Promised}
use Rattle.quote.proofs.Told.{is_wide, NumberTold, unread_told, empty_told, wide_told, other_told}
use Rattle.quote.proofs.Searched.{refused_promise, searched_promise}

module _ (kind : BoardKind) (sheet : List ℕ) (budget : ℕ) (buffer : List ℕ) where
  abbrev PromiseKept : Type 0
  PromiseKept = Promised (drawing_of kind) (most_inputs kind) sheet budget (quoted_of kind sheet budget (length buffer)) (buffer_quoted kind sheet budget buffer)

  -- a sheet that is turned away
  turned : (f : Refusal) → formed_of sheet ≡ turned_away f → NumberTold kind sheet f.number → PromiseKept
  unfolding quoted_of buffer_quoted
  turned f e told = rw e (refused_promise kind sheet budget buffer f told)

  module _ (cs : List Command) (e : reading_of sheet ≡ holds cs) where
    small : inputs_of cs ≤ max_inputs
    small = (sound sheet cs e).sizes.n_most

    -- no pattern is empty
    module _ (l : 2 ^ inputs_of cs ≤ empty_in cs) where
      -- more inputs than the board has lines: 15
      wide : most_inputs kind < inputs_of cs → PromiseKept
      unfolding quoted_of buffer_quoted searched buffer_searched relation_in
      wide many =
          rw (formed_whole sheet cs e l, is_wide kind (relation_in cs) many) (refused_promise kind sheet budget buffer (refusal_at too_wide 0) (wide_told kind sheet cs e l many))

      -- no more: what the search promises
      whole : inputs_of cs ≤ most_inputs kind → PromiseKept
      unfolding quoted_of buffer_quoted relation_in
      whole few =
          rw (formed_whole sheet cs e l)
          (searched_promise kind sheet cs e (relation_in cs) refl refl (tabulate_length max_patterns _) (passes_whole cs (sound sheet cs e) (most_inputs kind) few l)
          (other_told kind sheet cs e l few) (rival_told (drawing_of kind) sheet cs e (count_of kind (inputs_of cs)) (form_fair kind (inputs_of cs) small)) budget buffer)

      on_board : PromiseKept
      on_board =
          ⊎_elim (λ t. wide (ltb→lt (most_inputs kind) (inputs_of cs) t)) (λ t. whole (nltb→le (most_inputs kind) (inputs_of cs) t))
          (decide (ltb (most_inputs kind) (inputs_of cs)))

    held : PromiseKept
    held =
        ⊎_elim
        (λ t. let l = ltb→lt (empty_in cs) (2 ^ inputs_of cs) t in turned (refusal_at empty (empty_in cs)) (formed_empty sheet cs e l) (empty_told kind sheet cs e l))
        (λ t. on_board (nltb→le (empty_in cs) (2 ^ inputs_of cs) t))
        (decide (ltb (empty_in cs) (2 ^ inputs_of cs)))

  pub promised : Promised (drawing_of kind) (most_inputs kind) sheet budget (quoted_of kind sheet budget (length buffer)) (buffer_quoted kind sheet budget buffer)
  promised = go (reading_of sheet) refl
    where
      go : (x : Reading) → reading_of sheet ≡ x → PromiseKept
      go (refused f) e = turned f (formed_refused sheet f e) (unread_told kind sheet f e)
      go (holds cs) e = held cs e
