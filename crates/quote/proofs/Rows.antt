-- Rows of document 02, E5, computed: a sheet of five inputs on the board that shares selectors.
use Prim.Native.Nat.{ℕ, zero, suc}
use mathlib.Core.Path.{◌≡◌, refl}
use mathlib.Core.List.{List, [], ◌∷◌, ◌++◌}
use Rattle.base.specs.Refusals.{refusal_at, empty, too_wide}
use Rattle.nodes.specs.declared.BoardKind.TheVariants.{Tree, Sharing}
use Rattle.unit.proofs.Rows as UnitRows
use Rattle.quote.specs.Inner.Refused.{refused_quote}
use Rattle.quote.specs.Quote.{searched, quoted_of}

-- 03 for the first k patterns
abbrev impossible : ℕ → List ℕ
impossible zero = []
impossible (suc p) = impossible p ++ 3 ∷ p ∷ []

-- five inputs and one wire, and nothing said of any pattern but the commands given
abbrev five_inputs : List ℕ → List ℕ
five_inputs more = 1 ∷ 5 ∷ 1 ∷ impossible 32 ++ more ++ 0 ∷ []

-- 15 at 0, with any budget and any buffer,
pub too_wide_lem : (budget room : ℕ) → quoted_of Sharing (five_inputs []) budget room ≡ refused_quote (refusal_at too_wide 0)
unfolding UnitRows.opened quoted_of searched
too_wide_lem budget room = refl

-- and 10 where pattern 9 is left no value, as for trees
pub empty_first : (budget room : ℕ)
    → (quoted_of Sharing (five_inputs (6 ∷ 9 ∷ 0 ∷ 0 ∷ [])) budget room ≡ refused_quote (refusal_at empty 9))
    × (quoted_of Tree (five_inputs (6 ∷ 9 ∷ 0 ∷ 0 ∷ [])) budget room ≡ refused_quote (refusal_at empty 9))
unfolding UnitRows.opened quoted_of searched
empty_first budget room = (refl, refl)
