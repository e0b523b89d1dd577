-- Laws of a list of the least tables of a block, whatever they count for: it is tested entry by entry, and what stands at a place.
use Prim.Native.Nat.{ℕ, ◌+◌, ◌*◌, ◌/◌, ◌%◌, ◌<◌, ◌≤◌}
use mathlib.Core.Path.{◌≡◌, sym, ap, ap₂, ◌∙◌}
use mathlib.Core.Bool.{Bool}
use mathlib.Core.List.{List}
use mathlib.Core.Option.{Option, none, some}
use native.Mathlib.Omega.{arith}
use lib.Arith.{digits_div, digits_mod}
use lib.Dec.{T, eqb, eqb→eq}
use lib.ListN.{length, get_or, take, length-take}
use lib.Seq.{get_or-take}
use Rattle.base.proofs.Table.{every, at}
use Rattle.table.specs.Pick.{suits, least, least_of}
use Rattle.table.specs.Inner.Ranks.{masked}
use Rattle.table.specs.Inner.Pairs.{block_space}
use Rattle.table.specs.Inner.Blocks.{entries, no_table, no_entry, block_entry, best_block, BestBlocks, best_at}
use Rattle.table.proofs.Least.{Least, least_is}

module _ (written count : ℕ → ℕ) where
  -- the rule of such a list is one test over all of its entries; what stands past them is not asked for
  unfoldable pub right : ℕ → ℕ → Bool
  right k x = eqb x (written (best_at count k))

  pub tested : (list : List ℕ) → entries ≤ length list → T (every right 0 (take entries list)) → BestBlocks written count list
  unfolding right
  tested list long t =
      record {
        entry = λ zeros ones lz lo.
            let k = zeros * block_space + ones in
            let l : k < entries = omega arith in
            let r = at right (take entries list) t k (omega (arith, length-take entries list)) in
            sym (get_or-take entries list k 0 l) ∙ eqb→eq (get_or (take entries list) k 0) (written (best_at count k)) r
            ∙ ap written (ap₂ (best_block count) (digits_div zeros lo) (digits_mod zeros lo));
      }

  -- where no table counts for as much as none
  module _ (few : (t : ℕ) → count t < no_table) where
    entry_le : (zeros ones : ℕ) → best_block count zeros ones ≤ no_entry
    unfolding best_block least_of block_entry
    entry_le zeros ones = go (least count fit block_space) (least_is count fit block_space)
      where
        fit : ℕ → Bool
        fit = suits 2 (masked zeros ones)

        go : (o : Option ℕ) → Least count fit block_space o → block_entry count o ≤ no_entry
        go none h = omega arith
        go (some t) h = omega (arith, h.0, few t)

    pub entry_at : {e : List ℕ} → BestBlocks written count e → (k : ℕ) → k < entries → (get_or e k 0 ≡ written (best_at count k)) × (best_at count k ≤ no_entry)
    entry_at {e} b k l =
        let d : k ≡ k / block_space * block_space + k % block_space = omega arith in
        (ap (λ i. get_or e i 0) d ∙ b.entry (k / block_space) (k % block_space) (omega arith) (omega arith), entry_le (k / block_space) (k % block_space))
