-- Picks on the board whose table is lent: what the picks of its kind ask, and what they tell.
use Prim.Native.Nat.{ℕ, ◌+◌, ◌*◌, ◌-◌, ◌/◌, ◌%◌, ◌^◌, ◌<◌, ◌≤◌}
use mathlib.Core.Path.{◌≡◌, sym, ap, ap₂, subst, ◌∙◌}
use mathlib.Core.Logic.{⊎_elim}
use mathlib.Core.List.{List}
use native.Mathlib.Omega.{arith}
use native.Mathlib.Nat.{le_trans, lt_of_lt_of_le}
use lib.Dec.{ltb, ltb→lt, nltb→le}
use lib.ListN.{get_or}
use lib.Pow.{pow_mono}
use Rattle.base.proofs.Tests.{decide}
use Rattle.sheet.specs.Limits.{max_inputs, max_shared_inputs}
use Rattle.table.specs.Cells.{cells}
use Rattle.table.specs.Pick.{suits, least_of}
use Rattle.table.specs.Inner.Ranks.{masked, pick_of, rank, narrow_space}
use Rattle.table.specs.Inner.Blocks.{Blocks, Covered}
use Rattle.table.specs.Inner.Pairs.{narrow_inputs, narrow_patterns, zeros_in, ones_in}
use Rattle.table.specs.Inner.Wide.{four_masks}
use Rattle.table.proofs.Least.{Least, least_is}
use Rattle.table.proofs.Masks.{pick_some}
use Rattle.relation.specs.Inner.Side.{section}
use Rattle.nodes.specs.Inner.Tops.{Tops}
use Rattle.nodes.specs.declared.BoardKind.{BoardKind}
use Rattle.nodes.specs.declared.BoardKind.TheVariants.{Tree, Sharing}
use Rattle.nodes.specs.Counts.{count_of, most_inputs}
use Rattle.nodes.proofs.Counts.{most_inputs_lem}
use Rattle.parts.specs.Inner.Boards.{sharing_mark, wide_mark, board_number, board_in, lent_kind, lent_inputs, LentFor, Lent}
use Rattle.parts.specs.Inner.Words.{word_place, zeros_of, ones_of, Covers}
use Rattle.parts.specs.Inner.Picks.{pick_between, pick_on, cells_on, side_rank}
use Rattle.parts.proofs.BoardNumbers.{number_wide, number_shares, number_narrow, number_small}
use Rattle.parts.proofs.WordMasks.{narrow_zeros, narrow_ones, wide_zeros, wide_ones}

-- a pick between masks that are covered is a table of its inputs
pub pick_lt : (count : ℕ → ℕ) (n zeros ones : ℕ) → Covered n zeros ones → pick_of count n zeros ones < 2 ^ (2 ^ n)
unfolding least_of
pick_lt count n zeros ones h =
    let fit = suits n (masked zeros ones) in
    (subst (Least count fit (2 ^ (2 ^ n))) (pick_some count n zeros ones h) (least_is count fit (2 ^ (2 ^ n)))).0

-- masks of n inputs in one word
abbrev pub OneWord : (n x : ℕ) → Type 0
OneWord n x = (zeros_in x < 2 ^ (2 ^ n)) × (ones_in x < 2 ^ (2 ^ n)) × Covered n (zeros_in x) (ones_in x)

-- what the picks between them ask
abbrev Asked : Type 0 → (most n x : ℕ) → Type 0
Asked table most n x = table × (1 ≤ n) × (n ≤ most) × (zeros_in x < 2 ^ (2 ^ n)) × (ones_in x < 2 ^ (2 ^ n)) × Covered n (zeros_in x) (ones_in x)

-- the rank of the pick between them
abbrev pub rank_on : BoardKind → (n x : ℕ) → ℕ
rank_on kind n x = rank (count_of kind n) (pick_of (count_of kind n) n (zeros_in x) (ones_in x))

module _ (e : List ℕ) (lent : Lent e) where
  pub lent_few : lent_inputs e ≤ max_inputs
  lent_few = le_trans lent.most (most_inputs_lem (lent_kind e))

  pub lent_byte : board_in e < 2 * wide_mark
  lent_byte = rw lent.number (number_small (lent_kind e) (lent_inputs e) lent.most)

  module _ (board : ℕ) (eb : board ≡ board_in e) where
    number : board ≡ board_number (lent_kind e) (lent_inputs e)
    number = eb ∙ lent.number

    tree_table : lent_kind e ≡ Tree → Blocks e
    tree_table k = subst (λ kind. LentFor kind e) k lent.table

    sharing_table : lent_kind e ≡ Sharing → Tops e
    sharing_table k = subst (λ kind. LentFor kind e) k lent.table

    -- a narrow board of trees
    module _ (low : board < sharing_mark) (x : ℕ) where
      told_narrow : (lent_kind e ≡ Tree) × (board ≡ lent_inputs e) × (lent_inputs e ≤ narrow_inputs)
      told_narrow = number_narrow (lent_kind e) (lent_inputs e) board number lent.most low

      pub tree_asked : OneWord (lent_inputs e) x → Asked (Blocks e) narrow_inputs board x
      tree_asked h =
          let t = told_narrow in
          subst (λ n. Asked (Blocks e) narrow_inputs n x) (sym t.1) (tree_table t.0, lent.least, t.2, h.0, h.1, h.2)

      pub tree_rank : rank_on Tree board x ≡ rank_on (lent_kind e) (lent_inputs e) x
      tree_rank = ap₂ (λ k n. rank_on k n x) (sym told_narrow.0) told_narrow.1

    -- a board that shares
    module _ (high : sharing_mark ≤ board) (low : board < wide_mark) (x : ℕ) where
      told_shares : (lent_kind e ≡ Sharing) × (board ≡ sharing_mark + lent_inputs e)
      told_shares = number_shares (lent_kind e) (lent_inputs e) board number lent.most high low

      inputs : board - sharing_mark ≡ lent_inputs e
      inputs = omega (arith, told_shares.1)

      pub sharing_asked : OneWord (lent_inputs e) x → Asked (Tops e) max_shared_inputs (board - sharing_mark) x
      sharing_asked h =
          let few : lent_inputs e ≤ max_shared_inputs = subst (λ k. lent_inputs e ≤ most_inputs k) told_shares.0 lent.most in
          subst (λ n. Asked (Tops e) max_shared_inputs n x) (sym inputs) (sharing_table told_shares.0, lent.least, few, h.0, h.1, h.2)

      pub sharing_rank : rank_on Sharing (board - sharing_mark) x ≡ rank_on (lent_kind e) (lent_inputs e) x
      sharing_rank = ap₂ (λ k n. rank_on k n x) (sym told_shares.0) inputs

    -- either has few inputs
    pub narrow_inputs_lem : board < wide_mark → lent_inputs e ≤ narrow_inputs
    narrow_inputs_lem low =
        ⊎_elim (λ t. (told_narrow (ltb→lt board sharing_mark t) 0).2)
        (λ t.
        let s = told_shares (nltb→le board sharing_mark t) low 0 in
        subst (λ k. lent_inputs e ≤ most_inputs k) s.0 lent.most)
        (decide (ltb board sharing_mark))

    -- a wide board of trees
    module _ (high : wide_mark ≤ board) where
      told_wide : (lent_kind e ≡ Tree) × (board ≡ wide_mark + lent_inputs e) × (narrow_inputs < lent_inputs e)
      told_wide = number_wide (lent_kind e) (lent_inputs e) board number lent.most high

      wide_inputs : board - wide_mark ≡ lent_inputs e
      wide_inputs = omega (arith, told_wide.1)

      module _ (words : List ℕ) (j : ℕ) {a b c d : ℕ} (wa : a ≡ get_or words (word_place 0 j) 0) (wb : b ≡ get_or words (word_place 1 j) 0)
          (wc : c ≡ get_or words (word_place 2 j) 0) (wd : d ≡ get_or words (word_place 3 j) 0) where
        four_zeros : four_masks (zeros_in a) (zeros_in b) (zeros_in c) (zeros_in d) ≡ zeros_of words j
        four_zeros = wide_zeros words j wa wb wc wd

        four_ones : four_masks (ones_in a) (ones_in b) (ones_in c) (ones_in d) ≡ ones_of words j
        four_ones = wide_ones words j wa wb wc wd

        abbrev WideAsked : (n z o : ℕ) → Type 0
        WideAsked n z o = Blocks e × (narrow_inputs < n) × (n ≤ max_inputs) × (z < 2 ^ (2 ^ n)) × (o < 2 ^ (2 ^ n)) × Covered n z o

        pub wide_asked : Covers (lent_inputs e) words j
            → WideAsked (board - wide_mark) (four_masks (zeros_in a) (zeros_in b) (zeros_in c) (zeros_in d)) (four_masks (ones_in a) (ones_in b) (ones_in c) (ones_in d))
        wide_asked h =
            rw (wide_inputs, four_zeros, four_ones) (tree_table told_wide.0, told_wide.2, lent_few, h.zeros_fit, h.ones_fit, h.covered)

        pub wide_table : {t : ℕ}
            → t ≡ pick_of (cells (board - wide_mark)) (board - wide_mark) (four_masks (zeros_in a) (zeros_in b) (zeros_in c) (zeros_in d)) (four_masks (ones_in a) (ones_in b) (ones_in c) (ones_in d))
            → t ≡ pick_on e words j
        unfolding pick_between
        wide_table {t} h =
            h ∙ ap₂ (λ z o. pick_of (cells (board - wide_mark)) (board - wide_mark) z o) four_zeros four_ones
            ∙ ap₂ (λ k n. pick_of (count_of k n) n (zeros_of words j) (ones_of words j)) (sym told_wide.0) wide_inputs

        pub wide_cells : {t k : ℕ} → t ≡ pick_on e words j → k ≡ cells (board - wide_mark) t → k ≡ cells_on e words j
        wide_cells et ek = ek ∙ ap (cells (board - wide_mark)) et ∙ ap₂ (λ kind n. count_of kind n (pick_on e words j)) (sym told_wide.0) wide_inputs

        -- its cells with the table on the first section
        pub wide_side : {t k : ℕ} → t ≡ pick_on e words j → k ≡ cells_on e words j → k * narrow_space + t % narrow_space ≡ side_rank e words j
        unfolding section
        wide_side et ek =
            let first : pick_on e words j / 2 ^ (narrow_patterns * 0) ≡ pick_on e words j = omega arith in
            ap₂ (λ k t. k * narrow_space + t % narrow_space) ek (et ∙ sym first)

-- a board whose masks stand in one word
module _ (e : List ℕ) (lent : Lent e) (words : List ℕ) (j x : ℕ) (few : lent_inputs e ≤ narrow_inputs) (h : Covers (lent_inputs e) words j)
    (ex : x ≡ get_or words (word_place 0 j) 0) where
  one_zeros : zeros_in x ≡ zeros_of words j
  one_zeros = ap zeros_in ex ∙ sym (narrow_zeros words j (lent_inputs e) few h.zeros_fit)

  one_ones : ones_in x ≡ ones_of words j
  one_ones = ap ones_in ex ∙ sym (narrow_ones words j (lent_inputs e) few h.ones_fit)

  pub one_word : OneWord (lent_inputs e) x
  one_word = rw (one_zeros, one_ones) (h.zeros_fit, h.ones_fit, h.covered)

  abbrev found : ℕ
  found = pick_of (count_of (lent_kind e) (lent_inputs e)) (lent_inputs e) (zeros_in x) (ones_in x)

  found_is : found ≡ pick_on e words j
  unfolding pick_between
  found_is = ap₂ (pick_of (count_of (lent_kind e) (lent_inputs e)) (lent_inputs e)) one_zeros one_ones

  small : found < narrow_space
  small =
      lt_of_lt_of_le (pick_lt (count_of (lent_kind e) (lent_inputs e)) (lent_inputs e) (zeros_in x) (ones_in x) one_word.2)
      (pow_mono {i = 2 ^ lent_inputs e} {j = narrow_patterns} (pow_mono {i = lent_inputs e} {j = narrow_inputs} few))

  -- its rank has the whole table, which is the first section
  pub rank_side : {r : ℕ} → r ≡ rank_on (lent_kind e) (lent_inputs e) x → r ≡ side_rank e words j
  unfolding rank section
  rank_side er =
      let whole : found / 2 ^ (narrow_patterns * 0) % narrow_space ≡ found = omega (arith, small) in
      er ∙ ap (λ y. count_of (lent_kind e) (lent_inputs e) found * narrow_space + y) (sym whole)
      ∙ ap (λ y. count_of (lent_kind e) (lent_inputs e) y * narrow_space + y / 2 ^ (narrow_patterns * 0) % narrow_space) found_is
