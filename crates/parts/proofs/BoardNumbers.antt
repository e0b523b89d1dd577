-- Laws of the number of a board.
use Prim.Native.Nat.{ℕ, ◌+◌, ◌*◌, ◌^◌, ◌<◌, ◌≤◌}
use mathlib.Core.Path.{◌≡◌, refl, sym, ap, ap₂, subst, ◌∙◌}
use mathlib.Core.Logic.{◌⊎◌, inl, inr, ⊎_elim}
use mathlib.Core.List.{List}
use native.Mathlib.Omega.{arith}
use lib.Dec.{leb, leb→le, nleb→lt}
use lib.ListN.{length, get_or, set, length-set}
use lib.Seq.{get_or-set_same, get_or-set_other}
use borrow.Author.Tests.{lt-ltb, le-ltb, le-leb, lt-leb}
use Rattle.base.proofs.Tests.{decide}
use Rattle.nodes.specs.declared.BoardKind.{BoardKind}
use Rattle.nodes.specs.declared.BoardKind.TheVariants.{Tree, Sharing}
use Rattle.nodes.specs.Counts.{most_inputs}
use Rattle.table.specs.Inner.Pairs.{block_space, narrow_inputs}
use Rattle.table.specs.Inner.Blocks.{entries, BestBlocks}
use Rattle.parts.specs.Inner.Boards.{sharing_mark, wide_mark, board_number, kind_in, board_inputs, board_in, lent_kind, lent_inputs, lent_wires, lent_count, LentFor, Lent}

-- the kind by the marks
below_kind : (board : ℕ) → board < sharing_mark → kind_in board ≡ Tree
unfolding kind_in
below_kind board l = rw (lt-ltb board sharing_mark l)

between_kind : (board : ℕ) → sharing_mark ≤ board → board < wide_mark → kind_in board ≡ Sharing
unfolding kind_in
between_kind board l h = rw (le-ltb board sharing_mark l, lt-ltb board wide_mark h)

above_kind : (board : ℕ) → wide_mark ≤ board → kind_in board ≡ Tree
unfolding kind_in
above_kind board l = rw (le-ltb board sharing_mark (omega arith), le-ltb board wide_mark l)

-- the number of a board of trees, by its inputs
pub narrow_number : (n : ℕ) → n ≤ narrow_inputs → board_number Tree n ≡ n
unfolding board_number
narrow_number n l = rw (le-leb n narrow_inputs l)

pub wide_number : (n : ℕ) → narrow_inputs < n → board_number Tree n ≡ wide_mark + n
unfolding board_number
wide_number n l = rw (lt-leb n narrow_inputs l)

narrow_or_wide : (n : ℕ) → (n ≤ narrow_inputs) ⊎ (narrow_inputs < n)
narrow_or_wide n = ⊎_elim (λ t. inl (leb→le n narrow_inputs t)) (λ t. inr (nleb→lt n narrow_inputs t)) (decide (leb n narrow_inputs))

-- a number tells its board and inputs
pub number_kind : (kind : BoardKind) (n : ℕ) → n ≤ most_inputs kind → kind_in (board_number kind n) ≡ kind
unfolding board_number
number_kind Tree n h =
    ⊎_elim
    (λ l. ap kind_in (narrow_number n l) ∙ below_kind n (omega arith))
    (λ l. ap kind_in (wide_number n l) ∙ above_kind (wide_mark + n) (omega arith))
    (narrow_or_wide n)
number_kind Sharing n h = between_kind (board_number Sharing n) (omega arith) (omega arith)

pub number_inputs : (kind : BoardKind) (n : ℕ) → n ≤ most_inputs kind → board_inputs (board_number kind n) ≡ n
unfolding board_number board_inputs
number_inputs Tree n h =
    ⊎_elim (λ l. omega (arith, narrow_number n l)) (λ l. omega (arith, wide_number n l)) (narrow_or_wide n)
number_inputs Sharing n h = omega arith

-- the numbers that are marked wide are those of trees with more inputs than are narrow, and only they; below stand the other board's, and the other trees'
pub number_wide : (kind : BoardKind) (n board : ℕ) → board ≡ board_number kind n → n ≤ most_inputs kind → wide_mark ≤ board
    → (kind ≡ Tree) × (board ≡ wide_mark + n) × (narrow_inputs < n)
unfolding board_number
number_wide Tree n board e h l =
    ⊎_elim (λ g. absurd (omega (arith, e, narrow_number n g))) (λ g. (refl, e ∙ wide_number n g, g)) (narrow_or_wide n)
number_wide Sharing n board e h l = absurd (omega arith)

pub number_shares : (kind : BoardKind) (n board : ℕ) → board ≡ board_number kind n → n ≤ most_inputs kind → sharing_mark ≤ board → board < wide_mark
    → (kind ≡ Sharing) × (board ≡ sharing_mark + n)
unfolding board_number
number_shares Tree n board e h l u =
    ⊎_elim (λ g. absurd (omega (arith, e, narrow_number n g))) (λ g. absurd (omega (arith, e, wide_number n g))) (narrow_or_wide n)
number_shares Sharing n board e h l u = (refl, e)

pub number_narrow : (kind : BoardKind) (n board : ℕ) → board ≡ board_number kind n → n ≤ most_inputs kind → board < sharing_mark
    → (kind ≡ Tree) × (board ≡ n) × (n ≤ narrow_inputs)
unfolding board_number
number_narrow Tree n board e h l =
    ⊎_elim (λ g. (refl, e ∙ narrow_number n g, g)) (λ g. absurd (omega (arith, e, wide_number n g))) (narrow_or_wide n)
number_narrow Sharing n board e h l = absurd (omega arith)

-- every number is a byte
pub number_small : (kind : BoardKind) (n : ℕ) → n ≤ most_inputs kind → board_number kind n < 2 * wide_mark
unfolding board_number
number_small Tree n h = ⊎_elim (λ l. omega (arith, narrow_number n l)) (λ l. omega (arith, wide_number n l)) (narrow_or_wide n)
number_small Sharing n h = omega arith

-- a table that has a board's number is lent for that board
module _ (kind : BoardKind) (n : ℕ) (most : n ≤ most_inputs kind) (e : List ℕ) (at : board_in e ≡ board_number kind n) where
  pub lent_kind_lem : lent_kind e ≡ kind
  lent_kind_lem = ap kind_in at ∙ number_kind kind n most

  pub lent_inputs_lem : lent_inputs e ≡ n
  lent_inputs_lem = ap board_inputs at ∙ number_inputs kind n most

  pub lent : 1 ≤ n → LentFor kind e → lent_count e ≡ 2 ^ n → Lent e
  lent least t c =
      record {
        number = at ∙ sym (ap₂ board_number lent_kind_lem lent_inputs_lem);
        least = rw lent_inputs_lem least;
        most = rw (lent_kind_lem, lent_inputs_lem) most;
        table = subst (λ k. LentFor k e) (sym lent_kind_lem) t;
        count = c ∙ ap (λ k. 2 ^ k) (sym lent_inputs_lem);
      }

-- the numbers of the board, of the wires and of the patterns are put behind the entries, and these stay
module _ (e : List ℕ) (board wires count : ℕ) where
  abbrev pub marked : List ℕ
  marked = set (set (set e entries board) (entries + 1) wires) (entries + 2) count

  behind : (k : ℕ) → (k ≡ entries + 2 → ⊥) → get_or marked k 0 ≡ get_or (set (set e entries board) (entries + 1) wires) k 0
  behind k ne = get_or-set_other (set (set e entries board) (entries + 1) wires) (entries + 2) k count 0 ne

  pub marked_board : entries < length e → board_in marked ≡ board
  unfolding board_in
  marked_board l =
      behind entries (λ d. omega arith) ∙ get_or-set_other (set e entries board) (entries + 1) entries wires 0 (λ d. omega arith) ∙ get_or-set_same e entries board 0 l

  pub marked_wires : entries + 1 < length e → lent_wires marked ≡ wires
  unfolding lent_wires
  marked_wires l = behind (entries + 1) (λ d. omega arith) ∙ get_or-set_same (set e entries board) (entries + 1) wires 0 (rw (length-set e entries board) l)

  pub marked_count : entries + 2 < length e → lent_count marked ≡ count
  unfolding lent_count
  marked_count l =
      get_or-set_same (set (set e entries board) (entries + 1) wires) (entries + 2) count 0 (rw (length-set (set e entries board) (entries + 1) wires, length-set e entries board) l)

  marked_blocks : (written key : ℕ → ℕ) → BestBlocks written key e → BestBlocks written key marked
  marked_blocks written key b =
      record {
        entry = λ zeros ones lz lo.
            let k = zeros * block_space + ones in
            let l : k < entries = omega arith in
            behind k (λ d. omega arith) ∙ get_or-set_other (set e entries board) (entries + 1) k wires 0 (λ d. omega arith) ∙ get_or-set_other e entries k board 0 (λ d. omega arith)
            ∙ b.entry zeros ones lz lo;
      }

  pub marked_entries : (kind : BoardKind) → LentFor kind e → LentFor kind marked
  marked_entries Tree b = marked_blocks _ _ b
  marked_entries Sharing b = marked_blocks _ _ b
