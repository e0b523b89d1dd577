-- The picks of the marked wires made again, one after the other: what is so while some are left.
use Prim.Native.Nat.{ℕ, ◌+◌, ◌*◌, ◌/◌, ◌%◌, ◌-◌, ◌^◌, ◌<◌, ◌≤◌}
use mathlib.Core.Path.{◌≡◌, refl, sym, ap, ap₂, subst, ◌∙◌}
use mathlib.Core.Logic.{⊎_elim}
use mathlib.Core.Bool.{cond}
use mathlib.Core.List.{List}
use native.Mathlib.Omega.{arith}
use native.Mathlib.Nat.{le_refl, le_trans, lt_of_lt_of_le, div-eq_of_lt, div-div-eq-div-mul, mod-eq_of_lt, mod-lt}
use lib.Arith.{digits_div, digits_mod}
use lib.Dec.{T, T_not, eqb, eqb→eq, ltb, ltb→lt, nltb→le}
use lib.Pow.{pow_mono, pow_pos}
use lib.ListN.{get_or}
use Rattle.base.proofs.Tests.{cond_has, decide, eq_test, eqb_yes, eqb_not, test_yes, test_no}
use Rattle.base.proofs.Lowest.{lowest_is}
use Rattle.sheet.specs.Limits.{max_inputs, max_wires}
use Rattle.table.specs.Bits.{sum}
use Rattle.table.proofs.Bits.{sum_cong}
use Rattle.table.proofs.Sums.{sum_le, sum_bound}
use Rattle.table.specs.Inner.Ranks.{narrow_space}
use Rattle.relation.specs.Inner.Side.{section}
use Rattle.relation.proofs.Side.{section_lt}
use Rattle.lanes.specs.Inner.Lanes.{lane_bits, lane_space, lanes_space, lane_of, lanes_of, put_lane, first_wire, LanesBelow}
use Rattle.lanes.proofs.Lanes.{lane_lt, lane_lanes, lanes_cong, lanes_back, put_lane_at, put_lane_lt, put_lane_below}
use Rattle.lanes.proofs.First.{first_lt}
use Rattle.parts.specs.Inner.Boards.{lent_kind, lent_inputs, lent_wide, Lent}
use Rattle.parts.specs.Inner.Cells.{cell_space, byte_in, put_cells, packed, cells_sum}
use Rattle.parts.specs.Inner.Picks.{pick_on, cells_on, side_rank}
use Rattle.parts.specs.declared.states.Running.{Running}
use Rattle.parts.specs.Inner.States.{rest_count, SameBut, PutRest}
use Rattle.parts.proofs.CellBytes.{packed_lt, packed_byte, packed_put}
use Rattle.parts.proofs.Keeping.{count_few, count_byte}
use Rattle.parts.proofs.LentPicks.{lent_few}
use Rattle.visits.proofs.StateChanges.{but_trans}
use Rattle.std.specs.Prelude.{Some, None}
use Rattle.halves.specs.Inner.Remade.{marked, FewCells, cells_again, side_again, Kept, Remade}

-- cells are what their bytes make: digit by digit
digit : (x : ℕ) → x % cell_space + x / cell_space * cell_space ≡ x
digit x = omega arith

packed_back : (c : ℕ) → c < cell_space ^ max_wires → packed (byte_in c) ≡ c
unfolding packed byte_in sum
packed_back c l =
    let b : c / cell_space / cell_space ≡ c / cell_space ^ 2 = div-div-eq-div-mul c cell_space cell_space in
    let d : c / cell_space ^ 2 / cell_space ≡ c / cell_space ^ 3 = div-div-eq-div-mul c (cell_space ^ 2) cell_space in
    let top : c / cell_space ^ 3 % cell_space ≡ c / cell_space ^ 3 = mod-eq_of_lt (omega arith) in
    let one : c / cell_space ^ 0 % cell_space ≡ c % cell_space = omega arith in
    let d1 : c / cell_space % cell_space + c / cell_space ^ 2 * cell_space ≡ c / cell_space = ap (λ x. c / cell_space % cell_space + x * cell_space) (sym b) ∙ digit (c / cell_space) in
    let d2 : c / cell_space ^ 2 % cell_space + c / cell_space ^ 3 * cell_space ≡ c / cell_space ^ 2 = ap (λ x. c / cell_space ^ 2 % cell_space + x * cell_space) (sym d) ∙ digit (c / cell_space ^ 2) in
    join (c / cell_space ^ 0 % cell_space) (c / cell_space % cell_space) (c / cell_space ^ 2 % cell_space) (c / cell_space ^ 3 % cell_space) c (c / cell_space) (c / cell_space ^ 2) (c / cell_space ^ 3)
    (ap (λ x. x + c / cell_space * cell_space) one ∙ digit c) d1 d2 top
  where
    join : (w x y z c a b d : ℕ) → w + a * cell_space ≡ c → x + b * cell_space ≡ a → y + d * cell_space ≡ b → z ≡ d
        → 0 + w * cell_space ^ 0 + x * cell_space ^ 1 + y * cell_space ^ 2 + z * cell_space ^ 3 ≡ c
    join w x y z c a b d e0 e1 e2 e3 = omega arith

byte_lt : (c j : ℕ) → byte_in c j < cell_space
unfolding byte_in
byte_lt c j = mod-lt (c / cell_space ^ j) (omega arith)

-- past the last wire a number has no lane
lane_past : (x i : ℕ) → x < lanes_space → max_wires ≤ i → lane_of x i ≡ 0
unfolding lane_of
lane_past x i lx li =
    let big : lanes_space ≤ 2 ^ (lane_bits * i) = pow_mono {i = lane_bits * max_wires} {j = lane_bits * i} (omega arith) in
    ap (λ y. y % lane_space) (div-eq_of_lt (lt_of_lt_of_le lx big))

pub lane_zero : (j : ℕ) → lane_of 0 j ≡ 0
unfolding lane_of
lane_zero j = ap (λ y. y % lane_space) (div-eq_of_lt (pow_pos (lane_bits * j)))

module _ (e words : List ℕ) (wires tables cells : ℕ) (before : Running) where
  -- wire j's table on section q, and its cells, while the wires of `left` are not made yet
  abbrev side_now : (left side q j : ℕ) → ℕ
  side_now left side q j = cond (marked left j) (lane_of side j) (side_again e words wires side q j)

  abbrev cells_now : (left j : ℕ) → ℕ
  cells_now left j = cond (marked left j) (byte_in cells j) (cells_again e words wires cells j)

  pub record Partly (state : Running) (left low all : ℕ) : Type 0 where
    pub but : SameBut before state
    pub bits : LanesBelow 2 left
    pub within : left < lanes_space
    pub among : (j : ℕ) → j < max_wires → T (marked left j) → T (marked wires j)
    pub sides : low ≡ lanes_of (side_now left tables 0)
    pub rest : (i : ℕ) → i < rest_count → get_or state.rest i 0 ≡ cond (lent_wide e) (lanes_of (side_now left (get_or before.rest i 0) (i + 1))) (get_or before.rest i 0)
    pub counts : all ≡ packed (cells_now left)

  side_small : (left side q j : ℕ) → side_now left side q j < lane_space
  side_small left side q j =
      cond_has (λ x. x < lane_space) (marked left j) (λ _. lane_lt side j)
      (λ _. cond_has (λ x. x < lane_space) (marked wires j) (λ _. section_lt (pick_on e words j) q) (λ _. lane_lt side j))

  -- at the start nothing is made again
  side_first : (side q j : ℕ) → lane_of side j ≡ side_now wires side q j
  side_first side q j = cond_has (λ x. lane_of side j ≡ x) (marked wires j) (λ _. refl) (λ t. sym (ap (λ y. cond y (section (pick_on e words j) q) (lane_of side j)) (test_no (marked wires j) t)))

  cells_first : (j : ℕ) → byte_in cells j ≡ cells_now wires j
  cells_first j = cond_has (λ x. byte_in cells j ≡ x) (marked wires j) (λ _. refl) (λ t. sym (ap (λ y. cond y (cells_on e words j) (byte_in cells j)) (test_no (marked wires j) t)))

  pub none_yet : LanesBelow 2 wires → wires < lanes_space → tables < lanes_space → FewCells cells → ((i : ℕ) → i < rest_count → get_or before.rest i 0 < lanes_space)
      → Partly before wires tables cells
  unfolding packed
  none_yet bits within lt few fit =
      record {
        but = record { is = refl };
        bits = bits;
        within = within;
        among = λ j _ t. t;
        sides = sym (lanes_back tables lt) ∙ lanes_cong (lane_of tables) (side_now wires tables 0) (λ j _. side_first tables 0 j);
        rest = λ i li.
            let x = get_or before.rest i 0 in
            let q = i + 1 in
            cond_has (λ y. x ≡ y) (lent_wide e) (λ _. sym (lanes_back x (fit i li)) ∙ lanes_cong (lane_of x) (side_now wires x q) (λ j _. side_first x q j)) (λ _. refl);
        counts = sym (packed_back cells few.0)
            ∙ sum_cong max_wires (λ j. byte_in cells j * cell_space ^ j) (λ j. cells_now wires j * cell_space ^ j) (λ j _. ap (λ y. y * cell_space ^ j) (cells_first j));
      }

  -- the cells are few
  module _ (lent : Lent e) (few : FewCells cells) where
    pub cells_few : (j : ℕ) → cells_on e words j < 2 ^ max_inputs
    cells_few j = count_few (lent_kind e) (lent_inputs e) (pick_on e words j) (lent_few e lent)

    -- as they come in the number of a pick
    pub found_byte : (j : ℕ) {r : ℕ} → r ≡ side_rank e words j → r / narrow_space < cell_space
    found_byte j er =
        rw (ap (λ y. y / narrow_space) er ∙ digits_div (cells_on e words j) (section_lt (pick_on e words j) 0))
        (count_byte (lent_kind e) (lent_inputs e) (pick_on e words j) (lent_few e lent))

    now_few : (left j : ℕ) → j < max_wires → cells_now left j < 2 ^ max_inputs
    now_few left j lj =
        cond_has (λ x. x < 2 ^ max_inputs) (marked left j) (λ _. few.1 j lj) (λ _. cond_has (λ x. x < 2 ^ max_inputs) (marked wires j) (λ _. cells_few j) (λ _. few.1 j lj))

    now_byte : (left j : ℕ) → cells_now left j < cell_space
    now_byte left j =
        cond_has (λ x. x < cell_space) (marked left j) (λ _. byte_lt cells j)
        (λ _. cond_has (λ x. x < cell_space) (marked wires j) (λ _. count_byte (lent_kind e) (lent_inputs e) (pick_on e words j) (lent_few e lent)) (λ _. byte_lt cells j))

    -- all cells together
    now_sum : (left : ℕ) → cells_sum (packed (cells_now left)) ≡ sum max_wires (cells_now left)
    unfolding cells_sum
    now_sum left = sum_cong max_wires (byte_in (packed (cells_now left))) (cells_now left) (packed_byte (cells_now left) (now_byte left))

    pub now_fit : {state : Running} {left low all : ℕ} → Partly state left low all → (all < cell_space ^ max_wires) × (cells_sum all < cell_space)
    now_fit {left = left} h =
        let s = sum_bound max_wires (2 ^ max_inputs - 1) (cells_now left) (λ j lj. omega (arith, now_few left j lj)) in
        (rw h.counts (packed_lt (cells_now left) (now_byte left)), rw h.counts (omega (arith, s, now_sum left)))

    -- the first wire that is left is made again
    module _ {state : Running} {left low all : ℕ} (h : Partly state left low all) (some : 0 < left) where
      abbrev j : ℕ
      j = first_wire left

      pub wire_lt : j < max_wires
      wire_lt = first_lt left h.within h.bits some

      is_left : T (marked left j)
      is_left = lowest_is max_wires (λ i. eqb (lane_of left i) 1) wire_lt

      abbrev next : ℕ
      next = put_lane left j 0

      -- it is left no more, and every other as before
      now_made : lane_of next j ≡ 0
      now_made = put_lane_at left j 0 j (omega arith) wire_lt ∙ eqb_yes j j 0 (lane_of left j) refl

      as_before : (i : ℕ) → (i ≡ j → ⊥) → lane_of next i ≡ lane_of left i
      as_before i ne =
          ⊎_elim (λ t. put_lane_at left j 0 i (omega arith) (ltb→lt i max_wires t) ∙ eqb_not i j 0 (lane_of left i) ne)
          (λ t. let l = nltb→le i max_wires t in lane_past next i (put_lane_lt left j 0 (omega arith)) l ∙ sym (lane_past left i h.within l))
          (decide (ltb i max_wires))

      side_made : (side q : ℕ) → section (pick_on e words j) q ≡ side_now next side q j
      side_made side q =
          sym (ap (λ y. cond (eqb y 1) (lane_of side j) (side_again e words wires side q j)) now_made
          ∙ ap (λ y. cond y (section (pick_on e words j) q) (lane_of side j)) (test_yes (marked wires j) (h.among j wire_lt is_left)))

      cells_made : cells_now next j ≡ cells_on e words j
      cells_made =
          ap (λ y. cond (eqb y 1) (byte_in cells j) (cells_again e words wires cells j)) now_made
          ∙ ap (λ y. cond y (cells_on e words j) (byte_in cells j)) (test_yes (marked wires j) (h.among j wire_lt is_left))

      -- a number of lanes with this wire's put in
      lane_made : (side q : ℕ) → put_lane (lanes_of (side_now left side q)) j (section (pick_on e words j) q) ≡ lanes_of (side_now next side q)
      unfolding put_lane
      lane_made side q =
          lanes_cong (λ i. cond (eqb i j) (section (pick_on e words j) q) (lane_of (lanes_of (side_now left side q)) i)) (side_now next side q)
          (λ i li.
          ⊎_elim
          (λ t.
          let d = eqb→eq i j t in
          eqb_yes i j (section (pick_on e words j) q) (lane_of (lanes_of (side_now left side q)) i) d ∙ side_made side q ∙ ap (side_now next side q) (sym d))
          (λ t.
          let ne : i ≡ j → ⊥ = λ d. T_not (eqb i j) t (eq_test d) in
          eqb_not i j (section (pick_on e words j) q) (lane_of (lanes_of (side_now left side q)) i) ne ∙ lane_lanes (side_now left side q) (λ k _. side_small left side q k) i li
          ∙ ap (λ y. cond (eqb y 1) (lane_of side i) (side_again e words wires side q i)) (sym (as_before i ne)))
          (decide (eqb i j)))

      -- the cells in the code's number
      found_cells : {r : ℕ} → r ≡ side_rank e words j → r / narrow_space ≡ cells_on e words j
      found_cells er = ap (λ y. y / narrow_space) er ∙ digits_div (cells_on e words j) (section_lt (pick_on e words j) 0)

      found_side : {r : ℕ} → r ≡ side_rank e words j → r % narrow_space ≡ section (pick_on e words j) 0
      found_side er = ap (λ y. y % narrow_space) er ∙ digits_mod (cells_on e words j) (section_lt (pick_on e words j) 0)

      pub one_more : {after : Running} {r low' all' next' : ℕ} → r ≡ side_rank e words j → PutRest (lent_wide e) j (pick_on e words j) state after
          → low' ≡ put_lane low j (r % narrow_space) → all' ≡ put_cells all j (r / narrow_space) → next' ≡ next → Partly after next' low' all'
      one_more {after} er put el ea en =
          rw en
          record {
            but = but_trans h.but put.same;
            bits = put_lane_below 2 left j 0 (omega arith) (omega arith) h.bits;
            within = put_lane_lt left j 0 (omega arith);
            among = λ i li t.
                h.among i li
                (⊎_elim
                (λ z. absurd (none (subst (λ k. T (eqb (lane_of next k) 1)) (eqb→eq i j z) t)))
                (λ z. subst (λ y. T (eqb y 1)) (as_before i (λ d. T_not (eqb i j) z (eq_test d))) t)
                (decide (eqb i j)));
            sides = el ∙ ap₂ (λ x y. put_lane x j y) h.sides (found_side er) ∙ lane_made tables 0;
            rest = λ i li.
                let x = get_or before.rest i 0 in
                let q = i + 1 in
                put.rest i li
                ∙ ⊎_elim
                (λ t.
                ap (λ y. cond y (put_lane (get_or state.rest i 0) j (section (pick_on e words j) q)) (get_or state.rest i 0)) (test_yes (lent_wide e) t)
                ∙ ap (λ y. put_lane y j (section (pick_on e words j) q)) (h.rest i li ∙ ap (λ y. cond y (lanes_of (side_now left x q)) x) (test_yes (lent_wide e) t))
                ∙ lane_made x q ∙ sym (ap (λ y. cond y (lanes_of (side_now next x q)) x) (test_yes (lent_wide e) t)))
                (λ t.
                ap (λ y. cond y (put_lane (get_or state.rest i 0) j (section (pick_on e words j) q)) (get_or state.rest i 0)) (test_no (lent_wide e) t)
                ∙ h.rest i li ∙ ap (λ y. cond y (lanes_of (side_now left x q)) x) (test_no (lent_wide e) t)
                ∙ sym (ap (λ y. cond y (lanes_of (side_now next x q)) x) (test_no (lent_wide e) t)))
                (decide (lent_wide e));
            counts = ea ∙ ap₂ (λ x y. put_cells x j y) h.counts (found_cells er)
                ∙ packed_put (cells_now left) (now_byte left) (cells_now next) j (cells_on e words j) wire_lt cells_made
                (λ i ne. ap (λ y. cond (eqb y 1) (byte_in cells i) (cells_again e words wires cells i)) (sym (as_before i ne)));
          }
        where
          none : T (eqb (lane_of next j) 1) → ⊥
          none t = let z : ◌≡◌ {A = ℕ} (lane_of next j) 1 = eqb→eq (lane_of next j) 1 t in absurd (omega (arith, z, now_made))

      -- the same by the numbers that the code has, of the wire that it found
      pub wire_made : {i : ℕ} → i ≡ j → {after : Running} {r side few low' all' next' : ℕ} → r ≡ side_rank e words i → PutRest (lent_wide e) i (pick_on e words i) state after
          → side ≡ r % narrow_space → low' ≡ put_lane low i side → few ≡ r / narrow_space → all' ≡ put_cells all i few → next' ≡ next → Partly after next' low' all'
      wire_made ei {after} er put es el ef ea en =
          one_more (er ∙ ap (side_rank e words) ei) (subst (λ k. PutRest (lent_wide e) k (pick_on e words k) state after) ei put) (el ∙ ap₂ (put_lane low) ei es)
          (ea ∙ ap₂ (put_cells all) ei ef) en

    -- a part whose cells are no longer below the best is not kept: with more wires made again it would have no fewer
    pub not_kept : {state : Running} {left low all : ℕ} → Partly state left low all → before.cells ≤ cells_sum all → Remade e words wires tables cells before state None
    not_kept {state} {left} h over =
        record {
          same = h.but;
          narrow = λ t i li. h.rest i li ∙ ap (λ y. cond y (lanes_of (side_now left (get_or before.rest i 0) (i + 1))) (get_or before.rest i 0)) (test_no (lent_wide e) t);
          told = λ more.
              le_trans over
              (rw (h.counts, now_sum left)
              (sum_le max_wires (cells_now left) (cells_again e words wires cells)
              (λ j lj. cond_has (λ x. x ≤ cells_again e words wires cells j) (marked left j)
              (λ t. rw (test_yes (marked wires j) (h.among j lj t)) (more j lj)) (λ _. le_refl (cells_again e words wires cells j)))));
        }

    -- once none is left all are made
    kept : {state : Running} {left low all : ℕ} → Partly state left low all → left ≡ 0 → cells_sum all < before.cells
        → Kept e words wires tables cells before state record { low = low; cells = all }
    unfolding packed
    kept {state} {left} {low} {all} h el under =
        record {
          low = h.sides ∙ lanes_cong (side_now left tables 0) (side_again e words wires tables 0) (λ j _. none_left (lane_of tables j) (side_again e words wires tables 0 j) j);
          rest = λ i li.
              let x = get_or before.rest i 0 in
              let q = i + 1 in
              h.rest i li
              ∙ ap (λ y. cond (lent_wide e) y x) (lanes_cong (side_now left x q) (side_again e words wires x q) (λ j _. none_left (lane_of x j) (side_again e words wires x q j) j));
          counts = h.counts
              ∙ sum_cong max_wires (λ j. cells_now left j * cell_space ^ j) (λ j. cells_again e words wires cells j * cell_space ^ j)
              (λ j _. ap (λ y. y * cell_space ^ j) (none_left (byte_in cells j) (cells_again e words wires cells j) j));
          under = under;
        }
      where
        none_left : (x y j : ℕ) → cond (marked left j) x y ≡ y
        none_left x y j = ap (λ z. cond (eqb (lane_of z j) 1) x y) el ∙ ap (λ z. cond (eqb z 1) x y) (lane_zero j)

    pub all_made : {state : Running} {left low all : ℕ} → Partly state left low all → left ≡ 0 → cells_sum all < before.cells
        → Remade e words wires tables cells before state (Some record { low = low; cells = all })
    all_made {state} {left} {low} {all} h el under =
        record {
          same = h.but;
          narrow = λ t i li. h.rest i li ∙ ap (λ y. cond y (lanes_of (side_now left (get_or before.rest i 0) (i + 1))) (get_or before.rest i 0)) (test_no (lent_wide e) t);
          told = kept h el under;
        }
