-- One part of a split at an open pair: what is kept of it, as the code makes it from what was kept.
use Prim.Native.Nat.{ℕ, zero, suc, ◌/◌, ◌%◌, ◌^◌, ◌<◌, ◌≤◌}
use mathlib.Core.Path.{◌≡◌, sym, ap, subst, ◌∙◌}
use mathlib.Core.Logic.{⊎_elim}
use mathlib.Core.Bool.{cond}
use mathlib.Core.List.{List}
use mathlib.Core.Option.{some}
use native.Mathlib.Omega.{arith}
use native.Mathlib.Nat.{lt_of_lt_of_le}
use lib.Dec.{T, T_not, eqb, eqb→eq}
use lib.ListN.{get_or}
use lib.Pow.{pow_mono}
use lib.Seq.{get_or-set_same, get_or-set_other}
use Rattle.base.proofs.Tests.{cond_has, decide, eq_test}
use Rattle.sheet.specs.Limits.{max_inputs, max_wires, max_patterns, max_values}
use Rattle.sheet.specs.Inner.Sized.{Sized}
use Rattle.table.specs.Bits.{bit}
use Rattle.table.specs.Pick.{suits, least_of, or_zero}
use Rattle.table.specs.Inner.Ranks.{masked, pick_of}
use Rattle.table.specs.Inner.Pairs.{narrow_patterns}
use Rattle.table.proofs.Bits.{bit_lt, all_at, all_intro, tabulate_at, tabulate_cong}
use Rattle.table.proofs.Least.{Least, least_is}
use Rattle.table.proofs.Masks.{least_shrink, pick_some}
use Rattle.nodes.specs.declared.BoardKind.{BoardKind}
use Rattle.nodes.specs.Counts.{count_of, most_inputs}
use Rattle.relation.specs.Tests.{of_sets, keep, occurs, is_open}
use Rattle.relation.specs.Inner.Source.{fits}
use Rattle.relation.specs.Inner.Members.{member, with_bit}
use Rattle.relation.specs.Inner.Masks.{mask_of}
use Rattle.relation.specs.Inner.Narrowed.{narrowed}
use Rattle.relation.proofs.Decide.{free_both}
use Rattle.relation.proofs.Splits.{keep_part, keep_well_defined, occurs_part}
use Rattle.relation.proofs.Members.{member_sets}
use Rattle.relation.proofs.Narrowing.{narrow_keep, narrowed_narrow}
use Rattle.relation.proofs.AllWires.{occurs_all_wires}
use Rattle.relation.proofs.Masks.{mask_projection}
use Rattle.parts.specs.Inner.Pairs.{cut_pair, cut_pairs}
use Rattle.table.specs.Inner.Wide.{sections}
use Rattle.parts.specs.Inner.Words.{word_count, word_place, word_of, pairs_of, row_of, with_row}
use Rattle.parts.specs.Inner.Picks.{table_of}
use Rattle.parts.specs.Inner.Parts.{PartSets}
use Rattle.parts.proofs.WordSums.{pattern_section}
use Rattle.parts.proofs.WordMasks.{pairs_word, pairs_tell}
use Rattle.parts.proofs.WordCuts.{word_cut, word_kept}
use Rattle.branch_bound.specs.Search.{pick}
use Rattle.branch_bound.specs.Boards.{board_of}
use Rattle.parts.proofs.Keeping.{few, narrow, cover, kept_least, kept_pick}

module _ (kind : BoardKind) {n m : ℕ} (sz : Sized (most_inputs kind) n m) {sets : List ℕ} (ok : PartSets n m sets) {p j b : ℕ} (lp : p < 2 ^ n) (lj : j < m)
    (free_there : T (is_open m (of_sets sets p) j)) (lb : b < 2) where
  there : p < max_patterns
  there = lt_of_lt_of_le lp (pow_mono {i = n} {j = max_inputs} (few kind sz))

  small : get_or sets p 0 < 2 ^ max_values
  small = lt_of_lt_of_le (ok.small p) (pow_mono {i = 2 ^ m} {j = max_values} (pow_mono {i = m} {j = max_wires} sz.m_most))

  pub with_keep : of_sets (narrowed sets p j b) ≡ keep (of_sets sets) p j b
  with_keep = narrow_keep sets p j b (rw ok.long there) small

  occurs_there : T (occurs m (of_sets sets p) j b)
  occurs_there = go b lb
    where
      go : (c : ℕ) → c < 2 → T (occurs m (of_sets sets p) j c)
      go zero h = (free_both m (of_sets sets p) j free_there).0
      go (suc zero) h = (free_both m (of_sets sets p) j free_there).1
      go (suc (suc c)) h = absurd (omega arith)

  pub with_sets : PartSets n m (narrowed sets p j b)
  with_sets =
      let w = narrowed_narrow n m sets p j b (narrow kind sz ok) there in
      record {
        long = w.long;
        small = w.small;
        past = w.past;
        defined = rw with_keep (keep_well_defined (of_sets sets) p j b n m ok.defined occurs_there);
      }

  abbrev pub held : ℕ
  held = with_bit (get_or sets p 0) j b

  -- the row of the pattern's section is cut, and no other
  pub with_pairs : with_row (pairs_of sets) (p / narrow_patterns) (cut_pairs (row_of (pairs_of sets) (p / narrow_patterns)) (p % narrow_patterns) held) ≡ pairs_of (narrowed sets p j b)
  unfolding with_row cut_pairs row_of pairs_of
  with_pairs =
      let s = p / narrow_patterns in
      let r = p % narrow_patterns in
      let W = narrowed sets p j b in
      let row = row_of (pairs_of sets) s in
      tabulate_cong word_count (λ k. cond (eqb (k / max_wires) s) (get_or (cut_pairs row r held) (k % max_wires) 0) (get_or (pairs_of sets) k 0))
      (λ k. word_of W (k / max_wires) (k % max_wires))
      (λ k l.
      let q = k / max_wires in
      let i = k % max_wires in
      let lq : q < sections = omega arith in
      let li : i < max_wires = omega arith in
      cond_has (λ x. x ≡ word_of W q i) (eqb q s)
      (λ t.
      let e = eqb→eq q s t in
      tabulate_at max_wires (λ w. cut_pair (get_or row w 0) r held w) i li
      ∙ ap (λ x. cut_pair x r held i) (tabulate_at max_wires (λ w. get_or (pairs_of sets) (word_place s w) 0) i li ∙ pairs_tell sets i li s (pattern_section p there))
      ∙ sym (word_cut sets p j b i there ok.long small) ∙ ap (λ x. word_of W x i) (sym e))
      (λ t. pairs_word sets k l ∙ sym (word_kept sets p j b i there ok.long small q lq (λ e. T_not (eqb q s) t (eq_test e)))))

  -- a wire's pick has no fewer cells in the part: what suits there suited before
  pub with_more_lem : (i : ℕ) → count_of kind n (table_of kind n sets i) ≤ count_of kind n (table_of kind n (narrowed sets p j b) i)
  unfolding fits suits
  with_more_lem i =
      let W = narrowed sets p j b in
      let before = kept_least kind sz ok i in
      let after = kept_least kind sz with_sets i in
      let t = pick (board_of kind n m) (of_sets W) i in
      let suited_before : T (fits n m (of_sets sets) i t) =
      all_intro (2 ^ n) (λ q. occurs m (of_sets sets q) i (bit t q))
      (λ q l. occurs_part m (of_sets W q) (of_sets sets q) i (bit t q) (λ v g. keep_part (of_sets sets) p j b q v (subst (λ R. T (R q v)) with_keep g))
      (all_at (2 ^ n) (λ q. occurs m (of_sets W q) i (bit t q)) after.1 q l)) in
      rw (kept_pick kind sz ok i, kept_pick kind sz with_sets i) (before.2 t after.0 suited_before)

  -- a pick whose bit on p still occurs still suits, and so is still the pick
  module _ (i : ℕ) (still : T (occurs max_wires (member (with_bit (get_or sets p 0) j b)) i (bit (table_of kind n sets i) p))) where
    told : (q c : ℕ) → q < 2 ^ n → c < 2 → masked (mask_of sets i 0) (mask_of sets i 1) q c ≡ occurs m (of_sets sets q) i c
    told q c l lc = mask_projection n m sets i q c sz.m_most (few kind sz) (narrow kind sz ok) l lc

    told_with : (q c : ℕ) → q < 2 ^ n → c < 2
        → masked (mask_of (narrowed sets p j b) i 0) (mask_of (narrowed sets p j b) i 1) q c ≡ occurs m (of_sets (narrowed sets p j b) q) i c
    told_with q c l lc = mask_projection n m (narrowed sets p j b) i q c sz.m_most (few kind sz) (narrow kind sz with_sets) l lc

    has_pick : least_of (count_of kind n) n (masked (mask_of sets i 0) (mask_of sets i 1)) ≡ some (table_of kind n sets i)
    unfolding table_of
    has_pick = pick_some (count_of kind n) n (mask_of sets i 0) (mask_of sets i 1) (cover kind sz ok i)

    suited : T (suits n (masked (mask_of sets i 0) (mask_of sets i 1)) (table_of kind n sets i))
    unfolding least_of
    suited =
        let fit = suits n (masked (mask_of sets i 0) (mask_of sets i 1)) in
        (subst (Least (count_of kind n) fit (2 ^ (2 ^ n))) has_pick (least_is (count_of kind n) fit (2 ^ (2 ^ n)))).1

    set_there : get_or (narrowed sets p j b) p 0 ≡ with_bit (get_or sets p 0) j b
    unfolding narrowed
    set_there = get_or-set_same sets p (with_bit (get_or sets p 0) j b) 0 (rw ok.long there)

    set_other : (q : ℕ) → (q ≡ p → ⊥) → get_or (narrowed sets p j b) q 0 ≡ get_or sets q 0
    unfolding narrowed
    set_other q ne = get_or-set_other sets p q (with_bit (get_or sets p 0) j b) 0 ne

    bit_occurs : (q : ℕ) → q < 2 ^ n → T (occurs m (of_sets (narrowed sets p j b) q) i (bit (table_of kind n sets i) q))
    unfolding suits
    bit_occurs q l =
        let t = table_of kind n sets i in
        ⊎_elim
        (λ e.
        let d = eqb→eq q p e in
        let w = with_bit (get_or sets p 0) j b in
        let lw : w < 2 ^ (2 ^ m) = subst (λ x. x < 2 ^ (2 ^ m)) set_there (with_sets.small p) in
        let f : T (occurs m (member w) i (bit t p)) = subst T (occurs_all_wires m w i (bit t p) sz.m_most lw) still in
        rw (d, member_sets (narrowed sets p j b) p, set_there) f)
        (λ e.
        let ne : q ≡ p → ⊥ = λ d. T_not (eqb q p) e (eq_test d) in
        let f : T (occurs m (of_sets sets q) i (bit t q)) =
        subst T (told q (bit t q) l (bit_lt t q)) (all_at (2 ^ n) (λ p. masked (mask_of sets i 0) (mask_of sets i 1) p (bit t p)) suited q l) in
        rw (member_sets (narrowed sets p j b) q, set_other q ne) (rw (member_sets sets q) at f))
        (decide (eqb q p))

    pub still_pick : table_of kind n (narrowed sets p j b) i ≡ table_of kind n sets i
    unfolding table_of pick_of suits or_zero
    still_pick =
        let t = table_of kind n sets i in
        let P = masked (mask_of sets i 0) (mask_of sets i 1) in
        let Q = masked (mask_of (narrowed sets p j b) i 0) (mask_of (narrowed sets p j b) i 1) in
        let inside : (q c : ℕ) → q < 2 ^ n → c < 2 → T (Q q c) → T (P q c) =
        λ q c l lc h. rw (told q c l lc)
        (occurs_part m (of_sets (narrowed sets p j b) q) (of_sets sets q) i c (λ v g. keep_part (of_sets sets) p j b q v (subst (λ R. T (R q v)) with_keep g))
        (rw (told_with q c l lc) at h)) in
        let suited_with : T (suits n Q t) = all_intro (2 ^ n) (λ q. Q q (bit t q)) (λ q l. rw (told_with q (bit t q) l (bit_lt t q)) (bit_occurs q l)) in
        ap or_zero (least_shrink (count_of kind n) n P Q t inside has_pick suited_with)
