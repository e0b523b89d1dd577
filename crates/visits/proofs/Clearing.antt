-- Section by section: on which patterns the tables' values are allowed, from what each section's words say of it.
use Prim.Native.Nat.{ℕ, suc, ◌+◌, ◌*◌, ◌-◌, ◌^◌, ◌<◌, ◌≤◌}
use mathlib.Core.Path.{◌≡◌, refl, sym, ap, subst, ◌∙◌}
use mathlib.Core.Logic.{inl, inr, ⊎_elim}
use mathlib.Core.Bool.{Bool, true, not}
use mathlib.Core.List.{List}
use native.Mathlib.Omega.{arith}
use native.Mathlib.Nat.{le_refl}
use Rattle.std.specs.Prelude.{Option, Some, None, IfSome}
use lib.Dec.{T, ltb, ltb→lt, nltb→le, nleb→lt}
use lib.ListN.{get_or}
use lib.Pow.{pow_mono}
use Rattle.base.proofs.Tests.{decide}
use Rattle.sheet.specs.Limits.{max_inputs, max_wires, max_patterns}
use Rattle.table.specs.Cells.{wires}
use Rattle.table.specs.Inner.Pairs.{narrow_inputs, narrow_patterns}
use Rattle.table.specs.Inner.Blocks.{entries}
use Rattle.table.specs.Inner.Wide.{sections}
use Rattle.nodes.specs.Counts.{most_inputs}
use Rattle.relation.specs.Source.{value}
use Rattle.relation.specs.Inner.Members.{member}
use Rattle.by_value.specs.Inner.ByValue.{filled, SectionWords, Allowing, allows_at, value_word_place, first_refused}
use Rattle.by_value.proofs.Told.{all_allow, allowed_below, refused_there, filled_there}
use Rattle.by_value.proofs.Refused.{refused_inside}
use Rattle.parts.specs.Inner.Boards.{sharing_mark, wide_mark, board_in, lent_kind, lent_inputs, lent_wide, lent_count, Lent}
use Rattle.parts.specs.declared.states.Running.{Running}
use Rattle.relation.specs.Inner.Side.{side_by_side}
use Rattle.parts.specs.Inner.States.{side_at, AtHand}
use Rattle.parts.proofs.BoardNumbers.{number_shares, number_narrow}
use Rattle.parts.proofs.Lending.{inputs_few}
use Rattle.visits.specs.Inner.Conflicts.{ClearTo, Cleared, ClearedBy, SectionSeen, Seen, RestAtHand, AllowedFrom, AllowedLater, AllowedBelow}

-- what the four words of a section say, as its lowest pattern that is refused
module _ (whole : List ℕ) (q at tables r : ℕ) (lq : q < sections) (place : at ≡ value_word_place q 0)
    (agreed : Allowing (get_or whole at 0) (get_or whole (at + 1) 0) (get_or whole (at + 2) 0) (get_or whole (at + 3) 0) tables r) where
  words : (n : ℕ) (S : List ℕ) → SectionSeen n S whole q
      → SectionWords (filled (2 ^ n) S) q (get_or whole at 0) (get_or whole (at + 1) 0) (get_or whole (at + 2) 0) (get_or whole (at + 3) 0)
  words n S seen =
      let e1 : at + 1 ≡ value_word_place q 1 = omega arith in
      let e2 : at + 2 ≡ value_word_place q 2 = omega arith in
      let e3 : at + 3 ≡ value_word_place q 3 = omega arith in
      (ap (λ i. get_or whole i 0) place ∙ seen.0, ap (λ i. get_or whole i 0) e1 ∙ seen.1, ap (λ i. get_or whole i 0) e2 ∙ seen.2, ap (λ i. get_or whole i 0) e3 ∙ seen.3)

  pub clear : (o : Option ℕ) → o ≡ first_refused r → ClearedBy whole q tables o
  clear None e n S ts seen side =
      all_allow (filled (2 ^ n) S) q (get_or whole at 0) (get_or whole (at + 1) 0) (get_or whole (at + 2) 0) (get_or whole (at + 3) 0) tables r (words n S seen) agreed ts side (sym e)
  clear (Some i) e n S ts seen side = (
    allowed_below (filled (2 ^ n) S) q (get_or whole at 0) (get_or whole (at + 1) 0) (get_or whole (at + 2) 0) (get_or whole (at + 3) 0) tables r (words n S seen) agreed ts side i (sym e),
    refused_there (2 ^ n) S q (get_or whole at 0) (get_or whole (at + 1) 0) (get_or whole (at + 2) 0) (get_or whole (at + 3) 0) tables r (words n S seen) agreed ts side lq i (sym e),
  )

pub inside_section : (r : ℕ) (o : Option ℕ) → o ≡ first_refused r → IfSome o (λ p. p < narrow_patterns)
inside_section r None e = tt
inside_section r (Some i) e = refused_inside r i (sym e)

module _ (n : ℕ) (S ts : List ℕ) where
  -- what filled sets allow the sets allow, on a pattern that there is
  there : (p : ℕ) → p < max_patterns → p < 2 ^ n → T (allows_at (filled (2 ^ n) S) ts p) → T (allows_at S ts p)
  there p lp l t = subst (λ w. T (member w (value max_wires (wires ts) p))) (filled_there (2 ^ n) S p lp l) t

  -- the patterns from k on of the sections below q are without conflict, as far as there are such
  abbrev pub Passed : (k q : ℕ) → Type 0
  Passed k q = (p : ℕ) → k ≤ p → p < narrow_patterns * q → p < 2 ^ n → T (allows_at S ts p)

  module _ (q : ℕ) (lq : q < sections) {r : ℕ} (here : ClearTo n q S ts r) where
    -- a pattern of the section below r
    inside : (p : ℕ) → narrow_patterns * q ≤ p → p < narrow_patterns * q + r → p < narrow_patterns * q + narrow_patterns → p < 2 ^ n → T (allows_at S ts p)
    inside p l h u b =
        let i = p - narrow_patterns * q in
        let e : narrow_patterns * q + i ≡ p = omega arith in
        there p (omega arith) b (subst (λ x. T (allows_at (filled (2 ^ n) S) ts x)) e (here i (omega arith)))

    -- a section in which none is refused is passed
    pub passed_more : (k : ℕ) → Passed k q → narrow_patterns ≤ r → Passed k (q + 1)
    passed_more k before full p l h b =
        ⊎_elim (λ t. before p l (ltb→lt p (narrow_patterns * q) t) b)
        (λ t. inside p (nltb→le p (narrow_patterns * q) t) (omega arith) (omega arith) b)
        (decide (ltb p (narrow_patterns * q)))

    -- where one is, it is the first
    pub found_first : (k : ℕ) → Passed k q → r < narrow_patterns → narrow_patterns * q + r < 2 ^ n → AllowedFrom n k S ts (narrow_patterns * q + r)
    found_first k before less b = (
      omega arith,
      λ p l h.
          ⊎_elim (λ t. before p l (ltb→lt p (narrow_patterns * q) t) (omega arith))
          (λ t. inside p (nltb→le p (narrow_patterns * q) t) h (omega arith) (omega arith))
          (decide (ltb p (narrow_patterns * q))),
    )

-- the patterns of the sections from the second up to q are without conflict, whatever the sets whose words the state has
abbrev pub PassedLater : Running → (count q : ℕ) → Type 0
PassedLater state count q =
    (n : ℕ) → (S ts : List ℕ) → count ≡ 2 ^ n → Seen true n S state.whole → RestAtHand state.rest ts → Passed n S ts narrow_patterns q

-- the tables of section q past the first, as the code has them
rest_told : (rest : List ℕ) (q : ℕ) → 1 ≤ q → q < sections → (ts : List ℕ) → RestAtHand rest ts → get_or rest (q - 1) 0 ≡ side_by_side ts q
rest_told rest q l lq ts h = let e : q - 1 + 1 ≡ q = omega arith in h (q - 1) (omega arith) ∙ ap (side_by_side ts) e

module _ (state : Running) (count q : ℕ) (l : 1 ≤ q) (lq : q < sections) (before : PassedLater state count q) where
  pub later_more : ClearedBy state.whole q (get_or state.rest (q - 1) 0) None → PassedLater state count (q + 1)
  later_more told n S ts ec seen rest =
      passed_more n S ts q lq (told n S ts (seen q lq (inr tt)) (rest_told state.rest q l lq ts rest)) narrow_patterns (before n S ts ec seen rest) (le_refl narrow_patterns)

  pub later_found : (r : ℕ) → ClearedBy state.whole q (get_or state.rest (q - 1) 0) (Some r) → r < narrow_patterns → AllowedLater state count (narrow_patterns * q + r)
  later_found r told less n S ts ec seen rest =
      let t = told n S ts (seen q lq (inr tt)) (rest_told state.rest q l lq ts rest) in
      found_first n S ts q lq t.0 narrow_patterns (before n S ts ec seen rest) less t.1

-- all sections are passed
pub later_none : (state : Running) (count q : ℕ) → count ≤ max_patterns → sections ≤ q → PassedLater state count q → AllowedLater state count count
later_none state count q most all before n S ts ec seen rest =
    (omega arith, λ p l h. before n S ts ec seen rest p l (omega arith) (omega (arith, ec)))

none_yet : (n : ℕ) (S ts : List ℕ) → Passed n S ts 0 0
none_yet n S ts p l h b = absurd (omega arith)

-- the first section, and behind it the later ones
module _ (wide : Bool) (n low : ℕ) (state : Running) (first : Option ℕ) (told : ClearedBy state.whole 0 low first) where
  told_first : (S ts : List ℕ) → Seen wide n S state.whole → AtHand low state ts → Cleared n 0 S ts first
  unfolding side_at
  told_first S ts seen hand = told n S ts (seen 0 (omega arith) (inl refl)) (hand 0 (omega arith))

-- a pattern of the first section is refused
pub first_here : (wide : Bool) (n low : ℕ) (state : Running) (first : ℕ) → ClearedBy state.whole 0 low (Some first) → first < narrow_patterns → AllowedBelow wide n low state first
first_here wide n low state first told less S ts seen hand =
    let e : narrow_patterns * 0 + first ≡ first = omega arith in
    let t = told_first wide n low state (Some first) told S ts seen hand in
    subst (AllowedFrom n 0 S ts) e (found_first n S ts 0 (omega arith) t.0 0 (none_yet n S ts) less t.1)

-- none is
module _ (wide : Bool) (n low : ℕ) (state : Running) (told : ClearedBy state.whole 0 low None) where
  passed_first : (S ts : List ℕ) → Seen wide n S state.whole → AtHand low state ts → Passed n S ts 0 1
  passed_first S ts seen hand =
      passed_more n S ts 0 (omega arith) (told_first wide n low state None told S ts seen hand) 0 (none_yet n S ts) (le_refl narrow_patterns)

  pub first_later : T wide → {count r : ℕ} → count ≡ 2 ^ n → AllowedLater state count r → AllowedBelow wide n low state r
  unfolding side_at
  first_later w ec later S ts seen hand =
      let a = later n S ts ec (λ q l _. seen q l (inr w)) (λ i l. let e : suc i ≡ i + 1 = omega arith in hand (suc i) (omega arith) ∙ ap (side_by_side ts) e) in (
        a.0,
        λ p l h.
            ⊎_elim (λ t. passed_first S ts seen hand p l (ltb→lt p narrow_patterns t) (omega (arith, a.0))) (λ t. a.1 p (nltb→le p narrow_patterns t) h)
            (decide (ltb p narrow_patterns)),
      )

  pub first_narrow : 2 ^ n ≤ narrow_patterns → {count : ℕ} → count ≡ 2 ^ n → AllowedBelow wide n low state count
  first_narrow few ec S ts seen hand =
      (omega arith, λ p l h. passed_first S ts seen hand p l (omega (arith, few, ec)) (omega (arith, ec)))

-- a board that is not marked wide has the patterns of the first section at most
narrow_inputs_lem : (e : List ℕ) → Lent e → board_in e < wide_mark → lent_inputs e ≤ narrow_inputs
narrow_inputs_lem e lent low =
    ⊎_elim (λ t. (number_narrow (lent_kind e) (lent_inputs e) (board_in e) lent.number lent.most (ltb→lt (board_in e) sharing_mark t)).2)
    (λ t.
    let s = number_shares (lent_kind e) (lent_inputs e) (board_in e) lent.number lent.most (nltb→le (board_in e) sharing_mark t) low in
    subst (λ k. lent_inputs e ≤ most_inputs k) s.0 lent.most)
    (decide (ltb (board_in e) sharing_mark))

pub narrow_few : (e : List ℕ) → Lent e → T (not (lent_wide e)) → 2 ^ lent_inputs e ≤ narrow_patterns
narrow_few e lent t = pow_mono {i = lent_inputs e} {j = narrow_inputs} (narrow_inputs_lem e lent (nleb→lt wide_mark (board_in e) t))

-- the number of patterns as the code reads it
pub count_told : (e : List ℕ) → Lent e → get_or e (entries + 2) 0 ≡ 2 ^ lent_inputs e
unfolding lent_count
count_told e lent = lent.count

pub count_most : {e : List ℕ} → Lent e → 2 ^ lent_inputs e ≤ max_patterns
count_most {e} lent = pow_mono {i = lent_inputs e} {j = max_inputs} (inputs_few lent)
