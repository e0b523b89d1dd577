-- The length of a copy, by its sections.
use Prim.Native.Nat.{ℕ, ◌+◌, ◌*◌, ◌^◌, ◌≤◌}
use mathlib.Core.Path.{◌≡◌, refl, sym, ap, subst, ◌∙◌}
use mathlib.Core.List.{List, [], ◌∷◌, ◌++◌}
use native.Mathlib.Omega.{arith}
use native.Mathlib.Numerals.{add-one}
use lib.Pow.{pow_mono}
use lib.ListN.{length, get_or, length-append}
use Rattle.base.proofs.Tests.{cond_has, cond_has₂}
use Rattle.table.specs.Bits.{sum}
use Rattle.table.proofs.Sums.{sum_cong, sum_bound, sum_constant}
use Rattle.sheet.specs.declared.Command.{Command}
use Rattle.sheet.specs.declared.Command.TheVariants.{End}
use Rattle.sheet.specs.declared.Sheet.{Sheet}
use Rattle.sheet.specs.Bytes.{command_bytes, bytes_of}
use Rattle.sheet.specs.Commands.{collect}
use Rattle.sheet.specs.Limits.{max_inputs, max_patterns}
use Rattle.sheet.proofs.Lists.{collect_append}
use Rattle.reader.proofs.Placed.{Placed}
use Rattle.clean.specs.Copy.{listed, marks_dont_care, permits_all, copy_mark, copy_limit, copy_gate, copy_output, copy_commands, copy_bytes}
use Rattle.clean.specs.Copy.{mark_length, limit_length, copy_length, longest_copy}
use Rattle.clean.proofs.Listed.{collect_listed, listed_length}
use Rattle.clean.proofs.Saying.{to_sizes, to_marks, to_limits, to_gates, to_outputs}

-- the bytes of two lists of commands, and of pieces
bytes_both : (cs ds : List Command) → length (bytes_of (cs ++ ds)) ≡ length (bytes_of cs) + length (bytes_of ds)
bytes_both cs ds = ap length (collect_append command_bytes cs ds) ∙ length-append (bytes_of cs) (bytes_of ds)

pieces_bytes : (k : ℕ) (f : ℕ → List Command) (g : ℕ → ℕ) → ((i : ℕ) → length (bytes_of (f i)) ≡ g i) → length (bytes_of (listed k f)) ≡ sum k g
pieces_bytes k f g h =
    ap length (collect_listed command_bytes k f) ∙ listed_length k (λ i. bytes_of (f i)) ∙ sum_cong k (λ i. length (bytes_of (f i))) g (λ i _. h i)

-- the bytes counted so far, besides those of the patterns: before the first pattern, and with one more
pub count_none : (base : ℕ) (f g : ℕ → ℕ) → base ≡ base + sum 0 f + sum 0 g
unfolding sum
count_none base f g = omega arith

pub count_more : (base counted p : ℕ) (f g : ℕ → ℕ) {a b : ℕ} → counted ≡ base + sum p f + sum p g → a ≡ f p → b ≡ g p
    → counted + (a + b) ≡ base + sum (p + 1) f + sum (p + 1) g
unfolding sum
count_more base counted p f g e x y = omega (arith, next f, next g)
  where
    next : (f : ℕ → ℕ) → sum (p + 1) f ≡ sum p f + f p
    next f = rw (add-one p)

module _ (h : Sheet) where
  -- the bytes of each pattern's mark, and of its limit
  marks : ℕ → ℕ
  marks p = mark_length (get_or h.marks p 0)

  limits : ℕ → ℕ
  limits p = limit_length h.m (get_or h.limits p 0)

  mark_bytes : (p : ℕ) → length (bytes_of (copy_mark h p)) ≡ marks p
  unfolding collect marks
  mark_bytes p = cond_has₂ (λ cs k. length (bytes_of cs) ≡ k) (marks_dont_care (get_or h.marks p 0)) (λ _. refl) (λ _. refl)

  limit_bytes : (p : ℕ) → length (bytes_of (copy_limit h p)) ≡ limits p
  unfolding collect limits
  limit_bytes p = cond_has₂ (λ cs k. length (bytes_of cs) ≡ k) (permits_all h.m (get_or h.limits p 0)) (λ _. refl) (λ _. refl)

  pub copy_length_lem : length (copy_bytes h) ≡ copy_length h
  unfolding collect copy_commands copy_length marks limits
  copy_length_lem =
      let patterns = 2 ^ h.n in
      let gates : length (bytes_of (listed h.gate_count (copy_gate h))) ≡ 4 * h.gate_count =
      pieces_bytes h.gate_count (copy_gate h) (λ _. 4) (λ _. refl) ∙ sum_constant h.gate_count 4 in
      let outputs : length (bytes_of (listed h.output_count (copy_output h))) ≡ 2 * h.output_count =
      pieces_bytes h.output_count (copy_output h) (λ _. 2) (λ _. refl) ∙ sum_constant h.output_count 2 in
      omega (
        arith,
        bytes_both (to_outputs h h.output_count) (End ∷ []),
        bytes_both (to_gates h h.gate_count) (listed h.output_count (copy_output h)),
        bytes_both (to_limits h patterns) (listed h.gate_count (copy_gate h)),
        bytes_both (to_marks h patterns) (listed patterns (copy_limit h)),
        bytes_both (to_sizes h) (listed patterns (copy_mark h)),
        pieces_bytes patterns (copy_mark h) marks mark_bytes,
        pieces_bytes patterns (copy_limit h) limits limit_bytes,
        gates,
        outputs,
      )

  -- no longer than the longest, within the limits
  pub copy_short : Placed h → copy_length h ≤ longest_copy
  unfolding copy_length
  copy_short l =
      let patterns : 2 ^ h.n ≤ max_patterns = pow_mono {i = h.n} {j = max_inputs} l.few_inputs in
      omega (
        arith,
        patterns,
        sum_bound (2 ^ h.n) 3 (λ p. mark_length (get_or h.marks p 0))
            (λ p _. cond_has (λ k. k ≤ 3) (marks_dont_care (get_or h.marks p 0)) (λ _. omega arith) (λ _. omega arith)),
        sum_bound (2 ^ h.n) 4 (λ p. limit_length h.m (get_or h.limits p 0))
            (λ p _. cond_has (λ k. k ≤ 4) (permits_all h.m (get_or h.limits p 0)) (λ _. omega arith) (λ _. omega arith)),
        l.few_gates,
        l.few_outputs,
      )

  -- all patterns counted
  pub count_all : Placed h → (counted p : ℕ) → p ≡ 2 ^ h.n
      → counted ≡ 3 + 4 * h.gate_count + 2 * h.output_count + 1 + sum p (λ q. mark_length (get_or h.marks q 0))
      + sum p (λ q. limit_length h.m (get_or h.limits q 0))
      → (counted ≡ length (copy_bytes h)) × (counted ≤ longest_copy)
  unfolding copy_length
  count_all l counted p e c =
      let whole : counted ≡ copy_length h = rw e at c ∙ omega arith in
      (whole ∙ sym copy_length_lem, subst (λ k. k ≤ longest_copy) (sym whole) (copy_short l))
