-- A row filled up to the last pattern that there is, and left past it: what a loop over the patterns of n inputs leaves.
use Prim.Native.Nat.{ℕ, ◌+◌, ◌<◌, ◌≤◌}
use mathlib.Core.Path.{◌≡◌, ◌∙◌}
use mathlib.Core.Logic.{⊎_elim}
use mathlib.Core.List.{List}
use native.Mathlib.Omega.{arith}
use lib.Dec.{ltb, ltb→lt, nltb→le}
use lib.ListN.{length, get_or, set}
use lib.Seq.{get_or-set_other}
use Rattle.base.proofs.Tests.{decide}
use Rattle.base.proofs.Tabulate.{filled_more, filled_tabulate}
use Rattle.table.specs.Bits.{tabulate}

-- below place p the entries are what f tells, from there on what g tells
pub record Front (p : ℕ) (f g : ℕ → ℕ) (l : List ℕ) : Type 0 where
  pub filled : (q : ℕ) → q < p → get_or l q 0 ≡ f q
  pub left : (q : ℕ) → p ≤ q → get_or l q 0 ≡ g q

-- one entry more
pub front_more : (f g : ℕ → ℕ) (l : List ℕ) (p x : ℕ) → p < length l → Front p f g l → x ≡ f p → Front (p + 1) f g (set l p x)
front_more f g l p x b h e = record {
  filled = filled_more f l p x b h.filled e;
  left = λ q d. get_or-set_other l p q x 0 (λ z. omega arith) ∙ h.left q (omega arith);
}

-- the whole row, where both tell what r does
pub front_whole : (k : ℕ) (f g r : ℕ → ℕ) (l : List ℕ) (p : ℕ) → length l ≡ k → Front p f g l
    → ((q : ℕ) → q < p → f q ≡ r q) → ((q : ℕ) → p ≤ q → g q ≡ r q) → l ≡ tabulate k r
front_whole k f g r l p long h below past =
    filled_tabulate k r l long
    (λ q _. ⊎_elim (λ t. let d = ltb→lt q p t in h.filled q d ∙ below q d) (λ t. let d = nltb→le q p t in h.left q d ∙ past q d) (decide (ltb q p)))
