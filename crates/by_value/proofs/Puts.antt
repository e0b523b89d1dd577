-- The set of a pattern put into one word of its section after the other.
use Prim.Native.Nat.{ℕ, suc, ◌+◌, ◌/◌, ◌%◌, ◌<◌, ◌≤◌}
use mathlib.Core.Path.{◌≡◌, sym, ap, ap₂, ◌∙◌}
use mathlib.Core.Logic.{⊎_elim}
use mathlib.Core.Bool.{Bool, true, false, cond, ◌&&◌}
use mathlib.Core.List.{List}
use native.Mathlib.Omega.{arith}
use native.Mathlib.Nat.{le_refl}
use lib.Dec.{T_not, eqb, eqb→eq, ltb, ltb→lt, nltb→le}
use lib.ListN.{get_or, length, set}
use borrow.Author.Tests.{lt-ltb, le-ltb, eq-eqb, ne_eqb}
use Rattle.base.proofs.Tests.{decide, eq_test, and_false, and_true}
use Rattle.base.proofs.Tabulate.{filled_tabulate, tabulate_set}
use Rattle.sheet.specs.Limits.{max_patterns}
use Rattle.table.specs.Bits.{tabulate}
use Rattle.table.specs.Inner.Pairs.{narrow_patterns}
use Rattle.table.proofs.Bits.{tabulate_at, tabulate_cong}
use Rattle.by_value.specs.Inner.ByValue.{section_words, all_words, value_word_place, added, value_word_at, HasRoom, with_word, with_set}

-- whether a number is below k is the same where k counts too, but for k itself
pub below_same : (x k : ℕ) → (x ≡ k → ⊥) → ltb x k ≡ ltb x (suc k)
below_same x k d =
    ⊎_elim (λ t. let l = ltb→lt x k t in lt-ltb x k l ∙ sym (lt-ltb x (suc k) (omega arith)))
    (λ t. let l = nltb→le x k t in le-ltb x k l ∙ sym (le-ltb x (suc k) (above l)))
    (decide (ltb x k))
  where
    above : k ≤ x → suc k ≤ x
    above l = omega arith

-- the words of section q below word k
abbrev done : (q k i : ℕ) → Bool
done q k i = eqb (i / section_words) q && ltb (i % section_words) k

module _ (q k : ℕ) (lk : k < section_words) where
  at_section : value_word_place q k / section_words ≡ q
  at_section = omega arith

  at_word : value_word_place q k % section_words ≡ k
  at_word = omega arith

  done_before : done q k (value_word_place q k) ≡ false
  done_before = ap (λ t. eqb (value_word_place q k / section_words) q && t) (ap (λ x. ltb x k) at_word ∙ le-ltb k k (le_refl k)) ∙ and_false (eqb (value_word_place q k / section_words) q)

  done_after : done q (suc k) (value_word_place q k) ≡ true
  done_after = ap₂ (λ s t. s && t) (eq-eqb (value_word_place q k / section_words) q at_section) (ap (λ x. ltb x (suc k)) at_word ∙ lt-ltb k (suc k) (omega arith))

  done_other : (i : ℕ) → (i ≡ value_word_place q k → ⊥) → done q k i ≡ done q (suc k) i
  done_other i ne =
      ⊎_elim
      (λ t. let e = eqb→eq (i / section_words) q t in ap (λ s. eqb (i / section_words) q && s) (below_same (i % section_words) k (apart e)))
      (λ t. let e : i / section_words ≡ q → ⊥ = λ d. T_not (eqb (i / section_words) q) t (eq_test d) in
      ap (λ s. s && ltb (i % section_words) k) (ne_eqb (i / section_words) q e) ∙ sym (ap (λ s. s && ltb (i % section_words) (suc k)) (ne_eqb (i / section_words) q e)))
      (decide (eqb (i / section_words) q))
    where
      apart : i / section_words ≡ q → i % section_words ≡ k → ⊥
      apart e d = ne (omega arith)

-- the words with pattern p put into those of its section below word k
module _ (words : List ℕ) (p w : ℕ) where
  abbrev old : ℕ → ℕ
  old i = get_or words i 0

  abbrev new : ℕ → ℕ
  new i = get_or words i 0 + added w (i % section_words) (p % narrow_patterns)

  abbrev entry : (k i : ℕ) → ℕ
  entry k i = cond (done (p / narrow_patterns) k i) (new i) (old i)

  unfoldable pub with_first : ℕ → List ℕ
  with_first k = tabulate all_words (entry k)

  pub first_none : length words ≡ all_words → words ≡ with_first 0
  unfolding with_first
  first_none e =
      filled_tabulate all_words (entry 0) words e
      (λ i _. sym (ap (λ t. cond t (new i) (old i)) (ap (λ t. eqb (i / section_words) (p / narrow_patterns) && t) (le-ltb (i % section_words) 0 (omega arith))
      ∙ and_false (eqb (i / section_words) (p / narrow_patterns)))))

  pub first_all : with_first section_words ≡ with_set words p w
  unfolding with_first with_set
  first_all =
      tabulate_cong all_words (entry section_words) (λ i. cond (eqb (i / section_words) (p / narrow_patterns)) (new i) (old i))
      (λ i _. ap (λ t. cond t (new i) (old i)) (ap (λ t. eqb (i / section_words) (p / narrow_patterns) && t) (lt-ltb (i % section_words) section_words (omega arith))
      ∙ and_true (eqb (i / section_words) (p / narrow_patterns))))

  module _ (lp : p < max_patterns) (k : ℕ) (lk : k < section_words) {before : List ℕ} (e : before ≡ with_first k) where
    first_at : value_word_at before p k ≡ value_word_at words p k
    unfolding with_first
    first_at =
        let i = value_word_place (p / narrow_patterns) k in
        ap (λ l. get_or l i 0) e ∙ tabulate_at all_words (entry k) i (omega arith) ∙ ap (λ t. cond t (new i) (old i)) (done_before (p / narrow_patterns) k lk)

    pub first_room : HasRoom (value_word_at words p k) p → HasRoom (value_word_at before p k) p
    first_room h = rw first_at h

    pub first_next : {after : List ℕ} → after ≡ with_word before p w k → after ≡ with_first (suc k)
    unfolding with_first
    first_next d =
        let q = p / narrow_patterns in
        let i = value_word_place q k in
        let x = value_word_at before p k + added w k (p % narrow_patterns) in
        d ∙ ap (λ l. set l i x) e
        ∙ tabulate_set all_words (entry k) (entry (suc k)) i x (omega arith)
        (ap₂ (λ y z. y + added w z (p % narrow_patterns)) first_at (sym (at_word q k lk)) ∙ sym (ap (λ t. cond t (new i) (old i)) (done_after q k lk)))
        (λ j ne. ap (λ t. cond t (new j) (old j)) (done_other q k lk j ne))
