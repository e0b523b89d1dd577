-- Laws of lists made entry by entry.
use Prim.Native.Nat.{ℕ, zero, suc, ◌+◌, ◌<◌}
use mathlib.Core.Path.{◌≡◌, refl, sym, ap, ◌∙◌}
use mathlib.Core.Logic.{⊎_elim}
use mathlib.Core.Bool.{cond}
use mathlib.Core.List.{List, [], ◌∷◌, ◌++◌}
use native.Mathlib.Omega.{arith}
use native.Mathlib.Nat.{not-suc-le-zero, add-zero}
use lib.Dec.{T, T_not, eqb, eqb→eq, ltb, ltb→lt, nltb→le}
use lib.ListN.{length, get_or, set, take, get_or-append, get_or-eq_default, length-append, length-set, length-take}
use lib.Seq.{sets, get_or_at, get_or-set_same, get_or-set_other, get_or-take, ext_get_or}
use Rattle.base.specs.Tabulate.{tabulate}
use Rattle.base.proofs.Tests.{cond_has, decide, below_suc, eq_test, test_yes, test_no}

-- the entries of a row
pub tabulate_length {ℓ} : {A : Type ℓ} (k : ℕ) (f : ℕ → A) → length (tabulate k f) ≡ k
unfolding tabulate
tabulate_length zero f = refl
tabulate_length (suc k) f = length-append (tabulate k f) (f k ∷ []) ∙ omega (arith, tabulate_length k f)

-- past the end there is d
pub tabulate_at_or {ℓ} : {A : Type ℓ} (d : A) (k : ℕ) (f : ℕ → A) (i : ℕ) → i < k → get_or (tabulate k f) i d ≡ f i
unfolding tabulate
tabulate_at_or d zero f i h = absurd (not-suc-le-zero h)
tabulate_at_or d (suc k) f i h =
    ⊎_elim
    (λ (e : i ≡ k). rw e (get_or_at (tabulate k f) (f k) [] d k (tabulate_length k f)))
    (λ l. get_or-append (tabulate k f) (f k ∷ []) d i (rw tabulate_length l) ∙ tabulate_at_or d k f i l)
    (below_suc h)

pub tabulate_at : (k : ℕ) (f : ℕ → ℕ) (i : ℕ) → i < k → get_or (tabulate k f) i 0 ≡ f i
tabulate_at = tabulate_at_or 0

pub tabulate_cong : (k : ℕ) (f g : ℕ → ℕ) → ((i : ℕ) → i < k → f i ≡ g i) → tabulate k f ≡ tabulate k g
unfolding tabulate
tabulate_cong zero f g h = refl
tabulate_cong (suc k) f g h = cc (tabulate_cong k f g (λ i l. h i (omega arith)), h k (omega arith))

-- a row of four, entry by entry
pub tabulate_four : (f : ℕ → ℕ) {a b c d : ℕ} → a ≡ f 0 → b ≡ f 1 → c ≡ f 2 → d ≡ f 3 → ◌≡◌ {A = List ℕ} (a ∷ b ∷ c ∷ d ∷ []) (tabulate 4 f)
unfolding tabulate
tabulate_four f p q r s = cc

-- one entry set
pub tabulate_set_or {ℓ} : {A : Type ℓ} (d : A) (k : ℕ) (f g : ℕ → A) (i : ℕ) (x : A) → i < k → x ≡ g i → ((j : ℕ) → (j ≡ i → ⊥) → f j ≡ g j) → set (tabulate k f) i x ≡ tabulate k g
tabulate_set_or d k f g i x h e o =
    ext_get_or d (set (tabulate k f) i x) (tabulate k g) (length-set (tabulate k f) i x ∙ tabulate_length k f ∙ sym (tabulate_length k g)) λ j l.
    let b : j < k = rw (tabulate_length k f) at (rw (length-set (tabulate k f) i x) at l) in
    rw (tabulate_at_or d k g j b)
    (⊎_elim
    (λ t. let same = eqb→eq j i t in rw same (get_or-set_same (tabulate k f) i x d (rw (tabulate_length k f) h) ∙ e))
    (λ t.
    let other : j ≡ i → ⊥ = λ q. T_not (eqb j i) t (eq_test q) in
    get_or-set_other (tabulate k f) i j x d other ∙ tabulate_at_or d k f j b ∙ o j other)
    (decide (eqb j i)))

pub tabulate_set : (k : ℕ) (f g : ℕ → ℕ) (i x : ℕ) → i < k → x ≡ g i → ((j : ℕ) → (j ≡ i → ⊥) → f j ≡ g j) → set (tabulate k f) i x ≡ tabulate k g
tabulate_set = tabulate_set_or 0

-- a list filled one place after the other
pub filled_has : (P : ℕ → ℕ → Type 0) (l : List ℕ) (p x : ℕ) → p < length l → ((q : ℕ) → q < p → P q (get_or l q 0)) → P p x
    → (q : ℕ) → q < p + 1 → P q (get_or (set l p x) q 0)
filled_has P l p x hp h e q lq =
    ⊎_elim (λ (d : q ≡ p). rw (d, get_or-set_same l p x 0 hp) e)
    (λ (b : q < p). rw (get_or-set_other l p q x 0 (λ d. omega arith)) (h q b))
    (below_suc {i = q} {k = p} (omega arith))

pub filled_more : (f : ℕ → ℕ) (l : List ℕ) (p x : ℕ) → p < length l → ((q : ℕ) → q < p → get_or l q 0 ≡ f q) → x ≡ f p
    → (q : ℕ) → q < p + 1 → get_or (set l p x) q 0 ≡ f q
filled_more f = filled_has (λ q y. y ≡ f q)

pub filled_tabulate : (k : ℕ) (f : ℕ → ℕ) (l : List ℕ) → length l ≡ k → ((q : ℕ) → q < k → get_or l q 0 ≡ f q) → l ≡ tabulate k f
filled_tabulate k f l e h =
    ext_get_or 0 l (tabulate k f) (e ∙ sym (tabulate_length k f)) (λ q b. let b' : q < k = omega arith in h q b' ∙ sym (tabulate_at k f q b'))

-- the entries of a row and of a front part, past their ends too
pub tabulate_entry : (k : ℕ) (f : ℕ → ℕ) (p : ℕ) → get_or (tabulate k f) p 0 ≡ cond (ltb p k) (f p) 0
tabulate_entry k f p =
    ⊎_elim (λ (l : T (ltb p k)). rw (test_yes (ltb p k) l) (tabulate_at k f p (ltb→lt p k l)))
    (λ l. let h = nltb→le p k l in rw (test_no (ltb p k) l) (get_or-eq_default (tabulate k f) 0 (omega (arith, tabulate_length k f))))
    (decide (ltb p k))

pub zeros_entry : (k p : ℕ) → get_or (tabulate {A = ℕ} k (λ _. 0)) p 0 ≡ 0
zeros_entry k p = rw (tabulate_entry k (λ _. 0) p) (cond_has (λ x. x ≡ 0) (ltb p k) (λ _. refl) (λ _. refl))

pub take_entry : (k : ℕ) (l : List ℕ) (p : ℕ) → get_or (take k l) p 0 ≡ cond (ltb p k) (get_or l p 0) 0
take_entry k l p =
    ⊎_elim (λ (h : T (ltb p k)). rw (test_yes (ltb p k) h) (get_or-take k l p 0 (ltb→lt p k h)))
    (λ h. let b = nltb→le p k h in rw (test_no (ltb p k) h) (get_or-eq_default (take k l) 0 (omega (arith, length-take k l))))
    (decide (ltb p k))

-- two texts stored one after the other
pub sets_append : (l : List ℕ) (i : ℕ) (a b : List ℕ) → sets l i (a ++ b) ≡ sets (sets l i a) (i + length a) b
sets_append l i [] b = rw (add-zero i)
sets_append l i (x ∷ a) b =
    let e : suc i + length a ≡ i + suc (length a) = omega arith in
    sets_append (set l i x) (suc i) a b ∙ ap (λ (j : ℕ). sets (sets (set l i x) (suc i) a) j b) e
