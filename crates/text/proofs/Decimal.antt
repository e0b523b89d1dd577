-- Laws of decimal digits: what pins `decimal`. Read back, they are the number; each is a digit; the first is no 0 but for the number 0; and their count.
use Prim.Native.Nat.{ℕ, zero, suc, ◌+◌, ◌*◌, ◌-◌, ◌^◌, ◌/◌, ◌%◌, ◌<◌, ◌≤◌}
use mathlib.Core.Path.{◌≡◌, refl, sym, ap, ◌∙◌}
use mathlib.Core.List.{List, [], ◌∷◌, ◌++◌, append-nil}
use native.Mathlib.Omega.{arith}
use native.Mathlib.Nat.{div-lt_iff_lt-mul, pow-suc}
use lib.Dec.{ltb, ltb→lt, nltb→le}
use lib.ListN.{length, get_or, length-append, get_or-append}
use lib.Seq.{append_snoc}
use Rattle.base.proofs.Tests.{cond_has, cond_has₂}
use Rattle.text.specs.Text.{digit, digits, decimal}

-- more turns than the number needs change nothing
digits_more : (k j x : ℕ) → x < k → x < j → digits k x ≡ digits j x
unfolding digits
digits_more zero j x h l = absurd (omega arith)
digits_more (suc k) zero x h l = absurd (omega arith)
digits_more (suc k) (suc j) x h l =
    cond_has₂ (λ a b. a ≡ b) (ltb x 10)
    (λ _. refl)
    (λ u. let g = nltb→le x 10 u in ap (λ (s : List ℕ). s ++ digit (x % 10) ∷ []) (digits_more k j (x / 10) (omega arith) (omega arith)))

-- a number below 10 has one digit; any other has those of its tenth, and one more
pub decimal_one : (x : ℕ) → x < 10 → decimal x ≡ digit x ∷ []
unfolding digits decimal
decimal_one x h = cond_has (λ s. s ≡ digit x ∷ []) (ltb x 10) (λ _. refl) (λ u. absurd (omega (arith, nltb→le x 10 u)))

pub decimal_more : (x : ℕ) → 10 ≤ x → decimal x ≡ decimal (x / 10) ++ digit (x % 10) ∷ []
unfolding digits decimal
decimal_more x h =
    cond_has (λ s. s ≡ decimal (x / 10) ++ digit (x % 10) ∷ []) (ltb x 10)
    (λ t. absurd (omega (arith, ltb→lt x 10 t)))
    (λ _. ap (λ (s : List ℕ). s ++ digit (x % 10) ∷ []) (digits_more x (suc (x / 10)) (x / 10) (omega arith) (omega arith)))

-- what holds of one digit and is kept by one digit more holds of all decimals
module _ (P : ℕ → List ℕ → Type 0) (one : (x : ℕ) → x < 10 → P x (digit x ∷ []))
    (more : (x : ℕ) (s : List ℕ) → 10 ≤ x → P (x / 10) s → P x (s ++ digit (x % 10) ∷ [])) where
  digits_all : (k x : ℕ) → x < k → P x (digits k x)
  unfolding digits
  digits_all zero x h = absurd (omega arith)
  digits_all (suc k) x h =
      cond_has (P x) (ltb x 10)
      (λ t. one x (ltb→lt x 10 t))
      (λ u. let g = nltb→le x 10 u in more x (digits k (x / 10)) g (digits_all k (x / 10) (omega arith)))

  pub decimal_all : (x : ℕ) → P x (decimal x)
  unfolding decimal
  decimal_all x = digits_all (suc x) x (omega arith)

-- the number that digits say, read from the left after a number already read
unfoldable pub read_from : ℕ → List ℕ → ℕ
read_from x [] = x
read_from x (b ∷ s) = read_from (x * 10 + (b - 0x30)) s

read_last : (x b : ℕ) (s : List ℕ) → read_from x (s ++ b ∷ []) ≡ read_from x s * 10 + (b - 0x30)
unfolding read_from
read_last x b [] = refl
read_last x b (a ∷ s) = read_last (x * 10 + (a - 0x30)) b s

pub decimal_reads : (x : ℕ) → read_from 0 (decimal x) ≡ x
unfolding read_from
decimal_reads = decimal_all (λ x s. read_from 0 s ≡ x) (λ x h. omega arith) λ x s h e. read_last 0 (digit (x % 10)) s ∙ omega arith

-- every byte is a digit 0 to 9
unfoldable pub AllDigits : List ℕ → Type 0
AllDigits [] = Unit {0}
AllDigits (b ∷ s) = (0x30 ≤ b) × (b ≤ 0x39) × AllDigits s

digits_last : (b : ℕ) (s : List ℕ) → AllDigits s → 0x30 ≤ b → b ≤ 0x39 → AllDigits (s ++ b ∷ [])
unfolding AllDigits
digits_last b [] h l g = (l, g, tt)
digits_last b (a ∷ s) h l g = (h.0, h.1, digits_last b s h.2 l g)

pub decimal_digits : (x : ℕ) → AllDigits (decimal x)
unfolding AllDigits
decimal_digits =
    decimal_all (λ x s. AllDigits s) (λ x h. (omega arith, omega arith, tt)) λ x s h d. digits_last (digit (x % 10)) s d (omega arith) (omega arith)

-- there is a first digit, and it is no 0 but for the number 0
pub decimal_first : (x : ℕ) → (0 < length (decimal x)) × ((x ≡ 0 → ⊥) → 0x31 ≤ get_or (decimal x) 0 0)
decimal_first =
    decimal_all (λ x s. (0 < length s) × ((x ≡ 0 → ⊥) → 0x31 ≤ get_or s 0 0))
    (λ x h. (omega arith, λ g. omega arith))
    λ x s h l. (
      omega (arith, length-append s (digit (x % 10) ∷ [])),
      λ g. let z : 0x31 ≤ get_or s 0 0 = l.1 (omega arith) in rw (get_or-append s (digit (x % 10) ∷ []) 0 0 l.0) z,
    )

pub decimal_zero : decimal 0 ≡ 0x30 ∷ []
decimal_zero = decimal_one 0 (omega arith)

-- digits read after a number stand after its own
read_more : (x : ℕ) (s : List ℕ) → 0 < x → AllDigits s → decimal (read_from x s) ≡ decimal x ++ s
unfolding AllDigits read_from
read_more x [] h d = sym (append-nil (decimal x))
read_more x (b ∷ s) h d =
    let y = x * 10 + (b - 0x30) in
    let q : y / 10 ≡ x = omega arith in
    let r : digit (y % 10) ≡ b = omega arith in
    let e : decimal y ≡ decimal x ++ b ∷ [] = decimal_more y (omega arith) ∙ rw (q, r) in
    read_more y s (omega arith) d.2 ∙ rw e (append_snoc (decimal x) b s)

-- no other digits read back as the number, but with a 0 before them
pub decimal_only : (s : List ℕ) → AllDigits s → 0 < length s → (get_or s 0 0 ≡ 0x30 → length s ≡ 1) → s ≡ decimal (read_from 0 s)
unfolding AllDigits read_from
decimal_only [] d h l = absurd (omega arith)
decimal_only (b ∷ []) d h l =
    let e : digit (0 * 10 + (b - 0x30)) ≡ b = omega arith in
    sym (decimal_one (0 * 10 + (b - 0x30)) (omega arith) ∙ rw e)
decimal_only (a ∷ b ∷ s) d h l =
    let x = 0 * 10 + (a - 0x30) in
    let e : digit x ≡ a = omega arith in
    let z : a ≡ 0x30 → ⊥ = λ f. absurd (omega (arith, l f)) in
    sym (read_more x (b ∷ s) (omega (arith, z)) d.2 ∙ rw (decimal_one x (omega arith), e))

-- a number below 10 to the power k has at most k digits, but 0 has one
pub decimal_length : (x k : ℕ) → x < 10 ^ suc k → length (decimal x) ≤ suc k
decimal_length = decimal_all (λ x s. (k : ℕ) → x < 10 ^ suc k → length s ≤ suc k) (λ x h k l. omega arith) longer
  where
    longer : (x : ℕ) (s : List ℕ) → 10 ≤ x → ((k : ℕ) → x / 10 < 10 ^ suc k → length s ≤ suc k) → (k : ℕ) → x < 10 ^ suc k
        → length (s ++ digit (x % 10) ∷ []) ≤ suc k
    longer x s h f zero l = absurd (omega arith)
    longer x s h f (suc k) l =
        let z = f k ((div-lt_iff_lt-mul {k = 10} (omega arith)).1 (rw (pow-suc 10 (suc k)) at l)) in
        omega (arith, length-append s (digit (x % 10) ∷ []))
