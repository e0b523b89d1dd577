-- Worked rows, computed from the meanings: some decimals.
use Prim.Native.Nat.{ℕ}
use mathlib.Core.Path.{◌≡◌, refl}
use mathlib.Core.List.{[], ◌∷◌}
use Rattle.text.specs.Text.{digits, decimal}

-- the meaning open
unfoldable printing : ℕ
unfolding digits decimal
printing = 0

pub decimal_0 : decimal 0 ≡ 0x30 ∷ []
unfolding printing
decimal_0 = refl

pub decimal_7 : decimal 7 ≡ 0x37 ∷ []
unfolding printing
decimal_7 = refl

pub decimal_10 : decimal 10 ≡ 0x31 ∷ 0x30 ∷ []
unfolding printing
decimal_10 = refl

-- the largest budget
pub decimal_most : decimal 4294967295 ≡ 0x34 ∷ 0x32 ∷ 0x39 ∷ 0x34 ∷ 0x39 ∷ 0x36 ∷ 0x37 ∷ 0x32 ∷ 0x39 ∷ 0x35 ∷ []
unfolding printing
decimal_most = refl
