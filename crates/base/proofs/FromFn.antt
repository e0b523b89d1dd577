-- A law of arrays that are made by a function of the place: `array::from_fn`.
use Rattle.std.proofs.Common.{ℕ, zero, suc, ◌+◌, ◌<◌, ◌≡◌, List, get_or, arith, ◌∙◌}
use Rattle.std.specs.Array.{IsFromFnResultFrom, IsFromFnResult}
use denote.Param.Members.{Called, Mut}
use Rattle.base.specs.Tabulate.{tabulate}
use Rattle.base.proofs.Tabulate.{filled_tabulate}

-- a closure that gives f i at each i, and is the same afterwards
module _ {F : Type 0} (g : Mut F (ℕ × Unit {0}) ℕ) (closure : F) (f : ℕ → ℕ)
    (gives : (i y : ℕ) (after : F) → Called g closure (i, tt) y after → (y ≡ f i) × (after ≡ closure)) where
  given : (l : List ℕ) (i n : ℕ) → IsFromFnResultFrom g closure l i n → (j k : ℕ) → k ≡ i + j → j < n → get_or l k 0 ≡ f k
  given l i zero r j k e h = absurd (omega arith)
  given l i (suc n) r zero k e h =
      let s : k ≡ i = omega arith in
      rw s (r.2.1 0 ∙ (gives i r.1 r.0 r.3).0)
  given l i (suc n) r (suc j) k e h = given l (i + 1) n (rw ((gives i r.1 r.0 r.3).1) at r.4) j k (omega arith) (omega arith)

pub from_fn_tabulate : {F : Type 0} {g : Mut F (ℕ × Unit {0}) ℕ} {closure : F} {l : List ℕ} {n : ℕ} → IsFromFnResult g closure l n → (f : ℕ → ℕ)
    → ((i y : ℕ) (after : F) → Called g closure (i, tt) y after → (y ≡ f i) × (after ≡ closure)) → l ≡ tabulate n f
from_fn_tabulate {F} {g} {closure} {l} {n} r f gives = filled_tabulate n f l r.long (λ q h. given g closure f gives l 0 n r.each q q (omega arith) h)
