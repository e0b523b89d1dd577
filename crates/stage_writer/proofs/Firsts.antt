-- The first element that passes a test, as a search of a list finds it and as the meanings tell it.
use Rattle.std.proofs.Common.{◌≡◌, ℕ, ◌<◌, ◌≤◌, Bool, true, false, List, length, take, get_or, refl, arith}
use lib.Dec.{T}
use lib.Seq.{get_or-take, length-take-le}
use Rattle.std.specs.List.{position, position_or_len}
use Rattle.std.proofs.lemmas.List.Sums.{position_or_len_is}
use Rattle.base.specs.Lowest.{lowest}
use Rattle.base.specs.Inner.Lowest.{first_below}
use Rattle.base.proofs.Lowest.{lowest_le, lowest_is, lowest_below}

true_of : (b : Bool) → T b → b ≡ true
true_of true t = refl
true_of false t = absurd t

false_of : (b : Bool) → (T b → ⊥) → b ≡ false
false_of true n = absurd (n tt)
false_of false n = refl

module _ (p : ℕ → Bool) (m : ℕ) (l : List ℕ) (long : m ≤ length l) where
  abbrev there : ℕ → Bool
  there j = p (get_or l j 0)

  lowest_position : position_or_len p (take m l) ≡ lowest m there
  lowest_position =
      let most = lowest_le m there in
      position_or_len_is p (take m l) (lowest m there) 0
      (rw (length-take-le m l long) most)
      (λ k h. rw (get_or-take m l k 0 (omega (arith, most))) (false_of (there k) (λ t. omega (arith, lowest_below m there k (omega (arith, most)) t))))
      (λ h. let below : lowest m there < m = rw (length-take-le m l long) at h in rw (get_or-take m l (lowest m there) 0 below) (true_of _ (lowest_is m there below)))

  pub first_position : position p (take m l) ≡ first_below m there
  first_position = rw (lowest_position, length-take-le m l long)
