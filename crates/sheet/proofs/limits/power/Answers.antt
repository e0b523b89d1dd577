use Prim.Native.Nat.{◌^◌, ◌*◌, ◌%◌}
use mathlib.Core.Path.{◌≡◌, sym, ap, ◌∙◌}
use native.Mathlib.Omega.{arith}
use native.Mathlib.Nat.{le_antisymm}
use lib.Pow.{pow_mono}
use Rattle.sheet.proofs.Powers.{one_shifted, capped, uncapped}
use Rattle.sheet.proofs.limits.power.Goals as goal

pub returns-then-k-most : goal.returns-then-k-most
returns-then-k-most c =
    let k = c.args.k in
    let most = c.args.most in
    let e : 1 * 2 ^ k % 2 ^ 8 ≡ 2 ^ k = one_shifted k 8 (omega arith) in
    (e ∙ sym (uncapped most k (omega arith)), omega (arith, e, pow_mono {i = k} {j = most} (omega arith)), λ _. e)

pub returns-else-k-most : goal.returns-else-k-most
returns-else-k-most c =
    let k = c.args.k in
    let most = c.args.most in
    let e : 1 * 2 ^ most % 2 ^ 8 ≡ 2 ^ most = one_shifted most 8 (omega arith) in
    (e ∙ sym (capped most k (omega arith)), omega (arith, e), λ h. e ∙ ap (λ x. 2 ^ x) (le_antisymm (omega arith) h))
