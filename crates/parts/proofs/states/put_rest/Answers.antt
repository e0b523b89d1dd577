-- `put_rest` meets its contract: each of the three numbers has the wire's lane replaced.
use Prim.Native.Nat.{ℕ, zero, suc, ◌+◌, ◌<◌}
use mathlib.Core.Path.{◌≡◌, refl, ap, ◌∙◌}
use mathlib.Core.List.{[], ◌∷◌}
use native.Mathlib.Omega.{arith}
use lib.ListN.{get_or}
use Rattle.relation.specs.Inner.Side.{section}
use Rattle.lanes.specs.Inner.Lanes.{put_lane}
use Rattle.parts.specs.Inner.States.{rest_count}
use Rattle.parts.proofs.states.put_rest.Goals as goal

three : (f : ℕ → ℕ) (a b c : ℕ) → a ≡ f 0 → b ≡ f 1 → c ≡ f 2 → (i : ℕ) → i < rest_count → get_or (a ∷ b ∷ c ∷ []) i 0 ≡ f i
three f a b c ea eb ec zero l = ea
three f a b c ea eb ec (suc zero) l = eb
three f a b c ea eb ec (suc (suc zero)) l = ec
three f a b c ea eb ec (suc (suc (suc i))) l = absurd (omega arith)

pub returns : goal.returns
returns c =
    let r = c.args.state.now.rest in
    let j = c.args.j in
    record {
      same = record { is = refl };
      rest = three (λ i. put_lane (get_or r i 0) j (section c.args.table (i + 1))) _ _ _ (c.put_lane.ensures ∙ ap (put_lane (get_or r 0 0) j) c.section_of.ensures.0)
          (c.put_lane-2.ensures ∙ ap (put_lane (get_or r 1 0) j) c.section_of-2.ensures.0) (c.put_lane-3.ensures ∙ ap (put_lane (get_or r 2 0) j) c.section_of-3.ensures.0);
    }
