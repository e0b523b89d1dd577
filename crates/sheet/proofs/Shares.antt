-- A property that each command's share has, in all that the commands say.
use mathlib.Core.List.{List, [], ◌∷◌}
use Rattle.base.specs.Each.{Each}
use Rattle.base.proofs.Each.{each_append}
use Rattle.sheet.specs.declared.Command.{Command}
use Rattle.sheet.specs.Commands.{collect}

module _ {ℓ} {A : Type ℓ} where
  pub each_collect : (P : Command → Type 0) (Q : A → Type 0) (says : Command → List A) → ((c : Command) → P c → Each Q (says c))
      → (cs : List Command) → Each P cs → Each Q (collect says cs)
  unfolding collect
  each_collect P Q says f [] p = tt
  each_collect P Q says f (c ∷ cs) p = each_append Q (says c) (collect says cs) (f c p.0) (each_collect P Q says f cs p.1)
