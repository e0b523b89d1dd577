-- Which refusal from the state comes first, computed from the meaning at a command that calls for two of them at once.
use Prim.Native.Nat.{ℕ, zero, suc}
use mathlib.Core.Path.{◌≡◌, refl}
use mathlib.Core.List.{List, [], ◌∷◌, ◌++◌}
use Rattle.base.specs.Refusals.{refusal_at, no_signal, too_many}
use Rattle.sheet.specs.declared.Command.{Command}
use Rattle.sheet.specs.declared.Command.TheVariants.{Sizes, Gate}
use Rattle.sheet.specs.Limits.{max_gates}
use Rattle.sheet.specs.Commands.{collect}
use Rattle.sheet.specs.Judged.{refused, judged}

-- one input, one wire, and so many gates on it
unfoldable pub gated : ℕ → List Command
gated zero = Sizes 1 1 ∷ []
gated (suc k) = gated k ++ Gate 0 0 0 ∷ []

-- 6 before 8
pub signal_first : judged (gated max_gates) (Gate 0 33 0) 7 ≡ refused (refusal_at no_signal 7)
unfolding judged collect gated
signal_first = refl

pub gate_next : judged (gated max_gates) (Gate 0 32 0) 7 ≡ refused (refusal_at too_many 7)
unfolding judged collect gated
gate_next = refl
