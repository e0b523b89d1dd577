-- The tables of one wire put into the state of the search, or left as they are.
use Prim.Native.Nat.{ℕ, ◌<◌, ◌≤◌}
use mathlib.Core.Path.{refl, sym, subst}
use mathlib.Core.Bool.{true}
use mathlib.Core.List.{List}
use borrow.Author.Tests.{le-leb, lt-leb}
use Rattle.parts.specs.declared.states.Running.{Running}
use Rattle.parts.specs.Inner.Boards.{wide_mark, board_in, lent_wide}
use Rattle.parts.specs.Inner.States.{PutRest}

-- on a narrow board nothing is put
pub rest_kept : (s : Running) (j t : ℕ) (e : List ℕ) → board_in e < wide_mark → PutRest (lent_wide e) j t s s
rest_kept s j t e low =
    subst (λ w. PutRest w j t s s) (sym (lt-leb wide_mark (board_in e) low)) (record { same = record { is = refl }; rest = λ _ _. refl })

pub rest_wide : (e : List ℕ) {j t : ℕ} {s r : Running} → wide_mark ≤ board_in e → PutRest true j t s r → PutRest (lent_wide e) j t s r
rest_wide e {j} {t} {s} {r} high put = subst (λ w. PutRest w j t s r) (sym (le-leb wide_mark (board_in e) high)) put
