-- Laws of one step of reading: a command is refused or reading goes on, a command that is due stands there or is refused, a wire whose turn it is, and what is read is
-- not changed by bytes behind it.
use Prim.Native.Nat.{ℕ, ◌<◌}
use mathlib.Core.Path.{◌≡◌, refl, ap}
use mathlib.Core.Bool.{Bool, false, ◌||◌}
use mathlib.Core.List.{List, [], ◌∷◌, ◌++◌}
use native.Mathlib.Omega.{arith}
use lib.Dec.{leb, eqb, eqb→eq}
use lib.ListN.{drop}
use borrow.Author.Tests.{eq-eqb, lt-leb, leb-false}
use Rattle.base.specs.declared.Refusal.{Refusal}
use Rattle.base.proofs.Tests.{cond_has, cond_has₂, test_no, neither}
use Rattle.stage.specs.Steps.{Read, taken, fault, and_then, unless_refused, misplaced, due_number, due, turn_number}
use Rattle.stage.specs.Inner.Laws.{with_more}

-- a command is refused, or reading goes on
pub unless_refused_has : {A : Type 0} (P : A → Type 0) (stop : Refusal → A) (at f : ℕ) {next : A} → ((g : Refusal) → P (stop g)) → (f ≡ 0 → P next)
    → P (unless_refused stop at f next)
unless_refused_has P stop at f refuses h = cond_has P (eqb f 0) (λ t. h (eqb→eq f 0 t)) (λ _. refuses _)

pub unless_refused_has₂ : {A B : Type 0} (P : A → B → Type 0) (stop : Refusal → A) (halt : Refusal → B) (at f : ℕ) {next : A} {then : B}
    → ((g : Refusal) → P (stop g) (halt g)) → (f ≡ 0 → P next then) → P (unless_refused stop at f next) (unless_refused halt at f then)
unless_refused_has₂ P stop halt at f refuses h = cond_has₂ P (eqb f 0) (λ t. h (eqb→eq f 0 t)) (λ _. refuses _)

-- a command whose number is 0 stands there
due_stands : (known : ℕ → Bool) (want : ℕ) (bytes : List ℕ) → due_number known want bytes ≡ 0 → bytes ≡ want ∷ drop 1 bytes
unfolding due_number misplaced
due_stands known want [] = λ e. absurd (omega (arith, e))
due_stands known want (b ∷ rest) =
    cond_has Stands (eqb b want)
    (λ t _. ap (λ x. x ∷ rest) (eqb→eq b want t))
    (λ _. cond_has Stands (known b) (λ _ e. absurd (omega (arith, e))) (λ _ e. absurd (omega (arith, e))))
  where
    Stands : ℕ → Type 0
    Stands f = f ≡ 0 → b ∷ rest ≡ want ∷ rest

-- a command that is due: it is refused, or it stands there
pub due_has : {A : Type 0} (P : A → Type 0) (known : ℕ → Bool) (stop : Refusal → A) (want at : ℕ) (next : List ℕ → A) → ((f : Refusal) → P (stop f))
    → (bytes : List ℕ) → ((rest : List ℕ) → bytes ≡ want ∷ rest → P (next rest)) → P (due known stop want at next bytes)
unfolding due
due_has P known stop want at next refuses bytes h =
    unless_refused_has P stop at (due_number known want bytes) refuses (λ e. h (drop 1 bytes) (due_stands known want bytes e))

-- a command that is due is told by one byte
pub due_more : {A : Type 0} (P : A → A → Type 0) (known : ℕ → Bool) (stop : Refusal → A) (want at : ℕ) (next : List ℕ → A)
    → ((f : Refusal) → P (stop f) (stop f)) → (b : ℕ) (rest q : List ℕ) → P (next (rest ++ q)) (next rest)
    → P (due known stop want at next (b ∷ rest ++ q)) (due known stop want at next (b ∷ rest))
unfolding due due_number
due_more P known stop want at next stops b rest q h = unless_refused_has₂ P stop stop at (due_number known want (b ∷ rest)) stops (λ _. h)

-- a wire has its turn where it is the wire that is due, there is such a wire, and no other operand is out of range
pub turn_is : (m j i : ℕ) (out : Bool) → turn_number m j i out ≡ 0 → (i ≡ j) × (i < m) × (out ≡ false)
turn_is m j i out =
    cond_has Turn (leb m i || out) (λ _ e. absurd (omega (arith, e)))
    (λ s.
    let both = neither (leb m i) out (test_no (leb m i || out) s) in
    cond_has Turn (eqb i j) (λ t _. (eqb→eq i j t, leb-false m i both.0, both.1)) (λ _ e. absurd (omega (arith, e))))
  where
    Turn : ℕ → Type 0
    Turn f = f ≡ 0 → (i ≡ j) × (i < m) × (out ≡ false)

pub turn_comes : (m j : ℕ) (out : Bool) → j < m → out ≡ false → turn_number m j j out ≡ 0
turn_comes m j out l e = rw (lt-leb m j l, e, eq-eqb j j refl)

-- two steps, where more bytes behind change neither
pub then_more : {A B : Type 0} (q : List ℕ) (y : Read A) (next : A → ℕ → List ℕ → Read B)
    → ((x : A) (at : ℕ) (rest : List ℕ) → y ≡ taken x at rest → next x at (rest ++ q) ≡ with_more q (next x at rest))
    → and_then (with_more q y) next ≡ with_more q (and_then y next)
unfolding with_more and_then
then_more q (fault f) next h = refl
then_more q (taken x at rest) next h = h x at rest refl
