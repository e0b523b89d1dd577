-- Of the commands that a sheet holds 01 is the first and no other, and with its n and m each operand is in range.
use Prim.Native.Nat.{ℕ}
use mathlib.Core.Path.{◌≡◌, refl, sym, ap, subst}
use mathlib.Core.Bool.{true, false, not}
use mathlib.Core.List.{List, [], ◌∷◌, ◌++◌}
use lib.ListN.{get_or}
use Rattle.sheet.specs.Limits.{max_inputs}
use Rattle.sheet.specs.Inner.Sized.{Sized}
use Rattle.sheet.proofs.Sizes.{sizes_in}
use Rattle.sheet.specs.declared.Command.{Command}
use Rattle.sheet.specs.declared.Command.TheVariants.{End, Sizes, Row, DontCare, Gate, Output, Limit}
use Rattle.sheet.specs.Commands.{is_empty, collect, is_sizes, inputs_in, wires_in, inputs_of, wires_of}
use Rattle.reader.specs.Reader.{is_out_of_range}
use Rattle.sheet.proofs.Lists.{never, silent, is_empty_nil}
use Rattle.base.specs.Each.{Each}
use Rattle.base.proofs.Each.{each_append}
use Rattle.reader.proofs.Passages.{InOrder}

-- 01 comes first; after it n and m stay
pub data Opening (before : List Command) : Command → Type 0 where
  opens : (n m : ℕ) → before ≡ [] → Opening before (Sizes n m)
  stays : {c : Command} → is_sizes c ≡ false → is_empty before ≡ false
      → inputs_of (before ++ c ∷ []) ≡ inputs_of before → wires_of (before ++ c ∷ []) ≡ wires_of before → Opening before c

later : (before : List Command) (c : Command) → is_empty before ≡ false → inputs_in c ≡ [] → wires_in c ≡ [] → Opening before c
later before c f i w =
    stays (ap (λ x. not (is_empty x)) i) f (ap (λ x. get_or x 0 0) (silent inputs_in before c i)) (ap (λ x. get_or x 0 0) (silent wires_in before c w))

pub opening : (before : List Command) (c : Command) → is_sizes c ≡ is_empty before → Opening before c
opening before (Sizes n m) e = opens n m (is_empty_nil before (sym e))
opening before End e = later before End (sym e) refl refl
opening before (Row p v) e = later before (Row p v) (sym e) refl refl
opening before (DontCare p) e = later before (DontCare p) (sym e) refl refl
opening before (Gate k a b) e = later before (Gate k a b) (sym e) refl refl
opening before (Output s) e = later before (Output s) (sym e) refl refl
opening before (Limit p w) e = later before (Limit p w) (sym e) refl refl

-- what holds once 01 stands alone, and is kept by every later command, which leaves n and m
pub by_opening : (P : List Command → Type 0) (before : List Command) (c : Command) → InOrder before c
    → ((n m : ℕ) → is_out_of_range (inputs_of before) (wires_of before) (Sizes n m) ≡ false → P (Sizes n m ∷ []))
    → (is_empty before ≡ false → inputs_of (before ++ c ∷ []) ≡ inputs_of before → wires_of (before ++ c ∷ []) ≡ wires_of before → P (before ++ c ∷ []))
    → P (before ++ c ∷ [])
by_opening P before c o first rest = go c o.in_range (opening before c o.first) first rest
  where
    go : (c : Command) → is_out_of_range (inputs_of before) (wires_of before) c ≡ false → Opening before c
        → ((n m : ℕ) → is_out_of_range (inputs_of before) (wires_of before) (Sizes n m) ≡ false → P (Sizes n m ∷ []))
        → (is_empty before ≡ false → inputs_of (before ++ c ∷ []) ≡ inputs_of before → wires_of (before ++ c ∷ []) ≡ wires_of before → P (before ++ c ∷ []))
        → P (before ++ c ∷ [])
    go c r (opens n m e) f g = subst (λ x. P (x ++ Sizes n m ∷ [])) (sym e) (f n m r)
    go c r (stays _ d i w) f g = g d i w

-- 01 stands at the start, and nowhere else
pub data Headed : List Command → Type 0 where
  unheaded : Headed []
  headed : (n m : ℕ) (rest : List Command) → Each (λ c. is_sizes c ≡ false) rest → Headed (Sizes n m ∷ rest)

pub headed_more : (before : List Command) (c : Command) → Headed before → InOrder before c → Headed (before ++ c ∷ [])
headed_more before c unheaded o = go c o.first
  where
    go : (c : Command) → is_sizes c ≡ true → Headed (c ∷ [])
    go (Sizes n m) e = headed n m [] tt
    go End e = never e
    go (Row p v) e = never e
    go (DontCare p) e = never e
    go (Gate k a b) e = never e
    go (Output s) e = never e
    go (Limit p w) e = never e
headed_more before c (headed n m rest p) o = headed n m (rest ++ c ∷ []) (each_append _ rest (c ∷ []) p (o.first, tt))

-- sizes in range
abbrev pub InSize : List Command → Type 0
InSize cs = is_empty cs ≡ false → Sized max_inputs (inputs_of cs) (wires_of cs)

pub size_more : (before : List Command) (c : Command) → InSize before → InOrder before c → InSize (before ++ c ∷ [])
unfolding collect
size_more before c p o = by_opening InSize before c o (λ n m r _. sizes_in max_inputs n m r) (λ f i w _. rw (i, w) (p f))

-- operands in range
abbrev pub InRange : List Command → Type 0
InRange cs = Each (λ c. is_out_of_range (inputs_of cs) (wires_of cs) c ≡ false) cs

pub range_more : (before : List Command) (c : Command) → InRange before → InOrder before c → InRange (before ++ c ∷ [])
unfolding collect
range_more before c p o =
    by_opening InRange before c o (λ n m r. (r, tt)) (λ f i w. rw (i, w) (each_append _ before (c ∷ []) p (o.in_range, tt)))
