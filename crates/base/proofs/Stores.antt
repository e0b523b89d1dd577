-- Laws of text put into a buffer: one text after another, and text at its start.
use Rattle.base.proofs.Tabulate.{sets_append}
use Prim.Native.Nat.{ℕ, ◌+◌, ◌<◌, ◌≤◌}
use mathlib.Core.Path.{◌≡◌, refl}
use mathlib.Core.List.{List, [], ◌∷◌, ◌++◌}
use native.Mathlib.Numerals.{add-one}
use native.Mathlib.Omega.{arith}
use lib.ListN.{length, get_or, take, length-append}
use lib.Seq.{sets, take-suc}
use Rattle.base.specs.Inner.Put.{Put, PutWithin}

-- no text
pub put_none : {l : List ℕ} {at : ℕ} → Put l at [] l at
put_none {l} {at} = record { stored = refl; past = omega arith }

pub put_then : {l b c x y : List ℕ} {at next r : ℕ} → Put l at x b next → Put b next y c r → Put l at (x ++ y) c r
put_then {l} {b} {c} {x} {y} {at} {next} {r} p q =
    record {
      stored = let e = p.stored in let f = p.past in let g = q.stored in cc (sets_append l at x y);
      past = omega (arith, p.past, q.past, length-append x y);
    }

-- one byte more of a text
pub put_next : {l b c : List ℕ} {at next r : ℕ} (xs : List ℕ) (i : ℕ) → Put l at (take i xs) b next → Put b next (get_or xs i 0 ∷ []) c r → i < length xs
    → Put l at (take (i + 1) xs) c r
put_next xs i p q h = rw (add-one i, take-suc xs i 0 h) (put_then p q)

-- two texts, with bounds on what is put
pub puts : {l b c x y : List ℕ} {at next r j k : ℕ} → PutWithin j l at x b next → PutWithin k b next y c r → PutWithin (j + k) l at (x ++ y) c r
puts p q = record { put = put_then p.put q.put; short = omega (arith, p.short, q.short) }

pub at_most : {l x b : List ℕ} {at r : ℕ} (k : ℕ) → Put l at x b r → length x ≤ k → PutWithin k l at x b r
at_most k p h = record { put = p; short = omega (arith, p.past, h) }

-- what stands at the start of a buffer, as the reports tell it, under any larger bound
pub put_start : {l after text : List ℕ} {r short long : ℕ} → PutWithin short l 0 text after r → short ≤ long
    → (r ≡ length text) × (after ≡ sets l 0 text) × (r ≤ long)
put_start p h = (omega (arith, p.put.past), p.put.stored, omega (arith, p.short, h))
