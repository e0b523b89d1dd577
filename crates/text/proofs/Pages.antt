-- Laws of text put onto a page: none, one text after another, one byte more, and bounds on what is put.
use Rattle.std.proofs.Common.{ℕ, ◌+◌, ◌≤◌, ◌<◌, List, [], ◌∷◌, ◌++◌, length, get_or, take, refl, ◌∙◌, arith, add-one}
use Rattle.std.proofs.Math.Seq.{take-suc}
use Rattle.base.proofs.Stores.{put_none, puts}
use Rattle.text.specs.declared.Page.{Page}
use Rattle.text.specs.Inner.Page.{Adds}

-- no text
pub adds_none : {p : Page} {most : ℕ} → Adds most [] p p
adds_none {p} {most} = record { put = record { put = put_none; short = omega arith }; same_buffer = refl }

-- two texts
pub adds_then : {p q r : Page} {x y : List ℕ} {j k : ℕ} → Adds j x p q → Adds k y q r → Adds (j + k) (x ++ y) p r
adds_then a b = record { put = puts a.put b.put; same_buffer = b.same_buffer ∙ a.same_buffer }

-- one byte more of a text
pub adds_next : {p q r : Page} {j : ℕ} (xs : List ℕ) (i : ℕ) → Adds j (take i xs) p q → Adds 1 (get_or xs i 0 ∷ []) q r → i < length xs
    → Adds (j + 1) (take (i + 1) xs) p r
adds_next xs i a b h = rw (add-one i, take-suc xs i 0 h) (adds_then a b)

-- another bound, above the length of the text
pub adds_bounded : {p q : Page} {x : List ℕ} {j : ℕ} (k : ℕ) → Adds j x p q → length x ≤ k → Adds k x p q
adds_bounded k a h = record { put = record { put = a.put.put; short = omega (arith, a.put.put.past, h) }; same_buffer = a.same_buffer }

-- a larger bound
pub adds_widened : {p q : Page} {x : List ℕ} {j k : ℕ} → Adds j x p q → j ≤ k → Adds k x p q
adds_widened a h = record { put = record { put = a.put.put; short = omega (arith, a.put.short, h) }; same_buffer = a.same_buffer }
