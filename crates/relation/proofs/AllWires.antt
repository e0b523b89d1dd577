-- The m wires of a relation among all wires that there can be: those past the last change nothing.
use mathlib.Core.Path.{◌≡◌, ap, ap₂, ◌∙◌}
use mathlib.Core.Bool.{Bool, ◌&&◌}
use mathlib.Core.List.{List}
use Prim.Native.Nat.{ℕ, ◌^◌, ◌<◌, ◌≤◌}
use Rattle.sheet.specs.Limits.{max_wires}
use Rattle.sheet.proofs.Sizes.{value_place}
use Rattle.base.proofs.Tests.{test_ext}
use Rattle.table.specs.Bits.{bit}
use Rattle.table.proofs.Bits.{zero_bit, of_bits_short}
use Rattle.relation.specs.Source.{value}
use Rattle.relation.specs.Tests.{occurs, is_open}
use Rattle.table.specs.Cells.{wires}
use Rattle.relation.specs.Inner.Members.{member}
use Rattle.relation.proofs.Decide.{occurs_intro, occurs_at}
use Rattle.relation.proofs.Members.{member_lt}

-- all wires and m wires project alike where no value needs more than m
pub occurs_all_wires : (m w j b : ℕ) → m ≤ max_wires → w < 2 ^ (2 ^ m) → occurs max_wires (member w) j b ≡ occurs m (member w) j b
occurs_all_wires m w j b h l =
    test_ext (occurs max_wires (member w) j b) (occurs m (member w) j b)
    (λ t. let u = occurs_at max_wires (member w) j b t in occurs_intro m (member w) j b u.0 (member_lt w (2 ^ m) u.0 l u.2) u.2 u.3)
    (λ t. let u = occurs_at m (member w) j b t in occurs_intro max_wires (member w) j b u.0 (value_place m u.0 h u.1) u.2 u.3)

pub free_all_wires : (m w j : ℕ) → m ≤ max_wires → w < 2 ^ (2 ^ m) → is_open max_wires (member w) j ≡ is_open m (member w) j
unfolding is_open
free_all_wires m w j h l = ap₂ (λ (x y : Bool). x && y) (occurs_all_wires m w j 0 h l) (occurs_all_wires m w j 1 h l)

-- the value of as many tables as there can be wires, those past wire m - 1 being 0
pub value_all_wires : (m : ℕ) (ts : List ℕ) (p : ℕ) → m ≤ max_wires → ((j : ℕ) → m ≤ j → wires ts j ≡ 0) → value max_wires (wires ts) p ≡ value m (wires ts) p
unfolding value
value_all_wires m ts p h z = of_bits_short (λ j. bit (wires ts j) p) m max_wires h (λ j l. ap (λ x. bit x p) (z j l) ∙ zero_bit p)
