-- The two masks of a wire on one section, narrow_patterns patterns, in one number: how a pattern's bits stand there, and how it is cut.
use Rattle.std.specs.Prelude.{ℕ, ◌+◌, ◌*◌, Bool, not, List, get_or}
use Rattle.sheet.specs.Limits.{max_wires}
use Rattle.table.specs.Bits.{tabulate, is_one}
use Rattle.table.specs.Inner.Pairs.{upper_half, zeros_in, ones_in, paired}
use Rattle.relation.specs.Tests.{occurs}
use Rattle.relation.specs.Inner.Members.{member}
use Rattle.relation.specs.Inner.Masks.{cut}

-- a pattern's bits in a pair, where both 0 and 1 occur
abbrev pub both_sides : ℕ
both_sides = 1 + upper_half

-- a pattern's bits in a pair, before they are put at its seat
abbrev pub bits_of : (ones zeros : Bool) → ℕ
bits_of ones zeros = is_one ones + upper_half * is_one zeros

-- what occurs of wire j in its set w
unfoldable pub sides_of : ℕ → ℕ → ℕ
sides_of w j = bits_of (occurs max_wires (member w) j 1) (occurs max_wires (member w) j 0)

-- what does not
unfoldable pub lost_of : ℕ → ℕ → ℕ
lost_of w j = bits_of (not (occurs max_wires (member w) j 1)) (not (occurs max_wires (member w) j 0))

-- a pair once pattern p of its section has the set w: the pattern goes from the masks of what no longer occurs
unfoldable pub cut_pair : ℕ → ℕ → ℕ → ℕ → ℕ
cut_pair x p w j =
    paired (cut (zeros_in x) p (occurs max_wires (member w) j 0)) (cut (ones_in x) p (occurs max_wires (member w) j 1))

-- the same of the pairs of all wires
unfoldable pub cut_pairs : List ℕ → ℕ → ℕ → List ℕ
cut_pairs row p w = tabulate max_wires (λ j. cut_pair (get_or row j 0) p w j)
