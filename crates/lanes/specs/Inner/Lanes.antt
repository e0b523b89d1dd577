-- What is kept for all wires side by side in one number: a lane of equal width for each wire, so that one step is made for all of them.
use Rattle.std.specs.Prelude.{ℕ, ◌+◌, ◌*◌, ◌-◌, ◌/◌, ◌%◌, ◌^◌, ◌<◌, ◌≡◌, cond, eqb}
use Rattle.base.specs.Lowest.{lowest}
use Rattle.sheet.specs.Limits.{max_wires, max_values}
use Rattle.table.specs.Bits.{bit, sum}

-- a lane has a bit for each value of a set. A section has as many patterns, so that a section of a table is a lane too
abbrev pub lane_bits : ℕ
lane_bits = max_values

-- the numbers of a lane are those below this
abbrev pub lane_space : ℕ
lane_space = 2 ^ lane_bits

-- those of a lane whose highest bit is 0
abbrev pub half_lane : ℕ
half_lane = 2 ^ (lane_bits - 1)

-- the numbers that have a lane for each wire and nothing above them
abbrev pub lanes_space : ℕ
lanes_space = 2 ^ (lane_bits * max_wires)

-- one in each lane
abbrev pub each_lane : ℕ
each_lane = 1 + lane_space + lane_space ^ 2 + lane_space ^ 3

-- the lane of wire j
unfoldable pub lane_of : ℕ → ℕ → ℕ
lane_of x j = x / 2 ^ (lane_bits * j) % lane_space

-- the number whose lane of wire j is f j
unfoldable pub lanes_of : (ℕ → ℕ) → ℕ
lanes_of f = sum max_wires (λ j. f j * 2 ^ (lane_bits * j))

-- the number once the lane of wire j is y
unfoldable pub put_lane : (x j y : ℕ) → ℕ
put_lane x j y = lanes_of (λ i. cond (eqb i j) y (lane_of x i))

-- every lane is below k: where k is 2, a lane is a bit of its wire
abbrev pub LanesBelow : (k x : ℕ) → Type 0
LanesBelow k x = (j : ℕ) → j < max_wires → lane_of x j < k

-- a number has the bits of one of two numbers, by a third
abbrev pub Chosen : (t z o r : ℕ) → Type 0
Chosen t z o r = (i : ℕ) → bit r i ≡ cond (eqb (bit t i) 1) (bit o i) (bit z i)

-- the first wire whose lane is 1; max_wires where there is none
abbrev pub first_wire : ℕ → ℕ
first_wire x = lowest max_wires (λ j. eqb (lane_of x j) 1)
