-- Document 01, "Unit sheet": what the commands of a sheet say, told by the commands alone, in their order.
use Rattle.std.specs.Prelude.{ℕ, ◌+◌, Bool, true, false, cond, not, ◌||◌, List, [], ◌∷◌, ◌++◌, eqb, length, get_or}
use Rattle.sheet.specs.declared.Command.{Command}
use Rattle.sheet.specs.declared.LogicGate.{LogicGate}
use Rattle.sheet.specs.declared.Command.TheVariants.{End, Sizes, Row, DontCare, Gate, Output, Limit}

abbrev pub is_empty {ℓ} : {A : Type ℓ} → List A → Bool
is_empty [] = true
is_empty (x ∷ xs) = false

-- what the commands say, one after the other, where `says` tells what one of them does
unfoldable pub collect {ℓ} : {A : Type ℓ} → (Command → List A) → List Command → List A
collect says [] = []
collect says (c ∷ cs) = says c ++ collect says cs

-- a thing that is said of pattern q, where p is asked for
abbrev pub about {ℓ} : {A : Type ℓ} → ℕ → ℕ → A → List A
about p q x = cond (eqb q p) (x ∷ []) []

-- 01: the sizes that a command names
abbrev pub inputs_in : Command → List ℕ
inputs_in End = []
inputs_in (Sizes n m) = n ∷ []
inputs_in (Row p v) = []
inputs_in (DontCare p) = []
inputs_in (Gate k a b) = []
inputs_in (Output s) = []
inputs_in (Limit p w) = []

abbrev pub wires_in : Command → List ℕ
wires_in End = []
wires_in (Sizes n m) = m ∷ []
wires_in (Row p v) = []
wires_in (DontCare p) = []
wires_in (Gate k a b) = []
wires_in (Output s) = []
wires_in (Limit p w) = []

abbrev pub is_sizes : Command → Bool
is_sizes c = not (is_empty (inputs_in c))

-- n and m; 0 where there is no 01 yet
abbrev pub inputs_of : List Command → ℕ
inputs_of cs = get_or (collect inputs_in cs) 0 0

abbrev pub wires_of : List Command → ℕ
wires_of cs = get_or (collect wires_in cs) 0 0

-- 02: the present value of a pattern
abbrev pub row_in : ℕ → Command → List ℕ
row_in p End = []
row_in p (Sizes n m) = []
row_in p (Row q v) = about p q v
row_in p (DontCare q) = []
row_in p (Gate k a b) = []
row_in p (Output s) = []
row_in p (Limit q w) = []

-- the values of all 02 for pattern p
abbrev pub rows_on : ℕ → List Command → List ℕ
rows_on p = collect (row_in p)

-- 03: an impossible pattern (an external don't care)
abbrev pub dont_care_in : ℕ → Command → List ℕ
dont_care_in p End = []
dont_care_in p (Sizes n m) = []
dont_care_in p (Row q v) = []
dont_care_in p (DontCare q) = about p q q
dont_care_in p (Gate k a b) = []
dont_care_in p (Output s) = []
dont_care_in p (Limit q w) = []

-- the patterns of all 03 for pattern p: p once for each
abbrev pub dont_cares_on : ℕ → List Command → List ℕ
dont_cares_on p = collect (dont_care_in p)

-- pattern p has a 02, has a 03, has one of the two
abbrev pub has_row : ℕ → List Command → Bool
has_row p cs = not (is_empty (rows_on p cs))

abbrev pub is_dont_care : ℕ → List Command → Bool
is_dont_care p cs = not (is_empty (dont_cares_on p cs))

abbrev pub is_marked : ℕ → List Command → Bool
is_marked p cs = is_dont_care p cs || has_row p cs

-- 04: a gate, its kind and its two signals
abbrev pub no_gate : LogicGate
no_gate = record { kind = 0; left = 0; right = 0 }

abbrev pub gate_in : Command → List LogicGate
gate_in End = []
gate_in (Sizes n m) = []
gate_in (Row p v) = []
gate_in (DontCare p) = []
gate_in (Gate k a b) = record { kind = k; left = a; right = b } ∷ []
gate_in (Output s) = []
gate_in (Limit p w) = []

-- the gates in their order: gate i is signal m + i
abbrev pub gates_of : List Command → List LogicGate
gates_of = collect gate_in

-- how many signals there are: the wires, and after them one for each gate
abbrev pub signals_made : List Command → ℕ
signals_made cs = wires_of cs + length (gates_of cs)

-- 05: one output more
abbrev pub output_in : Command → List ℕ
output_in End = []
output_in (Sizes n m) = []
output_in (Row p v) = []
output_in (DontCare p) = []
output_in (Gate k a b) = []
output_in (Output s) = s ∷ []
output_in (Limit p w) = []

abbrev pub outputs_of : List Command → List ℕ
outputs_of = collect output_in

-- 06: the permitted values of a pattern
abbrev pub limit_in : ℕ → Command → List ℕ
limit_in p End = []
limit_in p (Sizes n m) = []
limit_in p (Row q v) = []
limit_in p (DontCare q) = []
limit_in p (Gate k a b) = []
limit_in p (Output s) = []
limit_in p (Limit q w) = about p q w

-- the sets of all 06 for pattern p
abbrev pub limits_on : ℕ → List Command → List ℕ
limits_on p = collect (limit_in p)
