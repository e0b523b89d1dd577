-- What is gathered, field by field, in terms of the commands.
use Prim.Native.Nat.{ℕ, ◌<◌, ◌≤◌, ◌^◌}
use mathlib.Core.Path.{◌≡◌, refl, sym, ◌∙◌}
use mathlib.Core.Bool.{Bool, true, false, cond, not, ◌||◌}
use mathlib.Core.List.{List, [], ◌∷◌}
use native.Mathlib.Omega.{arith}
use lib.Dec.{eqb}
use Rattle.sheet.specs.Limits.{max_inputs, max_patterns, max_gates, max_outputs}
use lib.ListN.{length, get_or}
use Rattle.std.specs.Prelude.{Err}
use Rattle.base.specs.declared.Refusal.{Refusal}
use Rattle.sheet.specs.Cases.{sheet_reply}
use Rattle.sheet.specs.declared.Command.{Command}
use Rattle.sheet.specs.declared.Command.TheVariants.{Sizes}
use Rattle.sheet.specs.Commands.{no_gate, collect, inputs_of, wires_of, is_marked, is_dont_care, has_row, gates_of, outputs_of, rows_on, dont_cares_on}
use Rattle.sheet.specs.Gathered.{tabulate, meet, gathered, no_mark, row_mark, dont_care_mark, mark_on, present_on, limit_on, gate_at, output_at}
use Rattle.base.proofs.Tabulate.{tabulate_at, tabulate_at_or}
use Rattle.sheet.proofs.Sizes.{pattern_place}

-- without commands nothing is gathered, as with sizes 0
pub nothing : gathered (Sizes 0 0 ∷ []) ≡ gathered []
unfolding gathered tabulate meet collect
nothing = refl

-- a refusal hands back a sheet of no sizes
pub refused_blank : (f : Refusal) → (sheet_reply (Err f)).sheet ≡ gathered (Sizes 0 0 ∷ [])
refused_blank f = sym nothing

module _ (cs : List Command) where
  pub inputs_field : (gathered cs).n ≡ inputs_of cs
  unfolding gathered
  inputs_field = refl

  pub wires_field : (gathered cs).m ≡ wires_of cs
  unfolding gathered
  wires_field = refl

  pub gates_field : (gathered cs).gate_count ≡ length (gates_of cs)
  unfolding gathered
  gates_field = refl

  pub outputs_field : (gathered cs).output_count ≡ length (outputs_of cs)
  unfolding gathered
  outputs_field = refl

  module _ (p : ℕ) (h : p < max_patterns) where
    pub mark_field : get_or (gathered cs).marks p 0 ≡ mark_on p cs
    unfolding gathered
    mark_field = tabulate_at max_patterns (λ q. mark_on q cs) p h

    pub value_field : get_or (gathered cs).values p 0 ≡ present_on p cs
    unfolding gathered
    value_field = tabulate_at max_patterns (λ q. present_on q cs) p h

    pub limit_field : get_or (gathered cs).limits p 0 ≡ limit_on p cs
    unfolding gathered
    limit_field = tabulate_at max_patterns (λ q. limit_on q cs) p h

  pub gate_field : (i : ℕ) → i < max_gates → get_or (gathered cs).gates i no_gate ≡ gate_at i cs
  unfolding gathered
  gate_field i h = tabulate_at_or no_gate max_gates (λ j. gate_at j cs) i h

  pub output_field : (i : ℕ) → i < max_outputs → get_or (gathered cs).signals i 0 ≡ output_at i cs
  unfolding gathered
  output_field i h = tabulate_at max_outputs (λ j. output_at j cs) i h

-- a pattern is marked exactly where its mark is not `no_mark`
by_mark : (a b : Bool) → cond a dont_care_mark (cond b row_mark no_mark) ≡ no_mark → a || b ≡ false
by_mark true b e = absurd (omega arith)
by_mark false true e = absurd (omega arith)
by_mark false false e = refl

by_none : (a b : Bool) → (cond a dont_care_mark (cond b row_mark no_mark) ≡ no_mark → ⊥) → a || b ≡ true
by_none true b e = refl
by_none false true e = refl
by_none false false e = absurd (e refl)

pub mark_none : (p : ℕ) (cs : List Command) → mark_on p cs ≡ no_mark → is_marked p cs ≡ false
mark_none p cs e = by_mark (is_dont_care p cs) (has_row p cs) e

pub mark_some : (p : ℕ) (cs : List Command) → (mark_on p cs ≡ no_mark → ⊥) → is_marked p cs ≡ true
mark_some p cs e = by_none (is_dont_care p cs) (has_row p cs) e

by_test : (a b : Bool) → eqb (cond a dont_care_mark (cond b row_mark no_mark)) no_mark ≡ not (a || b)
by_test true b = refl
by_test false true = refl
by_test false false = refl

pub mark_test : (p : ℕ) (cs : List Command) → eqb (mark_on p cs) no_mark ≡ not (is_marked p cs)
mark_test p cs = by_test (is_dont_care p cs) (has_row p cs)

-- a pattern of a sheet in range has its place in the lists
pub pattern_room : (cs : List Command) → inputs_of cs ≤ max_inputs → (p : ℕ) → p < 2 ^ inputs_of cs → p < max_patterns
pattern_room cs h p l = pattern_place (inputs_of cs) p h l

-- a pattern with one 02, and one with a 03
module _ (cs : List Command) (p : ℕ) (h : p < max_patterns) where
  pub present_mark : (v : ℕ) → rows_on p cs ≡ v ∷ [] → dont_cares_on p cs ≡ [] → get_or (gathered cs).marks p 0 ≡ row_mark
  present_mark v r d = mark_field cs p h ∙ rw (d, r)

  pub present_value : (v : ℕ) → rows_on p cs ≡ v ∷ [] → get_or (gathered cs).values p 0 ≡ v
  present_value v r = value_field cs p h ∙ rw r

  pub impossible_mark : dont_cares_on p cs ≡ p ∷ [] → get_or (gathered cs).marks p 0 ≡ dont_care_mark
  impossible_mark d = mark_field cs p h ∙ rw d
