-- `set_on` meets its contract: by the pattern's mark.
use Prim.Native.Nat.{ℕ, ◌^◌, ◌<◌}
use mathlib.Core.Path.{◌≡◌, sym, ap, subst, ◌∙◌}
use native.Mathlib.Omega.{arith}
use lib.Bits.{bit_and}
use lib.Dec.{eqb}
use lib.ListN.{get_or}
use Rattle.table.specs.Bits.{bit}
use Rattle.sheet.specs.declared.Sheet.{Sheet}
use Rattle.sheet.specs.Commands.{inputs_of}
use Rattle.sheet.specs.Limits.{max_patterns, max_values}
use Rattle.sheet.specs.Gathered.{row_mark}
use Rattle.sheet.proofs.Fields.{inputs_field, pattern_room}
use Rattle.unit.specs.Formed.{set_on}
use Rattle.reader.specs.Inner.WasRead.{WasRead}
use Rattle.unit.specs.Inner.Forming.{same_outputs}
use Rattle.reader.proofs.Placed.{held_sound}
use Rattle.unit.proofs.Allowed.{HasAlike, set_unmarked, set_marked, present_below}
use Rattle.unit.proofs.Members.{told_test}
use Rattle.unit.proofs.Outputs.{words_test}
use Rattle.unit.proofs.sets.set_on.Goals as goal

-- `set_on` meets its contract: by the pattern's mark.
module _ {sheet : Sheet} (h : WasRead sheet) (p : ℕ) (l : p < 2 ^ sheet.n) where
  inside : p < 2 ^ inputs_of h.commands
  inside = subst (λ n. p < 2 ^ n) (ap (λ (x : Sheet). x.n) h.gathers ∙ inputs_field h.commands) l

  room : p < max_patterns
  room = pattern_room h.commands (held_sound h).sizes.n_most p inside

  unmarked : (get_or sheet.marks p 0 ≡ row_mark → ⊥) → get_or sheet.limits p 0 ≡ set_on h.commands p
  unmarked =
      subst (λ (x : Sheet). (get_or x.marks p 0 ≡ row_mark → ⊥) → get_or x.limits p 0 ≡ set_on h.commands p) (sym h.gathers)
      (set_unmarked h.commands (held_sound h) p inside)

  marked : (w : ℕ) → HasAlike h.commands (get_or sheet.values p 0) w → get_or sheet.marks p 0 ≡ row_mark
      → bit_and (get_or sheet.limits p 0) w ≡ set_on h.commands p
  marked w =
      subst
      (λ (x : Sheet).
      HasAlike h.commands (get_or x.values p 0) w → get_or x.marks p 0 ≡ row_mark → bit_and (get_or x.limits p 0) w ≡ set_on h.commands p)
      (sym h.gathers)
      (set_marked h.commands (held_sound h) p inside w)

  present_room : get_or sheet.marks p 0 ≡ row_mark → get_or sheet.values p 0 < max_values
  present_room =
      subst (λ (x : Sheet). get_or x.marks p 0 ≡ row_mark → get_or x.values p 0 < max_values) (sym h.gathers)
      (present_below h.commands (held_sound h) p inside)

pub bounds-sheet-at : goal.bounds-sheet-at
bounds-sheet-at c = omega (arith, room c.requires.0 c.args.p c.requires.1)

pub bounds-sheet-at-2 : goal.bounds-sheet-at-2
bounds-sheet-at-2 c = omega (arith, room c.requires.0 c.args.p c.requires.1)

pub returns-then-sheet-at-ne-ROW : goal.returns-then-sheet-at-ne-ROW
returns-then-sheet-at-ne-ROW c =
    let i = c in
    λ h is. unmarked h i.args.p i.requires.1 c.if-sheet-at-ne-ROW.true

pub bounds-sheet-at-3 : goal.bounds-sheet-at-3
bounds-sheet-at-3 c = let i = c in omega (arith, room i.requires.0 i.args.p i.requires.1)

pub alike-requires : goal.alike-requires
alike-requires c =
    let i = c in
    present_room i.requires.0 i.args.p i.requires.1 c.if-sheet-at-ne-ROW.false

pub returns : goal.returns
returns c =
    let i = c in
    let u = get_or i.args.sheet.values i.args.p 0 in
    λ h is.
    marked h i.args.p i.requires.1 c.alike.result
    (λ v l.
    ap (λ x. eqb (bit x v) 1) c.alike.ensures
    ∙ told_test (same_outputs i.args.outputs u) max_values v l
    ∙ words_test h.commands (held_sound h).outputs.few i.args.outputs is u v (present_room h i.args.p i.requires.1 c.if-sheet-at-ne-ROW.false) l)
    c.if-sheet-at-ne-ROW.false
