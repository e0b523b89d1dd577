-- What the number of a quote's refusal tells of the sheet: 10, 15, or neither.
use Prim.Native.Nat.{ℕ, ◌^◌, ◌<◌, ◌≤◌}
use mathlib.Core.Path.{◌≡◌, refl, sym, ap, ◌∙◌}
use mathlib.Core.Logic.{◌↔◌}
use mathlib.Core.Bool.{true, false}
use mathlib.Core.List.{List}
use native.Mathlib.Omega.{arith}
use borrow.Author.Tests.{lt-ltb, le-ltb}
use Rattle.base.specs.declared.Refusal.{Refusal}
use Rattle.base.specs.Refusals.{empty, too_wide}
use Rattle.nodes.specs.declared.BoardKind.{BoardKind}
use Rattle.nodes.specs.declared.BoardKind.TheVariants.{Tree}
use Rattle.nodes.specs.Counts.{count_of, most_inputs}
use Rattle.relation.specs.declared.Relation.{Relation}
use Rattle.sheet.specs.declared.Command.{Command}
use Rattle.sheet.specs.Commands.{inputs_of}
use Rattle.sheet.specs.Limits.{max_inputs}
use Rattle.sheet.specs.Judged.{holds, refused}
use Rattle.reader.specs.Reading.{reading_of}
use Rattle.reader.proofs.Numbers.{reading_early}
use Rattle.reader.proofs.Sound.{sound}
use Rattle.table.specs.Inner.Drawing.{FairCount}
use Rattle.stage.specs.Trees.{tree_drawing}
use Rattle.diagram.specs.Forms.{drawing_of}
use Rattle.diagram.proofs.Forms.{form_fair}
use Rattle.unit.proofs.Told.{empty_in}
use Rattle.unit.specs.Rival.{Rival}
use Rattle.unit.proofs.Rivals.{commands_only, some_rival, no_rival}
use Rattle.quote.specs.Quote.{is_too_wide}
use Rattle.quote.specs.Promised.{NoRival, TooWide}

-- the test of the inputs
pub is_wide : (kind : BoardKind) (r : Relation) → most_inputs kind < r.n → is_too_wide kind r ≡ true
is_wide kind r many = lt-ltb (most_inputs kind) r.n many

pub not_wide : (kind : BoardKind) (r : Relation) → r.n ≤ most_inputs kind → is_too_wide kind r ≡ false
not_wide kind r few = le-ltb (most_inputs kind) r.n few

-- the promise's clauses on 10 and 15
pub record NumberTold (kind : BoardKind) (sheet : List ℕ) (k : ℕ) : Type 0 where
  pub ten : (k ≡ empty) ↔ NoRival (drawing_of kind) sheet
  pub by_trees : (k ≡ empty) ↔ NoRival tree_drawing sheet
  pub wide : (k ≡ too_wide) ↔ TooWide (most_inputs kind) sheet

-- on the board of trees 15 never comes: no sheet that is read has more inputs
pub never_wide : (sheet : List ℕ) → TooWide max_inputs sheet → ⊥
never_wide sheet h = omega (arith, h.many, (sound sheet h.commands h.held).sizes.n_most)

-- reading refuses the sheet: by a number that is neither, and nobody has a stage for it
module _ (kind : BoardKind) (sheet : List ℕ) (f : Refusal) (e : reading_of sheet ≡ refused f) where
  apart : (cs : List Command) → reading_of sheet ≡ holds cs → ⊥
  apart cs h = let d : holds cs ≡ refused f = sym h ∙ e in let z : ◌≡◌ {A = ℕ} 0 1 = cc in omega arith

  not_ten : (on : BoardKind) → (f.number ≡ empty) ↔ NoRival (drawing_of on) sheet
  not_ten on = (λ w. absurd (omega (arith, reading_early sheet f e)), λ h. absurd (apart h.commands h.held))

  pub unread_told : NumberTold kind sheet f.number
  unread_told =
      record {
        ten = not_ten kind;
        by_trees = not_ten Tree;
        wide = (λ w. absurd (omega (arith, reading_early sheet f e)), λ h. absurd (apart h.commands h.held));
      }

module _ (kind : BoardKind) (sheet : List ℕ) (cs : List Command) (e : reading_of sheet ≡ holds cs) where
  fair : (on : BoardKind) → FairCount (drawing_of on) (inputs_of cs) (count_of on (inputs_of cs))
  fair on = form_fair on (inputs_of cs) (sound sheet cs e).sizes.n_most

  -- some pattern is empty: 10, and no stage of either board keeps to the sheet
  module _ (l : empty_in cs < 2 ^ inputs_of cs) where
    none : (on : BoardKind) (stage : List (drawing_of on).Shape) → Rival (drawing_of on) sheet stage → ⊥
    none on = (no_rival (drawing_of on) sheet cs e (count_of on (inputs_of cs)) (fair on)).0 l

    is_ten : (on : BoardKind) → (empty ≡ empty) ↔ NoRival (drawing_of on) sheet
    is_ten on = (λ _. record { commands = cs; held = e; none = none on }, λ _. refl)

    pub empty_told : NumberTold kind sheet empty
    empty_told =
        record {
          ten = is_ten kind;
          by_trees = is_ten Tree;
          wide = (λ w. absurd (omega arith), λ h. absurd (none Tree h.stage h.rival));
        }

  -- none is: some stage of each board keeps to the sheet, and 10 does not come
  module _ (l : 2 ^ inputs_of cs ≤ empty_in cs) where
    some : (on : BoardKind) → (stage : List (drawing_of on).Shape) × Rival (drawing_of on) sheet stage
    some on = some_rival (drawing_of on) sheet cs e (count_of on (inputs_of cs)) (fair on) l

    other : (on : BoardKind) (k : ℕ) → (k ≡ empty → ⊥) → (k ≡ empty) ↔ NoRival (drawing_of on) sheet
    other on k ne = (λ w. absurd (ne w), λ h. let s = some on in absurd (h.none s.0 s.1))

    -- more inputs than the board has lines: 15
    pub wide_told : most_inputs kind < inputs_of cs → NumberTold kind sheet too_wide
    wide_told many =
        let s = some Tree in
        record {
          ten = other kind too_wide (λ w. omega arith);
          by_trees = other Tree too_wide (λ w. omega arith);
          wide = (λ _. record { commands = cs; held = e; many = many; stage = s.0; rival = s.1 }, λ _. refl);
        }

    -- no more than it has: any other number, and 0 where nothing is refused
    pub other_told : inputs_of cs ≤ most_inputs kind → (k : ℕ) → (k ≡ empty → ⊥) → (k ≡ too_wide → ⊥) → NumberTold kind sheet k
    other_told few k ne nw =
        record {
          ten = other kind k ne;
          by_trees = other Tree k ne;
          wide = (λ w. absurd (nw w), λ h. absurd (omega (arith, h.many, ap inputs_of (commands_only sheet h.commands cs h.held e))));
        }
