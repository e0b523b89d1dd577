-- Laws of the end of a stage sheet: it is told alike in whatever it is told by, in the code's result too.
use Prim.Native.Nat.{ℕ}
use mathlib.Core.Path.{◌≡◌, refl, ap, ◌∙◌}
use mathlib.Core.Bool.{Bool, true, false, cond}
use mathlib.Core.List.{List, [], ◌∷◌}
use lib.Dec.{eqb}
use lib.ListN.{drop}
use Rattle.base.specs.declared.Refusal.{Refusal}
use Rattle.std.specs.Prelude.{Result, Ok, Err}
use Rattle.stage.specs.Steps.{due_number, due}
use Rattle.stage.specs.Read.{nothing_after, end_at}

module _ {A B : Type 0} (h : A → B) (known : ℕ → Bool) (stop : Refusal → A) where
  cond_map : (b : Bool) (x y : A) → h (cond b x y) ≡ cond b (h x) (h y)
  cond_map true x y = refl
  cond_map false x y = refl

  after_map : (whole : A) (at : ℕ) (bytes : List ℕ) → h (nothing_after stop whole at bytes) ≡ nothing_after (λ f. h (stop f)) (h whole) at bytes
  unfolding nothing_after
  after_map whole at [] = refl
  after_map whole at (b ∷ rest) = refl

  pub end_map : (whole : A) (at : ℕ) (bytes : List ℕ) → h (end_at known stop whole at bytes) ≡ end_at known (λ f. h (stop f)) (h whole) at bytes
  unfolding end_at due
  end_map whole at bytes = cond_map (eqb (due_number known 0x2F bytes) 0) _ _ ∙ rw (after_map whole at (drop 1 bytes))

-- what the reading of the end makes of it
abbrev pub by_result : {A : Type 0} → (Refusal → A) → A → Result Unit Refusal → A
by_result stop whole (Ok u) = whole
by_result stop whole (Err f) = stop f

pub end_told : {A : Type 0} (known : ℕ → Bool) (stop : Refusal → A) (whole : A) (at : ℕ) (bytes : List ℕ) (r : Result Unit Refusal)
    → r ≡ end_at known Err (Ok (tt {0})) at bytes → by_result stop whole r ≡ end_at known stop whole at bytes
end_told known stop whole at bytes r e = ap (by_result stop whole) e ∙ end_map (by_result stop whole) known Err (Ok (tt {0})) at bytes
