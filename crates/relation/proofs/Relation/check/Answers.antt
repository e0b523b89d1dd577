-- `check` meets its contract: one law for each of its four replies.
use mathlib.Core.Path.{◌≡◌, sym, ◌∙◌}
use mathlib.Core.Bool.{Bool, false}
use Prim.Native.Nat.{ℕ, ◌<◌, ◌≤◌, ◌^◌}
use native.Mathlib.Omega.{arith}
use lib.Dec.{eqb}
use lib.ListN.{get_or}
use Rattle.std.specs.Prelude.{Some, None}
use Rattle.base.specs.Lowest.{lowest}
use Rattle.base.specs.Inner.Lowest.{first_below}
use Rattle.base.proofs.Lowest.{some_lowest, none_lowest}
use Rattle.sheet.specs.Limits.{max_inputs, sizes_out, is_beyond}
use Rattle.sheet.specs.Inner.Sized.{Sized}
use Rattle.sheet.proofs.Sizes.{sizes_in}
use Rattle.relation.specs.declared.Relation.{Relation}
use Rattle.relation.specs.Handed.{wide_pattern, relation_of}
use Rattle.relation.specs.Tests.{empty_pattern}
use Rattle.relation.proofs.Fits.{sized_within, sets_below, empty_zero, check_sizes, check_wide, check_none, check_passed}
use Rattle.relation.proofs.Relation.check.Goals as goal

-- `check` meets its contract: one law for each of its four replies.
-- sizes that pass are sizes of a sheet
sizes_of : (most : ℕ) (r : Relation) → most ≤ max_inputs → sizes_out most r.n r.m ≡ false → Sized max_inputs r.n r.m
sizes_of most r h e = sized_within most r.n r.m h (sizes_in most r.n r.m e)

-- the first set that is too wide, as the test has it
abbrev wide_at : Relation → ℕ → Bool
wide_at r p = is_beyond (2 ^ r.m) (get_or r.sets p 0)

wide_some : (r : Relation) (p : ℕ) → first_below (2 ^ r.n) (wide_at r) ≡ Some p → (wide_pattern r.n r.m r.sets ≡ p) × (wide_pattern r.n r.m r.sets < 2 ^ r.n)
unfolding wide_pattern
wide_some r p e = some_lowest (2 ^ r.n) (wide_at r) p e

wide_none : (r : Relation) → first_below (2 ^ r.n) (wide_at r) ≡ None → 2 ^ r.n ≤ wide_pattern r.n r.m r.sets
unfolding wide_pattern
wide_none r e = none_lowest (2 ^ r.n) (wide_at r) e

-- the first set that is 0 is the first that is empty, once no set is too wide
none_is : (r : Relation) → 2 ^ r.n ≤ wide_pattern r.n r.m r.sets → lowest (2 ^ r.n) (λ p. eqb (get_or r.sets p 0) 0) ≡ empty_pattern r.n r.m (relation_of r)
unfolding relation_of
none_is r w = sym (empty_zero r.n r.m r.sets (sets_below r.n r.m r.sets w))

pub returns-then-sizes_out : goal.returns-then-sizes_out
returns-then-sizes_out c =
    let most = c.args.most in
    let r = c.args.self in
    rw (c.at.ensures, check_sizes most r (sym c.sizes_out.ensures ∙ c.if-sizes_out.true))

pub wide_pattern-requires : goal.wide_pattern-requires
wide_pattern-requires c =
    let most = c.args.most in
    let r = c.args.self in
    let z = sizes_of most r c.requires (sym c.sizes_out.ensures ∙ c.if-sizes_out.false) in
    (z.n_most, z.m_most)

pub returns-in-Some : goal.returns-in-Some
returns-in-Some c =
    let most = c.args.most in
    let r = c.args.self in
    let sizes = sym c.sizes_out.ensures ∙ c.if-sizes_out.false in
    let w = wide_some r c.in-Some.p (sym c.wide_pattern.ensures ∙ c.in-Some.is) in
    rw (c.at-in-Some.ensures, check_wide most r sizes w.1, w.0)

pub empty_pattern-requires : goal.empty_pattern-requires
empty_pattern-requires c =
    let most = c.args.most in
    let r = c.args.self in
    (sizes_of most r c.requires (sym c.sizes_out.ensures ∙ c.if-sizes_out.false)).n_most

pub returns-in-Some-empty_pattern : goal.returns-in-Some-empty_pattern
returns-in-Some-empty_pattern c =
    let most = c.args.most in
    let r = c.args.self in
    let sizes = sym c.sizes_out.ensures ∙ c.if-sizes_out.false in
    let w = wide_none r (sym c.wide_pattern.ensures ∙ c.in_default.is) in
    let h = c.in-Some-empty_pattern in
    let e = some_lowest (2 ^ r.n) (λ p. eqb (get_or r.sets p 0) 0) h.p (sym c.empty_pattern.ensures ∙ h.is) in
    let none = none_is r w in
    rw (c.at-in-Some-empty_pattern.ensures, check_none most r sizes w (omega (arith, none, e.1)), sym none, e.0)

pub returns : goal.returns
returns c =
    let most = c.args.most in
    let r = c.args.self in
    let sizes = sym c.sizes_out.ensures ∙ c.if-sizes_out.false in
    let w = wide_none r (sym c.wide_pattern.ensures ∙ c.in_default.is) in
    let z = none_lowest (2 ^ r.n) (λ p. eqb (get_or r.sets p 0) 0) (sym c.empty_pattern.ensures ∙ c.in_default-empty_pattern.is) in
    sym (check_passed most r sizes w (omega (arith, none_is r w, z)))
