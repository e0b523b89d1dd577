-- `new` meets its contract: each test in its order.
use Rattle.std.proofs.Common.{◌≡◌, ℕ, ◌≤◌, ◌<◌, ◌^◌, List, Bool, true, false, get_or, Some, None, refl, sym, ap, ◌∙◌}
use borrow.Author.Tests.{le-ltb}
use Rattle.base.specs.Buffers.{fitted}
use Rattle.base.specs.Inner.Lowest.{first_below}
use Rattle.base.proofs.Lowest.{some_lowest, none_lowest}
use Rattle.sheet.specs.Limits.{sizes_out, is_beyond}
use Rattle.sheet.specs.Inner.Sized.{Sized}
use Rattle.sheet.proofs.Sizes.{sizes_in}
use Rattle.nodes.specs.declared.BoardKind.{BoardKind}
use Rattle.nodes.specs.Counts.{most_inputs}
use Rattle.stage.specs.Written.{stage_of, first_out, written_of}
use Rattle.stage.proofs.Written.{tables_in, sizes_refused, table_refused}
use Rattle.diagram.specs.Forms.{form_of}
use Rattle.diagram.proofs.Forms.{form_most}
use Rattle.stage_writer.proofs.tables.Stage.new.Goals as goal

-- what the search for a table that is too large tells of the first
found_out : (n m : ℕ) (tables : List ℕ) (w : ℕ) → Some w ≡ first_below m (λ j. is_beyond (2 ^ n) (get_or tables j 0))
    → (first_out n m tables ≡ w) × (first_out n m tables < m)
unfolding first_out
found_out n m tables w e = some_lowest m _ w (sym e)

none_out : (n m : ℕ) (tables : List ℕ) → None ≡ first_below m (λ j. is_beyond (2 ^ n) (get_or tables j 0)) → m ≤ first_out n m tables
unfolding first_out
none_out n m tables e = none_lowest m _ (sym e)

module _ (kind : BoardKind) (n m : ℕ) where
  -- the test of the sizes by what the form has
  abbrev out_on : Bool
  out_on = sizes_out (form_of kind).most n m

  tested : {most : ℕ} {out : Bool} → most ≡ most_inputs kind → out ≡ sizes_out most n m → out ≡ out_on
  tested told out = out ∙ ap (λ k. sizes_out k n m) (told ∙ sym (form_most kind))

  sized : out_on ≡ false → Sized (form_of kind).most n m
  sized h = sizes_in (form_of kind).most n m h

  few : out_on ≡ false → n ≤ most_inputs kind
  few h = rw (← form_most kind) (sized h).n_most

  -- all is in range: the room decides
  in_range_fitted : (tables : List ℕ) (room : ℕ) → out_on ≡ false → m ≤ first_out n m tables
      → written_of (form_of kind) n m tables room ≡ fitted (stage_of (form_of kind) n m tables) room
  unfolding written_of
  in_range_fitted tables room sizes h = rw (sizes, le-ltb _ _ h)

pub returns-then-sizes_out : goal.returns-then-sizes_out
returns-then-sizes_out c room =
    let a = c.args in
    let out : out_on a.kind a.n a.m ≡ true = sym (tested a.kind a.n a.m c.most_inputs.ensures c.sizes_out.ensures) ∙ c.if-sizes_out.true in
    rw c.at.ensures (sizes_refused (form_of a.kind) a.n a.m a.tables room out)

pub returns-in-Some : goal.returns-in-Some
returns-in-Some c room =
    let a = c.args in
    let in_range = sym (tested a.kind a.n a.m c.most_inputs.ensures c.sizes_out.ensures) ∙ c.if-sizes_out.false in
    let wire = found_out a.n a.m a.tables c.in-Some.wire c.in-Some.ensures in
    rw (c.at-in-Some.ensures, ← wire.0) (table_refused (form_of a.kind) a.n a.m a.tables room in_range wire.1)

pub invariant_of-result : goal.invariant_of-result
invariant_of-result c =
    let a = c.args in
    let in_range = sym (tested a.kind a.n a.m c.most_inputs.ensures c.sizes_out.ensures) ∙ c.if-sizes_out.false in
    record {
      few_inputs = few a.kind a.n a.m in_range;
      few_wires = (sized a.kind a.n a.m in_range).m_most;
      in_range = tables_in a.n a.m a.tables (none_out a.n a.m a.tables c.in_default.ensures);
    }

pub returns : goal.returns
returns c =
    let a = c.args in
    let in_range = sym (tested a.kind a.n a.m c.most_inputs.ensures c.sizes_out.ensures) ∙ c.if-sizes_out.false in
    (refl, refl, refl, refl, λ room. in_range_fitted a.kind a.n a.m a.tables room in_range (none_out a.n a.m a.tables c.in_default.ensures))
