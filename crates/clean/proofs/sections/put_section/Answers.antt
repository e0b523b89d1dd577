use mathlib.Core.Path.{◌≡◌, refl, ◌∙◌}
use native.Mathlib.Omega.{arith}
use Rattle.clean.proofs.Storing.{no_pieces, one_more}
use Rattle.clean.proofs.sections.put_section.Goals as goal

pub loop-i-init : goal.loop-i-init
loop-i-init g c = record { kept = refl; short = omega arith; put = λ says h. no_pieces _ _ says }

pub loop-i-preserved : goal.loop-i-preserved
loop-i-preserved g c =
    let l = c.loop-i in
    let one = c.put_some-next in
    record {
      kept = one.auto.out ∙ l.invariant.kept;
      short = omega (arith, l.invariant.short, one.ensures.short);
      put = λ says h.
          let said = h l.i c.said.result c.loop-i-test.true c.said.ensures in
          one_more says l.i (l.invariant.put says h) (rw said at one.ensures.put);
    }

pub returns : goal.returns
returns g c =
    let l = c.loop-i in
    let whole : l.i ≡ c.args.count = omega arith in
    record { short = omega (arith, l.invariant.short); put = rw whole at l.invariant.put }
