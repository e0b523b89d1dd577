-- `put_copy` meets its contract: the sections are put one after the other.
use native.Mathlib.Omega.{arith}
use Rattle.reader.proofs.Placed.{placed}
use Rattle.clean.specs.Copy.{copy_mark, copy_limit, copy_gate, copy_output}
use Rattle.clean.proofs.Storing.{copy_put}
use Rattle.clean.proofs.sections.put_copy.Goals as goal

pub put_section-gates-requires-clause-room : goal.put_section-gates-requires-clause-room
put_section-gates-requires-clause-room c =
    omega (arith, c.put_command-marks.ensures.short, c.put_section-limits.ensures.short, c.patterns_of-patterns.ensures.1)

pub put_section-outputs-requires-clause-room : goal.put_section-outputs-requires-clause-room
put_section-outputs-requires-clause-room c =
    omega (arith, c.put_command-marks.ensures.short, c.put_section-limits.ensures.short, c.put_section-gates.ensures.short, c.patterns_of-patterns.ensures.1)

pub put_section-end-requires-clause-room : goal.put_section-end-requires-clause-room
put_section-end-requires-clause-room c =
    let within = placed c.requires in
    omega (arith, c.put_command-marks.ensures.short, c.put_section-limits.ensures.short, c.put_section-gates.ensures.short, c.put_section-outputs.ensures.short, c.patterns_of-patterns.ensures.1, within.few_gates)

pub put_command-requires : goal.put_command-requires
put_command-requires c =
    let within = placed c.requires in
    omega (arith, c.put_command-marks.ensures.short, c.put_section-limits.ensures.short, c.put_section-gates.ensures.short, c.put_section-outputs.ensures.short, c.put_section-end.ensures.short, c.patterns_of-patterns.ensures.1, within.few_gates, within.few_outputs)

pub returns : goal.returns
returns c =
    let h = c.args.sheet in
    let patterns = c.patterns_of-patterns in
    copy_put h patterns.result (patterns.ensures.2 (placed c.requires).few_inputs) c.put_command-marks.ensures.put
    (c.put_section-limits.ensures.put (copy_mark h) (λ i r l p. p.1)) (c.put_section-gates.ensures.put (copy_limit h) (λ i r l p. p.1))
    (c.put_section-outputs.ensures.put (copy_gate h) (λ i r l p. p.1)) (c.put_section-end.ensures.put (copy_output h) (λ i r l p. p.1)) c.put_command.ensures.put
