use borrow.Author.Rules.{rules}
use Prim.Native.Nat.{ℕ, ◌^◌, ◌<◌, ◌≤◌}
use mathlib.Core.Path.{◌≡◌, ap, subst, ◌∙◌}
use mathlib.Core.Bool.{cond}
use mathlib.Core.List.{List}
use native.Mathlib.Omega.{arith}
use lib.Dec.{ltb, ltb→lt, nltb→le}
use lib.ListN.{length, get_or, length-set}
use lib.Seq.{get_or-set_other}
use Rattle.base.proofs.Tests.{cond_has}
use Rattle.table.specs.Bits.{tabulate}
use Rattle.relation.specs.declared.Relation.{Relation}
use Rattle.base.proofs.Tabulate.{filled_more, filled_tabulate, zeros_entry}
use Rattle.sheet.specs.Limits.{max_patterns}
use Rattle.sheet.specs.declared.Sheet.{Sheet}
use Rattle.sheet.specs.Commands.{inputs_of, wires_of}
use Rattle.sheet.proofs.Fields.{inputs_field, wires_field}
use Rattle.unit.specs.Formed.{set_on, relation_in}
use Rattle.reader.specs.Inner.WasRead.{WasRead}
use Rattle.reader.proofs.Placed.{placed}
use Rattle.unit.proofs.sets.relation_of.Goals as goal

-- the sets of the patterns there are, and none past them
module _ {sheet : Sheet} (h : WasRead sheet) (sets : List ℕ) (long : length sets ≡ max_patterns)
    (held : (q : ℕ) → q < 2 ^ sheet.n → get_or sets q 0 ≡ set_on h.commands q) (past : (q : ℕ) → 2 ^ sheet.n ≤ q → get_or sets q 0 ≡ 0) where
  inputs : sheet.n ≡ inputs_of h.commands
  inputs = ap (λ (x : Sheet). x.n) h.gathers ∙ inputs_field h.commands

  wires : sheet.m ≡ wires_of h.commands
  wires = ap (λ (x : Sheet). x.m) h.gathers ∙ wires_field h.commands

  entry : (q : ℕ) → q < max_patterns → get_or sets q 0 ≡ cond (ltb q (2 ^ inputs_of h.commands)) (set_on h.commands q) 0
  entry q _ =
      subst (λ n. get_or sets q 0 ≡ cond (ltb q (2 ^ n)) (set_on h.commands q) 0) inputs
      (cond_has (λ x. get_or sets q 0 ≡ x) (ltb q (2 ^ sheet.n)) (λ l. held q (ltb→lt q (2 ^ sheet.n) l)) (λ l. past q (nltb→le q (2 ^ sheet.n) l)))

  whole : ◌≡◌ {A = Relation} (record { n = sheet.n; m = sheet.m; sets = sets }) (relation_in h.commands)
  unfolding relation_in
  whole = same inputs wires (filled_tabulate max_patterns (λ p. cond (ltb p (2 ^ inputs_of h.commands)) (set_on h.commands p) 0) sets long entry)
    where
      same : {n n' m m' : ℕ} {s s' : List ℕ} → n ≡ n' → m ≡ m' → s ≡ s'
          → ◌≡◌ {A = Relation} (record { n = n; m = m; sets = s }) (record { n = n'; m = m'; sets = s' })
      same a b d = cc

pub output_words-outputs-requires : goal.output_words-outputs-requires
output_words-outputs-requires c = c.requires

pub loop-p-init : goal.loop-p-init
unfolding tabulate
loop-p-init c =
    (omega arith, search rules, λ q l. zeros_entry max_patterns q, λ h q l. absurd (omega arith))

pub set_on-requires : goal.set_on-requires
set_on-requires c =
    let read = c.requires in
    (read, omega (arith, c.patterns_of-p-end.ensures.2 (placed read).few_inputs))

pub bounds-sets-p : goal.bounds-sets-p
bounds-sets-p c = omega (arith, c.patterns_of-p-end.ensures.1)

pub loop-p-preserved : goal.loop-p-preserved
loop-p-preserved c =
    let l = c.loop-p in
    let outputs = c.output_words-outputs in
    let b : l.p < length l.sets = omega (arith, c.patterns_of-p-end.ensures.1) in (
      omega arith,
      simp length-set l.invariant.1,
      λ q d. get_or-set_other l.sets l.p q c.set_on.result 0 (λ e. omega arith) ∙ l.invariant.2 q (omega arith),
      λ h. filled_more (set_on h.commands) l.sets l.p c.set_on.result b (l.invariant.3 h) (c.set_on.ensures h (outputs.ensures h)),
    )

pub returns : goal.returns
returns c =
    let l = c.loop-p in
    let sheet = c.args.sheet in
    let few = (placed c.requires).few_inputs in
    let e : l.p ≡ 2 ^ sheet.n = omega (arith, c.patterns_of-p-end.ensures.2 few) in
    λ h. whole h l.sets l.invariant.1 (λ q d. l.invariant.3 h q (omega arith)) (λ q d. l.invariant.2 q (omega arith))
