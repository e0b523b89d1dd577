-- What the commands of a copy say, for any sheet.
use Prim.Native.Nat.{ℕ, ◌^◌}
use mathlib.Core.Path.{◌≡◌, refl, ap, ◌∙◌}
use mathlib.Core.List.{List, [], ◌∷◌, ◌++◌}
use lib.ListN.{get_or}
use Rattle.base.proofs.Tests.{cond_has}
use Rattle.sheet.specs.declared.Command.{Command}
use Rattle.sheet.specs.declared.Command.TheVariants.{Sizes, Row, DontCare, Limit}
use Rattle.sheet.specs.declared.Sheet.{Sheet}
use Rattle.sheet.specs.declared.LogicGate.{LogicGate}
use Rattle.sheet.specs.Commands.{collect, about, row_in, dont_care_in, limit_in, gate_in, output_in, rows_on, dont_cares_on, limits_on, gates_of, outputs_of}
use Rattle.sheet.proofs.Lists.{about_other}
use Rattle.reader.proofs.Placed.{gate_of}
use Rattle.clean.specs.Copy.{listed, marks_dont_care, permits_all, copy_mark, copy_limit, copy_gate, copy_output}
use Rattle.clean.proofs.Listed.{collect_then, pieces_silent}

module _ (h : Sheet) where
  -- the copy as far as its sizes, its marks, its limits, its gates, its outputs go
  abbrev pub to_sizes : List Command
  to_sizes = Sizes h.n h.m ∷ []

  abbrev pub to_marks : ℕ → List Command
  to_marks k = to_sizes ++ listed k (copy_mark h)

  abbrev pub to_limits : ℕ → List Command
  to_limits k = to_marks (2 ^ h.n) ++ listed k (copy_limit h)

  abbrev pub to_gates : ℕ → List Command
  to_gates k = to_limits (2 ^ h.n) ++ listed k (copy_gate h)

  abbrev pub to_outputs : ℕ → List Command
  to_outputs k = to_gates h.gate_count ++ listed k (copy_output h)

  -- the gates and the outputs that were gathered, in order
  abbrev pub gates_held : ℕ → List LogicGate
  gates_held k = listed k (λ i. gate_of h i ∷ [])

  abbrev pub outputs_held : ℕ → List ℕ
  outputs_held k = listed k (λ i. get_or h.signals i 0 ∷ [])

  -- what the marks and the limits do not say
  mark_silent : {A : Type 0} (says : Command → List A) → ((p v : ℕ) → says (Row p v) ≡ []) → ((p : ℕ) → says (DontCare p) ≡ []) → (p : ℕ)
      → collect says (copy_mark h p) ≡ []
  unfolding collect
  mark_silent says r d p = cond_has (λ cs. collect says cs ≡ []) (marks_dont_care (get_or h.marks p 0)) (λ _. simp d) (λ _. simp r)

  limit_silent : {A : Type 0} (says : Command → List A) → ((p w : ℕ) → says (Limit p w) ≡ []) → (p : ℕ) → collect says (copy_limit h p) ≡ []
  unfolding collect
  limit_silent says l p = cond_has (λ cs. collect says cs ≡ []) (permits_all h.m (get_or h.limits p 0)) (λ _. refl) (λ _. simp l)

  -- the gates and the outputs
  pub gates_wired : (k : ℕ) → gates_of (to_gates k) ≡ gates_held k
  unfolding collect
  gates_wired k =
      collect_then gate_in (to_limits (2 ^ h.n)) k (copy_gate h)
      ∙ ap (λ xs. xs ++ gates_held k)
      (pieces_silent gate_in (to_marks (2 ^ h.n)) (2 ^ h.n) (copy_limit h) (limit_silent gate_in (λ _ _. refl))
      ∙ pieces_silent gate_in to_sizes (2 ^ h.n) (copy_mark h) (mark_silent gate_in (λ _ _. refl) (λ _. refl)))

  pub gates_led : (k : ℕ) → gates_of (to_outputs k) ≡ gates_held h.gate_count
  unfolding collect
  gates_led k = pieces_silent gate_in (to_gates h.gate_count) k (copy_output h) (λ _. refl) ∙ gates_wired h.gate_count

  pub outputs_led : (k : ℕ) → outputs_of (to_outputs k) ≡ outputs_held k
  unfolding collect
  outputs_led k =
      collect_then output_in (to_gates h.gate_count) k (copy_output h)
      ∙ ap (λ xs. xs ++ outputs_held k)
      (pieces_silent output_in (to_limits (2 ^ h.n)) h.gate_count (copy_gate h) (λ _. refl)
      ∙ pieces_silent output_in (to_marks (2 ^ h.n)) (2 ^ h.n) (copy_limit h) (limit_silent output_in (λ _ _. refl))
      ∙ pieces_silent output_in to_sizes (2 ^ h.n) (copy_mark h) (mark_silent output_in (λ _ _. refl) (λ _. refl)))

  -- what is said of a pattern alone: the gates and the outputs say nothing of it, nor do the sizes
  module _ {A : Type 0} (says : Command → List A) (k : ℕ) (g : (i : ℕ) → collect says (copy_gate h i) ≡ []) (o : (i : ℕ) → collect says (copy_output h i) ≡ [])
      (z : says (Sizes h.n h.m) ≡ []) where
    by_limits_too : collect says (to_outputs k) ≡ collect says (to_limits (2 ^ h.n))
    by_limits_too =
        pieces_silent says (to_gates h.gate_count) k (copy_output h) o ∙ pieces_silent says (to_limits (2 ^ h.n)) h.gate_count (copy_gate h) g

    -- it is said by the marks, or by the limits
    by_marks : ((i : ℕ) → collect says (copy_limit h i) ≡ []) → collect says (to_outputs k) ≡ listed (2 ^ h.n) (λ p. collect says (copy_mark h p))
    unfolding collect
    by_marks l =
        by_limits_too ∙ pieces_silent says (to_marks (2 ^ h.n)) (2 ^ h.n) (copy_limit h) l ∙ collect_then says to_sizes (2 ^ h.n) (copy_mark h) ∙ rw z

    by_limits : ((i : ℕ) → collect says (copy_mark h i) ≡ []) → collect says (to_outputs k) ≡ listed (2 ^ h.n) (λ p. collect says (copy_limit h p))
    unfolding collect
    by_limits l =
        by_limits_too ∙ collect_then says (to_marks (2 ^ h.n)) (2 ^ h.n) (copy_limit h)
        ∙ ap (λ xs. xs ++ listed (2 ^ h.n) (λ p. collect says (copy_limit h p))) (pieces_silent says to_sizes (2 ^ h.n) (copy_mark h) l)
        ∙ rw z

  pub rows_led : (p k : ℕ) → rows_on p (to_outputs k) ≡ listed (2 ^ h.n) (λ q. collect (row_in p) (copy_mark h q))
  unfolding collect
  rows_led p k = by_marks (row_in p) k (λ _. refl) (λ _. refl) refl (limit_silent (row_in p) (λ _ _. refl))

  pub dont_cares_led : (p k : ℕ) → dont_cares_on p (to_outputs k) ≡ listed (2 ^ h.n) (λ q. collect (dont_care_in p) (copy_mark h q))
  unfolding collect
  dont_cares_led p k = by_marks (dont_care_in p) k (λ _. refl) (λ _. refl) refl (limit_silent (dont_care_in p) (λ _ _. refl))

  pub limits_led : (p k : ℕ) → limits_on p (to_outputs k) ≡ listed (2 ^ h.n) (λ q. collect (limit_in p) (copy_limit h q))
  unfolding collect
  limits_led p k = by_limits (limit_in p) k (λ _. refl) (λ _. refl) refl (mark_silent (limit_in p) (λ _ _. refl) (λ _. refl))

-- a mark says nothing of another pattern, nor does a limit
module _ (h : Sheet) (p q : ℕ) (e : q ≡ p → ⊥) where
  about_silent : {A : Type 0} (x : A) → about p q x ++ [] ≡ []
  about_silent x = rw (about_other p q x e)

  pub row_other : collect (row_in p) (copy_mark h q) ≡ []
  unfolding collect
  row_other = cond_has (λ cs. collect (row_in p) cs ≡ []) (marks_dont_care (get_or h.marks q 0)) (λ _. refl) (λ _. about_silent _)

  pub dont_care_other : collect (dont_care_in p) (copy_mark h q) ≡ []
  unfolding collect
  dont_care_other = cond_has (λ cs. collect (dont_care_in p) cs ≡ []) (marks_dont_care (get_or h.marks q 0)) (λ _. about_silent _) (λ _. refl)

  pub limit_other : collect (limit_in p) (copy_limit h q) ≡ []
  unfolding collect
  limit_other = cond_has (λ cs. collect (limit_in p) cs ≡ []) (permits_all h.m (get_or h.limits q 0)) (λ _. refl) (λ _. about_silent _)
