-- The cases of a joint quote: each return of the code is the written reply, with the buffer as it is to be.
use Prim.Native.Nat.{ℕ, ◌^◌, ◌<◌, ◌≤◌}
use mathlib.Core.Path.{◌≡◌, refl, sym, ap, ap₂, ◌∙◌}
use Rattle.std.specs.Prelude.{Result, Ok, Err, MatchResult}
use Rattle.std.specs.Result.{IsErrAnd}
use Rattle.base.proofs.Passing.{passed_on}
use Rattle.search.specs.declared.Mark.{Mark}
use Rattle.search.specs.declared.Mark.TheVariants.{Best, Stopped}
use Rattle.search.specs.Cases.{mark_case}
use Rattle.quote.specs.declared.Quoted.{Quoted}
use Rattle.joined.specs.declared.JointRefusal.{JointRefusal}
use Rattle.joined.specs.declared.JointRefusal.TheVariants.{Second}
use Rattle.joined.specs.Cases.{joint_reply}
use mathlib.Core.Logic.{⊎_elim}
use mathlib.Core.Bool.{not}
use mathlib.Core.List.{List}
use borrow.Author.Tests.{eq-eqb, ne_eqb}
use lib.Dec.{T, eqb, eqb→eq, ltb, ltb→lt, nltb→le}
use lib.ListN.{length}
use Rattle.base.specs.declared.Refusal.{Refusal}
use Rattle.base.specs.Cases.{refusing, refused_outcome, second_refused_outcome}
use Rattle.base.specs.Refusals.{refusal_at, empty}
use Rattle.base.proofs.Tests.{and_left, and_right, decide, test_yes, test_no}
use Rattle.nodes.specs.declared.BoardKind.TheVariants.{Tree}
use Rattle.relation.specs.declared.Relation.{Relation}
use Rattle.relation.specs.Joined.{join_of}
use Rattle.sheet.specs.declared.Command.{Command}
use Rattle.sheet.specs.Commands.{inputs_of, wires_of}
use Rattle.sheet.specs.Judged.{holds, refused}
use Rattle.reader.specs.Reading.{reading_of}
use Rattle.reader.proofs.Sound.{sound}
use Rattle.unit.specs.Formed.{relation_in}
use Rattle.quote.specs.Audit.{sizes_apart}
use Rattle.quote.specs.Cases.{QuoteReply, no_quote, quote_reply}
use Rattle.quote.specs.Quote.{searched, buffer_searched}
use Rattle.quote.proofs.Quoting.{searched_refused}
use Rattle.joined.specs.Inner.Both.{both_quoted, both_buffer}
use Rattle.joined.specs.Joint.{as_second, are_sized, quoted_as_second, joint_quoted, joint_buffer}
use Rattle.joined.specs.Promised.{JointPromised}
use Rattle.joined.proofs.Joining.{first_refused_lem, second_refused, sizes_apart_lem, joined_empty, joined_whole}
use Rattle.joined.proofs.JointDemand.{joint_promised}
use Rattle.joined.proofs.JointRivals.{empty_in_both, joined_in, joined_refused}

-- a mark is no refusal, and what both are refused for counts as the second's
kept_mark : (m : Mark) → mark_case m ≡ as_second (mark_case m)
unfolding as_second
kept_mark Best = refl
kept_mark Stopped = refl

pub second_named : (r : Result Quoted Refusal) (q : Result Quoted JointRefusal) → MatchResult r (λ x. q ≡ Ok x) (λ e. IsErrAnd q (λ d. d ≡ Second e))
    → joint_reply q ≡ quoted_as_second (quote_reply r)
unfolding as_second
second_named (Ok x) q h =
    ap joint_reply h ∙ ap (λ k. record { cells = x.cells; floor = x.floor; visits = x.visits; length = x.length; mark = k }) (kept_mark x.mark)
second_named (Err e) q h = ap joint_reply (passed_on q (Second e) h)

-- two relations: sizes that differ, or the search of the two joined
module _ (r q : Relation) (budget : ℕ) (buffer : List ℕ) where
  abbrev pub BothKept : QuoteReply → List ℕ → Type 0
  BothKept x b = (x ≡ both_quoted r q budget (length buffer)) × (b ≡ both_buffer r q budget buffer)

  pub inputs_apart : {x : QuoteReply} → (r.n ≡ q.n → ⊥) → x ≡ no_quote sizes_apart → BothKept x buffer
  unfolding both_quoted both_buffer
  inputs_apart ne ex = (ex ∙ rw (ne_eqb r.n q.n ne), rw (ne_eqb r.n q.n ne))

  module _ (en : r.n ≡ q.n) where
    pub wires_apart : {x : QuoteReply} → (r.m ≡ q.m → ⊥) → x ≡ no_quote sizes_apart → BothKept x buffer
    unfolding both_quoted both_buffer
    wires_apart ne ex = (ex ∙ rw (eq-eqb r.n q.n en, ne_eqb r.m q.m ne), rw (eq-eqb r.n q.n en, ne_eqb r.m q.m ne))

    pub both_searched : {x : QuoteReply} {b : List ℕ} → r.m ≡ q.m → x ≡ quoted_as_second (searched Tree (join_of r q) budget (length buffer))
        → b ≡ buffer_searched Tree (join_of r q) budget buffer → BothKept x b
    unfolding both_quoted both_buffer
    both_searched em ex eb = (ex ∙ rw (eq-eqb r.n q.n en, eq-eqb r.m q.m em), eb ∙ rw (eq-eqb r.n q.n en, eq-eqb r.m q.m em))

-- the whole joint quote
module _ (first second : List ℕ) (budget : ℕ) (buffer : List ℕ) where
  -- the three clauses of its contract
  abbrev pub ClausesKept : QuoteReply → List ℕ → Type 0
  ClausesKept x b = (x ≡ joint_quoted first second budget (length buffer)) × ((b ≡ joint_buffer first second budget buffer) × JointPromised first second budget x b)

  clauses : {x : QuoteReply} {b : List ℕ} → x ≡ joint_quoted first second budget (length buffer) → b ≡ joint_buffer first second budget buffer → ClausesKept x b
  clauses ex eb = (ex, (eb, rw (ex, eb) (joint_promised first second budget buffer)))

  pub first_turned : {x : QuoteReply} (f : Refusal) → reading_of first ≡ refused f → x ≡ no_quote (refusing refused_outcome f) → ClausesKept x buffer
  unfolding joint_quoted joint_buffer
  first_turned f e ex = clauses (ex ∙ rw (first_refused_lem first second f e)) (rw (first_refused_lem first second f e))

  module _ (cs : List Command) (e : reading_of first ≡ holds cs) where
    pub second_turned : {x : QuoteReply} (f : Refusal) → reading_of second ≡ refused f → x ≡ no_quote (refusing second_refused_outcome f) → ClausesKept x buffer
    unfolding joint_quoted joint_buffer
    second_turned f d ex = clauses (ex ∙ rw (second_refused first second cs e f d)) (rw (second_refused first second cs e f d))

    module _ (ds : List Command) (d : reading_of second ≡ holds ds) where
      -- what the two relations come to is what the two sheets are answered
      abbrev Agrees : Type 0
      Agrees = BothKept (relation_in cs) (relation_in ds) budget buffer (joint_quoted first second budget (length buffer)) (joint_buffer first second budget buffer)

      differ : T (not (are_sized cs ds)) → Agrees
      unfolding joint_quoted joint_buffer both_quoted both_buffer relation_in
      differ t =
          let h = test_no (are_sized cs ds) t in
          (rw (sizes_apart_lem first second cs e ds d h, h), rw (sizes_apart_lem first second cs e ds d h, h))

      module _ (t : T (are_sized cs ds)) where
        none_left : empty_in_both cs ds < 2 ^ inputs_of cs → Agrees
        unfolding joint_quoted joint_buffer both_quoted both_buffer relation_in join_of as_second
        none_left l =
            let h = test_yes (are_sized cs ds) t in
            let en = eqb→eq (inputs_of cs) (inputs_of ds) (and_left (eqb (inputs_of cs) (inputs_of ds)) (eqb (wires_of cs) (wires_of ds)) t) in
            let em = eqb→eq (wires_of cs) (wires_of ds) (and_right (eqb (inputs_of cs) (inputs_of ds)) (eqb (wires_of cs) (wires_of ds)) t) in
            let s =
            searched_refused Tree (joined_in cs ds) budget buffer (refusal_at empty (empty_in_both cs ds)) (sound first cs e).sizes.n_most
            (joined_refused first second cs ds e d en em l) in
            (rw (joined_empty first second cs e ds d h l, h, s.0), rw (joined_empty first second cs e ds d h l, h, s.1))

        whole : 2 ^ inputs_of cs ≤ empty_in_both cs ds → Agrees
        unfolding joint_quoted joint_buffer both_quoted both_buffer relation_in
        whole l =
            let h = test_yes (are_sized cs ds) t in
            (rw (joined_whole first second cs e ds d h l, h), rw (joined_whole first second cs e ds d h l, h))

      agrees : Agrees
      agrees =
          ⊎_elim
          (λ t.
          ⊎_elim (λ u. none_left t (ltb→lt (empty_in_both cs ds) (2 ^ inputs_of cs) u)) (λ u. whole t (nltb→le (empty_in_both cs ds) (2 ^ inputs_of cs) u))
          (decide (ltb (empty_in_both cs ds) (2 ^ inputs_of cs))))
          differ
          (decide (are_sized cs ds))

      pub both_quoted_lem : {x : QuoteReply} {b : List ℕ} (r q : Relation) → r ≡ relation_in cs → q ≡ relation_in ds → BothKept r q budget buffer x b → ClausesKept x b
      both_quoted_lem r q er eq k =
          clauses
          (k.0 ∙ ap₂ (λ y z. both_quoted y z budget (length buffer)) er eq ∙ sym agrees.0)
          (k.1 ∙ ap₂ (λ y z. both_buffer y z budget buffer) er eq ∙ sym agrees.1)
