-- Laws of reading a wire that is a diagram: what is taken are the bytes of a well-formed diagram, these bytes are taken, and bytes behind them change nothing.
use Prim.Native.Nat.{ℕ, zero, suc, ◌+◌, ◌*◌, ◌<◌, ◌≤◌}
use mathlib.Core.Path.{◌≡◌, refl, sym, ap, ap₂, subst, ◌∙◌}
use mathlib.Core.Bool.{◌||◌}
use mathlib.Core.List.{List, [], ◌∷◌, ◌++◌, append_assoc}
use native.Mathlib.Omega.{arith}
use lib.Dec.{leb, ltb}
use lib.ListN.{length, length-append}
use borrow.Author.Tests.{lt-leb, le-ltb, leb-false, ltb-false}
use Rattle.base.proofs.Tests.{cond_has, cond_has₂, test_no, neither}
use Rattle.sheet.specs.Limits.{count_out}
use Rattle.sheet.proofs.Sizes.{count_in, count_fits}
use Rattle.stage.specs.Steps.{Read, taken, fault, and_then, unless_refused, due_number, due, operand, turn_number}
use Rattle.stage.specs.Bytes.{selector_bytes}
use Rattle.stage.specs.Inner.Laws.{with_more, TakenAs, ToldWire}
use Rattle.stage.proofs.Steps.{unless_refused_has, unless_refused_has₂, due_has, due_more, turn_is, turn_comes, then_more}
use Rattle.diagram.specs.Diagram.{Entry, entry, Diagram, next_number, input_at, FitsAfter, EntriesFit, most_entries, WellFormed}
use Rattle.diagram.specs.Bytes.{entry_bytes, entries_bytes, diagram_wire_bytes, diagram_frame}
use Rattle.diagram.specs.Read.{diagram_known, entry_refusal, entry_at, entries_at, top_at, diagram_wire_at}
use Rattle.diagram.specs.Diagrams.{diagram_form}

-- an entry is not refused just where it may follow those before it
module _ (n : ℕ) (before : List Entry) (e : Entry) where
  pub unrefused_fits : entry_refusal n before e ≡ 0 → FitsAfter n before e
  unfolding entry_refusal
  unrefused_fits =
      cond_has Fits (count_out e.input n) (λ _ h. absurd (omega (arith, h)))
      (λ a.
      cond_has Fits (leb next e.on_zero || leb next e.on_one) (λ _ h. absurd (omega (arith, h)))
      (λ b.
      cond_has Fits (leb (input_at n before e.on_zero) e.input || leb (input_at n before e.on_one) e.input) (λ _ h. absurd (omega (arith, h)))
      (λ c _.
      let i = count_in e.input n (test_no (count_out e.input n) a) in
      let lower = neither (leb next e.on_zero) (leb next e.on_one) (test_no _ b) in
      let above = neither (leb (input_at n before e.on_zero) e.input) (leb (input_at n before e.on_one) e.input) (test_no _ c) in
      record {
        least = i.0;
        most = i.1;
        zero_lower = leb-false next e.on_zero lower.0;
        one_lower = leb-false next e.on_one lower.1;
        zero_above = leb-false (input_at n before e.on_zero) e.input above.0;
        one_above = leb-false (input_at n before e.on_one) e.input above.1;
      })))
    where
      next : ℕ
      next = next_number before

      Fits : ℕ → Type 0
      Fits v = v ≡ 0 → FitsAfter n before e

  pub fits_unrefused : FitsAfter n before e → entry_refusal n before e ≡ 0
  unfolding entry_refusal
  fits_unrefused f =
      rw (
        count_fits e.input n f.least f.most,
        lt-leb (next_number before) e.on_zero f.zero_lower,
        lt-leb (next_number before) e.on_one f.one_lower,
        lt-leb (input_at n before e.on_zero) e.input f.zero_above,
        lt-leb (input_at n before e.on_one) e.input f.one_above,
      )

-- lengths
pub entries_bytes_length : (es : List Entry) → length (entries_bytes es) ≡ selector_bytes * length es
unfolding entries_bytes
entries_bytes_length [] = refl
entries_bytes_length (e ∷ es) = omega (arith, length-append (entries_bytes es) (entry_bytes e), entries_bytes_length es)

pub wire_length : (j : ℕ) (d : Diagram) → length (diagram_wire_bytes j d) ≡ diagram_frame + selector_bytes * length d.entries
unfolding diagram_wire_bytes
wire_length j d = omega (arith, length-append (entries_bytes d.entries) (d.top ∷ []), entries_bytes_length d.entries)

-- what is taken as an entry are its three bytes, and it may follow those before it
abbrev pub ToldEntry : (n : ℕ) (before : List Entry) (at : ℕ) → List ℕ → Read Entry → Type 0
ToldEntry n before = TakenAs entry_bytes (FitsAfter n before)

pub entry_told : (n : ℕ) (before : List Entry) (at : ℕ) (bytes : List ℕ) → ToldEntry n before at bytes (entry_at n before at bytes)
unfolding entry_at operand
entry_told n before at [] = tt
entry_told n before at (i ∷ []) = tt
entry_told n before at (i ∷ z ∷ []) = tt
entry_told n before at (i ∷ z ∷ o ∷ rest) =
    unless_refused_has (ToldEntry n before at (i ∷ z ∷ o ∷ rest)) fault at (entry_refusal n before (entry i z o)) (λ _. tt)
    (λ h. (refl, refl, unrefused_fits n before (entry i z o) h))

-- the first c entries
abbrev pub ToldEntries : (c n at : ℕ) → List ℕ → Read (List Entry) → Type 0
ToldEntries c n = TakenAs entries_bytes (λ es. (length es ≡ c) × EntriesFit n es)

last_told : (c n at : ℕ) (before : List Entry) (next : ℕ) (bytes rest : List ℕ) → ToldEntries c n at bytes (taken before next rest)
    → (y : Read Entry) → ToldEntry n before next rest y
    → ToldEntries (suc c) n at bytes (and_then y (λ e at'' rest''. taken (e ∷ before) at'' rest''))
unfolding and_then entries_bytes EntriesFit
last_told c n at before next bytes rest h (fault f) t = tt
last_told c n at before next bytes rest h (taken e past q) t = (
  h.0 ∙ ap (λ (l : List ℕ). entries_bytes before ++ l) t.0 ∙ sym (append_assoc (entries_bytes before) (entry_bytes e) q),
  omega (arith, h.1, t.1, length-append (entries_bytes before) (entry_bytes e)),
  (ap suc h.2.0, (t.2, h.2.1)),
)

pub entries_told : (c n at : ℕ) (bytes : List ℕ) → ToldEntries c n at bytes (entries_at c n at bytes)
unfolding entries_at and_then entries_bytes EntriesFit
entries_told zero n at bytes = (refl, omega arith, (refl, tt))
entries_told (suc c) n at bytes = go (entries_at c n at bytes) (entries_told c n at bytes)
  where
    go : (y : Read (List Entry)) → ToldEntries c n at bytes y
        → ToldEntries (suc c) n at bytes (and_then y (λ before at' rest. and_then (entry_at n before at' rest) (λ e at'' rest''. taken (e ∷ before) at'' rest'')))
    go (fault f) h = tt
    go (taken before next rest) h = last_told c n at before next bytes rest h (entry_at n before next rest) (entry_told n before next rest)

-- the top, and with it the wire
top_told : (c n j at : ℕ) (es : List Entry) (next : ℕ) (bytes rest : List ℕ) → c ≤ most_entries → ToldEntries c n (at + 3) bytes (taken es next rest)
    → ToldWire diagram_form n j at (0x26 ∷ j ∷ c ∷ bytes) (top_at es next rest)
unfolding top_at operand diagram_wire_bytes
top_told c n j at es next bytes [] s h = tt
top_told c n j at es next bytes (x ∷ q) s h =
    cond_has (ToldWire diagram_form n j at (0x26 ∷ j ∷ c ∷ bytes)) (leb (next_number es) x) (λ _. tt)
    (λ l. (
      ap₂ (λ (k : ℕ) (b : List ℕ). 0x26 ∷ j ∷ k ∷ b) (sym h.2.0) (h.0 ∙ sym (append_assoc (entries_bytes es) (x ∷ []) q)),
      omega (arith, h.1, length-append (entries_bytes es) (x ∷ [])),
      record {
        few = omega (arith, h.2.0);
        fit = h.2.1;
        top_there = omega (arith, leb-false (next_number es) x (test_no (leb (next_number es) x) l));
      },
    ))

list_told : (c n j at : ℕ) (bytes : List ℕ) → c ≤ most_entries
    → ToldWire diagram_form n j at (0x26 ∷ j ∷ c ∷ bytes) (and_then (entries_at c n (at + 3) bytes) top_at)
unfolding and_then
list_told c n j at bytes s = go (entries_at c n (at + 3) bytes) (entries_told c n (at + 3) bytes)
  where
    go : (y : Read (List Entry)) → ToldEntries c n (at + 3) bytes y → ToldWire diagram_form n j at (0x26 ∷ j ∷ c ∷ bytes) (and_then y top_at)
    go (fault f) h = tt
    go (taken es next rest) h = top_told c n j at es next bytes rest s h

pub wire_told : (n m j at : ℕ) (bytes : List ℕ) → ToldWire diagram_form n j at bytes (diagram_wire_at n m j at bytes)
unfolding diagram_wire_at operand
wire_told n m j at bytes =
    due_has (ToldWire diagram_form n j at bytes) diagram_known fault 0x26 at _ (λ _. tt) bytes (λ rest e. rw e (number rest))
  where
    number : (rest : List ℕ)
        → ToldWire diagram_form n j at (0x26 ∷ rest)
        (operand fault at
        (λ i. operand fault at
        (λ c rest. unless_refused fault at (turn_number m j i (ltb most_entries c)) (and_then (entries_at c n (at + 3) rest) top_at)))
        rest)
    number [] = tt
    number (i ∷ []) = tt
    number (i ∷ c ∷ rest) =
        unless_refused_has (ToldWire diagram_form n j at (0x26 ∷ i ∷ c ∷ rest)) fault at (turn_number m j i (ltb most_entries c)) (λ _. tt)
        (λ e.
        let turn = turn_is m j i (ltb most_entries c) e in
        rw turn.0 (list_told c n j at rest (ltb-false most_entries c turn.2)))

-- the bytes of a well-formed diagram are taken as that diagram
entries_back : (es : List Entry) (n at : ℕ) (q : List ℕ) → EntriesFit n es
    → entries_at (length es) n at (entries_bytes es ++ q) ≡ taken es (at + 3 * length es) q
unfolding entries_at entries_bytes EntriesFit entry_at operand and_then
entries_back [] n at q w = ap (λ z. taken [] z q) (omega arith)
entries_back (e ∷ es) n at q w =
    let len : at + 3 * length es + 3 ≡ at + 3 * suc (length es) = omega arith in
    rw (append_assoc (entries_bytes es) (entry_bytes e) q, entries_back es n at (entry_bytes e ++ q) w.1, fits_unrefused n es e w.0, len)

pub wire_back : (n m j at : ℕ) (d : Diagram) (q : List ℕ) → j < m → WellFormed n d
    → diagram_wire_at n m j at (diagram_wire_bytes j d ++ q) ≡ taken d (at + length (diagram_wire_bytes j d)) q
unfolding diagram_wire_at due due_number operand diagram_wire_bytes and_then top_at
wire_back n m j at d q l w =
    let es = d.entries in
    let len : at + 3 + 3 * length es + 1 ≡ at + length (0x26 ∷ j ∷ length es ∷ entries_bytes es ++ d.top ∷ []) =
    omega (arith, length-append (entries_bytes es) (d.top ∷ []), entries_bytes_length es) in
    rw (
      turn_comes m j (ltb most_entries (length es)) l (le-ltb most_entries (length es) w.few),
      append_assoc (entries_bytes es) (d.top ∷ []) q,
      entries_back es n (at + 3) (d.top ∷ q) w.fit,
      lt-leb (next_number es) d.top (omega (arith, w.top_there)),
      len,
    )

-- more bytes behind
entry_more : (n : ℕ) (before : List Entry) (at : ℕ) (bytes q : List ℕ) → 3 ≤ length bytes
    → entry_at n before at (bytes ++ q) ≡ with_more q (entry_at n before at bytes)
unfolding entry_at operand with_more
entry_more n before at [] q h = absurd (omega arith)
entry_more n before at (i ∷ []) q h = absurd (omega arith)
entry_more n before at (i ∷ z ∷ []) q h = absurd (omega arith)
entry_more n before at (i ∷ z ∷ o ∷ rest) q h =
    unless_refused_has₂ (λ (x y : Read Entry). x ≡ with_more q y) fault fault at (entry_refusal n before (entry i z o)) (λ _. refl) (λ _. refl)

entries_more : (c n at : ℕ) (bytes q : List ℕ) → 3 * c ≤ length bytes → entries_at c n at (bytes ++ q) ≡ with_more q (entries_at c n at bytes)
unfolding entries_at with_more
entries_more zero n at bytes q h = refl
entries_more (suc c) n at bytes q h =
    rw (entries_more c n at bytes q (omega arith))
    (then_more q (entries_at c n at bytes) _ (λ before next rest e.
    let told : ToldEntries c n at bytes (taken before next rest) = subst (ToldEntries c n at bytes) e (entries_told c n at bytes) in
    let long : length bytes ≡ length (entries_bytes before) + length rest = ap length told.0 ∙ length-append (entries_bytes before) rest in
    rw (entry_more n before next rest q (omega (arith, entries_bytes_length before, told.2.0)))
    (then_more q (entry_at n before next rest) _ (λ _ _ _ _. refl))))

top_more : (es : List Entry) (at : ℕ) (bytes q : List ℕ) → 1 ≤ length bytes → top_at es at (bytes ++ q) ≡ with_more q (top_at es at bytes)
unfolding top_at operand with_more
top_more es at [] q h = absurd (omega arith)
top_more es at (x ∷ rest) q h = cond_has₂ (λ (x y : Read Diagram). x ≡ with_more q y) (leb (next_number es) x) (λ _. refl) (λ _. refl)

list_more : (c n at : ℕ) (bytes q : List ℕ) → 3 * c < length bytes
    → and_then (entries_at c n at (bytes ++ q)) top_at ≡ with_more q (and_then (entries_at c n at bytes) top_at)
list_more c n at bytes q h =
    rw (entries_more c n at bytes q (omega arith))
    (then_more q (entries_at c n at bytes) top_at (λ es next rest e.
    let told : ToldEntries c n at bytes (taken es next rest) = subst (ToldEntries c n at bytes) e (entries_told c n at bytes) in
    let long : length bytes ≡ length (entries_bytes es) + length rest = ap length told.0 ∙ length-append (entries_bytes es) rest in
    top_more es next rest q (omega (arith, entries_bytes_length es, told.2.0))))

pub wire_more : (n m j at : ℕ) (bytes q : List ℕ) → diagram_frame + selector_bytes * most_entries ≤ length bytes
    → diagram_wire_at n m j at (bytes ++ q) ≡ with_more q (diagram_wire_at n m j at bytes)
unfolding diagram_wire_at operand with_more
wire_more n m j at [] q h = absurd (omega arith)
wire_more n m j at (b ∷ []) q h = absurd (omega arith)
wire_more n m j at (b ∷ i ∷ []) q h = absurd (omega arith)
wire_more n m j at (b ∷ i ∷ c ∷ rest) q h =
    due_more Same diagram_known fault 0x26 at _ (λ _. refl) b (i ∷ c ∷ rest) q
    (unless_refused_has₂ Same fault fault at (turn_number m j i (ltb most_entries c)) (λ _. refl)
    (λ e. list_more c n (at + 3) rest q (omega (arith, ltb-false most_entries c (turn_is m j i (ltb most_entries c) e).2))))
  where
    Same : Read Diagram → Read Diagram → Type 0
    Same x y = x ≡ with_more q y
