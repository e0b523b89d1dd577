-- Reading the bytes of commands that are in order, one after the other, gives those commands.
use Prim.Native.Nat.{ℕ, suc, ◌+◌, ◌-◌, ◌^◌, ◌≤◌, ◌/◌, ◌%◌}
use mathlib.Core.Path.{◌≡◌, refl, sym, ap, ◌∙◌}
use mathlib.Core.Bool.{Bool, true, false, cond, not}
use mathlib.Core.List.{List, [], ◌∷◌, ◌++◌, append_assoc}
use native.Mathlib.Nat.{mod-add-div}
use native.Mathlib.Omega.{arith}
use lib.Dec.{eqb, leb, ltb}
use lib.ListN.{length, get_or, length-append}
use lib.Seq.{get_or-append_seam, get_or-append-add}
use borrow.Author.Tests.{lt-leb, le-ltb}
use Rattle.base.proofs.Lowest.{lowest_none}
use Rattle.sheet.specs.declared.Command.{Command}
use Rattle.sheet.specs.declared.Command.TheVariants.{End, Sizes, Row, DontCare, Gate, Output, Limit}
use Rattle.sheet.specs.Bytes.{command_bytes, bytes_of}
use Rattle.sheet.specs.Commands.{is_empty, collect, is_sizes, inputs_of, is_marked}
use Rattle.sheet.specs.Judged.{holds, judged, missing, ending}
use Rattle.sheet.proofs.Lists.{collect_snoc}
use Rattle.std.specs.Prelude.{Ok}
use Rattle.reader.specs.Reader.{width_of, command_of, reader_at, moved_past, next_of}
use Rattle.reader.specs.Reading.{is_end, onward, one_command, continued, reading_of}
use Rattle.reader.proofs.Passages.{InOrder, Complete}
use Rattle.reader.proofs.Enough.{reading_at, reading_step, reading_whole}

-- commands each of which is in order after those before it, 00 not among them
pub data AllInOrder : List Command → Type 0 where
  none_yet : AllInOrder []
  next_in_order : (before : List Command) (c : Command) → AllInOrder before → InOrder before c → is_end c ≡ false → AllInOrder (before ++ c ∷ [])

turn_passes : (t e : Bool) → t ≡ e → cond t (not e) (not (not e)) ≡ false
turn_passes true e f = ap not (sym f)
turn_passes false e f = ap (λ x. not (not x)) (sym f)

module _ (x : List ℕ) (before : List Command) where
  -- the command whose first byte b stands after x, with its operands at the front of ys
  reads : (c : Command) (b : ℕ) (ys : List ℕ) → command_of b (get_or ys 0 0) (get_or ys 1 0) (get_or ys 2 0) ≡ c → is_sizes c ≡ eqb b 1
      → eqb (width_of b) 0 ≡ false → width_of b ≤ suc (length ys) → InOrder before c
      → next_of (x ++ b ∷ ys) (reader_at (length x) before) ≡ Ok (c, (moved_past (reader_at (length x) before) c (length x + width_of b)))
  unfolding next_of
  reads c b ys e t w l o =
      let len : length (x ++ b ∷ ys) ≡ length x + suc (length ys) = length-append x (b ∷ ys) in
      let e0 = get_or-append_seam x b ys 0 in
      let e1 = get_or-append-add x (b ∷ ys) 1 0 in
      let e2 = get_or-append-add x (b ∷ ys) 2 0 in
      let e3 = get_or-append-add x (b ∷ ys) 3 0 in
      let some : leb (length (x ++ b ∷ ys)) (length x) ≡ false = lt-leb (length (x ++ b ∷ ys)) (length x) (omega arith) in
      let whole : ltb (length (x ++ b ∷ ys) - length x) (width_of b) ≡ false = le-ltb (length (x ++ b ∷ ys) - length x) (width_of b) (omega arith) in
      rw (some, e0, e1, e2, e3, w, turn_passes (eqb b 1) (is_empty before) (sym t ∙ o.first), whole, e, o.in_range)

  next_back : (c : Command) (q : List ℕ) → InOrder before c
      → next_of (x ++ (command_bytes c ++ q)) (reader_at (length x) before)
      ≡ Ok (c, (moved_past (reader_at (length x) before) c (length x + length (command_bytes c))))
  next_back End q o = reads End 0 q refl refl refl (omega arith) o
  next_back (Sizes n m) q o = reads (Sizes n m) 1 (n ∷ m ∷ q) refl refl refl (omega arith) o
  next_back (Row p v) q o = reads (Row p v) 2 (p ∷ v ∷ q) refl refl refl (omega arith) o
  next_back (DontCare p) q o = reads (DontCare p) 3 (p ∷ q) refl refl refl (omega arith) o
  next_back (Gate k a b) q o = reads (Gate k a b) 4 (k ∷ a ∷ b ∷ q) refl refl refl (omega arith) o
  next_back (Output s) q o = reads (Output s) 5 (s ∷ q) refl refl refl (omega arith) o
  next_back (Limit p w) q o = reads (Limit p w) 6 (p ∷ w % 256 ∷ w / 256 ∷ q) (ap (Limit p) (mod-add-div w 256)) refl refl (omega arith) o

  one_back : (c : Command) (q : List ℕ) → InOrder before c
      → one_command (x ++ (command_bytes c ++ q)) (length x) before
      ≡ onward (x ++ (command_bytes c ++ q)) c (length x + length (command_bytes c)) (holds (before ++ c ∷ []))
  unfolding one_command judged
  one_back c q o = rw (next_back c q o, o.made, o.new, o.room)

-- the reading of the bytes of commands in order comes to the end of them
through : (cs : List Command) → AllInOrder cs → (q : List ℕ) → reading_of (bytes_of cs ++ q) ≡ reading_at (bytes_of cs ++ q) (length (bytes_of cs)) cs
unfolding collect
through cs none_yet q = reading_whole q
through cs (next_in_order before c p o n) q =
    let x = bytes_of before in
    let s = x ++ (command_bytes c ++ q) in
    rw (collect_snoc command_bytes before c, append_assoc x (command_bytes c) q, length-append x (command_bytes c))
    (through before p (command_bytes c ++ q) ∙ reading_step s (length x) before
    ∙ ap (continued (reading_at s)) (one_back x before c q o) ∙ rw n)

-- commands in order, then 00, with no pattern missing
pub commands_back : (cs : List Command) → AllInOrder cs → is_empty cs ≡ false → Complete (cs ++ End ∷ [])
    → reading_of (bytes_of (cs ++ End ∷ [])) ≡ holds (cs ++ End ∷ [])
unfolding ending
commands_back cs p some all =
    let x = bytes_of cs in
    let s = x ++ 0 ∷ [] in
    let ds = cs ++ End ∷ [] in
    let past : ltb (length x + 1) (length s) ≡ false = le-ltb (length x + 1) (length s) (omega (arith, length-append x (0 ∷ []))) in
    let o : InOrder cs End = record { first = sym some; in_range = refl; made = refl; new = refl; room = refl } in
    let none : missing ds ≡ 2 ^ inputs_of ds = lowest_none _ (λ p. not (is_marked p ds)) (λ p l. rw (all p l) tt) in
    rw (collect_snoc command_bytes cs End)
    (through cs p (0 ∷ []) ∙ reading_step s (length x) cs
    ∙ ap (continued (reading_at s)) (one_back x cs End [] o)
    ∙ rw (past, none, le-ltb (2 ^ inputs_of ds) (2 ^ inputs_of ds) (omega arith)))
