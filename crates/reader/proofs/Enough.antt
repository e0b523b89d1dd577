-- As many commands as there are bytes are enough: any more give the same reading.
use mathlib.Core.Path.{◌≡◌, refl, sym}
use mathlib.Core.List.{List, []}
use Prim.Native.Nat.{ℕ, zero, suc, ◌+◌, ◌≤◌, ◌<◌}
use native.Mathlib.Omega.{arith}
use lib.ListN.{length}
use borrow.Author.Tests.{le-leb}
use Rattle.base.specs.Refusals.{refusal_at, cut_short}
use Rattle.sheet.specs.declared.Command.{Command}
use Rattle.reader.specs.Reader.{next_of}
use Rattle.sheet.specs.Judged.{Reading, refused}
use Rattle.reader.specs.Reading.{Passage, over, on, one_command, continued, reading_from, reading_of}
use Rattle.reader.proofs.Passages.{PassageTells, passage_tells}

-- where nothing is left, the command that is due is cut short
spent : (k : ℕ) (s : List ℕ) (at : ℕ) (before : List Command) → length s ≤ at → reading_from (suc k) s at before ≡ refused (refusal_at cut_short at)
unfolding reading_from one_command next_of
spent k s at before l = simp (le-leb (length s) at l)

pub enough : (j k : ℕ) (s : List ℕ) (at : ℕ) (before : List Command)
    → length s ≤ j + at → length s ≤ k + at → reading_from j s at before ≡ reading_from k s at before
unfolding reading_from
enough zero zero s at before p q = refl
enough zero (suc k) s at before p q = sym (spent k s at before (omega arith))
enough (suc j) zero s at before p q = spent j s at before (omega arith)
enough (suc j) (suc k) s at before p q =
    go (one_command s at before) (passage_tells s at before) λ to cs l. enough j k s to cs (omega arith) (omega arith)
  where
    go : (x : Passage) → PassageTells s at before x → ((to : ℕ) (cs : List Command) → at < to → reading_from j s to cs ≡ reading_from k s to cs)
        → continued (reading_from j s) x ≡ continued (reading_from k s) x
    go (over y) t f = refl
    go (on cs to) t f = f to cs t.1

-- the reading without a count: it is what one command leads to, and the reading from there
pub reading_at : List ℕ → ℕ → List Command → Reading
reading_at s at before = reading_from (length s) s at before

pub reading_step : (s : List ℕ) (at : ℕ) (before : List Command) → reading_at s at before ≡ continued (reading_at s) (one_command s at before)
unfolding reading_at reading_from
reading_step s at before = enough (length s) (suc (length s)) s at before (omega arith) (omega arith)

-- the whole sheet is read from its start, before any command
pub reading_whole : (s : List ℕ) → reading_of s ≡ reading_at s 0 []
unfolding reading_at reading_of
reading_whole s = refl
