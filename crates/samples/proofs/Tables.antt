-- The tables of a reply line: those passed, and one more.
use Rattle.std.proofs.Common.{ℕ, zero, suc, ◌+◌, ◌≡◌, List, [], ◌++◌, get_or, refl, add-one}
use Rattle.samples.specs.Inner.Lines.{spaced_text, tables_text}

-- the first tables, each with a space behind it
unfoldable pub first_tables : ℕ → List ℕ → List ℕ
first_tables zero t = []
first_tables (suc k) t = first_tables k t ++ spaced_text (get_or t k 0)

pub tables_none : (t : List ℕ) → first_tables 0 t ≡ []
unfolding first_tables
tables_none t = refl

pub tables_more : (t : List ℕ) (k : ℕ) → first_tables (k + 1) t ≡ first_tables k t ++ spaced_text (get_or t k 0)
unfolding first_tables
tables_more t k = rw add-one

pub tables_all : (t : List ℕ) → first_tables 4 t ≡ tables_text t
unfolding first_tables tables_text
tables_all t = refl
