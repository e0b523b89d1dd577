-- Document 02, E1: what cleaning a sheet answers, and what the lent buffer holds then. What reading refuses stays refused; then the buffer may be too short.
-- The relation has no part in it, so that an empty R(p) hinders nothing.
use Rattle.std.specs.Prelude.{ℕ, List, length}
use Rattle.base.specs.Cases.{Case, refused_case}
use Rattle.base.specs.Buffers.{fitted, buffer_with}
use Rattle.sheet.specs.Gathered.{gathered}
use Rattle.sheet.specs.Judged.{Reading, holds, refused}
use Rattle.reader.specs.Reading.{reading_of}
use Rattle.clean.specs.Copy.{copy_bytes}

-- the reply to what was read and a buffer of so many bytes
unfoldable pub cleaned_from : Reading → ℕ → Case
cleaned_from (refused f) room = refused_case f
cleaned_from (holds cs) room = fitted (copy_bytes (gathered cs)) room

-- the same by the bytes of a sheet
unfoldable pub cleaned_of : List ℕ → ℕ → Case
cleaned_of sheet room = cleaned_from (reading_of sheet) room

-- what the lent buffer holds then, by what was read
unfoldable pub buffer_cleaned_from : Reading → List ℕ → List ℕ
buffer_cleaned_from (refused f) buffer = buffer
buffer_cleaned_from (holds cs) buffer = let copy = copy_bytes (gathered cs) in buffer_with copy buffer (fitted copy (length buffer))

-- the same by the bytes of a sheet
unfoldable pub buffer_cleaned : List ℕ → List ℕ → List ℕ
buffer_cleaned sheet buffer = buffer_cleaned_from (reading_of sheet) buffer
