-- How much the program holds: of the input, and of its replies before it writes them out.
use Rattle.std.specs.Prelude.{ℕ}

-- the bytes of the window on the input, and of the buffer for replies: as many as `WINDOW` of src/main.rt says
abbrev pub window : ℕ
window = 65536

-- once the replies come to this many bytes they are written out; the buffer still has room for the longest
abbrev pub nearly_full : ℕ
nearly_full = 60000

-- the bytes of the longest buffer that is lent
abbrev pub most_room : ℕ
most_room = 800
