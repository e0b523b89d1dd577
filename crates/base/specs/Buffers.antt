-- Document 01, "Refusals", 12: what a call answers that writes bytes at the start of a lent buffer, and what the buffer holds then.
use Rattle.std.specs.Prelude.{ℕ, cond, List, ◌++◌, ltb, length, drop}
use Rattle.base.specs.Cases.{Case, accepting, accepted_outcome, refused_case, is_refused}
use Rattle.base.specs.Refusals.{refusal_at, short_buffer}

-- a buffer of fewer bytes is refused, at the room that is needed; otherwise the answer is the length of what is written
abbrev pub fitted : List ℕ → ℕ → Case
fitted bytes room = cond (ltb room (length bytes)) (refused_case (refusal_at short_buffer (length bytes))) (accepting accepted_outcome (length bytes))

-- the bytes in front and the rest of the buffer unchanged behind them; after a refusal the buffer is as it was
abbrev pub buffer_with : List ℕ → List ℕ → Case → List ℕ
buffer_with bytes buffer c = cond (is_refused c) buffer (bytes ++ drop c.value buffer)
