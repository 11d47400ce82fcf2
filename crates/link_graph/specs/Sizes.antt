-- How many bytes a team file has. Only private contracts cite it.
use Rattle.std.specs.Prelude.{ℕ, ◌+◌, length, decimal}

-- The frame of a text of so many bytes: `link `, the number, a newline, and the text.
abbrev pub frame_length : ℕ → ℕ
frame_length n = 6 + length (decimal n) + n
