-- How much is held and read at most.
use Rattle.std.specs.Prelude.{ℕ}

-- How many links a team has at most.
abbrev pub most_links : ℕ
most_links = 16384

-- How many bytes the text of a link has at most.
abbrev pub most_link_bytes : ℕ
most_link_bytes = 1048576

-- How many bytes a file of links or a bundle has at most.
abbrev pub most_file_bytes : ℕ
most_file_bytes = 268435456
