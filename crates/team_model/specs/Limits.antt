-- How much a team has at most.
use Rattle.std.specs.Prelude.{ℕ}
use Rattle.tg_text.specs.KeySpelling as spelling
use Rattle.tg_text.specs.declared.keys.Scope.TheVariants.{Team}

-- How many members are listed at most.
abbrev pub most_members : ℕ
most_members = 256

-- How many devices were ever listed for a user at most.
abbrev pub most_devices_ever : ℕ
most_devices_ever = 64

-- How many devices are listed for a user at most.
abbrev pub most_devices : ℕ
most_devices = 8

-- How many roles are listed at most, `admin` among them.
abbrev pub most_roles : ℕ
most_roles = 32

-- How many invitations are open at most, of both kinds together.
abbrev pub most_invitations : ℕ
most_invitations = 256

-- How many leaves an invitation has: as many as the tree of its key.
abbrev pub invitation_leaves : ℕ
invitation_leaves = 32

-- How many boxes are held at most.
abbrev pub most_boxes : ℕ
most_boxes = 65536

-- The last generation of a scope's keys, as a key id may have it: the team's, and each role's and user's too.
abbrev pub last_generation : ℕ
last_generation = spelling.last_generation Team
