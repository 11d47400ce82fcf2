-- Where there is room for the greatest link there is room for any.
use Rattle.std.proofs.Common.{◌≡◌, ◌+◌, false, nat_le, nat_lt, length}
use Rattle.std.proofs.lemmas.Bool.{leb-false, ltb-false}
use Rattle.tg_text.specs.Limits.{most_file_bytes, most_links}
use Rattle.tg_text.proofs.Lists.{neither}
use Rattle.link_text.specs.TeamFile.{file_text}
use Rattle.link_graph.specs.Held.{Held}
use Rattle.team_author.specs.Drafting.{HasRoom}
use Rattle.team_author.specs.Planning.{greatest_frame, is_full}

pub room_of : (held : Held) → is_full held ≡ false → HasRoom held
room_of held e =
    let size = length (file_text held.team held.links) + greatest_frame in
    let both = neither (nat_le most_links (length held.links)) (nat_lt most_file_bytes size) e in
    record { few = leb-false most_links (length held.links) both.0; short = ltb-false most_file_bytes size both.1 }
