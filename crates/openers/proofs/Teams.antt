-- One held set is found of a team's file.
use Rattle.std.proofs.Common.{◌≡◌, ◌∙◌, ℕ, List, Option, Some, None, sym, ap}
use Rattle.team_sets.specs.SortedLaws.{by_names}
use Rattle.team_sets.proofs.Sorted.{ascending-of_set, names-strict, set-apart}
use Rattle.team_model.specs.Judging.{name_of}
use Rattle.link_graph.specs.Held.{Held}
use Rattle.team_files.specs.FileLaws.{FileIsReadOnce}
use Rattle.link_intake.specs.Merged.{IsHeldIn}
use Rattle.outcomes.specs.Refusing.{Found, refuses, holds}
use Rattle.openers.specs.Team.{FindsTeam}

-- a file is that of one held set, in ascending order
pub one_held : FileIsReadOnce → (bytes : List ℕ) (a b : Held) → IsHeldIn bytes a → IsHeldIn bytes b → a ≡ b
one_held once bytes a b x y =
    let one = once bytes a.team b.team a.links b.links x.file y.file in
    let links : a.links ≡ b.links = sym x.ascends
    ∙ ascending-of_set (by_names name_of) (names-strict name_of) a.links b.links (set-apart name_of a.links x.file.held.set) (set-apart name_of b.links y.file.held.set) one.1
    ∙ y.ascends in
    let team : a.team ≡ b.team = one.0 in
    λ i. record { team = team i; links = links i }

pub team_found_once : FileIsReadOnce → (file : Option (List ℕ)) (x y : Found Held) → FindsTeam file x → FindsTeam file y → x ≡ y
team_found_once once None (refuses a) (refuses b) h k = ap refuses (h ∙ sym k)
team_found_once once None (refuses a) (holds b) h k = absurd k
team_found_once once None (holds a) y h k = absurd h
team_found_once once (Some t) (refuses a) (refuses b) h k = ap refuses (h.1 ∙ sym k.1)
team_found_once once (Some t) (refuses a) (holds b) h k = absurd (h.0 b.team b.links k.file)
team_found_once once (Some t) (holds a) (refuses b) h k = absurd (k.0 a.team a.links h.file)
team_found_once once (Some t) (holds a) (holds b) h k = ap holds (one_held once t a b h k)
