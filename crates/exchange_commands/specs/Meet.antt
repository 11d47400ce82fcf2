-- What `meet FILE1 FILE2` does.
use Rattle.std.specs.Prelude.{◌≡◌, ◌&&◌, ◌==◌, ◌-◌, ℕ, Bool, true, false, cond, List, [], ◌∷◌, ◌++◌, codes, length}
use Rattle.tg_text.specs.Spelling.{line_of, spell_decimal, spell_hex}
use Rattle.team_sets.specs.Names.{same_name}
use Rattle.link_text.specs.TeamFile.{file_text}
use Rattle.link_graph.specs.Held.{Held}
use Rattle.head_sync.specs.Meetings.{IsMet}
use Rattle.head_sync.specs.declared.meeting.Met.{Met}
use Rattle.outcomes.specs.Steps.{World, Outcome, acting, put, saying}
use Rattle.outcomes.specs.Refusing.{opening}
use Rattle.outcomes.specs.declared.put.Put.{Put}
use Rattle.outcomes.specs.declared.stop.Stop.{Stop}
use Rattle.outcomes.specs.declared.stop.Stop.TheVariants.{Refused, Failed, Memory}
use Rattle.openers.specs.Team.{FindsTeam}
use Rattle.team_words.specs.declared.command.Command.{Command}
use Rattle.team_words.specs.declared.command.Command.TheVariants.{Meet}

-- how many messages passed, and their digest
abbrev pub passed_line : Met → List ℕ
passed_line met = line_of (codes "passed" ∷ spell_decimal met.messages ∷ spell_hex met.digest ∷ [])

-- a line that begins with an end's number and a word
abbrev pub count_line : List ℕ → ℕ → List ℕ
count_line words count = line_of (words ∷ spell_decimal count ∷ [])

-- how many links an end refused, if it did
abbrev pub refused_line : List ℕ → ℕ → List ℕ
refused_line words count = cond (count == 0) [] (count_line words count)

-- what is printed where the ends came to hold so many links more
abbrev pub met_text : ℕ → ℕ → Met → List ℕ
met_text first second met =
    passed_line met ++ (count_line (codes "1 new") first ++ (count_line (codes "2 new") second
    ++ (refused_line (codes "1 refused") met.refused_by_first ++ refused_line (codes "2 refused") met.refused_by_second)))

-- 1 where an end refused a link
abbrev pub met_status : Met → ℕ
met_status met = cond ((met.refused_by_first == 0) && (met.refused_by_second == 0)) 0 1

abbrev pub met_puts : List ℕ → List ℕ → Held → Held → List Put
met_puts file other kept given = put file (file_text kept.team kept.links) ∷ put other (file_text given.team given.links) ∷ []

-- both files are replaced, the first one first, by those of the links that the ends then hold
abbrev pub met : List ℕ → List ℕ → Held → Held → Held → Held → Met → Outcome
met file other one two kept given m =
    acting (met_status m) 0 (met_puts file other kept given) (met_text (length kept.links - length one.links) (length given.links - length two.links) m)

abbrev pub other_team : List ℕ
other_team = line_of (codes "fault" ∷ codes "OtherTeam" ∷ [])

-- what is answered of two teams, unless memory is short
abbrev pub IsOtherTeam : Stop → Type 0
IsOtherTeam (Refused a) = (a.status ≡ 4) × (a.text ≡ other_team)
IsOtherTeam Failed = ⊥
IsOtherTeam Memory = Unit {0}

-- two ends of one team meet; two teams don't
abbrev pub by_team : Bool → List ℕ → List ℕ → Held → Held → Outcome → Type 0
by_team true file other one two o = (kept : Held) × (given : Held) × (m : Met) × IsMet one two kept given m × (o ≡ met file other one two kept given m)
by_team false file other one two o = o ≡ saying 4 other_team

abbrev pub meeting : List ℕ → List ℕ → Held → Held → World → Outcome → Type 0
meeting file other one two w o = by_team (same_name one.team two.team) file other one two o

-- the ends of a meeting hold what is in the two files
abbrev pub meets : List ℕ → List ℕ → World → Outcome → Type 0
meets file other = opening FindsTeam file (λ one. opening FindsTeam other (λ two. meeting file other one two))

abbrev pub does_meet : Command → World → Outcome → Type 0
does_meet (Meet file other) w o = meets file other w o
does_meet _ w o = ⊥
