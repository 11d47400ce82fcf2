-- The lines of what is shown, a kind at a time.
use Rattle.std.specs.Prelude.{ℕ, List, [], ◌∷◌, codes, filter, Option}
use Rattle.std.specs.Option.{option_map_or}
use Rattle.std.specs.List.{position_or_len}
use Rattle.team_sets.specs.Names.{Name, ascending}
use Rattle.tg_text.specs.Spelling.{spell_decimal, spell_hex, line_of}
use Rattle.team_model.specs.ShowText.{device_lt}
use Rattle.team_model.specs.declared.terms.Member.{Member}
use Rattle.team_model.specs.declared.terms.Device.{Device}
use Rattle.team_report.specs.declared.show.Counts.{Counts}

abbrev pub team_line : Name → List ℕ
team_line t = line_of (codes "team" ∷ spell_hex t ∷ [])

-- no line where there is no title
abbrev pub title_line : Option (List ℕ) → List ℕ
title_line o = option_map_or (λ title. line_of (codes "title" ∷ title ∷ [])) o []

abbrev pub links_line : Counts → List ℕ
links_line c =
    line_of (codes "links" ∷ spell_decimal c.held ∷ codes "waiting" ∷ spell_decimal c.waiting ∷ codes "counting" ∷ spell_decimal c.counting ∷ [])

abbrev pub member_line : Member → List ℕ
member_line m = line_of (codes "member" ∷ m.user ∷ m.roles)

-- a role in the line of a member
abbrev pub spaced_role : Name → List ℕ
spaced_role r = 32 ∷ r

abbrev pub device_line : Device → List ℕ
device_line d = line_of (codes "device" ∷ d.user ∷ spell_hex d.id ∷ [])

abbrev pub role_line : Name → List ℕ
role_line r = line_of (codes "role" ∷ r ∷ [])

-- the listed devices, by user and then by id
abbrev pub listed_by_user : List Device → List Device
listed_by_user devices = ascending device_lt (filter (λ d. d.listed) devices)

-- where a device belongs among these
abbrev pub first_place : Device → List Device → ℕ
first_place d devices = position_or_len (device_lt d) devices
