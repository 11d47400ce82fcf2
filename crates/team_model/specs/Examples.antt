-- Worked examples. Names of one byte are enough: nothing here knows that a name has 32.
use Rattle.std.specs.Prelude.{◌≡◌, ℕ, List, [], ◌∷◌, ◌++◌, map, codes, Some, None}
use Rattle.team_sets.specs.Names.{Name}
use Rattle.acts.specs.declared.entry.Act.{Act}
use Rattle.acts.specs.declared.entry.Act.TheVariants.{Found, AddMember, RemoveMember, AddRole, GiveRole, Title, Join}
use Rattle.team_model.specs.declared.terms.Link.{Link}
use Rattle.team_model.specs.declared.terms.Verdict.TheVariants.{Counts, Outranked, Refused, Struck, Unlawful, Waiting}
use Rattle.team_model.specs.declared.terms.Reason.TheVariants.{NotListed, Present}
use Rattle.team_model.specs.Arrival.{arrived}
use Rattle.team_model.specs.ShowText.{show_text}
use Rattle.team_model.specs.Judging.{Rules, rules_by, verdict, team, team_rules}

abbrev link : ℕ → List ℕ → ℕ → Act → Link
link n ps u a = record {
  team = None;
  prev = map (λ p. p ∷ []) ps;
  name = n ∷ [];
  key = [];
  signature = [];
  entry = record { user = u ∷ []; device = u ∷ []; time = 0; act = a; lines = record { news = []; boxes = [] } };
}

-- a root, two titles beside each other, a join after both, a title by a stranger, and a join whose parent isn't there
abbrev pub reef : List Link
reef = link 9 (2 ∷ 5 ∷ []) 1 Join ∷ link 5 (7 ∷ []) 1 (Title (codes "High tide")) ∷ link 7 [] 1 (Found [] (codes "Reef crew"))
    ∷ link 2 (7 ∷ []) 1 (Title (codes "Low tide")) ∷ link 3 (7 ∷ []) 8 (Title (codes "Mine")) ∷ link 4 (6 ∷ []) 1 Join ∷ []

abbrev pub ReefRow : Type 0
ReefRow = ((team team_rules reef).title ≡ Some (codes "High tide"))
    × (map (verdict team_rules reef) reef ≡ Counts ∷ Counts ∷ Counts ∷ Counts ∷ Unlawful NotListed ∷ Waiting ∷ [])

abbrev by : Name → ℕ → List ℕ → Act → Link
by u n ps a = record (link n ps 0 a) { entry = record (link n ps 0 a).entry { user = u; device = 1 ∷ [] } }

-- the team of the first path, as it is shown
abbrev pub shown : List Link
shown = by (codes "ann") 7 [] (Found [] (codes "Reef crew")) ∷ by (codes "ann") 5 (7 ∷ []) (Title (codes "High tide"))
    ∷ by (codes "ann") 2 (7 ∷ []) (Title (codes "Low tide")) ∷ by (codes "ann") 9 (2 ∷ 5 ∷ []) Join ∷ []

abbrev pub ShownRow : Type 0
ShownRow = (show_text (7 ∷ []) shown
    ≡ codes "team 07\ntitle High tide\nlinks 4 waiting 0 counting 4\nmember ann admin\ndevice ann 01\nrole admin\ndebt none team\ndebt none role:admin\ndebt none user:ann\nend\n")
    × (show_text (7 ∷ []) [] ≡ codes "team 07\nlinks 0 waiting 0 counting 0\nend\n")

-- the root comes last, after its children 4 and 3 and the child 2 of 4: it connects first, then 3, 4 and 2
abbrev pub ArrivalRow : Type 0
ArrivalRow = map (λ x. x.name) (arrived (link 4 (9 ∷ []) 1 Join ∷ link 2 (4 ∷ []) 1 Join ∷ link 3 (9 ∷ []) 1 Join ∷ link 9 [] 1 Join ∷ link 1 (2 ∷ []) 1 Join ∷ []))
    ≡ (9 ∷ []) ∷ (3 ∷ []) ∷ (4 ∷ []) ∷ (2 ∷ []) ∷ (1 ∷ []) ∷ []

-- two titles whose root isn't there: they wait, and nothing else is said. The root then comes, last
abbrev pub rootless : List Link
rootless = by (codes "ann") 5 (7 ∷ []) (Title (codes "High tide")) ∷ by (codes "ann") 2 (7 ∷ []) (Title (codes "Low tide")) ∷ []

abbrev pub WaitingRow : Type 0
WaitingRow = (show_text (7 ∷ []) rootless ≡ codes "team 07\nlinks 2 waiting 2 counting 0\nend\n")
    × (show_text (7 ∷ []) (by (codes "ann") 7 [] (Found [] (codes "Reef crew")) ∷ rootless)
    ≡ codes "team 07\ntitle High tide\nlinks 3 waiting 0 counting 3\nmember ann admin\ndevice ann 01\nrole admin\ndebt none team\ndebt none role:admin\ndebt none user:ann\nend\n")

-- by rules under which the id of a device is its key
abbrev own_rules : Rules
own_rules = rules_by (λ key. key)

-- a root, and a role listed twice, beside each other: the lesser name's turn comes first, and the other is refused at its own
abbrev pub twice : List Link
twice = link 30 [] 1 (Found [] (codes "t")) ∷ link 9 (30 ∷ []) 1 (AddRole (codes "editor")) ∷ link 8 (30 ∷ []) 1 (AddRole (codes "editor")) ∷ []

abbrev pub TwiceRow : Type 0
TwiceRow = map (verdict own_rules twice) twice ≡ Counts ∷ Refused Present ∷ Counts ∷ []

-- a member by a number, with a device of the same name, and as an admin
abbrev add : ℕ → Act
add u = AddMember (u ∷ []) (u ∷ []) []

abbrev raise : ℕ → Act
raise u = GiveRole (u ∷ []) (codes "admin")

abbrev remove : ℕ → Act
remove u = RemoveMember (u ∷ [])

-- a root by 1, who adds 2 and makes it admin; then each removes the other
abbrev pub two : List Link
two = link 30 [] 1 (Found [] (codes "t")) ∷ link 31 (30 ∷ []) 1 (add 2) ∷ link 32 (31 ∷ []) 1 (raise 2) ∷ link 9 (32 ∷ []) 1 (remove 2) ∷ link 8 (32 ∷ []) 2 (remove 1) ∷ []

abbrev pub TwoRow : Type 0
TwoRow = map (verdict own_rules two) two ≡ Counts ∷ Counts ∷ Counts ∷ Counts ∷ Struck (9 ∷ []) ∷ []

-- 1 founds, and adds 2 and then 3 as admins
abbrev admins : List Link
admins = link 30 [] 1 (Found [] (codes "t")) ∷ link 31 (30 ∷ []) 1 (add 2) ∷ link 32 (31 ∷ []) 1 (raise 2) ∷ link 33 (32 ∷ []) 1 (add 3) ∷ link 34 (33 ∷ []) 1 (raise 3) ∷ []

-- 1 removes 2, 2 removes 3, 3 removes 1
abbrev pub ring : List Link
ring = admins ++ link 9 (34 ∷ []) 1 (remove 2) ∷ link 8 (34 ∷ []) 2 (remove 3) ∷ link 7 (34 ∷ []) 3 (remove 1) ∷ []

abbrev pub RingRow : Type 0
RingRow = map (verdict own_rules ring) ring ≡ Counts ∷ Counts ∷ Counts ∷ Counts ∷ Counts ∷ Counts ∷ Struck (9 ∷ []) ∷ Outranked (9 ∷ []) ∷ []

-- 2 removes 3, whose title beside it is struck; then a removal of 2 by 1 beside both comes
abbrev pub early : List Link
early = admins ++ link 8 (34 ∷ []) 2 (remove 3) ∷ link 7 (34 ∷ []) 3 (Title (codes "ours")) ∷ []

abbrev pub late : List Link
late = early ++ link 9 (34 ∷ []) 1 (remove 2) ∷ []

abbrev pub LateRow : Type 0
LateRow = (map (verdict own_rules early) early ≡ Counts ∷ Counts ∷ Counts ∷ Counts ∷ Counts ∷ Counts ∷ Struck (8 ∷ []) ∷ [])
    × (map (verdict own_rules late) late ≡ Counts ∷ Counts ∷ Counts ∷ Counts ∷ Counts ∷ Struck (9 ∷ []) ∷ Counts ∷ Counts ∷ [])
