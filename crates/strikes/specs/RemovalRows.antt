-- Worked rows of strong removal: what becomes of links that were written beside a removal, and who is on the team then. Names of one
-- byte are enough, and here the id of a device is its key. Ann has the name 1, bo 2, cy 3, di 4 and eve 5; the first device of each has
-- its user's name.
use Rattle.std.specs.Prelude.{◌≡◌, ℕ, false, List, [], ◌∷◌, ◌++◌, map, codes, None}
use Rattle.team_sets.specs.Names.{Name}
use Rattle.acts.specs.declared.entry.Act.{Act}
use Rattle.acts.specs.declared.entry.Act.TheVariants.{Found, AddMember, RemoveMember, AddRole, GiveRole, TakeRole, AddDevice, RemoveDevice, InviteMember, InviteDevice, AdmitMember, AdmitDevice, Title}
use Rattle.team_model.specs.Judging.{Rules, rules_by, team, verdict}
use Rattle.team_model.specs.State.{admin, is_listed}
use Rattle.team_model.specs.declared.terms.Link.{Link}
use Rattle.team_model.specs.declared.terms.Verdict.{Verdict}
use Rattle.team_model.specs.declared.terms.Verdict.TheVariants.{Counts, Outranked, Refused, Struck, Unlawful}
use Rattle.team_model.specs.declared.terms.Reason.TheVariants.{NotAdmin, NotListed}

-- by rules under which the id of a device is its key
abbrev own_rules : Rules
own_rules = rules_by (λ key. key)

-- the link of a number, with its parent, its user, its device and its act
abbrev link_by : ℕ → List ℕ → ℕ → ℕ → Act → Link
link_by n ps u d a = record {
  team = None;
  prev = map (λ p. p ∷ []) ps;
  name = n ∷ [];
  key = [];
  signature = [];
  entry = record { user = u ∷ []; device = d ∷ []; time = 0; act = a; lines = record { news = []; boxes = [] } };
}

abbrev link : ℕ → List ℕ → ℕ → Act → Link
link n ps u a = link_by n ps u u a

abbrev found : Act
found = Found [] (codes "t")

abbrev add : ℕ → Act
add u = AddMember (u ∷ []) (u ∷ []) []

abbrev remove : ℕ → Act
remove u = RemoveMember (u ∷ [])

abbrev raise : ℕ → Act
raise u = GiveRole (u ∷ []) admin

abbrev editor : Name
editor = codes "editor"

abbrev verdicts : List Link → List Verdict
verdicts links = map (verdict own_rules links) links

abbrev users : List Link → List Name
users links = map (λ m. m.user) (team own_rules links).members

-- the first founds, and adds the second and the third as admins, in this order, and eve
abbrev three : ℕ → ℕ → ℕ → List Link
three a b c =
    link 30 [] a found ∷ link 31 (30 ∷ []) a (add b) ∷ link 32 (31 ∷ []) a (raise b)
    ∷ link 33 (32 ∷ []) a (add c) ∷ link 34 (33 ∷ []) a (raise c) ∷ link 35 (34 ∷ []) a (add 5) ∷ []

-- in three branches, bo removes cy and then ann, cy removes bo, and ann removes eve
abbrev branches : List Link
branches = link 9 (35 ∷ []) 2 (remove 3) ∷ link 8 (9 ∷ []) 2 (remove 1) ∷ link 7 (35 ∷ []) 3 (remove 2) ∷ link 6 (35 ∷ []) 1 (remove 5) ∷ []

-- where ann is the most senior and then bo: hers stands first, and outranks bo's second act, which would strike it. Then bo's first
-- stands, and cy's is struck by it
abbrev pub BranchesRow : Type 0
BranchesRow = (verdicts (three 1 2 3 ++ branches) ≡ Counts ∷ Counts ∷ Counts ∷ Counts ∷ Counts ∷ Counts ∷ Counts ∷ Outranked (6 ∷ []) ∷ Struck (9 ∷ []) ∷ Counts ∷ [])
    × (users (three 1 2 3 ++ branches) ≡ (1 ∷ []) ∷ (2 ∷ []) ∷ [])

-- where cy is senior to bo, cy's act strikes bo's first
abbrev pub JuniorBranchRow : Type 0
JuniorBranchRow = (verdicts (three 1 3 2 ++ branches) ≡ Counts ∷ Counts ∷ Counts ∷ Counts ∷ Counts ∷ Counts ∷ Struck (7 ∷ []) ∷ Outranked (6 ∷ []) ∷ Counts ∷ Counts ∷ [])
    × (users (three 1 3 2 ++ branches) ≡ (1 ∷ []) ∷ (3 ∷ []) ∷ [])

-- where bo is the most senior, both of his stand
abbrev pub SeniorBranchRow : Type 0
SeniorBranchRow = (verdicts (three 2 1 3 ++ branches) ≡ Counts ∷ Counts ∷ Counts ∷ Counts ∷ Counts ∷ Counts ∷ Counts ∷ Counts ∷ Struck (9 ∷ []) ∷ Struck (8 ∷ []) ∷ [])
    × (users (three 2 1 3 ++ branches) ≡ (2 ∷ []) ∷ (5 ∷ []) ∷ [])

-- ann founds, and adds bo as an admin
abbrev pair : List Link
pair = link 30 [] 1 found ∷ link 31 (30 ∷ []) 1 (add 2) ∷ link 32 (31 ∷ []) 1 (raise 2) ∷ []

-- bo adds di, and ann removes bo, in a link with this parent
abbrev addition : ℕ → List Link
addition parent = pair ++ link 9 (32 ∷ []) 2 (add 4) ∷ link 8 (parent ∷ []) 1 (remove 2) ∷ []

-- what the removal had seen stays, and else the addition is struck
abbrev pub SeenRow : Type 0
SeenRow = (verdicts (addition 9) ≡ Counts ∷ Counts ∷ Counts ∷ Counts ∷ Counts ∷ []) × (users (addition 9) ≡ (1 ∷ []) ∷ (4 ∷ []) ∷ [])
    × (verdicts (addition 32) ≡ Counts ∷ Counts ∷ Counts ∷ Struck (8 ∷ []) ∷ Counts ∷ []) × (users (addition 32) ≡ (1 ∷ []) ∷ [])

-- bo makes cy an admin, and beside it ann takes `admin` from bo. Cy, who has seen bo's gift alone, removes eve, who adds a device
abbrev gift : List Link
gift = pair ++ link 33 (32 ∷ []) 1 (add 3) ∷ link 34 (33 ∷ []) 1 (add 5) ∷ link 9 (34 ∷ []) 2 (raise 3) ∷ link 8 (34 ∷ []) 1 (TakeRole (2 ∷ []) admin)
    ∷ link 7 (9 ∷ []) 3 (remove 5) ∷ link 6 (34 ∷ []) 5 (AddDevice (60 ∷ []) []) ∷ []

-- the gift is struck. Cy's removal is lawful and stands, so it strikes, and is refused at its turn
abbrev pub StruckGiftRow : Type 0
StruckGiftRow = (verdicts gift ≡ Counts ∷ Counts ∷ Counts ∷ Counts ∷ Counts ∷ Struck (8 ∷ []) ∷ Counts ∷ Refused NotAdmin ∷ Struck (7 ∷ []) ∷ [])
    × (users gift ≡ (1 ∷ []) ∷ (2 ∷ []) ∷ (3 ∷ []) ∷ (5 ∷ []) ∷ []) × (is_listed (team own_rules gift) (60 ∷ []) ≡ false)

-- an outsider adds cy and removes ann, in links whose only parent is the root. Later bo and cy, who came in this order, remove each other
abbrev outsider : List Link
outsider = pair ++ link 33 (32 ∷ []) 1 (add 3) ∷ link 34 (33 ∷ []) 1 (raise 3) ∷ link 5 (30 ∷ []) 8 (add 3) ∷ link 6 (30 ∷ []) 8 (remove 1)
    ∷ link 9 (34 ∷ []) 2 (remove 3) ∷ link 7 (34 ∷ []) 3 (remove 2) ∷ []

-- what the outsider wrote strikes nothing and gives cy no seniority
abbrev pub OutsiderRow : Type 0
OutsiderRow = (verdicts outsider ≡ Counts ∷ Counts ∷ Counts ∷ Counts ∷ Counts ∷ Unlawful NotListed ∷ Unlawful NotListed ∷ Counts ∷ Struck (9 ∷ []) ∷ [])
    × (users outsider ≡ (1 ∷ []) ∷ (2 ∷ []) ∷ [])

-- ann adds a second device, and removes it. Beside the removal the device writes a title, and the first one adds it once more
abbrev devices : List Link
devices = link 30 [] 1 found ∷ link 31 (30 ∷ []) 1 (AddDevice (60 ∷ []) []) ∷ link 9 (31 ∷ []) 1 (RemoveDevice (1 ∷ []) (60 ∷ []))
    ∷ link_by 8 (31 ∷ []) 1 60 (Title (codes "mine")) ∷ link 7 (30 ∷ []) 1 (AddDevice (60 ∷ []) []) ∷ []

-- a removed device takes with it what it wrote beside the removal, and what brings it in
abbrev pub DeviceStruckRow : Type 0
DeviceStruckRow = (verdicts devices ≡ Counts ∷ Counts ∷ Counts ∷ Struck (9 ∷ []) ∷ Struck (9 ∷ []) ∷ []) × (is_listed (team own_rules devices) (60 ∷ []) ≡ false)

-- ann gives bo a role and takes it, and beside both bo, who is an admin, gives it to himself
abbrev roles : List Link
roles = pair ++ link 33 (32 ∷ []) 1 (AddRole editor) ∷ link 34 (33 ∷ []) 1 (GiveRole (2 ∷ []) editor) ∷ link 9 (34 ∷ []) 1 (TakeRole (2 ∷ []) editor)
    ∷ link 8 (33 ∷ []) 2 (GiveRole (2 ∷ []) editor) ∷ link 7 (33 ∷ []) 2 (Title (codes "ours")) ∷ []

-- a taken role takes with it what gives it to the user, and nothing else that he wrote
abbrev pub GiftStruckRow : Type 0
GiftStruckRow = verdicts roles ≡ Counts ∷ Counts ∷ Counts ∷ Counts ∷ Counts ∷ Counts ∷ Struck (9 ∷ []) ∷ Counts ∷ []

-- bo leaves, and has added di beside it: di isn't on the team either
abbrev leaving : List Link
leaving = pair ++ link 9 (32 ∷ []) 2 (remove 2) ∷ link 8 (32 ∷ []) 2 (add 4) ∷ []

abbrev pub LeavingRow : Type 0
LeavingRow = (verdicts leaving ≡ Counts ∷ Counts ∷ Counts ∷ Counts ∷ Struck (9 ∷ []) ∷ []) × (users leaving ≡ (1 ∷ []) ∷ [])

-- ann takes `admin` from bo, and beside it bo invites members, and devices of his own
abbrev invitations : List Link
invitations = pair ++ link 9 (32 ∷ []) 1 (TakeRole (2 ∷ []) admin) ∷ link 8 (32 ∷ []) 2 (InviteMember (60 ∷ []) 2 0)
    ∷ link 7 (32 ∷ []) 2 (InviteDevice (61 ∷ []) 2 0) ∷ []

-- what only an admin may open is struck
abbrev pub InvitationStruckRow : Type 0
InvitationStruckRow = verdicts invitations ≡ Counts ∷ Counts ∷ Counts ∷ Counts ∷ Struck (9 ∷ []) ∷ Counts ∷ []

-- a proof that names the first leaf
abbrev first_leaf : List ℕ
first_leaf = 0 ∷ 0 ∷ 0 ∷ 0 ∷ []

-- ann invites members, adds di and removes her, and beside both bo admits di by the invitation
abbrev admission : List Link
admission = pair ++ link 33 (32 ∷ []) 1 (InviteMember (60 ∷ []) 2 0) ∷ link 34 (33 ∷ []) 1 (add 4) ∷ link 9 (34 ∷ []) 1 (remove 4)
    ∷ link 8 (33 ∷ []) 2 (AdmitMember (4 ∷ []) (40 ∷ []) [] (60 ∷ []) first_leaf) ∷ []

-- bo invites devices, adds one and removes it, and beside both he admits it by the invitation
abbrev device_admission : List Link
device_admission = pair ++ link 33 (32 ∷ []) 2 (InviteDevice (61 ∷ []) 2 0) ∷ link 34 (33 ∷ []) 2 (AddDevice (40 ∷ []) []) ∷ link 9 (34 ∷ []) 2 (RemoveDevice (2 ∷ []) (40 ∷ []))
    ∷ link 8 (33 ∷ []) 2 (AdmitDevice (40 ∷ []) [] (61 ∷ []) first_leaf) ∷ []

-- a removal strikes an admission as it strikes an addition
abbrev pub AdmissionStruckRow : Type 0
AdmissionStruckRow = (verdicts admission ≡ Counts ∷ Counts ∷ Counts ∷ Counts ∷ Counts ∷ Counts ∷ Struck (9 ∷ []) ∷ []) × (users admission ≡ (1 ∷ []) ∷ (2 ∷ []) ∷ [])
    × (verdicts device_admission ≡ Counts ∷ Counts ∷ Counts ∷ Counts ∷ Counts ∷ Counts ∷ Struck (9 ∷ []) ∷ [])
    × (is_listed (team own_rules device_admission) (40 ∷ []) ≡ false)
