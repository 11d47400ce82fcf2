-- Key lines change current keys and boxes alone.
use Rattle.std.proofs.Common.{◌≡◌, Bool, true, false, cond, List, [], append-nil, refl, ◌∙◌, ap}
use Rattle.acts.specs.declared.entry.Entry.{Entry}
use Rattle.tg_text.specs.declared.keys.BoxLine.{BoxLine}
use Rattle.tg_text.specs.declared.keys.KeyId.{KeyId}
use Rattle.tg_text.specs.declared.keys.KeyLines.{KeyLines}
use Rattle.tg_text.specs.declared.keys.Scope.{Scope}
use Rattle.tg_text.specs.declared.keys.Scope.TheVariants.{Team, Role, User, Device as DeviceScope}
use Rattle.key_reach.specs.Keys.{current_keys}
use Rattle.team_model.specs.KeyLines.{lined, taken_boxes, with_lines, with_news}
use Rattle.team_model.specs.KeyTables.{is_allowed, key_table}
use Rattle.team_model.specs.State.{State, lists_device}
use Rattle.team_model.specs.Writes.{with_boxes}

pub with_lines-is : (s : State) (e : Entry) (lines : KeyLines) → with_lines s e lines ≡ record s { currents = (with_lines s e lines).currents; boxes = (with_lines s e lines).boxes }
unfolding with_lines
with_lines-is s e lines = refl

pub lined-is : (s : State) (e : Entry) → lined s e ≡ record s { currents = (lined s e).currents; boxes = (lined s e).boxes }
unfolding lined
lined-is s e = go (lists_device s e.user e.device)
  where
    go : (b : Bool) → cond b (with_lines s e e.lines) s ≡ record s { currents = (cond b (with_lines s e e.lines) s).currents; boxes = (cond b (with_lines s e e.lines) s).boxes }
    go true = with_lines-is s e e.lines
    go false = refl

pub lined-listed : (s : State) (e : Entry) → lists_device s e.user e.device ≡ true → lined s e ≡ with_lines s e e.lines
unfolding lined
lined-listed s e h = ap (λ b. cond b (with_lines s e e.lines) s) h

pub lined-unlisted : (s : State) (e : Entry) → lists_device s e.user e.device ≡ false → lined s e ≡ s
unfolding lined
lined-unlisted s e h = ap (λ b. cond b (with_lines s e e.lines) s) h

-- the boxes come after the new keys
pub with_lines-are : (s : State) (e : Entry) (lines : KeyLines)
    → with_lines s e lines ≡ with_boxes (with_news s e lines.news) (taken_boxes s (current_keys (key_table (with_news s e lines.news))) lines.boxes)
unfolding with_lines
with_lines-are s e lines = refl

-- no lines change nothing
without_lines : (s : State) (e : Entry) → with_lines s e (record { news = []; boxes = [] }) ≡ s
unfolding with_lines
without_lines s e = ap (λ (bs : List BoxLine). record s { boxes = bs }) (append-nil s.boxes)

pub lined-none : (s : State) (e : Entry) → e.lines.news ≡ [] → e.lines.boxes ≡ [] → lined s e ≡ s
lined-none s e no_news no_boxes = go (lists_device s e.user e.device) refl
  where
    none : with_lines s e e.lines ≡ s
    none = (λ i. with_lines s e (record { news = no_news i; boxes = no_boxes i })) ∙ without_lines s e

    go : (b : Bool) → lists_device s e.user e.device ≡ b → lined s e ≡ s
    go true h = lined-listed s e h ∙ none
    go false h = lined-unlisted s e h

-- the arrows are those of the other tables
pub allowed-kept : (s : State) (keys : List KeyId) (boxes : List BoxLine) (to of : Scope) → is_allowed (record s { currents = keys; boxes = boxes }) to of ≡ is_allowed s to of
allowed-kept s keys boxes Team Team = refl
allowed-kept s keys boxes Team (Role r) = refl
allowed-kept s keys boxes Team (User u) = refl
allowed-kept s keys boxes Team (DeviceScope d) = refl
allowed-kept s keys boxes (Role q) Team = refl
allowed-kept s keys boxes (Role q) (Role r) = refl
allowed-kept s keys boxes (Role q) (User u) = refl
allowed-kept s keys boxes (Role q) (DeviceScope d) = refl
allowed-kept s keys boxes (User v) Team = refl
allowed-kept s keys boxes (User v) (Role r) = refl
allowed-kept s keys boxes (User v) (User u) = refl
allowed-kept s keys boxes (User v) (DeviceScope d) = refl
allowed-kept s keys boxes (DeviceScope c) Team = refl
allowed-kept s keys boxes (DeviceScope c) (Role r) = refl
allowed-kept s keys boxes (DeviceScope c) (User u) = refl
allowed-kept s keys boxes (DeviceScope c) (DeviceScope d) = refl
