-- What is planned of an act: new keys for scopes that it leaves without a clean one, and boxes for what lacks by it. And what a repair
-- is: a link that makes up for what lacks already.
use Rattle.std.specs.Prelude.{ℕ, Bool, not, ◌&&◌, ◌||◌, if◌then◌else◌, List, [], ◌++◌, map, filter, find, flat_map, length, take, zip, nat_lt, Option}
use Rattle.std.specs.Ordering.{eq_by_cmp}
use Rattle.team_sets.specs.Closure.{has}
use Rattle.acts.specs.declared.entry.Entry.{Entry}
use Rattle.tg_text.specs.declared.keys.Scope.{Scope}
use Rattle.tg_text.specs.declared.keys.KeyId.{KeyId}
use Rattle.tg_text.specs.declared.keys.BoxLine.{BoxLine}
use Rattle.key_reach.specs.Keys.{Table, clean, is_device, is_live, lacks, lacks_box, same_key}
use Rattle.key_reach.specs.Lists.{pair_cmp}
use Rattle.team_model.specs.ActTable.{effect}
use Rattle.team_model.specs.KeyLines.{has_next, is_rotated, may_rekey, next_generation, wants_key, with_news}
use Rattle.team_model.specs.KeyTables.{key_table, live_scopes}
use Rattle.team_model.specs.State.{State, lists_device}

-- how many `new` lines and `box` lines a repair has at most, and how many boxes a plan
abbrev pub most_news : ℕ
most_news = 64

abbrev pub most_planned_boxes : ℕ
most_planned_boxes = 1024

abbrev pub same_pair : KeyId × KeyId → KeyId × KeyId → Bool
same_pair a b = eq_by_cmp pair_cmp a b

-- the recipient and the content of a box
abbrev pub ends_of : BoxLine → KeyId × KeyId
ends_of b = (b.to, b.of)

-- the keys that lack a box with this content
abbrev pub lacking : Table → KeyId → List (KeyId × KeyId)
lacking t of = map (λ to. (to, of)) (filter (λ to. lacks_box t to of) (clean t))

-- the pairs that lack a box: each content with its recipients, in the order of contents and then of recipients
abbrev pub lacks_by_content : Table → List (KeyId × KeyId)
lacks_by_content t = flat_map (lacking t) (clean t)

-- the next key of a scope, with this public
abbrev pub next_key : State → Scope × List ℕ → KeyId
next_key s p = record { scope = p.0; generation = next_generation s p.0; public = p.1 }

-- the next keys of these scopes, with these publics
abbrev pub next_keys : State → List Scope → List (List ℕ) → List KeyId
next_keys s scopes publics = map (next_key s) (zip scopes publics)

-- whether a scope is live and is without a clean key already
abbrev pub owes : State → Scope → Bool
owes s c = is_live (key_table s) c && wants_key s c

-- The state before an act and the one after its own effect alone. Of the entry, its author and its act are asked for, and no lines.
module _ (s t : State) (e : Entry) where
  -- a scope gets its next key where the author may give it one, and the act rotates it, or leaves it without a clean key where it had one
  abbrev pub is_planned : Scope → Bool
  is_planned c = not (is_device c) && (may_rekey t e c && (has_next t c && (is_rotated e.act c || (wants_key t c && not (owes s c)))))

  -- whose device isn't listed then brings no lines
  abbrev pub plan_scopes : List Scope
  plan_scopes = if lists_device t e.user e.device then filter is_planned (live_scopes t) else []

  -- the publics of new keys are those of secrets that are drawn in this order
  abbrev pub plan_news : List (List ℕ) → List KeyId
  plan_news publics = next_keys t plan_scopes publics

  -- the state with the new keys
  abbrev pub plan_state : List (List ℕ) → State
  plan_state publics = with_news t e (plan_news publics)

  -- the boxes that are due, as pairs of recipient and content: what lacks then and didn't before
  abbrev pub due : List (List ℕ) → List (KeyId × KeyId)
  due publics =
      if lists_device t e.user e.device then filter (λ p. not (has same_pair (lacks (key_table s)) p)) (lacks_by_content (key_table (plan_state publics))) else []

  -- the first content of a due box whose secret is neither fresh nor opened by the author
  abbrev pub unknown : List (List ℕ) → List KeyId → Option KeyId
  unknown publics opened = find (λ k. not (has same_key (plan_news publics ++ opened) k)) (map (λ p. p.1) (due publics))

  abbrev pub is_too_large : List (List ℕ) → Bool
  is_too_large publics = nat_lt most_planned_boxes (length (due publics))

-- boxes for these pairs, each with the secret of its content sealed to the public of its recipient
abbrev pub boxes_for : (List ℕ → List ℕ → List ℕ) → (KeyId → List ℕ) → List (KeyId × KeyId) → List BoxLine
boxes_for seal secret_of pairs = map (λ p. record { to = p.0; of = p.1; bytes = seal (secret_of p.1) p.0.public }) pairs

-- A repair in a state, by the author of an entry that does nothing by itself.
module _ (s : State) (e : Entry) where
  -- the scopes without a clean key that the author may rekey, as many as a link may have lines for
  abbrev pub repair_scopes : List Scope
  repair_scopes = take most_news (filter (λ c. not (is_device c) && (may_rekey s e c && (has_next s c && wants_key s c))) (live_scopes s))

  abbrev pub repair_news : List (List ℕ) → List KeyId
  repair_news publics = next_keys s repair_scopes publics

  abbrev pub repair_state : List (List ℕ) → State
  repair_state publics = with_news s e (repair_news publics)

  -- the boxes that lack then whose secret is fresh or opened, as many as a link may have
  abbrev pub repair_due : List (List ℕ) → List KeyId → List (KeyId × KeyId)
  repair_due publics opened =
      take most_planned_boxes (filter (λ p. has same_key (repair_news publics ++ opened) p.1) (lacks_by_content (key_table (repair_state publics))))

-- the state after the own effect of an entry
abbrev pub effected : State → Entry → State
effected s e = effect s e e.act
