-- Which key lines of a link fit, and what they write. The state is that after the act's own effect, and it stays the argument while
-- the lines of one link are taken: what is taken changes current keys and boxes alone, and no line asks for these but by what was taken.
use Rattle.std.specs.Prelude.{ℕ, ◌+◌, ◌==◌, Bool, false, not, ◌&&◌, ◌||◌, if◌then◌else◌, List, [], ◌∷◌, ◌++◌, map, length, fold, nat_le, nat_lt}
use Rattle.std.specs.List.{list_any}
use Rattle.std.specs.Str.{bytes_eq}
use Rattle.team_sets.specs.Closure.{has}
use Rattle.acts.specs.declared.entry.Act.{Act}
use Rattle.acts.specs.declared.entry.Act.TheVariants.{Rotate}
use Rattle.acts.specs.declared.entry.Entry.{Entry}
use Rattle.tg_text.specs.declared.keys.Scope.{Scope}
use Rattle.tg_text.specs.declared.keys.Scope.TheVariants.{User}
use Rattle.tg_text.specs.declared.keys.KeyId.{KeyId}
use Rattle.tg_text.specs.declared.keys.BoxLine.{BoxLine}
use Rattle.tg_text.specs.declared.keys.KeyLines.{KeyLines}
use Rattle.key_reach.specs.Debts.{is_without_key}
use Rattle.key_reach.specs.Keys.{current_keys, is_device, is_entitled, is_live, is_tainted, keys_of, same_key, same_scope}
use Rattle.team_model.specs.KeyTables.{is_allowed, key_table, put_current}
use Rattle.team_model.specs.Limits.{last_generation, most_boxes}
use Rattle.team_model.specs.State.{State, is_admin, lists_device}
use Rattle.team_model.specs.Strikes.{brings_user}

abbrev pub is_rotated : Act → Scope → Bool
is_rotated (Rotate d) c = same_scope d c
is_rotated _ c = false

-- whether an entry brings in the user whose scope this is
abbrev pub is_brought : Entry → Scope → Bool
is_brought e (User u) = brings_user e u
is_brought e _ = false

-- one more than the generation of a scope's key, which stands alone in its list where there is one
abbrev pub after_last : List KeyId → ℕ
after_last [] = 0
after_last (k ∷ ks) = k.generation + 1

-- the same line: equal keys, and equal bytes
abbrev pub same_line : BoxLine → BoxLine → Bool
same_line a b = same_key a.to b.to && (same_key a.of b.of && bytes_eq a.bytes b.bytes)

module _ (s : State) where
  -- 0 for a scope that never had a key, and else one more than that of its current key
  abbrev pub next_generation : Scope → ℕ
  next_generation c = after_last (keys_of (key_table s) c)

  abbrev pub has_next : Scope → Bool
  has_next c = nat_le (next_generation c) last_generation

  -- a scope that never had a key, or whose current key is tainted
  abbrev pub wants_key : Scope → Bool
  wants_key c = is_without_key (key_table s) c || list_any (is_tainted (key_table s)) (keys_of (key_table s) c)

  -- `keys` are the current keys of live scopes once the new lines are taken, and `held` the boxes before this line
  abbrev pub box_fits : List KeyId → List BoxLine → BoxLine → Bool
  box_fits keys held b =
      has same_key keys b.to
      && (has same_key keys b.of && (is_allowed s b.to.scope b.of.scope && (not (is_tainted (key_table s) b.to) && (not (list_any (same_line b) held) && nat_lt (length held) most_boxes))))

  abbrev pub take_box : List KeyId → List BoxLine → BoxLine → List BoxLine
  take_box keys got b = if box_fits keys (s.boxes ++ got) b then got ++ b ∷ [] else got

  abbrev pub taken_boxes : List KeyId → List BoxLine → List BoxLine
  taken_boxes keys lines = fold (take_box keys) [] lines

module _ (s : State) (e : Entry) where
  -- an admin may rekey each scope, a device those to which it is entitled, and whoever brings a user in that user's
  abbrev pub may_rekey : Scope → Bool
  may_rekey c = is_admin s e.user || (is_entitled (key_table s) e.device c || is_brought e c)

  -- but for an earlier line of this link for the same scope
  abbrev pub new_fits : KeyId → Bool
  new_fits k =
      is_live (key_table s) k.scope
      && (not (is_device k.scope) && ((k.generation == next_generation s k.scope) && (has_next s k.scope && (may_rekey k.scope && (wants_key s k.scope || is_rotated e.act k.scope)))))

  -- of each scope the first line that fits
  abbrev pub take_new : List KeyId → KeyId → List KeyId
  take_new got k = if new_fits k && not (has same_scope (map (λ g. g.scope) got) k.scope) then got ++ k ∷ [] else got

  abbrev pub taken_news : List KeyId → List KeyId
  taken_news news = fold take_new [] news

  abbrev pub with_news : List KeyId → State
  with_news news = record s { currents = fold (λ ks k. put_current k ks) s.currents (taken_news news) }

  -- the state with the lines that fit, `new` lines before `box` lines
  unfoldable pub with_lines : KeyLines → State
  with_lines lines = record (with_news lines.news) { boxes = s.boxes ++ taken_boxes s (current_keys (key_table (with_news lines.news))) lines.boxes }

  -- the same where the author's device is listed, and else the state itself
  unfoldable pub lined : State
  lined = if lists_device s e.user e.device then with_lines e.lines else s
