-- Keys that become the current ones of their scopes, and entries without key lines.
use Rattle.std.specs.Prelude.{Bool, true, false, ◌&&◌, List, [], ◌∷◌, fold}
use Rattle.acts.specs.declared.entry.Entry.{Entry}
use Rattle.tg_text.specs.declared.keys.KeyId.{KeyId}
use Rattle.team_model.specs.KeyTables.{put_current}
use Rattle.team_model.specs.State.{State}

abbrev pub with_keys : State → List KeyId → State
with_keys s keys = record s { currents = fold (λ ks k. put_current k ks) s.currents keys }

abbrev pub is_empty : {A : Type 0} → List A → Bool
is_empty [] = true
is_empty (x ∷ xs) = false

abbrev pub has_no_lines : Entry → Bool
has_no_lines e = is_empty e.lines.news && is_empty e.lines.boxes
