-- Where as many boxes are held as may be, none fits.
use Rattle.std.proofs.Common.{◌≡◌, ◌≤◌, Bool, true, false, not, ◌&&◌, List, length, refl, ◌∙◌, ap}
use Rattle.std.specs.List.{list_any}
use Rattle.std.proofs.lemmas.Bool.{le-ltb}
use Rattle.team_sets.specs.Closure.{has}
use Rattle.tg_text.specs.declared.keys.BoxLine.{BoxLine}
use Rattle.tg_text.specs.declared.keys.KeyId.{KeyId}
use Rattle.key_reach.specs.Keys.{is_tainted, same_key}
use Rattle.team_model.specs.KeyLines.{box_fits, same_line}
use Rattle.team_model.specs.KeyTables.{is_allowed, key_table}
use Rattle.team_model.specs.Limits.{most_boxes}
use Rattle.team_model.specs.State.{State}

never : (a b c d e : Bool) → (a && (b && (c && (d && (e && false))))) ≡ false
never true true true true true = refl
never true true true true false = refl
never true true true false e = refl
never true true false d e = refl
never true false c d e = refl
never false b c d e = refl

module _ (s : State) (keys : List KeyId) (held : List BoxLine) (b : BoxLine) where
  abbrev to_current : Bool
  to_current = has same_key keys b.to

  abbrev of_current : Bool
  of_current = has same_key keys b.of

  abbrev allowed : Bool
  allowed = is_allowed s b.to.scope b.of.scope

  abbrev clean : Bool
  clean = not (is_tainted (key_table s) b.to)

  abbrev new : Bool
  new = not (list_any (same_line b) held)

  pub full : most_boxes ≤ length held → box_fits s keys held b ≡ false
  full h =
      ap (λ (x : Bool). to_current && (of_current && (allowed && (clean && (new && x))))) (le-ltb (length held) most_boxes h)
      ∙ never to_current of_current allowed clean new
