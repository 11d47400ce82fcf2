-- A key file whose key is known, and that has a leaf left.
use Rattle.std.specs.Prelude.{◌≡◌, ◌<◌, ℕ, List, Some}
use Rattle.std.specs.FinMap as fin
use Rattle.lms_tree.specs.Signatures.{public_key}
use Rattle.lms_keep.specs.KeyText.{IsKeyState, key_text, leaves}
use Rattle.lms_keep.specs.Signing.{tree_key}
use Rattle.lms_keep.specs.declared.key_state.KeyState.{KeyState}
use Rattle.outcomes.specs.Steps.{World}

pub record HoldsKey (w : World) (name key : List ℕ) (s : KeyState) : Type 0 where
  pub range : IsKeyState s
  pub file : fin.get w.files name ≡ Some (key_text s)
  pub left : s.next < leaves s.lms
  pub known : public_key (tree_key s) ≡ key
