-- The ranges of the lines of keys: of the new keys that a link brings, and of its boxes.
use Rattle.std.specs.List.{AllByRecursion}
use Rattle.std.specs.Prelude.{◌≡◌, ℕ, ◌≤◌, false, List, length}
use Rattle.tg_text.specs.KeySpelling.{IsKeyId}
use Rattle.tg_text.specs.Spelling.{AreBytes}
use Rattle.tg_text.specs.declared.keys.BoxLine.{BoxLine}
use Rattle.tg_text.specs.declared.keys.KeyId.{KeyId}
use Rattle.tg_text.specs.declared.keys.KeyLines.{KeyLines}
use Rattle.key_reach.specs.Keys.{is_device}

-- How many new keys a link brings at most.
abbrev pub most_new_lines : ℕ
most_new_lines = 64

-- How many boxes a link brings at most.
abbrev pub most_box_lines : ℕ
most_box_lines = 1024

-- How many sealed bytes a box has at most.
abbrev pub most_sealed_bytes : ℕ
most_sealed_bytes = 256

-- A new key is that of the team, of a role or of a user: the key of a device is never changed.
pub record IsNewKey (k : KeyId) : Type 0 where
  pub key : IsKeyId k
  pub no_device : is_device k.scope ≡ false

-- What a box has sealed: some bytes, and not too many.
pub record IsSealed (sealed : List ℕ) : Type 0 where
  pub are : AreBytes sealed
  pub some : 1 ≤ length sealed
  pub few : length sealed ≤ most_sealed_bytes

-- A box whose parts are in their ranges. Both keys are any, and may be one.
pub record IsBoxLine (b : BoxLine) : Type 0 where
  pub to : IsKeyId b.to
  pub of : IsKeyId b.of
  pub sealed : IsSealed b.bytes

-- The lines of keys are few enough, and each is in its range. They stand in any order, and one may stand twice.
pub record AreKeyLines (lines : KeyLines) : Type 0 where
  pub news : AllByRecursion IsNewKey lines.news
  pub boxes : AllByRecursion IsBoxLine lines.boxes
  pub few_news : length lines.news ≤ most_new_lines
  pub few_boxes : length lines.boxes ≤ most_box_lines
