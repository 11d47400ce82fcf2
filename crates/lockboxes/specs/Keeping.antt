-- The keys that a device can open.
use Rattle.std.specs.Prelude.{◌≡◌, ℕ, List, Contains, Option, Some}
use Rattle.tg_text.specs.declared.keys.Scope.TheVariants.{Device}
use Rattle.tg_text.specs.declared.keys.KeyId.{KeyId}
use Rattle.tg_text.specs.declared.keys.BoxLine.{BoxLine}

-- a keeper of secrets: the public key of a secret, and what a secret makes of a box
pub record Keeper : Type 0 where
  pub public_of : List ℕ → List ℕ
  pub unseal : List ℕ → List ℕ → Option (List ℕ)

-- the least set of keys with secrets that has the own pair, and the content of each held box whose recipient's secret it has
pub data Opens (keeper : Keeper) (boxes : List BoxLine) (own : KeyId) (secret : List ℕ) : KeyId → List ℕ → Type 0 where
  is_own : Opens keeper boxes own secret own secret
  opens : (b : BoxLine) (m s : List ℕ) → Contains boxes b → Opens keeper boxes own secret b.to m
      → keeper.unseal b.bytes m ≡ Some s → keeper.public_of s ≡ b.of.public → Opens keeper boxes own secret b.of s

-- the key of a device with this secret
abbrev pub own_key : Keeper → List ℕ → List ℕ → KeyId
own_key keeper device secret = record { scope = Device device; generation = 0; public = keeper.public_of secret }

-- what a device with this secret opens
abbrev pub IsOpened : Keeper → List BoxLine → List ℕ → List ℕ → KeyId → List ℕ → Type 0
IsOpened keeper boxes device secret key s = Opens keeper boxes (own_key keeper device secret) secret key s
