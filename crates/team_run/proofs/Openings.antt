-- What was found where an outcome isn't a refusal.
use Rattle.std.proofs.Common.{◌≡◌, ◌⊎◌, ◌∙◌, inl, inr, ℕ, List, Option, Some, None, refl, sym, ap, subst}
use Rattle.std.specs.FinMap as fin
use Rattle.link_graph.specs.Held.{Held}
use Rattle.link_intake.specs.Merged.{IsHeldIn}
use Rattle.outcomes.specs.Refusing.{FindsBytes, FindsNone, Found, by_found, fault_line, holds, opening, refuses}
use Rattle.outcomes.specs.Steps.{World, Outcome, saying}
use Rattle.lms_keep.specs.KeyText.{IsKeyFile}
use Rattle.lms_keep.specs.declared.key_state.KeyState.{KeyState}
use Rattle.openers.specs.Key.{FindsKey}
use Rattle.openers.specs.Team.{FindsTeam}
use Rattle.key_commands.specs.Make.{making_team}
use Rattle.key_commands.specs.Newkey.{drawn_key}
use Rattle.team_run.specs.Serving.{HoldsTeam}

-- what `make` does where both files are absent
abbrev pub founds : (List ℕ → List ℕ) → List ℕ → List ℕ → List ℕ → List ℕ → World → Outcome → Type 0
founds public_of file key_file user title w o = o ≡ making_team public_of file key_file title w.moment (drawn_key user w)

-- the outcome is a refusal by a line
abbrev pub IsSaid : Outcome → Type 0
IsSaid o = (text : List ℕ) × (o ≡ saying 3 text)

pub some_same : (a b : List ℕ) → ◌≡◌ {A = Option (List ℕ)} (Some a) (Some b) → a ≡ b
some_same a b e = let same : ◌≡◌ {A = Option (List ℕ)} (Some a) (Some b) = e in cc

pub never_both : (f : Option (List ℕ)) (a : List ℕ) → f ≡ Some a → f ≡ None → ⊥
never_both f a there absent = let bad : ◌≡◌ {A = Option (List ℕ)} (Some a) None = sym there ∙ absent in cc

-- a file that must be absent
module _ (name : List ℕ) (then : Unit {0} → World → Outcome → Type 0) (w : World) (o : Outcome) where
  abbrev Absent : Type 0
  Absent = (none : Unit {0}) × (fin.get w.files name ≡ None) × then none w o

  absent_by : (f : Option (List ℕ)) (x : Found (Unit {0})) → fin.get w.files name ≡ f → FindsNone f x → by_found name then x w o → IsSaid o ⊎ Absent
  absent_by f (refuses word) e found d = inl (fault_line name word, d)
  absent_by None (holds none) e found d = inr (none, e, d)
  absent_by (Some b) (holds none) e found d = absurd found

  pub absent_or : opening FindsNone name then w o → IsSaid o ⊎ Absent
  absent_or d = absent_by (fin.get w.files name) d.0 refl d.1 d.2

  pub absent_opens : fin.get w.files name ≡ None → opening FindsNone name then w o → Absent
  absent_opens none d = go d.0 (subst (λ (f : Option (List ℕ)). FindsNone f d.0) none d.1) d.2
    where
      go : (x : Found (Unit {0})) → FindsNone None x → by_found name then x w o → Absent
      go (refuses word) found d = absurd found
      go (holds u) found d = (u, none, d)

-- a file of any bytes
module _ (name : List ℕ) (then : List ℕ → World → Outcome → Type 0) (w : World) (o : Outcome) where
  abbrev There : Type 0
  There = (bytes : List ℕ) × (fin.get w.files name ≡ Some bytes) × then bytes w o

  there_by : (f : Option (List ℕ)) (x : Found (List ℕ)) → fin.get w.files name ≡ f → FindsBytes f x → by_found name then x w o → IsSaid o ⊎ There
  there_by f (refuses word) e found d = inl (fault_line name word, d)
  there_by None (holds x) e found d = absurd found
  there_by (Some b) (holds x) e found d = inr (x, e ∙ ap (λ (y : List ℕ). Some y) (sym found), d)

  pub there_or : opening FindsBytes name then w o → IsSaid o ⊎ There
  there_or d = there_by (fin.get w.files name) d.0 refl d.1 d.2

  pub there_opens : (bytes : List ℕ) → fin.get w.files name ≡ Some bytes → opening FindsBytes name then w o → There
  there_opens bytes at d = go d.0 (subst (λ (f : Option (List ℕ)). FindsBytes f d.0) at d.1) d.2
    where
      go : (x : Found (List ℕ)) → FindsBytes (Some bytes) x → by_found name then x w o → There
      go (refuses word) found d = absurd found
      go (holds x) found d = (x, at ∙ ap (λ (y : List ℕ). Some y) (sym found), d)

-- a team's file
module _ (name : List ℕ) (then : Held → World → Outcome → Type 0) (w : World) (o : Outcome) where
  abbrev Team : Type 0
  Team = (held : Held) × (bytes : List ℕ) × (fin.get w.files name ≡ Some bytes) × IsHeldIn bytes held × then held w o

  team_by : (f : Option (List ℕ)) (x : Found Held) → fin.get w.files name ≡ f → FindsTeam f x → by_found name then x w o → IsSaid o ⊎ Team
  team_by f (refuses word) e found d = inl (fault_line name word, d)
  team_by None (holds h) e found d = absurd found
  team_by (Some b) (holds h) e found d = inr (h, b, e, found, d)

  pub team_or : opening FindsTeam name then w o → IsSaid o ⊎ Team
  team_or d = team_by (fin.get w.files name) d.0 refl d.1 d.2

  pub team_opens : (held : Held) → HoldsTeam w.files name held → opening FindsTeam name then w o → Team
  team_opens held (bytes, at, file) d = go d.0 (subst (λ (f : Option (List ℕ)). FindsTeam f d.0) at d.1) d.2
    where
      go : (x : Found Held) → FindsTeam (Some bytes) x → by_found name then x w o → Team
      go (refuses word) found d = absurd (found.0 held.team held.links file)
      go (holds h) found d = (h, bytes, at, found, d)

-- a key's file
module _ (name : List ℕ) (then : KeyState → World → Outcome → Type 0) (w : World) (o : Outcome) where
  abbrev Key : Type 0
  Key = (s : KeyState) × (bytes : List ℕ) × (fin.get w.files name ≡ Some bytes) × IsKeyFile bytes s × then s w o

  key_by : (f : Option (List ℕ)) (x : Found KeyState) → fin.get w.files name ≡ f → FindsKey f x → by_found name then x w o → IsSaid o ⊎ Key
  key_by f (refuses word) e found d = inl (fault_line name word, d)
  key_by None (holds s) e found d = absurd found
  key_by (Some b) (holds s) e found d = inr (s, b, e, found, d)

  pub key_or : opening FindsKey name then w o → IsSaid o ⊎ Key
  key_or d = key_by (fin.get w.files name) d.0 refl d.1 d.2

  pub key_opens : (s : KeyState) (bytes : List ℕ) → fin.get w.files name ≡ Some bytes → IsKeyFile bytes s → opening FindsKey name then w o → Key
  key_opens s bytes at file d = go d.0 (subst (λ (f : Option (List ℕ)). FindsKey f d.0) at d.1) d.2
    where
      go : (x : Found KeyState) → FindsKey (Some bytes) x → by_found name then x w o → Key
      go (refuses word) found d = absurd (found.0 s file)
      go (holds t) found d = (t, bytes, at, found, d)
