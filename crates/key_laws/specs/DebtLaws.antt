-- When no box lacks, and when nothing is owed.
use Rattle.std.specs.Prelude.{◌≡◌, true, false, List, []}
use Rattle.team_sets.specs.Members.{IsIn}
use Rattle.team_sets.specs.Names.{Name}
use Rattle.tg_text.specs.declared.keys.Scope.{Scope}
use Rattle.tg_text.specs.declared.keys.Scope.TheVariants.{Team, User}
use Rattle.tg_text.specs.declared.keys.KeyId.{KeyId}
use Rattle.tg_text.specs.declared.keys.BoxLine.{BoxLine}
use Rattle.key_reach.specs.Debts.{debts, is_without_key}
use Rattle.key_reach.specs.Keys.{Table, current_keys, has_box, is_live, is_tainted, lacks}
use Rattle.key_reach.specs.Laws.{IsKeyTable}
use Rattle.key_laws.specs.TaintLaws.{with_boxes}

-- these boxes leave taint as it was, and there is one for each pair that lacked one
pub record FillLacks (t : Table) (more : List BoxLine) : Type 0 where
  pub taint : (k : KeyId) → is_tainted (with_boxes t more) k ≡ is_tainted t k
  pub boxed : (p : KeyId × KeyId) → IsIn p (lacks t) → has_box (with_boxes t more).boxes p.0 p.1 ≡ true

abbrev pub BoxedLackNothing : Type 0
BoxedLackNothing = (t : Table) (more : List BoxLine) → FillLacks t more → lacks (with_boxes t more) ≡ []

-- each live scope has a key, the current keys are clean, no box lacks, and each live user leads to a live team
pub record LacksNothing (t : Table) : Type 0 where
  pub lawful : IsKeyTable t
  pub to_team : (u : Name) → is_live t (User u) ≡ true → is_live t Team ≡ true → t.allowed (User u) Team ≡ true
  pub keyed : (s : Scope) → is_live t s ≡ true → is_without_key t s ≡ false
  pub clean : (k : KeyId) → IsIn k (current_keys t) → is_tainted t k ≡ false
  pub boxed : lacks t ≡ []

abbrev pub NoLackNoDebt : Type 0
NoLackNoDebt = (t : Table) → LacksNothing t → debts t ≡ []
