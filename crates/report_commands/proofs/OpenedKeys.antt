-- One list of keys is opened by a device, so one text is printed of them.
use Rattle.std.proofs.Common.{◌≡◌, ◌∙◌, ℕ, List, Result, Ok, Err, IfOk, refl, sym, ap, subst}
use Rattle.std.specs.Cmp.{IsTotalOrder}
use Rattle.std.specs.declared.cmp.Ordering.{Ordering}
use Rattle.sha2.specs.Sha256.{sha256}
use Rattle.tg_text.specs.declared.keys.BoxLine.{BoxLine}
use Rattle.tg_text.specs.declared.keys.Scope.{Scope}
use Rattle.tg_text.specs.declared.keys.Scope.TheVariants.{Team, Role, User, Device}
use Rattle.tg_text.specs.declared.memory.Memory.{Memory}
use Rattle.key_reach.proofs.Currents.{one-list}
use Rattle.team_model.specs.Judging.{team, team_rules}
use Rattle.team_model.specs.KeyTables.{key_table}
use Rattle.team_model.specs.State.{State}
use Rattle.lms_tree.specs.Signatures.{public_key}
use Rattle.lms_keep.specs.Signing.{tree_key}
use Rattle.lms_keep.specs.declared.key_state.KeyState.{KeyState}
use Rattle.link_graph.specs.Held.{Held}
use Rattle.lockboxes.specs.Keeping.{Keeper}
use Rattle.lockboxes.specs.Opening.{AreOpened, opened_cmp}
use Rattle.lockboxes.specs.declared.opened.Opened.{Opened}
use Rattle.lockboxes.specs.contracts.opened.OpenedOrd.TheImpl as pairs
use Rattle.lockboxes.specs.contracts.opened.OpenedOrd.TheImpl.Laws as pairs_law
use Rattle.outcomes.specs.Steps.{World, Outcome, saying}
use Rattle.team_report.specs.KeysText.{keys_text}
use Rattle.report_commands.specs.Keys.{AreOpenedBy, IsKeysSaid, IsKeysText, device_of_key}

-- the derived order of opened keys is the one that the definitions state
opened-order : (a b : Opened) → (pairs.cmp-value).it a b ≡ opened_cmp a b
opened-order a b = go a.key.scope b.key.scope
  where
    pair : Scope → Opened → Opened
    pair s o = record { key = record { scope = s; generation = o.key.generation; public = o.key.public }; secret = o.secret }

    go : (s t : Scope) → (pairs.cmp-value).it (pair s a) (pair t b) ≡ opened_cmp (pair s a) (pair t b)
    go Team Team = refl
    go Team (Role r) = refl
    go Team (User r) = refl
    go Team (Device r) = refl
    go (Role q) Team = refl
    go (Role q) (Role r) = refl
    go (Role q) (User r) = refl
    go (Role q) (Device r) = refl
    go (User q) Team = refl
    go (User q) (Role r) = refl
    go (User q) (User r) = refl
    go (User q) (Device r) = refl
    go (Device q) Team = refl
    go (Device q) (Role r) = refl
    go (Device q) (User r) = refl
    go (Device q) (Device r) = refl

opened-total : IsTotalOrder opened_cmp
opened-total = subst (λ (cmp : Opened → Opened → Ordering). IsTotalOrder cmp) (λ i a b. opened-order a b i) pairs_law.total-law

one_opened : (keeper : Keeper) (boxes : List BoxLine) (device secret : List ℕ) (a b : List Opened) → AreOpened keeper boxes device secret a → AreOpened keeper boxes device secret b → a ≡ b
one_opened keeper boxes device secret a b h k = one-list opened_cmp opened-total a b h.ascends k.ascends (λ o j. (k.exact o).1 ((h.exact o).0 j)) (λ o j. (h.exact o).1 ((k.exact o).0 j))

module _ (keeper : Keeper) (held : Held) (s : KeyState) where
  one_text : (a b : List ℕ) → IsKeysText keeper held s a → IsKeysText keeper held s b → a ≡ b
  one_text a b h k =
      h.is_text
      ∙ ap keys_text (one_opened keeper (key_table (team team_rules held.links)).boxes (device_of_key s) s.secret h.opened k.opened h.are_opened k.are_opened)
      ∙ sym k.is_text

  pub one_said : (w : World) (o p : Outcome) → IsKeysSaid keeper held s w o → IsKeysSaid keeper held s w p → o ≡ p
  one_said w o p h k = h.said ∙ ap (λ (t : List ℕ). saying 0 t) (one_text h.text k.text h.of_keys k.of_keys) ∙ sym k.said

-- what was opened of a replica's team is the text of the links of its graph
pub keys_text_of : (keeper : Keeper) (a b : Held) (s : KeyState) (t : State) (device key : List ℕ) (found slice : List Opened) (r : Result (List ℕ) Memory) → a ≡ b → t ≡ team team_rules a.links
    → device ≡ sha256 key → key ≡ public_key (tree_key s) → slice ≡ found → AreOpened keeper (key_table t).boxes device s.secret found → IfOk r (λ out. out ≡ keys_text slice)
    → IfOk r (IsKeysText keeper b s)
keys_text_of keeper a b s t device key found slice (Err e) same state id is are opened said = tt
keys_text_of keeper a b s t device key found slice (Ok out) same state id is are opened said = record {
  opened = found;
  are_opened = subst (λ (h : Held). AreOpenedBy keeper h s found) same
      (subst (λ (u : State). AreOpened keeper (key_table u).boxes (device_of_key s) s.secret found) state
      (subst (λ (d : List ℕ). AreOpened keeper (key_table t).boxes d s.secret found) (id ∙ ap sha256 is) opened));
  is_text = said ∙ ap keys_text are;
}
