-- A planned link is well-formed but for its signature.
use Rattle.std.proofs.Common.{◌≡◌, ◌≢◌, ◌<◌, ◌≤◌, ◌^◌, ℕ, Bool, true, false, cond, List, [], length, Option, Some, None, refl, sym, ◌∙◌, ap, arith}
use Rattle.std.specs.List.{AllByRecursion, list_any}
use Rattle.std.proofs.lemmas.Bool.{false≢true}
use Rattle.tg_text.specs.Spelling.{IsHash, IsPublicKey}
use Rattle.acts.specs.ActText.{IsActInRange, IsFound, spell_act}
use Rattle.acts.specs.declared.entry.Act.{Act}
use Rattle.acts.specs.declared.entry.Act.TheVariants.{Found}
use Rattle.acts.specs.declared.entry.Entry.{Entry}
use Rattle.team_sets.specs.Ancestry.{is_before, named}
use Rattle.team_sets.specs.Names.{Name, has_name}
use Rattle.team_sets.specs.OrderLaws.{IsSet}
use Rattle.team_sets.proofs.Ancestors.{order_first}
use Rattle.team_sets.proofs.Arrivals.{first_set}
use Rattle.team_sets.proofs.Distinct.{distinct-differ}
use Rattle.team_sets.proofs.Parts.{filter_none}
use Rattle.team_model.specs.ActTable.{is_found, refusal}
use Rattle.team_model.specs.Judging.{name_of, order_of, prev_of, team, team_rules}
use Rattle.team_model.specs.State.{empty_state}
use Rattle.team_model.specs.declared.terms.Link.{Link}
use Rattle.team_model.specs.declared.terms.Reason.{Reason}
use Rattle.team_model.specs.declared.terms.Reason.TheVariants.{NotListed}
use Rattle.lms_keep.specs.KeyText.{IsKeyState}
use Rattle.lms_keep.specs.declared.key_state.KeyState.{KeyState}
use Rattle.link_text.proofs.Fields.{no_key_lines}
use Rattle.link_text.specs.Drafts.{link_of}
use Rattle.link_text.specs.LinkText.{text}
use Rattle.link_text.specs.TeamFile.{IsHeld}
use Rattle.link_graph.specs.Held.{Held}
use Rattle.replica.specs.Below.{is_below, with_pasts}
use Rattle.team_author.specs.Drafting.{IsDraft}
use Rattle.team_author.specs.Planning.{base_of, draft_of, entry_of, most_act_bytes, parents_of}
use Rattle.team_author.proofs.Heads.{heads_ascend, take_few}
use Rattle.team_author.proofs.Sizes.{key_whole, link_short}

found_is : (a : Act) → is_found a ≡ true → IsFound a
found_is (Found seal title) e = tt
found_is _ e = absurd (false≢true e)

not_found : (a : Act) → is_found a ≡ false → IsFound a → ⊥
not_found (Found seal title) e h = absurd (false≢true (sym e))
not_found _ e h = absurd h

-- nobody is listed in the empty state, so that no act but a founding is permitted there
none_permitted : (e : Entry) → is_found e.act ≡ false → refusal empty_state e ≡ Some NotListed
none_permitted e other = rw other refl

-- nothing is below no names
none_below : (links : List Link) (a : Name) → is_below links [] a ≡ false
none_below links a =
    let none : named name_of prev_of links [] ≡ [] = filter_none name_of prev_of (λ (x : Link). has_name [] x.name) links (λ x h. refl) in
    ap (λ (xs : List Link). list_any (is_before name_of prev_of links a) xs) none

-- without parents the state of a plan is empty
base_empty : (links : List Link) → parents_of links ≡ [] → base_of links ≡ empty_state
base_empty links none =
    ap (λ (ns : List Name). team team_rules (with_pasts links ns)) none
    ∙ ap (λ (xs : List Link). team team_rules xs) (filter_none name_of prev_of (λ (y : Link). is_below links [] y.name) links (λ x h. none_below links x.name))

-- an act that is permitted, and founds nothing, has parents
some_parents : (links : List Link) (e : Entry) → is_found e.act ≡ false → refusal (base_of links) e ≡ None → parents_of links ≢ []
some_parents links e other permitted none =
    let no : ◌≡◌ {A = Option Reason} (Some NotListed) None = sym (none_permitted e other) ∙ sym (ap (λ s. refusal s e) (base_empty links none)) ∙ permitted in cc

module _ (held : Held) (s : KeyState) (key : List ℕ) (act : Act) (time : ℕ) (held_is : IsHeld held.team held.links) (names : AllByRecursion IsHash (parents_of held.links))
    (is : IsKeyState s) (keyed : IsPublicKey key) (range : IsActInRange act) (short : length (spell_act act) ≤ most_act_bytes) (fits : time < 2 ^ 64)
    (permitted : refusal (base_of held.links) (entry_of s key act time) ≡ None) where
  abbrev entry : Entry
  entry = entry_of s key act time

  set : IsSet name_of (order_of held.links)
  set = first_set name_of prev_of [] (order_of held.links) (order_first name_of prev_of held.links (distinct-differ name_of held.links held_is.set))

  founds : is_found act ≡ true → IsDraft (record { team = None; prev = []; key = key; entry = entry })
  founds e signature name bytes few =
      let link : Link = link_of (record { team = None; prev = []; key = key; entry = entry }) signature name in
      let size : length (text link) ≤ 200000 = link_short link tt tt (omega arith) is.user (key_whole key keyed) fits short refl refl few in
      record {
        fields = record {
          team = tt;
          parents = tt;
          user = is.user;
          key = keyed;
          device = refl;
          time = fits;
          act = range;
          key_lines = no_key_lines;
          signature_bytes = bytes;
        };
        rules = record {
          few_parents = omega arith;
          parents_ascend = tt;
          root_without_parents = (λ e. refl, λ e. refl);
          root_founds = (λ h. found_is act e, λ h. refl);
        };
        fits = omega (arith, size);
      }

  follows : is_found act ≡ false → IsDraft (record { team = Some held.team; prev = parents_of held.links; key = key; entry = entry })
  follows e signature name bytes few =
      let link : Link = link_of (record { team = Some held.team; prev = parents_of held.links; key = key; entry = entry }) signature name in
      let parents : length (parents_of held.links) ≤ 64 = take_few 64 _ in
      let size : length (text link) ≤ 200000 = link_short link held_is.team names parents is.user (key_whole key keyed) fits short refl refl few in
      record {
        fields = record {
          team = held_is.team;
          parents = names;
          user = is.user;
          key = keyed;
          device = refl;
          time = fits;
          act = range;
          key_lines = no_key_lines;
          signature_bytes = bytes;
        };
        rules = record {
          few_parents = parents;
          parents_ascend = heads_ascend held.links 64 set;
          root_without_parents = (λ none. absurd (some_parents held.links entry e permitted none), λ none. cc);
          root_founds = (λ none. absurd (some_parents held.links entry e permitted none), λ h. absurd (not_found act e h));
        };
        fits = omega (arith, size);
      }

  pub planned_draft : IsDraft (draft_of held key entry)
  planned_draft = go (is_found act) refl
    where
      go : (b : Bool) → is_found act ≡ b → IsDraft (cond b (record { team = None; prev = []; key = key; entry = entry }) (record { team = Some held.team; prev = parents_of held.links; key = key; entry = entry }))
      go true e = founds e
      go false e = follows e
