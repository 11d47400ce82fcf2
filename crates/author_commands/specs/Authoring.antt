-- What a command does that writes one link by a key, whatever is planned.
use Rattle.std.specs.Prelude.{◌≡◌, ℕ, List, [], ◌∷◌, ◌++◌, Bool, true, false, Option, Some, None, option_map, nat_eq, nat_lt, codes}
use Rattle.std.specs.Cmp.Lexicographic.{pointwise}
use Rattle.std.specs.FinMap as fin
use Rattle.tg_text.specs.Spelling.{line_of, spell_hex}
use Rattle.team_sets.specs.Names.{Name}
use Rattle.lms_tree.specs.Signatures.{signature_of}
use Rattle.lms_keep.specs.KeyText.{key_text, leaves}
use Rattle.lms_keep.specs.Signing.{advanced, tree_key}
use Rattle.lms_keep.specs.declared.key_state.KeyState.{KeyState}
use Rattle.team_model.specs.declared.terms.Link.{Link}
use Rattle.link_text.specs.Drafts.{draft_body}
use Rattle.link_text.specs.LinkText.{text}
use Rattle.link_text.specs.TeamFile.{file_text}
use Rattle.link_text.specs.declared.draft.Draft.{Draft}
use Rattle.link_graph.specs.Held.{Held}
use Rattle.link_graph.specs.Holds.{text_named}
use Rattle.outcomes.specs.Steps.{World, Step, Outcome, after, replace, saying, acting, put}
use Rattle.outcomes.specs.Refusing.{holds, opening}
use Rattle.openers.specs.Key.{FindsKey}
use Rattle.openers.specs.Team.{FindsTeam}
use Rattle.author_commands.specs.Refusals.{refusal_line}
use Rattle.author_commands.specs.Signing.{authored}
use Rattle.author_commands.specs.declared.planner.Planned.{Planned}
use Rattle.author_commands.specs.declared.planner.Planned.TheVariants.{Refuses, Writes}
use Rattle.author_commands.specs.declared.refusal.Refusal.TheVariants.{NameClash, Spent}

-- The steps are done, and then what follows is done in the world after them.
abbrev pub first : List Step → (World → Outcome → Type 0) → World → Outcome → Type 0
first steps then w o = (p : Outcome) × then (after steps w) p × (o ≡ record { status = p.status; steps = steps ++ p.steps })

abbrev pub link_line : Name → List ℕ
link_line name = line_of (codes "link" ∷ spell_hex name ∷ [])

-- the file is replaced by that of the held links, and the link's name is printed
abbrev pub posted : List ℕ → Held → Name → Outcome
posted file held name = acting 0 0 (put file (file_text held.team held.links) ∷ []) (link_line name)

-- whether a text is held under the link's name, and whether it is the link's
abbrev pub found_text : Held → Link → Option Bool
found_text held link = option_map (λ t. pointwise nat_eq t (text link)) (text_named held.links link.name)

-- A new link is held after the others. One whose very text is held leaves them as they are, and another text under its name is a refusal.
abbrev pub by_found_text : List ℕ → Held → Link → Option Bool → Outcome
by_found_text file held link None = posted file (record held { links = held.links ++ link ∷ [] }) link.name
by_found_text file held link (Some true) = posted file held link.name
by_found_text file held link (Some false) = saying 4 (refusal_line (NameClash link.name))

-- the link is put into the team file
abbrev pub posting : List ℕ → Held → Link → World → Outcome → Type 0
posting file held link w o = o ≡ by_found_text file held link (found_text held link)

-- the signature of a draft by the leaf that is next
abbrev pub signature_by : KeyState → Draft → List ℕ
signature_by s d = signature_of (tree_key s) s.next (draft_body d)

-- the key file moves on, and then the signed link is put into the team file
abbrev pub signing : List ℕ → List ℕ → Held → KeyState → Draft → World → Outcome → Type 0
signing file key_file held s d = first (replace key_file (key_text (advanced s)) ∷ []) (posting file held (authored d (signature_by s d)))

abbrev pub by_plan : List ℕ → List ℕ → Held → KeyState → Planned → World → Outcome → Type 0
by_plan file key_file held s (Refuses refusal) w o = o ≡ saying 4 (refusal_line refusal)
by_plan file key_file held s (Writes d) w o = signing file key_file held s d w o

-- what is planned of the links and the key is done
abbrev pub planning : (Held → KeyState → Planned → Type 0) → List ℕ → List ℕ → Held → KeyState → World → Outcome → Type 0
planning plans file key_file held s w o = (p : Planned) × plans held s p × by_plan file key_file held s p w o

-- a key without a leaf is refused
abbrev pub by_leaf : Bool → (World → Outcome → Type 0) → World → Outcome → Type 0
by_leaf false then w o = o ≡ saying 4 (refusal_line Spent)
by_leaf true then w o = then w o

abbrev pub keyed : (Held → KeyState → Planned → Type 0) → List ℕ → List ℕ → Held → KeyState → World → Outcome → Type 0
keyed plans file key_file held s w o = by_leaf (nat_lt s.next (leaves s.lms)) (planning plans file key_file held s) w o

-- A link is written by the key of a file, as planned.
abbrev pub authors : (Held → KeyState → Planned → Type 0) → List ℕ → List ℕ → World → Outcome → Type 0
authors plans file key_file = opening FindsTeam file (λ held. opening FindsKey key_file (λ s. keyed plans file key_file held s))

-- The text is that of a link which is planned of the links of the team file by the key of the key file, and signed by it.
pub record IsAuthoredText (plans : Held → KeyState → Planned → Type 0) (file key_file : List ℕ) (w : World) (bytes : List ℕ) : Type 0 where
  pub held : Held
  pub key : KeyState
  pub draft : Draft
  pub in_file : FindsTeam (fin.get w.files file) (holds held)
  pub in_key_file : FindsKey (fin.get w.files key_file) (holds key)
  pub planned : plans held key (Writes draft)
  pub is_text : bytes ≡ text (authored draft (signature_by key draft))
