-- What a body has done that writes one link, as planned.
use Rattle.std.proofs.Common.{◌≡◌, ◌∙◌, ℕ, Bool, true, false, List, ◌∷◌, Option, IfSome, Result, Ok, Err, nat_lt, refl, sym, ap, subst, ◌<◌, ◌≤◌, [], Contains, IsErrAnd, inl, arith, option_map, nat_eq}
use Rattle.std.specs.Cmp.Lexicographic.{pointwise}
use Rattle.std.proofs.lemmas.Bool.{le-ltb, lt-ltb}
use Rattle.sha2.specs.Sha256.{sha256}
use Rattle.tg_outside.specs.Contents.{FileMap}
use Rattle.tg_outside.specs.declared.fault.Fault.TheVariants as fault
use Rattle.team_sets.specs.Names.{Name}
use Rattle.lms_keep.specs.KeyText.{leaves}
use Rattle.lms_keep.specs.declared.key_state.KeyState.{KeyState}
use Rattle.team_model.specs.declared.terms.Link.{Link}
use Rattle.link_text.specs.LinkText.{IsValid}
use Rattle.link_graph.specs.Held.{Held}
use Rattle.link_graph.specs.Holds.{text_named}
use Rattle.outcomes.specs.declared.answer.Answer.{Answer}
use Rattle.outcomes.specs.declared.stop.Stop.{Stop}
use Rattle.outcomes.specs.declared.stop.Stop.TheVariants.{Refused, Failed, Memory}
use Rattle.outcomes.specs.Steps.{World, Outcome, saying}
use Rattle.outcomes.specs.Seeing.{WithFiles}
use Rattle.outcomes.specs.Ending.{HasCauseOrStop, IsBodyOf, IsOne, answer_of}
use Rattle.outcomes.specs.Refusing.{Found, IsFaultOf, IsFound, opening}
use Rattle.outcomes.specs.declared.refusing.FileWord.{FileWord}
use Rattle.outcomes.proofs.Opened.{goes_on, opening_is_one}
use Rattle.outcomes.proofs.Printing.{body_fails, body_more, body_says}
use Rattle.openers.specs.Key.{FindsKey}
use Rattle.openers.specs.Team.{FindsTeam}
use Rattle.author_commands.specs.Authoring.{authors, by_found_text, by_leaf, by_plan, found_text, keyed, planning, posting}
use Rattle.author_commands.specs.Refusals.{IsRefusalBy, refusal_line}
use Rattle.author_commands.specs.declared.planner.Planned.{Planned}
use Rattle.author_commands.specs.declared.planner.Planned.TheVariants.{Refuses, Writes}
use Rattle.author_commands.specs.declared.refusal.Refusal.{Refusal}
use Rattle.author_commands.specs.declared.refusal.Refusal.TheVariants.{Spent}

pub some_posting : (file : List ℕ) (held : Held) (link : Link) (w : World) → (o : Outcome) × posting file held link w o
some_posting file held link w = (by_found_text file held link (found_text held link), refl)

-- the answer of a refusal is all that is done
pub refuses_so : (does : World → Outcome → Type 0) (old new : Option FileMap) (refusal : Refusal) (stop : Stop) → IsRefusalBy refusal stop → new ≡ old
    → ((w : World) → does w (saying 4 (refusal_line refusal))) → WithFiles old new (λ old new. IsBodyOf does old new (Err stop))
refuses_so does old new refusal stop is same done = λ rest.
    body_says does (record rest { files = old }) (record rest { files = new }) (Err stop) (λ w k. record { files = same ∙ k.files; draws = k.draws; moment = k.moment; input = k.input; taken = k.taken })
    (λ w k. says stop w is)
  where
    says : (s : Stop) (w : World) → IsRefusalBy refusal s → IfSome (answer_of (Err s)) (λ a. does w (saying a.status a.text))
    says (Refused a) w h = rw (h.0, h.1) (done w)
    says Failed w h = absurd h
    says Memory w h = tt

-- a refusal is no fault
pub refused_unfailed : (refusal : Refusal) (stop : Stop) → IsRefusalBy refusal stop → (n : ℕ) → HasCauseOrStop {T = Answer} n n (Err stop)
refused_unfailed refusal stop is n = record { later = omega arith; failed = λ e. absurd (unfailed stop is (let same : ◌≡◌ {A = Result Answer Stop} (Err stop) (Err Failed) = e in cc)) }
  where
    unfailed : (s : Stop) → IsRefusalBy refusal s → s ≡ Failed → ⊥
    unfailed (Refused a) h e = let bad : ◌≡◌ {A = Stop} (Refused a) Failed = e in cc
    unfailed Failed h e = h
    unfailed Memory h e = let bad : ◌≡◌ {A = Stop} Memory Failed = e in cc

-- it has a status of such commands
pub refused_among : (refusal : Refusal) (stop : Stop) → IsRefusalBy refusal stop → IfSome (answer_of (Err stop)) (λ a. Contains (0 ∷ 3 ∷ 4 ∷ []) a.status)
refused_among refusal (Refused a) h = subst (λ (n : ℕ). Contains (0 ∷ 3 ∷ 4 ∷ []) n) (sym h.0) (2, omega arith, refl)
refused_among refusal Failed h = absurd h
refused_among refusal Memory h = tt

-- so has a fault of a file
pub file_among : (name : List ℕ) (word : FileWord) (stop : Stop) → IsFaultOf name word stop → IfSome (answer_of (Err stop)) (λ a. Contains (0 ∷ 3 ∷ 4 ∷ []) a.status)
file_among name word (Refused a) h = subst (λ (n : ℕ). Contains (0 ∷ 3 ∷ 4 ∷ []) n) (sym h.0) (1, omega arith, refl)
file_among name word Failed h = absurd h
file_among name word Memory h = tt

-- want of memory comes before anything is done
pub lacks_memory : (does : World → Outcome → Type 0) (old : Option FileMap) (r : Result Answer Stop) → IsErrAnd r (λ s. s ≡ Memory) → WithFiles old old (λ old new. IsBodyOf does old new r)
lacks_memory does old r e = λ rest. body_fails does (record rest { files = old }) (record rest { files = old }) r fault.Memory e (λ w is. inl is)

-- whether the text of a valid link is held
pub found_is : (held : Held) (link : Link) (bytes : List ℕ) → IsValid held.team bytes link
    → option_map (λ t. pointwise nat_eq t bytes) (text_named held.links (sha256 bytes)) ≡ found_text held link
found_is held link bytes valid =
    ap (λ (n : Name). option_map (λ t. pointwise nat_eq t bytes) (text_named held.links n)) (sym valid.reads.name)
    ∙ ap (λ (b : List ℕ). option_map (λ t. pointwise nat_eq t b) (text_named held.links link.name)) valid.reads.is_text

-- the outcome is that of what was found
pub posts_as : (file : List ℕ) (held : Held) (link : Link) (found : Option Bool) (p : Outcome) (old new : Option FileMap) (r : Result Answer Stop) → found_text held link ≡ found
    → p ≡ by_found_text file held link found → WithFiles old new (λ old new. IsBodyOf (λ w o. o ≡ p) old new r) → WithFiles old new (λ old new. IsBodyOf (posting file held link) old new r)
posts_as file held link found p old new r e same body =
    subst (λ (q : Outcome). WithFiles old new (λ old new. IsBodyOf (λ w o. o ≡ q) old new r)) (same ∙ ap (λ (f : Option Bool). by_found_text file held link f) (sym e)) body

module _ (plans : Held → KeyState → Planned → Type 0) (file key_file : List ℕ) where
  -- something was planned, and its body is the body of the whole
  pub goes_on_planned : (old new : Option FileMap) (r : Result Answer Stop) (held : Held) (s : KeyState) (p : Planned) → plans held s p
      → WithFiles old new (λ old new. IsBodyOf (by_plan file key_file held s p) old new r) → WithFiles old new (λ old new. IsBodyOf (planning plans file key_file held s) old new r)
  goes_on_planned old new r held s p planned body = λ rest.
      body_more (by_plan file key_file held s p) (planning plans file key_file held s) (record rest { files = old }) (record rest { files = old }) (record rest { files = new }) r
      (λ w is. (is, λ o d. (p, planned, d))) (body rest)

  -- both files were opened, and the body of what follows is the body of the whole
  pub goes_on_opened : (old mid last new : Option FileMap) (r : Result Answer Stop) (held : Held) (s : KeyState)
      → IfSome old (λ m. IsFound FindsTeam m file (Ok held)) → mid ≡ old → IfSome mid (λ m. IsFound FindsKey m key_file (Ok s)) → last ≡ mid
      → WithFiles last new (λ old new. IsBodyOf (keyed plans file key_file held s) old new r) → WithFiles old new (λ old new. IsBodyOf (authors plans file key_file) old new r)
  goes_on_opened old mid last new r held s opened same found same2 body = λ rest.
      goes_on FindsTeam file (λ h. opening FindsKey key_file (λ k. keyed plans file key_file h k)) rest (record rest { files = new }) old mid r held opened same
      (goes_on FindsKey key_file (λ k. keyed plans file key_file held k) rest (record rest { files = new }) mid last r s found same2 (body rest))

  -- a leaf is left, or none
  pub with_leaf : (held : Held) (s : KeyState) (b : Bool) → nat_lt s.next (leaves s.lms) ≡ b → (w : World) (o : Outcome) → by_leaf b (planning plans file key_file held s) w o → keyed plans file key_file held s w o
  with_leaf held s b e w o d = subst (λ (c : Bool). by_leaf c (planning plans file key_file held s) w o) (sym e) d

  -- a leaf is left, and the body of what follows is the body of the whole
  pub goes_on_left : (held : Held) (s : KeyState) → s.next < leaves s.lms → (old new : Option FileMap) (r : Result Answer Stop)
      → WithFiles old new (λ old new. IsBodyOf (planning plans file key_file held s) old new r) → WithFiles old new (λ old new. IsBodyOf (keyed plans file key_file held s) old new r)
  goes_on_left held s left old new r body = λ rest.
      body_more (planning plans file key_file held s) (keyed plans file key_file held s) (record rest { files = old }) (record rest { files = old }) (record rest { files = new }) r
      (λ w is. (is, λ o d. with_leaf held s true (lt-ltb s.next (leaves s.lms) left) w o d)) (body rest)

  -- none is left
  pub spent : (held : Held) (s : KeyState) → leaves s.lms ≤ s.next → (old : Option FileMap) (stop : Stop) → IsRefusalBy Spent stop
      → WithFiles old old (λ old new. IsBodyOf (keyed plans file key_file held s) old new (Err stop))
  spent held s none old stop is =
      refuses_so (keyed plans file key_file held s) old old Spent stop is refl (λ w. with_leaf held s false (le-ltb s.next (leaves s.lms) none) w (saying 4 (refusal_line Spent)) refl)

  module _ (team_once : (f : Option (List ℕ)) (x y : Found Held) → FindsTeam f x → FindsTeam f y → x ≡ y) (key_once : (f : Option (List ℕ)) (x y : Found KeyState) → FindsKey f x → FindsKey f y → x ≡ y)
      (one : (held : Held) (s : KeyState) (p q : Planned) → plans held s p → plans held s q → p ≡ q) where
    by_one : (held : Held) (s : KeyState) (p : Planned) → IsOne (by_plan file key_file held s p)
    by_one held s (Refuses refusal) w o q h k = h ∙ sym k
    by_one held s (Writes d) w o q h k = h.2 ∙ ap (λ (p : Outcome). record { status = p.status; steps = _ ∷ p.steps }) (h.1 ∙ sym k.1) ∙ sym k.2

    leaf_one : (held : Held) (s : KeyState) (b : Bool) → IsOne (by_leaf b (planning plans file key_file held s))
    leaf_one held s false w o q h k = h ∙ sym k
    leaf_one held s true w o q h k = by_one held s k.0 w o q (subst (λ (p : Planned). by_plan file key_file held s p w o) (one held s h.0 k.0 h.1 k.1) h.2) k.2

    -- where one thing is planned at most, there is one outcome
    pub author_is_one : IsOne (authors plans file key_file)
    author_is_one = opening_is_one FindsTeam file (λ h. opening FindsKey key_file (λ k. keyed plans file key_file h k)) team_once
        (λ f held found. opening_is_one FindsKey key_file (λ k. keyed plans file key_file held k) key_once (λ f2 s found2. leaf_one held s (nat_lt s.next (leaves s.lms))))
