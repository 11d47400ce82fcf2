-- The positions of the links that strike, and what they strike of the link judged last.
use Rattle.std.proofs.Common.{◌≡◌, ℕ, ◌+◌, ◌<◌, Bool, true, false, ◌&&◌, ◌||◌, ◌==◌, List, [], ◌∷◌, ◌++◌, Option, Some, None, nat_lt, get_or, slice_get, length, take, refl, sym, ◌∙◌, ap, arith}
use Rattle.std.specs.Option.{option_map_or}
use Rattle.std.proofs.lemmas.Bool.{false≢true, and_parts}
use Rattle.std.proofs.lemmas.Bool.Decides.{nat_tests}
use Rattle.std.proofs.lemmas.List.Folds.{list_any-append, list_any_at}
use Rattle.sha2.specs.Sha256.{sha256}
use Rattle.acts.specs.declared.entry.Act.{Act}
use Rattle.acts.specs.declared.entry.Act.TheVariants.{RemoveMember, TakeRole, RemoveDevice}
use Rattle.acts.specs.declared.entry.Entry.{Entry}
use Rattle.link_graph.specs.Held.{arrived_of}
use Rattle.team_sets.specs.Ancestry.{are_concurrent}
use Rattle.team_model.specs.Strikes.{act_strikes, is_striking, strikes_by}
use Rattle.team_model.specs.Judging.{name_of, prev_of, strikes_in}
use Rattle.team_model.specs.declared.terms.Link.{Link}
use Rattle.team_model.specs.declared.terms.Reason.{Reason}
use Rattle.replica.specs.Judged.{is_lawful_at}
use Rattle.replica.specs.Striking.{AreNotedOf, AreStrikes, AreStrikesBefore, AreStriking, AreStrikingBefore, NotesStrike, has_position, is_striker_at, link_strikes, strikes_any, strikes_between}
use Rattle.replica.proofs.Noting.{lawful_before, lawful_within, left_lawful, left_within, or_none, right_within}
use Rattle.link_graph.proofs.Picks.{take_next}

-- what strikes is a striker
pub act_striking : (a : Act) (y : Entry) → act_strikes sha256 a y ≡ true → is_striking a ≡ true
act_striking (RemoveMember user) y h = refl
act_striking (TakeRole user role) y h = refl
act_striking (RemoveDevice user id) y h = refl
act_striking _ y h = absurd (false≢true h)

-- one position more
has_more : (ps : List ℕ) (s a : ℕ) → has_position (ps ++ s ∷ []) a ≡ (has_position ps a || (s == a))
has_more ps s a = list_any-append (λ q. q == a) ps (s ∷ []) ∙ ap (λ b. has_position ps a || b) (or_none (s == a))

step_struck : (n s a b : ℕ) (x h m f l : Bool) → m ≡ (h || (s == a)) → (s ≡ a → n ≡ b → f ≡ l)
    → ((x || ((h && (n == b)) && l)) || (((s == a) && (n == b)) && f)) ≡ (x || ((m && (n == b)) && l))
step_struck n s a b x h m f l more same = grind (arith, nat_tests)

last_struck : (n a b : ℕ) (s h l : Bool) → (s ≡ true → a < n + 1) → (s ≡ true → b < n + 1) → (a ≡ n → s ≡ false) → (s ≡ true → a < n → h ≡ true) → (s ≡ true → l ≡ true)
    → (h ≡ true → n ≡ b → l ≡ true → s ≡ true) → (((nat_lt a n && nat_lt b n) && s) || ((h && (n == b)) && l)) ≡ s
last_struck n a b s h l one two own here strikes all = grind (arith, nat_tests)

added : (n p : ℕ) (s : Bool) → (s ≡ true → p < n + 1) → (n ≡ p → s ≡ true) → ((nat_lt p n && s) || (n == p)) ≡ s
added n p s within own = grind (arith, nat_tests)

not_added : (n p : ℕ) (s : Bool) → (s ≡ true → p < n + 1) → (n ≡ p → s ≡ false) → (nat_lt p n && s) ≡ s
not_added n p s within own = grind (arith, nat_tests)

own_position : (n : ℕ) → (n == n) ≡ true
own_position n = grind (arith, nat_tests)

less : (a n : ℕ) → nat_lt a n ≡ true → a < n
less a n h = grind (arith, nat_tests)

lt_true : (a n : ℕ) → a < n → nat_lt a n ≡ true
lt_true a n h = grind (arith, nat_tests)

module _ (links : List Link) where
  -- a link that strikes another is one that strikes
  pub strikes_some : (a b : ℕ) → link_strikes links a b ≡ true → strikes_any links a ≡ true
  strikes_some a b h = go (slice_get (arrived_of links) a) (slice_get (arrived_of links) b) h
    where
      go : (o p : Option Link) → option_map_or (λ x. option_map_or (λ y. strikes_in links x y) p false) o false ≡ true → option_map_or (λ x. is_striking x.entry.act) o false ≡ true
      go None p e = absurd (false≢true e)
      go (Some x) None e = absurd (false≢true e)
      go (Some x) (Some y) e = act_striking x.entry.act y.entry (and_parts (are_concurrent name_of prev_of links x y) (strikes_by sha256 x.entry y.entry) e).1

  module _ (reasons : List (Option Reason)) where
    pub struck_first : (n : ℕ) (ps : List ℕ) (pairs : List (ℕ × ℕ)) → AreStrikesBefore links reasons n pairs → AreNotedOf links reasons n (take 0 ps) pairs
    struck_first n ps pairs are a b = are a b ∙ sym (or_none ((nat_lt a n && nat_lt b n) && strikes_between links reasons a b))

    -- with the next of the strikers
    pub struck_more : (n k s : ℕ) (ps : List ℕ) (old new : List (ℕ × ℕ)) → slice_get ps k ≡ Some s → AreNotedOf links reasons n (take k ps) old → NotesStrike links s n old new
        → AreNotedOf links reasons n (take (k + 1) ps) new
    struck_more n k s ps old new here before notes a b =
        notes a b ∙ ap (λ x. x || (((s == a) && (n == b)) && link_strikes links s n)) (before a b)
        ∙ step_struck n s a b ((nat_lt a n && nat_lt b n) && strikes_between links reasons a b) (has_position (take k ps) a) (has_position (take (k + 1) ps) a) (link_strikes links s n) (link_strikes links a b)
        (ap (λ l. has_position l a) (take_next ps k s here) ∙ has_more (take k ps) s a) (λ e f i. link_strikes links (e i) (f i))

    module _ (n : ℕ) (size : length reasons ≡ n + 1) where
      -- with all of them, where the last link is lawful and strikes none
      pub struck_all : is_lawful_at reasons n ≡ true → strikes_any links n ≡ false → (ps : List ℕ) → AreStrikingBefore links reasons n ps
          → (pairs : List (ℕ × ℕ)) → AreNotedOf links reasons n ps pairs → AreStrikes links reasons pairs
      struck_all last none ps striking pairs are a b =
          are a b
          ∙ last_struck n a b (strikes_between links reasons a b) (has_position ps a) (link_strikes links a b) (left_within links reasons n size a b) (right_within links reasons n size a b)
          (λ e. own (strikes_between links reasons a b) e refl) (λ h less. here h less) strikes all
        where
          strikes : strikes_between links reasons a b ≡ true → link_strikes links a b ≡ true
          strikes h = (and_parts (is_lawful_at reasons a && is_lawful_at reasons b) (link_strikes links a b) h).1

          own : (t : Bool) → a ≡ n → strikes_between links reasons a b ≡ t → strikes_between links reasons a b ≡ false
          own false e h = h
          own true e h = absurd (false≢true (sym none ∙ ap (λ m. strikes_any links m) (sym e) ∙ strikes_some a b (strikes h)))

          here : strikes_between links reasons a b ≡ true → a < n → has_position ps a ≡ true
          here h less =
              striking a ∙ ap (λ t. t && is_striker_at links reasons a) (lt_true a n less) ∙ ap (λ t. t && strikes_any links a) (left_lawful links reasons a b h).0 ∙ strikes_some a b (strikes h)

          all : has_position ps a ≡ true → n ≡ b → link_strikes links a b ≡ true → strikes_between links reasons a b ≡ true
          all h e l =
              let judged = (and_parts (nat_lt a n) (is_striker_at links reasons a) (sym (striking a) ∙ h)).1 in
              ap (λ t. (t && is_lawful_at reasons b) && link_strikes links a b) (and_parts (is_lawful_at reasons a) (strikes_any links a) judged).0
              ∙ ap (λ m. is_lawful_at reasons m && link_strikes links a b) (sym e) ∙ ap (λ t. t && link_strikes links a b) last ∙ l

      within : (p : ℕ) → is_striker_at links reasons p ≡ true → p < n + 1
      within p h = let here : p < length reasons = lawful_within reasons p (and_parts (is_lawful_at reasons p) (strikes_any links p) h).0 in omega (arith, here, size)

      -- the last link is one more
      pub striking_more : (old new : List ℕ) → AreStrikingBefore links reasons n old → is_striker_at links reasons n ≡ true → new ≡ old ++ n ∷ [] → AreStriking links reasons new
      striking_more old new before yes_it_is pushed p =
          ap (λ l. has_position l p) pushed ∙ has_more old n p ∙ ap (λ b. b || (n == p)) (before p)
          ∙ added n p (is_striker_at links reasons p) (within p) (λ e. ap (λ m. is_striker_at links reasons m) (sym e) ∙ yes_it_is)

      -- or is none of them
      pub striking_same : (old new : List ℕ) → AreStrikingBefore links reasons n old → is_striker_at links reasons n ≡ false → new ≡ old → AreStriking links reasons new
      striking_same old new before not_it same p =
          ap (λ l. has_position l p) same ∙ before p ∙ not_added n p (is_striker_at links reasons p) (within p) (λ e. ap (λ m. is_striker_at links reasons m) (sym e) ∙ not_it)

    -- each of them is below n
    pub striking_given : (n : ℕ) (ps : List ℕ) → AreStrikingBefore links reasons n ps → (k d : ℕ) → k < length ps → get_or ps k d < n
    striking_given n ps striking k d h =
        let p : ℕ = get_or ps k d in
        less p n (and_parts (nat_lt p n) (is_striker_at links reasons p) (sym (striking p) ∙ list_any_at (λ q. q == p) ps k d h (own_position p))).0

-- where one reason more is found, those before it are as before
pub striking_before : (links : List Link) (reasons : List (Option Reason)) (o : Option Reason) (new : List (Option Reason)) (n : ℕ) (ps : List ℕ) → length reasons ≡ n → new ≡ reasons ++ o ∷ []
    → AreStriking links reasons ps → AreStrikingBefore links new n ps
striking_before links reasons o new n ps size is are p =
    are p ∙ ap (λ b. b && strikes_any links p) (lawful_before reasons o new n size is p) ∙ regroup (nat_lt p n) (is_lawful_at new p) (strikes_any links p)
  where
    regroup : (a b c : Bool) → ((a && b) && c) ≡ (a && (b && c))
    regroup true b c = refl
    regroup false b c = refl
