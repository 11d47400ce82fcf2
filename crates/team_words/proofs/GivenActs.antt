-- The act that words give: its words are told by their text.
use Rattle.std.proofs.Common.{◌≡◌, ◌≢◌, ◌∙◌, ◌==◌, ◌&&◌, ◌-◌, ℕ, suc, Bool, true, false, not, List, [], ◌∷◌, ◌++◌, append-nil, length, take, flat_map, Option, Some, None, refl, sym, ap, subst, arith}
use Rattle.std.specs.List.{list_all}
use Rattle.std.proofs.lemmas.Bool.{and_from, and_parts, eq-eqb, eqb-true, false≢true}
use Rattle.tg_text.specs.Reading.{Reads}
use Rattle.tg_text.specs.Spelling.{has_space, spaced}
use Rattle.tg_text.proofs.Lists.{tail_is}
use Rattle.tg_text.proofs.Splits.{one_split}
use Rattle.acts.specs.ActText.{IsActInRange, act_words, spell_act, spell_kind}
use Rattle.acts.specs.declared.entry.Act.{Act}
use Rattle.acts.specs.declared.entry.Act.TheVariants.{AddMember, RemoveMember, AddRole, RemoveRole, GiveRole, TakeRole, AddDevice, RemoveDevice, Revoke, Rotate, Seal, Title, Join}
use Rattle.acts.specs.declared.entry.InviteKind.{InviteKind}
use Rattle.acts.specs.declared.entry.InviteKind.TheVariants.{Member as of_members, Device as of_devices}
use Rattle.acts.proofs.Pairs.{key_word, name_word}
use Rattle.team_words.specs.Acts.{GivesAct, IsActOf, MayGive, are_whole, fits, is_given, lacks_space, word_after}

-- words with a space before each but the first
pub spaced_after : (w : List ℕ) (ws : List (List ℕ)) → w ++ flat_map word_after ws ≡ spaced (w ∷ ws)
spaced_after w [] = append-nil w
spaced_after w (v ∷ ws) = ap (λ (t : List ℕ). w ++ 32 ∷ t) (spaced_after v ws)

-- what stands after the first space is the words with one space between them
pub spaced_rest : (ws : List (List ℕ)) (rest : List ℕ) → flat_map word_after ws ≡ 32 ∷ rest → rest ≡ spaced ws
spaced_rest [] rest e = absurd (let bad : [] ≡ 32 ∷ rest = e in cc)
spaced_rest (w ∷ ws) rest e = let same : w ++ flat_map word_after ws ≡ rest = tail_is _ _ _ _ e in sym same ∙ spaced_after w ws

-- without a space there is no word
pub no_words : (ws : List (List ℕ)) → ((rest : List ℕ) → flat_map word_after ws ≢ 32 ∷ rest) → IsActOf ws None
no_words [] none = record { found = tt; only = λ a h. absurd (let bad : [] ≡ act_words a = h.words in cc) }
no_words (w ∷ ws) none = absurd (none (w ++ flat_map word_after ws) refl)

-- all but the last
pub whole_front : (ws : List (List ℕ)) → list_all lacks_space (take (length ws - 1) ws) ≡ are_whole ws
whole_front [] = refl
whole_front (a ∷ []) = refl
whole_front (a ∷ b ∷ ws) =
    let more : length (a ∷ b ∷ ws) - 1 ≡ suc (length (b ∷ ws) - 1) = omega arith in
    rw more (ap (λ (r : Bool). lacks_space a && r) (whole_front (b ∷ ws)))

not_true : (b : Bool) → not b ≡ true → b ≡ false
not_true false e = refl
not_true true e = absurd (false≢true e)

-- words of which none but the last has a space are told by their number and their text
pub spaced_once : (xs ys : List (List ℕ)) → length xs ≡ length ys → are_whole xs ≡ true → are_whole ys ≡ true → spaced xs ≡ spaced ys → xs ≡ ys
spaced_once [] [] n x y e = refl
spaced_once [] (b ∷ ys) n x y e = absurd (omega (arith, n))
spaced_once (a ∷ xs) [] n x y e = absurd (omega (arith, n))
spaced_once (a ∷ []) (b ∷ []) n x y e = ap (λ (w : List ℕ). w ∷ []) e
spaced_once (a ∷ []) (b ∷ d ∷ ys) n x y e = absurd (omega (arith, n))
spaced_once (a ∷ c ∷ xs) (b ∷ []) n x y e = absurd (omega (arith, n))
spaced_once (a ∷ c ∷ xs) (b ∷ d ∷ ys) n x y e =
    let p = and_parts (not (has_space a)) (are_whole (c ∷ xs)) x in
    let q = and_parts (not (has_space b)) (are_whole (d ∷ ys)) y in
    let cut = one_split 32 a b (spaced (c ∷ xs)) (spaced (d ∷ ys)) (not_true (has_space a) p.0) (not_true (has_space b) q.0) e in
    let same : c ∷ xs ≡ d ∷ ys = spaced_once (c ∷ xs) (d ∷ ys) (omega (arith, n)) p.1 q.1 cut.1 in
    let one : a ≡ b = cut.0 in
    λ i. one i ∷ same i

kind_whole : (kind : InviteKind) → has_space (spell_kind kind) ≡ false
kind_whole of_members = refl
kind_whole of_devices = refl

-- no word of an act that may be given has a space, but for a title
pub act_whole : (a : Act) → MayGive a → are_whole (act_words a) ≡ true
act_whole (AddMember user key seal) may = rw (name_word user may.range.0, key_word key) refl
act_whole (RemoveMember user) may = refl
act_whole (AddRole role) may = refl
act_whole (RemoveRole role) may = refl
act_whole (GiveRole user role) may = rw (name_word user may.range.0) refl
act_whole (TakeRole user role) may = rw (name_word user may.range.0) refl
act_whole (RemoveDevice user id) may = rw (name_word user may.range.0) refl
act_whole (AddDevice key seal) may = rw (key_word key) refl
act_whole (Revoke kind id) may = rw (kind_whole kind) refl
act_whole (Rotate scope) may = refl
act_whole Seal may = refl
act_whole (Title title) may = refl
act_whole Join may = refl
act_whole _ may = absurd (false≢true may.given)

fits_words : (a : Act) (ws : List (List ℕ)) → GivesAct ws a → fits a ws ≡ true
fits_words a ws h =
    let whole : are_whole ws ≡ true = subst (λ (l : List (List ℕ)). are_whole l ≡ true) (sym h.words) (act_whole a h.may) in
    let count : (length ws == length (act_words a)) ≡ true = eq-eqb (length ws) (length (act_words a)) (ap length h.words) in
    and_from _ _ (and_from _ _ h.may.given count) whole

-- an act was read of the text of the words
module _ (ws : List (List ℕ)) where
  pub gives_none : Reads IsActInRange spell_act (spaced ws) None → IsActOf ws None
  gives_none reads = record { found = tt; only = λ b h. reads.only b h.may.range (ap spaced h.words) }

  module _ (a : Act) (reads : Reads IsActInRange spell_act (spaced ws) (Some a)) where
    same_act : (b : Act) → GivesAct ws b → a ≡ b
    same_act b h = let e : ◌≡◌ {A = Option Act} (Some a) (Some b) = reads.only b h.may.range (ap spaced h.words) in cc

    pub gives_other : fits a ws ≡ false → IsActOf ws None
    gives_other e = record {
      found = tt;
      only = λ b h. absurd (false≢true (sym e ∙ subst (λ (x : Act). fits x ws ≡ true) (sym (same_act b h)) (fits_words b ws h)));
    }

    module _ (e : fits a ws ≡ true) where
      abbrev first : ((is_given a && (length ws == length (act_words a))) ≡ true) × (are_whole ws ≡ true)
      first = and_parts (is_given a && (length ws == length (act_words a))) (are_whole ws) e

      abbrev second : (is_given a ≡ true) × ((length ws == length (act_words a)) ≡ true)
      second = and_parts (is_given a) (length ws == length (act_words a)) first.0

      pub gives_may : MayGive a
      gives_may = record { range = reads.found.0; given = second.0 }

      pub gives_some : IsActOf ws (Some a)
      gives_some = record {
        found = record { may = gives_may; words = spaced_once ws (act_words a) (eqb-true (length ws) (length (act_words a)) second.1) first.1 (act_whole a gives_may) reads.found.1 };
        only = λ b h. ap (λ (x : Act). Some x) (same_act b h);
      }
