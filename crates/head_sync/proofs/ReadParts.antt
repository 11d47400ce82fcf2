-- What is read of the parts of a message.
use Rattle.std.proofs.Common.{◌≡◌, ◌==◌, ◌<◌, ◌≤◌, ◌+◌, ◌^◌, ℕ, Bool, true, false, true≢false, List, [], ◌∷◌, ◌++◌, Option, Some, None, Result, Ok, Err, MatchOption, append-nil, codes, length, length-append, map, refl, sym, ap, ◌∙◌, subst, arith}
use Rattle.std.specs.Borrow.{Bor}
use Rattle.std.specs.Option.{ok_or}
use Rattle.std.proofs.lemmas.Bool.{eqb-true}
use Rattle.std.proofs.lemmas.List.{length-map}
use Rattle.team_sets.specs.Names.{Name}
use Rattle.link_text.specs.TeamFile.{frame}
use Rattle.head_sync.specs.Bodies.{ReadsWhole, lent, word_of}
use Rattle.head_sync.specs.Messages.{AreGiven, Content, ask, done, frames_of, give, hello, kind_word, most_given_links}
use Rattle.head_sync.specs.declared.fault.ReadFault.{ReadFault}
use Rattle.head_sync.specs.declared.fault.ReadFault.TheVariants.{BadMessage, Memory}
use Rattle.head_sync.specs.declared.message.Kind.{Kind}
use Rattle.head_sync.specs.declared.message.Kind.TheVariants as kind
use Rattle.head_sync.proofs.ReadOnce.{texts_once}
use Rattle.head_sync.proofs.TextFrames.{AreShort, next_text}

-- a list is empty, or it isn't
pub some_left : {X : Type 0} (xs : List X) (b : Bool) → b ≡ (length xs == 0) → b ≡ false → 0 < length xs
some_left [] b e f = absurd (true≢false (sym e ∙ f))
some_left (x ∷ xs) b e f = omega arith

pub none_left : {X : Type 0} (xs : List X) (b : Bool) → b ≡ (length xs == 0) → b ≡ true → length xs ≡ 0
none_left xs b e f = eqb-true (length xs) 0 (sym e ∙ f)

pub is_nil : {X : Type 0} (xs : List X) → length xs ≡ 0 → xs ≡ []
is_nil [] e = refl
is_nil (x ∷ xs) e = absurd (omega (arith, e))

-- what is there isn't missed
pub not_missed : {A E : Type 0} (r : Option A) (e x : E) (P : A → Type 0) → ok_or r e ≡ Err x → MatchOption r ⊥ P → ⊥
not_missed None e x P h m = m
not_missed {A} {E} (Some a) e x P h m = let bad : ◌≡◌ {A = Result A E} (Ok a) (Err x) = h in cc

pub never_memory : {T : Type 0} → ◌≡◌ {A = ReadFault} BadMessage Memory → T
never_memory e = absurd cc

-- which kind it is
pub kind_of : (c : Content) → (k : Kind) × (kind_word c ≡ word_of k)
kind_of (hello heads) = (kind.Hello, refl)
kind_of (ask names marks) = (kind.Ask, refl)
kind_of (give more texts) = (kind.Give, refl)
kind_of (done heads) = (kind.Done, refl)

-- the texts of a message that were read so far, and the next one
module _ (texts : List (Bor (List ℕ))) (bytes rest : List ℕ) (short : AreShort (lent texts)) (text : bytes ≡ frames_of (lent texts) ++ rest) where
  pub next_given : 0 < length rest → (ts : List (List ℕ)) → AreGiven ts → bytes ≡ frames_of ts
      → (t : List ℕ) × (more : List (List ℕ)) × (rest ≡ frame t ++ frames_of more) × (length t < 10 ^ 9) × (length texts < most_given_links)
  next_given some ts are e =
      let n = next_text (lent texts) ts rest short are.short some (sym text ∙ e) in
      let few = are.few in
      let all = ap length n.2 in
      let size = length-append (lent texts) (n.0 ∷ n.1) in
      let same = length-map texts (λ (t : Bor (List ℕ)). t.now) in
      (n.0, n.1, n.3, n.4, omega (arith, few, all, size, same))

  pub all_read : length rest ≡ 0 → length texts ≤ most_given_links → ReadsWhole lent AreGiven frames_of bytes (Ok texts)
  all_read none few =
      let whole : bytes ≡ frames_of (lent texts) = text ∙ ap (λ (r : List ℕ). frames_of (lent texts) ++ r) (is_nil rest none) ∙ append-nil (frames_of (lent texts)) in
      let same = length-map texts (λ (t : Bor (List ℕ)). t.now) in
      record {
        found = (record { few = omega (arith, few, same); short = short }, whole);
        only = λ ts are e. texts_once (lent texts) ts short are.short (sym whole ∙ e);
      }

pub some_missed : {A E : Type 0} (r : Option A) (a : A) (e x : E) → r ≡ Some a → ok_or r e ≡ Err x → ⊥
some_missed {A} {E} r a e x is h = let bad : ◌≡◌ {A = Result A E} (Ok a) (Err x) = sym (ap (λ (o : Option A). ok_or o e) is) ∙ h in cc

-- the text of the frame that is found is the one that stands there
pub found_frame : {E : Type 0} (r : Option (Bor (List ℕ) × Bor (List ℕ))) (e : E) (text after : Bor (List ℕ)) (inner rest : List ℕ) → ok_or r e ≡ Ok (text, after)
    → MatchOption r ⊥ (λ found. (found.0.now ≡ inner) × (found.1.now ≡ rest)) → text.now ≡ inner
found_frame None e text after inner rest is m = absurd m
found_frame {E} (Some found) e text after inner rest is m =
    let same : ◌≡◌ {A = Result (Bor (List ℕ) × Bor (List ℕ)) E} (Ok found) (Ok (text, after)) = is in
    let pair : found ≡ (text, after) = cc in
    sym (ap (λ (p : Bor (List ℕ) × Bor (List ℕ)). p.0.now) pair) ∙ m.0
