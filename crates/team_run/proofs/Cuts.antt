-- What stands in a file after some first steps of an outcome.
use Rattle.std.proofs.Common.{◌≡◌, ◌≢◌, ◌⊎◌, ◌∙◌, inl, inr, ℕ, zero, suc, Bool, true, false, cond, Decides, List, [], ◌∷◌, ◌++◌, Option, Some, bytes_eq, refl, sym, subst}
use Rattle.std.specs.FinMap as fin
use Rattle.std.specs.Ordering.{eq_by_cmp, nat_cmp}
use Rattle.std.specs.Cmp.Lexicographic.{nat_list_cmp_total, slice_cmp}
use Rattle.std.specs.FinMap.{nat_cmp-IsAntisymmetric, slice_cmp-IsAntisymmetric}
use Rattle.std.specs.declared.cmp.Ordering.{Ordering}
use Rattle.std.specs.declared.cmp.Ordering.TheVariants.{Less, Equal, Greater}
use Rattle.std.proofs.lemmas.Bool.{false≢true}
use Rattle.std.proofs.lemmas.Cmp.{tied_itself}
use Rattle.std.proofs.lemmas.Slice.Eq.{bytes_eq-Decides}
use Rattle.tg_outside.specs.Contents.{FileMap}
use Rattle.outcomes.specs.Seeing.{AreKnown}
use Rattle.outcomes.specs.Steps.{World, Step, Outcome, after, after_step, draw, draws, replace, saying, take_byte, write, writes}
use Rattle.team_run.specs.ManyRuns.{Replaces, told}

-- a world is what is told of it
pub told_known : (w : World) → AreKnown (told w) w
told_known w = record { files = refl; draws = refl; moment = refl; input = refl; taken = refl }

pub same_files : (w v : World) → AreKnown (told w) v → w.files ≡ v.files
same_files w v is = let same : ◌≡◌ {A = Option FileMap} (Some w.files) (Some v.files) = is.files in cc

-- two names are one, or they differ
pub one_name : (a b : List ℕ) → (a ≡ b) ⊎ (a ≢ b)
one_name a b = go (bytes_eq a b) (bytes_eq-Decides a b)
  where
    go : (t : Bool) → Decides t (a ≡ b) → (a ≡ b) ⊎ (a ≢ b)
    go true h = inl (h.0 refl)
    go false h = inr (λ e. false≢true (h.1 e))

-- a file has the bytes that it was given
pub given_bytes : (m : FileMap) (name bytes : List ℕ) → fin.get (fin.insert m name bytes) name ≡ Some bytes
given_bytes m name bytes = rw (fin.get-insert nat_list_cmp_total m name bytes name, tied_itself nat_list_cmp_total name) refl

-- and every other file has what it had
pub other_bytes : (m : FileMap) (other bytes name : List ℕ) → other ≢ name → fin.get (fin.insert m other bytes) name ≡ fin.get m name
other_bytes m other bytes name differ = fin.get-insert nat_list_cmp_total m other bytes name ∙ go (slice_cmp nat_cmp name other) refl
  where
    go : (r : Ordering) → slice_cmp nat_cmp name other ≡ r → cond (eq_by_cmp (slice_cmp nat_cmp) name other) (Some bytes) (fin.get m name) ≡ fin.get m name
    go Less e = rw e refl
    go Greater e = rw e refl
    go Equal e = absurd (differ (sym (slice_cmp-IsAntisymmetric nat_cmp-IsAntisymmetric name other e)))

-- a file that no step replaces has what it had
pub file_kept : (steps : List Step) (w : World) (name : List ℕ) → ¬ (Replaces name steps) → fin.get (after steps w).files name ≡ fin.get w.files name
file_kept [] w name none = refl
file_kept (draw ∷ steps) w name none = file_kept steps (after_step draw w) name none
file_kept (take_byte ∷ steps) w name none = file_kept steps (after_step take_byte w) name none
file_kept (replace other bytes ∷ steps) w name none =
    file_kept steps (after_step (replace other bytes) w) name (λ r. none (inr r)) ∙ other_bytes w.files other bytes name (λ e. none (inl e))
file_kept (write byte ∷ steps) w name none = file_kept steps (after_step (write byte) w) name none

pub replaced_or_not : (name : List ℕ) (steps : List Step) → Replaces name steps ⊎ (¬ (Replaces name steps))
replaced_or_not name [] = inr (λ r. r)
replaced_or_not name (draw ∷ steps) = replaced_or_not name steps
replaced_or_not name (take_byte ∷ steps) = replaced_or_not name steps
replaced_or_not name (replace other bytes ∷ steps) = go (one_name other name) (replaced_or_not name steps)
  where
    go : (other ≡ name) ⊎ (other ≢ name) → Replaces name steps ⊎ (¬ (Replaces name steps)) → Replaces name (replace other bytes ∷ steps) ⊎ (¬ (Replaces name (replace other bytes ∷ steps)))
    go (inl e) rest = inl (inl e)
    go (inr differ) (inl r) = inl (inr r)
    go (inr differ) (inr none) = inr (λ r. neither r)
      where
        neither : (other ≡ name) ⊎ Replaces name steps → ⊥
        neither (inl e) = differ e
        neither (inr r) = none r
replaced_or_not name (write byte ∷ steps) = replaced_or_not name steps

-- what a first part replaces, the whole does
pub replaces_first : (name : List ℕ) (a b : List Step) → Replaces name a → Replaces name (a ++ b)
replaces_first name [] b r = absurd r
replaces_first name (draw ∷ a) b r = replaces_first name a b r
replaces_first name (take_byte ∷ a) b r = replaces_first name a b r
replaces_first name (replace other bytes ∷ a) b (inl e) = inl e
replaces_first name (replace other bytes ∷ a) b (inr r) = inr (replaces_first name a b r)
replaces_first name (write byte ∷ a) b r = replaces_first name a b r

-- a first part of the steps, one of which replaces the file
pub whole_replaces : (name : List ℕ) (o p : Outcome) (first rest : List Step) → o ≡ p → o.steps ≡ first ++ rest → Replaces name first → Replaces name p.steps
whole_replaces name o p first rest is whole r =
    subst (λ (x : Outcome). Replaces name x.steps) is (subst (λ (l : List Step). Replaces name l) (sym whole) (replaces_first name first rest r))

-- what the whole replaces, one of its parts does
pub replaces_part : (name : List ℕ) (a b : List Step) → Replaces name (a ++ b) → Replaces name a ⊎ Replaces name b
replaces_part name [] b r = inr r
replaces_part name (draw ∷ a) b r = replaces_part name a b r
replaces_part name (take_byte ∷ a) b r = replaces_part name a b r
replaces_part name (replace other bytes ∷ a) b (inl e) = inl (inl e)
replaces_part name (replace other bytes ∷ a) b (inr r) = go (replaces_part name a b r)
  where
    go : Replaces name a ⊎ Replaces name b → Replaces name (replace other bytes ∷ a) ⊎ Replaces name b
    go (inl k) = inl (inr k)
    go (inr k) = inr k
replaces_part name (write byte ∷ a) b r = replaces_part name a b r

pub writes_replace_none : (name text : List ℕ) → ¬ (Replaces name (writes text))
writes_replace_none name [] r = r
writes_replace_none name (b ∷ text) r = writes_replace_none name text r

pub draws_replace_none : (name : List ℕ) (n : ℕ) → ¬ (Replaces name (draws n))
draws_replace_none name zero r = r
draws_replace_none name (suc n) r = draws_replace_none name n r

-- nothing is replaced where a text is printed alone
pub saying_replaces_none : (name text : List ℕ) (status : ℕ) (o : Outcome) (first rest : List Step) → o ≡ saying status text → o.steps ≡ first ++ rest → ¬ (Replaces name first)
saying_replaces_none name text status o first rest is whole r =
    writes_replace_none name text (subst (λ (p : Outcome). Replaces name p.steps) is (subst (λ (l : List Step). Replaces name l) (sym whole) (replaces_first name first rest r)))

pub head_step : (x y : Step) (a b : List Step) → x ∷ a ≡ y ∷ b → x ≡ y
head_step x y a b e = cc

pub tail_steps : (x y : Step) (a b : List Step) → x ∷ a ≡ y ∷ b → a ≡ b
tail_steps x y a b e = cc

-- the last replace of a file was done, where one was: it has these bytes
pub last_bytes : (a : List Step) (name bytes text : List ℕ) (first rest : List Step) (w : World) → ¬ (Replaces name a) → a ++ replace name bytes ∷ writes text ≡ first ++ rest
    → Replaces name first → fin.get (after first w).files name ≡ Some bytes
last_bytes [] name bytes text [] rest w none whole r = absurd r
last_bytes [] name bytes text (s ∷ first) rest w none whole r =
    let same = head_step (replace name bytes) s (writes text) (first ++ rest) whole in
    let later = tail_steps (replace name bytes) s (writes text) (first ++ rest) whole in
    subst (λ (x : Step). fin.get (after (x ∷ first) w).files name ≡ Some bytes) same
    (file_kept first (after_step (replace name bytes) w) name (λ k. writes_replace_none name text (subst (λ (l : List Step). Replaces name l) (sym later) (replaces_first name first rest k)))
    ∙ given_bytes w.files name bytes)
last_bytes (x ∷ a) name bytes text [] rest w none whole r = absurd r
last_bytes (x ∷ a) name bytes text (s ∷ first) rest w none whole r =
    let same = head_step x s (a ++ replace name bytes ∷ writes text) (first ++ rest) whole in
    let later = tail_steps x s (a ++ replace name bytes ∷ writes text) (first ++ rest) whole in
    go same (replaces_part name (s ∷ []) first r) (λ k. last_bytes a name bytes text first rest (after_step s w) (λ m. none (put_first x a m)) later k)
  where
    put_first : (y : Step) (b : List Step) → Replaces name b → Replaces name (y ∷ b)
    put_first draw b m = m
    put_first take_byte b m = m
    put_first (replace other more) b m = inr m
    put_first (write byte) b m = m

    go : x ≡ s → Replaces name (s ∷ []) ⊎ Replaces name first → (Replaces name first → fin.get (after (s ∷ first) w).files name ≡ Some bytes) → fin.get (after (s ∷ first) w).files name ≡ Some bytes
    go same (inl k) later = absurd (none (replaces_first name (x ∷ []) a (subst (λ (y : Step). Replaces name (y ∷ [])) (sym same) k)))
    go same (inr k) later = later k
