-- What each piece answers, and what is then still to come.
use Rattle.std.proofs.Common.{◌≡◌, ℕ, ◌+◌, ◌-◌, ◌<◌, ◌≤◌, inl, inr, Bool, true, false, List, [], ◌∷◌, ◌++◌, length, take, refl, sym, ap, ◌∙◌, subst, append_assoc, append-nil, length-append, true≢false, arith}
use Rattle.std.specs.List.{concat}
use Rattle.std.proofs.Math.Seq.{take-append-add}
use Rattle.tg_text.specs.Limits.{most_file_bytes}
use Rattle.team_files.specs.declared.item.Item.{Item}
use Rattle.team_files.specs.declared.item.Item.TheVariants.{Cut, BadFrame, Long}
use Rattle.team_files.specs.Bundles.{IsBad, IsBundle, IsFront, IsItems, IsJudged}
use Rattle.team_files.specs.Parts.{IsRead, IsRun}
use Rattle.team_files.specs.Pieces.{Answers, Comes, IsComing, IsRunOver, IsUnfinished, Pending, PiecesDontMatter, joined, started}
use Rattle.team_files.proofs.ItemTexts.{bad_more}
use Rattle.team_files.proofs.ItemLists.{all_judged, front_items, judged_once, run_items, run_long, run_more}

comes_once : (over : Bool) (left : ℕ) (kept more : List ℕ) (xs ys : List Item) → Comes over left kept more xs → Comes over left kept more ys → xs ≡ ys
comes_once true left kept more xs ys h k = h ∙ sym k
comes_once false left kept more xs ys h k = judged_once left kept more xs ys h k

all_comes : (over : Bool) (left : ℕ) (kept more : List ℕ) → (xs : List Item) × Comes over left kept more xs
all_comes true left kept more = ([], refl)
all_comes false left kept more = all_judged left kept more

-- what is to come of the new bundle is to come of the old one, behind the items answered. So nothing else is
answers_from : (old : Pending) (piece : List ℕ) (items : List Item) (new : Pending)
    → ((more : List ℕ) (later : List Item) → IsComing new more later → IsComing old (piece ++ more) (items ++ later)) → IsUnfinished new → Answers old piece items new
answers_from old piece items new back prompt = record {
  all = λ more all. (
    (λ h.
        let later = all_comes new.over new.left new.kept more in
        (later.0, comes_once old.over old.left old.kept (piece ++ more) all (items ++ later.0) h (back more later.0 later.1), later.1)),
    (λ h. subst (λ xs. IsComing old (piece ++ more) xs) (sym h.1) (back more h.0 h.2)),
  );
  prompt = prompt;
}

-- behind a fault
pub answers_nothing : (s : Pending) (piece : List ℕ) → s.over ≡ true → Answers s piece [] s
answers_nothing s piece over =
    answers_from s piece [] s
    (λ more later h. subst (λ b. Comes b s.left s.kept (piece ++ more) later) (sym over) (subst (λ b. Comes b s.left s.kept more later) over h))
    (λ going. absurd (true≢false (sym over ∙ going)))

module _ (left : ℕ) (kept judged behind : List ℕ) where
  whole : List ℕ → List ℕ
  whole more = (judged ++ behind) ++ more

  front_of : length judged ≤ left → (more : List ℕ) → kept ++ take left ((judged ++ behind) ++ more) ≡ (kept ++ judged) ++ take (left - length judged) (behind ++ more)
  front_of fits more =
      let room : length judged + (left - length judged) ≡ left = omega (arith, fits) in
      ap (λ l. kept ++ take left l) (append_assoc judged behind more)
      ∙ ap (λ n. kept ++ take n (judged ++ (behind ++ more))) (sym room)
      ∙ ap (λ l. kept ++ l) (take-append-add judged (behind ++ more) (left - length judged))
      ∙ sym (append_assoc kept judged (take (left - length judged) (behind ++ more)))

  all_of : (more : List ℕ) → kept ++ ((judged ++ behind) ++ more) ≡ (kept ++ judged) ++ (behind ++ more)
  all_of more = ap (λ l. kept ++ l) (append_assoc judged behind more) ∙ sym (append_assoc kept judged (behind ++ more))

  -- no item begins behind the whole ones
  bad_items : (some : List Item) (rest : List ℕ) → length judged ≤ left → IsRun (kept ++ judged) some rest → IsBad rest
      → (more : List ℕ) → IsJudged left kept ((judged ++ behind) ++ more) (some ++ BadFrame ∷ [])
  bad_items some rest fits run bad more =
      let fault : (tail : List ℕ) → IsItems ((kept ++ judged) ++ tail) (some ++ BadFrame ∷ []) =
      λ tail. run_items ((kept ++ judged) ++ tail) some (rest ++ tail) (BadFrame ∷ []) (run_more (kept ++ judged) some rest tail run) (bad_more rest tail bad, refl) in
      record {
        within = λ _. subst (λ l. IsItems l (some ++ BadFrame ∷ [])) (sym (all_of more)) (fault (behind ++ more));
        longer = λ _. (
          some ++ BadFrame ∷ [],
          subst (λ l. IsItems l (some ++ BadFrame ∷ [])) (sym (front_of fits more)) (fault (take (left - length judged) (behind ++ more))),
          sym (run_long (kept ++ judged) some rest (BadFrame ∷ []) run),
        );
      }

  -- more bytes come than are judged
  long_items : (some : List Item) (rest : List ℕ) → length judged ≡ left → 0 < length behind → IsRun (kept ++ judged) some rest → IsFront rest
      → (more : List ℕ) → IsJudged left kept ((judged ++ behind) ++ more) (some ++ Long ∷ [])
  long_items some rest full past run front more =
      let last = front_items rest front in
      let fits : length judged ≤ left = omega (arith, full) in
      let none : left - length judged ≡ 0 = omega (arith, full) in
      record {
        within = λ short. absurd (omega (arith, short, past, full, length-append (judged ++ behind) more, length-append judged behind));
        longer = λ _. (
          some ++ last.0,
          subst (λ l. IsItems l (some ++ last.0))
              (sym (front_of fits more ∙ ap (λ n. (kept ++ judged) ++ take n (behind ++ more)) none ∙ append-nil (kept ++ judged)))
              (run_items (kept ++ judged) some rest last.0 run last.1),
          ap (λ l. some ++ l) (sym last.2) ∙ sym (run_long (kept ++ judged) some rest last.0 run),
        );
      }

-- all of the piece is judged, and no fault comes
open_items : (left : ℕ) (kept piece : List ℕ) (some : List Item) (rest : List ℕ) → length piece ≤ left → IsRun (kept ++ piece) some rest
    → (more : List ℕ) (later : List Item) → IsJudged (left - length piece) rest more later → IsJudged left kept (piece ++ more) (some ++ later)
open_items left kept piece some rest fits run more later h =
    let room : length piece + (left - length piece) ≡ left = omega (arith, fits) in
    let size = length-append piece more in
    record {
      within = λ short.
          subst (λ l. IsItems l (some ++ later)) (append_assoc kept piece more)
          (run_items ((kept ++ piece) ++ more) some (rest ++ more) later (run_more (kept ++ piece) some rest more run) (h.within (omega (arith, fits, short, size))));
      longer = λ past.
          let found = h.longer (omega (arith, fits, past, size)) in
          let tail = take (left - length piece) more in (
            some ++ found.0,
            subst (λ l. IsItems l (some ++ found.0))
                (append_assoc kept piece tail ∙ ap (λ l. kept ++ l) (sym (take-append-add piece more (left - length piece))) ∙ ap (λ n. kept ++ take n (piece ++ more)) room)
                (run_items ((kept ++ piece) ++ tail) some (rest ++ tail) found.0 (run_more (kept ++ piece) some rest tail run) found.1),
            ap (λ l. some ++ l) found.2 ∙ sym (run_long (kept ++ piece) some rest found.0 run),
          );
    }

answers_over : (left rest_left : ℕ) (kept piece new : List ℕ) (items : List Item) → ((more : List ℕ) → IsJudged left kept (piece ++ more) items)
    → Answers (record { kept = kept; left = left; over = false }) piece items (record { kept = new; left = rest_left; over = true })
answers_over left rest_left kept piece new items judged =
    answers_from _ piece items _
    (λ more later none. subst (λ l. IsJudged left kept (piece ++ more) l) (sym (ap (λ l. items ++ l) none ∙ append-nil items)) (judged more))
    (λ going. absurd (true≢false going))

-- what reading the judged front of a piece answers and keeps
pub answers_read : (left : ℕ) (kept piece judged behind new : List ℕ) (long over : Bool) (items : List Item)
    → piece ≡ judged ++ behind → length judged ≤ left → (long ≡ false → behind ≡ []) → (long ≡ true → (length judged ≡ left) × (0 < length behind))
    → IsRead (kept ++ judged) long items new over
    → Answers (record { kept = kept; left = left; over = false }) piece items (record { kept = new; left = left - length judged; over = over })
answers_read left kept piece judged behind new long false items is fits none past read =
    let whole : piece ≡ judged = is ∙ ap (λ l. judged ++ l) (none read.0) ∙ append-nil judged in
    subst (λ l. Answers (record { kept = kept; left = left; over = false }) l items (record { kept = new; left = left - length judged; over = false })) (sym whole)
    (answers_from _ judged items _ (λ more later h. open_items left kept judged items new fits read.1 more later h) (λ _. read.2))
answers_read left kept piece judged behind new long true items is fits none past read = elim read.3 [
  | inl bad ↦
      answers_over left (left - length judged) kept piece new items
      (λ more. subst (λ l. IsJudged left kept (l ++ more) items) (sym is) (subst (λ xs. IsJudged left kept ((judged ++ behind) ++ more) xs) (sym bad.1) (bad_items left kept judged behind read.0 read.1 fits read.2 bad.0 more)))
  | inr more_came ↦
      let full = past more_came.0 in
      answers_over left (left - length judged) kept piece new items
      (λ more. subst (λ l. IsJudged left kept (l ++ more) items) (sym is) (subst (λ xs. IsJudged left kept ((judged ++ behind) ++ more) xs) (sym more_came.2) (long_items left kept judged behind read.0 read.1 full.0 full.1 read.2 more_came.1 more)))
]

-- the end of the input
pub ends_over : (s : Pending) → s.over ≡ true → IsComing s [] []
ends_over s over = subst (λ b. Comes b s.left s.kept [] []) (sym over) refl

pub ends_empty : (s : Pending) → s.over ≡ false → s.kept ≡ [] → IsComing s [] []
ends_empty s going none = subst (λ b. Comes b s.left s.kept [] []) (sym going) (record {
  within = λ _. append-nil s.kept ∙ none;
  longer = λ past. absurd (omega (arith, past));
})

pub ends_cut : (s : Pending) → s.over ≡ false → IsFront s.kept → 0 < length s.kept → IsComing s [] (Cut ∷ [])
ends_cut s going front some =
    let whole = sym (append-nil s.kept) in
    subst (λ b. Comes b s.left s.kept [] (Cut ∷ [])) (sym going) (record {
      within = λ _. subst (λ l. IsItems l (Cut ∷ [])) whole (some, front, refl);
      longer = λ past. absurd (omega (arith, past));
    })

-- one piece and its end
pub one_piece : (bytes : List ℕ) (items last : List Item) (new : Pending) → Answers started bytes items new → IsComing new [] last → IsBundle bytes (items ++ last)
one_piece bytes items last new answers end_ =
    subst (λ l. IsJudged most_file_bytes [] l (items ++ last)) (append-nil bytes) ((answers.all [] (items ++ last)).1 (last, refl, end_))

run_over : (old : Pending) (pieces : List (List ℕ)) (answers : List (List Item)) (new : Pending) (last : List Item)
    → IsRunOver old pieces answers new → IsComing new [] last → IsComing old (concat pieces) (joined answers ++ last)
run_over old [] [] new last run end_ = subst (λ s. IsComing s [] last) run end_
run_over old [] (items ∷ answers) new last run end_ = absurd run
run_over old (piece ∷ pieces) [] new last run end_ = absurd run
run_over old (piece ∷ pieces) (items ∷ answers) new last run end_ =
    (run.1.all (concat pieces) ((items ++ joined answers) ++ last)).1
    (joined answers ++ last, append_assoc items (joined answers) last, run_over run.0 pieces answers new last run.2 end_)

pub pieces_dont_matter : PiecesDontMatter
pieces_dont_matter pieces answers new last run end_ = run_over started pieces answers new last run end_
