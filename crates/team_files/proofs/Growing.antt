-- What is kept of an unfinished item grows by a front of the piece.
use Rattle.std.proofs.Common.{◌≡◌, ℕ, ◌+◌, ◌-◌, ◌≤◌, ◌==◌, ◌<◌, Bool, not, true, false, true≢false, List, [], ◌∷◌, ◌++◌, length, drop, refl, sym, ap, ◌∙◌, subst, append_assoc, append-nil, length-append, arith}
use Rattle.std.proofs.lemmas.Bool.{eqb-true}
use Rattle.std.proofs.Math.Seq.{drop-append_seam}
use Rattle.team_files.specs.declared.item.Item.{Item}
use Rattle.team_files.specs.Bundles.{Begins, IsBad, IsFront}
use Rattle.team_files.proofs.ItemTexts.{bad_more, begins_more, ends_behind}

pub none_left : (b : List ℕ) → true ≡ (length b == 0) → b ≡ []
none_left [] e = refl
none_left (c ∷ b) e = absurd (omega (arith, eqb-true (length (c ∷ b)) 0 (sym e)))

-- a test of whether there are bytes behind the judged ones
pub none_behind : (b : List ℕ) (e : Bool) → e ≡ (length b == 0) → not e ≡ false → b ≡ []
none_behind b true e h = none_left b e
none_behind b false e h = absurd (true≢false h)

pub some_behind : (b : List ℕ) (e : Bool) → e ≡ (length b == 0) → not e ≡ true → 0 < length b
some_behind [] false e h = absurd (true≢false (sym e))
some_behind (c ∷ b) false e h = omega arith
some_behind b true e h = absurd (true≢false (sym h))

-- where the piece is at its end, all of it is kept
pub all_kept : (old piece front kept rest : List ℕ) → piece ≡ front ++ rest → kept ≡ old ++ front → true ≡ (length rest == 0) → kept ≡ old ++ piece
all_kept old piece front kept rest is_piece is_kept none =
    is_kept ∙ ap (λ l. old ++ l) (sym (is_piece ∙ ap (λ l. front ++ l) (none_left rest none) ∙ append-nil front))

module _ (old piece front kept rest part behind new : List ℕ) (is_piece : piece ≡ front ++ rest) (is_kept : kept ≡ old ++ front) (is_rest : rest ≡ part ++ behind) (is_new : new ≡ kept ++ part) where
  more : List ℕ
  more = front ++ part

  new_is : new ≡ old ++ (front ++ part)
  new_is = is_new ∙ ap (λ l. l ++ part) is_kept ∙ append_assoc old front part

  piece_is : piece ≡ (front ++ part) ++ behind
  piece_is = is_piece ∙ ap (λ l. front ++ l) is_rest ∙ sym (append_assoc front part behind)

  whole_is : old ++ piece ≡ new ++ behind
  whole_is = ap (λ l. old ++ l) piece_is ∙ sym (append_assoc old (front ++ part) behind) ∙ ap (λ l. l ++ behind) (sym new_is)

  pub bad_grown : IsBad new → IsBad (old ++ piece)
  bad_grown bad = subst IsBad (sym whole_is) (bad_more new behind bad)

  module _ (x : Item) (after : List ℕ) (unfinished : IsFront old) (begins : Begins new x after) where
    ends : (end_ : List ℕ) × (front ++ part ≡ end_ ++ after)
    ends = ends_behind old (front ++ part) x after unfinished (subst (λ l. Begins l x after) new_is begins)

    pub taken_fits : (before size : ℕ) → before ≡ length old → size ≡ length new → (before ≤ size - length after) × (size - length after - before ≤ length piece)
    taken_fits before size e f =
        let long : length new ≡ length old + length (ends.0 ++ after) = ap length new_is ∙ ap (λ l. length (old ++ l)) ends.1 ∙ length-append old (ends.0 ++ after) in
        let all = ap length piece_is ∙ length-append (front ++ part) behind in
        let grown = ap length ends.1 in
        let two = length-append ends.0 after in
        (omega (arith, e, f, long, two), omega (arith, e, f, long, two, all, grown))

    pub whole_grown : (before size : ℕ) → before ≡ length old → size ≡ length new → Begins (old ++ piece) x (drop (size - length after - before) piece)
    whole_grown before size e f =
        let long : length new ≡ length old + length (ends.0 ++ after) = ap length new_is ∙ ap (λ l. length (old ++ l)) ends.1 ∙ length-append old (ends.0 ++ after) in
        let taken : size - length after - before ≡ length ends.0 = omega (arith, e, f, long, length-append ends.0 after) in
        let split : piece ≡ ends.0 ++ (after ++ behind) = piece_is ∙ ap (λ l. l ++ behind) ends.1 ∙ append_assoc ends.0 after behind in
        let rest : drop (size - length after - before) piece ≡ after ++ behind = ap (λ n. drop n piece) taken ∙ ap (drop (length ends.0)) split ∙ drop-append_seam ends.0 (after ++ behind) in
        subst (λ r. Begins (old ++ piece) x r) (sym rest) (subst (λ l. Begins l x (after ++ behind)) (sym whole_is) (begins_more new x after behind begins))
