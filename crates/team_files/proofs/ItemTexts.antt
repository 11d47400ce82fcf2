-- No item's text begins another's, and what no item begins stays so, whatever follows.
use Rattle.std.proofs.Common.{◌≡◌, ℕ, ◌-◌, ◌<◌, ◌≤◌, ◌^◌, ◌==◌, ◌⊎◌, inl, inr, Bool, true, false, List, [], ◌∷◌, ◌++◌, length, take, drop, get_or, replicate, codes, refl, sym, ap, ◌∙◌, subst, append_assoc, append-nil, length-append, arith}
use Rattle.std.proofs.lemmas.Bool.{cases_lt, eqb-true}
use Rattle.std.proofs.lemmas.List.{append_cancel_left, length-replicate, length-take-le, take-append-drop}
use Rattle.tg_text.specs.Spelling.{IsHash, has_newline, spell_decimal}
use Rattle.tg_text.proofs.Splits.{no_split, one_split}
use Rattle.tg_text.proofs.FieldLaws.{decimal_lacks, decimal_once}
use Rattle.link_text.specs.TeamFile.{frame, header}
use Rattle.team_files.specs.declared.item.Item.{Item}
use Rattle.team_files.specs.declared.item.Item.TheVariants.{Header, Text, Cut, BadFrame, Long}
use Rattle.team_files.specs.Bundles.{length_line, Begins, IsBad, IsFront, IsItemText}
use Rattle.team_files.specs.Frames.{header_fields, length_fields}
use Rattle.team_files.proofs.Lines.{header_line, frame_line}
use Rattle.team_files.proofs.Once.{frame_once, header_once}
use Rattle.team_files.proofs.Fronts.{front_of_length, split_front, tell_header, tell_length, tell_open}

-- a header begins with a `t`, a frame with an `l`
apart : (team x y : List ℕ) (n : ℕ) → header team ++ x ≡ length_line n ++ y → ⊥
apart team x y n e = absurd (omega (arith, ap (λ l. get_or l 0 0) e))

pub frame_begins : (inner rest : List ℕ) → frame inner ++ rest ≡ length_line (length inner) ++ (inner ++ rest)
frame_begins inner rest = append_assoc (length_line (length inner)) inner rest

small_fits : (n : ℕ) → n < 10 ^ 9 → n < 2 ^ 64
small_fits n small = omega (arith, small)

pub length_line_once : (m n : ℕ) (x y : List ℕ) → m < 10 ^ 9 → n < 10 ^ 9 → length_line m ++ x ≡ length_line n ++ y → (m ≡ n) × (x ≡ y)
length_line_once m n x y small few e =
    let line = one_split 10 (length_fields m) (length_fields n) x y (decimal_lacks 10 m refl (small_fits m small)) (decimal_lacks 10 n refl (small_fits n few))
    (sym (append_assoc (length_fields m) (10 ∷ []) x) ∙ e ∙ append_assoc (length_fields n) (10 ∷ []) y) in
    (decimal_once m n (small_fits m small) (small_fits n few) (append_cancel_left (codes "link ") (spell_decimal m) (spell_decimal n) line.0), line.1)

pub begins_once : (b : List ℕ) (x y : Item) (r s : List ℕ) → Begins b x r → Begins b y s → (x ≡ y) × (r ≡ s)
begins_once b Cut y r s h k = absurd h
begins_once b BadFrame y r s h k = absurd h
begins_once b Long y r s h k = absurd h
begins_once b Header Cut r s h k = absurd k
begins_once b Header BadFrame r s h k = absurd k
begins_once b Header Long r s h k = absurd k
begins_once b (Text inner) Cut r s h k = absurd k
begins_once b (Text inner) BadFrame r s h k = absurd k
begins_once b (Text inner) Long r s h k = absurd k
begins_once b Header Header r s h k = (refl, (header_once h.0 k.0 r s h.1 k.1 (sym h.2 ∙ k.2)).1)
begins_once b Header (Text inner) r s h k = absurd (apart h.0 r (inner ++ s) (length inner) (sym h.2 ∙ k.1 ∙ frame_begins inner s))
begins_once b (Text inner) Header r s h k = absurd (apart k.0 s (inner ++ r) (length inner) (sym k.2 ∙ h.1 ∙ frame_begins inner r))
begins_once b (Text inner) (Text other) r s h k =
    let once = frame_once inner other r s (small_fits (length inner) h.0) (small_fits (length other) k.0) (sym h.1 ∙ k.1) in
    (ap Text once.0, once.1)

-- a whole item isn't a front
whole_text : (b : List ℕ) (x : Item) (r more : List ℕ) → Begins b x r → 0 < length more → IsItemText (b ++ more) → ⊥
whole_text b Cut r more h some item = h
whole_text b BadFrame r more h some item = h
whole_text b Long r more h some item = h
whole_text b Header r more h some (inl (team, is, e)) =
    let once = header_once h.0 team (r ++ more) [] h.1 is (sym (append_assoc (header h.0) r more) ∙ ap (λ l. l ++ more) (sym h.2) ∙ e ∙ sym (append-nil (header team))) in
    absurd (omega (arith, some, ap length once.1, length-append r more))
whole_text b Header r more h some (inr (inner, small, e)) =
    apart h.0 (r ++ more) inner (length inner) (sym (append_assoc (header h.0) r more) ∙ ap (λ l. l ++ more) (sym h.2) ∙ e)
whole_text b (Text own) r more h some (inl (team, is, e)) =
    apart team [] (own ++ (r ++ more)) (length own)
    (append-nil (header team) ∙ sym e ∙ ap (λ l. l ++ more) h.1 ∙ append_assoc (frame own) r more ∙ frame_begins own (r ++ more))
whole_text b (Text own) r more h some (inr (inner, small, e)) =
    let once = frame_once own inner (r ++ more) [] (small_fits (length own) h.0) (small_fits (length inner) small)
    (sym (append_assoc (frame own) r more) ∙ ap (λ l. l ++ more) (sym h.1) ∙ e ∙ sym (append-nil (frame inner))) in
    absurd (omega (arith, some, ap length once.1, length-append r more))

pub not_front : (b : List ℕ) (x : Item) (r : List ℕ) → Begins b x r → IsFront b → ⊥
not_front b x r h front = whole_text b x r front.0 h front.1 front.2

pub not_bad : (b : List ℕ) (x : Item) (r : List ℕ) → Begins b x r → IsBad b → ⊥
not_bad b Cut r h bad = h
not_bad b BadFrame r h bad = h
not_bad b Long r h bad = h
not_bad b Header r h bad = bad.no_header h.0 r h.1 h.2
not_bad b (Text inner) r h bad = bad.no_frame (length inner) (inner ++ r) h.0 (h.1 ∙ frame_begins inner r)

-- an item's text isn't empty
pub begins_some : (b : List ℕ) (x : Item) (r : List ℕ) → Begins b x r → length r < length b
begins_some b Cut r h = absurd h
begins_some b BadFrame r h = absurd h
begins_some b Long r h = absurd h
begins_some b Header r h = omega (arith, ap length h.2, length-append (header h.0) r)
begins_some b (Text inner) r h = omega (arith, ap length h.1, length-append (frame inner) r)

pub begins_more : (b : List ℕ) (x : Item) (r more : List ℕ) → Begins b x r → Begins (b ++ more) x (r ++ more)
begins_more b Cut r more h = absurd h
begins_more b BadFrame r more h = absurd h
begins_more b Long r more h = absurd h
begins_more b Header r more h = (h.0, h.1, ap (λ l. l ++ more) h.2 ∙ append_assoc (header h.0) r more)
begins_more b (Text inner) r more h = (h.0, ap (λ l. l ++ more) h.1 ∙ append_assoc (frame inner) r more)

-- the text of an item, which stands in front of any other rest too
begins_text : (b : List ℕ) (x : Item) (r : List ℕ) → Begins b x r → (text : List ℕ) × (b ≡ text ++ r) × ((d : List ℕ) (other : List ℕ) → other ≡ text ++ d → Begins other x d)
begins_text b Cut r h = absurd h
begins_text b BadFrame r h = absurd h
begins_text b Long r h = absurd h
begins_text b Header r h = (header h.0, h.2, (λ d other e. (h.0, h.1, e)))
begins_text b (Text inner) r h = (frame inner, h.1, (λ d other e. (h.0, e)))

-- an item that is unfinished ends within the bytes that follow
pub ends_behind : (kept more : List ℕ) (x : Item) (rest : List ℕ) → IsFront kept → Begins (kept ++ more) x rest → (end_ : List ℕ) × (more ≡ end_ ++ rest)
ends_behind kept more x rest front h =
    let text = begins_text (kept ++ more) x rest h in
    elim (split_front kept text.0 more rest text.1) [
      | inl short ↦ (short.0, append_cancel_left kept more (short.0 ++ rest) (text.1 ∙ ap (λ l. l ++ rest) short.1 ∙ append_assoc kept short.0 rest))
      | inr long ↦ absurd (not_front kept x long.0 (text.2 long.0 kept long.1) front)
    ]

-- a front of a front is one
pub front_less : (b more : List ℕ) → IsFront (b ++ more) → IsFront b
front_less b more front =
    (more ++ front.0, omega (arith, front.1, length-append more front.0), subst IsItemText (append_assoc b more front.0) front.2)

-- a frame whose text isn't whole is a front
pub short_frame : (n : ℕ) (rest : List ℕ) → n < 10 ^ 9 → length rest < n → IsFront (length_line n ++ rest)
short_frame n rest small short =
    let more = replicate (n - length rest) 0 in
    let long : length more ≡ n - length rest = length-replicate {A = ℕ} (n - length rest) 0 in
    let whole : length (rest ++ more) ≡ n = omega (arith, short, long, length-append rest more) in (
      more,
      omega (arith, short, long),
      inr (rest ++ more, omega (arith, small, whole), append_assoc (length_line n) rest more ∙ ap (λ m. length_line m ++ (rest ++ more)) (sym whole)),
    )

pub whole_frame : (n : ℕ) (rest : List ℕ) → n < 10 ^ 9 → n ≤ length rest → Begins (length_line n ++ rest) (Text (take n rest)) (drop n rest)
whole_frame n rest small long =
    let size : length (take n rest) ≡ n = length-take-le n rest long in (
      omega (arith, small, size),
      ap (λ r. length_line n ++ r) (sym (take-append-drop n rest)) ∙ ap (λ m. length_line m ++ (take n rest ++ drop n rest)) (sym size)
          ∙ sym (frame_begins (take n rest) (drop n rest)),
    )

-- with no newline, what is no front is bad
pub bad_open : (b : List ℕ) → has_newline b ≡ false → (IsFront b → ⊥) → 0 < length b → IsBad b
bad_open b none isnt some = record {
  some = some;
  no_header = λ team rest is e. no_split 10 b (header_fields team) rest none (e ∙ append_assoc (header_fields team) (10 ∷ []) rest);
  no_frame = λ n rest small e. no_split 10 b (length_fields n) rest none (e ∙ append_assoc (length_fields n) (10 ∷ []) rest);
  no_front = isnt;
}

-- no bytes are a front
pub empty_front : IsFront []
empty_front = front_of_length [] (inl (codes "link ", refl))

pub some_bad : (b : List ℕ) → (IsFront b → ⊥) → 0 < length b
some_bad [] isnt = absurd (isnt empty_front)
some_bad (c ∷ b) isnt = omega arith

-- and so is what begins with another line
pub bad_line : (line after : List ℕ) → has_newline line ≡ false → ((team : List ℕ) → IsHash team → line ≡ header_fields team → ⊥)
    → ((n : ℕ) → n < 10 ^ 9 → line ≡ length_fields n → ⊥) → IsBad (line ++ 10 ∷ after)
bad_line line after none no_header no_length = record {
  some = omega (arith, length-append line (10 ∷ after));
  no_header = λ team rest is e. no_header team is (header_line line after team rest none e).0;
  no_frame = λ n rest small e.
      no_length n small (one_split 10 line (length_fields n) after rest none (decimal_lacks 10 n refl (small_fits n small)) (e ∙ append_assoc (length_fields n) (10 ∷ []) rest)).0;
  no_front = λ front. no_text front.0 front.2;
}
  where
    no_text : (more : List ℕ) → IsItemText ((line ++ 10 ∷ after) ++ more) → ⊥
    no_text more (inl (team, is, e)) =
        no_header team is (header_line line (after ++ more) team [] none (sym (append_assoc line (10 ∷ after) more) ∙ e ∙ sym (append-nil (header team)))).0
    no_text more (inr (inner, small, e)) =
        no_length (length inner) small
        (frame_line line (after ++ more) inner [] (small_fits (length inner) small) none (sym (append_assoc line (10 ∷ after) more) ∙ e ∙ sym (append-nil (frame inner)))).0

-- what is bad stays bad
pub bad_more : (b more : List ℕ) → IsBad b → IsBad (b ++ more)
bad_more b more bad = record {
  some = omega (arith, bad.some, length-append b more);
  no_header = λ team rest is e. elim (split_front b (header team) more rest e) [
    | inl short ↦ within_header team short.0 is short.1
    | inr long ↦ bad.no_header team long.0 is long.1
  ];
  no_frame = λ n rest small e. elim (split_front b (length_line n) more rest e) [
    | inl short ↦ within_line n short.0 small short.1
    | inr long ↦ bad.no_frame n long.0 small long.1
  ];
  no_front = λ front. bad.no_front (front_less b more front);
}
  where
    within_header : (team m : List ℕ) → IsHash team → header team ≡ b ++ m → ⊥
    within_header team [] is e = bad.no_header team [] is (sym (append-nil b) ∙ sym e ∙ sym (append-nil (header team)))
    within_header team (c ∷ m) is e = bad.no_front (c ∷ m, omega arith, inl (team, is, sym e))

    within_line : (n : ℕ) (m : List ℕ) → n < 10 ^ 9 → length_line n ≡ b ++ m → ⊥
    within_line n [] small e = bad.no_frame n [] small (sym (append-nil b) ∙ sym e ∙ sym (append-nil (length_line n)))
    within_line n (c ∷ m) small e =
        let zeros = replicate n 0 in
        let size : length zeros ≡ n = length-replicate {A = ℕ} n 0 in
        bad.no_front (
          (c ∷ m) ++ zeros,
          omega arith,
          inr (zeros, omega (arith, small, size), sym (append_assoc b (c ∷ m) zeros) ∙ ap (λ l. l ++ zeros) (sym e) ∙ ap (λ k. length_line k ++ zeros) (sym size)),
        )

-- the first line of bytes, if there is a newline
first_line : (b : List ℕ) → (has_newline b ≡ false) ⊎ ((line : List ℕ) × (after : List ℕ) × (has_newline line ≡ false) × (b ≡ line ++ 10 ∷ after))
first_line [] = inl refl
first_line (c ∷ b) = by (first_line b) (c == 10) refl
  where
    by : (has_newline b ≡ false) ⊎ ((line : List ℕ) × (after : List ℕ) × (has_newline line ≡ false) × (b ≡ line ++ 10 ∷ after)) → (t : Bool) → (c == 10) ≡ t
        → (has_newline (c ∷ b) ≡ false) ⊎ ((line : List ℕ) × (after : List ℕ) × (has_newline line ≡ false) × (c ∷ b ≡ line ++ 10 ∷ after))
    by rest true e = inr ([], b, refl, ap (λ x. x ∷ b) (eqb-true c 10 e))
    by (inl none) false e = inl (rw (e, none) refl)
    by (inr (line, after, none, is)) false e = inr (c ∷ line, after, rw (e, none) refl, ap (λ l. c ∷ l) is)

-- bytes begin with an item, or are a front of one, or are bad
pub tell_item : (b : List ℕ) → 0 < length b → ((x : Item) × (r : List ℕ) × Begins b x r) ⊎ (IsFront b ⊎ IsBad b)
tell_item b some = elim (first_line b) [
  | inl none ↦ elim (tell_open b none) [
    | inl front ↦ inr (inl front)
    | inr isnt ↦ inr (inr (bad_open b none isnt some))
  ]
  | inr first ↦ subst (λ l. ((x : Item) × (r : List ℕ) × Begins l x r) ⊎ (IsFront l ⊎ IsBad l)) (sym first.3) (by first.0 first.1 first.2)
]
  where
    by : (line after : List ℕ) → has_newline line ≡ false
        → ((x : Item) × (r : List ℕ) × Begins (line ++ 10 ∷ after) x r) ⊎ (IsFront (line ++ 10 ∷ after) ⊎ IsBad (line ++ 10 ∷ after))
    by line after none = elim (tell_header line) [
      | inl head ↦ inl (Header, after, (head.0, head.1, ap (λ l. l ++ 10 ∷ after) head.2 ∙ sym (append_assoc (header_fields head.0) (10 ∷ []) after)))
      | inr no_header ↦ elim (tell_length line) [
        | inr no_length ↦ inr (inr (bad_line line after none (λ team is e. no_header (team, is, e)) (λ n small e. no_length (n, small, e))))
        | inl size ↦
            let is : line ++ 10 ∷ after ≡ length_line size.0 ++ after = ap (λ l. l ++ 10 ∷ after) size.2 ∙ sym (append_assoc (length_fields size.0) (10 ∷ []) after) in
            elim (cases_lt (length after) size.0) [
              | inl short ↦ inr (inl (subst IsFront (sym is) (short_frame size.0 after size.1 short)))
              | inr long ↦ inl (Text (take size.0 after), drop size.0 after, subst (λ l. Begins l (Text (take size.0 after)) (drop size.0 after)) (sym is) (whole_frame size.0 after size.1 (omega (arith, long))))
            ]
      ]
    ]
