-- Links in ascending order of names, one more at the end, and the frames that spell them.
use Rattle.std.proofs.Common.{◌≡◌, ◌↔◌, Bool, true, nat_lt, ℕ, ◌<◌, ◌≤◌, ◌^◌, ◌-◌, List, [], ◌∷◌, ◌++◌, length, map, get_or, IsTrue, Some, Result, Err, refl, sym, ap, ◌∙◌, subst, append_assoc, append-nil, length-append, arith}
use Rattle.std.specs.List.{AllByRecursion}
use Rattle.std.specs.Option.{option_map_or}
use Rattle.std.proofs.lemmas.Bool.{and_from, and_parts, lt-ltb, ltb-true}
use Rattle.tg_text.specs.Limits.{most_links}
use Rattle.std.proofs.lemmas.Grind.{flat_map-append}
use Rattle.team_sets.specs.Names.{Name, name_lt}
use Rattle.team_model.specs.Judging.{name_of}
use Rattle.team_model.specs.declared.terms.Link.{Link}
use Rattle.link_text.specs.LinkText.{text, Ascends, IsValid}
use Rattle.link_text.specs.TeamFile.{frame}
use Rattle.std.specs.Result.{IsErrAnd}
use Rattle.std.proofs.lemmas.Result.{err_from_is_err_and}
use Rattle.team_files.specs.declared.fault.FileFault.{FileFault}
use Rattle.team_files.specs.declared.fault.FileFault.TheVariants.{BadFile, Memory}
use Rattle.team_files.specs.Frames.{frames, last_name, may_stand, IsBefore, MayFollow, AreInOrder, Gives}

last_there : (x : Link) (xs : List Link) (d : Link) → Some (get_or (x ∷ xs) (length xs) d).name ≡ last_name (x ∷ xs)
last_there x [] d = refl
last_there x (y ∷ ys) d = last_there y ys d

pub last_at : (links : List Link) (x : Link) → 1 ≤ length links → x ≡ get_or links (length links - 1) x → Some x.name ≡ last_name links
last_at [] x some is = absurd (omega arith)
last_at (y ∷ ys) x some is =
    let at : x ≡ get_or (y ∷ ys) (length ys) x = is ∙ ap (λ i. get_or (y ∷ ys) i x) (let k : length (y ∷ ys) - 1 ≡ length ys = omega arith in k) in
    ap (λ (z : Link). Some z.name) at ∙ last_there y ys x

pub last_more : (links : List Link) (l : Link) → last_name (links ++ l ∷ []) ≡ Some l.name
last_more [] l = refl
last_more (x ∷ []) l = refl
last_more (x ∷ y ∷ ys) l = last_more (y ∷ ys) l

ascends_more : (links : List Link) (l : Link) → Ascends (map name_of links) → IsBefore links l.name → Ascends (map name_of (links ++ l ∷ []))
ascends_more [] l a b = tt
ascends_more (x ∷ []) l a b = (b, tt)
ascends_more (x ∷ y ∷ ys) l a b = (a.0, ascends_more (y ∷ ys) l a.1 b)

ascends_front : (links : List Link) (l : Link) (more : List Link) → Ascends (map name_of (links ++ l ∷ more)) → IsBefore links l.name
ascends_front [] l more a = refl
ascends_front (x ∷ []) l more a = a.0
ascends_front (x ∷ y ∷ ys) l more a = ascends_front (y ∷ ys) l more a.1

module _ (P : Link → Type 0) where
  all_more : (links : List Link) (l : Link) → AllByRecursion P links → P l → AllByRecursion P (links ++ l ∷ [])
  all_more [] l h p = (p, tt)
  all_more (x ∷ xs) l h p = (h.0, all_more xs l h.1 p)

  all_at : (links : List Link) (l : Link) (more : List Link) → AllByRecursion P (links ++ l ∷ more) → P l
  all_at [] l more h = h.0
  all_at (x ∷ xs) l more h = all_at xs l more h.1

-- a link that may follow keeps the order
pub order_more : (t : Name) (links : List Link) (l : Link) → AreInOrder t links → IsValid t (text l) l → MayFollow links l → AreInOrder t (links ++ l ∷ [])
order_more t links l are valid may = record {
  valid = all_more (λ k. IsValid t (text k) k) links l are.valid valid;
  ascend = ascends_more links l are.ascend may.before;
  few = omega (arith, may.room, length-append links (l ∷ []));
}

-- each link in the order may follow those before it
pub may_follow : (t : Name) (links : List Link) (l : Link) (more : List Link) → AreInOrder t (links ++ l ∷ more) → MayFollow links l
may_follow t links l more are = record {
  room = omega (arith, are.few, length-append links (l ∷ more));
  before = ascends_front links l more are.ascend;
}

pub valid_at : (t : Name) (links : List Link) (l : Link) (more : List Link) → AreInOrder t (links ++ l ∷ more) → IsValid t (text l) l
valid_at t links l more are = all_at (λ k. IsValid t (text k) k) links l more are.valid

pub short : (t : Name) (l : Link) → IsValid t (text l) l → length (text l) < 2 ^ 64
short t l v = omega (arith, v.reads.well_formed.fits)

pub frames_more : (links : List Link) (l : Link) → frames (links ++ l ∷ []) ≡ frames links ++ frame (text l)
frames_more links l = flat_map-append (λ k. frame (text k)) links (l ∷ []) ∙ ap (λ t. frames links ++ t) (append-nil (frame (text l)))

-- where bytes are left, they are a frame with the others behind it
pub next_frame : (rest : List ℕ) (more : List Link) → 0 < length rest → rest ≡ frames more
    → (l : Link) × (others : List Link) × (more ≡ l ∷ others) × (rest ≡ frame (text l) ++ frames others)
next_frame rest [] some e = absurd (omega (arith, ap length e))
next_frame rest (l ∷ others) some e = (l, others, refl, e)

-- the link with which the rest begins, where the whole is spelled by links in order
pub next_link : (t : Name) (all links : List Link) (rest : List ℕ) (more : List Link) → AreInOrder t all → all ≡ links ++ more → rest ≡ frames more → 0 < length rest
    → (l : Link) × (others : List Link) × (all ≡ links ++ l ∷ others) × (rest ≡ frame (text l) ++ frames others) × IsValid t (text l) l × MayFollow links l
next_link t all links rest more are e f some =
    let next = next_frame rest more some f in
    let whole : all ≡ links ++ next.0 ∷ next.1 = e ∙ ap (λ m. links ++ m) next.2 in
    let here : AreInOrder t (links ++ next.0 ∷ next.1) = subst (AreInOrder t) whole are in
    (next.0, next.1, whole, next.3, valid_at t links next.0 next.1 here, may_follow t links next.0 next.1 here)

-- the test of how many there are, and of the last
pub stands-follows : (links : List Link) (l : Link) (b : Bool) → b ≡ may_stand (length links) (last_name links) l.name → IsTrue b ↔ MayFollow links l
stands-follows links l b e =
    let after = option_map_or (λ m. name_lt m l.name) (last_name links) true in (
      λ h. let parts = and_parts (nat_lt (length links) most_links) after (sym e ∙ h) in record { room = ltb-true (length links) most_links parts.0; before = parts.1 },
      λ may. e ∙ and_from (nat_lt (length links) most_links) after (lt-ltb (length links) most_links may.room) may.before,
    )

-- what is answered where something else than the spelled value comes
pub not_bad : {X : Type 0} (x : X) (f : FileFault) → f ≡ BadFile → Gives x (Err f) → ⊥
not_bad x BadFile e h = h
not_bad x Memory e h = let k : Memory ≡ BadFile = e in cc

pub left_bad : {X : Type 0} (r : Result X FileFault) (f : FileFault) → IsErrAnd r (λ e. e ≡ f) → r ≡ Err BadFile → f ≡ BadFile
left_bad r f left e = let p = err_from_is_err_and r left in let h : ◌≡◌ {A = Result _ FileFault} (Err p.0) (Err BadFile) = sym p.1 ∙ e in (let k : p.0 ≡ BadFile = cc in sym p.2 ∙ k)

pub spelled_more : (bytes rest inner after : List ℕ) (links : List Link) (l : Link) → bytes ≡ frames links ++ rest → rest ≡ frame inner ++ after → inner ≡ text l
    → bytes ≡ frames (links ++ l ∷ []) ++ after
spelled_more bytes rest inner after links l e f is =
    e ∙ ap (λ t. frames links ++ t) (f ∙ ap (λ t. frame t ++ after) is) ∙ sym (append_assoc (frames links) (frame (text l)) after) ∙ ap (λ t. t ++ after) (sym (frames_more links l))

pub all_more_is : (all links new others : List Link) (l link : Link) → all ≡ links ++ l ∷ others → new ≡ links ++ link ∷ [] → link ≡ l → all ≡ new ++ others
all_more_is all links new others l link e f g = e ∙ ap (λ x. links ++ x ∷ others) (sym g) ∙ sym (append_assoc links (link ∷ []) others) ∙ ap (λ x. x ++ others) (sym f)
