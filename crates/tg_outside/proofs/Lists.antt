-- Steps of the loops over files and over what is left to write.
use Rattle.std.proofs.Common.{◌≡◌, ℕ, ◌+◌, ◌<◌, cond, List, ◌++◌, length, take, drop, get_or, Option, Some, None, refl, ap, ◌∙◌, drop-cons, append_assoc, nat_eq, add-one}
use Rattle.std.specs.Cmp.Lexicographic.{pointwise, texts_ties}
use Rattle.std.specs.Io.KnownBytes.{Appends, Keeps}
use Rattle.std.proofs.lemmas.List.{take-append-drop}
use Rattle.tg_outside.specs.Table.{newest}

-- the first of the rest is looked at
pub newest-drop : (name : List ℕ) (files : List (List ℕ × List ℕ)) (i : ℕ) (file : List ℕ × List ℕ) → i < length files → file ≡ get_or files i file → newest name (drop i files) ≡ cond (pointwise nat_eq name file.0) (Some file.1) (newest name (drop (i + 1) files))
newest-drop name files i file lt is = rw (add-one, drop-cons files i file lt, ← is, texts_ties name file.0) refl

pub appends_more : (a b c : Option (List ℕ)) (x y : List ℕ) → Appends a b x → Appends b c y → Appends a c (x ++ y)
appends_more None b c x y h k = tt
appends_more (Some a) None c x y h k = absurd h
appends_more (Some a) (Some b) None x y h k = absurd k
appends_more (Some a) (Some b) (Some c) x y h k = k ∙ ap (λ t. t ++ y) h ∙ append_assoc a x y

pub whole_more : (all done rest : List ℕ) (n : ℕ) → all ≡ done ++ rest → all ≡ (done ++ take n rest) ++ drop n rest
whole_more all done rest n e = rw (append_assoc, take-append-drop) e

pub appends_kept : (a b c : Option (List ℕ)) (x : List ℕ) → Appends a b x → Keeps b c → Appends a c x
appends_kept None b c x h k = tt
appends_kept (Some a) None c x h k = absurd h
appends_kept (Some a) (Some b) None x h k = absurd k
appends_kept (Some a) (Some b) (Some c) x h k = k ∙ h
