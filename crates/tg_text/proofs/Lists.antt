-- Lists and options by their parts.
use Rattle.std.proofs.Common.{◌≡◌, ℕ, zero, suc, ◌<◌, ◌==◌, Bool, true, false, ◌||◌, List, [], ◌∷◌, ◌++◌, length, Some, refl, true≢false, arith}
use Rattle.std.proofs.lemmas.Bool.{eqb-true}
use Rattle.tg_text.specs.Spelling.{AreBytes}

pub same_some : {X : Type 0} (x y : X) → Some x ≡ Some y → x ≡ y
same_some x y e = cc

pub head_is : (x y : ℕ) (xs ys : List ℕ) → x ∷ xs ≡ y ∷ ys → x ≡ y
head_is x y xs ys e = cc

pub tail_is : (x y : ℕ) (xs ys : List ℕ) → x ∷ xs ≡ y ∷ ys → xs ≡ ys
tail_is x y xs ys e = cc

pub same_list : (x y : ℕ) (xs ys : List ℕ) → x ≡ y → xs ≡ ys → x ∷ xs ≡ y ∷ ys
same_list x y xs ys h t = cc

pub is_nil : (bytes : List ℕ) → (length bytes == 0) ≡ true → bytes ≡ []
is_nil [] e = refl
is_nil (b ∷ bytes) e = absurd (let h : length (b ∷ bytes) ≡ 0 = eqb-true (length (b ∷ bytes)) 0 e in omega (arith, h))

pub neither : (b c : Bool) → (b || c) ≡ false → (b ≡ false) × (c ≡ false)
neither true c e = absurd (true≢false e)
neither false c e = (refl, e)

pub bytes_none : AreBytes []
bytes_none = λ i. omega arith

pub bytes_cons : (b : ℕ) (x : List ℕ) → b < 256 → AreBytes x → AreBytes (b ∷ x)
bytes_cons b x small are zero = small
bytes_cons b x small are (suc i) = are i

pub bytes_append : (x y : List ℕ) → AreBytes x → AreBytes y → AreBytes (x ++ y)
bytes_append [] y are others = others
bytes_append (b ∷ x) y are others = bytes_cons b (x ++ y) (are 0) (bytes_append x y (λ i. are (suc i)) others)
