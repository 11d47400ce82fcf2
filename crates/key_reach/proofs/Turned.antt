-- One goes back along turned arrows, and finds from where a value is reached.
use Rattle.std.proofs.Common.{List, [], ◌∷◌, refl, sym, subst, inl, inr}
use Rattle.team_sets.specs.Members.{IsIn}
use Rattle.team_sets.specs.Closure.{Reaches, is_given, follows}
use Rattle.key_reach.specs.Graphs.{turned}
use Rattle.key_reach.proofs.Numbered.{in-map, of-map}

module _ {A : Type 0} (arrows : List (A × A)) where
  in-turned : (x y : A) → IsIn (x, y) arrows → IsIn (y, x) (turned arrows)
  in-turned x y k = in-map (λ a. (a.1, a.0)) (x, y) arrows k

  of-turned : (x y : A) → IsIn (y, x) (turned arrows) → IsIn (x, y) arrows
  of-turned x y k =
      let a = of-map (λ b. (b.1, b.0)) (y, x) arrows k in
      subst (λ p. IsIn p arrows) (λ i. ((a.2 i).1, (a.2 i).0)) a.1

  through : (given others : List A) → ((x : A) → IsIn x given → Reaches (turned arrows) others x) → (z : A) → Reaches (turned arrows) given z → Reaches (turned arrows) others z
  through given others all _ (is_given x k) = all x k
  through given others all _ (follows x y k r) = follows x y k (through given others all x r)

  one-step : (x y : A) → IsIn (x, y) arrows → (z : A) → IsIn z (x ∷ []) → Reaches (turned arrows) (y ∷ []) z
  one-step x y k z (inl e) = subst (λ w. Reaches (turned arrows) (y ∷ []) w) e (follows y x (in-turned x y k) (is_given y (inl refl)))
  one-step x y k z (inr j) = absurd j

  -- from where it is reached
  pub origin : (given : List A) (y : A) → Reaches arrows given y → (x : A) × IsIn x given × Reaches (turned arrows) (y ∷ []) x
  origin given _ (is_given x k) = (x, k, is_given x (inl refl))
  origin given _ (follows x y k r) =
      let before = origin given x r in
      (before.0, before.1, through (x ∷ []) (y ∷ []) (one-step x y k) before.0 before.2)

  -- what one comes to by going back reaches it
  pub back-reaches : (given : List A) (y x : A) → Reaches (turned arrows) (y ∷ []) x → Reaches arrows given x → Reaches arrows given y
  back-reaches given y _ (is_given x (inl e)) r = subst (λ z. Reaches arrows given z) (sym e) r
  back-reaches given y _ (is_given x (inr j)) r = absurd j
  back-reaches given y _ (follows u x k s) r = back-reaches given y u s (follows x u (of-turned x u k) r)
