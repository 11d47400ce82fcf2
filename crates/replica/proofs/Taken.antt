-- What was taken can be let go again.
use Rattle.std.proofs.Common.{◌≡◌, ◌<◌, ◌↔◌, IsTrue, ℕ, Bool, false, List, Result, Ok, Err, inr, refl, sym, ◌∙◌, ap, length}
use Rattle.tg_text.specs.Limits.{most_link_bytes}
use Rattle.std.proofs.lemmas.Bool.{false≢true}
use Rattle.link_graph.specs.Held.{Held}
use Rattle.link_graph.specs.Taking.{Answers, HasText, IsTaken, Takes}
use Rattle.link_graph.specs.Webs.{without_last}
use Rattle.link_graph.specs.declared.took.Took.{Took}
use Rattle.link_graph.specs.declared.took.Took.TheVariants.{New, Waiting, Again}
use Rattle.link_graph.specs.declared.take_fault.TakeFault.{TakeFault}
use Rattle.link_graph.specs.declared.take_fault.TakeFault.TheVariants.{TooLong, BadText, OtherTeam, BadSignature, NameClash, Full, Memory}
use Rattle.link_graph.proofs.Exactly.{grown_by}

-- the test says that the text wasn't held before
pub not_again : (took : Took) (b : Bool) → IsTrue b ↔ (took ≡ Again) → b ≡ false → ¬ (took ≡ Again)
not_again took b is fails e = false≢true (sym fails ∙ is.1 e)

-- a text that wasn't held before
module _ (old new : Held) (bytes : List ℕ) (took : Took) (other : ¬ (took ≡ Again)) where
  pub not_held : (HasText old.links bytes → ◌≡◌ {A = Result Took TakeFault} (Ok took) (Ok Again)) → ¬ (HasText old.links bytes)
  not_held again has = other (let same : ◌≡◌ {A = Result Took TakeFault} (Ok took) (Ok Again) = again has in cc)

  takes : (t : Took) → ¬ (t ≡ Again) → IsTaken old new bytes t → Takes old new bytes t
  takes (New positions) differs is = is
  takes Waiting differs is = is
  takes Again differs is = absurd (differs refl)

  module _ (is : IsTaken old new bytes took) where
    taken : Takes old new bytes took
    taken = takes took other is

    pub some_held : 0 < length new.links
    some_held = (grown_by old new bytes took taken).0

    pub others_held : without_last new.links ≡ old.links
    others_held = (grown_by old new bytes took taken).1

    pub let_go : record new { links = without_last new.links } ≡ old
    let_go =
        let team = ap (λ (h : Held). h.team) taken.held in
        λ i. record { team = team i; links = others_held i }

-- a text that isn't held, and isn't too long, was taken, and let go for want of memory
pub lacks_memory : (old new : Held) (bytes : List ℕ) → ¬ (HasText old.links bytes) → ¬ (most_link_bytes < length bytes) → new ≡ old → Answers old new bytes (Err Memory)
lacks_memory old new bytes other short same = record {
  taken = tt;
  again = λ has. absurd (other has);
  fault = same;
  too_long = (λ e. absurd (let bad : ◌≡◌ {A = Result Took TakeFault} (Err Memory) (Err TooLong) = e in cc), λ long. absurd (short long));
  bad_text = record { only = λ e. absurd (let bad : ◌≡◌ {A = Result Took TakeFault} (Err Memory) (Err BadText) = e in cc); comes = λ cause. inr refl };
  other_team = record { only = λ e. absurd (let bad : ◌≡◌ {A = Result Took TakeFault} (Err Memory) (Err OtherTeam) = e in cc); comes = λ cause. inr refl };
  bad_signature = record { only = λ e. absurd (let bad : ◌≡◌ {A = Result Took TakeFault} (Err Memory) (Err BadSignature) = e in cc); comes = λ cause. inr refl };
  name_clash = λ n. record { only = λ e. absurd (let bad : ◌≡◌ {A = Result Took TakeFault} (Err Memory) (Err (NameClash n)) = e in cc); comes = λ cause. inr refl };
  full = λ held size. record { only = λ e. absurd (let bad : ◌≡◌ {A = Result Took TakeFault} (Err Memory) (Err (Full held size)) = e in cc); comes = λ cause. inr refl };
}

-- what was taken wasn't too long
pub not_long : (old new : Held) (bytes : List ℕ) (took : Took) → Answers old new bytes (Ok took) → ¬ (most_link_bytes < length bytes)
not_long old new bytes took is long = let bad : ◌≡◌ {A = Result Took TakeFault} (Ok took) (Err TooLong) = is.too_long.1 long in cc
