-- What reading a link of a team answers, once the signature is asked.
use Rattle.std.proofs.Common.{◌≡◌, ◌<◌, ◌≤◌, ℕ, true, false, List, length, Ok, Err, inl, refl, subst, arith}
use Rattle.tg_text.specs.Limits.{most_link_bytes}
use Rattle.team_sets.specs.Names.{Name}
use Rattle.team_model.specs.declared.terms.Link.{Link}
use Rattle.link_text.specs.LinkText.{IsOfTeam, Reads, proves}
use Rattle.link_text.specs.TeamReading.{FindsOfTeam}
use Rattle.link_text.specs.declared.fault.TeamLinkFault.TheVariants.{BadSignature}
use Rattle.link_text.proofs.Proved.{one_link, one_verdict}

module _ (team : Name) (bytes : List ℕ) (short : length bytes ≤ most_link_bytes) (l : Link) (reads : Reads bytes l) (of : IsOfTeam team l) where
  not_long : most_link_bytes < length bytes → ⊥
  not_long long = omega (arith, long, short)

  not_other : (k : Link) → Reads bytes k → ¬ (IsOfTeam team k) → ⊥
  not_other k is other = other (subst (λ (x : Link). IsOfTeam team x) (one_link bytes l k reads is) of)

  pub unverified : proves l ≡ false → FindsOfTeam team bytes (Err BadSignature)
  unverified unproved = record {
    found = tt;
    only = λ k valid. absurd (one_verdict bytes k l valid.reads reads valid.proved unproved);
    too_long = (λ e. absurd (cc), λ long. absurd (not_long long));
    bad_text = record { only = λ e. absurd (cc); comes = λ h. absurd (h.no_link l reads) };
    other_team = record { only = λ e. absurd (cc); comes = λ h. absurd (not_other h.link h.reads h.other) };
    bad_signature = record { only = λ e. record { link = l; reads = reads; of_team = of; unproved = unproved }; comes = λ h. inl refl };
  }

  pub verified : proves l ≡ true → FindsOfTeam team bytes (Ok l)
  verified proved = record {
    found = record { reads = reads; of_team = of; proved = proved };
    only = λ k valid. one_link bytes l k reads valid.reads;
    too_long = (λ e. absurd (cc), λ long. absurd (not_long long));
    bad_text = record { only = λ e. absurd (cc); comes = λ h. absurd (h.no_link l reads) };
    other_team = record { only = λ e. absurd (cc); comes = λ h. absurd (not_other h.link h.reads h.other) };
    bad_signature = record { only = λ e. absurd (cc); comes = λ h. absurd (one_verdict bytes l h.link reads h.reads proved h.unproved) };
  }
