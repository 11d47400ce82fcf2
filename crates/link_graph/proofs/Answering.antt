-- What a graph answers to a text, by what the text is.
use Rattle.std.proofs.Common.{◌≡◌, ◌<◌, ◌≤◌, ℕ, true, List, Result, Ok, Err, IsErrAnd, inl, inr, refl, sym, ◌∙◌, ap, subst, length, arith}
use Rattle.std.specs.List.{AllByRecursion}
use Rattle.std.proofs.lemmas.Bool.{false≢true}
use Rattle.std.proofs.lemmas.Result.{err_from_is_err_and}
use Rattle.tg_text.specs.Limits.{most_link_bytes}
use Rattle.team_sets.specs.Names.{Name, has_name}
use Rattle.team_sets.specs.Order.{names}
use Rattle.team_sets.proofs.Parts.{name_in}
use Rattle.team_sets.proofs.Pasts.{all_at}
use Rattle.team_model.specs.Judging.{name_of, prev_of}
use Rattle.team_model.specs.declared.terms.Link.{Link}
use Rattle.link_text.specs.Faults.{IsBadText, IsOfOther, IsUnverified}
use Rattle.link_text.specs.LinkText.{IsOfTeam, IsValid, Reads, proves, text}
use Rattle.link_text.specs.TeamReading.{FindsOfTeam}
use Rattle.link_text.specs.declared.fault.TeamLinkFault.{TeamLinkFault}
use Rattle.link_text.specs.declared.fault.TeamLinkFault.TheVariants as read
use Rattle.link_text.proofs.Proved.{one_link, one_verdict}
use Rattle.link_graph.specs.Causes.{IsCaused, IsRoomFault}
use Rattle.link_graph.specs.Faults.{fault_of}
use Rattle.link_graph.specs.Held.{Held}
use Rattle.link_graph.specs.Taking.{Answers, Clashes, HasSpace, HasText, IsFresh, IsFull, IsTaken}
use Rattle.link_graph.specs.declared.took.Took.{Took}
use Rattle.link_graph.specs.declared.took.Took.TheVariants.{Again}
use Rattle.link_graph.specs.declared.take_fault.TakeFault.{TakeFault}
use Rattle.link_graph.specs.declared.take_fault.TakeFault.TheVariants.{TooLong, BadText, OtherTeam, BadSignature, NameClash, Full, Memory}
use Rattle.link_graph.proofs.Exactly.{no_clash, not_full}

-- A result that has failed so is that fault.
pub failed : {T E : Type 0} (result : Result T E) (fault : E) → IsErrAnd result (λ other. other ≡ fault) → result ≡ Err fault
failed result fault is = let other = err_from_is_err_and result is in other.1 ∙ ap (λ f. Err f) other.2

-- The causes of a fault of reading are those of its being taken.
pub read_fault : (old : Held) (bytes : List ℕ) (fault : TeamLinkFault) → length bytes ≤ most_link_bytes → FindsOfTeam old.team bytes (Err fault) → IsCaused old bytes (fault_of fault)
read_fault old bytes read.TooLong short finds = finds.too_long.0 refl
read_fault old bytes read.BadText short finds = finds.bad_text.only refl
read_fault old bytes read.OtherTeam short finds = finds.other_team.only refl
read_fault old bytes read.BadSignature short finds = finds.bad_signature.only refl
read_fault old bytes read.Memory short finds = short

-- So are those of a link's finding no room.
pub room_fault : (old : Held) (bytes : List ℕ) (l : Link) (fault : TakeFault) → IsValid old.team bytes l → ¬ (HasText old.links bytes) → IsRoomFault old l fault → IsCaused old bytes fault
room_fault old bytes l TooLong valid new is = absurd is
room_fault old bytes l BadText valid new is = absurd is
room_fault old bytes l OtherTeam valid new is = absurd is
room_fault old bytes l BadSignature valid new is = absurd is
room_fault old bytes l (NameClash n) valid new is = record { link = l; valid = valid; other = new; taken = is.0; name = is.1 }
room_fault old bytes l (Full held size) valid new is = record { link = l; valid = valid; fresh = is.0; space = is.1; count = is.2; bytes_held = is.3 }
room_fault old bytes l Memory valid new is = absurd is

-- The text of a link is no bad text, and isn't too long.
module _ (bytes : List ℕ) (l : Link) (reads : Reads bytes l) where
  short : length bytes ≤ most_link_bytes
  short = subst (λ (t : List ℕ). length t ≤ most_link_bytes) (sym reads.is_text) reads.well_formed.fits

  not_long : ¬ (most_link_bytes < length bytes)
  not_long long = let fits = short in omega (arith, long, fits)

  not_bad : ¬ (IsBadText bytes)
  not_bad h = h.no_link l reads

  -- That of a link of the team is of no other team,
  not_other : (team : Name) → IsOfTeam team l → ¬ (IsOfOther team bytes)
  not_other team of h = h.other (subst (λ (x : Link). IsOfTeam team x) (one_link bytes l h.link reads h.reads) of)

  -- and that of one that verifies doesn't fail to.
  not_unverified : (team : Name) → proves l ≡ true → ¬ (IsUnverified team bytes)
  not_unverified team proved h = one_verdict bytes l h.link reads h.reads proved h.unproved

  same_name_held : (links : List Link) (k : Link) → Reads bytes k → has_name (names name_of links) l.name ≡ has_name (names name_of links) k.name
  same_name_held links k other = ap (λ (x : Link). has_name (names name_of links) x.name) (one_link bytes l k reads other)

module _ (old : Held) (bytes : List ℕ) where
  -- A text whose link isn't of the team, or doesn't verify, clashes with none and needs no room.
  none_valid : ((l : Link) → ¬ (IsValid old.team bytes l)) → ((n : Name) → ¬ (Clashes old bytes n)) × ((held size : ℕ) → ¬ (IsFull old bytes held size))
  none_valid none = (λ n h. none h.link h.valid, λ held size h. none h.link h.valid)

  -- A fault whose cause holds is the answer to a text that isn't held, and all stays.
  pub refused : (fault : TakeFault) → IsCaused old bytes fault → ¬ (HasText old.links bytes) → Answers old old bytes (Err fault)
  refused TooLong long new = record {
    taken = tt;
    again = λ has. absurd (new has);
    fault = refl;
    too_long = (λ _. long, λ _. refl);
    bad_text = record { only = λ e. absurd (cc); comes = λ h. absurd (let s = h.short in omega (arith, long, s)) };
    other_team = record { only = λ e. absurd (cc); comes = λ h. absurd (not_long bytes h.link h.reads long) };
    bad_signature = record { only = λ e. absurd (cc); comes = λ h. absurd (not_long bytes h.link h.reads long) };
    name_clash = λ n. record { only = λ e. absurd (cc); comes = λ h. absurd (not_long bytes h.link h.valid.reads long) };
    full = λ held size. record { only = λ e. absurd (cc); comes = λ h. absurd (not_long bytes h.link h.valid.reads long) };
  }
  refused BadText bad new = record {
    taken = tt;
    again = λ has. absurd (new has);
    fault = refl;
    too_long = (λ e. absurd (cc), λ long. absurd (let s = bad.short in omega (arith, long, s)));
    bad_text = record { only = λ e. bad; comes = λ h. inl refl };
    other_team = record { only = λ e. absurd (cc); comes = λ h. absurd (bad.no_link h.link h.reads) };
    bad_signature = record { only = λ e. absurd (cc); comes = λ h. absurd (bad.no_link h.link h.reads) };
    name_clash = λ n. record { only = λ e. absurd (cc); comes = λ h. absurd (bad.no_link h.link h.valid.reads) };
    full = λ held size. record { only = λ e. absurd (cc); comes = λ h. absurd (bad.no_link h.link h.valid.reads) };
  }
  refused OtherTeam is new =
      let none = none_valid (λ l valid. not_other bytes l valid.reads old.team valid.of_team is) in
      record {
        taken = tt;
        again = λ has. absurd (new has);
        fault = refl;
        too_long = (λ e. absurd (cc), λ long. absurd (not_long bytes is.link is.reads long));
        bad_text = record { only = λ e. absurd (cc); comes = λ h. absurd (not_bad bytes is.link is.reads h) };
        other_team = record { only = λ e. is; comes = λ h. inl refl };
        bad_signature = record { only = λ e. absurd (cc); comes = λ h. absurd (not_other bytes h.link h.reads old.team h.of_team is) };
        name_clash = λ n. record { only = λ e. absurd (cc); comes = λ h. absurd (none.0 n h) };
        full = λ held size. record { only = λ e. absurd (cc); comes = λ h. absurd (none.1 held size h) };
      }
  refused BadSignature is new =
      let none = none_valid (λ l valid. not_unverified bytes l valid.reads old.team valid.proved is) in
      record {
        taken = tt;
        again = λ has. absurd (new has);
        fault = refl;
        too_long = (λ e. absurd (cc), λ long. absurd (not_long bytes is.link is.reads long));
        bad_text = record { only = λ e. absurd (cc); comes = λ h. absurd (not_bad bytes is.link is.reads h) };
        other_team = record { only = λ e. absurd (cc); comes = λ h. absurd (not_other bytes is.link is.reads old.team is.of_team h) };
        bad_signature = record { only = λ e. is; comes = λ h. inl refl };
        name_clash = λ n. record { only = λ e. absurd (cc); comes = λ h. absurd (none.0 n h) };
        full = λ held size. record { only = λ e. absurd (cc); comes = λ h. absurd (none.1 held size h) };
      }
  refused (NameClash m) is new =
      let l = is.link in
      let reads = is.valid.reads in
      record {
        taken = tt;
        again = λ has. absurd (new has);
        fault = refl;
        too_long = (λ e. absurd (cc), λ long. absurd (not_long bytes l reads long));
        bad_text = record { only = λ e. absurd (cc); comes = λ h. absurd (not_bad bytes l reads h) };
        other_team = record { only = λ e. absurd (cc); comes = λ h. absurd (not_other bytes l reads old.team is.valid.of_team h) };
        bad_signature = record { only = λ e. absurd (cc); comes = λ h. absurd (not_unverified bytes l reads old.team is.valid.proved h) };
        name_clash = λ n. record {
          only = λ e. let same : m ≡ n = cc in subst (λ (k : Name). Clashes old bytes k) same is;
          comes = λ h. inl (ap (λ (k : Name). Err (NameClash k)) (is.name ∙ ap (λ (x : Link). x.name) (one_link bytes l h.link reads h.valid.reads) ∙ sym h.name));
        };
        full = λ held size. record {
          only = λ e. absurd (cc);
          comes = λ h. absurd (false≢true (sym h.fresh ∙ same_name_held bytes h.link h.valid.reads old.links l reads ∙ is.taken));
        };
      }
  refused (Full count many) is new =
      let l = is.link in
      let reads = is.valid.reads in
      record {
        taken = tt;
        again = λ has. absurd (new has);
        fault = refl;
        too_long = (λ e. absurd (cc), λ long. absurd (not_long bytes l reads long));
        bad_text = record { only = λ e. absurd (cc); comes = λ h. absurd (not_bad bytes l reads h) };
        other_team = record { only = λ e. absurd (cc); comes = λ h. absurd (not_other bytes l reads old.team is.valid.of_team h) };
        bad_signature = record { only = λ e. absurd (cc); comes = λ h. absurd (not_unverified bytes l reads old.team is.valid.proved h) };
        name_clash = λ n. record {
          only = λ e. absurd (cc);
          comes = λ h. absurd (false≢true (sym is.fresh ∙ same_name_held bytes l reads old.links h.link h.valid.reads ∙ h.taken));
        };
        full = λ held size. record {
          only = λ e.
              let counts : count ≡ held = cc in
              let sizes : many ≡ size = cc in
              subst (λ (n : ℕ). IsFull old bytes held n) sizes (subst (λ (n : ℕ). IsFull old bytes n many) counts is);
          comes = λ h.
              let counts : count ≡ held = is.count ∙ sym h.count in
              let sizes : many ≡ size = is.bytes_held ∙ sym h.bytes_held in
              inl (cc);
        };
      }
  refused Memory fits new = record {
    taken = tt;
    again = λ has. absurd (new has);
    fault = refl;
    too_long = (λ e. absurd (cc), λ long. absurd (omega (arith, long, fits)));
    bad_text = record { only = λ e. absurd (cc); comes = λ h. inr refl };
    other_team = record { only = λ e. absurd (cc); comes = λ h. inr refl };
    bad_signature = record { only = λ e. absurd (cc); comes = λ h. inr refl };
    name_clash = λ n. record { only = λ e. absurd (cc); comes = λ h. inr refl };
    full = λ held size. record { only = λ e. absurd (cc); comes = λ h. inr refl };
  }

  -- A valid link has no cause of a fault of reading.
  module _ (l : Link) (valid : IsValid old.team bytes l) (new : Held) (took : Took) (is : IsTaken old new bytes took)
      (again : HasText old.links bytes → took ≡ Again) (clash : (n : Name) → ¬ (Clashes old bytes n)) (full : (held size : ℕ) → ¬ (IsFull old bytes held size)) where
    answered : Answers old new bytes (Ok took)
    answered = record {
      taken = is;
      again = λ has. ap (λ (t : Took). Ok t) (again has);
      fault = tt;
      too_long = (λ e. absurd (cc), λ long. absurd (not_long bytes l valid.reads long));
      bad_text = record { only = λ e. absurd (cc); comes = λ h. absurd (not_bad bytes l valid.reads h) };
      other_team = record { only = λ e. absurd (cc); comes = λ h. absurd (not_other bytes l valid.reads old.team valid.of_team h) };
      bad_signature = record { only = λ e. absurd (cc); comes = λ h. absurd (not_unverified bytes l valid.reads old.team valid.proved h) };
      name_clash = λ n. record { only = λ e. absurd (cc); comes = λ h. absurd (clash n h) };
      full = λ held size. record { only = λ e. absurd (cc); comes = λ h. absurd (full held size h) };
    }

  -- A new link of the team, for which there is room, is taken.
  pub taken : (l : Link) → IsValid old.team bytes l → IsFresh old.links l → HasSpace old.team old.links l → ¬ (HasText old.links bytes) → (new : Held) (took : Took) → IsTaken old new bytes took
      → Answers old new bytes (Ok took)
  taken l valid fresh space other new took is = answered l valid new took is (λ has. absurd (other has)) (no_clash old bytes l valid fresh space) (not_full old bytes l valid fresh space)

  module _ (valid : AllByRecursion (λ l. IsValid old.team (text l) l) old.links) where
    held_valid : (has : HasText old.links bytes) → IsValid old.team bytes has.0
    held_valid has = subst (λ (b : List ℕ). IsValid old.team b has.0) has.2 (all_at (λ l. IsValid old.team (text l) l) old.links valid has.0 has.1)

    -- A text that is held isn't too long,
    pub long_is_new : most_link_bytes < length bytes → ¬ (HasText old.links bytes)
    long_is_new long has = not_long bytes has.0 (held_valid has).reads long

    -- and is answered so.
    pub held : HasText old.links bytes → Answers old old bytes (Ok Again)
    held has = answered has.0 (held_valid has) old Again (has, refl) (λ _. refl) (λ n h. h.other has)
        (λ count size h.
        false≢true (sym h.fresh ∙ same_name_held bytes h.link h.valid.reads old.links has.0 (held_valid has).reads ∙ name_in name_of prev_of old.links has.0 has.1 has.0.name refl))
