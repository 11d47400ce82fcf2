-- Rounds of a meeting, from its start on.
use Rattle.std.proofs.Common.{◌≡◌, ◌≤◌, ◌<◌, ◌+◌, ◌==◌, ℕ, zero, suc, Bool, true, false, not, List, [], ◌∷◌, ◌++◌, length, length-append, append-nil, append_assoc, refl, sym, ◌∙◌, ap, subst, arith}
use Rattle.std.specs.List.{concat}
use Rattle.std.proofs.lemmas.Bool.{eqb-true, false≢true, not-false}
use Rattle.sha2.specs.Hashers.{Holds256}
use Rattle.sha2.specs.Sha256.{sha256}
use Rattle.link_graph.specs.Held.{Held}
use Rattle.head_sync.specs.Meetings.{AreRounds, End, HaveMet, IsMet, IsTurn, meeting_end}
use Rattle.head_sync.specs.Sessions.{Progress, greeting_of, started}
use Rattle.head_sync.specs.Waiting.{IsLighter, IsPassedOn, TakesTurn, weight}
use Rattle.head_sync.specs.declared.meeting.Met.{Met}
use Rattle.head_sync.specs.declared.meeting.Passed.{Passed}
use Rattle.head_sync.proofs.ReadParts.{is_nil}

-- what the first turns and rounds come to is what the meeting does
pub record IsGoing (k m : Held) (one two : End) (passed : List (List ℕ)) : Type 0 where
  pub goes : (r : ℕ) (last other : End) (rest : List (List ℕ)) → AreRounds r one two last other rest → HaveMet k m last other (passed ++ rest)

pub starts : (k m : Held) → IsGoing k m (meeting_end k m) (meeting_end m k) []
starts k m = record { goes = λ r last other rest rounds. (r, rounds) }

module _ (k m : Held) (one two one2 two2 two3 one3 : End) (passed p q : List (List ℕ)) where
  -- one more round
  pub goes_on : IsGoing k m one two passed → 0 < length one.inbox + length two.inbox → IsTurn one two one2 two2 p → IsTurn two2 one2 two3 one3 q
      → IsGoing k m one3 two3 (passed ++ (p ++ q))
  goes_on g some t u = record {
    goes = λ r last other rest rounds.
        subst (λ (all : List (List ℕ)). HaveMet k m last other all)
        (ap (λ (x : List (List ℕ)). passed ++ x) (sym (append_assoc p q rest)) ∙ sym (append_assoc passed (p ++ q) rest))
        (g.goes (suc r) last other (p ++ (q ++ rest)) (some, (one2, two2, p, t, (two3, one3, q, u, (rest, rounds, refl)))));
  }

-- where no message waits, both have met
pub have_met : (k m : Held) (one two : End) (passed : List (List ℕ)) → IsGoing k m one two passed → one.inbox ≡ [] → two.inbox ≡ [] → HaveMet k m one two passed
have_met k m one two passed g e f = subst (λ (all : List (List ℕ)). HaveMet k m one two all) (append-nil passed) (g.goes zero one two [] (e, f, refl, refl, refl))

same_end : (x y : End) → x.session ≡ y.session → x.held ≡ y.held → x.inbox ≡ y.inbox → x ≡ y
same_end x y s h b = λ i. record { session = s i; held = h i; inbox = b i }

-- a turn of an end, as the meeting has it
turn_of : (s new t : Progress) (k kept m : Held) (inbox left box boxed now : List (List ℕ)) → TakesTurn s k inbox new kept left box boxed now
    → IsTurn (record { session = s; held = k; inbox = inbox }) (record { session = t; held = m; inbox = box }) (record { session = new; held = kept; inbox = left }) (record { session = t; held = m; inbox = boxed }) now
turn_of s new t k kept m [] left box boxed now (e, f, l, b, p) = (
  same_end (record { session = new; held = kept; inbox = left }) (record { session = s; held = k; inbox = [] }) e f l,
  ap (λ (x : List (List ℕ)). record { session = t; held = m; inbox = x }) b,
  p,
)
turn_of s new t k kept m (x ∷ xs) left box boxed now (sent, hears, l, b, p) = (sent, hears, l, ap (λ (x : List (List ℕ)). record { session = t; held = m; inbox = x }) b, p)

concat_more : (p q : List (List ℕ)) → concat (p ++ q) ≡ concat p ++ concat q
concat_more [] q = refl
concat_more (x ∷ p) q = ap (λ (t : List ℕ). x ++ t) (concat_more p q) ∙ sym (append_assoc x (concat p) (concat q))

-- a meeting under way: what passed is counted and hashed, and less and less is left
pub record IsUnderWay (k m : Held) (s t : Progress) (one two : Held) (box other : List (List ℕ)) (counted : Passed) : Type 0 where
  pub passed : List (List ℕ)
  pub going : IsGoing k m (record { session = s; held = one; inbox = box }) (record { session = t; held = two; inbox = other }) passed
  pub count : counted.count ≡ length passed
  pub hasher : Holds256 counted.hasher (concat passed)
  pub light : weight s (length box) + weight t (length other) + counted.count ≤ 131090

-- at its start
pub under_way : (k m : Held) (counted : Passed) → counted.count ≡ 0 → Holds256 counted.hasher [] → IsUnderWay k m started started k m (greeting_of m ∷ []) (greeting_of k ∷ []) counted
under_way k m counted none hasher = record { passed = []; going = starts k m; count = none; hasher = hasher; light = omega (arith, none) }

pub begun : (k m : Held) (s t : Progress) (box other : List (List ℕ)) (counted : Passed) → s ≡ started → t ≡ started → box ≡ greeting_of m ∷ [] → other ≡ greeting_of k ∷ [] → counted.count ≡ 0
    → Holds256 counted.hasher [] → IsUnderWay k m s t k m box other counted
begun k m s t box other counted e f b o none hasher =
    subst (λ (x : Progress). IsUnderWay k m x t k m box other counted) (sym e) (subst (λ (x : Progress). IsUnderWay k m started x k m box other counted) (sym f)
    (subst (λ (x : List (List ℕ)). IsUnderWay k m started started k m x other counted) (sym b)
    (subst (λ (x : List (List ℕ)). IsUnderWay k m started started k m (greeting_of m ∷ []) x counted) (sym o) (under_way k m counted none hasher))))

-- whether a message waits
pub some_waits : (box : List (List ℕ)) (b : Bool) → b ≡ not (length box == 0) → b ≡ true → 0 < length box
some_waits [] b e f = absurd (false≢true (sym e ∙ f))
some_waits (x ∷ box) b e f = omega arith

pub none_waits : (box : List (List ℕ)) (b : Bool) → b ≡ not (length box == 0) → b ≡ false → box ≡ []
none_waits box b e f = is_nil box (eqb-true (length box) 0 (not-false (length box == 0) (sym e ∙ f)))

module _ (k m : Held) (s s2 t t2 : Progress) (one one2 two two2 : Held) (box box2 box3 other other2 other3 p q : List (List ℕ)) (counted counted2 counted3 : Passed) where
  -- a message passes in a round
  passes_some : 0 < length box + length other → TakesTurn s one box s2 one2 box2 other other2 p → TakesTurn t two other2 t2 two2 other3 box2 box3 q → 0 < length p + length q
  passes_some some mine theirs = go box refl mine
    where
      second : (b : List (List ℕ)) → 0 < length b → TakesTurn t two b t2 two2 other3 box2 box3 q → 0 < length q
      second [] least turn = absurd (omega (arith, least))
      second (x ∷ xs) least turn = let e = ap length turn.4 in omega (arith, e)

      go : (b : List (List ℕ)) → box ≡ b → TakesTurn s one b s2 one2 box2 other other2 p → 0 < length p + length q
      go [] e turn =
          let none = ap length e in
          let same = ap length turn.3 in
          let least = second other2 (omega (arith, some, none, same)) theirs in
          omega (arith, least)
      go (x ∷ xs) e turn = let one_passed = ap length turn.4 in omega (arith, one_passed)

  -- a round: the one end takes its turn, and then the other
  module _ (before : IsUnderWay k m s t one two box other counted) (some : 0 < length box + length other)
      (mine : TakesTurn s one box s2 one2 box2 other other2 p) (theirs : TakesTurn t two other2 t2 two2 other3 box2 box3 q) (count : IsPassedOn counted counted2 p)
      (more : IsPassedOn counted2 counted3 q) (lighter : IsLighter s box s2 box2 other other2 p) (less : IsLighter t other2 t2 other3 box2 box3 q) where
    pub round : IsUnderWay k m s2 t2 one2 two2 box3 other3 counted3
    round = record {
      passed = before.passed ++ (p ++ q);
      going =
          goes_on k m (record { session = s; held = one; inbox = box }) (record { session = t; held = two; inbox = other }) (record { session = s2; held = one2; inbox = box2 })
          (record { session = t; held = two; inbox = other2 }) (record { session = t2; held = two2; inbox = other3 }) (record { session = s2; held = one2; inbox = box3 }) before.passed p q before.going
          some (turn_of s s2 t one one2 two box box2 other other2 p mine) (turn_of t t2 s2 two two2 one2 other2 other3 box2 box3 q theirs);
      count =
          let a = before.count in let b = count.count in let c = more.count in
          let size = length-append before.passed (p ++ q) in let part = length-append p q in
          omega (arith, a, b, c, size, part);
      hasher =
          subst (λ (x : List ℕ). Holds256 counted3.hasher x)
          (append_assoc (concat before.passed) (concat p) (concat q) ∙ ap (λ (x : List ℕ). concat before.passed ++ x) (sym (concat_more p q)) ∙ sym (concat_more before.passed (p ++ q)))
          (more.hasher (concat before.passed ++ concat p) (count.hasher (concat before.passed) before.hasher));
      light = let a = before.light in let b = count.count in let c = more.count in omega (arith, a, b, c, lighter, less);
    }

    -- there is less to do then
    pub round_lighter : weight s2 (length box3) + weight t2 (length other3) < weight s (length box) + weight t (length other)
    round_lighter = let least = passes_some some mine theirs in omega (arith, least, lighter, less)

-- where no message waits, this is what is answered
module _ (k m : Held) (s t : Progress) (one two : Held) (box other : List (List ℕ)) (counted : Passed) where
  pub meets : IsUnderWay k m s t one two box other counted → box ≡ [] → other ≡ [] → (met : Met) → met.messages ≡ counted.count → ((b : List ℕ) → Holds256 counted.hasher b → met.digest ≡ sha256 b)
      → met.refused_by_first ≡ s.refused → met.refused_by_second ≡ t.refused → IsMet k m one two met
  meets u none empty met messages digest first second = record {
    one = record { session = s; held = one; inbox = box };
    two = record { session = t; held = two; inbox = other };
    passed = u.passed;
    meeting = have_met k m (record { session = s; held = one; inbox = box }) (record { session = t; held = two; inbox = other }) u.passed u.going none empty;
    first = refl;
    second = refl;
    count = messages ∙ u.count;
    digest = digest (concat u.passed) u.hasher;
    refused_first = first;
    refused_second = second;
  }
