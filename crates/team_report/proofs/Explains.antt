-- The text of a link by its name, from what is found of its place in the graph.
use Rattle.std.proofs.Common.{◌≡◌, ◌∙◌, ℕ, ◌+◌, ◌<◌, Bool, true, false, cond, List, Option, Some, None, Result, Ok, Err, IfOk, IfSome, refl, sym, add-one, ap, drop, drop-cons, subst, length, map, position, get_or, slice_get, option_map, arith}
use Rattle.std.specs.Option.{option_map_or}
use Rattle.std.specs.Cmp.Lexicographic.{bytes_decides}
use Rattle.std.proofs.lemmas.Bool.{false≢true}
use Rattle.std.proofs.lemmas.List.{length-map}
use Rattle.tg_text.specs.declared.memory.Memory.{Memory}
use Rattle.team_sets.specs.Ancestry.{height}
use Rattle.team_sets.specs.Names.{Name, has_name, same_name}
use Rattle.team_sets.specs.Members.{IsIn}
use Rattle.team_sets.specs.Order.{names}
use Rattle.team_sets.specs.OrderLaws.{IsSet}
use Rattle.team_sets.proofs.Decisions.{find_none, find_of}
use Rattle.team_sets.proofs.Distinct.{distinct-differ}
use Rattle.team_sets.proofs.Parts.{name_in}
use Rattle.team_sets.proofs.Pasts.{one_named, same_name-is}
use Rattle.team_model.specs.Judging.{lawful_verdict, name_of, order_of, prev_of, team_rules, unlawful_reason, verdict}
use Rattle.team_model.specs.declared.terms.Link.{Link}
use Rattle.team_model.specs.declared.terms.Verdict.{Verdict}
use Rattle.team_model.specs.declared.terms.Verdict.TheVariants.{Unlawful, Waiting}
use Rattle.link_graph.specs.Held.{arrived_of}
use Rattle.link_graph.proofs.Names.{get_within, place_named}
use Rattle.link_graph.proofs.Arrived.{at_links, at_order}
use Rattle.link_graph.proofs.Marks.{link_named}
use Rattle.link_graph.proofs.Placed.{connected_at}
use Rattle.team_report.specs.LogText.{is_connected}
use Rattle.team_report.specs.WhyText.{explained, link_named as held_named, why_named, why_text}
use Rattle.team_report.proofs.LineSteps.{judged_at}

-- the verdict of a position, as what is found there
pub verdict_found : (links : List Link) (p : ℕ) (v : Verdict) (vs : List Verdict) → vs ≡ map (verdict team_rules links) (arrived_of links) → v ≡ get_or vs p v
    → IfSome (slice_get (arrived_of links) p) (λ x. v ≡ verdict team_rules links x)
verdict_found links p v vs are found = go (slice_get (arrived_of links) p) refl
  where
    go : (o : Option Link) → slice_get (arrived_of links) p ≡ o → IfSome o (λ x. v ≡ verdict team_rules links x)
    go None at = tt
    go (Some x) at = judged_at links p x v vs at are found

-- a name that a held link has
pub never_none : (links : List Link) (n : Name) → has_name (names name_of links) n ≡ true → held_named links n ≡ None → ⊥
never_none links n h none =
    let x = one_named name_of links n h in
    false≢true (sym (find_none (λ y. same_name n y.name) links none x.0 x.1) ∙ (bytes_decides n (x.0).name).1 (sym x.2))

-- the next link has the name, or one of those after it
named_next : (n : Name) (links : List Link) (i : ℕ) (x : Link) → i < length links → x ≡ get_or links i x → held_named (drop i links) n ≡ cond (same_name n x.name) (Some x) (held_named (drop (i + 1) links) n)
named_next n links i x lt at = rw (add-one, drop-cons links i x lt, ← at) refl

pub named_here : (n : Name) (links : List Link) (i : ℕ) (x : Link) → i < length links → x ≡ get_or links i x → same_name n x.name ≡ true → held_named (drop i links) n ≡ held_named links n
    → Some x ≡ held_named links n
named_here n links i x lt at has so = ap (λ (b : Bool). cond b (Some x) (held_named (drop (i + 1) links) n)) (sym has) ∙ sym (named_next n links i x lt at) ∙ so

pub named_later : (n : Name) (links : List Link) (i : ℕ) (x : Link) → i < length links → x ≡ get_or links i x → same_name n x.name ≡ false → held_named (drop i links) n ≡ held_named links n
    → held_named (drop (i + 1) links) n ≡ held_named links n
named_later n links i x lt at other so = ap (λ (b : Bool). cond b (Some x) (held_named (drop (i + 1) links) n)) (sym other) ∙ sym (named_next n links i x lt at) ∙ so

-- the place of a name is that of a connected link
pub position_within : (links : List Link) (n : Name) (p : ℕ) → position (same_name n) (names name_of (arrived_of links)) ≡ Some p → p < length (arrived_of links)
position_within links n p at =
    let within : p < length (names name_of (arrived_of links)) = get_within (names name_of (arrived_of links)) p n (place_named n (names name_of (arrived_of links)) p at) in
    omega (arith, within, length-map (arrived_of links) name_of)

module _ (links : List Link) (set_of : IsSet name_of links) where
  named_is : (n : Name) (x : Link) → IsIn x links → x.name ≡ n → held_named links n ≡ Some x
  named_is n x k same = go (held_named links n) refl
    where
      go : (o : Option Link) → held_named links n ≡ o → o ≡ Some x
      go None e = absurd (false≢true (sym (find_none (λ y. same_name n y.name) links e x k) ∙ (bytes_decides n x.name).1 (sym same)))
      go (Some y) e =
          let of = find_of (λ z. same_name n z.name) links y e in
          ap (λ z. Some z) (distinct-differ name_of links set_of y x of.0 k (sym (same_name-is n y.name of.1) ∙ sym same))

  -- the text of the link of a position, with the height and the verdict that were found
  connected_text : (p : ℕ) (x : Link) (h : ℕ) (v : Verdict) → slice_get (arrived_of links) p ≡ Some x → h ≡ height name_of prev_of links x → v ≡ verdict team_rules links x
      → explained x (Some h) v ≡ why_text links x
  connected_text p x h v at high judged =
      let there : is_connected links x ≡ true = name_in name_of prev_of (order_of links) x (at_order links set_of p x at) x.name refl in
      (λ i. explained x (Some (high i)) (judged i)) ∙ ap (λ (b : Bool). explained x (cond b (Some (height name_of prev_of links x)) None) (verdict team_rules links x)) (sym there)

  pub position_text : (p : ℕ) (x : Link) (h : ℕ) (v : Verdict) (r : Result (List ℕ) Memory) → slice_get (arrived_of links) p ≡ Some x
      → IfSome (slice_get (arrived_of links) p) (λ y. h ≡ height name_of prev_of links y) → IfSome (slice_get (arrived_of links) p) (λ y. v ≡ verdict team_rules links y)
      → IfOk r (λ out. out ≡ explained x (Some h) v) → IfOk r (λ out. IfSome (slice_get (arrived_of links) p) (λ y. out ≡ why_text links y))
  position_text p x h v (Err memory) at high judged said = tt
  position_text p x h v (Ok out) at high judged said =
      let tall = subst (λ (o : Option Link). IfSome o (λ y. h ≡ height name_of prev_of links y)) at high in
      let one = subst (λ (o : Option Link). IfSome o (λ y. v ≡ verdict team_rules links y)) at judged in
      subst (λ (o : Option Link). IfSome o (λ y. out ≡ why_text links y)) (sym at) (said ∙ connected_text p x h v at tall one)

  pub connected_why : (n : Name) (p : ℕ) (r : Result (List ℕ) Memory) → position (same_name n) (names name_of (arrived_of links)) ≡ Some p
      → IfOk r (λ out. IfSome (slice_get (arrived_of links) p) (λ x. out ≡ why_text links x)) → IfOk r (λ out. why_named links n ≡ Some out)
  connected_why n p (Err memory) at h = tt
  connected_why n p (Ok out) at h =
      let x = link_named (arrived_of links) p n (place_named n (names name_of (arrived_of links)) p at) in
      let told : out ≡ why_text links x.0 = subst (λ (o : Option Link). IfSome o (λ y. out ≡ why_text links y)) x.1 h in
      ap (λ (o : Option Link). option_map (why_text links) o) (named_is n x.0 (at_links links set_of p x.0 x.1) x.2) ∙ ap (λ (t : List ℕ). Some t) (sym told)

  -- a held link without a position waits, and has no height
  pub waiting_why : (n : Name) (x : Link) (r : Result (List ℕ) Memory) → position (same_name n) (names name_of (arrived_of links)) ≡ None → held_named links n ≡ Some x
      → IfOk r (λ out. out ≡ explained x None Waiting) → IfOk r (λ out. why_named links n ≡ Some out)
  waiting_why n x (Err memory) none at h = tt
  waiting_why n x (Ok out) none at h =
      let of = find_of (λ z. same_name n z.name) links x at in
      let name : n ≡ x.name = same_name-is n x.name of.1 in
      let apart : is_connected links x ≡ false = sym (connected_at links set_of x.name None (ap (λ (m : Name). position (same_name m) (names name_of (arrived_of links))) (sym name) ∙ none)) in
      ap (λ (o : Option Link). option_map (why_text links) o) at
      ∙ ap (λ (b : Bool). Some (explained x (cond b (Some (height name_of prev_of links x)) None)
      (cond b (option_map_or (λ r. Unlawful r) (unlawful_reason team_rules links x) (lawful_verdict team_rules links x)) Waiting))) apart
      ∙ ap (λ (t : List ℕ). Some t) (sym h)
