-- Two lists of the same links have the same texts.
use Rattle.std.proofs.Common.{◌≡◌, ◌∙◌, ℕ, not, cond, List, ◌++◌, Option, Some, None, refl, sym, ap, filter, flat_map, option_map}
use Rattle.std.proofs.lemmas.Bool.{false≢true}
use Rattle.std.proofs.lemmas.Grind.{flat_map-append}
use Rattle.team_sets.specs.Names.{Name, ascending, has_name, name_lt, same_name}
use Rattle.team_sets.specs.Members.{HaveSameMembers, IsIn}
use Rattle.team_sets.specs.Order.{names}
use Rattle.team_sets.specs.OrderLaws.{IsSet}
use Rattle.team_sets.specs.SortedLaws.{by_names}
use Rattle.team_sets.proofs.Ancestors.{in_links}
use Rattle.team_sets.proofs.Decisions.{find_none, find_of}
use Rattle.team_sets.proofs.Distinct.{distinct-differ}
use Rattle.team_sets.proofs.OrderLeast.{in_filter, of_filter}
use Rattle.team_sets.proofs.Pasts.{same_name-is}
use Rattle.team_sets.proofs.SameSet.{height-same, set-filter}
use Rattle.team_sets.proofs.Sorted.{ascending-members, ascending-of_set, names-strict, set-apart}
use Rattle.team_model.specs.Judging.{name_of, order_of, prev_of, team_rules}
use Rattle.team_model.specs.JudgingLaws.{MeanSame}
use Rattle.team_model.specs.declared.terms.Link.{Link}
use Rattle.team_model.specs.declared.terms.Verdict.{Verdict}
use Rattle.link_graph.specs.Heads.{is_parent_in}
use Rattle.team_report.specs.HeadsText.{head_line, heads_text}
use Rattle.team_report.specs.LogText.{is_connected, judged_line, log_line, log_text, waiting_links}
use Rattle.team_report.specs.TextLaws.{HaveSameTexts}
use Rattle.team_report.specs.WhyText.{explained, link_named, why_text}
use Rattle.team_report.proofs.Waits.{lines_alike}

module _ (links others : List Link) (d : IsSet name_of links) (e : IsSet name_of others) (same : HaveSameMembers links others) (means : MeanSame team_rules links others) where
  connected_same : (x : Link) → is_connected links x ≡ is_connected others x
  connected_same x = ap (λ (o : List Link). has_name (names name_of o) x.name) means.orders

  line_same : (x : Link) → IsIn x links → log_line links x ≡ log_line others x
  line_same x k = ap (λ (v : Verdict). judged_line x v) (means.verdicts x k)

  waiting_to : (x : Link) → IsIn x (filter (λ y. not (is_connected links y)) links) → IsIn x (filter (λ y. not (is_connected others y)) others)
  waiting_to x k =
      let of = of_filter (λ y. not (is_connected links y)) x links k in
      in_filter (λ y. not (is_connected others y)) x others (same.forth x of.0) (ap not (sym (connected_same x)) ∙ of.1)

  waiting_back : (x : Link) → IsIn x (filter (λ y. not (is_connected others y)) others) → IsIn x (filter (λ y. not (is_connected links y)) links)
  waiting_back x k =
      let of = of_filter (λ y. not (is_connected others y)) x others k in
      in_filter (λ y. not (is_connected links y)) x links (same.back x of.0) (ap not (connected_same x) ∙ of.1)

  waiting_same : waiting_links links ≡ waiting_links others
  waiting_same =
      ascending-of_set (by_names name_of) (names-strict name_of) (filter (λ y. not (is_connected links y)) links) (filter (λ y. not (is_connected others y)) others)
      (set-apart name_of (filter (λ y. not (is_connected links y)) links) (set-filter name_of (λ y. not (is_connected links y)) links d))
      (set-apart name_of (filter (λ y. not (is_connected others y)) others) (set-filter name_of (λ y. not (is_connected others y)) others e))
      (record { forth = waiting_to; back = waiting_back })

  of_waiting : (x : Link) → IsIn x (waiting_links links) → IsIn x links
  of_waiting x k =
      (of_filter (λ y. not (is_connected links y)) x links ((ascending-members (by_names name_of) (filter (λ y. not (is_connected links y)) links)).forth x k)).0

  log_same : log_text links ≡ log_text others
  log_same =
      flat_map-append (log_line links) (order_of links) (waiting_links links)
      ∙ (λ i. lines_alike (log_line links) (log_line others) (order_of links) (λ x k. line_same x (in_links name_of prev_of links (distinct-differ name_of links d) x k)) i
      ++ lines_alike (log_line links) (log_line others) (waiting_links links) (λ x k. line_same x (of_waiting x k)) i)
      ∙ (λ i. flat_map (log_line others) (means.orders i) ++ flat_map (log_line others) (waiting_same i))
      ∙ sym (flat_map-append (log_line others) (order_of others) (waiting_links others))

  heads_same : heads_text links ≡ heads_text others
  heads_same = ap (λ (o : List Link). flat_map head_line (ascending name_lt (filter (λ n. not (is_parent_in o n)) (names name_of o)))) means.orders

  why_same : (x : Link) → IsIn x links → why_text links x ≡ why_text others x
  why_same x k = λ i. explained x (cond (connected_same x i) (Some (height-same name_of prev_of links others same d e x i)) None) (means.verdicts x k i)

  named_same : (n : Name) (a b : Option Link) → link_named links n ≡ a → link_named others n ≡ b → option_map (why_text links) a ≡ option_map (why_text others) b
  named_same n None None f g = refl
  named_same n (Some x) None f g =
      let of = find_of (λ y. same_name n y.name) links x f in
      absurd (false≢true (sym (find_none (λ y. same_name n y.name) others g x (same.forth x of.0)) ∙ of.1))
  named_same n None (Some y) f g =
      let of = find_of (λ z. same_name n z.name) others y g in
      absurd (false≢true (sym (find_none (λ z. same_name n z.name) links f y (same.back y of.0)) ∙ of.1))
  named_same n (Some x) (Some y) f g =
      let here = find_of (λ z. same_name n z.name) links x f in
      let there = find_of (λ z. same_name n z.name) others y g in
      let one : x ≡ y = distinct-differ name_of links d x y here.0 (same.back y there.0) (sym (same_name-is n x.name here.1) ∙ same_name-is n y.name there.1) in
      ap (λ (t : List ℕ). Some t) (why_same x here.0 ∙ ap (why_text others) one)

  pub texts_same : HaveSameTexts links others
  texts_same = record { log = log_same; heads = heads_same; why = λ n. named_same n (link_named links n) (link_named others n) refl refl }
