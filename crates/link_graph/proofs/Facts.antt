-- What a graph knows of its links.
use Rattle.std.proofs.Common.{◌≡◌, ◌+◌, ◌-◌, ◌<◌, ◌≤◌, ℕ, zero, suc, List, [], ◌∷◌, ◌++◌, Option, Some, None, refl, sym, ◌∙◌, ap, subst, length, length-append, map, slice_get, position, arith}
use Rattle.std.specs.List.{AllByRecursion}
use Rattle.std.specs.Map.{keys_of}
use Rattle.std.proofs.lemmas.List.Quantifiers.{position-Some}
use Rattle.sha2.specs.Sha256.{sha256}
use Rattle.tg_text.specs.Limits.{most_file_bytes, most_link_bytes, most_links}
use Rattle.team_sets.specs.Names.{Name, same_name}
use Rattle.team_sets.specs.Order.{names}
use Rattle.team_sets.specs.OrderLaws.{IsSet}
use Rattle.team_sets.proofs.Ancestors.{in_at, order_first}
use Rattle.team_sets.proofs.Arrivals.{arrived_ordered, first_set}
use Rattle.team_sets.proofs.Distinct.{distinct-differ}
use Rattle.team_sets.proofs.Pasts.{all_at, all_more}
use Rattle.team_model.specs.Judging.{name_of, prev_of, order_of}
use Rattle.team_model.specs.declared.terms.Link.{Link}
use Rattle.link_text.specs.LinkText.{text, IsValid}
use Rattle.link_text.specs.TeamFile.{file_text, header}
use Rattle.link_graph.specs.Heads.{heads_after, heads_of}
use Rattle.link_graph.specs.Held.{Held, arrived_of}
use Rattle.link_graph.specs.Sizes.{frame_length}
use Rattle.link_graph.specs.Taking.{HasSpace}
use Rattle.link_graph.specs.Webs.{IsConnecting, IsWeb, without_last}
use Rattle.link_graph.specs.declared.web.Web.{Web}
use Rattle.link_graph.proofs.Fitting.{keys_linked}
use Rattle.link_graph.proofs.HeadNames.{heads_arrived}
use Rattle.link_graph.proofs.NextOnes.{split_last}
use Rattle.link_graph.proofs.Sizing.{size_push}
use Rattle.link_graph.proofs.Webbing.{arrived_within, count_of}

pub heads_are : (links : List Link) → IsSet name_of links → heads_after (arrived_of links) ≡ heads_of links
heads_are links set =
    let is = arrived_ordered name_of prev_of links set in
    heads_arrived links (arrived_of links) is.arranged.parents_first
    (first_set name_of prev_of [] (order_of links) (order_first name_of prev_of links (distinct-differ name_of links set))) is.members

pub keys_arrived : (web : Web) (placed : List Link) → IsConnecting web placed → keys_of web.connected ≡ names name_of placed
keys_arrived web placed is = sym (keys_linked web.holding web.connected is.entries) ∙ ap (λ (l : List Link). names name_of l) is.linked

pub order_is : (links : List Link) → IsSet name_of links → order_of (arrived_of links) ≡ order_of links
order_is links set = (arrived_ordered name_of prev_of links set).same

pub connected_count : (web : Web) → IsWeb web → length web.connected ≡ length (arrived_of web.holding)
connected_count web is = count_of web.holding (arrived_of web.holding) web.connected (length web.connected) is.connected.entries is.connected.linked refl

pub connected_few : (web : Web) → IsWeb web → length web.connected ≤ most_links
connected_few web is = let count = connected_count web is in let within = arrived_within web.holding is.set in let few = is.few in omega (arith, count, within, few)

pub position_few : (n : Name) (ns : List Name) (i : ℕ) → position (same_name n) ns ≡ Some i → i < length ns
position_few n ns i e = (position-Some (same_name n) ns i n e).0

-- the link that came last
last_valid : (team : Name) (links : List Link) → 0 < length links → AllByRecursion (λ l. IsValid team (text l) l) links
    → (x : Link) × (links ≡ without_last links ++ x ∷ []) × IsValid team (text x) x × (slice_get links (length links - 1) ≡ Some x)
last_valid team links some valid =
    let x = split_last links some in
    (x.0, x.1, all_at (λ l. IsValid team (text l) l) links valid x.0 (in_at links (length links - 1) x.0 x.2), x.2)

sizes_get : (links : List Link) (k : ℕ) (x : Link) (size : ℕ) → slice_get links k ≡ Some x → slice_get (map (λ (l : Link). length (text l)) links) k ≡ Some size → size ≡ length (text x)
sizes_get [] k x size e f = absurd (let bad : ◌≡◌ {A = Option Link} None (Some x) = e in cc)
sizes_get (y ∷ ys) zero x size e f =
    let same : y ≡ x = cc in
    let long : length (text y) ≡ size = cc in
    sym long ∙ ap (λ (l : Link). length (text l)) same
sizes_get (y ∷ ys) (suc k) x size e f = sizes_get ys k x size e f

all_front : (P : Link → Type 0) (links : List Link) (x : Link) → AllByRecursion P (links ++ x ∷ []) → AllByRecursion P links
all_front P [] x h = tt
all_front P (y ∷ ys) x h = (h.0, all_front P ys x h.1)

module _ (team : Name) (links : List Link) (size : ℕ) (some : 0 < length links) (valid : AllByRecursion (λ l. IsValid team (text l) l) links)
    (at : slice_get (map (λ (l : Link). length (text l)) links) (length links - 1) ≡ Some size) where
  -- its text isn't too long
  pub last_short : size ≤ most_link_bytes
  last_short =
      let x = last_valid team links some valid in
      let is : size ≡ length (text x.0) = sizes_get links (length links - 1) x.0 size x.3 at in
      let fits = x.2.reads.well_formed.fits in
      omega (arith, is, fits)

  -- without it the file is shorter by its frame
  pub last_size : length (file_text team links) ≡ length (file_text team (without_last links)) + frame_length size
  last_size =
      let x = last_valid team links some valid in
      let is : size ≡ length (text x.0) = sizes_get links (length links - 1) x.0 size x.3 at in
      ap (λ (l : List Link). length (file_text team l)) x.1 ∙ size_push team (without_last links) x.0 ∙ ap (λ n. length (file_text team (without_last links)) + frame_length n) (sym is)

  pub others_valid : AllByRecursion (λ l. IsValid team (text l) l) (without_last links)
  others_valid =
      let x = last_valid team links some valid in
      all_front (λ l. IsValid team (text l) l) (without_last links) x.0 (subst (λ (l : List Link). AllByRecursion (λ l. IsValid team (text l) l) l) x.1 valid)

pub valid_push : (team : Name) (links : List Link) (x : Link) → AllByRecursion (λ l. IsValid team (text l) l) links → IsValid team (text x) x → AllByRecursion (λ l. IsValid team (text l) l) (links ++ x ∷ [])
valid_push team links x valid here = all_more (λ l. IsValid team (text l) l) links x valid here

pub empty_size : (team : Name) → length (header team) ≡ length (file_text team [])
empty_size team = let e = length-append (header team) [] in omega (arith, e)

pub all_named : (team : Name) (links : List Link) → AllByRecursion (λ l. IsValid team (text l) l) links → AllByRecursion (λ l. l.name ≡ sha256 (text l)) links
all_named team [] h = tt
all_named team (x ∷ xs) h = (h.0.reads.name, all_named team xs h.1)

-- the room for one more link
module _ (old : Held) (l : Link) (bytes more size : ℕ) (is : bytes ≡ length (file_text old.team old.links)) (frame : more ≡ frame_length size) (long : size ≡ length (text l)) where
  pub size_more : bytes + more ≡ length (file_text old.team (old.links ++ l ∷ []))
  size_more =
      let e = size_push old.team old.links l in
      let same : more ≡ frame_length (length (text l)) = frame ∙ ap frame_length long in
      omega (arith, e, is, same)

  pub space_more : length old.links < most_links → bytes + more ≤ most_file_bytes → HasSpace old.team old.links l
  space_more few short = record { few = few; short = subst (λ n. n ≤ most_file_bytes) size_more short }

  pub many_more : most_links ≤ length old.links → ¬ (HasSpace old.team old.links l)
  many_more many h = let few = h.few in omega (arith, few, many)

  pub long_more : most_file_bytes < bytes + more → ¬ (HasSpace old.team old.links l)
  long_more long h = let short = subst (λ n. n ≤ most_file_bytes) (sym size_more) h.short in omega (arith, short, long)
