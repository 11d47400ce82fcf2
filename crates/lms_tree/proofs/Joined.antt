-- A signature that is put together of its parts.
use Rattle.std.proofs.Common.{◌≡◌, ℕ, ◌+◌, ◌*◌, ◌^◌, ◌<◌, ◌≤◌, Some, List, [], ◌++◌, length, take, drop, true, refl, sym, ap, ◌∙◌, arith, append_assoc, length-append}
use Rattle.std.specs.List.{concat}
use Rattle.std.specs.Str.{bytes_eq}
use Rattle.std.proofs.lemmas.Bool.{eqb-true, and_parts}
use Rattle.std.proofs.lemmas.List.{take_at, drop_at, take-append-le}
use Rattle.std.proofs.lemmas.Slice.Eq.{bytes_eq-Decides}
use Rattle.lms_ots.specs.declared.kind.OtsKind.{OtsKind}
use Rattle.lms_ots.specs.declared.kind.OtsKind.TheVariants.{W1, W2, W4, W8}
use Rattle.lms_ots.specs.Kinds.{ots_row, ots_kind, ots_length}
use Rattle.lms_ots.specs.Digits.{u32str}
use Rattle.lms_ots.specs.Ots.{candidate, is_ots}
use Rattle.tg_text.specs.Spelling.{number_at}
use Rattle.lms_ots.proofs.Buffers.{length-u32str}
use Rattle.lms_ots.proofs.Signed.{number_at-u32str}
use Rattle.lms_tree.specs.declared.lms_kind.LmsKind.{LmsKind}
use Rattle.lms_tree.specs.declared.lms_kind.LmsKind.TheVariants.{H5, H10, H15, H20, H25}
use Rattle.lms_tree.specs.LmsKinds.{lms_row, lms_kind, lms_length, leaves_of}
use Rattle.lms_tree.specs.Laws.{IsKeyOf, IsPath, JoinedVerifies}
use Rattle.lms_tree.specs.Signatures.{joined}
use Rattle.lms_tree.specs.Verifying.{is_signature, id_in, root_in, root_of, root_over, leads_to, verifies}
use Rattle.lms_tree.proofs.Climbs.{length-nodes, pieces_concat}
use Rattle.lms_tree.proofs.Conditions.{leaves_low, from_fits, kinds_lead}

pub lms_number : (lms : LmsKind) → (lms_kind (lms_row lms).number ≡ Some lms) × ((lms_row lms).number < 2 ^ 32)
lms_number H5 = (refl, omega arith)
lms_number H10 = (refl, omega arith)
lms_number H15 = (refl, omega arith)
lms_number H20 = (refl, omega arith)
lms_number H25 = (refl, omega arith)

pub ots_number : (ots : OtsKind) → (ots_kind (ots_row ots).number ≡ Some ots) × ((ots_row ots).number < 2 ^ 32)
ots_number W1 = (refl, omega arith)
ots_number W2 = (refl, omega arith)
ots_number W4 = (refl, omega arith)
ots_number W8 = (refl, omega arith)

-- what a one-time signature begins with, with more bytes before and after it
number_within : (front xs rest : List ℕ) (i : ℕ) → length front ≡ i → 4 ≤ length xs → number_at i (front ++ (xs ++ rest)) ≡ number_at 0 xs
unfolding number_at
number_within front xs rest i size long = rw (drop_at front (xs ++ rest) i size, take-append-le 4 xs rest long) refl

-- the parts of a signature
pub record HasParts (lms : LmsKind) (ots : OtsKind) (q : ℕ) (one_time : List ℕ) (path : List (List ℕ)) (s : List ℕ) : Type 0 where
  pub size : length s ≡ lms_length lms ots
  pub leaf : number_at 0 s ≡ q
  pub ots_is : number_at 4 s ≡ (ots_row ots).number
  pub one_time_is : take (ots_length ots) (drop 4 s) ≡ one_time
  pub lms_is : number_at (4 + ots_length ots) s ≡ (lms_row lms).number
  pub path_is : drop (8 + ots_length ots) s ≡ concat path

pub joined_parts : (lms : LmsKind) (ots : OtsKind) (q : ℕ) (one_time : List ℕ) (path : List (List ℕ)) → q < leaves_of lms → is_ots ots one_time ≡ true → IsPath lms path
    → HasParts lms ots q one_time path (joined lms q one_time path)
joined_parts lms ots q o path low form is =
    let u = u32str q in
    let n = u32str (lms_row lms).number in
    let p = concat path in
    let l = ots_length ots in
    let both = and_parts _ _ form in
    let four : length u ≡ 4 = length-u32str _ in
    let four' : length n ≡ 4 = length-u32str _ in
    let long : length o ≡ l = eqb-true _ _ both.0 in
    let last : length p ≡ 32 * (lms_row lms).h = length-nodes path is.sized ∙ ap (λ k. 32 * k) is.many in
    let two : length (u ++ o) ≡ 4 + l = rw (length-append, four, long) refl in
    let three : length ((u ++ o) ++ n) ≡ 8 + l = rw (length-append, two, four') (omega arith) in
    let at_o : ((u ++ o) ++ n) ++ p ≡ u ++ (o ++ (n ++ p)) = rw (append_assoc, append_assoc) refl in
    let at_n : ((u ++ o) ++ n) ++ p ≡ (u ++ o) ++ (n ++ p) = append_assoc (u ++ o) n p in
    let few : leaves_of lms ≤ 2 ^ 25 = leaves_low lms in
    record {
      size = rw (length-append, three, last) (omega arith);
      leaf = rw at_o (number_at-u32str [] (o ++ (n ++ p)) 0 q refl (omega arith));
      ots_is = rw at_o (number_within u o (n ++ p) 4 four (omega arith) ∙ eqb-true _ _ both.1);
      one_time_is = rw (at_o, drop_at u (o ++ (n ++ p)) 4 four) (take_at o (n ++ p) l long);
      lms_is = rw at_n (number_at-u32str (u ++ o) p (4 + l) (lms_row lms).number two (lms_number lms).1);
      path_is = drop_at ((u ++ o) ++ n) p (8 + l) three;
    }

joined_root : (lms : LmsKind) (ots : OtsKind) (id message : List ℕ) (q : ℕ) (one_time : List ℕ) (path : List (List ℕ)) (s : List ℕ) → HasParts lms ots q one_time path s → IsPath lms path
    → root_of lms ots id message s ≡ root_over lms id q (candidate ots id q message one_time) path
unfolding root_of
joined_root lms ots id message q one_time path s parts is =
    rw (parts.leaf, parts.one_time_is, parts.path_is, ← is.many, pieces_concat path is.sized) refl

-- whether a signature verifies that is put together of its parts
pub joined_is : (lms : LmsKind) (ots : OtsKind) (key message one_time : List ℕ) (q : ℕ) (path : List (List ℕ)) → IsKeyOf lms ots key → q < leaves_of lms → is_ots ots one_time ≡ true → IsPath lms path
    → verifies key message (joined lms q one_time path) ≡ bytes_eq (root_in key) (root_over lms (id_in key) q (candidate ots (id_in key) q message one_time) path)
unfolding leads_to
joined_is lms ots key message one_time q path of low form is =
    let s = joined lms q one_time path in
    let parts = joined_parts lms ots q one_time path low form is in
    let lms_is : lms_kind (number_at 0 key) ≡ Some lms = ap lms_kind of.lms_is ∙ (lms_number lms).0 in
    let ots_is : ots_kind (number_at 4 key) ≡ Some ots = ap ots_kind of.ots_is ∙ (ots_number ots).0 in
    let leaf : number_at 0 s < leaves_of lms = rw parts.leaf low in
    let fit : is_signature lms ots s ≡ true = from_fits lms ots s (record { size = parts.size; low = leaf; ots_is = parts.ots_is; lms_is = parts.lms_is }) in
    kinds_lead key message s lms ots of.size lms_is ots_is ∙ rw (fit, joined_root lms ots (id_in key) message q one_time path s parts is) refl

pub joined_verifies : JoinedVerifies
joined_verifies lms ots key message one_time q path of low form is =
    let whole = joined_is lms ots key message one_time q path of low form is in
    let same = bytes_eq-Decides (root_in key) (root_over lms (id_in key) q (candidate ots (id_in key) q message one_time) path) in
    (λ yes. sym (same.0 (sym whole ∙ yes)), λ e. whole ∙ same.1 (sym e))
