-- A token file holds a token or says that it has signed, and not both.
use Rattle.std.proofs.Common.{◌≡◌, ◌≢◌, ℕ, List, [], ◌∷◌, ◌++◌, Option, None, Some, codes, refl, sym, ap, ◌∙◌, true≢false}
use Rattle.tg_text.specs.Reading.{Reads}
use Rattle.tg_text.proofs.Splits.{begins}
use Rattle.invitations.specs.declared.token.Token.{Token}
use Rattle.invitations.specs.declared.token_file.TokenFile.{TokenFile}
use Rattle.invitations.specs.declared.token_file.TokenFile.TheVariants.{Fresh, Used}
use Rattle.invitations.specs.Parts.{file_of}
use Rattle.invitations.specs.TokenText.{IsToken, IsTokenFile, token_text, token_file_text, used_text}

unused : (t : Token) → used_text ≡ token_text t → ⊥
unfolding begins
unused t e = true≢false (ap (begins (codes "team-token-")) e)

pub used_reads : (text : List ℕ) → text ≡ used_text → Reads IsTokenFile token_file_text text (Some Used)
used_reads text e = record { found = (tt, e); only = λ file is w. is_used file is w } where
  is_used : (file : TokenFile) → IsTokenFile file → text ≡ token_file_text file → Some Used ≡ Some file
  is_used Used is w = refl
  is_used (Fresh t) is w = absurd (unused t (sym e ∙ w))

not_none : (t : Token) → None ≡ Some t → ⊥
not_none t e = cc

same_token : (a b : Token) → Some a ≡ Some b → a ≡ b
same_token a b e = cc

-- Where the text isn't that of a used token, the file holds the token that is read.
pub reads_file : (text : List ℕ) (found : Option Token) → text ≢ used_text → Reads IsToken token_text text found → Reads IsTokenFile token_file_text text (file_of found)
reads_file text None other reads = record { found = tt; only = λ file is w. nothing file is w } where
  nothing : (file : TokenFile) → IsTokenFile file → text ≡ token_file_text file → None ≡ Some file
  nothing Used is w = absurd (other w)
  nothing (Fresh t) is w = absurd (not_none t (reads.only t is w))
reads_file text (Some t) other reads = record { found = reads.found; only = λ file is w. is_fresh file is w } where
  is_fresh : (file : TokenFile) → IsTokenFile file → text ≡ token_file_text file → Some (Fresh t) ≡ Some file
  is_fresh Used is w = absurd (other w)
  is_fresh (Fresh s) is w = ap (λ (k : Token). Some (Fresh k)) (same_token t s (reads.only s is w))
