-- Texts that say something, one behind another.
use Rattle.std.proofs.Common.{◌≡◌, ℕ, List, [], ◌∷◌, ◌++◌, refl, sym, ◌∙◌, ap, subst, append_assoc, Bool}
use Rattle.std.specs.Prelude.{if◌then◌else◌}
use Rattle.apd_console.specs.Lines.{lines_of, onto_first}
use Rattle.apd_ops.specs.Table.{Table}
use Rattle.apd_read.specs.Reader.{Reader}
use Rattle.apd_talk.specs.Utterance.{Utterance, entries_of, texts_of}
use Rattle.apd_text.specs.declared.entry.Entry.{Entry}
use Rattle.apd_claims.specs.declared.claim.Claim.{Claim}
use Rattle.apd_claims.specs.declared.claim.Claim.TheVariants.{Finds}
use Rattle.apd_claims.specs.Sayable.{BeginsWithNone}
use Rattle.apd_written.specs.Claims.{all_claims}
use Rattle.apd_written.specs.Says.{HasNoBreak, Says, AllSay, lines_before, AreCandidateLines, no_line, quiet_line, one_line, call_line, some_lines}

-- a line and those behind it
pub line-first : (line rest : List ℕ) → HasNoBreak line → lines_of (line ++ 10 ∷ rest) ≡ line ∷ lines_of rest
line-first [] rest h = refl
line-first (b ∷ bs) rest h = ap (λ (t : Bool). if t then [] ∷ lines_of (bs ++ 10 ∷ rest) else onto_first b (lines_of (bs ++ 10 ∷ rest))) h.0 ∙ ap (onto_first b) (line-first bs rest h.1)

pub candidates-first : (candidates : List (List ℕ)) (rest : List ℕ) → AreCandidateLines candidates → lines_of (lines_before candidates rest) ≡ candidates ++ lines_of rest
candidates-first [] rest h = refl
candidates-first (l ∷ ls) rest h = line-first l (lines_before ls rest) h.0.whole ∙ ap (λ xs. l ∷ xs) (candidates-first ls rest h.1)

pub break-append : (xs ys : List ℕ) → HasNoBreak xs → HasNoBreak ys → HasNoBreak (xs ++ ys)
break-append [] ys h k = k
break-append (x ∷ xs) ys h k = (h.0, break-append xs ys h.1 k)

lines_before-append : (lines : List (List ℕ)) (rest u : List ℕ) → lines_before lines rest ++ u ≡ lines_before lines (rest ++ u)
lines_before-append [] rest u = refl
lines_before-append (l ∷ ls) rest u = append_assoc l (10 ∷ lines_before ls rest) u ∙ ap (λ t. l ++ 10 ∷ t) (lines_before-append ls rest u)

module _ {names : List (List ℕ)} (reader : Reader names) (ops : Table) where
  pub says-append : {t u : List ℕ} {cs ds : List Claim} → Says reader ops t cs → Says reader ops u ds → Says reader ops (t ++ u) (cs ++ ds)
  says-append no_line k = k
  says-append {u = u} {ds = ds} (quiet_line line {rest} {cs} h s) k = subst (λ t. Says reader ops t (cs ++ ds)) (sym (append_assoc line (10 ∷ rest) u)) (quiet_line line h (says-append s k))
  says-append {u = u} {ds = ds} (one_line line {rest} {c} {cs} n h s) k = subst (λ t. Says reader ops t (c ∷ cs ++ ds)) (sym (append_assoc line (10 ∷ rest) u)) (one_line line n h (says-append s k))
  says-append {u = u} {ds = ds} (call_line line {rest} {finding} {at} {cs} h s) k = subst (λ t. Says reader ops t (Finds finding at ∷ cs ++ ds)) (sym (append_assoc line (10 ∷ rest) u)) (call_line line h (says-append s k))
  says-append {u = u} {ds = ds} (some_lines line candidates {rest} {c} {cs} h s) k =
      subst (λ t. Says reader ops t (c ∷ cs ++ ds)) (sym (append_assoc line (10 ∷ lines_before candidates rest) u ∙ ap (λ t. line ++ 10 ∷ t) (lines_before-append candidates rest u)))
      (some_lines line candidates h (says-append s k))

  -- what is said so begins with no line of a candidate
  pub begins-none : {text : List ℕ} {cs : List Claim} → Says reader ops text cs → BeginsWithNone (lines_of text)
  begins-none no_line = tt
  begins-none (quiet_line line {rest} h s) = subst BeginsWithNone (sym (line-first line rest h.whole)) h.alone
  begins-none (one_line line {rest} n h s) = subst BeginsWithNone (sym (line-first line rest h.whole)) h.alone
  begins-none (call_line line {rest} h s) = subst BeginsWithNone (sym (line-first line rest h.whole)) h.alone
  begins-none (some_lines line candidates {rest} h s) = subst BeginsWithNone (sym (line-first line (lines_before candidates rest) h.whole)) h.alone

  pub utterances-say : (us : List (Utterance Entry)) → AllSay reader ops us → Says reader ops (texts_of us) (all_claims (entries_of us))
  unfolding texts_of
  utterances-say [] h = no_line
  utterances-say (u ∷ us) h = says-append h.0 (utterances-say us h.1)
