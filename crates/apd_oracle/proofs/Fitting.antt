-- A reply that a line says fits its question, and has the names of the line.
use Rattle.std.proofs.Common.{◌≡◌, ◌==◌, ℕ, Bool, true, false, List, length, Option, Some, None, refl, subst}
use Rattle.std.specs.Prelude.{IsSome, if◌then◌else◌, not}
use Rattle.std.specs.List.{list_all}
use Rattle.std.proofs.lemmas.Bool.{eqb-true}
use Rattle.apd_term.specs.Named.{IsNamed}
use Rattle.apd_term.specs.Term.{Term}
use Rattle.apd_term.specs.declared.standard.TheConstants.{STOP, QUIT}
use Rattle.apd_term.specs.declared.tuple.Tuple.{Tuple}
use Rattle.apd_answers.specs.Questions.{Fits, FitsAsked, FitsBody, unknowns, with_values}
use Rattle.apd_answers.specs.declared.question.Asked.{Asked}
use Rattle.apd_answers.specs.declared.question.Question.{Question}
use Rattle.apd_answers.specs.declared.question.Question.TheVariants.{True, Covers, Below}
use Rattle.apd_answers.specs.declared.question.Reply.{Reply}
use Rattle.apd_answers.specs.declared.question.Reply.TheVariants.{Yes, No, Values, Unknown}
use Rattle.apd_lines.specs.Lines.{LineIsNamed}
use Rattle.apd_lines.specs.declared.lines.LineRead.{LineRead}
use Rattle.apd_lines.specs.declared.lines.LineRead.TheVariants as lines
use Rattle.apd_text.specs.Named.{ReplyIsNamed}
use Rattle.apd_text.specs.declared.entry.Reason.TheVariants.{WrongCount, NotGround, BuiltinFalse}
use Rattle.apd_known.specs.Told.{is_word, truth_told, values_told, word_told}
use Rattle.apd_arith.specs.Truths.{is_ground}
use Rattle.apd_known.specs.Truths.{is_true_if_builtin}
use Rattle.apd_known.proofs.Telling.{no_yes, truth_told_fits, truth_told_named, values_known, values_told_named, word_known, word_told_fits, word_told_named}
use Rattle.apd_arith.proofs.Tests.{all_ground}
use Rattle.apd_known.proofs.Truths.{all_pass}
use Rattle.apd_oracle.specs.Dialogue.{IsReply}
use Rattle.apd_oracle.specs.Replies.{reply_spoken, spoken_of, told, told_of}
use Rattle.apd_oracle.specs.declared.spoken.Spoken.{Spoken}
use Rattle.apd_oracle.specs.declared.spoken.Spoken.TheVariants as spoken

told_named : (n : ℕ) (q : Question) (o : Option ℕ) (t : Term) (r : Reply) → IsNamed n t → told_of q o t ≡ Some r → ReplyIsNamed n r
told_named n (True a) None t r named is = word_told_named n t r is
told_named n (True a) (Some count) t r named is = truth_told_named n t r is
told_named n (Below q p) o t r named is = word_told_named n t r is
told_named n (Covers tuple) o t r named is = values_told_named n t r named is

-- values that are a reply fit the body
passed : (t : Tuple) (vs : List Term) (r : Reply) (a b c : Bool) → (length vs == length (unknowns t)) ≡ a → list_all is_ground vs ≡ b → list_all is_true_if_builtin (with_values t vs) ≡ c →
    (if not a then spoken.Bad WrongCount else (if not b then spoken.Bad NotGround else (if not c then spoken.Bad BuiltinFalse else spoken.Reply (Values vs)))) ≡ spoken.Reply r → (Values vs ≡ r) × FitsBody t vs
passed t vs r false b c count ground truth is = absurd (cc)
passed t vs r true false c count ground truth is = absurd (cc)
passed t vs r true true false count ground truth is = absurd (cc)
passed t vs r true true true count ground truth is =
    (cc, record { ground = all_ground vs ground; count = eqb-true (length vs) (length (unknowns t)) count; builtins = all_pass (with_values t vs) truth })

-- a reply that is said is the one that was told
is_told : (q : Question) (o : Option Reply) (r : Reply) → reply_spoken q o ≡ spoken.Reply r → o ≡ Some r
is_told (True a) None r is = absurd (cc)
is_told (True a) (Some s) r is = cc
is_told (Below q p) None r is = absurd (cc)
is_told (Below q p) (Some s) r is = cc
is_told (Covers t) None r is = absurd (cc)
is_told (Covers t) (Some Yes) r is = cc
is_told (Covers t) (Some No) r is = cc
is_told (Covers t) (Some (Values vs)) r is =
    let both = passed t vs r (length vs == length (unknowns t)) (list_all is_ground vs) (list_all is_true_if_builtin (with_values t vs)) refl refl refl is in
    rw both.0 refl
is_told (Covers t) (Some Unknown) r is = cc

fits_covers : (t : Tuple) (o : Option Reply) (r : Reply) → (o ≡ Some Yes → ⊥) → (o ≡ Some Unknown → ⊥) → reply_spoken (Covers t) o ≡ spoken.Reply r → Fits (Covers t) r
fits_covers t None r never known is = absurd (cc)
fits_covers t (Some Yes) r never known is = absurd (never refl)
fits_covers t (Some Unknown) r never known is = absurd (known refl)
fits_covers t (Some No) r never known is = let e : No ≡ r = cc in subst (Fits (Covers t)) e tt
fits_covers t (Some (Values vs)) r never known is =
    let both = passed t vs r (length vs == length (unknowns t)) (list_all is_ground vs) (list_all is_true_if_builtin (with_values t vs)) refl refl refl is in
    subst (Fits (Covers t)) both.0 both.1

told_fits : (q : Question) (o : Option ℕ) (t : Term) (r : Reply) → reply_spoken q (told_of q o t) ≡ spoken.Reply r → Fits q r
told_fits (True a) None t r is = word_told_fits (True a) t r tt tt (is_told (True a) (word_told t) r is)
told_fits (True a) (Some count) t r is = truth_told_fits (True a) t r tt tt tt (is_told (True a) (truth_told t) r is)
told_fits (Below q p) o t r is = word_told_fits (Below q p) t r tt tt (is_told (Below q p) (word_told t) r is)
told_fits (Covers tuple) o t r is = fits_covers tuple (values_told t) r (no_yes t) (values_known t) is

-- that it isn't known is told only where suspects are counted
known_but : (q : Question) (o : Option ℕ) (t : Term) → told_of q o t ≡ Some Unknown → IsSome o
known_but (True a) None t is = absurd (word_known t is)
known_but (True a) (Some count) t is = refl
known_but (Below q p) o t is = absurd (word_known t is)
known_but (Covers tuple) o t is = absurd (values_known t is)

fits_so : (asked : Asked) (t : Term) (r : Reply) → reply_spoken asked.question (told asked t) ≡ spoken.Reply r → FitsAsked asked r
fits_so asked t r is = (
  told_fits asked.question asked.suspects t r is,
  λ u. known_but asked.question asked.suspects t (subst (λ (x : Reply). told asked t ≡ Some x) u (is_told asked.question (told asked t) r is)),
)

-- a word that ends the diagnosis is no reply
no_word : (a b : Bool) (s : Spoken) (r : Reply) → (if a then spoken.Stop else (if b then spoken.Quit else s)) ≡ spoken.Reply r → s ≡ spoken.Reply r
no_word true b s r is = absurd (cc)
no_word false true s r is = absurd (cc)
no_word false false s r is = is

-- a reply that a line says fits
pub reply_fits : (asked : Asked) (read : LineRead) (r : Reply) → spoken_of asked read ≡ spoken.Reply r → FitsAsked asked r
reply_fits asked lines.Empty r is = absurd (cc)
reply_fits asked lines.TooLong r is = absurd (cc)
reply_fits asked (lines.Bad cause) r is = absurd (cc)
reply_fits asked (lines.Clause read) r is = fits_so asked read.term r (no_word (is_word read.term STOP) (is_word read.term QUIT) (reply_spoken asked.question (told asked read.term)) r is)

-- a reply that a line says
pub is_reply : (n : ℕ) (asked : Asked) (read : LineRead) (r : Reply) → LineIsNamed n read → spoken_of asked read ≡ spoken.Reply r → IsReply n asked r
is_reply n asked lines.Empty r named is = absurd (cc)
is_reply n asked lines.TooLong r named is = absurd (cc)
is_reply n asked (lines.Bad cause) r named is = absurd (cc)
is_reply n asked (lines.Clause read) r named is =
    let said = no_word (is_word read.term STOP) (is_word read.term QUIT) (reply_spoken asked.question (told asked read.term)) r is in
    (fits_so asked read.term r said, told_named n asked.question asked.suspects read.term r named.named (is_told asked.question (told asked read.term) r said))
