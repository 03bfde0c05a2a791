-- The text of what is known stays where names are put at the end.
use Rattle.std.proofs.Common.{◌≡◌, ℕ, ◌+◌, ◌<◌, List, [], ◌∷◌, ◌++◌, length, refl, arith}
use Rattle.std.specs.Prelude.{flat_map}
use Rattle.apd_term.specs.Canonical.{canonical}
use Rattle.apd_term.specs.Named.{IsNamed}
use Rattle.apd_term.specs.Term.{Term, variable}
use Rattle.apd_term.specs.declared.term.Pred.{Pred}
use Rattle.apd_term.proofs.FirstNames.{length-standard_names}
use Rattle.apd_term.proofs.Named.{IsNamed-apply, IsNamed-canonical}
use Rattle.apd_ops.specs.Table.{Table}
use Rattle.apd_write.proofs.MoreNames.{written-more}
use Rattle.apd_answers.specs.Named.{QuestionIsNamed, ReplyIsNamed}
use Rattle.apd_answers.specs.Store.{Store}
use Rattle.apd_answers.specs.declared.question.Question.{Question}
use Rattle.apd_answers.specs.declared.question.Question.TheVariants.{True, Covers, Below}
use Rattle.apd_answers.specs.declared.question.Reply.{Reply}
use Rattle.apd_answers.specs.declared.question.Reply.TheVariants.{Yes, No, Values, Unknown}
use Rattle.apd_answers.specs.declared.store.Pair.{Pair}
use Rattle.apd_text.specs.FilterTerms.{PredsAreNamed}
use Rattle.apd_text.specs.Named.{HasStandardNames}
use Rattle.apd_text.proofs.MoreNames.{clause_named, list_named, neck_named}
use Rattle.apd_kept.specs.Kept.{apart_from, known_text, pair_line, pair_term, reply_term, statement_of, trust_line, trust_term, variable_count}

-- the names of the pairs are among the first n
abbrev pub PairsAreNamed : ℕ → List Pair → Type 0
PairsAreNamed n [] = Unit {0}
PairsAreNamed n (p ∷ pairs) = (QuestionIsNamed n p.question × ReplyIsNamed n p.reply) × PairsAreNamed n pairs

reply_named : (n : ℕ) (r : Reply) → HasStandardNames n → ReplyIsNamed n r → IsNamed n (reply_term r)
reply_named n Yes standard named = (omega (arith, standard, length-standard_names), tt)
reply_named n No standard named = (omega (arith, standard, length-standard_names), tt)
reply_named n (Values values) standard named = (omega (arith, standard, length-standard_names), (list_named n values (neck_named n standard) named, tt))
reply_named n Unknown standard named = (omega (arith, standard, length-standard_names), tt)

apart_named : (n : ℕ) (other t : Term) → IsNamed n t → IsNamed n (apart_from other t)
apart_named n other t named = IsNamed-apply n (λ v. variable (variable_count other + v)) (canonical t) (λ v. tt) (IsNamed-canonical n t named)

statement_named : (n : ℕ) (q : Question) (r : Term) → HasStandardNames n → QuestionIsNamed n q → IsNamed n r → IsNamed n (statement_of q r)
statement_named n (True a) r standard named reply = (omega (arith, standard, length-standard_names), (named, (reply, tt)))
statement_named n (Covers t) r standard named reply =
    (omega (arith, standard, length-standard_names), (clause_named n t.head t.body (neck_named n standard) named.0 named.1, (reply, tt)))
statement_named n (Below q p) r standard named reply =
    (omega (arith, standard, length-standard_names), (IsNamed-canonical n q named.0, (apart_named n q p named.1, (reply, tt))))

-- each statement has no other names than the pair, the predicate and the standard ones
pub pair_named : (n : ℕ) (p : Pair) → HasStandardNames n → QuestionIsNamed n p.question → ReplyIsNamed n p.reply → IsNamed n (pair_term p)
pair_named n p standard question reply =
    IsNamed-canonical n (statement_of p.question (reply_term p.reply)) (statement_named n p.question (reply_term p.reply) standard question (reply_named n p.reply standard reply))

pub trust_named : (n : ℕ) (p : Pred) → HasStandardNames n → p.name.0 < n → IsNamed n (trust_term p)
trust_named n p standard named =
    (omega (arith, standard, length-standard_names), ((omega (arith, standard, length-standard_names), ((named, tt), (tt, tt))), tt))

trust-more : (ops : Table) (names others : List (List ℕ)) (preds : List Pred) → HasStandardNames (length names) → PredsAreNamed (length names) preds
    → flat_map (trust_line ops (names ++ others)) preds ≡ flat_map (trust_line ops names) preds
trust-more ops names others [] standard named = refl
trust-more ops names others (p ∷ preds) standard named =
    rw (written-more ops names others (trust_term p) 1200 (trust_named (length names) p standard named.0), trust-more ops names others preds standard named.1) refl

pairs-more : (ops : Table) (names others : List (List ℕ)) (pairs : List Pair) → HasStandardNames (length names) → PairsAreNamed (length names) pairs
    → flat_map (pair_line ops (names ++ others)) pairs ≡ flat_map (pair_line ops names) pairs
pairs-more ops names others [] standard named = refl
pairs-more ops names others (p ∷ pairs) standard named =
    rw (written-more ops names others (pair_term p) 1200 (pair_named (length names) p standard named.0.0 named.0.1), pairs-more ops names others pairs standard named.1) refl

pub known_text-more : (ops : Table) (names others : List (List ℕ)) (store : Store) → HasStandardNames (length names) → PairsAreNamed (length names) store.pairs → PredsAreNamed (length names) store.trusted
    → known_text ops (names ++ others) store ≡ known_text ops names store
unfolding known_text
known_text-more ops names others store standard pairs trust =
    rw (trust-more ops names others store.trusted standard trust, pairs-more ops names others store.pairs standard pairs) refl
