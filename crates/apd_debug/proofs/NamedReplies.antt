-- What a store decides is named where its replies are.
use Rattle.std.proofs.Common.{◌≡◌, ℕ, ◌≤◌, List, [], ◌∷◌, ◌++◌, Bool, true, false, Option, Some, None, subst}
use Rattle.std.specs.Bool.{then_some}
use Rattle.std.specs.List.{list_any}
use Rattle.std.specs.Option.{option_or}
use Rattle.std.specs.Prelude.{if◌then◌else◌}
use Rattle.apd_answers.specs.Fitting.{AllFit, AllFitIn}
use Rattle.apd_answers.specs.Questions.{canonical_question, with_values}
use Rattle.apd_answers.specs.Store.{Store, decided, decided_in, is_kept, same_question, told, told_of_truth, with_pair}
use Rattle.apd_answers.specs.declared.question.Question.{Question}
use Rattle.apd_answers.specs.declared.question.Question.TheVariants.{True, Covers, Below}
use Rattle.apd_answers.specs.declared.question.Reply.{Reply}
use Rattle.apd_answers.specs.declared.question.Reply.TheVariants.{Yes, No, Values, Unknown}
use Rattle.apd_answers.specs.declared.store.Pair.{Pair}
use Rattle.apd_term.specs.Matching.{is_instance}
use Rattle.apd_term.specs.Term.{Term}
use Rattle.apd_known.specs.Pairs.{AllStatable, IsStatable}
use Rattle.apd_known.proofs.Kept.{all_more, one_more, all_trust_more}
use Rattle.apd_text.specs.Named.{ReplyIsNamed}
use Rattle.apd_debug.specs.NamedStates.{AreReplies}

pub AreReplies-more : (n m : ℕ) (store : Store) → n ≤ m → AreReplies n store → AreReplies m store
AreReplies-more n m store less are = record { pairs = all_more n m store.pairs less are.pairs; trust = all_trust_more n m store.trusted less are.trust }

pub with_pair-replies : (n : ℕ) (store : Store) (q : Question) (r : Reply) → AreReplies n store → IsStatable n (record { question = q; reply = r }) → AreReplies n (with_pair store q r)
with_pair-replies n store q r are last = record { pairs = by (is_kept store q r); trust = are.trust }
  where
    by : (b : Bool) → AllStatable n (if b then store.pairs else store.pairs ++ record { question = q; reply = r } ∷ [])
    by true = are.pairs
    by false = one_more n store.pairs (record { question = q; reply = r }) are.pairs last

-- the replies of a store fit its questions
all_fit_in : (n : ℕ) (pairs : List Pair) → AllStatable n pairs → AllFitIn pairs
all_fit_in n [] are = tt
all_fit_in n (p ∷ pairs) are = (are.0.fits, all_fit_in n pairs are.1)

pub all_fit : (n : ℕ) (store : Store) → AreReplies n store → AllFit store
all_fit n store are = all_fit_in n store.pairs are.pairs

abbrev MayReply : ℕ → Option Reply → Type 0
MayReply n None = Unit {0}
MayReply n (Some r) = ReplyIsNamed n r

then_some-named : (n : ℕ) (b : Bool) (r : Reply) → ReplyIsNamed n r → MayReply n (then_some b r)
then_some-named n true r named = named
then_some-named n false r named = tt

or-named : (n : ℕ) (a b : Option Reply) → MayReply n a → MayReply n b → MayReply n (option_or a b)
or-named n None b first second = second
or-named n (Some r) b first second = first

truth-named : (n : ℕ) (q : Question) (r : Reply) (a : Term) → MayReply n (told_of_truth q r a)
truth-named n (True b) Yes a = then_some-named n (is_instance a b) Yes tt
truth-named n (True b) No a = then_some-named n (is_instance b a) No tt
truth-named n (True b) (Values values) a = tt
truth-named n (True b) Unknown a = tt
truth-named n (Covers t) Yes a = tt
truth-named n (Covers t) No a = tt
truth-named n (Covers t) (Values values) a = then_some-named n (list_any (is_instance a) (with_values t values)) Yes tt
truth-named n (Covers t) Unknown a = tt
truth-named n (Below q p) Yes a = tt
truth-named n (Below q p) No a = tt
truth-named n (Below q p) (Values values) a = tt
truth-named n (Below q p) Unknown a = tt

told-named : (n : ℕ) (pair : Pair) (q : Question) → ReplyIsNamed n pair.reply → MayReply n (told pair q)
told-named n pair (True a) named = truth-named n pair.question pair.reply a
told-named n pair (Covers t) named = then_some-named n (same_question (canonical_question pair.question) (canonical_question (Covers t))) pair.reply named
told-named n pair (Below q p) named = then_some-named n (same_question (canonical_question pair.question) (canonical_question (Below q p))) pair.reply named

may_decide : (n : ℕ) (pairs : List Pair) (q : Question) → AllStatable n pairs → MayReply n (decided_in pairs q)
may_decide n [] q named = tt
may_decide n (pair ∷ pairs) q named = or-named n (told pair q) (decided_in pairs q) (told-named n pair q named.0.reply_named) (may_decide n pairs q named.1)

pub decided-named : (n : ℕ) (store : Store) (q : Question) (r : Reply) → decided store q ≡ Some r → AreReplies n store → ReplyIsNamed n r
decided-named n store q r is named = subst (MayReply n) is (may_decide n store.pairs q named.pairs)
