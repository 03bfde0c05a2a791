-- A store: replies, each with its question, and the predicates that are trusted. What its replies decide, and what they say.
use Rattle.std.specs.Prelude.{◌≡◌, ◌⊎◌, ◌&&◌, ◌++◌, Bool, true, false, if◌then◌else◌, List, [], ◌∷◌, Option, None}
use Rattle.std.specs.Bool.{then_some}
use Rattle.std.specs.Option.{option_or}
use Rattle.std.specs.List.{list_any}
use Rattle.apd_term.specs.Term.{Term}
use Rattle.apd_term.specs.declared.term.Pred.{Pred}
use Rattle.apd_term.specs.Canonical.{canonical}
use Rattle.apd_term.specs.Tuple.{canonical_tuple}
use Rattle.apd_term.specs.Substitution.{IsInstance}
use Rattle.apd_term.specs.declared.tuple.Tuple.{Tuple}
use Rattle.apd_term.specs.Matching.{same_term, is_instance}
use Rattle.apd_answers.specs.declared.question.Question.{Question}
use Rattle.apd_answers.specs.declared.question.Question.TheVariants as asks
use Rattle.apd_answers.specs.declared.question.Reply.{Reply}
use Rattle.apd_answers.specs.declared.question.Reply.TheVariants.{Yes, No, Values, Unknown}
use Rattle.apd_answers.specs.declared.store.Pair.{Pair}
use Rattle.apd_answers.specs.Interpretation.{Interpretation}
use Rattle.apd_answers.specs.Questions.{canonical_question, with_values, IsTrueReply}

pub record Store : Type 0 where
  pub pairs : List Pair
  pub trusted : List Pred

-- nothing was replied, and nothing is trusted
abbrev pub empty_store : Store
empty_store = record { pairs = []; trusted = [] }

abbrev pub same_list : List Term → List Term → Bool
same_list [] [] = true
same_list (t ∷ ts) (u ∷ us) = same_term t u && same_list ts us
same_list _ _ = false

abbrev pub same_tuple : Tuple → Tuple → Bool
same_tuple t u = same_term t.head u.head && same_list t.body u.body

-- whether two questions are one
abbrev pub same_question : Question → Question → Bool
same_question (asks.True a) (asks.True b) = same_term a b
same_question (asks.Covers t) (asks.Covers u) = same_tuple t u
same_question (asks.Below q p) (asks.Below x y) = same_term q x && same_term p y
same_question _ _ = false

abbrev pub same_reply : Reply → Reply → Bool
same_reply Yes Yes = true
same_reply No No = true
same_reply (Values ts) (Values us) = same_list ts us
same_reply Unknown Unknown = true
same_reply _ _ = false

-- what a reply tells of whether an atom is true: Yes of each instance of what is true, No of what has an untrue instance, and
-- Unknown nothing
abbrev pub told_of_truth : Question → Reply → Term → Option Reply
told_of_truth (asks.True b) Yes a = then_some (is_instance a b) Yes
told_of_truth (asks.True b) No a = then_some (is_instance b a) No
told_of_truth (asks.Covers t) (Values values) a = then_some (list_any (is_instance a) (with_values t values)) Yes
told_of_truth _ _ a = None

-- what a pair decides of a question
abbrev pub told : Pair → Question → Option Reply
told pair (asks.True a) = told_of_truth pair.question pair.reply a
told pair question = then_some (same_question (canonical_question pair.question) (canonical_question question)) pair.reply

-- the reply of the first pair that decides the question
abbrev pub decided_in : List Pair → Question → Option Reply
decided_in [] question = None
decided_in (pair ∷ pairs) question = option_or (told pair question) (decided_in pairs question)

abbrev pub decided : Store → Question → Option Reply
decided store question = decided_in store.pairs question

-- the reply of the first pair whose question has this canonical form
abbrev pub reply_to : List Pair → Question → Option Reply
reply_to [] form = None
reply_to (pair ∷ pairs) form = option_or (then_some (same_question (canonical_question pair.question) form) pair.reply) (reply_to pairs form)

-- whether a pair whose question has this canonical form, with this reply, is kept
abbrev pub is_kept_as : List Pair → Question → Reply → Bool
is_kept_as pairs form reply = list_any (λ (p : Pair). same_question (canonical_question p.question) form && same_reply p.reply reply) pairs

abbrev pub is_kept_in : List Pair → Question → Reply → Bool
is_kept_in pairs question reply = is_kept_as pairs (canonical_question question) reply

abbrev pub is_kept : Store → Question → Reply → Bool
is_kept store question reply = is_kept_in store.pairs question reply

-- the reply is kept that it isn't known whether the atom is true
abbrev pub is_doubted : Store → Term → Bool
is_doubted store a = is_kept store (asks.True a) Unknown

-- the pairs with this one at the end, unless it is kept
abbrev pub with_pair_in : List Pair → Question → Reply → List Pair
with_pair_in pairs question reply = if is_kept_in pairs question reply then pairs else pairs ++ record { question = question; reply = reply } ∷ []

-- the store with this pair too
abbrev pub with_pair : Store → Question → Reply → Store
with_pair store question reply = record { pairs = with_pair_in store.pairs question reply; trusted = store.trusted }

-- some pair, first or not
abbrev pub SomePairIn : (Question → Reply → Type 0) → List Pair → Type 0
SomePairIn P [] = ⊥
SomePairIn P (pair ∷ pairs) = P pair.question pair.reply ⊎ SomePairIn P pairs

abbrev pub SomePair : (Question → Reply → Type 0) → Store → Type 0
SomePair P store = SomePairIn P store.pairs

abbrev pub SomeTerm : (Term → Type 0) → List Term → Type 0
SomeTerm P [] = ⊥
SomeTerm P (t ∷ ts) = P t ⊎ SomeTerm P ts

-- Yes on an atom of which this is an instance, or values that make such an atom part of a body
abbrev pub TellsYes : Term → Question → Reply → Type 0
TellsYes a (asks.True b) Yes = IsInstance a b
TellsYes a (asks.Covers t) (Values values) = SomeTerm (IsInstance a) (with_values t values)
TellsYes a _ _ = ⊥

-- No on an instance
abbrev pub TellsNo : Term → Question → Reply → Type 0
TellsNo a (asks.True b) No = IsInstance b a
TellsNo a _ _ = ⊥

-- No on whether the body has a solution
abbrev pub TellsUncovered : Tuple → Question → Reply → Type 0
TellsUncovered t (asks.Covers u) No = canonical_tuple u ≡ canonical_tuple t
TellsUncovered t _ _ = ⊥

abbrev pub TellsBelow : Reply → Term → Term → Question → Reply → Type 0
TellsBelow said q p (asks.Below x y) reply = (reply ≡ said) × (canonical x ≡ canonical q) × (canonical y ≡ canonical p)
TellsBelow said q p _ reply = ⊥

-- the store says that the atom is true, or that it isn't
abbrev pub SaysYes : Store → Term → Type 0
SaysYes store a = SomePair (TellsYes a) store

abbrev pub SaysNo : Store → Term → Type 0
SaysNo store a = SomePair (TellsNo a) store

abbrev pub SaysUncovered : Store → Tuple → Type 0
SaysUncovered store t = SomePair (TellsUncovered t) store

-- the store says that the one call is below the other, or that it isn't
abbrev pub SaysBelow : Store → Term → Term → Type 0
SaysBelow store q p = SomePair (TellsBelow Yes q p) store

abbrev pub SaysNotBelow : Store → Term → Term → Type 0
SaysNotBelow store q p = SomePair (TellsBelow No q p) store

-- all pairs are true of the interpretation
abbrev pub AreTruePairs : Interpretation → List Pair → Type 0
AreTruePairs m [] = Unit {0}
AreTruePairs m (pair ∷ pairs) = IsTrueReply m pair.question pair.reply × AreTruePairs m pairs
