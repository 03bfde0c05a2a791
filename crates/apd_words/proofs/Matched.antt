-- What the getters of clap's matches give, and when it finds a fault.
use Rattle.std.proofs.Common.{◌≡◌, ◌∙◌, ◌⊎◌, inl, inr, ℕ, List, [], ◌∷◌, Bool, true, false, Option, None, Some, refl, sym, ap, subst, codes}
use Rattle.std.specs.Prelude.{MatchOption, if◌then◌else◌}
use Rattle.std.specs.Option.{option_map}
use Rattle.clap.specs.declared.parser.matches.Found.{Found}
use Rattle.clap.specs.Words.{App, Kinds, IsAmong, Row, fault_of, first_value, is_simple_and_free, is_simple, matches_of, rows_of}
use Rattle.clap.proofs.WalkLemmas.{first_value-rows}
use Rattle.clap.proofs.OnLiterals.{clap_on_literals}
use Rattle.clap.specs.declared.error.kind.ErrorKind.{ErrorKind}
use Rattle.clap.specs.declared.error.kind.ErrorKind.TheVariants.{OutOfMemory}
use Rattle.apd_ports.specs.declared.filter.Filter.{Filter}
use Rattle.apd_divide.specs.declared.node.Strategy.{Strategy}
use Rattle.apd_words.specs.declared.options.Subject as subjects
use Rattle.apd_words.specs.Words.{Subject, asked_subject, command, filter_of, is_faultless, is_plain, limit_or, options_from, options_in, options_of, strategy_or, subject_with}

-- the options of what the getters give are those of the matches
pub gathered : (found : Found) (budget answers : Option ℕ) (filter : Filter) (strategy : Option Strategy) (plain : Bool) (subject : Option Subject) (b a t s o e d k p : Option (List ℕ)) →
    b ≡ first_value found (codes "budget") → a ≡ first_value found (codes "answers") → t ≡ first_value found (codes "trace") → s ≡ first_value found (codes "strategy") → o ≡ first_value found (codes "oracle") → e ≡ first_value found (codes "reference") → d ≡ first_value found (codes "demo") → k ≡ first_value found (codes "check") → p ≡ first_value found (codes "program") →
    budget ≡ limit_or 100000 b → answers ≡ limit_or 1000000 a → filter ≡ filter_of t → strategy ≡ strategy_or s → plain ≡ is_plain b a s filter → subject ≡ subject_with plain k d o e p → options_in (rows_of found) ≡ options_from budget answers filter strategy o e subject
gathered found budget answers filter strategy plain subject b a t s o e d k p is_b is_a is_t is_s is_o is_e is_d is_k is_p is_budget is_answers is_filter is_strategy is_plain_so is_subject =
    let given_budget = sym (first_value-rows found (codes "budget")) ∙ sym is_b in
    let given_answers = sym (first_value-rows found (codes "answers")) ∙ sym is_a in
    let given_strategy = sym (first_value-rows found (codes "strategy")) ∙ sym is_s in
    let same_budget = ap (limit_or 100000) given_budget ∙ sym is_budget in
    let same_answers = ap (limit_or 1000000) given_answers ∙ sym is_answers in
    let same_filter = ap filter_of (sym (first_value-rows found (codes "trace")) ∙ sym is_t) ∙ sym is_filter in
    let same_strategy = ap strategy_or given_strategy ∙ sym is_strategy in
    let same_oracle = sym (first_value-rows found (codes "oracle")) ∙ sym is_o in
    let same_reference = sym (first_value-rows found (codes "reference")) ∙ sym is_e in
    let same_program = sym (first_value-rows found (codes "program")) ∙ sym is_p in
    let same_check = sym (first_value-rows found (codes "check")) ∙ sym is_k in
    let same_demo = sym (first_value-rows found (codes "demo")) ∙ sym is_d in
    let same_plain = (λ i. is_plain (given_budget i) (given_answers i) (given_strategy i) (same_filter i)) ∙ sym is_plain_so in
    let same_subject = (λ i. subject_with (same_plain i) (same_check i) (same_demo i) (same_oracle i) (same_reference i) (same_program i)) ∙ sym is_subject in
    λ i. options_from (same_budget i) (same_answers i) (same_filter i) (same_strategy i) (same_oracle i) (same_reference i) (same_subject i)

-- what is debugged, as it is asked for
pub subject_is : (o : Option Subject) (asked : Option subjects.Subject) → MatchOption asked (o ≡ None) (λ s. o ≡ Some (asked_subject s)) → option_map asked_subject asked ≡ o
subject_is o None is = sym is
subject_is o (Some s) is = sym is

-- clap tells the matches and the faults of this command
pub command_is_simple : is_simple command ≡ true
unfolding clap_on_literals command
command_is_simple = refl

pub command_is_free : is_simple_and_free command ≡ true
unfolding clap_on_literals command
command_is_free = refl

-- an error's kind is among the faults
pub is_faulty : (kinds : Kinds) (k : ErrorKind) → IsAmong k kinds → is_faultless kinds ≡ false
is_faulty [] k among = absurd among
is_faulty (x ∷ kinds) k among = refl

-- words that clap takes ask for what its matches give
pub taken : (app : App) (words : List (List ℕ)) (rows : List Row) → app ≡ command → (is_simple app ≡ true → rows ≡ matches_of app words) → (is_simple_and_free app ≡ true → fault_of app words ≡ []) →
    options_of words ≡ options_in rows
unfolding options_of
taken app words rows is matches none =
    let found = subst (λ (a : App). is_simple a ≡ true → rows ≡ matches_of a words) is matches command_is_simple in
    let faults = subst (λ (a : App). is_simple_and_free a ≡ true → fault_of a words ≡ []) is none command_is_free in
    ap (λ kinds. if is_faultless kinds then options_in (matches_of command words) else None) faults ∙ ap options_in (sym found)

-- words in which it finds a fault ask for nothing
pub refused : (app : App) (words : List (List ℕ)) (k : ErrorKind) → app ≡ command → (is_simple_and_free app ≡ true → (k ≡ OutOfMemory) ⊎ IsAmong k (fault_of app words)) → (k ≡ OutOfMemory → ⊥) → options_of words ≡ None
unfolding options_of
refused app words k is fails other =
    let among = subst (λ (a : App). is_simple_and_free a ≡ true → (k ≡ OutOfMemory) ⊎ IsAmong k (fault_of a words)) is fails command_is_free in
    elim among [
      | inl memory ↦ absurd (other memory)
      | inr fault ↦ ap (λ b. if b then options_in (matches_of command words) else None) (is_faulty (fault_of command words) k fault)
    ]
