-- Replies that are alike say the same, and of each other's variants.
use Rattle.std.proofs.Common.{◌≡◌, inl, inr, ◌++◌, ◌&&◌, ◌||◌, if◌then◌else◌, Bool, true, false, List, [], ◌∷◌, map, refl, sym, ◌∙◌, ap, subst}
use Rattle.std.proofs.lemmas.List.{map-append}
use Rattle.apd_term.specs.Term.{Term}
use Rattle.apd_term.specs.Canonical.{canonical}
use Rattle.apd_term.specs.Tuple.{canonical_tuple}
use Rattle.apd_term.specs.Substitution.{IsInstance}
use Rattle.apd_term.specs.declared.tuple.Tuple.{Tuple}
use Rattle.apd_term.proofs.Variants.{IsInstance_from_variants, IsInstance-trans}
use Rattle.apd_answers.specs.declared.question.Question.{Question}
use Rattle.apd_answers.specs.declared.question.Question.TheVariants as asks
use Rattle.apd_answers.specs.declared.question.Reply.{Reply}
use Rattle.apd_answers.specs.declared.question.Reply.TheVariants.{Yes, No, Values, Unknown}
use Rattle.apd_answers.specs.declared.store.Pair.{Pair}
use Rattle.apd_answers.specs.Questions.{canonical_question, body_with, with_values}
use Rattle.apd_answers.specs.Store.{Store, same_question, same_reply, is_kept_as, is_kept_in, with_pair, with_pair_in, SomePairIn, SomeTerm, TellsYes, TellsNo, TellsUncovered, TellsBelow, SaysYes, SaysNo, SaysUncovered, SaysBelow, SaysNotBelow}
use Rattle.apd_upheld.specs.Alike.{canonical_pair, PairsAreAlike, AreAlike}

-- what holds of a pair holds of each with the same canonical form
abbrev pub Respects : (Question → Reply → Type 0) → Type 0
Respects P = (x y : Question) (r : Reply) → canonical_question x ≡ canonical_question y → P x r → P y r

first_alike : (p q : Pair) (ps qs : List Pair) → map canonical_pair (p ∷ ps) ≡ map canonical_pair (q ∷ qs) → canonical_pair p ≡ canonical_pair q
first_alike p q ps qs e = ap (first_or (canonical_pair p)) e
  where
    first_or : Pair → List Pair → Pair
    first_or d [] = d
    first_or d (x ∷ xs) = x

rest_alike : (p q : Pair) (ps qs : List Pair) → map canonical_pair (p ∷ ps) ≡ map canonical_pair (q ∷ qs) → PairsAreAlike ps qs
rest_alike p q ps qs e = ap rest_of e
  where
    rest_of : List Pair → List Pair
    rest_of [] = []
    rest_of (x ∷ xs) = xs

pub some-alike : (P : Question → Reply → Type 0) → Respects P → (ps qs : List Pair) → PairsAreAlike ps qs → SomePairIn P ps → SomePairIn P qs
some-alike P h [] qs e o = absurd o
some-alike P h (p ∷ ps) [] e o = absurd (cc)
some-alike P h (p ∷ ps) (q ∷ qs) e (inl o) =
    let f = first_alike p q ps qs e in
    inl (subst (λ r. P q.question r) (ap (λ (x : Pair). x.reply) f) (h p.question q.question p.reply (ap (λ (x : Pair). x.question) f) o))
some-alike P h (p ∷ ps) (q ∷ qs) e (inr o) = inr (some-alike P h ps qs (rest_alike p q ps qs e) o)

pub some-other : (P Q : Question → Reply → Type 0) → ((x : Question) (r : Reply) → P x r → Q x r) → (ps : List Pair) → SomePairIn P ps → SomePairIn Q ps
some-other P Q h [] o = o
some-other P Q h (p ∷ ps) (inl o) = inl (h p.question p.reply o)
some-other P Q h (p ∷ ps) (inr o) = inr (some-other P Q h ps o)

some_term-other : (P Q : Term → Type 0) → ((t : Term) → P t → Q t) → (ts : List Term) → SomeTerm P ts → SomeTerm Q ts
some_term-other P Q h [] o = o
some_term-other P Q h (t ∷ ts) (inl o) = inl (h t o)
some_term-other P Q h (t ∷ ts) (inr o) = inr (some_term-other P Q h ts o)

yes_respects : (a : Term) → Respects (TellsYes a)
yes_respects a (asks.True b) (asks.True c) Yes e t = let f : canonical b ≡ canonical c = cc in IsInstance-trans a b c t (IsInstance_from_variants b c f)
yes_respects a (asks.True b) (asks.True c) No e t = t
yes_respects a (asks.True b) (asks.True c) (Values vs) e t = t
yes_respects a (asks.True b) (asks.True c) Unknown e t = t
yes_respects a (asks.True b) (asks.Covers u) r e t = absurd (cc)
yes_respects a (asks.True b) (asks.Below q p) r e t = absurd (cc)
yes_respects a (asks.Covers u) (asks.True b) r e t = absurd (cc)
yes_respects a (asks.Covers u) (asks.Covers v) Yes e t = t
yes_respects a (asks.Covers u) (asks.Covers v) No e t = t
yes_respects a (asks.Covers u) (asks.Covers v) Unknown e t = t
yes_respects a (asks.Covers u) (asks.Covers v) (Values vs) e t =
    let f : canonical_tuple u ≡ canonical_tuple v = cc in
    subst (λ (x : Tuple). SomeTerm (IsInstance a) (body_with x vs)) f t
yes_respects a (asks.Covers u) (asks.Below q p) r e t = absurd (cc)
yes_respects a (asks.Below q p) (asks.True b) r e t = absurd (cc)
yes_respects a (asks.Below q p) (asks.Covers u) r e t = absurd (cc)
yes_respects a (asks.Below q p) (asks.Below x y) r e t = t

no_respects : (a : Term) → Respects (TellsNo a)
no_respects a (asks.True b) (asks.True c) Yes e t = t
no_respects a (asks.True b) (asks.True c) No e t = let f : canonical c ≡ canonical b = cc in IsInstance-trans c b a (IsInstance_from_variants c b f) t
no_respects a (asks.True b) (asks.True c) (Values vs) e t = t
no_respects a (asks.True b) (asks.True c) Unknown e t = t
no_respects a (asks.True b) (asks.Covers u) r e t = absurd (cc)
no_respects a (asks.True b) (asks.Below q p) r e t = absurd (cc)
no_respects a (asks.Covers u) y r e t = absurd t
no_respects a (asks.Below q p) y r e t = absurd t

uncovered_respects : (t : Tuple) → Respects (TellsUncovered t)
uncovered_respects t (asks.Covers u) (asks.Covers v) Yes e h = h
uncovered_respects t (asks.Covers u) (asks.Covers v) No e h = let f : canonical_tuple v ≡ canonical_tuple u = cc in f ∙ h
uncovered_respects t (asks.Covers u) (asks.Covers v) (Values vs) e h = h
uncovered_respects t (asks.Covers u) (asks.Covers v) Unknown e h = h
uncovered_respects t (asks.Covers u) (asks.True b) r e h = absurd (cc)
uncovered_respects t (asks.Covers u) (asks.Below q p) r e h = absurd (cc)
uncovered_respects t (asks.True b) y r e h = absurd h
uncovered_respects t (asks.Below q p) y r e h = absurd h

below_respects : (said : Reply) (q p : Term) → Respects (TellsBelow said q p)
below_respects said q p (asks.Below x y) (asks.Below u v) r e h =
    let f : canonical u ≡ canonical x = cc in
    let g : canonical v ≡ canonical y = cc in
    (h.0, f ∙ h.1, g ∙ h.2)
below_respects said q p (asks.Below x y) (asks.True b) r e h = absurd (cc)
below_respects said q p (asks.Below x y) (asks.Covers u) r e h = absurd (cc)
below_respects said q p (asks.True b) y r e h = absurd h
below_respects said q p (asks.Covers u) y r e h = absurd h

module _ (a b : Store) (alike : AreAlike a b) where
  pub yes-alike : (x : Term) → SaysYes a x → SaysYes b x
  yes-alike x = some-alike (TellsYes x) (yes_respects x) a.pairs b.pairs alike.pairs

  pub no-alike : (x : Term) → SaysNo a x → SaysNo b x
  no-alike x = some-alike (TellsNo x) (no_respects x) a.pairs b.pairs alike.pairs

  pub uncovered-alike : (t : Tuple) → SaysUncovered a t → SaysUncovered b t
  uncovered-alike t = some-alike (TellsUncovered t) (uncovered_respects t) a.pairs b.pairs alike.pairs

  pub below-alike : (q p : Term) → SaysBelow a q p → SaysBelow b q p
  below-alike q p = some-alike (TellsBelow Yes q p) (below_respects Yes q p) a.pairs b.pairs alike.pairs

  pub not_below-alike : (q p : Term) → SaysNotBelow a q p → SaysNotBelow b q p
  not_below-alike q p = some-alike (TellsBelow No q p) (below_respects No q p) a.pairs b.pairs alike.pairs

-- of instances and of what has instances
pub yes-instance : (store : Store) (a b : Term) → IsInstance b a → SaysYes store a → SaysYes store b
yes-instance store a b i = some-other (TellsYes a) (TellsYes b) by store.pairs
  where
    by : (x : Question) (r : Reply) → TellsYes a x r → TellsYes b x r
    by (asks.True c) Yes t = IsInstance-trans b a c i t
    by (asks.True c) No t = t
    by (asks.True c) (Values vs) t = t
    by (asks.True c) Unknown t = t
    by (asks.Covers u) Yes t = t
    by (asks.Covers u) No t = t
    by (asks.Covers u) Unknown t = t
    by (asks.Covers u) (Values vs) t = some_term-other (IsInstance a) (IsInstance b) (λ c. IsInstance-trans b a c i) (with_values u vs) t
    by (asks.Below q p) r t = t

pub no-general : (store : Store) (a b : Term) → IsInstance a b → SaysNo store a → SaysNo store b
no-general store a b i = some-other (TellsNo a) (TellsNo b) by store.pairs
  where
    by : (x : Question) (r : Reply) → TellsNo a x r → TellsNo b x r
    by (asks.True c) Yes t = t
    by (asks.True c) No t = IsInstance-trans c a b t i
    by (asks.True c) (Values vs) t = t
    by (asks.True c) Unknown t = t
    by (asks.Covers u) r t = t
    by (asks.Below q p) r t = t

-- pairs stay alike where the same is added, in another form or not
kept-alike : (form : Question) (r : Reply) (ps qs : List Pair) → PairsAreAlike ps qs → is_kept_as ps form r ≡ is_kept_as qs form r
kept-alike form r [] [] e = refl
kept-alike form r [] (q ∷ qs) e = absurd (cc)
kept-alike form r (p ∷ ps) [] e = absurd (cc)
kept-alike form r (p ∷ ps) (q ∷ qs) e =
    ap (λ (x : Pair). (same_question x.question form && same_reply x.reply r) || is_kept_as ps form r) (first_alike p q ps qs e)
    ∙ ap (λ b. (same_question (canonical_question q.question) form && same_reply q.reply r) || b) (kept-alike form r ps qs (rest_alike p q ps qs e))

pairs-added : (ps qs : List Pair) (x y : Question) (r : Reply) → PairsAreAlike ps qs → canonical_question x ≡ canonical_question y → PairsAreAlike (with_pair_in ps x r) (with_pair_in qs y r)
pairs-added ps qs x y r e f = by (is_kept_in ps x r) (is_kept_in qs y r) same
  where
    same : is_kept_in ps x r ≡ is_kept_in qs y r
    same = kept-alike (canonical_question x) r ps qs e ∙ ap (λ form. is_kept_as qs form r) f

    one : canonical_pair (record { question = x; reply = r }) ≡ canonical_pair (record { question = y; reply = r })
    one = ap (λ (q : Question). record { question = q; reply = r }) f

    by : (b c : Bool) → b ≡ c → PairsAreAlike (if b then ps else ps ++ record { question = x; reply = r } ∷ []) (if c then qs else qs ++ record { question = y; reply = r } ∷ [])
    by true true h = e
    by true false h = absurd (cc)
    by false true h = absurd (cc)
    by false false h =
        map-append canonical_pair ps (record { question = x; reply = r } ∷ []) ∙ ap (λ zs. zs ++ canonical_pair (record { question = x; reply = r }) ∷ []) e
        ∙ ap (λ z. map canonical_pair qs ++ z ∷ []) one ∙ sym (map-append canonical_pair qs (record { question = y; reply = r } ∷ []))

pub added-alike : (a b : Store) (x y : Question) (r : Reply) → AreAlike a b → canonical_question x ≡ canonical_question y → AreAlike (with_pair a x r) (with_pair b y r)
added-alike a b x y r e f = record { pairs = pairs-added a.pairs b.pairs x y r e.pairs f; trust = e.trust }
